-- `cause::jobs_used` meets its contract. The loop's invariant: the jobs before `i` have new numbers. Assumes nothing.
use mathlib.Core.Bool.{true}
use mathlib.Core.Path.{◌≡◌}
use Rattle.laws.specs.Sums.{every}
use Rattle.placing.specs.method.Jobs.{job_new}
use Rattle.placing.proofs.counts.causes.jobs_used.Given as goal

abbrev pub invariant-loop-i : goal.invariant-loop-i
invariant-loop-i l = every l.i (job_new l.used l.call.jobs) ≡ true
