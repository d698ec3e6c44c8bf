-- `counts::mark_jobs` meets its contract. The loop's invariant: the numbers of the jobs before `i` are marked. Assumes nothing.
use Prim.Native.Nat.{◌%◌}
use mathlib.Core.Path.{◌≡◌}
use lib.ListN.{length}
use Rattle.placing.specs.method.Jobs.{job_number}
use Rattle.placing.specs.method.Counts.{MarkedBeside}
use Rattle.placing.proofs.counts.mark_jobs.Given as goal

abbrev pub invariant-loop-i : goal.invariant-loop-i
invariant-loop-i l = (length l.initial.used ≡ 256 → MarkedBeside (λ j. job_number l.call.jobs j % 256) l.initial.used l.i l.used)
