-- `check::table::job_count` meets its contract. The loop's invariant: `jobs` of the numbers below `n` have a call cell. Assumes nothing.
use Prim.Native.Nat.{◌≤◌}
use mathlib.Core.Path.{◌≡◌}
use Rattle.laws.specs.Sums.{count}
use Rattle.placing.specs.method.Check.{has_call}
use Rattle.placing.proofs.check.table.job_count.Given as goal

abbrev pub invariant-loop-n : goal.invariant-loop-n
invariant-loop-n l = (l.jobs ≤ l.n) × (l.jobs ≡ count l.n (has_call l.counts))
