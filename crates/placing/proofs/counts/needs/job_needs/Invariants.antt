-- `counts::needs::job_needs` meets its contract. The loop's invariant: the records before `i` have theirs. Assumes nothing.
use Prim.Native.Nat.{◌%◌}
use mathlib.Core.Path.{◌≡◌}
use lib.ListN.{length, replicate}
use Rattle.laws.proofs.Stores.{Stored}
use Rattle.placing.specs.method.Jobs.{job_record}
use Rattle.placing.proofs.counts.needs.job_needs.Given as goal

abbrev pub invariant-loop-i : goal.invariant-loop-i
invariant-loop-i l = (length l.all ≡ 64) × Stored (replicate 64 0) (λ j. (job_record l.jobs j).slots % 256) 0 l.i l.all
