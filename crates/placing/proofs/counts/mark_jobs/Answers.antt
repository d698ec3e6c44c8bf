-- `counts::mark_jobs` meets its contract. The loop's invariant: the numbers of the jobs before `i` are marked. Assumes nothing.
use native.Mathlib.Omega.{arith}
use Rattle.placing.proofs.counts.MarkedNumbers.{beside_none, beside_more}
use Rattle.placing.proofs.counts.mark_jobs.Goals as goal

pub loop-i-init : goal.loop-i-init
loop-i-init c = λ long. beside_none _ _ long

pub loop-i-preserved : goal.loop-i-preserved
loop-i-preserved c = let l = c.loop-i in λ long. beside_more _ (l.invariant long) (omega arith) c.from.ensures
