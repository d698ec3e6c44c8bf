-- `counts::mark_presets` meets its contract. The loop's invariant: the presets passed are marked. Assumes nothing.
use native.Mathlib.Omega.{arith}
use Rattle.placing.proofs.counts.MarkedNumbers.{beside_none, beside_more}
use Rattle.placing.proofs.counts.mark_presets.Goals as goal

pub loop-preset-init : goal.loop-preset-init
loop-preset-init c = beside_none _ _ c.requires

pub loop-preset-preserved : goal.loop-preset-preserved
loop-preset-preserved c = let l = c.loop-preset in beside_more _ l.invariant (omega arith) c.from.ensures
