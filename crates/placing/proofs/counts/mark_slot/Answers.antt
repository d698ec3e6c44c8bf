-- `counts::mark_slot` meets its contract. The loop's invariant: the cells before `b` are marked and counted. Assumes nothing.
use native.Mathlib.Omega.{arith}
use Prim.Native.Nat.{◌+◌}
use mathlib.Core.Path.{refl}
use Rattle.placing.proofs.OneBit.{one_bit}
use Rattle.placing.proofs.counts.MarkedNumbers.{marked_more}
use Rattle.placing.proofs.counts.mark_slot.Goals as goal

pub loop-b-preserved : goal.loop-b-preserved
loop-b-preserved c = let l = c.loop-b in
    let a = c.args in
    let one = one_bit _ c.mark.result c.from-jobs.ensures refl in
    (marked_more (c.start-from.result + (l.b + 1)) l.invariant.0 refl c.mark.ensures (omega arith), omega (arith, l.invariant.1, one.0, c.mark.ensures.more), omega (arith, l.invariant.2, one.1))
