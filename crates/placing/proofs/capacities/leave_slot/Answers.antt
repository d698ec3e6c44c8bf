-- `capacities::leave_slot` meets its contract. Assumes nothing.
use native.Mathlib.Omega.{arith}
use mathlib.Core.Path.{ap}
use lib.ListN.{length-set}
use Rattle.laws.specs.Sums.{bit}
use Rattle.laws.proofs.Comparisons.{ltb_yes, ltb_no}
use Rattle.laws.proofs.Stores.{stored_none, stored_more, stored_kept}
use Rattle.placing.proofs.capacities.leave_slot.Goals as goal
use Rattle.placing.proofs.capacities.leave_slot.Goals.{then-r-free, else-r-free}

pub loop-r-init : goal.loop-r-init
loop-r-init c = (omega arith, stored_none c.args.entries.now _ 0)

pub loop-r-preserved : goal.loop-r-preserved
loop-r-preserved c = let l = c.loop-r in
    let free = c.args.free in
    let here = l.invariant.1.rest l.r (omega arith) in
    elim c.if-r-free.branch [
      | then-r-free w ↦ (rw w.entries-is (simp length-set l.invariant.0), rw w.entries-is (stored_more l.invariant.1 (omega arith) (omega (arith, l.invariant.0)) (omega (arith, here, w.saturating_sub.ensures, ap bit (ltb_yes l.r free w.if-r-free.true)))))
      | else-r-free w ↦ (rw w.entries-is l.invariant.0, rw w.entries-is (stored_kept l.invariant.1 (omega (arith, here, ap bit (ltb_no l.r free w.if-r-free.false)))))
    ]

pub returns : goal.returns
returns c = let l = c.loop-r in (omega (arith, l.invariant.0), λ long q low. l.invariant.1.done q (omega arith) (omega arith))
