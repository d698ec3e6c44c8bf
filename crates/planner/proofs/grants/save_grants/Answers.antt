-- `grants::save_grants` meets its contract. The invariant: the grants that are left, written to their places, make what is to be written in all. Assumes nothing.
use Prim.Native.Nat.{◌+◌}
use native.Mathlib.Omega.{arith}
use mathlib.Core.Path.{refl, ◌∙◌, ap}
use lib.ListN.{length, length-set}
use Rattle.planner.proofs.Steps.{number_more, numbers_all}
use Rattle.planner.proofs.grants.save_grants.Goals as goal

pub loop-i-init : goal.loop-i-init
loop-i-init c = (omega arith, refl, refl)

pub loop-i-preserved : goal.loop-i-preserved
loop-i-preserved c = let l = c.loop-i in (
  omega arith,
  ap length c.set_value.ensures ∙ length-set l.grants l.i _ ∙ l.invariant.1,
  number_more c.args.granted l.grants l.i l.i (l.i + 1) (omega arith) (omega (arith, c.well_formed.0)) c.set_value.ensures ∙ l.invariant.2,
)

pub shape_of-grants : goal.shape_of-grants
shape_of-grants c = c.loop-i.invariant.1

pub returns : goal.returns
returns c = let l = c.loop-i in
    numbers_all c.args.granted l.grants l.i l.i (omega (arith, c.well_formed.0)) l.invariant.2
