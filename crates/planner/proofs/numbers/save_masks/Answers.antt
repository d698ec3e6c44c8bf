-- `numbers::save_masks` meets its contract. The invariant: the masks that are left, written to their places, make what is to be written in all. Assumes nothing.
use Prim.Native.Nat.{◌+◌}
use native.Mathlib.Omega.{arith}
use mathlib.Core.Path.{refl, ◌∙◌, ap}
use lib.ListN.{length, length-set}
use Rattle.planner.proofs.Steps.{number_more, numbers_all}
use Rattle.planner.proofs.numbers.save_masks.Goals as goal

pub loop-b-init : goal.loop-b-init
loop-b-init c = (omega arith, refl, refl)

pub loop-b-preserved : goal.loop-b-preserved
loop-b-preserved c = let l = c.loop-b in (
  omega arith,
  ap length c.set_value.ensures ∙ length-set l.frame (4 + l.b) _ ∙ l.invariant.1,
  number_more c.args.busy l.frame l.b (4 + l.b) (4 + (l.b + 1)) (omega arith) (omega (arith, c.well_formed.0)) c.set_value.ensures ∙ l.invariant.2,
)

pub shape_of-frame : goal.shape_of-frame
shape_of-frame c = c.loop-b.invariant.1

pub returns : goal.returns
returns c = let l = c.loop-b in
    numbers_all c.args.busy l.frame l.b (4 + l.b) (omega (arith, c.well_formed.0)) l.invariant.2
