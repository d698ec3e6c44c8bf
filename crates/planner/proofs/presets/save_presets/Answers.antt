-- `presets::save_presets` meets its contract. The invariant: the records that are left, written over the bytes, make what is to be written in all. Assumes nothing.
use Prim.Native.Nat.{◌*◌}
use native.Mathlib.Omega.{arith}
use mathlib.Core.Path.{refl, ◌∙◌, ap}
use mathlib.Core.List.{[], ◌∷◌}
use lib.ListN.{length, get_or}
use Rattle.station.specs.Types.{no_record}
use Rattle.planner.specs.Layout.{bytes_of}
use Rattle.planner.proofs.Steps.{write_more, written_all}
use lib.Seq.{length-sets}
use Rattle.planner.proofs.presets.save_presets.Goals as goal

pub loop-i-init : goal.loop-i-init
loop-i-init c = (omega arith, refl, refl)

pub loop-i-preserved : goal.loop-i-preserved
loop-i-preserved c = let l = c.loop-i in (
  omega arith,
  ap length c.set_preset.ensures ∙ length-sets l.presets (4 * l.i) (bytes_of (get_or c.args.copied l.i no_record ∷ [])) ∙ l.invariant.1,
  write_more c.args.copied l.presets l.i (omega (arith, c.well_formed.0)) refl c.set_preset.ensures ∙ l.invariant.2,
)

pub shape_of-presets : goal.shape_of-presets
shape_of-presets c = c.loop-i.invariant.1

pub returns : goal.returns
returns c = let l = c.loop-i in
    written_all c.args.copied l.presets l.i (omega (arith, c.well_formed.0)) l.invariant.2
