-- Past 64 slots every mask will do; else nothing is left of it once it is shifted.
use Prim.Native.Nat.{◌^◌, ◌≤◌}
use native.Mathlib.Omega.{arith}
use mathlib.Core.Path.{sym, ◌∙◌}
use lib.Pow.{pow_mono}
use Rattle.laws.proofs.Comparisons.{leb_yes, ltb_yes}
use Rattle.station.proofs.check.ValidRecord.{shifted_out}
use Rattle.station.proofs.check.mask_below.Goals as goal

pub returns-then-slots-ge-MOST_SLOTS : goal.returns-then-slots-ge-MOST_SLOTS
returns-then-slots-ge-MOST_SLOTS c = let a = c.args in
    let top : 2 ^ 64 ≤ 2 ^ a.slots = pow_mono c.if-slots-ge-MOST_SLOTS.true in
    leb_yes 64 a.slots c.if-slots-ge-MOST_SLOTS.true ∙ sym (ltb_yes a.mask (2 ^ a.slots) (omega arith))

pub returns-else-slots-ge-MOST_SLOTS : goal.returns-else-slots-ge-MOST_SLOTS
returns-else-slots-ge-MOST_SLOTS c = shifted_out c.args.mask c.args.slots
