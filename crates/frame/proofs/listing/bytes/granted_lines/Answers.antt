-- `listing::bytes::granted_lines` meets its contract. Assumes nothing.
use Prim.Native.Nat.{ℕ, suc, ◌≤◌, min}
use native.Mathlib.Numerals.{add-one}
use native.Mathlib.Omega.{arith}
use mathlib.Core.Path.{◌≡◌, sym, ◌∙◌, ap}
use mathlib.Core.List.{map}
use lib.ListN.{length, take, drop, get_or}
use lib.Seq.{drop-length, length-take-le}
use Rattle.std.proofs.lemmas.List.{take_min}
use Rattle.laws.specs.Lists.{at}
use Rattle.station.specs.Types.{preset_in, no_record}
use Rattle.station.proofs.Theorems.{rest_wrote, rest_none}
use Rattle.frame.specs.Listing.{granted_line, granted_lines}
use Rattle.frame.proofs.listing.bytes.SlotLines.{granted_step}
use Rattle.frame.proofs.listing.bytes.granted_lines.Goals as goal

pub loop-i-preserved : goal.loop-i-preserved
loop-i-preserved c = let loop = c.loop-i in
    let a = c.args in
    let end = c.min-i-end.result in
    let long : length a.presets ≡ 32 = omega arith in
    let few : end ≤ length a.presets = omega (arith, c.min-i-end.ensures) in
    rw add-one
    (rest_wrote (granted_line (get_or a.presets loop.i no_record).number (at a.grants loop.i)) (granted_lines a.grants (suc loop.i) (map preset_in (drop (suc loop.i) (take end a.presets))))
    (rw (granted_step a.grants loop.i end a.presets c.loop-i-test.true few) at loop.invariant)
    (rw (c.from-number.ensures, c.from.ensures) at c.granted_line.ensures))

pub returns : goal.returns
unfolding granted_lines
returns c = let loop = c.loop-i in
    let a = c.args in
    let long : length a.presets ≡ 32 = omega arith in
    let end = c.min-i-end.result in
    let all : take end a.presets ≡ take a.count a.presets =
    ap (λ (n : ℕ). take n a.presets) (c.min-i-end.ensures ∙ ap (min a.count) (sym long)) ∙ take_min a.count a.presets in
    let last : loop.i ≡ length (take end a.presets) = omega (arith, length-take-le end a.presets, c.min-i-end.ensures) in
    rw all at (rest_none (rw (last, drop-length (take end a.presets)) at loop.invariant))
