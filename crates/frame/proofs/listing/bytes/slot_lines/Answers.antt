-- `listing::bytes::slot_lines` meets its contract. Assumes nothing.
use Prim.Native.Nat.{suc, ◌-◌, ◌≤◌, ◌<◌}
use native.Mathlib.Numerals.{add-one}
use native.Mathlib.Omega.{arith}
use mathlib.Core.Path.{◌≡◌}
use Rattle.station.proofs.Theorems.{rest_wrote, rest_none, writes_none}
use Rattle.frame.specs.Listing.{slot_line, slot_lines}
use Rattle.frame.specs.method.SlotLines.{of_bridges}
use Rattle.frame.proofs.listing.bytes.SlotLines.{line_of_slot_lem, slot_lines_step, lines_of_slots_lem, no_lines}
use Rattle.frame.proofs.listing.bytes.slot_lines.Goals as goal

pub loop-s-preserved : goal.loop-s-preserved
loop-s-preserved c = let loop = c.loop-s in
    let a = c.args in
    let h = of_bridges a.bridges in
    let t = a.table.now in
    let low : loop.s < 64 = omega arith in
    let few : a.bridges ≤ 8 = omega arith in
    rw add-one
    (rest_wrote (slot_line h t loop.s) (slot_lines h t (suc loop.s) (a.slots - suc loop.s))
    (rw (slot_lines_step h t loop.s a.slots c.loop-s-test.true) at loop.invariant) (rw (line_of_slot_lem a.bridges t loop.s low few) at c.slot_line.ensures))

pub returns-then-slots-gt-MOST_SLOTS : goal.returns-then-slots-gt-MOST_SLOTS
returns-then-slots-gt-MOST_SLOTS c = let a = c.args in rw (no_lines a.slots a.bridges a.table.now c.then-slots-gt-MOST_SLOTS.either) (writes_none a.out.now)

pub returns : goal.returns
unfolding slot_lines
returns c = let loop = c.loop-s in
    let a = c.args in
    let none-left : a.slots - loop.s ≡ 0 = omega arith in
    rw (lines_of_slots_lem a.slots a.bridges a.table.now c.if-slots-gt-MOST_SLOTS.false c.if-bridges-gt-MOST_BRIDGES.false) (rest_none (rw none-left at loop.invariant))
