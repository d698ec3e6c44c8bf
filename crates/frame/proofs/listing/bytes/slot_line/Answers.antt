-- `listing::bytes::slot_line` meets its contract. Assumes nothing.
use native.Mathlib.Numerals.{add-one}
use Rattle.station.specs.Text.{bytes}
use Rattle.station.proofs.Theorems.{rest_then, writes_none, writes_then}
use Rattle.frame.specs.Listing.{slot_line, cell_texts}
use Rattle.frame.specs.method.SlotLines.{of_bridges}
use Rattle.frame.proofs.listing.bytes.SlotLines.{line_of_slot_lem, no_line}
use Rattle.frame.proofs.listing.bytes.slot_line.Goals as goal

pub returns-then-slot-ge-MOST_SLOTS : goal.returns-then-slot-ge-MOST_SLOTS
returns-then-slot-ge-MOST_SLOTS c = let a = c.args in rw (no_line a.bridges a.table.now a.slot c.then-slot-ge-MOST_SLOTS.either) (writes_none a.out.now)

pub returns : goal.returns
unfolding slot_line bytes
returns c = let a = c.args in
    rw (line_of_slot_lem a.bridges a.table.now a.slot c.if-slot-ge-MOST_SLOTS.false c.if-bridges-gt-MOST_BRIDGES.false)
    (writes_then c.word.ensures (writes_then (rw add-one at c.number.ensures) (rest_then {all = cell_texts (of_bridges a.bridges) a.table.now a.slot 0 a.bridges} c.slot_cells.ensures c.word-2.ensures)))
