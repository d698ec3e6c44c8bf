-- `listing::bytes::slot_cells` meets its contract. The invariant: the cells from bridge b on are
-- left. Assumes nothing.
use Prim.Native.Nat.{◌-◌}
use Rattle.station.specs.Wrote.{Rest}
use Rattle.frame.specs.Listing.{cell_texts}
use Rattle.frame.specs.method.SlotLines.{of_bridges}
use Rattle.frame.proofs.listing.bytes.slot_cells.Given as goal

abbrev pub invariant-loop-b : goal.invariant-loop-b
invariant-loop-b l =
    Rest l.initial.out (cell_texts (of_bridges l.bridges) l.table l.slot 0 l.bridges) l.out (cell_texts (of_bridges l.bridges) l.table l.slot l.b (l.bridges - l.b))
