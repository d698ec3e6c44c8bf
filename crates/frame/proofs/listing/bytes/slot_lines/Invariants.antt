-- `listing::bytes::slot_lines` meets its contract. The invariant: the lines of the slots from s on
-- are left. Assumes nothing.
use Prim.Native.Nat.{◌-◌}
use Rattle.station.specs.Wrote.{Rest}
use Rattle.frame.specs.Listing.{slot_lines}
use Rattle.frame.specs.method.SlotLines.{of_bridges}
use Rattle.frame.proofs.listing.bytes.slot_lines.Given as goal

abbrev pub invariant-loop-s : goal.invariant-loop-s
invariant-loop-s l =
    Rest l.initial.out (slot_lines (of_bridges l.bridges) l.table 0 l.slots) l.out (slot_lines (of_bridges l.bridges) l.table l.s (l.slots - l.s))
