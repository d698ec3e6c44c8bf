-- `read_row_lines` meets its contract. The invariant is `AtRow`: the rows that are left, read from the masks found so far on, are the reading of the text. The measure is
-- what is left of the text.
-- Assumes nothing.
use Prim.Native.Nat.{◌-◌}
use lib.ListN.{length}
use Rattle.station.proofs.rows.RowLoop.{AtRow}
use Rattle.station.proofs.rows.read_row_lines.Given as goal

abbrev pub invariant-loop-at : goal.invariant-loop-at
invariant-loop-at l = AtRow l.text l.head l.busy l.at l.rows

abbrev pub decreases-loop-at : goal.decreases-loop-at
decreases-loop-at l = length l.text - l.at
