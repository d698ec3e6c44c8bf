-- The lines of slots as the code writes them: from the number of bridges and the table, whatever
-- they are. Document 01, "One listing, whole".
-- Assumes nothing.
use Rattle.std.specs.Prelude.{ℕ, false, cond, ◌&&◌, List, [], ltb, leb}
use Rattle.station.specs.Limits.{most_slots, most_bridges}
use Rattle.station.specs.Head.{Head}
use Rattle.frame.specs.Listing.{slot_line, slot_lines}

-- a head of which only the number of bridges counts, as it does in a slot's line
abbrev pub of_bridges : ℕ → Head
of_bridges n = record { slots = 0; bridges = n; supply = 0; hold = false; busy = []; presets = [] }

-- the line of slot s, counted from 0; no byte for a slot or a number of bridges that no frame has
unfoldable pub line_of_slot : ℕ → List ℕ → ℕ → List ℕ
line_of_slot n t s = cond (ltb s most_slots && leb n most_bridges) (slot_line (of_bridges n) t s) []

-- the lines of k slots; no byte for a number of slots or bridges that no frame has
unfoldable pub lines_of_slots : ℕ → ℕ → List ℕ → List ℕ
lines_of_slots k n t = cond (leb k most_slots && leb n most_bridges) (slot_lines (of_bridges n) t 0 k) []
