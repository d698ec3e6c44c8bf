-- Rows of a text all together, as the laws take them: up to the first without its form (`to_fault`), and the masks that they leave (`rows_busy`). The reading goes row by row
-- (`read_rows`); RowsMeaning brings both together.
-- Assumes nothing.
use Prim.Native.Nat.{ℕ}
use mathlib.Core.Option.{Option, none, some}
use mathlib.Core.List.{List, [], ◌∷◌}
use lib.ListN.{replicate}
use Rattle.station.specs.Limits.{most_bridges}
use Rattle.station.specs.Row.{Row, with_row}

-- "the first row at fault decides": the rows up to the first that has no row's form, that one included
unfoldable pub to_fault : List (Option Row) → List (Option Row)
to_fault [] = []
to_fault (none ∷ rs) = none ∷ []
to_fault (some x ∷ rs) = some x ∷ to_fault rs

-- the masks after some rows more
unfoldable pub busy_with : List ℕ → List Row → List ℕ
busy_with ms [] = ms
busy_with ms (x ∷ xs) = busy_with (with_row ms x) xs

-- "in place of the head's busy lines": the rows start from no busy cell
unfoldable pub rows_busy : List Row → List ℕ
rows_busy xs = busy_with (replicate most_bridges 0) xs
