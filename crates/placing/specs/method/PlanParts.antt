-- What the parts of a plan's code are held to: a table made busy from its start.
-- Assumes nothing.
use Rattle.std.specs.Prelude.{ℕ, zero, suc, List, set}
use Rattle.placing.specs.Table.{busy_cell}

-- a table whose first n cells were made busy, one after the other
unfoldable pub busy_to : List ℕ → ℕ → List ℕ
busy_to t zero = t
busy_to t (suc n) = set (busy_to t n) n busy_cell
