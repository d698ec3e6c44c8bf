-- `search::empty::found_in` meets its contract: the mask is that of the cells passed, and of the
-- first bridges in the end; of these the held ones are counted. Assumes nothing.
use Prim.Native.Nat.{◌≤◌, min}
use mathlib.Core.Path.{◌≡◌}
use Rattle.placing.specs.method.Search.{empty_mask, held_from}
use Rattle.placing.proofs.search.empty.found_in.Given as goal

abbrev pub invariant-loop-b : goal.invariant-loop-b
invariant-loop-b l = (l.mask ≡ empty_mask l.grid.cells.now l.from l.b) × (l.held ≤ l.b) × (l.held ≡ held_from l.grid.cells.now l.from (min l.b l.grid.bridges))
