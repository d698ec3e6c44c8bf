-- `counts::usable::usable_in` meets its contract. The loop's invariant: the cells before `b` that are within the slot are counted. Assumes nothing.
use Prim.Native.Nat.{ℕ, ◌+◌, ◌≤◌, min}
use mathlib.Core.Path.{◌≡◌}
use mathlib.Core.Bool.{Bool}
use mathlib.Core.List.{List}
use lib.ListN.{get_or}
use Rattle.laws.specs.Sums.{count}
use Rattle.placing.specs.method.Counts.{free_cell, staying_cell}
use Rattle.placing.proofs.counts.usable.usable_in.Given as goal

-- a test of the cells from a place on
abbrev pub along : (ℕ → Bool) → List ℕ → ℕ → ℕ → Bool
along p table from b = p (get_or table (from + b) 0)

abbrev pub invariant-loop-b : goal.invariant-loop-b
invariant-loop-b l = (l.free ≤ l.b) × (l.free ≡ count (min l.b l.grid.bridges) (along free_cell l.grid.cells.now l.from)) × (l.staying ≤ l.b) × (l.staying ≡ count (min l.b l.grid.bridges) (along staying_cell l.grid.cells.now l.from))
