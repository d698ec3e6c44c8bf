-- What the cells of a frame within the limits are made of.
-- Assumes nothing.
use Rattle.std.specs.Prelude.{ℕ, ◌≡◌, false, List, length, Option, Some, None}
use Rattle.station.specs.declared.types.Head as record-of-head
use Rattle.placing.specs.declared.grid.Grid.{Grid}
use Rattle.placing.specs.method.Limits.{sizes_in_limits, motors_in}

-- a table with the frame of a head record
pub record GridOf (head : record-of-head.Head) (t : List ℕ) (g : Grid) : Type 0 where
  pub cells : g.cells.now ≡ t
  pub slots : g.slots ≡ head.slots
  pub bridges : g.bridges ≡ head.bridges
  pub fed : g.fed ≡ motors_in head

-- where they are within the limits
abbrev pub GridFor : record-of-head.Head → List ℕ → Option Grid → Type 0
GridFor head t (Some g) = GridOf head t g
GridFor head t None = sizes_in_limits head.slots head.bridges 0 (length t) ≡ false
