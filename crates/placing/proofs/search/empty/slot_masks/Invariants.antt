-- `search::empty::slot_masks` meets its contract: the slots passed are filled in, and those up to
-- the clock have nothing. Assumes nothing.
use Prim.Native.Nat.{◌*◌, ◌-◌, min}
use mathlib.Core.Path.{◌≡◌}
use lib.ListN.{length, replicate}
use Rattle.laws.proofs.Stores.{Stored}
use Rattle.placing.specs.method.Search.{first_slot, held_from, slot_mask}
use Rattle.placing.proofs.search.empty.slot_masks.Given as goal

abbrev pub invariant-loop-s : goal.invariant-loop-s
invariant-loop-s l = (length l.out ≡ 64)
    × Stored (replicate 64 0) (slot_mask l.grid.cells.now l.grid.bridges l.clock) 0 (min l.s l.grid.slots) l.out
    × Stored l.initial.spare (λ q. l.grid.fed - held_from l.grid.cells.now (q * l.grid.bridges) l.grid.bridges) (min (first_slot l.clock) l.grid.slots) (min l.s l.grid.slots) l.spare
