-- `capacities::slot_counts` meets its contract: the slots passed are filled in and entered. Assumes nothing.
use Prim.Native.Nat.{ℕ, min}
use mathlib.Core.Path.{◌≡◌}
use mathlib.Core.List.{List}
use lib.ListN.{length, get_or, replicate}
use lib.Count.{ones}
use Rattle.laws.specs.method.Capacities.{AtLeast}
use Rattle.laws.proofs.Stores.{Stored}
use Rattle.placing.proofs.capacities.slot_counts.Given as goal

-- the free number of a slot, by its mask and its room
abbrev pub number_at : List ℕ → List ℕ → ℕ → ℕ
number_at masks spare s = min (ones (get_or masks s 0)) (get_or spare s 0)

abbrev pub invariant-loop-s : goal.invariant-loop-s
invariant-loop-s l = (length l.out ≡ 64) × Stored (replicate 64 0) (number_at l.masks l.spare) 0 l.s l.out × AtLeast l.entries l.s (number_at l.masks l.spare)
