-- The table of how many slots have at least so many free bridges, computed: a cell that helps and one that does not, a full slot, and more needs than bridges.
-- Assumes nothing.
use Prim.Native.Nat.{ℕ}
use native.Mathlib.Omega.{arith}
use mathlib.Core.Path.{◌≡◌, refl}
use mathlib.Core.List.{List, [], ◌∷◌}
use Rattle.laws.specs.Sums.{sum, greatest}
use Rattle.laws.specs.Lists.{at, tabulate}
use Rattle.laws.specs.Eviction.{put}
use Rattle.laws.specs.method.Capacities.{AtLeast, capacity_from, excess_over}
use Rattle.laws.proofs.Capacities.{at_least_of, at_least_le, trial_table, capacity_past}

-- Four slots with 3, 1, 1 and 1 free bridges ..
abbrev four : ℕ → ℕ
four = at (3 ∷ 1 ∷ 1 ∷ 1 ∷ [])

-- .. all have one, one has two, and one three: the capacities for 1, 2 and 3 are 4, 5 and 6 ..
table : List ℕ
table = 4 ∷ 1 ∷ 1 ∷ 0 ∷ 0 ∷ 0 ∷ 0 ∷ 0 ∷ []

has_table : AtLeast table 4 four
unfolding table sum tabulate
has_table = at_least_of 4 four

capacities : (capacity_from table 1 ≡ 4) × (capacity_from table 2 ≡ 5) × (capacity_from table 3 ≡ 6)
unfolding table sum
capacities = (refl, refl, refl)

-- .. so that two jobs of three slots each lack one cell.
abbrev lacking : List ℕ → ℕ
lacking l = excess_over (at (0 ∷ 3 ∷ 6 ∷ 6 ∷ 6 ∷ 6 ∷ 6 ∷ 6 ∷ 6 ∷ [])) 6 (capacity_from l)

lacks_one : lacking table ≡ 1
unfolding table sum greatest
lacks_one = refl

-- One bridge more in the second slot: it has two, the capacity for 2 is 6, and they fit.
helps : AtLeast (4 ∷ 2 ∷ 1 ∷ 0 ∷ 0 ∷ 0 ∷ 0 ∷ 0 ∷ []) 4 (put four 1) × (lacking (4 ∷ 2 ∷ 1 ∷ 0 ∷ 0 ∷ 0 ∷ 0 ∷ 0 ∷ []) ≡ 0)
unfolding table sum greatest
helps = (trial_table has_table 1 (omega arith) (omega arith), refl)

-- One more in the first slot: it has four, and the jobs lack as much as before.
no_help : AtLeast (4 ∷ 1 ∷ 1 ∷ 1 ∷ 0 ∷ 0 ∷ 0 ∷ 0 ∷ []) 4 (put four 0) × (lacking (4 ∷ 1 ∷ 1 ∷ 1 ∷ 0 ∷ 0 ∷ 0 ∷ 0 ∷ []) ≡ 1)
unfolding table sum greatest
no_help = (trial_table has_table 0 (omega arith) (omega arith), refl)

-- No four slots have a first entry of five: a cell entered there would be capacity that is not there.
no_five : (x : ℕ → ℕ) (l : List ℕ) → AtLeast (5 ∷ l) 4 x → ⊥
no_five x l a = absurd (omega (arith, at_least_le a 0 (omega arith)))

-- A slot with eight free bridges is in every entry, and one that may not be used, with none, in no entry.
full : AtLeast (1 ∷ 1 ∷ 1 ∷ 1 ∷ 1 ∷ 1 ∷ 1 ∷ 1 ∷ []) 2 (at (0 ∷ 8 ∷ []))
unfolding sum tabulate
full = at_least_of 2 (at (0 ∷ 8 ∷ []))

-- For nine jobs it has what it has for eight, and nine jobs of one slot lack one cell: all together are held against the capacity for eight.
nine : (capacity_from (1 ∷ 1 ∷ 1 ∷ 1 ∷ 1 ∷ 1 ∷ 1 ∷ 1 ∷ []) 9 ≡ 8) × (excess_over (λ r. r) 9 (capacity_from (1 ∷ 1 ∷ 1 ∷ 1 ∷ 1 ∷ 1 ∷ 1 ∷ 1 ∷ [])) ≡ 1)
unfolding sum greatest
nine = (capacity_past full 9 (omega arith), refl)
