-- Jobs with windows, computed: a case of three jobs and three slots, by the definitions alone.
--
-- In order: the case; its excess with other numbers of free cells; its first placement; a placement that lacks a cell, and what is reached from
-- the job that lacks it.
-- Assumes nothing.
use Prim.Native.Nat.{ℕ}
use mathlib.Core.Path.{◌≡◌, refl}
use mathlib.Core.Bool.{Bool, true, false, ◌&&◌, ◌||◌}
use mathlib.Core.List.{List, [], ◌∷◌}
use lib.Dec.{leb, eqb}
use Rattle.laws.specs.Sums.{sum}
use Rattle.laws.specs.Lists.{at}
use Rattle.laws.specs.GreatestSet.{greatest_set}
use Rattle.laws.specs.Windows.{window_excess, after_pair, after_slots, after_jobs, first_placement, wanted_by, reached_in}

-- Job 0 needs slot 0 or slot 1, job 1 needs both, job 2 needs slot 1 or slot 2.
abbrev needs : ℕ → ℕ
needs = at (1 ∷ 2 ∷ 1 ∷ [])

abbrev may : ℕ → ℕ → Bool
may i s = leb (at (0 ∷ 0 ∷ 1 ∷ []) i) s && leb s (at (1 ∷ 1 ∷ 2 ∷ []) i)

-- the values at 0, 1 and 2
abbrev three : {A : Type 0} → (ℕ → A) → List A
three f = f 0 ∷ f 1 ∷ f 2 ∷ []

-- With two cells in slot 1 they fit. With one cell in each slot one is short, and a further cell in slot 2 does not help.
excess_none : window_excess 3 needs 3 (at (1 ∷ 2 ∷ 1 ∷ [])) may ≡ 0
unfolding window_excess greatest_set sum
excess_none = refl

excess_one : window_excess 3 needs 3 (at (1 ∷ 1 ∷ 1 ∷ [])) may ≡ 1
unfolding window_excess greatest_set sum
excess_one = refl

excess_still : window_excess 3 needs 3 (at (1 ∷ 1 ∷ 2 ∷ [])) may ≡ 1
unfolding window_excess greatest_set sum
excess_still = refl

-- Job 0 leaves slot 0 to job 1, which has no other choice, and takes slot 1; so job 2 has slot 2.
first_placement_lem : three (λ i. three (first_placement 3 needs 3 (at (1 ∷ 2 ∷ 1 ∷ [])) may i))
    ≡ (false ∷ true ∷ false ∷ []) ∷ (true ∷ true ∷ false ∷ []) ∷ (false ∷ false ∷ true ∷ []) ∷ []
unfolding window_excess greatest_set sum after_pair after_slots after_jobs
first_placement_lem = refl

-- With one cell in each slot, and job 0 without one: it may use slots 0 and 1, job 1 has both and may use no other. Slot 2 is not reached.
abbrev partly : ℕ → ℕ → Bool
partly i s = (eqb i 1 && leb s 1) || (eqb i 2 && eqb s 2)

reached_two : three (wanted_by 3 may partly (reached_in 3 needs 3 may partly 3)) ≡ true ∷ true ∷ false ∷ []
unfolding reached_in sum
reached_two = refl
