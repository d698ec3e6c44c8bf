-- The two orders of ties, computed: who gets the free cells of the first slots, by the definitions alone.
--
-- In order: one free cell in each slot, by both orders; the same with a slot that has none, after which nobody holds; four jobs, two at a time; a job that stands in a slot already.
-- Assumes nothing.
use Prim.Native.Nat.{ℕ}
use mathlib.Core.Path.{◌≡◌, refl}
use mathlib.Core.Bool.{Bool, ◌&&◌}
use mathlib.Core.List.{List, [], ◌∷◌}
use lib.ListN.{length}
use lib.Dec.{eqb}
use Rattle.laws.specs.Sums.{bit, sum}
use Rattle.laws.specs.Lists.{at, tabulate}
use Rattle.laws.specs.Placement.{Ties, tie_place, tie_hold, nobody, served, at_slot, lrtf}

-- For slot s, a number for each job: 1 if it gets a cell there, 0 if not.
abbrev cells_with : (ℕ → ℕ → Bool) → Ties → List ℕ → List ℕ → ℕ → List ℕ
cells_with standing ties c x s = tabulate (length c) (λ i. bit (lrtf ties standing c (at x) i s))

abbrev cells : Ties → List ℕ → List ℕ → ℕ → List ℕ
cells ties c x s = cells_with nobody ties c x s

abbrev three : (ℕ → List ℕ) → List (List ℕ)
three f = f 0 ∷ f 1 ∷ f 2 ∷ []

abbrev four : (ℕ → List ℕ) → List (List ℕ)
four f = f 0 ∷ f 1 ∷ f 2 ∷ f 3 ∷ []

-- Job 1 needs more and gets slot 0. Then both need one slot: who holds goes on, or the earlier line comes first.
one_by_hold : three (cells tie_hold (1 ∷ 2 ∷ []) (1 ∷ 1 ∷ 1 ∷ [])) ≡ (0 ∷ 1 ∷ []) ∷ (0 ∷ 1 ∷ []) ∷ (1 ∷ 0 ∷ []) ∷ []
unfolding at_slot served tabulate sum
one_by_hold = refl

one_by_place : three (cells tie_place (1 ∷ 2 ∷ []) (1 ∷ 1 ∷ 1 ∷ [])) ≡ (0 ∷ 1 ∷ []) ∷ (1 ∷ 0 ∷ []) ∷ (0 ∷ 1 ∷ []) ∷ []
unfolding at_slot served tabulate sum
one_by_place = refl

-- The slot just before counts alone: nobody has a cell in slot 1, so job 0 comes first in slot 2.
gap_by_hold : four (cells tie_hold (1 ∷ 2 ∷ []) (1 ∷ 0 ∷ 1 ∷ 1 ∷ [])) ≡ (0 ∷ 1 ∷ []) ∷ (0 ∷ 0 ∷ []) ∷ (1 ∷ 0 ∷ []) ∷ (0 ∷ 1 ∷ []) ∷ []
unfolding at_slot served tabulate sum
gap_by_hold = refl

-- Need goes before holding: jobs 2 and 3 get slot 1, and then hold it against jobs of the same need.
pairs_by_hold : four (cells tie_hold (2 ∷ 2 ∷ 2 ∷ 2 ∷ []) (2 ∷ 2 ∷ 2 ∷ 2 ∷ []))
    ≡ (1 ∷ 1 ∷ 0 ∷ 0 ∷ []) ∷ (0 ∷ 0 ∷ 1 ∷ 1 ∷ []) ∷ (0 ∷ 0 ∷ 1 ∷ 1 ∷ []) ∷ (1 ∷ 1 ∷ 0 ∷ 0 ∷ []) ∷ []
unfolding at_slot served tabulate sum
pairs_by_hold = refl

-- Job 1 stands in slot 1 before the rule begins: it holds in slot 2 and in no other, though nobody is chosen in slot 1.
stands_in_1 : ℕ → ℕ → Bool
stands_in_1 i s = eqb i 1 && eqb s 1

standing_by_hold : four (cells_with stands_in_1 tie_hold (1 ∷ 1 ∷ []) (0 ∷ 0 ∷ 1 ∷ 1 ∷ [])) ≡ (0 ∷ 0 ∷ []) ∷ (0 ∷ 0 ∷ []) ∷ (0 ∷ 1 ∷ []) ∷ (1 ∷ 0 ∷ []) ∷ []
unfolding at_slot served tabulate sum stands_in_1
standing_by_hold = refl

-- A slot later nobody holds any more.
standing_gone : four (cells_with stands_in_1 tie_hold (1 ∷ 1 ∷ []) (0 ∷ 0 ∷ 0 ∷ 1 ∷ [])) ≡ (0 ∷ 0 ∷ []) ∷ (0 ∷ 0 ∷ []) ∷ (0 ∷ 0 ∷ []) ∷ (1 ∷ 0 ∷ []) ∷ []
unfolding at_slot served tabulate sum stands_in_1
standing_gone = refl
