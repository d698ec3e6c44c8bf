-- One more free cell: the grants of the first ranks rise by 0 or 1, no grant falls, and at most one rises, by 1. And a call evicts as many cells or one less.
--
-- In order: what at most one raised number says of each number and of their sum (`one_raised_low`, `one_raised_high`, `one_raised_sum`); the capacity
-- with one more cell; what a selection leaves, for two selections together (`leaves_or_and`); the grants of the first ranks: they rise by 0 or 1
-- (`gains_rise`), and once raised they stay so (`gains_stay`); the grants (`one_more_cell`); the cells that a call evicts
-- (`evicted_one_more`); examples.
-- Assumes nothing.
use Prim.Native.Nat.{ℕ, suc, ◌+◌, ◌-◌, ◌≤◌, ◌<◌, min}
use native.Mathlib.Omega.{arith}
use mathlib.Core.Path.{◌≡◌, refl, sym, ◌∙◌, ap}
use mathlib.Core.Logic.{◌⊎◌, inl, inr}
use mathlib.Core.Bool.{Bool, true, false, not, ◌&&◌, ◌||◌}
use mathlib.Core.List.{List, [], ◌∷◌}
use lib.ListN.{length}
use lib.Dec.{ltb, eqb}
use Rattle.laws.specs.Sums.{only, sum, count, greatest}
use Rattle.laws.specs.Lists.{at, tabulate}
use Rattle.laws.specs.Placement.{capacity, excess}
use Rattle.laws.specs.Grants.{most, turn, granted}
use Rattle.laws.specs.Eviction.{put, added, ones, searched, Shortage}
use Rattle.laws.specs.Sensitivity.{OneMore, OneRaised, none_rises, one_rises}
use Rattle.laws.proofs.Tests.{Is, is, is_true, is_false, clash, left_of}
use Rattle.laws.proofs.Comparisons.{lt_of, ge_of, eq_of, ne_of, ltb_yes, ltb_no, ltb_iff}
use Rattle.laws.proofs.Every.{either}
use Rattle.laws.proofs.Sums.{sum_ext, sum_le_two, sum_or_and, sum_but}
use Rattle.laws.proofs.Counts.{count_imp}
use Rattle.laws.proofs.Capacities.{capacity_put_le, capacity_put_same, capacity_put_full, capacity_mono, capacity_or_and}
use Rattle.laws.proofs.Eviction.{searched_ones}
use Rattle.laws.proofs.Grants.{Premises, gains, granted_formula, granted_formula_le, granted_low, granted_later}

-- ---- at most one number rises

pub one_raised_low : {k : ℕ} {n m : ℕ → ℕ} → OneRaised k n m → (i : ℕ) → i < k → n i ≤ m i
one_raised_low {k} {n} {m} (none_rises same) i h = omega (arith, same i h)
one_raised_low {k} {n} {m} (one_rises j l up other) i h = go (is (eqb i j))
  where
    go : Is (eqb i j) → n i ≤ m i
    go (is_true e) = let q : i ≡ j = eq_of i j e in omega (arith, ap n q, ap m q)
    go (is_false e) = omega (arith, other i h (ne_of i j e))

pub one_raised_high : {k : ℕ} {n m : ℕ → ℕ} → OneRaised k n m → (i : ℕ) → i < k → m i ≤ suc (n i)
one_raised_high {k} {n} {m} (none_rises same) i h = omega (arith, same i h)
one_raised_high {k} {n} {m} (one_rises j l up other) i h = go (is (eqb i j))
  where
    go : Is (eqb i j) → m i ≤ suc (n i)
    go (is_true e) = let q : i ≡ j = eq_of i j e in omega (arith, ap n q, ap m q)
    go (is_false e) = omega (arith, other i h (ne_of i j e))

-- their sum rises by 0 or 1
pub one_raised_sum : {k : ℕ} {n m : ℕ → ℕ} → OneRaised k n m → (sum k m ≡ sum k n) ⊎ (sum k m ≡ suc (sum k n))
one_raised_sum {k} {n} {m} (none_rises same) = inl (sum_ext k m n same)
one_raised_sum {k} {n} {m} (one_rises j l up other) = inr (omega (arith, sum_but k m n j l other))

-- Numbers of which none falls, none rises by more than 1, and no two rise.
one_raised_of : (k : ℕ) (n m : ℕ → ℕ) → ((i : ℕ) → i < k → n i ≤ m i) → ((i : ℕ) → i < k → m i ≤ suc (n i))
    → ((i j : ℕ) → i < k → j < k → n i < m i → n j < m j → i ≡ j) → OneRaised k n m
one_raised_of k n m low high once = go (either k (λ i h. sort i h (is (ltb (n i) (m i)))))
  where
    sort : (i : ℕ) → i < k → Is (ltb (n i) (m i)) → (n i < m i) ⊎ (m i ≡ n i)
    sort i h (is_true e) = inl (lt_of (n i) (m i) e)
    sort i h (is_false e) = inr (omega (arith, ge_of (n i) (m i) e, low i h))

    go : ((i : ℕ) × (i < k) × (n i < m i)) ⊎ ((i : ℕ) → i < k → m i ≡ n i) → OneRaised k n m
    go (inr same) = none_rises same
    go (inl (j, l, up)) = one_rises j l (omega (arith, high j l)) (λ i h ne. rest i h ne (is (ltb (n i) (m i))))
      where
        rest : (i : ℕ) → i < k → (i ≡ j → ⊥) → Is (ltb (n i) (m i)) → m i ≡ n i
        rest i h ne (is_true e) = absurd (ne (once i j h l (lt_of (n i) (m i) e) up))
        rest i h ne (is_false e) = omega (arith, ge_of (n i) (m i) e, low i h)

-- ---- one more cell

module _ (n : ℕ) (x y : ℕ → ℕ) (z : ℕ) (more : OneMore n x z y) where
  one_more : (r : ℕ) → capacity n y r ≡ capacity n (put x z) r
  one_more r = sum_ext n (λ s. min r (y s)) (λ s. min r (put x z s)) (λ s l. ap (min r) (more s l))

  one_more_low : (r : ℕ) → capacity n x r ≤ capacity n y r
  one_more_low r = capacity_mono n x y r (λ s l. omega (arith, more s l))

  one_more_high : (r : ℕ) → capacity n y r ≤ suc (capacity n x r)
  one_more_high r = omega (arith, one_more r, capacity_put_le n x z r)

  -- where it does not help r jobs it helps no fewer
  one_more_same : (r q : ℕ) → q ≤ r → capacity n y r ≡ capacity n x r → capacity n y q ≡ capacity n x q
  one_more_same r q low same =
      one_more q ∙ capacity_put_same n x z q (λ l. omega (arith, capacity_put_full n x z r (sym (one_more r) ∙ same) l))

-- ---- what a selection leaves the first ranks

-- the capacity for the selection, and the optional slots of those of the first r ranks that it lacks
abbrev leaves : (k n : ℕ) (x rank : ℕ → ℕ) (o : List ℕ) (r : ℕ) (p : ℕ → Bool) → ℕ
leaves k n x rank o r p = capacity n x (count k p) + sum k (λ i. only (ltb (rank i) r && not (p i)) (at o i))

-- Of two selections the union leaves the first q ranks, and the part they share the first r, no more than they do.
leaves_or_and : (k n : ℕ) (x rank : ℕ → ℕ) (o : List ℕ) (r q : ℕ) → r ≤ q → (t u : ℕ → Bool)
    → leaves k n x rank o q (λ i. t i || u i) + leaves k n x rank o r (λ i. t i && u i) ≤ leaves k n x rank o q t + leaves k n x rank o r u
leaves_or_and k n x rank o r q low t u =
    omega (
      arith,
      capacity_or_and k n x t u,
      sum_le_two k (λ i. only (ltb (rank i) q && not (t i || u i)) (at o i)) (λ i. only (ltb (rank i) r && not (t i && u i)) (at o i))
          (λ i. only (ltb (rank i) q && not (t i)) (at o i)) (λ i. only (ltb (rank i) r && not (u i)) (at o i))
          (λ i l. each (ltb (rank i) q) (ltb (rank i) r) (t i) (u i) (at o i) (λ e. ltb_yes (rank i) q (omega (arith, lt_of (rank i) r e)))),
    )
  where
    each : (a b c d : Bool) (v : ℕ) → (b ≡ true → a ≡ true)
        → only (a && not (c || d)) v + only (b && not (c && d)) v ≤ only (a && not c) v + only (b && not d) v
    each true b true d v h = omega arith
    each true true false true v h = omega arith
    each true true false false v h = omega arith
    each true false false true v h = omega arith
    each true false false false v h = omega arith
    each false true c d v h = absurd (clash (sym (h refl)))
    each false false c d v h = omega arith

-- ---- the grants of the first ranks

-- the first ranks up to that of job i get what those before it get, and its own grant
gains_next : (k : ℕ) (rank : ℕ → ℕ) (l : List ℕ) (y : ℕ → ℕ) (i : ℕ) → i < k → ((j : ℕ) → j < k → rank j ≡ rank i → j ≡ i)
    → gains k rank l (suc (rank i)) y ≡ gains k rank l (rank i) y + (y i - at l i)
gains_next k rank l y i h one =
    omega (
      arith,
      sum_but k (λ j. only (ltb (rank j) (suc (rank i))) (y j - at l j)) (λ j. only (ltb (rank j) (rank i)) (y j - at l j)) i h other,
      ap (λ (b : Bool). only b (y i - at l i)) (ltb_yes (rank i) (suc (rank i)) (omega arith)),
      ap (λ (b : Bool). only b (y i - at l i)) (ltb_no (rank i) (rank i) (omega arith)),
    )
  where
    other : (j : ℕ) → j < k → (j ≡ i → ⊥) → only (ltb (rank j) (suc (rank i))) (y j - at l j) ≡ only (ltb (rank j) (rank i)) (y j - at l j)
    other j m ne =
        let apart : rank j ≡ rank i → ⊥ = λ e. ne (one j m e) in
        ap (λ (b : Bool). only b (y j - at l j)) (ltb_iff (rank j) (suc (rank i)) (rank j) (rank i) (λ t. omega arith) (λ t. omega arith))

-- The same presets with the free cells x, and with those and one more.
module _ {k n : ℕ} {x y : ℕ → ℕ} {fits fits' : List ℕ → Bool} {rank : ℕ → ℕ} {l : List ℕ}
    (P : Premises k n x fits rank l) (Q : Premises k n y fits' rank l) (z : ℕ) (more : OneMore n x z y) (o : List ℕ) (R : ℕ) where
  abbrev old : ℕ → ℕ
  old = at (granted fits rank o l R)

  abbrev new : ℕ → ℕ
  new = at (granted fits' rank o l R)

  gains_low : (r : ℕ) → r ≤ R → gains k rank l r old ≤ gains k rank l r new
  gains_low r m =
      let t = granted_formula Q o r R m in
      omega (arith, t.1, granted_formula_le P o r R t.0, one_more_low n x y z more (count k t.0))

  gains_high : (r : ℕ) → r ≤ R → gains k rank l r new ≤ suc (gains k rank l r old)
  gains_high r m =
      let t = granted_formula P o r R m in
      omega (arith, t.1, granted_formula_le Q o r R t.0, one_more_high n x y z more (count k t.0))

  -- What the first r ranks get rises by 0 or 1.
  pub gains_rise : (r : ℕ) → r ≤ R
      → (gains k rank l r (at (granted fits' rank o l R)) ≡ gains k rank l r (at (granted fits rank o l R)))
      ⊎ (gains k rank l r (at (granted fits' rank o l R)) ≡ suc (gains k rank l r (at (granted fits rank o l R))))
  gains_rise r m = go (is (ltb (gains k rank l r old) (gains k rank l r new)))
    where
      go : Is (ltb (gains k rank l r old) (gains k rank l r new))
          → (gains k rank l r new ≡ gains k rank l r old) ⊎ (gains k rank l r new ≡ suc (gains k rank l r old))
      go (is_true e) = inr (omega (arith, lt_of (gains k rank l r old) (gains k rank l r new) e, gains_high r m))
      go (is_false e) = inl (omega (arith, ge_of (gains k rank l r old) (gains k rank l r new) e, gains_low r m))

  -- where the first q ranks get no more, fewer ranks get no more
  gains_same : (r q : ℕ) → r ≤ q → q ≤ R → gains k rank l q new ≡ gains k rank l q old → gains k rank l r new ≡ gains k rank l r old
  gains_same r q low m same = go (granted_formula Q o q R m) (granted_formula P o r R (omega arith))
    where
      go : ((t : ℕ → Bool) × (gains k rank l q new + sum k (λ i. only (t i) (at l i)) ≡ leaves k n y rank o q t))
          → ((u : ℕ → Bool) × (gains k rank l r old + sum k (λ i. only (u i) (at l i)) ≡ leaves k n x rank o r u))
          → gains k rank l r new ≡ gains k rank l r old
      go (t, least) (u, other) =
          let unseen : capacity n y (count k t) ≡ capacity n x (count k t) =
          omega (arith, granted_formula_le P o q R t, one_more_low n x y z more (count k t)) in
          let shared : capacity n y (count k (λ i. t i && u i)) ≡ capacity n x (count k (λ i. t i && u i)) =
          one_more_same n x y z more (count k t) (count k (λ i. t i && u i)) (count_imp k (λ i. t i && u i) t (λ i h. left_of (t i) (u i))) unseen in
          omega (
            arith,
            leaves_or_and k n x rank o r q low t u,
            sum_or_and k (λ i b. only b (at l i)) t u,
            granted_formula_le P o q R (λ i. t i || u i),
            granted_formula_le Q o r R (λ i. t i && u i),
            gains_low r (omega arith),
          )

  -- Once raised, what the first ranks get is raised for every later rank.
  pub gains_stay : (r q : ℕ) → r ≤ q → q ≤ R
      → gains k rank l r (at (granted fits' rank o l R)) ≡ suc (gains k rank l r (at (granted fits rank o l R)))
      → gains k rank l q (at (granted fits' rank o l R)) ≡ suc (gains k rank l q (at (granted fits rank o l R)))
  gains_stay r q low m up = go (gains_rise q m)
    where
      go : (gains k rank l q new ≡ gains k rank l q old) ⊎ (gains k rank l q new ≡ suc (gains k rank l q old))
          → gains k rank l q new ≡ suc (gains k rank l q old)
      go (inl same) = absurd (omega (arith, gains_same r q low m same))
      go (inr e) = e

  -- ---- the grants

  apart : (i : ℕ) → i < k → (j : ℕ) → j < k → rank j ≡ rank i → j ≡ i
  apart i h j m = P.injective j i m h

  -- the grants of one job, as what the ranks up to it get and what those before it get
  old_next : (i : ℕ) → i < k → gains k rank l (suc (rank i)) old + at l i ≡ gains k rank l (rank i) old + old i
  old_next i h = omega (arith, gains_next k rank l old i h (apart i h), granted_low P o R i)

  new_next : (i : ℕ) → i < k → gains k rank l (suc (rank i)) new + at l i ≡ gains k rank l (rank i) new + new i
  new_next i h = omega (arith, gains_next k rank l new i h (apart i h), granted_low Q o R i)

  -- a job has had its turn or has the same as at the start
  turned : {A : Type 0} (i : ℕ) → (rank i < R → A) → (new i ≡ old i → A) → A
  turned {A} i had later = go (is (ltb (rank i) R))
    where
      go : Is (ltb (rank i) R) → A
      go (is_true e) = had (lt_of (rank i) R e)
      go (is_false e) = later (granted_later Q o R i (ge_of (rank i) R e) ∙ sym (granted_later P o R i (ge_of (rank i) R e)))

  none_falls : (i : ℕ) → i < k → old i ≤ new i
  none_falls i h = turned i (λ m. go m (gains_rise (suc (rank i)) m)) (λ e. omega arith)
    where
      go : rank i < R
          → (gains k rank l (suc (rank i)) new ≡ gains k rank l (suc (rank i)) old)
          ⊎ (gains k rank l (suc (rank i)) new ≡ suc (gains k rank l (suc (rank i)) old))
          → old i ≤ new i
      go m (inl same) = omega (arith, old_next i h, new_next i h, gains_same (rank i) (suc (rank i)) (omega arith) m same)
      go m (inr up) = omega (arith, old_next i h, new_next i h, gains_high (rank i) (omega arith))

  by_one : (i : ℕ) → i < k → new i ≤ suc (old i)
  by_one i h =
      turned i (λ m. omega (arith, old_next i h, new_next i h, gains_low (rank i) (omega arith), gains_high (suc (rank i)) m))
      (λ e. omega arith)

  -- after one that rises none of a later rank does
  not_later : (i j : ℕ) → i < k → j < k → old i < new i → old j < new j → rank i < rank j → ⊥
  not_later i j h m up also before = turned j (λ turn. go turn (gains_rise (rank j) (omega arith))) (λ e. omega arith)
    where
      go : rank j < R
          → (gains k rank l (rank j) new ≡ gains k rank l (rank j) old) ⊎ (gains k rank l (rank j) new ≡ suc (gains k rank l (rank j) old))
          → ⊥
      go turn (inl same) =
          omega (
            arith,
            old_next i h,
            new_next i h,
            gains_same (suc (rank i)) (rank j) before (omega arith) same,
            gains_low (rank i) (omega arith),
          )
      go turn (inr more-j) = omega (arith, old_next j m, new_next j m, gains_high (suc (rank j)) turn)

  once : (i j : ℕ) → i < k → j < k → old i < new i → old j < new j → i ≡ j
  once i j h m up also = go (is (ltb (rank i) (rank j))) (is (ltb (rank j) (rank i)))
    where
      go : Is (ltb (rank i) (rank j)) → Is (ltb (rank j) (rank i)) → i ≡ j
      go (is_true e) f = absurd (not_later i j h m up also (lt_of (rank i) (rank j) e))
      go (is_false e) (is_true f) = absurd (not_later j i m h also up (lt_of (rank j) (rank i) f))
      go (is_false e) (is_false f) = P.injective i j h m (omega (arith, ge_of (rank i) (rank j) e, ge_of (rank j) (rank i) f))

  -- Request 2026-14: with one more free cell no grant falls and at most one rises, by 1.
  pub one_more_cell : OneRaised k (at (granted fits rank o l R)) (at (granted fits' rank o l R))
  one_more_cell = one_raised_of k old new none_falls by_one once

-- ---- the cells that a call evicts

-- Where the call fits it evicts as many cells with one more free cell, or one less.
pub evicted_one_more : (n : ℕ) (short : (ℕ → ℕ) → ℕ) → Shortage n short → (x y : ℕ → ℕ) (z : ℕ) → OneMore n x z y
    → (zs : List ℕ) (e e' : List Bool) → length e ≡ length zs → length e' ≡ length zs → short (added x zs e) ≡ 0 → short (added y zs e') ≡ 0
    → (ones (searched short y zs) ≤ ones (searched short x zs)) × (ones (searched short x zs) ≤ suc (ones (searched short y zs)))
evicted_one_more n short S x y z more zs e e' l l' h h' =
    let now = searched_ones n short S x zs e l h in
    let then = searched_ones n short S y zs e' l' h' in (
      omega (arith, now, then, S.mono x y (λ s m. omega (arith, more s m))),
      omega (arith, now, then, S.by_one x z, S.mono y (put x z) (λ s m. omega (arith, more s m))),
    )

-- ---- examples

-- Two presets of one optional slot each, in one slot: a cell more raises the first grant, a second one the second ..
no_cell : granted (λ m. eqb (excess 2 (at m) 1 (λ s. 0)) 0) (λ i. i) (1 ∷ 1 ∷ []) (0 ∷ 0 ∷ []) 2 ≡ 0 ∷ 0 ∷ []
unfolding granted turn most tabulate sum greatest
no_cell = refl

one_cell : granted (λ m. eqb (excess 2 (at m) 1 (λ s. 1)) 0) (λ i. i) (1 ∷ 1 ∷ []) (0 ∷ 0 ∷ []) 2 ≡ 1 ∷ 0 ∷ []
unfolding granted turn most tabulate sum greatest
one_cell = refl

two_cells : granted (λ m. eqb (excess 2 (at m) 1 (λ s. 2)) 0) (λ i. i) (1 ∷ 1 ∷ []) (0 ∷ 0 ∷ []) 2 ≡ 1 ∷ 1 ∷ []
unfolding granted turn most tabulate sum greatest
two_cells = refl

-- .. and a third one nothing
three_cells : granted (λ m. eqb (excess 2 (at m) 1 (λ s. 3)) 0) (λ i. i) (1 ∷ 1 ∷ []) (0 ∷ 0 ∷ []) 2 ≡ 1 ∷ 1 ∷ []
unfolding granted turn most tabulate sum greatest
three_cells = refl
