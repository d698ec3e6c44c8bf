-- How far one need can be raised beside the others: the least, over r, of what the r largest of the others leave of the capacity for r + 1.
-- In order: the least of some numbers; the criterion of a raised need, both ways (`spare_of_criterion`, `criterion_of_spare`); where no slot has more than
-- m free cells, the first m numbers and all others are enough (`highest_few`); the grant of a turn in closed form (`most_raised`).
-- Assumes nothing.
use Prim.Native.Nat.{ℕ, zero, suc, ◌+◌, ◌-◌, ◌≤◌, ◌<◌, min}
use native.Mathlib.Nat.{le_refl}
use native.Mathlib.Omega.{arith}
use mathlib.Core.Path.{◌≡◌, refl, sym, ◌∙◌, ap}
use mathlib.Core.Logic.{◌⊎◌, inl, inr, ◌↔◌}
use mathlib.Core.Bool.{Bool, true, false}
use mathlib.Core.List.{List}
use lib.ListN.{length, length-set}
use lib.Dec.{ltb, leb, eqb}
use Rattle.laws.specs.Sums.{only, sum, count}
use Rattle.laws.specs.Lists.{at}
use Rattle.laws.specs.Placement.{Criterion, capacity, largest}
use Rattle.laws.specs.Grants.{most, raised}
use Rattle.laws.specs.method.Least.{lowest, spare, highest}
use Rattle.laws.proofs.Tests.{Is, is, is_true, is_false, clash}
use Rattle.laws.proofs.Comparisons.{lt_of, ge_of, le_of, gt_of, eq_of, ne_of}
use Rattle.laws.proofs.Counts.{count_le}
use Rattle.laws.proofs.Capacities.{capacity_up, capacity_high, capacity_top}
use Rattle.laws.proofs.Placement.{largest_bounds}
use Rattle.laws.proofs.Largest.{largest_part, largest_some, taken_out, taken_in, left_out, others_all}
use Rattle.laws.proofs.Grants.{at_raised, at_raised_other, raised_zero, most_le, most_passes, most_stops}

-- ---- the least of some numbers

pub lowest_first : (n : ℕ) (f : ℕ → ℕ) (m : ℕ) → lowest n f m ≤ m
unfolding lowest
lowest_first zero f m = le_refl m
lowest_first (suc n) f m = omega (arith, lowest_first n f m)

pub lowest_le : (n : ℕ) (f : ℕ → ℕ) (m i : ℕ) → i < n → lowest n f m ≤ f i
unfolding lowest
lowest_le zero f m i l = absurd (omega arith)
lowest_le (suc n) f m i l = go (lowest_le n f m i) (is (eqb i n))
  where
    go : (i < n → lowest n f m ≤ f i) → Is (eqb i n) → min (lowest n f m) (f n) ≤ f i
    go ih (is_true e) = omega (arith, ap f (eq_of i n e))
    go ih (is_false e) = let ne : i ≡ n → ⊥ = ne_of i n e in omega (arith, ih (omega arith))

pub le_lowest : (n : ℕ) (f : ℕ → ℕ) (m v : ℕ) → v ≤ m → ((i : ℕ) → i < n → v ≤ f i) → v ≤ lowest n f m
unfolding lowest
le_lowest zero f m v l h = l
le_lowest (suc n) f m v l h = omega (arith, le_lowest n f m v l (λ i k. h i (omega arith)), h n (omega arith))

pub lowest_ext : (n : ℕ) (f g : ℕ → ℕ) (m : ℕ) → ((i : ℕ) → i < n → f i ≡ g i) → lowest n f m ≡ lowest n g m
unfolding lowest
lowest_ext zero f g m h = refl
lowest_ext (suc n) f g m h = omega (arith, lowest_ext n f g m (λ i k. h i (omega arith)), h n (omega arith))

-- a bound beside the first one
pub lowest_min : (n : ℕ) (f : ℕ → ℕ) (m b : ℕ) → min (lowest n f m) b ≡ lowest n f (min m b)
unfolding lowest
lowest_min zero f m b = refl
lowest_min (suc n) f m b = omega (arith, lowest_min n f m b)

-- ---- one job beside the others

-- d has the needs of c but 0 at job i, and e those of c but v there
module _ (k : ℕ) (c d e : ℕ → ℕ) (i v : ℕ) (h : i < k) (d-own : d i ≡ 0) (d-other : (j : ℕ) → j < k → (j ≡ i → ⊥) → d j ≡ c j)
    (e-own : e i ≡ v) (e-other : (j : ℕ) → j < k → (j ≡ i → ⊥) → e j ≡ c j) where
  of_e : (j : ℕ) → j < k → (j ≡ i → ⊥) → d j ≡ e j
  of_e j l ne = d-other j l ne ∙ sym (e-other j l ne)

  -- the raised needs obey the criterion where the others leave job i its need for every number of them ..
  pub criterion_of_spare : (n : ℕ) (x : ℕ → ℕ) → Criterion k c n x → ((r : ℕ) → r < k → v + largest k d r ≤ capacity n x (suc r)) → Criterion k e n x
  criterion_of_spare n x crit left p = go (is (p i))
    where
      go : Is (p i) → sum k (λ j. only (p j) (e j)) ≤ capacity n x (count k p)
      go (is_true t) =
          let w = taken_out k e d i h d-own of_e p t in
          omega (
            arith,
            w.2,
            largest_bounds k d w.0,
            left (count k w.0) (omega (arith, w.1, count_le k p)),
            ap (capacity n x) w.1,
          )
      go (is_false t) = omega (arith, left_out k e d i h d-own of_e p t, left_out k c d i h d-own d-other p t, crit p)

  -- .. and only there
  pub spare_of_criterion : (n : ℕ) (x : ℕ → ℕ) → Criterion k e n x → (r : ℕ) → v + largest k d r ≤ capacity n x (suc r)
  spare_of_criterion n x crit r =
      let w = largest_some k d r in
      let u = taken_in k e d i h d-own of_e w.0 in
      omega (arith, w.2, u.2, crit u.0, capacity_up n x (count k u.0) (suc r) (omega (arith, u.1, w.1)))

-- Where no slot has more than m free cells, the first m numbers of the others and all of them are enough.
module _ (k : ℕ) (d : ℕ → ℕ) (i : ℕ) (h : i < k) (own : d i ≡ 0) (n : ℕ) (x : ℕ → ℕ) (m : ℕ) (few : (s : ℕ) → s < n → x s ≤ m) where
  last : largest k d (k - 1) ≡ sum k d
  last = others_all k d d i h own (λ j l ne. refl) (k - 1) (omega arith)

  last_spare : (v : ℕ) → highest k d n x v ≤ capacity n x k - sum k d
  last_spare v =
      let end : suc (k - 1) ≡ k = omega arith in
      omega (arith, lowest_le k (spare k d n x) v (k - 1) (omega arith), last, ap (capacity n x) end)

  pub highest_few : (v : ℕ) → highest k d n x v ≡ lowest m (spare k d n x) (min v (capacity n x m - sum k d))
  highest_few v =
      let up : highest k d n x v ≤ lowest m (spare k d n x) (min v (capacity n x m - sum k d)) =
      le_lowest m (spare k d n x) (min v (capacity n x m - sum k d)) (highest k d n x v)
      (omega (arith, lowest_first k (spare k d n x) v, last_spare v, capacity_high n x m few k))
      (λ r l. below r (is (ltb r k))) in
      let down : lowest m (spare k d n x) (min v (capacity n x m - sum k d)) ≤ highest k d n x v =
      le_lowest k (spare k d n x) v (lowest m (spare k d n x) (min v (capacity n x m - sum k d)))
      (omega (arith, lowest_first m (spare k d n x) (min v (capacity n x m - sum k d))))
      (λ r l. above r (is (ltb r m))) in
      omega arith
    where
      below : (r : ℕ) → Is (ltb r k) → highest k d n x v ≤ spare k d n x r
      below r (is_true e) = lowest_le k (spare k d n x) v r (lt_of r k e)
      below r (is_false e) =
          let past = ge_of r k e in
          omega (arith, last_spare v, largest_part k d r, capacity_up n x k (suc r) (omega arith))

      above : (r : ℕ) → Is (ltb r m) → lowest m (spare k d n x) (min v (capacity n x m - sum k d)) ≤ spare k d n x r
      above r (is_true e) = lowest_le m (spare k d n x) (min v (capacity n x m - sum k d)) r (lt_of r m e)
      above r (is_false e) =
          let past = ge_of r m e in
          omega (
            arith,
            lowest_first m (spare k d n x) (min v (capacity n x m - sum k d)),
            capacity_top n x m few (suc r) (omega arith),
            largest_part k d r,
          )

-- ---- the grant of a turn

-- The needs l pass the test, which is the criterion; d are the needs of the others. Then what job i has after its turn is the highest need up to
-- m, its need and its optional slots together.
pub most_raised : (k n : ℕ) (x : ℕ → ℕ) (fits : List ℕ → Bool) (fits_is : (m : List ℕ) → length m ≡ k → (fits m ≡ true) ↔ Criterion k (at m) n x)
    (l : List ℕ) (d : ℕ → ℕ) (i o : ℕ) → length l ≡ k → i < k → fits l ≡ true → d i ≡ 0 → ((j : ℕ) → j < k → (j ≡ i → ⊥) → d j ≡ at l j)
    → at l i + most o (λ g. fits (raised l i g)) ≡ highest k d n x (at l i + o)
most_raised k n x fits fits_is l d i o long h start own other =
    let t : ℕ → Bool = λ g. fits (raised l i g) in
    let top : ℕ = highest k d n x (at l i + o) in
    let z : t 0 ≡ true = ap fits (raised_zero l i) ∙ start in
    let low : at l i + 0 ≤ top = reaches 0 (omega arith) z in
    let up : at l i + most o t ≤ top = reaches (most o t) (most_le o t) (most_passes o t z) in
    let down : top ≤ at l i + most o t = stops (most_stops o t) in
    omega arith
  where
    long_raised : (g : ℕ) → length (raised l i g) ≡ k
    long_raised g = length-set l i (at l i + g) ∙ long

    inside : i < length l
    inside = omega (arith, long)

    crit : Criterion k (at l) n x
    crit = (fits_is l long).0 start

    -- what the others need leaves something of the capacity
    bare : (r : ℕ) → r < k → at l i + largest k d r ≤ capacity n x (suc r)
    bare r m = spare_of_criterion k (at l) d (at l) i (at l i) h own other refl (λ j q ne. refl) n x crit r

    reaches : (g : ℕ) → g ≤ o → fits (raised l i g) ≡ true → at l i + g ≤ highest k d n x (at l i + o)
    reaches g le pass =
        le_lowest k (spare k d n x) (at l i + o) (at l i + g) (omega arith)
        (λ r m.
        omega (
          arith,
          spare_of_criterion k (at l) d (at (raised l i g)) i (at l i + g) h own other (at_raised l i g inside)
              (λ j q ne. at_raised_other l i g j ne) n x ((fits_is (raised l i g) (long_raised g)).0 pass) r,
        ))

    passes : (g : ℕ) → at l i + g ≤ highest k d n x (at l i + o) → fits (raised l i g) ≡ true
    passes g le =
        (fits_is (raised l i g) (long_raised g)).1
        (criterion_of_spare k (at l) d (at (raised l i g)) i (at l i + g) h own other (at_raised l i g inside)
        (λ j q ne. at_raised_other l i g j ne) n x crit
        (λ r m. omega (arith, bare r m, lowest_le k (spare k d n x) (at l i + o) r m)))

    stops : (most o (λ g. fits (raised l i g)) ≡ o) ⊎ (fits (raised l i (suc (most o (λ g. fits (raised l i g))))) ≡ false)
        → highest k d n x (at l i + o) ≤ at l i + most o (λ g. fits (raised l i g))
    stops (inl e) = omega (arith, lowest_first k (spare k d n x) (at l i + o))
    stops (inr e) = go (is (leb (highest k d n x (at l i + o)) (at l i + most o (λ g. fits (raised l i g)))))
      where
        go : Is (leb (highest k d n x (at l i + o)) (at l i + most o (λ g. fits (raised l i g))))
            → highest k d n x (at l i + o) ≤ at l i + most o (λ g. fits (raised l i g))
        go (is_true q) = le_of _ _ q
        go (is_false q) =
            let more : at l i + most o (λ g. fits (raised l i g)) < highest k d n x (at l i + o) = gt_of _ _ q in
            absurd (clash (sym (passes (suc (most o (λ g. fits (raised l i g)))) (omega arith)) ∙ e))
