-- The r smallest needs, and how many needs go into a number of cells at the most.
--
-- In order: a selection and the rest (`count_rest`, `sum_rest`); no selection of r jobs needs less than the r smallest (`smallest_le`), and one needs just
-- that (`smallest_some`); none, all, and one need more in front (`smallest_none`, `smallest_all`, `smallest_front`); the greatest number that passes a
-- test is reached by each that passes (`most_reaches`); a selection that goes into v has at most `fitting` jobs (`fitting_le`), and one has so many
-- (`fitting_some`); examples.
-- Assumes nothing.
use Prim.Native.Nat.{ℕ, zero, suc, ◌+◌, ◌-◌, ◌≤◌, ◌<◌, min}
use native.Mathlib.Omega.{arith}
use mathlib.Core.Path.{◌≡◌, refl, sym, ◌∙◌, ap}
use mathlib.Core.Bool.{Bool, true, false, not}
use mathlib.Core.List.{[], ◌∷◌}
use lib.Dec.{leb, eqb}
use Rattle.laws.specs.Sums.{bit, only, sum, count}
use Rattle.laws.specs.Lists.{at}
use Rattle.laws.specs.Placement.{largest}
use Rattle.laws.specs.Grants.{most}
use Rattle.laws.specs.Fitting.{smallest, fitting}
use Rattle.laws.proofs.Tests.{Is, is, is_true, is_false, clash}
use Rattle.laws.proofs.Comparisons.{le_of, eq_of, ne_of, leb_yes}
use Rattle.laws.proofs.Sums.{only_not, sum_ext, sum_add, sum_first}
use Rattle.laws.proofs.Counts.{count_all, count_le}
use Rattle.laws.proofs.Placement.{largest_bounds, largest_attained}
use Rattle.laws.proofs.Largest.{largest_all, largest_none}
use Rattle.laws.proofs.Grants.{most_le, most_passes}

-- ---- a selection and the rest

bit_not : (b : Bool) → bit b + bit (not b) ≡ 1
bit_not true = refl
bit_not false = refl

pub count_rest : (k : ℕ) (p : ℕ → Bool) → count k p + count k (λ i. not (p i)) ≡ k
count_rest k p =
    sym (sum_add k (λ i. bit (p i)) (λ i. bit (not (p i))))
    ∙ sum_ext k (λ i. bit (p i) + bit (not (p i))) (λ i. bit true) (λ i l. bit_not (p i))
    ∙ count_all k (λ i. true) (λ i l. refl)

pub sum_rest : (k : ℕ) (p : ℕ → Bool) (c : ℕ → ℕ) → sum k (λ i. only (p i) (c i)) + sum k (λ i. only (not (p i)) (c i)) ≡ sum k c
sum_rest k p c =
    sym (sum_add k (λ i. only (p i) (c i)) (λ i. only (not (p i)) (c i)))
    ∙ sum_ext k (λ i. only (p i) (c i) + only (not (p i)) (c i)) c (λ i l. only_not (p i) (c i))

-- ---- the smallest needs

-- no selection needs less than as many of the smallest ..
pub smallest_le : (k : ℕ) (c : ℕ → ℕ) (p : ℕ → Bool) → smallest k c (count k p) ≤ sum k (λ i. only (p i) (c i))
smallest_le k c p =
    let rest : k - count k p ≡ count k (λ i. not (p i)) = omega (arith, count_rest k p) in
    omega (arith, sum_rest k p c, largest_bounds k c (λ i. not (p i)), ap (largest k c) rest)

-- .. and the r smallest are a selection of r
pub smallest_some : (k : ℕ) (c : ℕ → ℕ) (r : ℕ) → r ≤ k → (p : ℕ → Bool) × (count k p ≡ r) × (sum k (λ i. only (p i) (c i)) ≡ smallest k c r)
smallest_some k c r h =
    let w = largest_attained k c (k - r) (omega arith) in
    let p : ℕ → Bool = λ i. not (w.0 i) in
    (p, omega (arith, count_rest k w.0, w.1), omega (arith, sum_rest k w.0 c, w.2))

-- none, and all of them
pub smallest_none : (k : ℕ) (c : ℕ → ℕ) → smallest k c 0 ≡ 0
smallest_none k c = omega (arith, largest_all k c (k - 0) (omega arith))

pub smallest_all : (k : ℕ) (c : ℕ → ℕ) (r : ℕ) → k ≤ r → smallest k c r ≡ sum k c
smallest_all k c r h = let z : k - r ≡ 0 = omega arith in omega (arith, largest_none k c, ap (largest k c) z)

-- one more need in front: the smallest have it or lack it
module _ (k : ℕ) (c : ℕ → ℕ) where
  abbrev rest : ℕ → ℕ
  rest i = c (suc i)

  front : Bool → (ℕ → Bool) → ℕ → Bool
  front b p zero = b
  front b p (suc i) = p i

  front_le : (b : Bool) (p : ℕ → Bool) → smallest (suc k) c (bit b + count k p) ≤ only b (c 0) + sum k (λ i. only (p i) (rest i))
  unfolding front
  front_le b p =
      omega (
        arith,
        smallest_le (suc k) c (front b p),
        sum_first k (λ i. only (front b p i) (c i)),
        ap (smallest (suc k) c) (sum_first k (λ i. bit (front b p i))),
      )

  pub smallest_front : (r : ℕ) → r < k → smallest (suc k) c (suc r) ≡ min (c 0 + smallest k (λ i. c (suc i)) r) (smallest k (λ i. c (suc i)) (suc r))
  smallest_front r h =
      let fewer = smallest_some k rest r (omega arith) in
      let more = smallest_some k rest (suc r) h in
      let has : bit true + count k fewer.0 ≡ suc r = omega (arith, fewer.1) in
      let lacks : bit false + count k more.0 ≡ suc r = omega (arith, more.1) in
      let up : min (c 0 + smallest k rest r) (smallest k rest (suc r)) ≤ smallest (suc k) c (suc r) = go (smallest_some (suc k) c (suc r) (omega arith)) in
      omega (
        arith,
        front_le true fewer.0,
        front_le false more.0,
        ap (smallest (suc k) c) has,
        ap (smallest (suc k) c) lacks,
        fewer.2,
        more.2,
      )
    where
      go : ((p : ℕ → Bool) × (count (suc k) p ≡ suc r) × (sum (suc k) (λ i. only (p i) (c i)) ≡ smallest (suc k) c (suc r)))
          → min (c 0 + smallest k rest r) (smallest k rest (suc r)) ≤ smallest (suc k) c (suc r)
      go (p, size, least) = pick (is (p 0))
        where
          q : ℕ → Bool
          q i = p (suc i)

          counted : bit (p 0) + count k q ≡ suc r
          counted = omega (arith, size, sum_first k (λ i. bit (p i)))

          summed : only (p 0) (c 0) + sum k (λ i. only (q i) (rest i)) ≡ smallest (suc k) c (suc r)
          summed = omega (arith, least, sum_first k (λ i. only (p i) (c i)))

          pick : Is (p 0) → min (c 0 + smallest k rest r) (smallest k rest (suc r)) ≤ smallest (suc k) c (suc r)
          pick (is_true e) =
              let n : count k q ≡ r = omega (arith, counted, ap bit e) in
              omega (arith, summed, ap (λ (b : Bool). only b (c 0)) e, smallest_le k rest q, ap (smallest k rest) n)
          pick (is_false e) =
              let n : count k q ≡ suc r = omega (arith, counted, ap bit e) in
              omega (arith, summed, ap (λ (b : Bool). only b (c 0)) e, smallest_le k rest q, ap (smallest k rest) n)

-- ---- how many go into v

pub most_reaches : (o : ℕ) (t : ℕ → Bool) (r : ℕ) → r ≤ o → t r ≡ true → r ≤ most o t
unfolding most
most_reaches zero t r h e = h
most_reaches (suc o) t r h e = go (is (t (suc o))) (is (eqb r (suc o))) (most_reaches o t r)
  where
    go : Is (t (suc o)) → Is (eqb r (suc o)) → (r ≤ o → t r ≡ true → r ≤ most o t) → r ≤ most (suc o) t
    go (is_true q) s ih = rw (q, most) h
    go (is_false q) (is_true s) ih = absurd (clash (sym e ∙ ap t (eq_of r (suc o) s) ∙ q))
    go (is_false q) (is_false s) ih = let ne : r ≡ suc o → ⊥ = ne_of r (suc o) s in rw (q, most) (ih (omega arith) e)

-- a selection that goes into v has at most so many ..
pub fitting_le : (k : ℕ) (c : ℕ → ℕ) (v : ℕ) (p : ℕ → Bool) → sum k (λ i. only (p i) (c i)) ≤ v → count k p ≤ fitting k c v
fitting_le k c v p h =
    most_reaches k (λ r. leb (smallest k c r) v) (count k p) (count_le k p)
    (leb_yes (smallest k c (count k p)) v (omega (arith, smallest_le k c p)))

-- .. and one has so many
pub fitting_some : (k : ℕ) (c : ℕ → ℕ) (v : ℕ) → (p : ℕ → Bool) × (count k p ≡ fitting k c v) × (sum k (λ i. only (p i) (c i)) ≤ v)
fitting_some k c v =
    let none : smallest k c 0 ≤ v = omega (arith, smallest_none k c) in
    let w = smallest_some k c (fitting k c v) (most_le k (λ r. leb (smallest k c r) v)) in
    let passes = most_passes k (λ r. leb (smallest k c r) v) (leb_yes (smallest k c 0) v none) in
    (w.0, w.1, omega (arith, w.2, le_of (smallest k c (fitting k c v)) v passes))

-- ---- examples

-- of 3, 1 and 2 slots two go into 4 cells, all into 6, none into 0
two_fit : fitting 3 (at (3 ∷ 1 ∷ 2 ∷ [])) 4 ≡ 2
unfolding most sum
two_fit = refl

all_fit : fitting 3 (at (3 ∷ 1 ∷ 2 ∷ [])) 6 ≡ 3
unfolding most sum
all_fit = refl

none_fits : fitting 3 (at (3 ∷ 1 ∷ 2 ∷ [])) 0 ≡ 0
unfolding most sum
none_fits = refl
