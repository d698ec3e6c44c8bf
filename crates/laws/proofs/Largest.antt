-- The sums of the r largest needs, kept while one need after the other changes: none of the other needs is looked at again.
--
-- In order: a larger number of needs, all of them, none (`largest_up`, `largest_all`, `largest_part`, `largest_none`); a selection of at most r jobs
-- (`selected_le`, `largest_some`), and needs that agree (`largest_ext`); the sums are concave (`largest_concave`); one job taken out of a selection, and
-- taken in (`taken_out`, `taken_in`, `left_out`); the sums with a job from those of the others (`largest_with`), those of the others from those of all
-- (`largest_others`), and the sums after a need is raised (`largest_raised`); needs that come one after the other (`largest_upto_more`); what the criterion
-- says of the sums of the largest needs and of all (`sums_of_criterion`, `all_of_criterion`).
-- Assumes nothing.
use Prim.Native.Nat.{ℕ, zero, suc, ◌+◌, ◌-◌, ◌*◌, ◌≤◌, ◌<◌, min, max}
use native.Mathlib.Nat.{le_refl, suc-mul}
use native.Mathlib.Omega.{arith}
use mathlib.Core.Path.{◌≡◌, refl, sym, ap}
use mathlib.Core.Bool.{Bool, true, false, not, ◌&&◌, ◌||◌, and-true, and-false, or-true, or-false}
use lib.Dec.{ltb, eqb}
use Rattle.laws.specs.Sums.{bit, only, sum, count, position}
use Rattle.laws.specs.Placement.{Criterion, capacity, before, largest}
use Rattle.laws.proofs.Tests.{Is, is, is_true, is_false, clash}
use Rattle.laws.proofs.Comparisons.{lt_of, ge_of, eq_of, eqb_self, ne_of, ltb_yes, ltb_no, eqb_no, ltb_next}
use Rattle.laws.proofs.Sums.{only_le, sum_ext, sum_le, sum_zero, sum_but}
use Rattle.laws.proofs.Counts.{count_le}
use Rattle.laws.proofs.Order.{position_count, position_below, before_total}
use Rattle.laws.proofs.Capacities.{capacity_up, capacity_high}
use Rattle.laws.proofs.Placement.{largest_slope, largest_bounds, largest_attained}

-- ---- a larger number of needs, all of them, and none

only_imp : (a b : Bool) (n : ℕ) → (a ≡ true → b ≡ true) → only a n ≤ only b n
only_imp true b n h = rw (h refl) (le_refl n)
only_imp false b n h = omega arith

pub largest_up : (k : ℕ) (c : ℕ → ℕ) (r t : ℕ) → r ≤ t → largest k c r ≤ largest k c t
largest_up k c r t h =
    sum_le k (λ i. only (ltb (position k (before c) i) r) (c i)) (λ i. only (ltb (position k (before c) i) t) (c i))
    (λ i l. only_imp (ltb (position k (before c) i) r) (ltb (position k (before c) i) t) (c i)
    (λ e. ltb_yes (position k (before c) i) t (omega (arith, lt_of (position k (before c) i) r e))))

pub largest_all : (k : ℕ) (c : ℕ → ℕ) (r : ℕ) → k ≤ r → largest k c r ≡ sum k c
largest_all k c r h =
    sum_ext k (λ i. only (ltb (position k (before c) i) r) (c i)) c
    (λ i l. ap (λ (b : Bool). only b (c i)) (ltb_yes (position k (before c) i) r (omega (arith, position_below (before_total c) k l))))

pub largest_part : (k : ℕ) (c : ℕ → ℕ) (r : ℕ) → largest k c r ≤ sum k c
largest_part k c r = omega (arith, largest_up k c r (r + k) (omega arith), largest_all k c (r + k) (omega arith))

pub largest_none : (k : ℕ) (c : ℕ → ℕ) → largest k c 0 ≡ 0
largest_none k c =
    sum_zero k (λ i. only (ltb (position k (before c) i) 0) (c i))
    (λ i l. ap (λ (b : Bool). only b (c i)) (ltb_no (position k (before c) i) 0 (omega arith)))

-- ---- a selection of at most r jobs: none needs more, and one needs as much

pub selected_le : (k : ℕ) (c : ℕ → ℕ) (p : ℕ → Bool) (r : ℕ) → count k p ≤ r → sum k (λ i. only (p i) (c i)) ≤ largest k c r
selected_le k c p r h = omega (arith, largest_bounds k c p, largest_up k c (count k p) r h)

pub largest_some : (k : ℕ) (c : ℕ → ℕ) (r : ℕ) → (p : ℕ → Bool) × (count k p ≤ r) × (sum k (λ i. only (p i) (c i)) ≡ largest k c r)
largest_some k c r = (p, few (is (ltb k r)), refl)
  where
    p : ℕ → Bool
    p i = ltb (position k (before c) i) r

    few : Is (ltb k r) → count k p ≤ r
    few (is_true e) = omega (arith, count_le k p, lt_of k r e)
    few (is_false e) = omega (arith, position_count (before_total c) k r (ge_of k r e))

pub largest_le : (k : ℕ) (c d : ℕ → ℕ) (r : ℕ) → ((i : ℕ) → i < k → c i ≤ d i) → largest k c r ≤ largest k d r
largest_le k c d r h =
    let w = largest_some k c r in
    omega (
      arith,
      w.2,
      sum_le k (λ i. only (w.0 i) (c i)) (λ i. only (w.0 i) (d i)) (λ i l. only_le (w.0 i) (h i l)),
      selected_le k d w.0 r w.1,
    )

pub largest_ext : (k : ℕ) (c d : ℕ → ℕ) (r : ℕ) → ((i : ℕ) → i < k → c i ≡ d i) → largest k c r ≡ largest k d r
largest_ext k c d r h =
    omega (arith, largest_le k c d r (λ i l. omega (arith, h i l)), largest_le k d c r (λ i l. omega (arith, h i l)))

-- ---- each further job adds no more than the one before

pub largest_concave : (k : ℕ) (c : ℕ → ℕ) (r : ℕ) → largest k c (suc (suc r)) + largest k c r ≤ 2 * largest k c (suc r)
largest_concave k c r = go (is (ltb (suc r) k))
  where
    go : Is (ltb (suc r) k) → largest k c (suc (suc r)) + largest k c r ≤ 2 * largest k c (suc r)
    go (is_true e) =
        let inside : suc r < k = lt_of (suc r) k e in
        let w = largest_slope k c (suc r) (omega arith) in
        let more = largest_attained k c (suc (suc r)) (omega arith) in
        let fewer = largest_attained k c r (omega arith) in
        omega (
          arith,
          w.1 more.0,
          w.1 fewer.0,
          more.2,
          fewer.2,
          ap (λ (m : ℕ). m * w.0) more.1,
          ap (λ (m : ℕ). m * w.0) fewer.1,
          suc-mul (suc r) w.0,
          suc-mul r w.0,
        )
    go (is_false e) =
        omega (
          arith,
          largest_all k c (suc (suc r)) (omega (arith, ge_of (suc r) k e)),
          largest_all k c (suc r) (ge_of (suc r) k e),
          largest_up k c r (suc r) (omega arith),
        )

-- ---- one job beside the others

only_of : (b : Bool) (n : ℕ) → b ≡ true → only b n ≡ n
only_of true n e = refl
only_of false n e = absurd (clash (sym e))

only_zero : (b : Bool) {m : ℕ} → m ≡ 0 → only b m ≡ 0
only_zero true q = q
only_zero false q = refl

-- d are the needs c with 0 for job i
module _ (k : ℕ) (c d : ℕ → ℕ) (i : ℕ) (h : i < k) (own : d i ≡ 0) (other : (j : ℕ) → j < k → (j ≡ i → ⊥) → d j ≡ c j) where
  -- two selections that differ in job i at most, of which the first has it
  beside : (p q : ℕ → Bool) → p i ≡ true → ((j : ℕ) → (j ≡ i → ⊥) → p j ≡ q j)
      → (count k p + bit (q i) ≡ suc (count k q)) × (sum k (λ j. only (p j) (c j)) ≡ c i + sum k (λ j. only (q j) (d j)))
  beside p q has same = (
    omega (arith, sum_but k (λ j. bit (p j)) (λ j. bit (q j)) i h (λ j l ne. ap bit (same j ne)), ap bit has),
    omega (
      arith,
      sum_but k (λ j. only (p j) (c j)) (λ j. only (q j) (d j)) i h (λ j l ne. rw (same j ne) (ap (only (q j)) (sym (other j l ne)))),
      only_of (p i) (c i) has,
      only_zero (q i) own,
    ),
  )

  pub taken_out : (p : ℕ → Bool) → p i ≡ true
      → (q : ℕ → Bool) × (count k p ≡ suc (count k q)) × (sum k (λ j. only (p j) (c j)) ≡ c i + sum k (λ j. only (q j) (d j)))
  taken_out p has =
      let q : ℕ → Bool = λ j. p j && not (eqb j i) in
      let b = beside p q has (λ j ne. sym (rw (eqb_no j i ne) (and-true (p j)))) in
      let gone : q i ≡ false = rw (eqb_self i) (and-false (p i)) in
      (q, omega (arith, b.0, ap bit gone), b.1)

  pub taken_in : (q : ℕ → Bool)
      → (p : ℕ → Bool) × (count k p ≤ suc (count k q)) × (sum k (λ j. only (p j) (c j)) ≡ c i + sum k (λ j. only (q j) (d j)))
  taken_in q =
      let p : ℕ → Bool = λ j. q j || eqb j i in
      let has : p i ≡ true = rw (eqb_self i) (or-true (q i)) in
      let b = beside p q has (λ j ne. rw (eqb_no j i ne) (or-false (q j))) in
      (p, omega (arith, b.0), b.1)

  -- a selection that lacks job i needs the same of both
  pub left_out : (p : ℕ → Bool) → p i ≡ false → sum k (λ j. only (p j) (c j)) ≡ sum k (λ j. only (p j) (d j))
  left_out p lacks =
      omega (
        arith,
        sum_but k (λ j. only (p j) (c j)) (λ j. only (p j) (d j)) i h (λ j l ne. ap (only (p j)) (sym (other j l ne))),
        none (p i) (c i) lacks,
        none (p i) (d i) lacks,
      )
    where
      none : (b : Bool) (n : ℕ) → b ≡ false → only b n ≡ 0
      none true n e = absurd (clash e)
      none false n e = refl

  others_le : (j : ℕ) → j < k → d j ≤ c j
  others_le j l = go (is (eqb j i))
    where
      go : Is (eqb j i) → d j ≤ c j
      go (is_true e) = omega (arith, ap d (eq_of j i e))
      go (is_false e) = omega (arith, other j l (ne_of j i e))

  -- the r + 1 largest are those of the others, or the job and r of the others
  pub largest_with : (r : ℕ) → largest k c (suc r) ≡ max (largest k d (suc r)) (largest k d r + c i)
  largest_with r =
      let w = largest_some k c (suc r) in
      let v = largest_some k d r in
      let u = taken_in v.0 in
      let at_most : largest k c (suc r) ≤ max (largest k d (suc r)) (largest k d r + c i) = go w (is (w.0 i)) in
      omega (arith, largest_le k d c (suc r) others_le, u.2, v.2, selected_le k c u.0 (suc r) (omega (arith, u.1, v.1)))
    where
      go : (w : (p : ℕ → Bool) × (count k p ≤ suc r) × (sum k (λ j. only (p j) (c j)) ≡ largest k c (suc r)))
          → Is (w.0 i) → largest k c (suc r) ≤ max (largest k d (suc r)) (largest k d r + c i)
      go w (is_true e) =
          let v = taken_out w.0 e in
          omega (arith, w.2, v.2, selected_le k d v.0 r (omega (arith, w.1, v.1)))
      go w (is_false e) = omega (arith, w.2, left_out w.0 e, selected_le k d w.0 (suc r) w.1)

  -- so the sums of the others are known from those of all and the need of the job
  pub largest_others : (r : ℕ) → largest k d r ≡ min (largest k c r) (largest k c (suc r) - c i)
  largest_others zero = omega (arith, largest_none k c, largest_none k d)
  largest_others (suc r) = omega (arith, largest_with r, largest_with (suc r), largest_concave k d r)

  pub sum_others : sum k c ≡ sum k d + c i
  sum_others = omega (arith, sum_but k c d i h (λ j l ne. sym (other j l ne)))

  -- one fewer than all are all of the others
  pub others_all : (r : ℕ) → k ≤ suc r → largest k d r ≡ sum k d
  others_all r few =
      let w = taken_out (λ j. true) refl in
      omega (arith, w.2, sum_others, selected_le k d w.0 r (omega (arith, w.1, count_le k (λ j. true))), largest_part k d r)

-- the need of job i raised from that of c to that of e
pub largest_raised : (k : ℕ) (c d e : ℕ → ℕ) (i : ℕ) → i < k → d i ≡ 0 → ((j : ℕ) → j < k → (j ≡ i → ⊥) → d j ≡ c j)
    → ((j : ℕ) → j < k → (j ≡ i → ⊥) → d j ≡ e j) → c i ≤ e i
    → (r : ℕ) → largest k e (suc r) ≡ max (largest k c (suc r)) (min (largest k c r) (largest k c (suc r) - c i) + e i)
largest_raised k c d e i h own of_c of_e up r =
    omega (arith, largest_with k c d i h own of_c r, largest_with k e d i h own of_e r, largest_others k c d i h own of_c r)

-- ---- needs that come one after the other

-- the first n needs; the others are 0
abbrev pub up_to : (ℕ → ℕ) → ℕ → ℕ → ℕ
up_to c n i = only (ltb i n) (c i)

pub largest_upto_none : (k : ℕ) (c : ℕ → ℕ) (r : ℕ) → largest k (up_to c 0) r ≡ 0
largest_upto_none k c r =
    sum_zero k (λ i. only (ltb (position k (before (up_to c 0)) i) r) (up_to c 0 i))
    (λ i l. only_zero (ltb (position k (before (up_to c 0)) i) r) (ap (λ (b : Bool). only b (c i)) (ltb_no i 0 (omega arith))))

-- need n raised from 0
pub largest_upto_more : (k : ℕ) (c : ℕ → ℕ) (n : ℕ) → n < k → (r : ℕ)
    → largest k (up_to c (n + 1)) (suc r) ≡ max (largest k (up_to c n) (suc r)) (min (largest k (up_to c n) r) (largest k (up_to c n) (suc r) - 0) + c n)
largest_upto_more k c n h r =
    let before-n : up_to c n n ≡ 0 = ap (λ (b : Bool). only b (c n)) (ltb_no n n (omega arith)) in
    let with-n : up_to c (n + 1) n ≡ c n = ap (λ (b : Bool). only b (c n)) (ltb_yes n (n + 1) (omega arith)) in
    rw (← with-n, ← before-n)
    (largest_raised k (up_to c n) (up_to c n) (up_to c (n + 1)) n h before-n (λ j l ne. refl)
    (λ j l ne. ap (λ (b : Bool). only b (c j)) (ltb_next j n ne)) (omega (arith, before-n)) r)

pub largest_upto_all : (k : ℕ) (c : ℕ → ℕ) (r : ℕ) → largest k (up_to c k) r ≡ largest k c r
largest_upto_all k c r = largest_ext k (up_to c k) c r (λ i l. ap (λ (b : Bool). only b (c i)) (ltb_yes i k l))

-- ---- the criterion, where no slot has more than m free cells

module _ (n : ℕ) (x : ℕ → ℕ) (m : ℕ) (few : (s : ℕ) → s < n → x s ≤ m) where
  module _ (k : ℕ) (c : ℕ → ℕ) where
    pub sums_of_criterion : Criterion k c n x → (r : ℕ) → largest k c r ≤ capacity n x r
    sums_of_criterion crit r =
        let w = largest_some k c r in
        omega (arith, w.2, crit w.0, capacity_up n x (count k w.0) r w.1)

    pub all_of_criterion : Criterion k c n x → sum k c ≤ capacity n x m
    all_of_criterion crit = omega (arith, largest_all k c k (le_refl k), sums_of_criterion crit k, capacity_high n x m few k)
