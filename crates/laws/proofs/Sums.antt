-- Laws of sums, and of the greatest of some numbers.
--
-- In order: numbers where a test holds (`only`); sums compared term by term; sums of sums, of unions and of parts, the first term, swapped sums, a sum split at a number, rows as
-- one sum; one point, and two; the greatest. How many numbers pass a test is in Counts, no number and one more in Loops.
-- Assumes nothing.
use Prim.Native.Nat.{ℕ, zero, suc, ◌+◌, ◌-◌, ◌*◌, ◌≤◌, ◌<◌, max, zero-le}
use native.Mathlib.Nat.{le_refl, add-zero, add-suc, suc-mul, zero-mul}
use native.Mathlib.Omega.{arith}
use mathlib.Core.Path.{◌≡◌, refl, sym, ◌∙◌, ap}
use mathlib.Core.Bool.{Bool, true, false, not, ◌&&◌, ◌||◌}
use lib.Dec.{ltb, eqb, leb}
use Rattle.laws.specs.Sums.{only, sum, greatest}
use Rattle.laws.proofs.Tests.{Is, is, is_true, is_false}
use Rattle.laws.proofs.Comparisons.{lt_of, ge_of, le_of, gt_of, eq_of, eqb_self, ne_of, eqb_no}

-- ---- numbers where a test holds

-- a selected sum, and its rest
pub only_not : (b : Bool) (n : ℕ) → only b n + only (not b) n ≡ n
only_not true n = omega arith
only_not false n = omega arith

pub only_le : (b : Bool) {m n : ℕ} → m ≤ n → only b m ≤ only b n
only_le true h = h
only_le false h = zero-le

pub only_le_self : (b : Bool) (n : ℕ) → only b n ≤ n
only_le_self true n = le_refl n
only_le_self false n = zero-le

-- two tests that do not both hold, and what one that holds adds
pub only_or : (p q : Bool) (n : ℕ) → (p ≡ true → q ≡ true → ⊥) → only (p || q) n ≡ only p n + only q n
only_or true true n h = absurd (h refl refl)
only_or true false n h = omega arith
only_or false q n h = omega arith

-- ---- sums, term by term

pub sum_ext : (n : ℕ) (f g : ℕ → ℕ) → ((i : ℕ) → i < n → f i ≡ g i) → sum n f ≡ sum n g
unfolding sum
sum_ext zero f g h = refl
sum_ext (suc n) f g h = omega (arith, sum_ext n f g (λ i l. h i (omega arith)), h n (omega arith))

pub sum_le : (n : ℕ) (f g : ℕ → ℕ) → ((i : ℕ) → i < n → f i ≤ g i) → sum n f ≤ sum n g
unfolding sum
sum_le zero f g h = le_refl 0
sum_le (suc n) f g h = omega (arith, sum_le n f g (λ i l. h i (omega arith)), h n (omega arith))

pub sum_zero : (n : ℕ) (f : ℕ → ℕ) → ((i : ℕ) → i < n → f i ≡ 0) → sum n f ≡ 0
unfolding sum
sum_zero zero f h = refl
sum_zero (suc n) f h = omega (arith, sum_zero n f (λ i l. h i (omega arith)), h n (omega arith))

-- one term is no more than the sum
pub term_le : (n : ℕ) (f : ℕ → ℕ) (i : ℕ) → i < n → f i ≤ sum n f
unfolding sum
term_le zero f i h = omega arith
term_le (suc n) f i h = go (term_le n f i) (is (eqb i n))
  where
    go : (i < n → f i ≤ sum n f) → Is (eqb i n) → f i ≤ sum n f + f n
    go ih (is_true e) = omega (arith, ap f (eq_of i n e))
    go ih (is_false e) = let ne : i ≡ n → ⊥ = ne_of i n e in omega (arith, ih (omega arith))

-- terms that are no greater, one of them smaller
pub sum_lt : (n : ℕ) (f g : ℕ → ℕ) (i : ℕ) → i < n → ((j : ℕ) → j < n → f j ≤ g j) → f i < g i → sum n f < sum n g
unfolding sum
sum_lt zero f g i l h s = omega arith
sum_lt (suc n) f g i l h s = go (λ m. sum_lt n f g i m (λ j r. h j (omega arith)) s) (is (eqb i n))
  where
    go : (i < n → sum n f < sum n g) → Is (eqb i n) → sum n f + f n < sum n g + g n
    go ih (is_true e) = omega (arith, sum_le n f g (λ j r. h j (omega arith)), ap f (eq_of i n e), ap g (eq_of i n e))
    go ih (is_false e) = let ne : i ≡ n → ⊥ = ne_of i n e in omega (arith, ih (omega arith), h n (omega arith))

-- terms that are no greater, whose sum is no smaller, are none of them smaller
pub sum_le_terms : (n : ℕ) (f g : ℕ → ℕ) → ((j : ℕ) → j < n → f j ≤ g j) → sum n g ≤ sum n f → (i : ℕ) → i < n → g i ≤ f i
sum_le_terms n f g h back i l = go (is (ltb (f i) (g i)))
  where
    go : Is (ltb (f i) (g i)) → g i ≤ f i
    go (is_true e) = absurd (omega (arith, sum_lt n f g i l h (lt_of (f i) (g i) e)))
    go (is_false e) = ge_of (f i) (g i) e

-- a smaller sum has a smaller term
pub sum_lt_some : (n : ℕ) (f g : ℕ → ℕ) → sum n f < sum n g → (i : ℕ) × (i < n) × (f i < g i)
unfolding sum
sum_lt_some zero f g h = absurd (let l : 0 < 0 = h in omega arith)
sum_lt_some (suc n) f g h = go (sum_lt_some n f g) (is (ltb (f n) (g n)))
  where
    go : (sum n f < sum n g → (i : ℕ) × (i < n) × (f i < g i)) → Is (ltb (f n) (g n)) → (i : ℕ) × (i < suc n) × (f i < g i)
    go ih (is_true e) = (n, le_refl (suc n), lt_of (f n) (g n) e)
    go ih (is_false e) = let w = ih (omega (arith, ge_of (f n) (g n) e)) in (w.0, omega arith, w.2)

-- a sum that is not 0 has a term that is not 0
pub sum_pos : (n : ℕ) (f : ℕ → ℕ) → 0 < sum n f → (i : ℕ) × (i < n) × (0 < f i)
sum_pos n f h = sum_lt_some n (λ i. 0) f (omega (arith, sum_zero n (λ i. 0) (λ i l. refl)))

-- ---- sums of sums and of parts

pub sum_add : (n : ℕ) (f g : ℕ → ℕ) → sum n (λ i. f i + g i) ≡ sum n f + sum n g
unfolding sum
sum_add zero f g = refl
sum_add (suc n) f g = omega (arith, sum_add n f g)

-- two pairs of sums, compared term by term
pub sum_le_two : (n : ℕ) (f g u v : ℕ → ℕ) → ((i : ℕ) → i < n → f i + g i ≤ u i + v i) → sum n f + sum n g ≤ sum n u + sum n v
sum_le_two n f g u v h = omega (arith, sum_add n f g, sum_add n u v, sum_le n (λ i. f i + g i) (λ i. u i + v i) h)

-- whatever is summed over a union and an intersection is summed over the two selections
pub sum_or_and : (k : ℕ) (f : ℕ → Bool → ℕ) (p q : ℕ → Bool)
    → sum k (λ i. f i (p i || q i)) + sum k (λ i. f i (p i && q i)) ≡ sum k (λ i. f i (p i)) + sum k (λ i. f i (q i))
sum_or_and k f p q =
    sym (sum_add k (λ i. f i (p i || q i)) (λ i. f i (p i && q i)))
    ∙ sum_ext k (λ i. f i (p i || q i) + f i (p i && q i)) (λ i. f i (p i) + f i (q i)) (λ i l. each (f i) (p i) (q i))
    ∙ sum_add k (λ i. f i (p i)) (λ i. f i (q i))
  where
    each : (g : Bool → ℕ) (a b : Bool) → g (a || b) + g (a && b) ≡ g a + g b
    each g true b = refl
    each g false b = omega arith

pub sum_const : (n c : ℕ) → sum n (λ i. c) ≡ n * c
unfolding sum
sum_const zero c = sym (zero-mul c)
sum_const (suc n) c = ap (λ (k : ℕ). k + c) (sum_const n c) ∙ sym (suc-mul n c)

-- the first term apart
pub sum_first : (n : ℕ) (f : ℕ → ℕ) → sum (suc n) f ≡ f 0 + sum n (λ i. f (suc i))
unfolding sum
sum_first zero f = omega arith
sum_first (suc n) f = omega (arith, sum_first n f)

pub sum_swap : (n m : ℕ) (f : ℕ → ℕ → ℕ) → sum n (λ i. sum m (λ j. f i j)) ≡ sum m (λ j. sum n (λ i. f i j))
unfolding sum
sum_swap zero m f = sym (sum_zero m (λ j. 0) (λ j l. refl))
sum_swap (suc n) m f =
    ap (λ (k : ℕ). k + sum m (λ j. f n j)) (sum_swap n m f) ∙ sym (sum_add m (λ j. sum n (λ i. f i j)) (λ j. f n j))

-- the terms below m, and the rest
pub sum_split : (m n : ℕ) (f : ℕ → ℕ) → sum (m + n) f ≡ sum m f + sum n (λ i. f (m + i))
unfolding sum
sum_split m zero f = rw (add-zero m) (omega arith)
sum_split m (suc n) f = rw (add-suc m n) (omega (arith, sum_split m n f))

sum_from : (m n : ℕ) (f : ℕ → ℕ) → m ≤ n → sum n f ≡ sum m f + sum (n - m) (λ i. f (m + i))
sum_from m n f h = let q : n ≡ m + (n - m) = omega arith in ap (λ (k : ℕ). sum k f) q ∙ sum_split m (n - m) f

-- fewer terms; a sum whose terms from m on are 0; and a term from m on beside the terms below m
pub sum_mono : (m n : ℕ) (f : ℕ → ℕ) → m ≤ n → sum m f ≤ sum n f
sum_mono m n f h = omega (arith, sum_from m n f h)

pub sum_below : (m n : ℕ) (f : ℕ → ℕ) → m ≤ n → ((i : ℕ) → m ≤ i → i < n → f i ≡ 0) → sum m f ≡ sum n f
sum_below m n f h z = omega (arith, sum_from m n f h, sum_zero (n - m) (λ i. f (m + i)) (λ i l. z (m + i) (omega arith) (omega arith)))

pub sum_beyond : (m n : ℕ) (f : ℕ → ℕ) (i : ℕ) → m ≤ i → i < n → sum m f + f i ≤ sum n f
sum_beyond m n f i h l =
    let q : m + (i - m) ≡ i = omega arith in
    omega (arith, sum_from m n f (omega arith), term_le (n - m) (λ j. f (m + j)) (i - m) (omega arith), ap f q)

-- k rows of m numbers each, one after the other
pub sum_rows : (k m : ℕ) (f : ℕ → ℕ) → sum (k * m) f ≡ sum k (λ s. sum m (λ b. f (s * m + b)))
unfolding sum
sum_rows zero m f = rw (zero-mul m) refl
sum_rows (suc k) m f = rw (suc-mul k m) (omega (arith, sum_split (k * m) m f, sum_rows k m f))

-- ---- one point

-- two sums that differ in one term
pub sum_but : (n : ℕ) (f g : ℕ → ℕ) (i : ℕ) → i < n → ((j : ℕ) → j < n → (j ≡ i → ⊥) → f j ≡ g j) → sum n f + g i ≡ sum n g + f i
unfolding sum
sum_but zero f g i l h = omega arith
sum_but (suc n) f g i l h = go (λ k. sum_but n f g i k (λ j m. h j (omega arith))) (is (eqb i n))
  where
    go : (i < n → sum n f + g i ≡ sum n g + f i) → Is (eqb i n) → sum n f + f n + g i ≡ sum n g + g n + f i
    go ih (is_true e) =
        let at_n : i ≡ n = eq_of i n e in
        omega (arith, sum_ext n f g (λ j m. h j (omega arith) (λ q. omega arith)), ap f at_n, ap g at_n)
    go ih (is_false e) =
        let ne : i ≡ n → ⊥ = ne_of i n e in
        omega (arith, ih (omega arith), h n (omega arith) (λ q. ne (sym q)))

-- a sum with one term that is not 0
pub sum_point : (n : ℕ) (f : ℕ → ℕ) (i : ℕ) → i < n → ((j : ℕ) → j < n → (j ≡ i → ⊥) → f j ≡ 0) → sum n f ≡ f i
sum_point n f i l h = omega (arith, sum_but n f (λ j. 0) i l h, sum_zero n (λ j. 0) (λ j m. refl))

-- two terms are no more than the sum
pub sum_two : (n : ℕ) (f : ℕ → ℕ) (i j : ℕ) → i < n → j < n → (j ≡ i → ⊥) → f i + f j ≤ sum n f
sum_two n f i j l m ne =
    let g : ℕ → ℕ = λ s. only (eqb s i) (f s) in
    let h : ℕ → ℕ = λ s. only (not (eqb s i)) (f s) in
    omega (
      arith,
      sum_add n g h,
      sum_ext n (λ s. g s + h s) f (λ s r. only_not (eqb s i) (f s)),
      term_le n g i l,
      term_le n h j m,
      ap (λ (b : Bool). only b (f i)) (eqb_self i),
      ap (λ (b : Bool). only (not b) (f j)) (eqb_no j i ne),
    )

-- of numbers below n just one is k
pub sum_only_eqb : (n k v : ℕ) (c : Bool) → (c ≡ true → k < n) → sum n (λ r. only (c && eqb k r) v) ≡ only c v
sum_only_eqb n k v true h =
    sum_point n (λ r. only (eqb k r) v) k (h refl) (λ r l ne. rw (eqb_no k r (λ e. ne (sym e)))) ∙ rw (eqb_self k)
sum_only_eqb n k v false h = sum_zero n (λ r. 0) (λ r l. refl)

-- .. and at most one, where k may be past them
pub sum_only_eqb_le : (n k v : ℕ) (c : Bool) → sum n (λ r. only (c && eqb k r) v) ≤ only c v
sum_only_eqb_le n k v c = go (is (ltb k n))
  where
    past : (r : ℕ) → n ≤ k → r < n → (b : Bool) → only (b && eqb k r) v ≡ 0
    past r h l true = rw (eqb_no k r (λ e. omega arith)) refl
    past r h l false = refl

    go : Is (ltb k n) → sum n (λ r. only (c && eqb k r) v) ≤ only c v
    go (is_true e) = omega (arith, sum_only_eqb n k v c (λ y. lt_of k n e))
    go (is_false e) = omega (arith, sum_zero n (λ r. only (c && eqb k r) v) (λ r l. past r (ge_of k n e) l c))

-- ---- the greatest

pub greatest_bounds : (n : ℕ) (f : ℕ → ℕ) (i : ℕ) → i ≤ n → f i ≤ greatest n f
unfolding greatest
greatest_bounds zero f i h = let z : i ≡ 0 = omega arith in omega (arith, ap f z)
greatest_bounds (suc n) f i h = go (greatest_bounds n f i) (is (eqb i (suc n)))
  where
    go : (i ≤ n → f i ≤ greatest n f) → Is (eqb i (suc n)) → f i ≤ max (greatest n f) (f (suc n))
    go ih (is_true e) = omega (arith, ap f (eq_of i (suc n) e))
    go ih (is_false e) = let ne : i ≡ suc n → ⊥ = ne_of i (suc n) e in omega (arith, ih (omega arith))

pub greatest_attained : (n : ℕ) (f : ℕ → ℕ) → (i : ℕ) × (i ≤ n) × (f i ≡ greatest n f)
unfolding greatest
greatest_attained zero f = (0, le_refl 0, refl)
greatest_attained (suc n) f = go (greatest_attained n f) (is (leb (greatest n f) (f (suc n))))
  where
    go : ((i : ℕ) × (i ≤ n) × (f i ≡ greatest n f)) → Is (leb (greatest n f) (f (suc n)))
        → (i : ℕ) × (i ≤ suc n) × (f i ≡ max (greatest n f) (f (suc n)))
    go w (is_true e) = (suc n, le_refl (suc n), (let l = le_of (greatest n f) (f (suc n)) e in omega arith))
    go w (is_false e) = (w.0, omega arith, (let l = gt_of (greatest n f) (f (suc n)) e in omega arith))

-- what bounds each of some numbers bounds their greatest
pub greatest_le : (n : ℕ) (f : ℕ → ℕ) (v : ℕ) → ((i : ℕ) → i ≤ n → f i ≤ v) → greatest n f ≤ v
greatest_le n f v h = let w = greatest_attained n f in omega (arith, w.2, h w.0 w.1)

pub greatest_ext : (k : ℕ) (f g : ℕ → ℕ) → ((r : ℕ) → r ≤ k → f r ≡ g r) → greatest k f ≡ greatest k g
unfolding greatest
greatest_ext zero f g h = h 0 (omega arith)
greatest_ext (suc k) f g h = omega (arith, greatest_ext k f g (λ r l. h r (omega arith)), h (suc k) (omega arith))
