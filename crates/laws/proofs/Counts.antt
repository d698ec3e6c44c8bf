-- Laws of counts: how many of the numbers below a bound pass a test.
--
-- In order: a test as a number (`bit`), a comparison in terms that omega reads (`bit_ltb`); counts of tests that are equal, imply one another, hold nowhere or everywhere, and what
-- a count that is not 0 has found; a count split by a second test, of one or the other, and of the smaller numbers; a test passed at most once, or at most k times, and the one selected term; one number
-- for each that passes. One number more is in Loops, the count of what comes before in an order in Order.
-- Assumes nothing.
use Prim.Native.Nat.{ℕ, zero, suc, ◌+◌, ◌-◌, ◌*◌, ◌≤◌, ◌<◌, min, zero-le}
use native.Mathlib.Nat.{le_refl, add-zero, zero-mul, suc-mul}
use native.Mathlib.Numerals.{add-one}
use native.Mathlib.Omega.{arith}
use mathlib.Core.Path.{◌≡◌, refl, sym, ◌∙◌, ap}
use mathlib.Core.Logic.{◌⊎◌, inl, inr}
use mathlib.Core.Bool.{Bool, true, false, not, ◌&&◌, ◌||◌, and_comm}
use lib.Dec.{ltb, eqb}
use Rattle.laws.specs.Sums.{bit, only, sum, count}
use Rattle.laws.proofs.Tests.{Is, is, is_true, is_false, clash, not-true, never_both, fails_right, and-true}
use Rattle.laws.proofs.Comparisons.{lt_of, ge_of, eq_of, ltb_yes, ltb_no}
use Rattle.laws.proofs.Every.{either}
use Rattle.laws.proofs.Sums.{sum_ext, sum_le, sum_zero, term_le, sum_lt, sum_pos, sum_add, sum_or_and, sum_below, sum_point, sum_two}

-- ---- a test as a number

pub bit_le : (b : Bool) → bit b ≤ 1
bit_le true = le_refl 1
bit_le false = zero-le

pub bit_positive : (b : Bool) → ltb 0 (bit b) ≡ b
bit_positive true = refl
bit_positive false = refl

-- beside a test that is known
pub bit_and_true : (a b : Bool) → b ≡ true → bit (a && b) ≡ bit a
bit_and_true a b e = ap bit (and-true a b e)

pub bit_and_false : (a b : Bool) → b ≡ false → bit (a && b) ≡ 0
bit_and_false a b e = ap bit (fails_right a b e)

pub bit_pos : (b : Bool) → 0 < bit b → b ≡ true
bit_pos true h = refl
bit_pos false h = absurd (omega arith)

bit_imp : (a b : Bool) → (a ≡ true → b ≡ true) → bit a ≤ bit b
bit_imp true b h = rw (h refl) (le_refl 1)
bit_imp false b h = zero-le

-- the numbers that pass a test: those that pass another one too, and the rest
bit_split : (a b : Bool) → bit a ≡ bit (a && b) + bit (a && not b)
bit_split true true = refl
bit_split true false = refl
bit_split false b = refl

-- a comparison in terms that omega reads
pub bit_ltb : (a b : ℕ) → bit (ltb a b) ≡ min 1 (b - a)
bit_ltb a b = go (is (ltb a b))
  where
    go : Is (ltb a b) → bit (ltb a b) ≡ min 1 (b - a)
    go (is_true e) = omega (arith, ap bit e, lt_of a b e)
    go (is_false e) = omega (arith, ap bit e, ge_of a b e)

pub only_bit : (v c : Bool) → only v (bit c) ≡ bit (v && c)
only_bit true c = refl
only_bit false c = refl

pub only_bit_comm : (v c : Bool) → only v (bit c) ≡ only c (bit v)
only_bit_comm v c = only_bit v c ∙ ap bit (and_comm v c) ∙ sym (only_bit c v)

-- ---- counts

pub count_ext : (n : ℕ) (p q : ℕ → Bool) → ((i : ℕ) → i < n → p i ≡ q i) → count n p ≡ count n q
count_ext n p q h = sum_ext n (λ i. bit (p i)) (λ i. bit (q i)) (λ i l. ap bit (h i l))

pub count_le : (n : ℕ) (p : ℕ → Bool) → count n p ≤ n
unfolding sum
count_le zero p = le_refl 0
count_le (suc n) p = omega (arith, count_le n p, bit_le (p n))

-- what implies something else is counted no more often
pub count_imp : (n : ℕ) (p q : ℕ → Bool) → ((i : ℕ) → i < n → p i ≡ true → q i ≡ true) → count n p ≤ count n q
count_imp n p q h = sum_le n (λ i. bit (p i)) (λ i. bit (q i)) (λ i l. bit_imp (p i) (q i) (h i l))

pub count_none : (n : ℕ) (p : ℕ → Bool) → ((i : ℕ) → i < n → p i ≡ false) → count n p ≡ 0
count_none n p h = sum_zero n (λ i. bit (p i)) (λ i l. ap bit (h i l))

pub count_all : (n : ℕ) (p : ℕ → Bool) → ((i : ℕ) → i < n → p i ≡ true) → count n p ≡ n
unfolding sum
count_all zero p h = refl
count_all (suc n) p h = omega (arith, count_all n p (λ i l. h i (omega arith)), ap bit (h n (omega arith)))

-- what implies something else, and is not all of it, is counted less often
pub count_lt : (n : ℕ) (p q : ℕ → Bool) (i : ℕ) → i < n → ((j : ℕ) → j < n → p j ≡ true → q j ≡ true) → p i ≡ false → q i ≡ true →
    count n p < count n q
count_lt n p q i l h no-p yes-q =
    sum_lt n (λ j. bit (p j)) (λ j. bit (q j)) i l (λ j r. bit_imp (p j) (q j) (h j r)) (rw (no-p, yes-q) (le_refl 1))

-- what is counted is there, and what is there is counted
pub count_pos : (n : ℕ) (p : ℕ → Bool) → 0 < count n p → (i : ℕ) × (i < n) × (p i ≡ true)
count_pos n p h = let w = sum_pos n (λ i. bit (p i)) h in (w.0, w.1, bit_pos (p w.0) w.2)

pub count_some : (n : ℕ) (p : ℕ → Bool) (i : ℕ) → i < n → p i ≡ true → 0 < count n p
count_some n p i h e = omega (arith, term_le n (λ j. bit (p j)) i h, ap bit e)

-- ---- two tests

pub count_split : (n : ℕ) (p q : ℕ → Bool) → count n p ≡ count n (λ i. p i && q i) + count n (λ i. p i && not (q i))
count_split n p q =
    sum_ext n (λ i. bit (p i)) (λ i. bit (p i && q i) + bit (p i && not (q i))) (λ i l. bit_split (p i) (q i))
    ∙ sum_add n (λ i. bit (p i && q i)) (λ i. bit (p i && not (q i)))

-- how many pass one of two tests that exclude each other
pub count_or : (n : ℕ) (p q : ℕ → Bool) → ((i : ℕ) → i < n → p i ≡ true → q i ≡ false) → count n (λ i. p i || q i) ≡ count n p + count n q
count_or n p q apart =
    omega (arith, sum_or_and n (λ i b. bit b) p q, count_none n (λ i. p i && q i) (λ i l. never_both (p i) (q i) (apart i l)))

-- those below i among those below n
pub count_smaller : (n : ℕ) (p : ℕ → Bool) (i : ℕ) → i ≤ n → count n (λ j. p j && ltb j i) ≡ count i p
count_smaller n p i h =
    sym (sum_below i n (λ j. bit (p j && ltb j i)) h (λ j l m. bit_and_false (p j) (ltb j i) (ltb_no j i l)))
    ∙ count_ext i (λ j. p j && ltb j i) p (λ j l. and-true (p j) (ltb j i) (ltb_yes j i l))

-- ---- at most one

-- a test that no two numbers pass is passed at most once
pub count_once : (n : ℕ) (p : ℕ → Bool) → ((i j : ℕ) → i < j → j < n → p i ≡ true → p j ≡ true → ⊥) → count n p ≤ 1
unfolding sum
count_once zero p h = omega arith
count_once (suc n) p h = go (count_once n p (λ i j l m. h i j l (omega arith))) (is (p n))
  where
    go : count n p ≤ 1 → Is (p n) → count n p + bit (p n) ≤ 1
    go ih (is_true e) =
        let none : count n p ≡ 0 = count_none n p (λ i l. not-true (p i) (λ q. h i n l (le_refl (suc n)) q e)) in
        omega (arith, ap bit e)
    go ih (is_false e) = omega (arith, ap bit e)

-- and not at all where nothing can pass it
pub count_le_bit : (n : ℕ) (p : ℕ → Bool) (b : Bool) → ((i j : ℕ) → i < j → j < n → p i ≡ true → p j ≡ true → ⊥)
    → ((i : ℕ) → i < n → p i ≡ true → b ≡ true) → count n p ≤ bit b
count_le_bit n p true once only_if = count_once n p once
count_le_bit n p false once only_if = omega (arith, count_none n p (λ i l. not-true (p i) (λ e. clash (sym (only_if i l e)))))

-- what is counted only while fewer than k are is counted at most k times
pub count_capped : (n k : ℕ) (p : ℕ → Bool) → ((i : ℕ) → i < n → p i ≡ true → count i p < k) → count n p ≤ k
unfolding sum
count_capped zero k p f = zero-le
count_capped (suc n) k p f = go (count_capped n k p (λ i l. f i (omega arith))) (is (p n))
  where
    go : count n p ≤ k → Is (p n) → count n p + bit (p n) ≤ k
    go few (is_true e) = omega (arith, f n (omega arith) e, ap bit e)
    go few (is_false e) = omega (arith, ap bit e)

-- at most one number is z
pub count_eqb_le : (n z : ℕ) → count n (λ s. eqb s z) ≤ 1
count_eqb_le n z = count_once n (λ s. eqb s z) (λ i j l m p q. omega (arith, eq_of i z p, eq_of j z q))

-- a sum with at most one selected term is that term, or 0 if none is selected
pub one_selected : (k : ℕ) (g : ℕ → Bool) (v : ℕ → ℕ) → count k g ≤ 1
    → (sum k (λ i. only (g i) (v i)) ≡ 0) ⊎ ((i : ℕ) × (i < k) × (g i ≡ true) × (sum k (λ i. only (g i) (v i)) ≡ v i))
one_selected k g v h = go (either k (λ i l. split i (is (g i))))
  where
    split : (i : ℕ) → Is (g i) → (g i ≡ true) ⊎ (g i ≡ false)
    split i (is_true e) = inl e
    split i (is_false e) = inr e

    off : (i j : ℕ) → i < k → j < k → g i ≡ true → (j ≡ i → ⊥) → g j ≡ false
    off i j l m e ne = not-true (g j) (λ d. omega (arith, sum_two k (λ n. bit (g n)) i j l m ne, ap bit e, ap bit d))

    go : ((i : ℕ) × (i < k) × (g i ≡ true)) ⊎ ((i : ℕ) → i < k → g i ≡ false)
        → (sum k (λ i. only (g i) (v i)) ≡ 0) ⊎ ((i : ℕ) × (i < k) × (g i ≡ true) × (sum k (λ i. only (g i) (v i)) ≡ v i))
    go (inl (i, l, e)) =
        inr (
          i,
          l,
          e,
          sum_point k (λ j. only (g j) (v j)) i l (λ j m ne. ap (λ (b : Bool). only b (v j)) (off i j l m e ne))
              ∙ ap (λ (b : Bool). only b (v i)) e,
        )
    go (inr f) = inl (sum_zero k (λ i. only (g i) (v i)) (λ i l. ap (λ (b : Bool). only b (v i)) (f i l)))

-- ---- one number for each that passes the test

pub sum_only_const : (n : ℕ) (p : ℕ → Bool) (c : ℕ) → sum n (λ i. only (p i) c) ≡ count n p * c
unfolding sum
sum_only_const zero p c = sym (zero-mul c)
sum_only_const (suc n) p c = ap (λ (k : ℕ). k + only (p n) c) (sum_only_const n p c) ∙ add (p n)
  where
    add : (b : Bool) → count n p * c + only b c ≡ (count n p + bit b) * c
    add true = rw (add-one, suc-mul)
    add false = simp add-zero
