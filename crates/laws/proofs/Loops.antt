-- What a loop over the numbers below a bound keeps: each sum, count and test of no number, and of one number more, at the code's `n + 1` for the definitions' `suc n`.
--
-- In order: sums, counts; whether some number passes a test; whether every number does; the lowest. Capacities with one slot more are in Capacities, numbers stored one by one in
-- Stores.
-- Assumes nothing.
use Prim.Native.Nat.{ℕ, ◌+◌, ◌≤◌, ◌<◌, min, max}
use native.Mathlib.Numerals.{add-one}
use native.Mathlib.Omega.{arith}
use mathlib.Core.Path.{◌≡◌, refl, ◌∙◌, ap}
use mathlib.Core.Bool.{Bool, true, false, ◌||◌}
use lib.Dec.{ltb}
use Rattle.laws.specs.Sums.{bit, sum, count, greatest, every}
use Rattle.laws.specs.method.Least.{lowest}
use Rattle.laws.proofs.Tests.{Is, is, is_true, is_false, both}
use Rattle.laws.proofs.Comparisons.{lt_of, ge_of, ltb_yes}

pub sum_none : (f : ℕ → ℕ) → sum 0 f ≡ 0
unfolding sum
sum_none f = refl

pub sum_more : (n : ℕ) (f : ℕ → ℕ) → sum (n + 1) f ≡ sum n f + f n
unfolding sum
sum_more n f = rw (add-one n) refl

pub count_more : (n : ℕ) (p : ℕ → Bool) → count (n + 1) p ≡ count n p + bit (p n)
count_more n p = sum_more n (λ i. bit (p i))

-- and where only the first n count, of one number more among them, and past them
pub count_here : (n b : ℕ) (p : ℕ → Bool) → b < n → count (min (b + 1) n) p ≡ count (min b n) p + bit (p b)
count_here n b p l =
    let next : min (b + 1) n ≡ b + 1 = omega arith in
    let now : min b n ≡ b = omega arith in
    omega (arith, ap (λ (k : ℕ). count k p) next, ap (λ (k : ℕ). count k p) now, count_more b p)

pub count_past : (n b : ℕ) (p : ℕ → Bool) → n ≤ b → count (min (b + 1) n) p ≡ count (min b n) p
count_past n b p l = ap (λ (k : ℕ). count k p) (let same : min (b + 1) n ≡ min b n = omega arith in same)

-- whether some number below n passes a test
pub some_none : (p : ℕ → Bool) → ltb 0 (count 0 p) ≡ false
unfolding sum
some_none p = refl

pub some_more : (n : ℕ) (p : ℕ → Bool) → ltb 0 (count (n + 1) p) ≡ (ltb 0 (count n p) || p n)
some_more n p = ap (λ (k : ℕ). ltb 0 k) (count_more n p) ∙ go (is (ltb 0 (count n p)))
  where
    last : (m : ℕ) (b : Bool) → m ≡ 0 → ltb 0 (m + bit b) ≡ b
    last m true z = ltb_yes 0 (m + 1) (omega arith)
    last m false z = ap (λ (k : ℕ). ltb 0 (k + 0)) z

    go : Is (ltb 0 (count n p)) → ltb 0 (count n p + bit (p n)) ≡ (ltb 0 (count n p) || p n)
    go (is_true e) = rw e (ltb_yes 0 (count n p + bit (p n)) (omega (arith, lt_of 0 (count n p) e)))
    go (is_false e) = rw e (last (count n p) (p n) (omega (arith, ge_of 0 (count n p) e)))

pub every_none : (p : ℕ → Bool) → every 0 p ≡ true
unfolding every
every_none p = refl

pub every_more : (n : ℕ) (p : ℕ → Bool) → every n p ≡ true → p n ≡ true → every (n + 1) p ≡ true
unfolding every
every_more n p e q = rw (add-one n) (both (every n p) (p n) e q)

pub lowest_none : (f : ℕ → ℕ) (m : ℕ) → lowest 0 f m ≡ m
unfolding lowest
lowest_none f m = refl

pub lowest_more : (n : ℕ) (f : ℕ → ℕ) (m : ℕ) → lowest (n + 1) f m ≡ min (lowest n f m) (f n)
unfolding lowest
lowest_more n f m = rw (add-one n) refl

pub greatest_none : (f : ℕ → ℕ) → greatest 0 f ≡ f 0
unfolding greatest
greatest_none f = refl

pub greatest_more : (n : ℕ) (f : ℕ → ℕ) → greatest (n + 1) f ≡ max (greatest n f) (f (n + 1))
unfolding greatest
greatest_more n f = rw (add-one n) refl
