-- Sums and counts over the numbers below a bound, and the greatest of some numbers. Every number
-- that the planner's rules speak of (cells of a slot, slots of a job, cells evicted) is such a sum.
-- Assumes nothing.
use Rattle.std.specs.Prelude.{ℕ, zero, suc, ◌+◌, max, ◌≡◌, ◌⊎◌, Bool, true, false, ◌&&◌, ltb}

abbrev pub bit : Bool → ℕ
bit true = 1
bit false = 0

-- n where the test holds, and 0 where it does not
abbrev pub only : Bool → ℕ → ℕ
only true n = n
only false n = 0

-- f 0 + .. + f (n - 1)
unfoldable pub sum : ℕ → (ℕ → ℕ) → ℕ
sum zero f = 0
sum (suc n) f = sum n f + f n

-- how many of the numbers below n pass the test
abbrev pub count : ℕ → (ℕ → Bool) → ℕ
count n P = sum n (λ i. bit (P i))

-- the greatest of f 0, .., f n
unfoldable pub greatest : ℕ → (ℕ → ℕ) → ℕ
greatest zero f = f 0
greatest (suc n) f = max (greatest n f) (f (suc n))

-- How many of the numbers below k come before i in the order `lt`.
abbrev pub position : ℕ → (ℕ → ℕ → Bool) → ℕ → ℕ
position k lt i = count k (λ j. lt j i)

-- a strict total order
pub record Total (lt : ℕ → ℕ → Bool) : Type 0 where
  pub irreflexive : (i : ℕ) → lt i i ≡ false
  pub transitive : (i j m : ℕ) → lt i j ≡ true → lt j m ≡ true → lt i m ≡ true
  pub total : (i j : ℕ) → (i ≡ j → ⊥) → (lt i j ≡ true) ⊎ (lt j i ≡ true)

-- The order by ascending value, and among equal values the smaller number first. (Document 01's
-- rank is the position in it by priority.)
abbrev pub ascending : (ℕ → ℕ) → ℕ → ℕ → Bool
ascending p j i = ltb (p j) (p i + bit (ltb j i))

-- whether every number below n passes the test
unfoldable pub every : ℕ → (ℕ → Bool) → Bool
every zero p = true
every (suc n) p = every n p && p n
