-- Sets of the numbers below a bound, each a test, and the greatest value over all of them.
-- Assumes nothing.
use Rattle.std.specs.Prelude.{ℕ, zero, suc, max, Bool, false, ◌||◌, eqb}

-- The greatest of the values f p over all sets p of numbers below k: without k - 1, or with it. A
-- meaning: it looks at 2^k sets.
unfoldable pub greatest_set : ℕ → ((ℕ → Bool) → ℕ) → ℕ
greatest_set zero f = f (λ i. false)
greatest_set (suc k) f = max (greatest_set k f) (greatest_set k (λ p. f (λ i. p i || eqb i k)))
