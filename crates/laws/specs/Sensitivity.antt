-- What one more free cell may do to numbers that were granted (request 2026-14).
-- Assumes nothing.
use Rattle.std.specs.Prelude.{ℕ, suc, ◌<◌, ◌≡◌}
use Rattle.laws.specs.Eviction.{put}

-- Of n slots, y has the free cells of x and one more in slot z, or just those of x if z is none of
-- the slots. Request 2026-14: "One busy cell made empty, all else equal".
abbrev pub OneMore : ℕ → (ℕ → ℕ) → ℕ → (ℕ → ℕ) → Type 0
OneMore n x z y = (s : ℕ) → s < n → y s ≡ put x z s

-- Of the first k numbers none falls and at most one rises, by 1: m has those of n, or those of n
-- with one higher by 1.
pub data OneRaised (k : ℕ) (n m : ℕ → ℕ) : Type 0 where
  none_rises : ((i : ℕ) → i < k → m i ≡ n i) → OneRaised k n m
  one_rises : (j : ℕ) → j < k → m j ≡ suc (n j) → ((i : ℕ) → i < k → (i ≡ j → ⊥) → m i ≡ n i) → OneRaised k n m
