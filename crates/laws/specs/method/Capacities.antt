-- The capacities from a table of how many slots have at least so many free cells. Document 02,
-- 2026-04: "get the same room from a table of how many slots have at least one, two, up to eight
-- free bridges". Assumes nothing.
use Rattle.std.specs.Prelude.{ℕ, ◌+◌, ◌-◌, ◌<◌, max, ◌≡◌, List, length, get_or, leb}
use Rattle.laws.specs.Sums.{sum, count, greatest}
use Rattle.laws.specs.Lists.{at}

-- The table of the free cells x of n slots: for r from 1 to 8 entry r is how many slots have at
-- least r. The first entry stands at 0 of the list.
pub record AtLeast (l : List ℕ) (n : ℕ) (x : ℕ → ℕ) : Type 0 where
  pub long : length l ≡ 8
  pub each : (r : ℕ) → r < 8 → get_or l r 0 ≡ count n (λ s. leb (r + 1) (x s))

-- the capacity for r from it: the sum of the entries 1 to r
abbrev pub capacity_from : List ℕ → ℕ → ℕ
capacity_from l r = sum r (at l)

-- By how much needs exceed such capacities at the worst, from the sums of the r largest for r up to
-- 8 and all of them together: these against the capacity for 8, which is that for more.
abbrev pub excess_over : (ℕ → ℕ) → ℕ → (ℕ → ℕ) → ℕ
excess_over sums total limit = max (greatest 8 (λ r. sums r - limit r)) (total - limit 8)
