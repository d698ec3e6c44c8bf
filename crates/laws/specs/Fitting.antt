-- How many of some needs go into a number of cells at the most: as many as the smallest do. By this
-- a search for the largest set leaves out what cannot be larger. Assumes nothing.
use Rattle.std.specs.Prelude.{ℕ, ◌-◌, leb}
use Rattle.laws.specs.Sums.{sum}
use Rattle.laws.specs.Placement.{largest}
use Rattle.laws.specs.Grants.{most}

-- the sum of the r smallest of k needs: that of all less that of the others, the largest
abbrev pub smallest : ℕ → (ℕ → ℕ) → ℕ → ℕ
smallest k c r = sum k c - largest k c (k - r)

-- how many of the smallest go into v
abbrev pub fitting : ℕ → (ℕ → ℕ) → ℕ → ℕ
fitting k c v = most k (λ r. leb (smallest k c r) v)
