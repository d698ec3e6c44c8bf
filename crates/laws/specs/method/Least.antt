-- The least of some numbers, and the highest need that a job can have beside the needs of the
-- others. Assumes nothing.
use Rattle.std.specs.Prelude.{ℕ, zero, suc, ◌-◌, min}
use Rattle.laws.specs.Placement.{capacity, largest}

-- the least of m and f 0, .., f (n - 1)
unfoldable pub lowest : ℕ → (ℕ → ℕ) → ℕ → ℕ
lowest zero f m = m
lowest (suc n) f m = min (lowest n f m) (f n)

-- What the r largest of the other needs d leave of the capacity for r + 1.
abbrev pub spare : ℕ → (ℕ → ℕ) → ℕ → (ℕ → ℕ) → ℕ → ℕ
spare k d n x r = capacity n x (suc r) - largest k d r

-- The highest need up to m that fits beside the other needs d: document 01, "as much refinement, up
-- to o, as still lets all required slots and the grants before it fit", without a try for each
-- number.
abbrev pub highest : ℕ → (ℕ → ℕ) → ℕ → (ℕ → ℕ) → ℕ → ℕ
highest k d n x m = lowest k (spare k d n x) m
