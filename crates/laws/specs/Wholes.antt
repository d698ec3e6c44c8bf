-- Presets that get all of their optional slots or none (request 2026-13): what a set of them needs,
-- and how large it can be at the most. Assumes nothing.
use Rattle.std.specs.Prelude.{ℕ, ◌-◌, Bool, true, false, List, [], ◌∷◌, length}
use Rattle.laws.specs.Sums.{sum}
use Rattle.laws.specs.Lists.{at}
use Rattle.laws.specs.Placement.{capacity}
use Rattle.laws.specs.Grants.{raised}
use Rattle.laws.specs.Fitting.{fitting}

-- The needs n where the presets of a set have all of their optional slots o beside what they need;
-- `ws` are the whole presets in rank order.
unfoldable pub met : List ℕ → List ℕ → List Bool → List ℕ → List ℕ
met o [] e n = n
met o (w ∷ ws) [] n = n
met o (w ∷ ws) (true ∷ e) n = met o ws e (raised n w (at o w))
met o (w ∷ ws) (false ∷ e) n = met o ws e n

-- How many of the presets ws, those that are left, can be met beside the needs n of k presets so
-- far, at the most: as many as the shortest of them that go into the capacity less all needs so
-- far.
abbrev pub bound : ℕ → ℕ → (ℕ → ℕ) → List ℕ → List ℕ → List ℕ → ℕ
bound k m x o ws n = fitting (length ws) (λ j. at o (at ws j)) (capacity m x k - sum k (at n))
