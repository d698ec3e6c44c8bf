-- How deep a search for cells to evict has cut: the place of the last cell it took, and the number
-- of cells it looked at (request 2026-10). The meaning is `last_true` of the set found; `looked` is
-- what a search counts that stops when nothing is short. proofs/ shows that they agree. Assumes
-- nothing.
use Rattle.std.specs.Prelude.{ℕ, zero, suc, Bool, true, false, List, [], ◌∷◌, ltb}
use Rattle.laws.specs.Sums.{bit}
use Rattle.laws.specs.Eviction.{put}

-- one place further in front of a test b: where nothing was true behind it, the test decides
abbrev pub further : Bool → ℕ → ℕ
further b zero = bit b
further b (suc m) = suc (suc m)

-- The place of the last true, counted from 1, or 0 if none is true. Request 2026-10: "the place of
-- the last lost cell .. counted from 1, or 0 when none is lost".
unfoldable pub last_true : List Bool → ℕ
last_true [] = 0
last_true (b ∷ d) = further b (last_true d)

-- How many cells a search tries: it walks the cells in order, takes each one that lowers the
-- shortage, and stops where nothing is short.
unfoldable pub looked : ((ℕ → ℕ) → ℕ) → (ℕ → ℕ) → List ℕ → ℕ
looked short x [] = 0
looked short x (z ∷ zs) =
    elim (ltb 0 (short x)) [
      | true ↦ elim (ltb (short (put x z)) (short x)) [ true ↦ suc (looked short (put x z) zs) | false ↦ suc (looked short x zs) ]
      | false ↦ 0
    ]
