-- Lists of numbers as functions.
-- Assumes nothing.
use Rattle.std.specs.Prelude.{ℕ, zero, suc, List, [], ◌∷◌, get_or}

-- the number at a place: past the end it is 0
abbrev pub at : List ℕ → ℕ → ℕ
at l i = get_or l i 0

-- the list of f 0, .., f (n - 1)
unfoldable pub tabulate : ℕ → (ℕ → ℕ) → List ℕ
tabulate zero f = []
tabulate (suc n) f = f 0 ∷ tabulate n (λ i. f (suc i))
