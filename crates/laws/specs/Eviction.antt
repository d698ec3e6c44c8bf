-- Eviction: which of a list of cells to free so that a call fits. A cell is named by its slot; the
-- list is in eviction order. A set of the cells is a list of tests beside it, true where the cell
-- is evicted. Assumes nothing.
use Rattle.std.specs.Prelude.{ℕ, suc, ◌+◌, ◌≤◌, ◌<◌, ◌≡◌, ◌⊎◌, Bool, true, false, List, [], ◌∷◌, length, replicate, eqb, ltb}
use Rattle.laws.specs.Sums.{bit, only}

-- one more free cell in slot z
abbrev pub put : (ℕ → ℕ) → ℕ → ℕ → ℕ
put x z s = x s + bit (eqb s z)

-- the free cells with those of the set
unfoldable pub added : (ℕ → ℕ) → List ℕ → List Bool → ℕ → ℕ
added x [] e = x
added x (z ∷ zs) [] = x
added x (z ∷ zs) (true ∷ e) = added (put x z) zs e
added x (z ∷ zs) (false ∷ e) = added x zs e

-- the size of a set
unfoldable pub ones : List Bool → ℕ
ones [] = 0
ones (b ∷ e) = bit b + ones e

-- how many of the set's cells stand in slot s
unfoldable pub evicted_in : List ℕ → List Bool → ℕ → ℕ
evicted_in [] e s = 0
evicted_in (z ∷ zs) [] s = 0
evicted_in (z ∷ zs) (b ∷ e) s = only b (bit (eqb s z)) + evicted_in zs e s

-- the evicted cells of priority p or better: how many places are true in both, w the cells of that
-- priority
unfoldable pub marked : List Bool → List Bool → ℕ
marked [] e = 0
marked (v ∷ w) [] = 0
marked (v ∷ w) (b ∷ e) = only v (bit b) + marked w e

-- all false before all true: the cells of priority p or better stand last in the eviction order
pub data Rising : List Bool → Type 0 where
  high : (m : ℕ) → Rising (replicate m true)
  low : {w : List Bool} → Rising w → Rising (false ∷ w)

-- Two sets of one size, each written as a list in eviction order: d comes first, that is, at the
-- first cell where they differ it is d that has the cell.
pub data First : List Bool → List Bool → Type 0 where
  here : {d e : List Bool} → First (true ∷ d) (false ∷ e)
  later : {b : Bool} {d e : List Bool} → First d e → First (b ∷ d) (b ∷ e)

-- Document 01, "The lost cells: of the smallest sets with which the call fits, each written as a
-- list in the order of loss, the one whose list comes first", for any meaning of `Fits`.
pub record FirstSmallest (Fits : (ℕ → ℕ) → Type 0) (x : ℕ → ℕ) (zs : List ℕ) (d : List Bool) : Type 0 where
  pub long : length d ≡ length zs
  pub fits : Fits (added x zs d)
  pub smallest : (e : List Bool) → length e ≡ length zs → Fits (added x zs e) → ones d ≤ ones e
  pub first : (e : List Bool) → length e ≡ length zs → Fits (added x zs e) → ones e ≡ ones d → (e ≡ d) ⊎ First d e

-- The search: walk the cells in order and take each one that lowers the shortage.
unfoldable pub searched : ((ℕ → ℕ) → ℕ) → (ℕ → ℕ) → List ℕ → List Bool
searched short x [] = []
searched short x (z ∷ zs) =
    elim (ltb (short (put x z)) (short x)) [ true ↦ true ∷ searched short (put x z) zs | false ↦ false ∷ searched short x zs ]

-- What T4 needs of a shortage: more free cells never raise it, one cell lowers it by at most 1, and
-- a cell that does not lower it does not lower it later either.
pub record Shortage (n : ℕ) (short : (ℕ → ℕ) → ℕ) : Type 0 where
  pub mono : (x y : ℕ → ℕ) → ((s : ℕ) → s < n → x s ≤ y s) → short y ≤ short x
  pub by_one : (x : ℕ → ℕ) (z : ℕ) → short x ≤ suc (short (put x z))
  pub stays : (x y : ℕ → ℕ) (z : ℕ) → ((s : ℕ) → s < n → x s ≤ y s) → short (put x z) ≡ short x → short (put y z) ≡ short y
