-- Cells in a slot: who takes which of the free ones.
-- Assumes nothing.
use Rattle.std.specs.Prelude.{ℕ, Bool, ◌&&◌, cond, eqb}
use Rattle.laws.specs.Sums.{sum, only, count}

-- In one slot the jobs of the test `a` take the cells of the test `f`: job i takes cell b if it is
-- one of the jobs, b is free, and as many of the jobs come before i as free cells come before b.
-- Document 01: "The chosen, in file order, take the free bridges in ascending order".
abbrev pub takes : (ℕ → Bool) → (ℕ → Bool) → ℕ → ℕ → Bool
takes a f i b = f b && a i && eqb (count i a) (count b f)

-- What cell b of the slot then holds: a free cell what the job writes that takes it, `v i`, or 0 if
-- none does; any other cell what it held.
abbrev pub slot_cell : ℕ → (ℕ → Bool) → (ℕ → Bool) → (ℕ → ℕ) → (ℕ → ℕ) → ℕ → ℕ
slot_cell k a f v t b = cond (f b) (sum k (λ i. only (takes a f i b) (v i))) (t b)
