-- Grants in rank order, over any test of fitting and any order of ranks.
-- Assumes nothing.
use Rattle.std.specs.Prelude.{ℕ, zero, suc, ◌+◌, Bool, true, false, List, length, set, eqb}
use Rattle.laws.specs.Sums.{only}
use Rattle.laws.specs.Lists.{at, tabulate}

-- the largest number up to o that passes the test, or 0
unfoldable pub most : ℕ → (ℕ → Bool) → ℕ
most zero t = 0
most (suc o) t =
    let r = most o t in
    elim (t (suc o)) [ true ↦ suc o | false ↦ r ]

-- the needs with that of job i raised by g
abbrev pub raised : List ℕ → ℕ → ℕ → List ℕ
raised l i g = set l i (at l i + g)

-- The needs after the turn of rank r: the job of that rank is raised by as much as still fits, up
-- to `at o i`.
unfoldable pub turn : (List ℕ → Bool) → (ℕ → ℕ) → List ℕ → ℕ → List ℕ → List ℕ
turn fits rank o r n = tabulate (length n) (λ i. at n i + only (eqb (rank i) r) (most (at o i) (λ g. fits (raised n i g))))

-- The needs after the first r ranks. Document 01: "in rank order each preset gets as much
-- refinement, up to o, as still lets all required slots and the grants before it fit".
unfoldable pub granted : (List ℕ → Bool) → (ℕ → ℕ) → List ℕ → List ℕ → ℕ → List ℕ
granted fits rank o l zero = l
granted fits rank o l (suc r) = turn fits rank o r (granted fits rank o l r)
