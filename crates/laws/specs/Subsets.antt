-- Sets of presets of which the first of the largest that fit is wanted (request 2026-13). A set is
-- a list of tests in rank order, true where it has the preset. The meaning is `FirstLargest`;
-- `choice` is the method, and proofs/ shows that it computes the meaning. Assumes nothing.
use Rattle.std.specs.Prelude.{ℕ, zero, suc, ◌≤◌, ◌≡◌, ◌⊎◌, Bool, true, false, ◌&&◌, List, [], ◌∷◌, length, replicate, leb}
use Rattle.laws.specs.Eviction.{ones, First}

-- d is a part of e: of the same presets it has none that e has not
pub data Subset : List Bool → List Bool → Type 0 where
  end : Subset [] []
  alike : {b : Bool} {d e : List Bool} → Subset d e → Subset (b ∷ d) (b ∷ e)
  fewer : {d e : List Bool} → Subset d e → Subset (false ∷ d) (true ∷ e)

-- what passes the test passes it in part, too
abbrev pub Monotone : (List Bool → Bool) → Type 0
Monotone fits = (d e : List Bool) → Subset d e → fits e ≡ true → fits d ≡ true

-- Request 2026-13: "Of the sets of whole presets whose refinement fits with all required slots, the
-- largest is taken; of equal ones, the set that has the better-ranked preset at the first rank
-- where they differ", for k whole presets and any meaning of `Fits`.
pub record FirstLargest (Fits : List Bool → Type 0) (k : ℕ) (d : List Bool) : Type 0 where
  pub long : length d ≡ k
  pub fits : Fits d
  pub largest : (e : List Bool) → length e ≡ k → Fits e → ones e ≤ ones d
  pub first : (e : List Bool) → length e ≡ k → Fits e → ones e ≡ ones d → (e ≡ d) ⊎ First d e

-- The set by recursion: with the first preset where that fits and leads to a set at least as large
-- as without it.
unfoldable pub choice : (List Bool → Bool) → ℕ → List Bool
choice fits zero = []
choice fits (suc k) =
    let taken = choice (λ e. fits (true ∷ e)) k in
    let left = choice (λ e. fits (false ∷ e)) k in
    elim (fits (true ∷ replicate k false) && leb (ones left) (suc (ones taken))) [ true ↦ true ∷ taken | false ↦ false ∷ left ]
