-- Eviction for jobs with windows: the search of Eviction, with the excess over sets of jobs for its shortage, finds the first smallest set of cells.
--
-- In order: as many cells as are short, if some set will do (`window_searched_ones`); the first smallest set with which a placement within
-- windows exists (`window_searched_first`); no set will do where the search's does not (`window_searched_none`).
-- Assumes nothing.
use Prim.Native.Nat.{ℕ}
use native.Mathlib.Omega.{arith}
use mathlib.Core.Path.{◌≡◌}
use mathlib.Core.Bool.{Bool}
use mathlib.Core.List.{List}
use lib.ListN.{length}
use Rattle.laws.specs.Eviction.{added, ones, FirstSmallest, searched}
use Rattle.laws.specs.Placement.{Placed}
use Rattle.laws.specs.Windows.{window_excess}
use Rattle.laws.proofs.Eviction.{searched_best, searched_first, searched_ones, first_smallest_of_iff}
use Rattle.laws.proofs.WindowExcess.{window_shortage}
use Rattle.laws.proofs.FirstPlacement.{hall}

module _ (k : ℕ) (c : ℕ → ℕ) (n : ℕ) (w : ℕ → ℕ → Bool) where
  -- the jobs have a placement within windows in the free cells y
  abbrev pub FitWithin : (ℕ → ℕ) → Type 0
  FitWithin y = (a : ℕ → ℕ → Bool) × Placed w k c n y a

  -- the cells that the search takes
  abbrev pub window_searched : (ℕ → ℕ) → List ℕ → List Bool
  window_searched = searched (λ y. window_excess k c n y w)

  module _ (x : ℕ → ℕ) (zs : List ℕ) (e : List Bool) (l : length e ≡ length zs) (fits : FitWithin (added x zs e)) where
    -- a set that will do leaves no excess
    fits_none : window_excess k c n (added x zs e) w ≡ 0
    fits_none = (hall k c n (added x zs e) w).1 fits

    -- if some set will do, the search takes as many cells as are short
    pub window_searched_ones : ones (window_searched x zs) ≡ window_excess k c n x w
    window_searched_ones = searched_ones n (λ y. window_excess k c n y w) (window_shortage k c n w) x zs e l fits_none

    -- Of the smallest sets that will do the search takes the one whose list comes first.
    pub window_searched_first : FirstSmallest FitWithin x zs (window_searched x zs)
    window_searched_first =
        first_smallest_of_iff (λ y. window_excess k c n y w ≡ 0) FitWithin (λ y. hall k c n y w) x zs (window_searched x zs)
        (searched_first n (λ y. window_excess k c n y w) (window_shortage k c n w) x zs e l fits_none)

  -- where the search's set will not do, none will
  pub window_searched_none : (x : ℕ → ℕ) (zs : List ℕ) → (FitWithin (added x zs (window_searched x zs)) → ⊥) → (e : List Bool) → length e ≡ length zs
      → FitWithin (added x zs e) → ⊥
  window_searched_none x zs fails e l fits =
      fails
      ((hall k c n (added x zs (window_searched x zs)) w).0
      (omega (
        arith,
        searched_best n (λ y. window_excess k c n y w) (window_shortage k c n w) x zs e l,
        (hall k c n (added x zs e) w).1 fits,
      )))
