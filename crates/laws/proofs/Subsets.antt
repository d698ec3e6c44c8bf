-- All or none: the recursion `choice` finds the first of the largest sets that fit, for any monotone test.
--
-- In order: no preset at all is a part of every set; the first preset taken or left (`choice_taken`, `choice_left`); the set found is the first of the
-- largest (`choice_first_largest`) and no other is (`first_largest_unique`), for any meaning of fitting that agrees (`first_largest_of_iff`);
-- examples.
-- Assumes nothing.
use Prim.Native.Nat.{ℕ, zero, suc, ◌≤◌, ◌<◌}
use native.Mathlib.Nat.{le_refl}
use native.Mathlib.Omega.{arith}
use mathlib.Core.Path.{◌≡◌, refl, sym, ◌∙◌, ap}
use mathlib.Core.Logic.{◌⊎◌, inl, inr, ◌↔◌}
use mathlib.Core.Bool.{Bool, true, false, ◌&&◌}
use mathlib.Core.List.{List, [], ◌∷◌}
use lib.ListN.{length, replicate}
use lib.Dec.{leb}
use Rattle.laws.specs.Eviction.{ones, First, here}
use Rattle.laws.specs.Subsets.{Subset, end, alike, fewer, Monotone, FirstLargest, choice}
use Rattle.laws.proofs.Tests.{fails_left, fails_right, Is, is, is_true, is_false, clash, both}
use Rattle.laws.proofs.Comparisons.{le_of, gt_of, leb_yes}
use Rattle.laws.proofs.Eviction.{first_later, first_asym}

-- ---- sets

-- no preset at all is a part of every set
pub none_subset : (k : ℕ) (e : List Bool) → length e ≡ k → Subset (replicate k false) e
none_subset zero [] l = end
none_subset zero (b ∷ e) l = absurd (omega arith)
none_subset (suc k) [] l = absurd (omega arith)
none_subset (suc k) (true ∷ e) l = fewer (none_subset k e (omega arith))
none_subset (suc k) (false ∷ e) l = alike (none_subset k e (omega arith))

pub subset_long : {d e : List Bool} → Subset d e → length d ≡ length e
subset_long end = refl
subset_long (alike s) = ap suc (subset_long s)
subset_long (fewer s) = ap suc (subset_long s)

-- the test of the presets after the first, which is taken or left
pub monotone_rest : {fits : List Bool → Bool} → Monotone fits → (b : Bool) → Monotone (λ e. fits (b ∷ e))
monotone_rest mono b d e s = mono (b ∷ d) (b ∷ e) (alike s)

-- ---- the recursion, one preset at a time

module _ (fits : List Bool → Bool) (k : ℕ) where
  -- the sets found with the first preset and without it
  abbrev taken : List Bool
  taken = choice (λ e. fits (true ∷ e)) k

  abbrev left : List Bool
  left = choice (λ e. fits (false ∷ e)) k

  pub choice_taken : fits (true ∷ replicate k false) ≡ true → ones (choice (λ e. fits (false ∷ e)) k) ≤ suc (ones (choice (λ e. fits (true ∷ e)) k))
      → choice fits (suc k) ≡ true ∷ choice (λ e. fits (true ∷ e)) k
  unfolding choice
  choice_taken own most =
      let e = both (fits (true ∷ replicate k false)) (leb (ones left) (suc (ones taken))) own (leb_yes (ones left) (suc (ones taken)) most) in
      rw (e, choice)

  pub choice_left : (fits (true ∷ replicate k false) && leb (ones (choice (λ e. fits (false ∷ e)) k)) (suc (ones (choice (λ e. fits (true ∷ e)) k)))) ≡ false
      → choice fits (suc k) ≡ false ∷ choice (λ e. fits (false ∷ e)) k
  unfolding choice
  choice_left e = rw (e, choice)

-- ---- the set found is the first of the largest

-- whatever is found for the rest is found for a preset more
module _ (fits : List Bool → Bool) (k : ℕ) (mono : Monotone fits) where
  abbrev Best : List Bool → Type 0
  Best d = FirstLargest (λ e. fits e ≡ true) (suc k) d

  abbrev BestRest : Bool → List Bool → Type 0
  BestRest b d = FirstLargest (λ e. fits (b ∷ e) ≡ true) k d

  with_first : (t l : List Bool) → BestRest true t → BestRest false l → ones l ≤ suc (ones t) → Best (true ∷ t)
  unfolding ones
  with_first t l T L more = record { long = ap suc T.long; fits = T.fits; largest = size; first = order }
    where
      size : (e : List Bool) → length e ≡ suc k → fits e ≡ true → ones e ≤ ones (true ∷ t)
      size [] m f = absurd (omega arith)
      size (true ∷ e) m f = omega (arith, T.largest e (omega arith) f)
      size (false ∷ e) m f = omega (arith, L.largest e (omega arith) f)

      order : (e : List Bool) → length e ≡ suc k → fits e ≡ true → ones e ≡ ones (true ∷ t) → (e ≡ true ∷ t) ⊎ First (true ∷ t) e
      order [] m f same = absurd (omega arith)
      order (true ∷ e) m f same = first_later true (T.first e (omega arith) f (omega arith))
      order (false ∷ e) m f same = inr here

  -- without the first preset: each set that has it is smaller, or does not fit
  without_first : (l : List Bool) → BestRest false l → ((e : List Bool) → length e ≡ k → fits (true ∷ e) ≡ true → suc (ones e) < ones l) → Best (false ∷ l)
  unfolding ones
  without_first l L less = record { long = ap suc L.long; fits = L.fits; largest = size; first = order }
    where
      size : (e : List Bool) → length e ≡ suc k → fits e ≡ true → ones e ≤ ones (false ∷ l)
      size [] m f = absurd (omega arith)
      size (true ∷ e) m f = omega (arith, less e (omega arith) f)
      size (false ∷ e) m f = omega (arith, L.largest e (omega arith) f)

      order : (e : List Bool) → length e ≡ suc k → fits e ≡ true → ones e ≡ ones (false ∷ l) → (e ≡ false ∷ l) ⊎ First (false ∷ l) e
      order [] m f same = absurd (omega arith)
      order (true ∷ e) m f same = absurd (omega (arith, less e (omega arith) f))
      order (false ∷ e) m f same = first_later false (L.first e (omega arith) f (omega arith))

-- Where the empty set fits, the set found is the first of the largest ones that fit.
pub choice_first_largest : (fits : List Bool → Bool) → Monotone fits → (k : ℕ) → fits (replicate k false) ≡ true
    → FirstLargest (λ e. fits e ≡ true) k (choice fits k)
unfolding choice
choice_first_largest fits mono zero h = record { long = refl; fits = h; largest = size; first = order }
  where
    size : (e : List Bool) → length e ≡ 0 → fits e ≡ true → ones e ≤ ones []
    size [] m f = le_refl (ones [])
    size (b ∷ e) m f = absurd (omega arith)

    order : (e : List Bool) → length e ≡ 0 → fits e ≡ true → ones e ≡ ones [] → (e ≡ []) ⊎ First [] e
    order [] m f same = inl refl
    order (b ∷ e) m f same = absurd (omega arith)
choice_first_largest fits mono (suc k) h =
    go (is (fits (true ∷ replicate k false))) (choice_first_largest (λ e. fits (true ∷ e)) (monotone_rest mono true) k)
    (choice_first_largest (λ e. fits (false ∷ e)) (monotone_rest mono false) k h)
  where
    go : Is (fits (true ∷ replicate k false))
        → (fits (true ∷ replicate k false) ≡ true → FirstLargest (λ e. fits (true ∷ e) ≡ true) k (taken fits k))
        → FirstLargest (λ e. fits (false ∷ e) ≡ true) k (left fits k)
        → FirstLargest (λ e. fits e ≡ true) (suc k) (choice fits (suc k))
    go (is_false never) T L =
        rw (choice_left fits k (fails_left (fits (true ∷ replicate k false)) _ never))
        (without_first fits k mono (left fits k) L
        (λ e l f. absurd (clash (sym (mono (true ∷ replicate k false) (true ∷ e) (alike (none_subset k e l)) f) ∙ never))))
    go (is_true own) T L = size (is (leb (ones (left fits k)) (suc (ones (taken fits k)))))
      where
        size : Is (leb (ones (left fits k)) (suc (ones (taken fits k)))) → FirstLargest (λ e. fits e ≡ true) (suc k) (choice fits (suc k))
        size (is_true e) =
            let more = le_of (ones (left fits k)) (suc (ones (taken fits k))) e in
            rw (choice_taken fits k own more) (with_first fits k mono (taken fits k) (left fits k) (T own) L more)
        size (is_false e) =
            let less = gt_of (ones (left fits k)) (suc (ones (taken fits k))) e in
            rw (choice_left fits k (fails_right (fits (true ∷ replicate k false)) _ e))
            (without_first fits k mono (left fits k) L (λ d l f. omega (arith, (T own).largest d l f)))

-- No other list is the first of the largest.
pub first_largest_unique : (Fits : List Bool → Type 0) (k : ℕ) (d e : List Bool) → FirstLargest Fits k d → FirstLargest Fits k e → d ≡ e
first_largest_unique Fits k d e D E = go (E.first d D.long D.fits size) (D.first e E.long E.fits (sym size))
  where
    size : ones d ≡ ones e
    size = omega (arith, D.largest e E.long E.fits, E.largest d D.long D.fits)

    go : (d ≡ e) ⊎ First e d → (e ≡ d) ⊎ First d e → d ≡ e
    go (inl q) g = q
    go (inr f) (inl q) = sym q
    go (inr f) (inr g) = absurd (first_asym f g)

-- The same sets are the first of the largest for any meaning of fitting that agrees.
pub first_largest_of_iff : (Fits Fits' : List Bool → Type 0) (k : ℕ) → ((e : List Bool) → length e ≡ k → Fits e ↔ Fits' e) → (d : List Bool)
    → FirstLargest Fits k d → FirstLargest Fits' k d
first_largest_of_iff Fits Fits' k same d F =
    record {
      long = F.long;
      fits = (same d F.long).0 F.fits;
      largest = λ e l h. F.largest e l ((same e l).1 h);
      first = λ e l h. F.first e l ((same e l).1 h);
    }

-- ---- examples

-- every set fits; none but the empty one; each of one preset, of which the first is taken
all_taken : choice (λ e. true) 3 ≡ true ∷ true ∷ true ∷ []
unfolding choice ones
all_taken = refl

none_taken : choice (λ e. leb (ones e) 0) 3 ≡ false ∷ false ∷ false ∷ []
unfolding choice ones
none_taken = refl

first_taken : choice (λ e. leb (ones e) 1) 3 ≡ true ∷ false ∷ false ∷ []
unfolding choice ones
first_taken = refl
