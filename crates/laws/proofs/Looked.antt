-- The number of cells that the search looks at is the place of the last cell it takes.
--
-- In order: the place of the last true: what stands there and after it (`last_true_lem`, `last_after`), at most the length (`last_le`), at least the
-- number of the true ones (`ones_le_last`), 0 exactly if none is true (`last_none`); the cells looked at: at most all of them (`looked_le`), and where
-- the call fits the place of the last one taken (`looked_last`, `looked_first`), the same from counts that agree (`looked_same`), at least those taken
-- (`ones_le_looked`), 0 exactly if none is taken (`looked_none`); examples.
-- Assumes nothing.
use Prim.Native.Nat.{ℕ, zero, suc, ◌+◌, ◌-◌, ◌≤◌, ◌<◌}
use native.Mathlib.Omega.{arith}
use mathlib.Core.Path.{◌≡◌, refl, sym, ◌∙◌, ap}
use mathlib.Core.Logic.{◌↔◌}
use mathlib.Core.Bool.{Bool, true, false}
use mathlib.Core.List.{List, [], ◌∷◌}
use lib.ListN.{length, get_or}
use lib.Dec.{ltb}
use Rattle.laws.specs.Sums.{bit}
use Rattle.laws.specs.Eviction.{put, added, ones, FirstSmallest, searched, Shortage}
use Rattle.laws.specs.Looked.{further, last_true, looked}
use Rattle.laws.proofs.Tests.{Is, is, is_true, is_false, clash}
use Rattle.laws.proofs.Comparisons.{lt_of, ge_of}
use Rattle.laws.proofs.Counts.{bit_le}
use Rattle.laws.proofs.Eviction.{moved, lowers, added_cons, searched_cons, searched_count, searched_best, searched_first, first_unique, Same, short_same}

-- ---- the place of the last true

-- what stands at that place is true
pub last_true_lem : (d : List Bool) (m : ℕ) → last_true d ≡ suc m → get_or d m false ≡ true
unfolding last_true
last_true_lem [] m e = absurd (omega arith)
last_true_lem (b ∷ d) m e = go (last_true d) refl b m e (last_true_lem d)
  where
    go : (p : ℕ) → last_true d ≡ p → (c : Bool) (q : ℕ) → further c p ≡ suc q → ((r : ℕ) → last_true d ≡ suc r → get_or d r false ≡ true)
        → get_or (c ∷ d) q false ≡ true
    go zero h true zero f ih = refl
    go zero h true (suc q) f ih = absurd (omega arith)
    go zero h false q f ih = absurd (omega arith)
    go (suc p) h c zero f ih = absurd (omega arith)
    go (suc p) h c (suc q) f ih = ih q (omega arith)

-- after it nothing is true
pub last_after : (d : List Bool) (i : ℕ) → last_true d ≤ i → get_or d i false ≡ false
unfolding last_true
last_after [] i h = refl
last_after (b ∷ d) i h = go (last_true d) refl b i h (last_after d)
  where
    go : (p : ℕ) → last_true d ≡ p → (c : Bool) (j : ℕ) → further c p ≤ j → ((r : ℕ) → last_true d ≤ r → get_or d r false ≡ false)
        → get_or (c ∷ d) j false ≡ false
    go zero f true zero l ih = absurd (omega arith)
    go zero f false zero l ih = refl
    go zero f c (suc j) l ih = ih j (omega arith)
    go (suc p) f c zero l ih = absurd (omega arith)
    go (suc p) f c (suc j) l ih = ih j (omega arith)

-- in front of tests of which one is true it is one place further, else the first test decides
further_some : (b : Bool) (p : ℕ) → 0 < p → further b p ≡ suc p
further_some b zero h = absurd (omega arith)
further_some b (suc p) h = refl

further_none : (b : Bool) (p : ℕ) → p ≡ 0 → further b p ≡ bit b
further_none b zero h = refl
further_none b (suc p) h = absurd (omega arith)

pub last_le : (d : List Bool) → last_true d ≤ length d
unfolding last_true
last_le [] = omega arith
last_le (b ∷ d) = go (last_true d) (last_le d)
  where
    go : (p : ℕ) → p ≤ length d → further b p ≤ suc (length d)
    go zero h = omega (arith, bit_le b)
    go (suc p) h = omega arith

pub ones_le_last : (d : List Bool) → ones d ≤ last_true d
unfolding last_true ones
ones_le_last [] = omega arith
ones_le_last (b ∷ d) = go (last_true d) (ones_le_last d)
  where
    go : (p : ℕ) → ones d ≤ p → bit b + ones d ≤ further b p
    go zero h = omega arith
    go (suc p) h = omega (arith, bit_le b)

none_last : (d : List Bool) → last_true d ≡ 0 → ones d ≡ 0
none_last d h = omega (arith, ones_le_last d)

last_no : (d : List Bool) → ones d ≡ 0 → last_true d ≡ 0
unfolding last_true ones
last_no [] h = refl
last_no (b ∷ d) h = omega (arith, further_none b (last_true d) (last_no d (omega arith)))

pub last_none : (d : List Bool) → (last_true d ≡ 0) ↔ (ones d ≡ 0)
last_none d = (none_last d, last_no d)

-- a place is one further where something is true at it or behind it
last_cons : (b : Bool) (d : List Bool) → 0 < ones (b ∷ d) → last_true (b ∷ d) ≡ suc (last_true d)
unfolding last_true ones
last_cons b d h = go (is (ltb 0 (last_true d)))
  where
    go : Is (ltb 0 (last_true d)) → further b (last_true d) ≡ suc (last_true d)
    go (is_true e) = further_some b (last_true d) (lt_of 0 (last_true d) e)
    go (is_false e) =
        let z : last_true d ≡ 0 = omega (arith, ge_of 0 (last_true d) e) in
        omega (arith, further_none b (last_true d) z, none_last d z, bit_le b)

-- ---- the cells looked at

-- where something is short one more cell is looked at, where nothing is none
pub looked_short : (short : (ℕ → ℕ) → ℕ) (x : ℕ → ℕ) (z : ℕ) (zs : List ℕ) → 0 < short x
    → looked short x (z ∷ zs) ≡ suc (looked short (moved x z (lowers short x z)) zs)
unfolding looked
looked_short short x z zs h = go (is (ltb 0 (short x))) (is (lowers short x z))
  where
    go : Is (ltb 0 (short x)) → Is (lowers short x z) → looked short x (z ∷ zs) ≡ suc (looked short (moved x z (lowers short x z)) zs)
    go (is_true s) (is_true e) = rw (s, looked, e)
    go (is_true s) (is_false e) = rw (s, looked, e)
    go (is_false s) t = absurd (omega (arith, ge_of 0 (short x) s))

pub looked_enough : (short : (ℕ → ℕ) → ℕ) (x : ℕ → ℕ) (zs : List ℕ) → short x ≡ 0 → looked short x zs ≡ 0
unfolding looked
looked_enough short x [] h = refl
looked_enough short x (z ∷ zs) h = go (is (ltb 0 (short x)))
  where
    go : Is (ltb 0 (short x)) → looked short x (z ∷ zs) ≡ 0
    go (is_true s) = absurd (omega (arith, lt_of 0 (short x) s))
    go (is_false s) = rw (s, looked)

-- never more than there are
pub looked_le : (short : (ℕ → ℕ) → ℕ) (x : ℕ → ℕ) (zs : List ℕ) → looked short x zs ≤ length zs
unfolding looked
looked_le short x [] = omega arith
looked_le short x (z ∷ zs) = go (looked_le short (moved x z (lowers short x z)) zs) (is (ltb 0 (short x)))
  where
    go : looked short (moved x z (lowers short x z)) zs ≤ length zs → Is (ltb 0 (short x)) → looked short x (z ∷ zs) ≤ suc (length zs)
    go ih (is_true s) = omega (arith, looked_short short x z zs (lt_of 0 (short x) s))
    go ih (is_false s) = omega (arith, looked_enough short x (z ∷ zs) (omega (arith, ge_of 0 (short x) s)))

module _ (n : ℕ) (short : (ℕ → ℕ) → ℕ) (S : Shortage n short) where
  -- where the search's own set leaves nothing short
  looked_own : (x : ℕ → ℕ) (zs : List ℕ) → short (added x zs (searched short x zs)) ≡ 0 → looked short x zs ≡ last_true (searched short x zs)
  unfolding looked searched added ones last_true
  looked_own x [] h = refl
  looked_own x (z ∷ zs) h =
      go (looked_own (moved x z (lowers short x z)) zs (sym (ap short rest) ∙ h)) (is (ltb 0 (short x)))
    where
      rest : added x (z ∷ zs) (searched short x (z ∷ zs))
          ≡ added (moved x z (lowers short x z)) zs (searched short (moved x z (lowers short x z)) zs)
      rest = rw (searched_cons, added_cons)

      go : looked short (moved x z (lowers short x z)) zs ≡ last_true (searched short (moved x z (lowers short x z)) zs)
          → Is (ltb 0 (short x)) → looked short x (z ∷ zs) ≡ last_true (searched short x (z ∷ zs))
      go ih (is_true s) =
          let some : 0 < ones (searched short x (z ∷ zs)) = omega (arith, searched_count n short S x (z ∷ zs), lt_of 0 (short x) s) in
          looked_short short x z zs (lt_of 0 (short x) s)
          ∙ ap suc ih
          ∙ sym (last_cons (lowers short x z) (searched short (moved x z (lowers short x z)) zs) (rw searched_cons at some))
          ∙ ap last_true (sym (searched_cons short x z zs))
      go ih (is_false s) =
          let z0 : short x ≡ 0 = omega (arith, ge_of 0 (short x) s) in
          looked_enough short x (z ∷ zs) z0
          ∙ sym (last_no (searched short x (z ∷ zs)) (omega (arith, searched_count n short S x (z ∷ zs))))

  -- Where some set of the cells will do, the search looks at the cells up to the last one that it takes.
  pub looked_last : (x : ℕ → ℕ) (zs : List ℕ) (e : List Bool) → length e ≡ length zs → short (added x zs e) ≡ 0
      → looked short x zs ≡ last_true (searched short x zs)
  looked_last x zs e l h = looked_own x zs (omega (arith, searched_best n short S x zs e l))

  -- It is the place of the last cell of the smallest set whose list comes first, whatever finds that set.
  pub looked_first : (x : ℕ → ℕ) (zs : List ℕ) (d : List Bool) → FirstSmallest (λ y. short y ≡ 0) x zs d → looked short x zs ≡ last_true d
  looked_first x zs d F =
      looked_last x zs d F.long F.fits
      ∙ ap last_true (first_unique (λ y. short y ≡ 0) x zs (searched short x zs) d (searched_first n short S x zs d F.long F.fits) F)

  -- from counts that agree in the n slots as many cells are looked at
  pub looked_same : (x y : ℕ → ℕ) (zs : List ℕ) → Same n x y → looked short x zs ≡ looked short y zs
  unfolding looked
  looked_same x y [] h = refl
  looked_same x y (z ∷ zs) h =
      go (looked_same (moved x z (lowers short x z)) (moved y z (lowers short y z)) zs) (is (ltb 0 (short x)))
    where
      level : short x ≡ short y
      level = short_same n short S x y h

      test : lowers short x z ≡ lowers short y z
      test =
          ap (λ (m : ℕ). ltb m (short x)) (short_same n short S (put x z) (put y z) (λ s l. omega (arith, h s l)))
          ∙ ap (ltb (short (put y z))) level

      moves : (b c : Bool) → b ≡ c → Same n (moved x z b) (moved y z c)
      moves true true e s l = omega (arith, h s l)
      moves true false e s l = absurd (clash e)
      moves false true e s l = absurd (clash (sym e))
      moves false false e s l = h s l

      go : (Same n (moved x z (lowers short x z)) (moved y z (lowers short y z))
          → looked short (moved x z (lowers short x z)) zs ≡ looked short (moved y z (lowers short y z)) zs)
          → Is (ltb 0 (short x)) → looked short x (z ∷ zs) ≡ looked short y (z ∷ zs)
      go ih (is_true s) =
          let lacks : 0 < short x = lt_of 0 (short x) s in
          looked_short short x z zs lacks
          ∙ ap suc (ih (moves (lowers short x z) (lowers short y z) test))
          ∙ sym (looked_short short y z zs (omega (arith, level)))
      go ih (is_false s) =
          let none : short x ≡ 0 = omega (arith, ge_of 0 (short x) s) in
          looked_enough short x (z ∷ zs) none ∙ sym (looked_enough short y (z ∷ zs) (sym level ∙ none))

  pub ones_le_looked : (x : ℕ → ℕ) (zs : List ℕ) (e : List Bool) → length e ≡ length zs → short (added x zs e) ≡ 0
      → ones (searched short x zs) ≤ looked short x zs
  ones_le_looked x zs e l h = omega (arith, looked_last x zs e l h, ones_le_last (searched short x zs))

  pub looked_none : (x : ℕ → ℕ) (zs : List ℕ) (e : List Bool) → length e ≡ length zs → short (added x zs e) ≡ 0
      → (looked short x zs ≡ 0) ↔ (ones (searched short x zs) ≡ 0)
  looked_none x zs e l h = rw (looked_last x zs e l h) (last_none (searched short x zs))

-- ---- examples

-- Two cells of slot 0 are wanted. Nothing is looked at where nothing is short ..
looked_nothing : looked (λ x. 2 - x 0) (λ s. 2) (0 ∷ 0 ∷ []) ≡ 0
unfolding looked
looked_nothing = refl

-- .. the cells up to the last one taken where the call fits ..
looked_three : looked (λ x. 2 - x 0) (λ s. 0) (1 ∷ 0 ∷ 0 ∷ 0 ∷ []) ≡ 3
unfolding looked
looked_three = refl

last_three : last_true (searched (λ x. 2 - x 0) (λ s. 0) (1 ∷ 0 ∷ 0 ∷ 0 ∷ [])) ≡ 3
unfolding last_true searched
last_three = refl

-- .. and all of them where it does not
looked_all : looked (λ x. 2 - x 0) (λ s. 0) (0 ∷ 1 ∷ []) ≡ 2
unfolding looked
looked_all = refl

last_one : last_true (searched (λ x. 2 - x 0) (λ s. 0) (0 ∷ 1 ∷ [])) ≡ 1
unfolding last_true searched
last_one = refl
