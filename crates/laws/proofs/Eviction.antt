-- Eviction: the search takes the fewest cells after every position, and its set is the first of the smallest ones.
--
-- In order: sets of cells and what they add; the search over any shortage (how many cells it takes, that no set does better, fewest after every
-- position, for a priority and in all), and from free cells that agree below n (`searched_same`, `added_same`); over two shortages that agree where it looks (`searched_agree`); the first smallest set; the excess over a capacity is a shortage.
-- What one cell more does to a capacity is in Capacities.
-- Assumes nothing.
use Prim.Native.Nat.{ℕ, zero, suc, ◌+◌, ◌-◌, ◌≤◌, ◌<◌, zero-le}
use native.Mathlib.Nat.{le_refl}
use native.Mathlib.Omega.{arith}
use mathlib.Core.Path.{◌≡◌, refl, sym, ◌∙◌, ap}
use mathlib.Core.Logic.{◌⊎◌, inl, inr, ◌↔◌}
use mathlib.Core.Bool.{Bool, true, false}
use mathlib.Core.List.{List, [], ◌∷◌}
use lib.ListN.{length, take, drop, replicate}
use lib.Dec.{ltb, leb}
use Rattle.laws.specs.Sums.{bit, greatest}
use Rattle.laws.specs.Placement.{capacity}
use Rattle.laws.specs.Eviction.{put, added, ones, evicted_in, marked, Rising, high, low, First, here, later, FirstSmallest, searched, Shortage}
use Rattle.laws.proofs.Tests.{Is, is, is_true, is_false}
use Rattle.laws.proofs.Comparisons.{lt_of, ge_of, le_of, gt_of}
use Rattle.laws.proofs.Sums.{greatest_bounds, greatest_attained}
use Rattle.laws.proofs.Capacities.{Below, capacity_mono, capacity_spread, capacity_put_le, capacity_put_same, capacity_put_full}

-- ---- sets of cells

pub ones_take_drop : (m : ℕ) (e : List Bool) → ones (take m e) + ones (drop m e) ≡ ones e
unfolding ones
ones_take_drop zero e = omega arith
ones_take_drop (suc m) [] = refl
ones_take_drop (suc m) (b ∷ e) = omega (arith, ones_take_drop m e)

-- what a set of cells adds in slot s is the number of its cells in s
pub added_at : (x : ℕ → ℕ) (zs : List ℕ) (e : List Bool) (s : ℕ) → added x zs e s ≡ x s + evicted_in zs e s
unfolding added evicted_in
added_at x [] e s = omega arith
added_at x (z ∷ zs) [] s = omega arith
added_at x (z ∷ zs) (true ∷ e) s = omega (arith, added_at (put x z) zs e s)
added_at x (z ∷ zs) (false ∷ e) s = omega (arith, added_at x zs e s)

-- the free cells after one cell was taken or left
abbrev pub moved : (ℕ → ℕ) → ℕ → Bool → ℕ → ℕ
moved x z true = put x z
moved x z false = x

pub added_cons : (x : ℕ → ℕ) (z : ℕ) (zs : List ℕ) (b : Bool) (e : List Bool) → added x (z ∷ zs) (b ∷ e) ≡ added (moved x z b) zs e
unfolding added
added_cons x z zs true e = refl
added_cons x z zs false e = refl

-- whether a cell in slot z lowers the shortage, so that the search takes it
abbrev pub lowers : ((ℕ → ℕ) → ℕ) → (ℕ → ℕ) → ℕ → Bool
lowers short x z = ltb (short (put x z)) (short x)

pub searched_cons : (short : (ℕ → ℕ) → ℕ) (x : ℕ → ℕ) (z : ℕ) (zs : List ℕ)
    → searched short x (z ∷ zs) ≡ lowers short x z ∷ searched short (moved x z (lowers short x z)) zs
unfolding searched
searched_cons short x z zs = go (is (lowers short x z))
  where
    go : Is (lowers short x z) → searched short x (z ∷ zs) ≡ lowers short x z ∷ searched short (moved x z (lowers short x z)) zs
    go (is_true e) = rw (e, searched)
    go (is_false e) = rw (e, searched)

-- the search at its first cell, taken or left
pub searched_true : (short : (ℕ → ℕ) → ℕ) (x : ℕ → ℕ) (z : ℕ) (zs : List ℕ) → lowers short x z ≡ true → searched short x (z ∷ zs) ≡ true ∷ searched short (put x z) zs
searched_true short x z zs e = searched_cons short x z zs ∙ rw e

pub searched_false : (short : (ℕ → ℕ) → ℕ) (x : ℕ → ℕ) (z : ℕ) (zs : List ℕ) → lowers short x z ≡ false → searched short x (z ∷ zs) ≡ false ∷ searched short x zs
searched_false short x z zs e = searched_cons short x z zs ∙ rw e

pub searched_long : (short : (ℕ → ℕ) → ℕ) (x : ℕ → ℕ) (zs : List ℕ) → length (searched short x zs) ≡ length zs
unfolding searched
searched_long short x [] = refl
searched_long short x (z ∷ zs) = rw searched_cons (ap suc (searched_long short (moved x z (lowers short x z)) zs))

marked_all : (m : ℕ) (e : List Bool) → length e ≡ length (replicate m true) → marked (replicate m true) e ≡ ones e
unfolding marked ones
marked_all zero [] l = refl
marked_all zero (b ∷ e) l = omega arith
marked_all (suc m) [] l = refl
marked_all (suc m) (b ∷ e) l = omega (arith, marked_all m e (omega arith))

-- the cells of a rising weight are those after some position
pub rising_drop : {w : List Bool} → Rising w → (m : ℕ) × ((e : List Bool) → length e ≡ length w → marked w e ≡ ones (drop m e))
unfolding marked ones
rising_drop (high m) = (0, marked_all m)
rising_drop (low {w = w} r) = go (rising_drop r)
  where
    go : ((m : ℕ) × ((e : List Bool) → length e ≡ length w → marked w e ≡ ones (drop m e)))
        → (m : ℕ) × ((e : List Bool) → length e ≡ suc (length w) → marked (false ∷ w) e ≡ ones (drop m e))
    go p = (suc p.0, next)
      where
        next : (e : List Bool) → length e ≡ suc (length w) → marked (false ∷ w) e ≡ ones (drop (suc p.0) e)
        next [] l = refl
        next (b ∷ e) l = omega (arith, p.1 e (omega arith))

-- two lists with the same cell in front
pub first_later : (b : Bool) {d e : List Bool} → (e ≡ d) ⊎ First d e → (b ∷ e ≡ b ∷ d) ⊎ First (b ∷ d) (b ∷ e)
first_later b (inl q) = inl (rw q refl)
first_later b (inr f) = inr (later f)

-- where d has no more than e after every position, and as many in all, d comes first
pub first_of_drops : (d e : List Bool) → length d ≡ length e → ((m : ℕ) → ones (drop m d) ≤ ones (drop m e)) → ones e ≤ ones d → (e ≡ d) ⊎ First d e
unfolding ones
first_of_drops [] [] l h c = inl refl
first_of_drops [] (b ∷ e) l h c = absurd (omega arith)
first_of_drops (a ∷ d) [] l h c = absurd (omega arith)
first_of_drops (true ∷ d) (true ∷ e) l h c = first_later true (first_of_drops d e (omega arith) (λ m. h (suc m)) (omega arith))
first_of_drops (true ∷ d) (false ∷ e) l h c = inr here
first_of_drops (false ∷ d) (true ∷ e) l h c = absurd (omega (arith, h 1))
first_of_drops (false ∷ d) (false ∷ e) l h c = first_later false (first_of_drops d e (omega arith) (λ m. h (suc m)) (omega arith))

-- how two lists of tests compare at the first place where they differ: 2 where the left one is true there, 0 where the right one is, 1 where there is none
leads_by : List Bool → List Bool → ℕ
leads_by [] e = 1
leads_by (b ∷ d) [] = 1
leads_by (true ∷ d) (true ∷ e) = leads_by d e
leads_by (true ∷ d) (false ∷ e) = 2
leads_by (false ∷ d) (true ∷ e) = 0
leads_by (false ∷ d) (false ∷ e) = leads_by d e

first_leads : {d e : List Bool} → First d e → leads_by d e ≡ 2
unfolding leads_by
first_leads here = refl
first_leads (later {b = true} f) = first_leads f
first_leads (later {b = false} f) = first_leads f

first_trails : {d e : List Bool} → First d e → leads_by e d ≡ 0
unfolding leads_by
first_trails here = refl
first_trails (later {b = true} f) = first_trails f
first_trails (later {b = false} f) = first_trails f

pub first_asym : {d e : List Bool} → First d e → First e d → ⊥
first_asym f g = omega (arith, first_leads f, first_trails g)

-- ---- the search, over any shortage

-- a cell more on the right, and a cell more or not on the left
moved_below : (n : ℕ) (x y : ℕ → ℕ) (z : ℕ) (b : Bool) → Below n x y → Below n (moved x z b) (put y z)
moved_below n x y z true h s l = omega (arith, h s l)
moved_below n x y z false h s l = omega (arith, h s l)

-- What the search has (x) and another set (y) stand below all cells so far (a), and the search lacks no more than with all of them.
record Along (n : ℕ) (short : (ℕ → ℕ) → ℕ) (x y a : ℕ → ℕ) : Type 0 where
  below : Below n x a
  other : Below n y a
  level : short x ≡ short a

module _ (n : ℕ) (short : (ℕ → ℕ) → ℕ) (S : Shortage n short) where
  put_short : (x : ℕ → ℕ) (z : ℕ) → short (put x z) ≤ short x
  put_short x z = S.mono x (put x z) (λ s l. omega arith)

  -- a cell is taken exactly if it lowers the shortage by one
  lowers_short : (x : ℕ → ℕ) (z : ℕ) → bit (lowers short x z) + short (put x z) ≡ short x
  lowers_short x z = go (is (lowers short x z))
    where
      go : Is (lowers short x z) → bit (lowers short x z) + short (put x z) ≡ short x
      go (is_true e) = omega (arith, ap bit e, lt_of (short (put x z)) (short x) e, S.by_one x z)
      go (is_false e) = omega (arith, ap bit e, ge_of (short (put x z)) (short x) e, put_short x z)

  -- the search moves on with the shortage that the cell gives, taken or left
  moved_short : (x : ℕ → ℕ) (z : ℕ) → short (moved x z (lowers short x z)) ≡ short (put x z)
  moved_short x z = go (lowers short x z) (lowers_short x z)
    where
      go : (b : Bool) → bit b + short (put x z) ≡ short x → short (moved x z b) ≡ short (put x z)
      go true e = refl
      go false e = omega arith

  -- as many cells are taken as the shortage falls by
  pub searched_count : (x : ℕ → ℕ) (zs : List ℕ) → ones (searched short x zs) + short (added x zs (searched short x zs)) ≡ short x
  unfolding searched added ones
  searched_count x [] = omega arith
  searched_count x (z ∷ zs) =
      rw (searched_cons, added_cons)
      (omega (arith, searched_count (moved x z (lowers short x z)) zs, lowers_short x z, moved_short x z))

  -- a set lowers the shortage by at most its size
  pub added_short : (x : ℕ → ℕ) (zs : List ℕ) (e : List Bool) → short x ≤ ones e + short (added x zs e)
  unfolding added ones
  added_short x [] e = omega arith
  added_short x (z ∷ zs) [] = omega arith
  added_short x (z ∷ zs) (true ∷ e) = omega (arith, added_short (put x z) zs e, S.by_one x z)
  added_short x (z ∷ zs) (false ∷ e) = omega (arith, added_short x zs e)

  along : {x y a : ℕ → ℕ} (z : ℕ) (b : Bool) → Along n short x y a → Along n short (moved x z (lowers short x z)) (moved y z b) (put a z)
  along {x} {y} {a} z b w =
      record {
        below = moved_below n x a z (lowers short x z) w.below;
        other = moved_below n y a z b w.other;
        level = moved_short x z ∙ go (is (lowers short x z));
      }
    where
      go : Is (lowers short x z) → short (put x z) ≡ short (put a z)
      go (is_true e) =
          omega (arith, ap bit e, lowers_short x z, w.level, S.by_one a z, S.mono (put x z) (put a z) (moved_below n x a z true w.below))
      go (is_false e) =
          let same : short (put x z) ≡ short x = omega (arith, ap bit e, lowers_short x z) in
          omega (arith, w.level, S.stays x a z w.below same)

  best_along : (x y a : ℕ → ℕ) (zs : List ℕ) (e : List Bool) → length e ≡ length zs → Along n short x y a
      → short (added x zs (searched short x zs)) ≤ short (added y zs e)
  unfolding searched added
  best_along x y a [] e l w = omega (arith, S.mono y a w.other, w.level)
  best_along x y a (z ∷ zs) [] l w = omega arith
  best_along x y a (z ∷ zs) (b ∷ e) l w =
      rw searched_cons (simp added_cons (best_along (moved x z (lowers short x z)) (moved y z b) (put a z) zs e (omega arith) (along z b w)))

  fewest_along : (x y a : ℕ → ℕ) (zs : List ℕ) (e : List Bool) (m : ℕ) → length e ≡ length zs → short (added y zs e) ≡ 0 → Along n short x y a
      → ones (drop m (searched short x zs)) ≤ ones (drop m e)
  unfolding searched added ones
  fewest_along x y a zs e zero l h w =
      omega (arith, searched_count x zs, added_short y zs e, S.mono y a w.other, w.level)
  fewest_along x y a [] e (suc m) l h w = zero-le
  fewest_along x y a (z ∷ zs) [] (suc m) l h w = omega arith
  fewest_along x y a (z ∷ zs) (b ∷ e) (suc m) l h w =
      rw searched_cons
      (fewest_along (moved x z (lowers short x z)) (moved y z b) (put a z) zs e m (omega arith) (rw added_cons at h) (along z b w))

  start : (x : ℕ → ℕ) → Along n short x x x
  start x = record { below = λ s l. le_refl (x s); other = λ s l. le_refl (x s); level = refl }

  -- no set leaves a smaller shortage: the search fails only where every set fails
  pub searched_best : (x : ℕ → ℕ) (zs : List ℕ) (e : List Bool) → length e ≡ length zs
      → short (added x zs (searched short x zs)) ≤ short (added x zs e)
  searched_best x zs e l = best_along x x x zs e l (start x)

  -- fewest after every position
  pub searched_fewest : (x : ℕ → ℕ) (zs : List ℕ) (e : List Bool) (m : ℕ) → length e ≡ length zs → short (added x zs e) ≡ 0
      → ones (drop m (searched short x zs)) ≤ ones (drop m e)
  searched_fewest x zs e m l h = fewest_along x x x zs e m l h (start x)

  -- a set of the same size has no more cells than the search before any position: its i-th cell is no earlier
  pub searched_prefix : (x : ℕ → ℕ) (zs : List ℕ) (e : List Bool) (m : ℕ) → length e ≡ length zs → short (added x zs e) ≡ 0
      → ones e ≡ ones (searched short x zs) → ones (take m e) ≤ ones (take m (searched short x zs))
  searched_prefix x zs e m l h same =
      omega (arith, searched_fewest x zs e m l h, ones_take_drop m e, ones_take_drop m (searched short x zs))

  -- fewest of priority p or better, for every p
  pub searched_weight : (x : ℕ → ℕ) (zs : List ℕ) (e w : List Bool) → Rising w → length w ≡ length zs → length e ≡ length zs
      → short (added x zs e) ≡ 0 → marked w (searched short x zs) ≤ marked w e
  searched_weight x zs e w r lw le h = go (rising_drop r)
    where
      go : ((m : ℕ) × ((d : List Bool) → length d ≡ length w → marked w d ≡ ones (drop m d))) → marked w (searched short x zs) ≤ marked w e
      go p = omega (arith, searched_fewest x zs e p.0 le h, p.1 e (le ∙ sym lw), p.1 (searched short x zs) (searched_long short x zs ∙ sym lw))

  -- if some set will do, the search takes as many cells as are short
  pub searched_ones : (x : ℕ → ℕ) (zs : List ℕ) (e : List Bool) → length e ≡ length zs → short (added x zs e) ≡ 0
      → ones (searched short x zs) ≡ short x
  searched_ones x zs e l h = omega (arith, searched_count x zs, searched_best x zs e l)

  -- Document 01's rule: if some set will do, the search's set is the smallest whose list comes first.
  pub searched_first : (x : ℕ → ℕ) (zs : List ℕ) (e : List Bool) → length e ≡ length zs → short (added x zs e) ≡ 0
      → FirstSmallest (λ y. short y ≡ 0) x zs (searched short x zs)
  searched_first x zs e l h =
      record {
        long = searched_long short x zs;
        fits = omega (arith, searched_best x zs e l);
        smallest = λ d ld hd. searched_fewest x zs d 0 ld hd;
        first = λ d ld hd same. first_of_drops (searched short x zs) d (searched_long short x zs ∙ sym ld)
            (λ m. searched_fewest x zs d m ld hd) (omega arith);
      }

-- ---- the search from other free cells that agree in the frame

abbrev pub Same : ℕ → (ℕ → ℕ) → (ℕ → ℕ) → Type 0
Same n x y = (s : ℕ) → s < n → x s ≡ y s

module _ (n : ℕ) (short : (ℕ → ℕ) → ℕ) (S : Shortage n short) where
  pub short_same : (x y : ℕ → ℕ) → Same n x y → short x ≡ short y
  short_same x y h = omega (arith, S.mono x y (λ s l. omega (arith, h s l)), S.mono y x (λ s l. omega (arith, h s l)))

  same_put : (x y : ℕ → ℕ) (z : ℕ) → Same n x y → Same n (put x z) (put y z)
  same_put x y z h s l = omega (arith, h s l)

  pub searched_same : (x y : ℕ → ℕ) (zs : List ℕ) → Same n x y → searched short x zs ≡ searched short y zs
  unfolding searched
  searched_same x y [] h = refl
  searched_same x y (z ∷ zs) h = go (λ x' y' m. searched_same x' y' zs m) (is (lowers short x z))
    where
      test : lowers short y z ≡ lowers short x z
      test =
          ap (λ (m : ℕ). ltb m (short y)) (sym (short_same (put x z) (put y z) (same_put x y z h)))
          ∙ ap (ltb (short (put x z))) (sym (short_same x y h))

      go : ((x' y' : ℕ → ℕ) → Same n x' y' → searched short x' zs ≡ searched short y' zs) → Is (lowers short x z)
          → searched short x (z ∷ zs) ≡ searched short y (z ∷ zs)
      go ih (is_true t) =
          searched_true short x z zs t
          ∙ ap (λ (l : List Bool). true ∷ l) (ih (put x z) (put y z) (same_put x y z h))
          ∙ sym (searched_true short y z zs (test ∙ t))
      go ih (is_false t) =
          searched_false short x z zs t ∙ ap (λ (l : List Bool). false ∷ l) (ih x y h) ∙ sym (searched_false short y z zs (test ∙ t))

  pub added_same : (x y : ℕ → ℕ) (zs : List ℕ) (e : List Bool) → Same n x y → Same n (added x zs e) (added y zs e)
  unfolding added
  added_same x y [] e h = h
  added_same x y (z ∷ zs) [] h = h
  added_same x y (z ∷ zs) (true ∷ e) h = added_same (put x z) (put y z) zs e (same_put x y z h)
  added_same x y (z ∷ zs) (false ∷ e) h = added_same x y zs e h

-- ---- the search over another shortage that agrees where it looks

-- the free cells with any set of the cells are at most m in each of n slots
abbrev pub Bounded : ℕ → ℕ → (ℕ → ℕ) → List ℕ → Type 0
Bounded n m x zs = (e : List Bool) (s : ℕ) → s < n → added x zs e s ≤ m

module _ (n m : ℕ) (short other : (ℕ → ℕ) → ℕ) (agree : (x : ℕ → ℕ) → ((s : ℕ) → s < n → x s ≤ m) → short x ≡ other x) where
  -- no cell, and the first one alone
  bounded_here : (x : ℕ → ℕ) (zs : List ℕ) → Bounded n m x zs → (s : ℕ) → s < n → x s ≤ m
  unfolding added
  bounded_here x [] h s l = h [] s l
  bounded_here x (z ∷ zs) h s l = h [] s l

  bounded_yes : (x : ℕ → ℕ) (z : ℕ) (zs : List ℕ) → Bounded n m x (z ∷ zs) → Bounded n m (put x z) zs
  unfolding added
  bounded_yes x z zs h e s l = h (true ∷ e) s l

  bounded_no : (x : ℕ → ℕ) (z : ℕ) (zs : List ℕ) → Bounded n m x (z ∷ zs) → Bounded n m x zs
  unfolding added
  bounded_no x z zs h e s l = h (false ∷ e) s l

  pub searched_agree : (x : ℕ → ℕ) (zs : List ℕ) → Bounded n m x zs → searched short x zs ≡ searched other x zs
  unfolding searched
  searched_agree x [] h = refl
  searched_agree x (z ∷ zs) h = go (λ x' b. searched_agree x' zs b) (is (lowers short x z))
    where
      test : lowers other x z ≡ lowers short x z
      test =
          ap (λ (v : ℕ). ltb v (other x)) (sym (agree (put x z) (bounded_here (put x z) zs (bounded_yes x z zs h))))
          ∙ ap (ltb (short (put x z))) (sym (agree x (bounded_here x (z ∷ zs) h)))

      go : ((x' : ℕ → ℕ) → Bounded n m x' zs → searched short x' zs ≡ searched other x' zs) → Is (lowers short x z)
          → searched short x (z ∷ zs) ≡ searched other x (z ∷ zs)
      go ih (is_true t) =
          searched_true short x z zs t
          ∙ ap (λ (l : List Bool). true ∷ l) (ih (put x z) (bounded_yes x z zs h))
          ∙ sym (searched_true other x z zs (test ∙ t))
      go ih (is_false t) =
          searched_false short x z zs t
          ∙ ap (λ (l : List Bool). false ∷ l) (ih x (bounded_no x z zs h))
          ∙ sym (searched_false other x z zs (test ∙ t))

-- ---- the first smallest set, for any meaning of fitting

pub first_smallest_of_iff : (Fits Fits' : (ℕ → ℕ) → Type 0) → ((y : ℕ → ℕ) → Fits y ↔ Fits' y) → (x : ℕ → ℕ) (zs : List ℕ) (d : List Bool)
    → FirstSmallest Fits x zs d → FirstSmallest Fits' x zs d
first_smallest_of_iff Fits Fits' same x zs d F =
    record {
      long = F.long;
      fits = (same (added x zs d)).0 F.fits;
      smallest = λ e l h. F.smallest e l ((same (added x zs e)).1 h);
      first = λ e l h. F.first e l ((same (added x zs e)).1 h);
    }

pub first_unique : (Fits : (ℕ → ℕ) → Type 0) (x : ℕ → ℕ) (zs : List ℕ) (d e : List Bool)
    → FirstSmallest Fits x zs d → FirstSmallest Fits x zs e → d ≡ e
first_unique Fits x zs d e D E = go (E.first d D.long D.fits size) (D.first e E.long E.fits (sym size))
  where
    size : ones d ≡ ones e
    size = omega (arith, D.smallest e E.long E.fits, E.smallest d D.long D.fits)

    go : (d ≡ e) ⊎ First e d → (e ≡ d) ⊎ First d e → d ≡ e
    go (inl q) g = q
    go (inr f) (inl q) = sym q
    go (inr f) (inr g) = absurd (first_asym f g)

-- ---- the excess over a capacity is a shortage

module _ (k n : ℕ) (C : ℕ → ℕ) where
  -- by how much C r exceeds the capacity for r, at the worst r up to k
  abbrev over : (ℕ → ℕ) → ℕ
  over x = greatest k (λ r. C r - capacity n x r)

  over_at : (x : ℕ → ℕ) → (r : ℕ) × (r ≤ k) × (C r - capacity n x r ≡ over x)
  over_at x = greatest_attained k (λ r. C r - capacity n x r)

  over_le : (x : ℕ → ℕ) (r : ℕ) → r ≤ k → C r - capacity n x r ≤ over x
  over_le x = greatest_bounds k (λ r. C r - capacity n x r)

  over_mono : (x y : ℕ → ℕ) → Below n x y → over y ≤ over x
  over_mono x y h = go (over_at y)
    where
      go : ((r : ℕ) × (r ≤ k) × (C r - capacity n y r ≡ over y)) → over y ≤ over x
      go m = omega (arith, m.2, over_le x m.0 m.1, capacity_mono n x y m.0 h)

  over_by_one : (x : ℕ → ℕ) (z : ℕ) → over x ≤ suc (over (put x z))
  over_by_one x z = go (over_at x)
    where
      go : ((r : ℕ) × (r ≤ k) × (C r - capacity n x r ≡ over x)) → over x ≤ suc (over (put x z))
      go m = omega (arith, m.2, over_le (put x z) m.0 m.1, capacity_put_le n x z m.0)

  -- r is the worst number with the cell z and q the worst one at y: then z lowers nothing at y either
  module _ (x y : ℕ → ℕ) (z : ℕ) (h : Below n x y) (same : over (put x z) ≡ over x) where
    not_lower : (r q : ℕ) → r ≤ k → q ≤ k → C r - capacity n (put x z) r ≡ over (put x z) → C q - capacity n y q ≡ over y → 0 < over y
        → over y ≤ over (put y z)
    not_lower r q lr lq er eq lo = go (is (leb q r))
      where
        same_x : capacity n (put x z) r ≡ capacity n x r
        same_x = omega (arith, over_le x r lr, over_mono x y h, capacity_mono n x (put x z) r (λ s l. omega arith))

        full : z < n → r ≤ y z
        full l = omega (arith, capacity_put_full n x z r same_x l, h z l)

        go : Is (leb q r) → over y ≤ over (put y z)
        go (is_true e) =
            omega (arith, over_le (put y z) q lq, capacity_put_same n y z q (λ l. omega (arith, full l, le_of q r e)))
        go (is_false e) =
            let l : r ≤ q = omega (arith, gt_of q r e) in
            omega
            (arith, over_le (put y z) r lr, capacity_put_same n y z r full, capacity_spread n x y r q l h, over_le x q lq, over_mono x y h, same_x)

    over_stays : over (put y z) ≡ over y
    over_stays = go (over_at (put x z)) (over_at y) (is (ltb 0 (over y)))
      where
        go : ((r : ℕ) × (r ≤ k) × (C r - capacity n (put x z) r ≡ over (put x z)))
            → ((q : ℕ) × (q ≤ k) × (C q - capacity n y q ≡ over y))
            → Is (ltb 0 (over y))
            → over (put y z) ≡ over y
        go m w (is_true e) =
            omega
            (arith, not_lower m.0 w.0 m.1 w.1 m.2 w.2 (lt_of 0 (over y) e), over_mono y (put y z) (λ s l. omega arith))
        go m w (is_false e) = omega (arith, ge_of 0 (over y) e, over_mono y (put y z) (λ s l. omega arith))

-- T4 for the longest jobs: `excess k c n` is this with C = largest k c
pub excess_shortage : (k n : ℕ) (C : ℕ → ℕ) → Shortage n (λ x. greatest k (λ r. C r - capacity n x r))
excess_shortage k n C = record { mono = over_mono k n C; by_one = over_by_one k n C; stays = over_stays k n C }
