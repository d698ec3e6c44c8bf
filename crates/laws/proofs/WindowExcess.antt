-- Jobs with windows: the excess of the worst set of jobs over its capacity is a shortage.
--
-- In order: the users of a slot; the capacity for a set of jobs, and for a union and an intersection; the excess is attained and bounds; the
-- excess and the criterion; the excess is a `Shortage`; windows that are narrower, and windows that are everywhere.
-- Assumes nothing.
use Prim.Native.Nat.{ℕ, suc, ◌+◌, ◌-◌, ◌≤◌, ◌<◌, min}
use native.Mathlib.Omega.{arith}
use mathlib.Core.Path.{◌≡◌, refl, ap}
use mathlib.Core.Bool.{Bool, true, false, ◌&&◌, ◌||◌}
use lib.Dec.{ltb, eqb}
use Rattle.laws.specs.Sums.{bit, only, count}
use Rattle.laws.specs.Placement.{capacity, largest, excess}
use Rattle.laws.specs.Eviction.{put, Shortage}
use Rattle.laws.specs.Windows.{need_of, users_of, capacity_of, WindowCriterion, window_excess}
use Rattle.laws.proofs.Tests.{Is, is_true, is_false, is, left_of, right_of, both, and-true}
use Rattle.laws.proofs.Comparisons.{lt_of, ge_of, eq_of, eqb_self, eqb_no}
use Rattle.laws.proofs.Sums.{sum_ext, sum_le, sum_zero, sum_le_two, sum_or_and, sum_but, greatest_bounds}
use Rattle.laws.proofs.Counts.{count_ext, count_le, count_imp, count_eqb_le}
use Rattle.laws.proofs.Placement.{largest_bounds, excess_attained}
use Rattle.laws.proofs.GreatestSet.{greatest_set_attained, greatest_set_bounds_all}

-- ---- the users of a slot

-- sets that agree have the same users
pub users_ext : (k : ℕ) (w : ℕ → ℕ → Bool) (p q : ℕ → Bool) (s : ℕ) → ((i : ℕ) → i < k → p i ≡ q i) → users_of k w p s ≡ users_of k w q s
users_ext k w p q s h = count_ext k (λ i. p i && w i s) (λ i. q i && w i s) (λ i l. ap (λ (b : Bool). b && w i s) (h i l))

-- a smaller set with narrower windows has no more users
pub users_le : (k : ℕ) (v w : ℕ → ℕ → Bool) (p q : ℕ → Bool) (s : ℕ) → ((i : ℕ) → i < k → p i ≡ true → q i ≡ true)
    → ((i : ℕ) → i < k → v i s ≡ true → w i s ≡ true) → users_of k v p s ≤ users_of k w q s
users_le k v w p q s part narrow =
    count_imp k (λ i. p i && v i s) (λ i. q i && w i s)
    (λ i l e. both (q i) (w i s) (part i l (left_of (p i) (v i s) e)) (narrow i l (right_of (p i) (v i s) e)))

-- a union and an intersection have together the users of the two sets
pub users_or_and : (k : ℕ) (w : ℕ → ℕ → Bool) (p q : ℕ → Bool) (s : ℕ)
    → users_of k w (λ i. p i || q i) s + users_of k w (λ i. p i && q i) s ≡ users_of k w p s + users_of k w q s
users_or_and k w p q s = sum_or_and k (λ i b. bit (b && w i s)) p q

-- an intersection has no more users than each of the two sets
pub users_and_left : (k : ℕ) (w : ℕ → ℕ → Bool) (p q : ℕ → Bool) (s : ℕ) → users_of k w (λ i. p i && q i) s ≤ users_of k w p s
users_and_left k w p q s = users_le k w w (λ i. p i && q i) p s (λ i l. left_of (p i) (q i)) (λ i l e. e)

pub users_and_right : (k : ℕ) (w : ℕ → ℕ → Bool) (p q : ℕ → Bool) (s : ℕ) → users_of k w (λ i. p i && q i) s ≤ users_of k w q s
users_and_right k w p q s = users_le k w w (λ i. p i && q i) q s (λ i l. right_of (p i) (q i)) (λ i l e. e)

-- ---- the capacity for a set of jobs

-- a union and an intersection need together what the two sets need
pub need_or_and : (k : ℕ) (c : ℕ → ℕ) (p q : ℕ → Bool) → need_of k c (λ i. p i || q i) + need_of k c (λ i. p i && q i) ≡ need_of k c p + need_of k c q
need_or_and k c p q = sum_or_and k (λ i b. only b (c i)) p q

-- more free cells have no less capacity
pub capacity_of_mono : (k n : ℕ) (x y : ℕ → ℕ) (w : ℕ → ℕ → Bool) (p : ℕ → Bool) → ((s : ℕ) → s < n → x s ≤ y s) → capacity_of k n x w p ≤ capacity_of k n y w p
capacity_of_mono k n x y w p h = sum_le n (λ s. min (x s) (users_of k w p s)) (λ s. min (y s) (users_of k w p s)) (λ s l. omega (arith, h s l))

-- one slot of a union and an intersection: u and d are their users, a and b those of the two sets
slot_or_and : (x y a b u d : ℕ) → u + d ≡ a + b → d ≤ a → d ≤ b → x ≤ y → min x u + min y d ≤ min x a + min y b
slot_or_and x y a b u d e l m h = omega arith

-- the union with few free cells and the intersection with more have no more capacity than the one set with few and the other with more
pub capacity_or_and : (k n : ℕ) (x y : ℕ → ℕ) (w : ℕ → ℕ → Bool) (p q : ℕ → Bool) → ((s : ℕ) → s < n → x s ≤ y s)
    → capacity_of k n x w (λ i. p i || q i) + capacity_of k n y w (λ i. p i && q i) ≤ capacity_of k n x w p + capacity_of k n y w q
capacity_or_and k n x y w p q h =
    sum_le_two n (λ s. min (x s) (users_of k w (λ i. p i || q i) s)) (λ s. min (y s) (users_of k w (λ i. p i && q i) s))
    (λ s. min (x s) (users_of k w p s)) (λ s. min (y s) (users_of k w q s))
    (λ s l. slot_or_and (x s) (y s) (users_of k w p s) (users_of k w q s) (users_of k w (λ i. p i || q i) s) (users_of k w (λ i. p i && q i) s)
    (users_or_and k w p q s) (users_and_left k w p q s) (users_and_right k w p q s) (h s l))

-- one cell more adds at most one
pub capacity_of_put_le : (k n : ℕ) (x : ℕ → ℕ) (w : ℕ → ℕ → Bool) (p : ℕ → Bool) (z : ℕ) → capacity_of k n (put x z) w p ≤ suc (capacity_of k n x w p)
capacity_of_put_le k n x w p z =
    omega (
      arith,
      sum_le_two n (λ s. min (put x z s) (users_of k w p s)) (λ s. 0) (λ s. min (x s) (users_of k w p s)) (λ s. bit (eqb s z)) (λ s l. omega arith),
      count_eqb_le n z,
    )

-- a cell in a slot that has a cell for each of its users, or in no slot, does not change the capacity
pub capacity_of_put_same : (k n : ℕ) (x : ℕ → ℕ) (w : ℕ → ℕ → Bool) (p : ℕ → Bool) (z : ℕ) → (z < n → users_of k w p z ≤ x z)
    → capacity_of k n (put x z) w p ≡ capacity_of k n x w p
capacity_of_put_same k n x w p z h = sum_ext n (λ s. min (put x z s) (users_of k w p s)) (λ s. min (x s) (users_of k w p s)) (λ s l. each s l (is (eqb s z)))
  where
    each : (s : ℕ) → s < n → Is (eqb s z) → min (put x z s) (users_of k w p s) ≡ min (x s) (users_of k w p s)
    each s l (is_true e) =
        let at-z : s ≡ z = eq_of s z e in
        omega (arith, ap x at-z, ap (users_of k w p) at-z, h (omega arith))
    each s l (is_false e) = omega (arith, ap bit e)

-- and it is only such a cell that does not
pub capacity_of_put_full : (k n : ℕ) (x : ℕ → ℕ) (w : ℕ → ℕ → Bool) (p : ℕ → Bool) (z : ℕ) → capacity_of k n (put x z) w p ≡ capacity_of k n x w p → z < n
    → users_of k w p z ≤ x z
capacity_of_put_full k n x w p z same l =
    omega (
      arith,
      sum_but n (λ s. min (put x z s) (users_of k w p s)) (λ s. min (x s) (users_of k w p s)) z l (λ s m ne. other s (eqb_no s z ne)),
      ap bit (eqb_self z),
    )
  where
    other : (s : ℕ) → eqb s z ≡ false → min (put x z s) (users_of k w p s) ≡ min (x s) (users_of k w p s)
    other s e = omega (arith, ap bit e)

-- ---- the excess is attained, and bounds

-- no set needs more than its capacity and the excess
pub window_excess_bounds : (k : ℕ) (c : ℕ → ℕ) (n : ℕ) (x : ℕ → ℕ) (w : ℕ → ℕ → Bool) (p : ℕ → Bool)
    → need_of k c p ≤ capacity_of k n x w p + window_excess k c n x w
unfolding window_excess
window_excess_bounds k c n x w p =
    omega (arith, greatest_set_bounds_all k (λ q. need_of k c q - capacity_of k n x w q) same p)
  where
    same : (p q : ℕ → Bool) → ((i : ℕ) → i < k → p i ≡ q i) → need_of k c p - capacity_of k n x w p ≡ need_of k c q - capacity_of k n x w q
    same p q h =
        omega (
          arith,
          sum_ext k (λ i. only (p i) (c i)) (λ i. only (q i) (c i)) (λ i l. ap (λ (b : Bool). only b (c i)) (h i l)),
          sum_ext n (λ s. min (x s) (users_of k w p s)) (λ s. min (x s) (users_of k w q s)) (λ s l. ap (min (x s)) (users_ext k w p q s h)),
        )

-- some set needs as much: a worst set
pub window_excess_attained : (k : ℕ) (c : ℕ → ℕ) (n : ℕ) (x : ℕ → ℕ) (w : ℕ → ℕ → Bool)
    → (p : ℕ → Bool) × (need_of k c p ≡ capacity_of k n x w p + window_excess k c n x w)
unfolding window_excess
window_excess_attained k c n x w = go (greatest_set_attained k (λ p. need_of k c p - capacity_of k n x w p)) (is (ltb 0 (window_excess k c n x w)))
  where
    go : ((p : ℕ → Bool) × (need_of k c p - capacity_of k n x w p ≡ window_excess k c n x w)) → Is (ltb 0 (window_excess k c n x w))
        → (p : ℕ → Bool) × (need_of k c p ≡ capacity_of k n x w p + window_excess k c n x w)
    go m (is_true e) = (m.0, omega (arith, m.1, lt_of 0 (window_excess k c n x w) e))
    go m (is_false e) = (
      (λ i. false),
      omega (
        arith,
        ge_of 0 (window_excess k c n x w) e,
        sum_zero k (λ i. 0) (λ i l. refl),
        sum_zero n (λ s. min (x s) (users_of k w (λ i. false) s)) (λ s l. omega (arith, sum_zero k (λ i. 0) (λ i m. refl))),
      ),
    )

-- ---- the excess and the criterion

-- without excess every set obeys
pub criterion_of_window_excess : (k : ℕ) (c : ℕ → ℕ) (n : ℕ) (x : ℕ → ℕ) (w : ℕ → ℕ → Bool) → window_excess k c n x w ≡ 0 → WindowCriterion k c n x w
criterion_of_window_excess k c n x w e p = omega (arith, window_excess_bounds k c n x w p)

-- and where every set obeys there is no excess
pub window_excess_of_criterion : (k : ℕ) (c : ℕ → ℕ) (n : ℕ) (x : ℕ → ℕ) (w : ℕ → ℕ → Bool) → WindowCriterion k c n x w → window_excess k c n x w ≡ 0
window_excess_of_criterion k c n x w h = let m = window_excess_attained k c n x w in omega (arith, m.1, h m.0)

-- jobs with an excess have a set that breaks the criterion
pub broken_of_window_excess : (k : ℕ) (c : ℕ → ℕ) (n : ℕ) (x : ℕ → ℕ) (w : ℕ → ℕ → Bool) → (window_excess k c n x w ≡ 0 → ⊥)
    → (p : ℕ → Bool) × (capacity_of k n x w p < need_of k c p)
broken_of_window_excess k c n x w ne = let m = window_excess_attained k c n x w in (m.0, omega (arith, m.1))

-- ---- the excess is a shortage

module _ (k : ℕ) (c : ℕ → ℕ) (n : ℕ) (w : ℕ → ℕ → Bool) where
  -- the excess as a function of the free cells
  abbrev short : (ℕ → ℕ) → ℕ
  short x = window_excess k c n x w

  -- more free cells have no more excess
  window_mono : (x y : ℕ → ℕ) → ((s : ℕ) → s < n → x s ≤ y s) → short y ≤ short x
  window_mono x y h =
      let m = window_excess_attained k c n y w in
      omega (arith, m.1, window_excess_bounds k c n x w m.0, capacity_of_mono k n x y w m.0 h)

  -- one cell more lowers the excess by at most one
  window_by_one : (x : ℕ → ℕ) (z : ℕ) → short x ≤ suc (short (put x z))
  window_by_one x z =
      let m = window_excess_attained k c n x w in
      omega (arith, m.1, window_excess_bounds k c n (put x z) w m.0, capacity_of_put_le k n x w m.0 z)

  -- a set p that is worst at x and has no use for a cell of z, and any set q that is worst at y: their intersection is worst at y, and has no use for the cell
  window_stays : (x y : ℕ → ℕ) (z : ℕ) → ((s : ℕ) → s < n → x s ≤ y s) → short (put x z) ≡ short x → short (put y z) ≡ short y
  window_stays x y z h same = go (window_excess_attained k c n (put x z) w) (window_excess_attained k c n y w)
    where
      go : ((p : ℕ → Bool) × (need_of k c p ≡ capacity_of k n (put x z) w p + short (put x z)))
          → ((q : ℕ → Bool) × (need_of k c q ≡ capacity_of k n y w q + short y)) → short (put y z) ≡ short y
      go (p, worst-p) (q, worst-q) =
          omega (
            arith,
            window_mono y (put y z) (λ s l. omega arith),
            need_or_and k c p q,
            capacity_or_and k n x y w p q h,
            window_excess_bounds k c n x w (λ i. p i || q i),
            window_excess_bounds k c n (put y z) w (λ i. p i && q i),
            cell_x,
            cell_y,
          )
        where
          cell_x : capacity_of k n (put x z) w p ≡ capacity_of k n x w p
          cell_x = omega (arith, window_excess_bounds k c n x w p, capacity_of_mono k n x (put x z) w p (λ s l. omega arith))

          cell_y : capacity_of k n (put y z) w (λ i. p i && q i) ≡ capacity_of k n y w (λ i. p i && q i)
          cell_y =
              capacity_of_put_same k n y w (λ i. p i && q i) z
              (λ l. omega (arith, users_and_left k w p q z, capacity_of_put_full k n x w p z cell_x l, h z l))

  -- T4 for jobs with windows
  pub window_shortage : Shortage n (λ x. window_excess k c n x w)
  window_shortage = record { mono = window_mono; by_one = window_by_one; stays = window_stays }

-- ---- windows that are narrower, and windows that are everywhere

-- with narrower windows the excess is no smaller
pub narrower_excess : (k : ℕ) (c : ℕ → ℕ) (n : ℕ) (x : ℕ → ℕ) (v w : ℕ → ℕ → Bool) → ((i s : ℕ) → i < k → s < n → v i s ≡ true → w i s ≡ true)
    → window_excess k c n x w ≤ window_excess k c n x v
narrower_excess k c n x v w narrow =
    let m = window_excess_attained k c n x w in
    let fewer : (s : ℕ) → s < n → users_of k v m.0 s ≤ users_of k w m.0 s = λ s l. users_le k v w m.0 m.0 s (λ i h e. e) (λ i h. narrow i s h l) in
    omega (
      arith,
      m.1,
      window_excess_bounds k c n x v m.0,
      sum_le n (λ s. min (x s) (users_of k v m.0 s)) (λ s. min (x s) (users_of k w m.0 s)) (λ s l. omega (arith, fewer s l)),
    )

-- where every job may use every slot, the excess is that of the r longest
pub everywhere_excess : (k : ℕ) (c : ℕ → ℕ) (n : ℕ) (x : ℕ → ℕ) (w : ℕ → ℕ → Bool) → ((i s : ℕ) → i < k → s < n → w i s ≡ true)
    → window_excess k c n x w ≡ excess k c n x
everywhere_excess k c n x w all =
    let m = window_excess_attained k c n x w in
    let v = excess_attained k c n x in
    omega (
      arith,
      m.1,
      same m.0,
      largest_bounds k c m.0,
      greatest_bounds k (λ r. largest k c r - capacity n x r) (count k m.0) (count_le k m.0),
      v.1,
      same v.0,
      window_excess_bounds k c n x w v.0,
    )
  where
    users : (p : ℕ → Bool) (s : ℕ) → s < n → users_of k w p s ≡ count k p
    users p s l = count_ext k (λ i. p i && w i s) p (λ i h. and-true (p i) (w i s) (all i s h l))

    same : (p : ℕ → Bool) → capacity_of k n x w p ≡ capacity n x (count k p)
    same p = sum_ext n (λ s. min (x s) (users_of k w p s)) (λ s. min (count k p) (x s)) (λ s l. omega (arith, users p s l))
