-- A placement that lacks some cells, and what is reached from the jobs that lack them: it tells whether more can be placed, and which cell
-- would help. No path is followed: a worst set of jobs is itself closed.
--
-- In order: what a set of jobs needs is what it holds and what it lacks, so the excess is at most what is lacking (`excess_le_lacking`); with closed
-- sets and no spare cell in them the excess is what is lacking (`excess_of_full`), and a cell outside of them lowers nothing (`outside_same`); where
-- the excess is what is lacking no reached slot has a spare cell (`full_of_excess`, `excess_lacking_iff`); a cell lowers the excess exactly if its
-- slot is reached (`reached_cell`, `reached_lowers`); the reached sets, found in rounds (`reached_of_stable`, `reached_in_rounds`).
-- Assumes nothing.
use Prim.Native.Nat.{ℕ, zero, suc, ◌+◌, ◌-◌, ◌≤◌, ◌<◌, min}
use native.Mathlib.Nat.{le_refl}
use native.Mathlib.Omega.{arith}
use mathlib.Core.Path.{◌≡◌, refl, sym, ◌∙◌, ap}
use mathlib.Core.Logic.{◌⊎◌, inl, inr, ◌↔◌}
use mathlib.Core.Bool.{Bool, true, false, not, ◌&&◌}
use lib.Dec.{ltb, eqb}
use Rattle.laws.specs.Sums.{bit, only, count}
use Rattle.laws.specs.Eviction.{put}
use Rattle.laws.specs.Windows.{need_of, users_of, capacity_of, window_excess, Partial, lacking, Closed, Reached, wanted_by, reached_in}
use Rattle.laws.proofs.Tests.{Is, is_true, is_false, is, clash, left_of, right_of, both, or_left, or_right, or_cases, not_is_true, false_of_not}
use Rattle.laws.proofs.Comparisons.{lt_of, ge_of, eq_of, ne_of, ltb_yes, ltb_no, eqb_self}
use Rattle.laws.proofs.Every.{either}
use Rattle.laws.proofs.Sums.{sum_ext, sum_le, sum_le_terms, sum_add}
use Rattle.laws.proofs.Counts.{count_imp, count_lt, count_le, count_pos, count_some}
use Rattle.laws.proofs.Eviction.{lowers}
use Rattle.laws.proofs.WindowExcess.{window_excess_bounds, window_excess_attained, window_shortage, capacity_of_put_same}
use Rattle.laws.proofs.WindowPlacement.{held_by_slots, held_in_slot}

-- ---- what a set of jobs holds and what it lacks

-- a selected number is no more than the number, and where it is as much it was selected or nothing
only_part : (b : Bool) (v : ℕ) → only b v ≤ v
only_part true v = le_refl v
only_part false v = omega arith

only_of_pos : (b : Bool) (v : ℕ) → v ≤ only b v → 0 < v → b ≡ true
only_of_pos true v h p = refl
only_of_pos false v h p = absurd (omega arith)

module _ (k : ℕ) (c : ℕ → ℕ) (n : ℕ) (x : ℕ → ℕ) (w a : ℕ → ℕ → Bool) (h : Partial k c n x w a) where
  -- what job i has, and what it lacks
  abbrev held : ℕ → ℕ
  held i = count n (λ s. a i s)

  -- what job i lacks
  abbrev lacked : ℕ → ℕ
  lacked i = c i - held i

  -- a set needs what it holds and what it lacks
  need_held_lacked : (p : ℕ → Bool) → need_of k c p ≡ need_of k held p + need_of k lacked p
  need_held_lacked p =
      sum_ext k (λ i. only (p i) (c i)) (λ i. only (p i) (held i) + only (p i) (lacked i)) (λ i l. split (p i) (h.few i l))
      ∙ sum_add k (λ i. only (p i) (held i)) (λ i. only (p i) (lacked i))
    where
      split : (b : Bool) {g v : ℕ} → g ≤ v → only b v ≡ only b g + only b (v - g)
      split true m = omega arith
      split false m = refl

  -- it holds no more than its capacity
  held_le_capacity : (p : ℕ → Bool) → need_of k held p ≤ capacity_of k n x w p
  held_le_capacity p =
      omega (
        arith,
        held_by_slots k n a p,
        sum_le n (users_of k a p) (λ s. min (x s) (users_of k w p s)) (held_in_slot k n x w a p h.within h.allowed),
      )

  -- and lacks no more than all jobs
  lacked_le_lacking : (p : ℕ → Bool) → need_of k lacked p ≤ lacking k c n a
  lacked_le_lacking p = sum_le k (λ i. only (p i) (lacked i)) lacked (λ i l. only_part (p i) (lacked i))

  -- no set of jobs exceeds its capacity by more than what is lacking
  pub excess_le_lacking : window_excess k c n x w ≤ lacking k c n a
  excess_le_lacking =
      let m = window_excess_attained k c n x w in
      omega (arith, m.1, need_held_lacked m.0, held_le_capacity m.0, lacked_le_lacking m.0)

  -- ---- closed sets

  module _ (J S : ℕ → Bool) (closed : Closed k c n w a J S) where
    -- all that is lacking is lacking in J
    closed_lacks : lacking k c n a ≡ need_of k lacked J
    closed_lacks = sum_ext k lacked (λ i. only (J i) (lacked i)) (λ i l. each i l (is (J i)))
      where
        each : (i : ℕ) → i < k → Is (J i) → lacked i ≡ only (J i) (lacked i)
        each i l (is_true e) = rw e
        each i l (is_false e) = rw e (go (is (ltb (held i) (c i))))
          where
            go : Is (ltb (held i) (c i)) → lacked i ≡ 0
            go (is_true f) = absurd (clash (sym (closed.lacks i l (lt_of (held i) (c i) f)) ∙ e))
            go (is_false f) = omega (arith, ge_of (held i) (c i) f)

    -- outside of S a job of J has each slot that it may use
    closed_outside : (s : ℕ) → s < n → S s ≡ false → users_of k w J s ≤ users_of k a J s
    closed_outside s l out =
        count_imp k (λ i. J i && w i s) (λ i. J i && a i s)
        (λ i m e. both (J i) (a i s) (left_of (J i) (w i s) e) (go i m (left_of (J i) (w i s) e) (right_of (J i) (w i s) e) (is (a i s))))
      where
        go : (i : ℕ) → i < k → J i ≡ true → w i s ≡ true → Is (a i s) → a i s ≡ true
        go i m e f (is_true g) = g
        go i m e f (is_false g) = absurd (clash (sym (closed.may_use i s m l e f g) ∙ out))

    -- in S each cell that is held is held by J
    closed_inside : (s : ℕ) → s < n → S s ≡ true → count k (λ i. a i s) ≤ users_of k a J s
    closed_inside s l e = count_imp k (λ i. a i s) (λ i. J i && a i s) (λ i m f. both (J i) (a i s) (closed.owners i s m l e f) f)

    module _ (full : (s : ℕ) → s < n → S s ≡ true → x s ≤ count k (λ i. a i s)) where
      -- J holds all of its capacity
      closed_capacity : capacity_of k n x w J ≤ need_of k held J
      closed_capacity =
          omega (
            arith,
            held_by_slots k n a J,
            sum_le n (λ s. min (x s) (users_of k w J s)) (users_of k a J) (λ s l. each s l (is (S s))),
          )
        where
          each : (s : ℕ) → s < n → Is (S s) → min (x s) (users_of k w J s) ≤ users_of k a J s
          each s l (is_true e) = omega (arith, full s l e, closed_inside s l e)
          each s l (is_false e) = omega (arith, closed_outside s l e)

      -- If no slot of closed sets has a spare cell, the excess is what is lacking.
      pub excess_of_full : window_excess k c n x w ≡ lacking k c n a
      excess_of_full =
          omega (arith, excess_le_lacking, window_excess_bounds k c n x w J, need_held_lacked J, closed_lacks, closed_capacity)

      -- and one more cell in a slot outside of them lowers nothing
      pub outside_same : (z : ℕ) → z < n → S z ≡ false → window_excess k c n (put x z) w ≡ window_excess k c n x w
      outside_same z l e =
          omega (
            arith,
            excess_of_full,
            (window_shortage k c n w).mono x (put x z) (λ s m. omega arith),
            window_excess_bounds k c n (put x z) w J,
            need_held_lacked J,
            closed_lacks,
            closed_capacity,
            capacity_of_put_same k n x w J z
                (λ m. omega (arith, closed_outside z l e, h.within z l, count_imp k (λ i. J i && a i z) (λ i. a i z) (λ i q. right_of (J i) (a i z)))),
          )

  -- ---- reached sets

  -- Where the excess is what is lacking, no reached slot has a spare cell: a worst set of jobs is closed, with the slots that it wants and does not have.
  pub full_of_excess : (J S : ℕ → Bool) → Reached k c n w a J S → window_excess k c n x w ≡ lacking k c n a
      → (s : ℕ) → s < n → S s ≡ true → x s ≤ count k (λ i. a i s)
  full_of_excess J S reached tight s l e = at_slot_lem s l (reached.slots p wanted closed s l e)
    where
      worst : (p : ℕ → Bool) × (need_of k c p ≡ capacity_of k n x w p + window_excess k c n x w)
      worst = window_excess_attained k c n x w

      p : ℕ → Bool
      p = worst.0

      wanted : ℕ → Bool
      wanted t = ltb (users_of k a p t) (users_of k w p t)

      -- a worst set lacks all that is lacking and holds all of its capacity
      lacks_all : lacking k c n a ≤ need_of k lacked p
      lacks_all = omega (arith, worst.1, need_held_lacked p, held_le_capacity p)

      holds_all : (t : ℕ) → t < n → min (x t) (users_of k w p t) ≤ users_of k a p t
      holds_all =
          sum_le_terms n (users_of k a p) (λ t. min (x t) (users_of k w p t)) (held_in_slot k n x w a p h.within h.allowed)
          (omega (arith, worst.1, need_held_lacked p, lacked_le_lacking p, held_by_slots k n a p))

      at_slot_lem : (t : ℕ) → t < n → wanted t ≡ true → x t ≤ count k (λ i. a i t)
      at_slot_lem t m f =
          omega (
            arith,
            holds_all t m,
            lt_of (users_of k a p t) (users_of k w p t) f,
            count_imp k (λ i. p i && a i t) (λ i. a i t) (λ i q. right_of (p i) (a i t)),
          )

      closed : Closed k c n w a p wanted
      closed =
          record {
            lacks = λ i m few. only_of_pos (p i) (lacked i)
                (sum_le_terms k (λ j. only (p j) (lacked j)) lacked (λ j q. only_part (p j) (lacked j)) lacks_all i m) (omega arith);
            may_use = λ i t m q in_p may has-not. ltb_yes (users_of k a p t) (users_of k w p t)
                (count_lt k (λ j. p j && a j t) (λ j. p j && w j t) i m
                (λ j r f. both (p j) (w j t) (left_of (p j) (a j t) f) (h.allowed j t r q (right_of (p j) (a j t) f)))
                (rw (in_p, has-not)) (both (p i) (w i t) in_p may));
            owners = λ i t m q f has. owned i t m q f has (is (p i));
          }
        where
          owned : (i t : ℕ) → i < k → t < n → wanted t ≡ true → a i t ≡ true → Is (p i) → p i ≡ true
          owned i t m q f has (is_true g) = g
          owned i t m q f has (is_false g) =
              absurd
              (omega (
                arith,
                holds_all t q,
                lt_of (users_of k a p t) (users_of k w p t) f,
                h.within t q,
                count_lt k (λ j. p j && a j t) (λ j. a j t) i m (λ j r. right_of (p j) (a j t)) (ap (λ (b : Bool). b && a i t) g) has,
              ))

-- a placement that lacks some cells is one beside a further free cell
partial_put : {k : ℕ} {c : ℕ → ℕ} {n : ℕ} {x : ℕ → ℕ} {w a : ℕ → ℕ → Bool} (z : ℕ) → Partial k c n x w a → Partial k c n (put x z) w a
partial_put z h = record { few = h.few; within = λ s l. omega (arith, h.within s l); allowed = h.allowed }

module _ (k : ℕ) (c : ℕ → ℕ) (n : ℕ) (x : ℕ → ℕ) (w a : ℕ → ℕ → Bool) (h : Partial k c n x w a) (J S : ℕ → Bool) (reached : Reached k c n w a J S) where
  -- the excess is what is lacking exactly if no reached slot has a spare cell
  pub excess_lacking_iff : (window_excess k c n x w ≡ lacking k c n a) ↔ ((s : ℕ) → s < n → S s ≡ true → x s ≤ count k (λ i. a i s))
  excess_lacking_iff = (full_of_excess k c n x w a h J S reached, excess_of_full k c n x w a h J S reached.closed)

  module _ (full : (s : ℕ) → s < n → S s ≡ true → x s ≤ count k (λ i. a i s)) where
    -- One more cell in slot z lowers the excess by 1 if z is reached, and not at all if it is not.
    pub reached_cell : (z : ℕ) → z < n → window_excess k c n (put x z) w + bit (S z) ≡ window_excess k c n x w
    reached_cell z l = go (is (S z)) (is (eqb (window_excess k c n (put x z) w) (window_excess k c n x w)))
      where
        go : Is (S z) → Is (eqb (window_excess k c n (put x z) w) (window_excess k c n x w))
            → window_excess k c n (put x z) w + bit (S z) ≡ window_excess k c n x w
        go (is_true e) (is_true f) =
            absurd
            (omega (
              arith,
              h.within z l,
              ap bit (eqb_self z),
              full_of_excess k c n (put x z) w a (partial_put z h) J S reached
                  (eq_of (window_excess k c n (put x z) w) (window_excess k c n x w) f ∙ excess_of_full k c n x w a h J S reached.closed full) z l e,
            ))
        go (is_true e) (is_false f) =
            let ne : window_excess k c n (put x z) w ≡ window_excess k c n x w → ⊥ = ne_of (window_excess k c n (put x z) w) (window_excess k c n x w) f in
            omega (
              arith,
              ap bit e,
              (window_shortage k c n w).mono x (put x z) (λ s m. omega arith),
              (window_shortage k c n w).by_one x z,
            )
        go (is_false e) f = omega (arith, ap bit e, outside_same k c n x w a h J S reached.closed full z l e)

    -- so the search for evicted cells takes a cell exactly if its slot is reached
    pub reached_lowers : (z : ℕ) → z < n → lowers (λ y. window_excess k c n y w) x z ≡ S z
    reached_lowers z l = go (is (S z))
      where
        go : Is (S z) → lowers (λ y. window_excess k c n y w) x z ≡ S z
        go (is_true e) = ltb_yes (window_excess k c n (put x z) w) (window_excess k c n x w) (omega (arith, reached_cell z l, ap bit e)) ∙ sym e
        go (is_false e) = ltb_no (window_excess k c n (put x z) w) (window_excess k c n x w) (omega (arith, reached_cell z l, ap bit e)) ∙ sym e

-- ---- the reached sets, found in rounds

module _ (k : ℕ) (c : ℕ → ℕ) (n : ℕ) (w a : ℕ → ℕ → Bool) where
  -- the jobs reached in m rounds
  abbrev jobs_in : ℕ → ℕ → Bool
  jobs_in m = reached_in k c n w a m

  -- a slot that a job of the set may use and does not have is wanted ..
  wanted_some : (J : ℕ → Bool) (i s : ℕ) → i < k → J i ≡ true → w i s ≡ true → a i s ≡ false → wanted_by k w a J s ≡ true
  wanted_some J i s l e f g =
      ltb_yes 0 (count k (λ j. J j && (w j s && not (a j s))))
      (count_some k (λ j. J j && (w j s && not (a j s))) i l (both (J i) (w i s && not (a i s)) e (both (w i s) (not (a i s)) f (not_is_true (a i s) g))))

  -- .. and only such a slot
  wanted_by_lem : (J : ℕ → Bool) (s : ℕ) → wanted_by k w a J s ≡ true → (i : ℕ) × (i < k) × (J i ≡ true) × (w i s ≡ true) × (a i s ≡ false)
  wanted_by_lem J s e =
      let m = count_pos k (λ j. J j && (w j s && not (a j s))) (lt_of 0 (count k (λ j. J j && (w j s && not (a j s)))) e) in
      let r = right_of (J m.0) (w m.0 s && not (a m.0 s)) m.2 in (
        m.0,
        m.1,
        left_of (J m.0) (w m.0 s && not (a m.0 s)) m.2,
        left_of (w m.0 s) (not (a m.0 s)) r,
        false_of_not (a m.0 s) (right_of (w m.0 s) (not (a m.0 s)) r),
      )

  -- a round keeps what is reached, and adds the owners of wanted slots, and no others
  round_keeps : (m i : ℕ) → jobs_in m i ≡ true → jobs_in (suc m) i ≡ true
  unfolding reached_in
  round_keeps m i e = or_left (jobs_in m i) (ltb 0 (count n (λ s. a i s && wanted_by k w a (jobs_in m) s))) e

  round_adds : (m i s : ℕ) → s < n → a i s ≡ true → wanted_by k w a (jobs_in m) s ≡ true → jobs_in (suc m) i ≡ true
  unfolding reached_in
  round_adds m i s l e f =
      or_right (jobs_in m i) (ltb 0 (count n (λ t. a i t && wanted_by k w a (jobs_in m) t)))
      (ltb_yes 0 (count n (λ t. a i t && wanted_by k w a (jobs_in m) t))
      (count_some n (λ t. a i t && wanted_by k w a (jobs_in m) t) s l (both (a i s) (wanted_by k w a (jobs_in m) s) e f)))

  -- what a round has was there before, or owns a wanted slot
  round_of : (m i : ℕ) → jobs_in (suc m) i ≡ true
      → (jobs_in m i ≡ true) ⊎ ((s : ℕ) × (s < n) × (a i s ≡ true) × (wanted_by k w a (jobs_in m) s ≡ true))
  unfolding reached_in
  round_of m i e = go (or_cases (jobs_in m i) (ltb 0 (count n (λ s. a i s && wanted_by k w a (jobs_in m) s))) e)
    where
      go : (jobs_in m i ≡ true) ⊎ (ltb 0 (count n (λ s. a i s && wanted_by k w a (jobs_in m) s)) ≡ true)
          → (jobs_in m i ≡ true) ⊎ ((s : ℕ) × (s < n) × (a i s ≡ true) × (wanted_by k w a (jobs_in m) s ≡ true))
      go (inl f) = inl f
      go (inr f) =
          let q = count_pos n (λ s. a i s && wanted_by k w a (jobs_in m) s) (lt_of 0 (count n (λ s. a i s && wanted_by k w a (jobs_in m) s)) f) in
          inr (q.0, q.1, left_of (a i q.0) (wanted_by k w a (jobs_in m) q.0) q.2, right_of (a i q.0) (wanted_by k w a (jobs_in m) q.0) q.2)

  -- the jobs that lack a slot are there from the start
  rounds_lack : (m i : ℕ) → count n (λ s. a i s) < c i → jobs_in m i ≡ true
  unfolding reached_in
  rounds_lack zero i l = ltb_yes (count n (λ s. a i s)) (c i) l
  rounds_lack (suc m) i l = round_keeps m i (rounds_lack m i l)

  -- what is reached in some rounds is in every closed pair of sets
  module _ (H T : ℕ → Bool) (closed : Closed k c n w a H T) where
    wanted_closed : (J : ℕ → Bool) → ((i : ℕ) → i < k → J i ≡ true → H i ≡ true) → (s : ℕ) → s < n → wanted_by k w a J s ≡ true → T s ≡ true
    wanted_closed J part s l e = let q = wanted_by_lem J s e in closed.may_use q.0 s q.1 l (part q.0 q.1 q.2) q.3 q.4

    rounds_closed : (m i : ℕ) → i < k → jobs_in m i ≡ true → H i ≡ true
    unfolding reached_in
    rounds_closed zero i l e = closed.lacks i l (lt_of (count n (λ s. a i s)) (c i) e)
    rounds_closed (suc m) i l e = go (rounds_closed m) (round_of m i e)
      where
        go : ((j : ℕ) → j < k → jobs_in m j ≡ true → H j ≡ true)
            → (jobs_in m i ≡ true) ⊎ ((s : ℕ) × (s < n) × (a i s ≡ true) × (wanted_by k w a (jobs_in m) s ≡ true)) → H i ≡ true
        go ih (inl f) = ih i l f
        go ih (inr (s, q, has, f)) = closed.owners i s l q (wanted_closed (jobs_in m) ih s q f) has

  -- the round after m adds no job
  abbrev Stable : ℕ → Type 0
  Stable m = (i : ℕ) → i < k → jobs_in (suc m) i ≡ true → jobs_in m i ≡ true

  -- a round that adds no job is followed by such rounds only
  stable_next : (m : ℕ) → Stable m → Stable (suc m)
  stable_next m st i l e = go (round_of (suc m) i e)
    where
      go : (jobs_in (suc m) i ≡ true) ⊎ ((s : ℕ) × (s < n) × (a i s ≡ true) × (wanted_by k w a (jobs_in (suc m)) s ≡ true)) → jobs_in (suc m) i ≡ true
      go (inl f) = f
      go (inr (s, q, has, f)) =
          let v = wanted_by_lem (jobs_in (suc m)) s f in
          round_adds m i s q has (wanted_some (jobs_in m) v.0 s v.1 (st v.0 v.1 v.2) v.3 v.4)

  -- each round before adds one
  stable_or_more : (m : ℕ) → Stable m ⊎ (m < count k (jobs_in (suc m)))
  stable_or_more zero = go (either k (λ i l. added i (is (jobs_in 1 i)) (is (jobs_in 0 i))))
    where
      added : (i : ℕ) → Is (jobs_in 1 i) → Is (jobs_in 0 i) → (jobs_in 1 i ≡ true) ⊎ (jobs_in 1 i ≡ true → jobs_in 0 i ≡ true)
      added i (is_true e) f = inl e
      added i (is_false e) f = inr (λ g. absurd (clash (sym g ∙ e)))

      go : ((i : ℕ) × (i < k) × (jobs_in 1 i ≡ true)) ⊎ Stable 0 → Stable 0 ⊎ (0 < count k (jobs_in 1))
      go (inl (i, l, e)) = inr (count_some k (jobs_in 1) i l e)
      go (inr st) = inl st
  stable_or_more (suc m) = go (stable_or_more m)
    where
      added : (i : ℕ) → Is (jobs_in (suc (suc m)) i) → Is (jobs_in (suc m) i)
          → ((jobs_in (suc (suc m)) i ≡ true) × (jobs_in (suc m) i ≡ false)) ⊎ (jobs_in (suc (suc m)) i ≡ true → jobs_in (suc m) i ≡ true)
      added i (is_true e) (is_true f) = inr (λ g. f)
      added i (is_true e) (is_false f) = inl (e, f)
      added i (is_false e) f = inr (λ g. absurd (clash (sym g ∙ e)))

      more : m < count k (jobs_in (suc m))
          → ((i : ℕ) × (i < k) × ((jobs_in (suc (suc m)) i ≡ true) × (jobs_in (suc m) i ≡ false))) ⊎ Stable (suc m)
          → Stable (suc m) ⊎ (suc m < count k (jobs_in (suc (suc m))))
      more q (inl (i, l, e)) = inr (omega (arith, count_lt k (jobs_in (suc m)) (jobs_in (suc (suc m))) i l (λ j r. round_keeps (suc m) j) e.1 e.0))
      more q (inr st) = inl st

      go : Stable m ⊎ (m < count k (jobs_in (suc m))) → Stable (suc m) ⊎ (suc m < count k (jobs_in (suc (suc m))))
      go (inl st) = inl (stable_next m st)
      go (inr q) = more q (either k (λ i l. added i (is (jobs_in (suc (suc m)) i)) (is (jobs_in (suc m) i))))

  -- The first round that adds no job ends the search ..
  pub reached_of_stable : (m : ℕ) → ((i : ℕ) → i < k → reached_in k c n w a (suc m) i ≡ true → reached_in k c n w a m i ≡ true)
      → Reached k c n w a (reached_in k c n w a m) (wanted_by k w a (reached_in k c n w a m))
  reached_of_stable m st =
      record {
        closed = record {
          lacks = λ i l few. rounds_lack m i few;
          may_use = λ i s l q e f g. wanted_some (jobs_in m) i s l e f g;
          owners = λ i s l q e has. st i l (round_adds m i s q has e);
        };
        jobs = λ H T closed. rounds_closed H T closed m;
        slots = λ H T closed. wanted_closed H T closed (jobs_in m) (rounds_closed H T closed m);
      }

  -- .. and there is one: with k jobs, k rounds reach all that can be reached.
  pub reached_in_rounds : Reached k c n w a (reached_in k c n w a k) (wanted_by k w a (reached_in k c n w a k))
  reached_in_rounds = reached_of_stable k (go (stable_or_more k))
    where
      go : Stable k ⊎ (k < count k (jobs_in (suc k))) → Stable k
      go (inl st) = st
      go (inr q) = absurd (omega (arith, count_le k (jobs_in (suc k))))
