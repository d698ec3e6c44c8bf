-- The first placement within windows: it is found job by job, slot by slot, and a placement exists exactly if no set of jobs exceeds its
-- capacity (Hall).
--
-- In order: one pair of the walk; the walk over a job's slots; the walk over the jobs; the walk ends with nothing left, so that it places; any
-- other placement is behind; Hall's theorem (`hall`); the first placement (`first_placement_first`), and that no other matrix is it
-- (`first_placed_unique`, `first_placed_is`).
-- Assumes nothing.
use Prim.Native.Nat.{ℕ, zero, suc, ◌+◌, ◌≤◌, ◌<◌, min}
use native.Mathlib.Nat.{le_refl}
use native.Mathlib.Omega.{arith}
use mathlib.Core.Path.{◌≡◌, refl, sym, ◌∙◌, ap}
use mathlib.Core.Logic.{◌⊎◌, inl, inr, ◌↔◌}
use mathlib.Core.Bool.{Bool, true, false, not, ◌&&◌}
use lib.Dec.{ltb, eqb}
use Rattle.laws.specs.Sums.{bit, sum, count}
use Rattle.laws.specs.Placement.{Placed}
use Rattle.laws.specs.Windows.{Earlier, Ahead, FirstPlaced, users_of, window_excess, without, Rest, taking, leaving, rest_excess, takes, after_pair}
use Rattle.laws.specs.Windows.{after_slots, after_jobs, first_fit, first_placement}
use Rattle.laws.proofs.Tests.{Is, is_true, is_false, is, clash, not-true, left_of, right_of, both, and-true}
use Rattle.laws.proofs.Comparisons.{lt_of, ge_of, eq_of, ne_of, eqb_self, eqb_no, eqb_yes, ltb_yes}
use Rattle.laws.proofs.Sums.{sum_zero, term_le}
use Rattle.laws.proofs.Counts.{bit_le, count_none, bit_and_true, bit_and_false, count_some}
use Rattle.laws.proofs.WindowExcess.{criterion_of_window_excess}
use Rattle.laws.proofs.TakeOrLeave.{take_or_leave}
use Rattle.laws.proofs.WindowPlacement.{window_excess_of_within, within_ext, within_taking, within_leaving}

-- ---- one pair of the walk

module _ (k n : ℕ) where
  -- what is left has a placement b
  abbrev WithinRest : Rest → (ℕ → ℕ → Bool) → Type 0
  WithinRest r b = Placed r.windows k r.needs n r.free b

  module _ (r : Rest) (i s : ℕ) where
    -- a pair is taken if the job may use the slot, needs it, a cell is free and the rest fits ..
    takes_of : r.windows i s ≡ true → 0 < r.needs i → 0 < r.free s → rest_excess k n (taking r i s) ≡ 0 → takes k n r i s ≡ true
    takes_of a b d e =
        both (r.windows i s && ltb 0 (r.needs i) && ltb 0 (r.free s)) (eqb (rest_excess k n (taking r i s)) 0)
        (both (r.windows i s && ltb 0 (r.needs i)) (ltb 0 (r.free s)) (both (r.windows i s) (ltb 0 (r.needs i)) a (ltb_yes 0 (r.needs i) b))
        (ltb_yes 0 (r.free s) d))
        (eqb_yes (rest_excess k n (taking r i s)) 0 e)

    -- .. and only then
    taken_may : takes k n r i s ≡ true → (r.windows i s ≡ true) × (0 < r.needs i) × (0 < r.free s) × (rest_excess k n (taking r i s) ≡ 0)
    taken_may e =
        let abd = left_of (r.windows i s && ltb 0 (r.needs i) && ltb 0 (r.free s)) (eqb (rest_excess k n (taking r i s)) 0) e in
        let ab = left_of (r.windows i s && ltb 0 (r.needs i)) (ltb 0 (r.free s)) abd in (
          left_of (r.windows i s) (ltb 0 (r.needs i)) ab,
          lt_of 0 (r.needs i) (right_of (r.windows i s) (ltb 0 (r.needs i)) ab),
          lt_of 0 (r.free s) (right_of (r.windows i s && ltb 0 (r.needs i)) (ltb 0 (r.free s)) abd),
          eq_of (rest_excess k n (taking r i s)) 0
              (right_of (r.windows i s && ltb 0 (r.needs i) && ltb 0 (r.free s)) (eqb (rest_excess k n (taking r i s)) 0) e),
        )

    -- what is left after a pair that is taken, and after one that is not
    pair_taken : takes k n r i s ≡ true → after_pair k n r i s ≡ taking r i s
    unfolding after_pair
    pair_taken e = rw (e, after_pair)

    pair_left : takes k n r i s ≡ false → after_pair k n r i s ≡ leaving r i s
    unfolding after_pair
    pair_left e = rw (e, after_pair)

    -- what is left fits after a pair as before: take or leave
    pair_fits : i < k → rest_excess k n r ≡ 0 → rest_excess k n (after_pair k n r i s) ≡ 0
    pair_fits l fits = go (is (takes k n r i s))
      where
        go : Is (takes k n r i s) → rest_excess k n (after_pair k n r i s) ≡ 0
        go (is_true e) = rw (pair_taken e) (taken_may e).3
        go (is_false e) = rw (pair_left e) (leave (take_or_leave k r.needs n r.free r.windows i s l fits))
          where
            leave : (rest_excess k n (leaving r i s) ≡ 0)
                ⊎ ((r.windows i s ≡ true) × (0 < r.needs i) × (0 < r.free s) × (rest_excess k n (taking r i s) ≡ 0))
                → rest_excess k n (leaving r i s) ≡ 0
            leave (inl q) = q
            leave (inr (a, b, d, q)) = absurd (clash (sym (takes_of a b d q) ∙ e))

    -- the pair is not there for a second time
    pair_windows : (j t : ℕ) → (after_pair k n r i s).windows j t ≡ without r.windows i s j t
    pair_windows j t = go (is (takes k n r i s))
      where
        go : Is (takes k n r i s) → (after_pair k n r i s).windows j t ≡ without r.windows i s j t
        go (is_true e) = ap (λ (q : Rest). q.windows j t) (pair_taken e)
        go (is_false e) = ap (λ (q : Rest). q.windows j t) (pair_left e)

    -- a taken pair is one slot less for its job, and one cell less in its slot
    pair_needs : (j : ℕ) → (after_pair k n r i s).needs j + bit (eqb j i && takes k n r i s) ≡ r.needs j
    pair_needs j = go (is (takes k n r i s))
      where
        some : 0 < r.needs i → Is (eqb j i) → bit (eqb j i) ≤ r.needs j
        some h (is_true e) = omega (arith, ap r.needs (eq_of j i e), bit_le (eqb j i))
        some h (is_false e) = omega (arith, ap bit e)

        go : Is (takes k n r i s) → (after_pair k n r i s).needs j + bit (eqb j i && takes k n r i s) ≡ r.needs j
        go (is_true e) =
            omega (
              arith,
              ap (λ (q : Rest). q.needs j) (pair_taken e),
              bit_and_true (eqb j i) (takes k n r i s) e,
              some (taken_may e).1 (is (eqb j i)),
            )
        go (is_false e) = omega (arith, ap (λ (q : Rest). q.needs j) (pair_left e), bit_and_false (eqb j i) (takes k n r i s) e)

    pair_free : (t : ℕ) → (after_pair k n r i s).free t + bit (eqb t s && takes k n r i s) ≡ r.free t
    pair_free t = go (is (takes k n r i s))
      where
        some : 0 < r.free s → Is (eqb t s) → bit (eqb t s) ≤ r.free t
        some h (is_true e) = omega (arith, ap r.free (eq_of t s e), bit_le (eqb t s))
        some h (is_false e) = omega (arith, ap bit e)

        go : Is (takes k n r i s) → (after_pair k n r i s).free t + bit (eqb t s && takes k n r i s) ≡ r.free t
        go (is_true e) =
            omega (
              arith,
              ap (λ (q : Rest). q.free t) (pair_taken e),
              bit_and_true (eqb t s) (takes k n r i s) e,
              some (taken_may e).2 (is (eqb t s)),
            )
        go (is_false e) = omega (arith, ap (λ (q : Rest). q.free t) (pair_left e), bit_and_false (eqb t s) (takes k n r i s) e)

    -- a pair that some placement of what is left has is taken
    pair_must : (b : ℕ → ℕ → Bool) → i < k → s < n → WithinRest r b → b i s ≡ true → takes k n r i s ≡ true
    pair_must b l m h e =
        takes_of (h.allowed i s l m e) (omega (arith, h.exact i l, count_some n (λ t. b i t) s m e))
        (omega (arith, h.within s m, count_some k (λ j. b j s) i l e)) (window_excess_of_within (within_taking i s l m e h))

    -- a placement that has the pair exactly if it is taken goes on
    pair_within : (b : ℕ → ℕ → Bool) → i < k → s < n → takes k n r i s ≡ b i s → WithinRest r b → WithinRest (after_pair k n r i s) (without b i s)
    pair_within b l m same h = go (is (takes k n r i s))
      where
        go : Is (takes k n r i s) → WithinRest (after_pair k n r i s) (without b i s)
        go (is_true e) = rw (pair_taken e) (within_taking i s l m (sym same ∙ e) h)
        go (is_false e) = rw (pair_left e) (within_leaving i s l m (sym same ∙ e) h)

  -- ---- the walk over a job's slots

  module _ (r : Rest) (i : ℕ) where
    -- what is left fits after some of a job's slots
    slots_fit : (s : ℕ) → i < k → rest_excess k n r ≡ 0 → rest_excess k n (after_slots k n r i s) ≡ 0
    unfolding after_slots
    slots_fit zero l fits = fits
    slots_fit (suc s) l fits = pair_fits (after_slots k n r i s) i s l (slots_fit s l fits)

    -- a pair that may still be taken could be taken before
    slots_windows : (s j t : ℕ) → (after_slots k n r i s).windows j t ≡ true → r.windows j t ≡ true
    unfolding after_slots
    slots_windows zero j t e = e
    slots_windows (suc s) j t e =
        slots_windows s j t
        (left_of ((after_slots k n r i s).windows j t) (not (eqb j i && eqb t s)) (sym (pair_windows (after_slots k n r i s) i s j t) ∙ e))

    -- a pair that the walk has passed is taken no more
    slots_passed : (s t : ℕ) → t < s → (after_slots k n r i s).windows i t ≡ true → ⊥
    unfolding after_slots
    slots_passed zero t l e = omega arith
    slots_passed (suc s) t l e = go (slots_passed s t) (is (eqb t s)) (sym (pair_windows (after_slots k n r i s) i s i t) ∙ e)
      where
        go : (t < s → (after_slots k n r i s).windows i t ≡ true → ⊥) → Is (eqb t s)
            → ((after_slots k n r i s).windows i t && not (eqb i i && eqb t s)) ≡ true → ⊥
        go ih (is_true q) f =
            clash (sym (right_of ((after_slots k n r i s).windows i t) (not (eqb i i && eqb t s)) f) ∙ rw (eqb_self i, q))
        go ih (is_false q) f =
            let ne : t ≡ s → ⊥ = ne_of t s q in
            ih (omega arith) (left_of ((after_slots k n r i s).windows i t) (not (eqb i i && eqb t s)) f)

    -- what the job has got and what it still needs make its need; the others need what they did
    slots_needs : (s : ℕ) → (after_slots k n r i s).needs i + count s (λ t. takes k n (after_slots k n r i t) i t) ≡ r.needs i
    unfolding after_slots sum
    slots_needs zero = omega arith
    slots_needs (suc s) =
        omega (
          arith,
          slots_needs s,
          pair_needs (after_slots k n r i s) i s i,
          ap (λ (b : Bool). bit (b && takes k n (after_slots k n r i s) i s)) (eqb_self i),
        )

    slots_others : (s j : ℕ) → eqb j i ≡ false → (after_slots k n r i s).needs j ≡ r.needs j
    unfolding after_slots
    slots_others zero j e = refl
    slots_others (suc s) j e =
        omega (
          arith,
          slots_others s j e,
          pair_needs (after_slots k n r i s) i s j,
          ap (λ (b : Bool). bit (b && takes k n (after_slots k n r i s) i s)) e,
        )

    -- the cells that are free ahead of the walk, and behind it
    slots_free_ahead : (s t : ℕ) → s ≤ t → (after_slots k n r i s).free t ≡ r.free t
    unfolding after_slots
    slots_free_ahead zero t l = refl
    slots_free_ahead (suc s) t l =
        omega (
          arith,
          slots_free_ahead s t (omega arith),
          pair_free (after_slots k n r i s) i s t,
          ap (λ (b : Bool). bit (b && takes k n (after_slots k n r i s) i s)) (eqb_no t s (λ e. omega arith)),
        )

    slots_free : (s t : ℕ) → t < s → (after_slots k n r i s).free t + bit (takes k n (after_slots k n r i t) i t) ≡ r.free t
    unfolding after_slots
    slots_free zero t l = omega arith
    slots_free (suc s) t l = go (slots_free s t) (is (eqb t s))
      where
        go : (t < s → (after_slots k n r i s).free t + bit (takes k n (after_slots k n r i t) i t) ≡ r.free t) → Is (eqb t s)
            → (after_pair k n (after_slots k n r i s) i s).free t + bit (takes k n (after_slots k n r i t) i t) ≡ r.free t
        go ih (is_true e) =
            omega (
              arith,
              slots_free_ahead s t (omega (arith, eq_of t s e)),
              pair_free (after_slots k n r i s) i s t,
              ap (λ (b : Bool). bit (b && takes k n (after_slots k n r i s) i s)) e,
              ap (λ (q : ℕ). bit (takes k n (after_slots k n r i q) i q)) (eq_of t s e),
            )
        go ih (is_false e) =
            let ne : t ≡ s → ⊥ = ne_of t s e in
            omega (
              arith,
              ih (omega arith),
              pair_free (after_slots k n r i s) i s t,
              ap (λ (b : Bool). bit (b && takes k n (after_slots k n r i s) i s)) e,
            )

    -- a placement that has just the pairs that were taken goes on, with those pairs removed
    slots_within : (s : ℕ) (b : ℕ → ℕ → Bool) → i < k → s ≤ n → ((t : ℕ) → t < s → takes k n (after_slots k n r i t) i t ≡ b i t) → WithinRest r b
        → (d : ℕ → ℕ → Bool) × WithinRest (after_slots k n r i s) d × ((j t : ℕ) → (j ≡ i → s ≤ t) → d j t ≡ b j t)
    unfolding after_slots
    slots_within zero b l m same h = (b, h, (λ j t q. refl))
    slots_within (suc s) b l m same h = go (slots_within s b l (omega arith) (λ t q. same t (omega arith)) h)
      where
        keeps : (j t : ℕ) → (j ≡ i → suc s ≤ t) → Is (eqb j i) → Is (eqb t s) → not (eqb j i && eqb t s) ≡ true
        keeps j t q (is_true e) (is_true f) = absurd (omega (arith, q (eq_of j i e), eq_of t s f))
        keeps j t q (is_true e) (is_false f) = rw (e, f)
        keeps j t q (is_false e) f = rw e

        go : ((d : ℕ → ℕ → Bool) × WithinRest (after_slots k n r i s) d × ((j t : ℕ) → (j ≡ i → s ≤ t) → d j t ≡ b j t))
            → (d : ℕ → ℕ → Bool) × WithinRest (after_pair k n (after_slots k n r i s) i s) d × ((j t : ℕ) → (j ≡ i → suc s ≤ t) → d j t ≡ b j t)
        go (d, within, agrees) = (
          without d i s,
          pair_within (after_slots k n r i s) i s d l m (same s (le_refl (suc s)) ∙ sym (agrees i s (λ e. le_refl s))) within,
          (λ j t q. and-true (d j t) (not (eqb j i && eqb t s)) (keeps j t q (is (eqb j i)) (is (eqb t s)))
              ∙ agrees j t (λ e. omega (arith, q e))),
        )

  -- ---- the walk over the jobs

  module _ (r : Rest) where
    -- what is left fits after some jobs
    jobs_fit : (i : ℕ) → i ≤ k → rest_excess k n r ≡ 0 → rest_excess k n (after_jobs k n r i) ≡ 0
    unfolding after_jobs
    jobs_fit zero l fits = fits
    jobs_fit (suc i) l fits = slots_fit (after_jobs k n r i) i n l (jobs_fit i (omega arith) fits)

    -- a pair that may still be taken could be taken at the start
    jobs_windows : (i j t : ℕ) → (after_jobs k n r i).windows j t ≡ true → r.windows j t ≡ true
    unfolding after_jobs
    jobs_windows zero j t e = e
    jobs_windows (suc i) j t e = jobs_windows i j t (slots_windows (after_jobs k n r i) i n j t e)

    -- and is none of a job that the walk has passed
    jobs_passed : (i j t : ℕ) → j < i → t < n → (after_jobs k n r i).windows j t ≡ true → ⊥
    unfolding after_jobs
    jobs_passed zero j t l m e = omega arith
    jobs_passed (suc i) j t l m e = go (jobs_passed i j t) (is (eqb j i))
      where
        go : (j < i → t < n → (after_jobs k n r i).windows j t ≡ true → ⊥) → Is (eqb j i) → ⊥
        go ih (is_true q) =
            slots_passed (after_jobs k n r i) i n t m (rw (eq_of j i q) at e)
        go ih (is_false q) =
            let ne : j ≡ i → ⊥ = ne_of j i q in
            ih (omega arith) m (slots_windows (after_jobs k n r i) i n j t e)

    -- the jobs ahead of the walk need what they did; those behind it have got the rest of their needs
    jobs_needs_ahead : (i j : ℕ) → i ≤ j → (after_jobs k n r i).needs j ≡ r.needs j
    unfolding after_jobs
    jobs_needs_ahead zero j l = refl
    jobs_needs_ahead (suc i) j l = slots_others (after_jobs k n r i) i n j (eqb_no j i (λ e. omega arith)) ∙ jobs_needs_ahead i j (omega arith)

    jobs_needs : (i j : ℕ) → j < i → (after_jobs k n r i).needs j + count n (λ t. first_fit k n r j t) ≡ r.needs j
    unfolding after_jobs
    jobs_needs zero j l = omega arith
    jobs_needs (suc i) j l = go (jobs_needs i j) (is (eqb j i))
      where
        go : (j < i → (after_jobs k n r i).needs j + count n (λ t. first_fit k n r j t) ≡ r.needs j) → Is (eqb j i)
            → (after_slots k n (after_jobs k n r i) i n).needs j + count n (λ t. first_fit k n r j t) ≡ r.needs j
        go ih (is_true e) =
            rw (eq_of j i e) (slots_needs (after_jobs k n r i) i n ∙ jobs_needs_ahead i i (le_refl i))
        go ih (is_false e) =
            let ne : j ≡ i → ⊥ = ne_of j i e in
            omega (arith, ih (omega arith), slots_others (after_jobs k n r i) i n j e)

    -- the cells that were taken and those still free make the free cells
    jobs_free : (i t : ℕ) → t < n → (after_jobs k n r i).free t + count i (λ j. first_fit k n r j t) ≡ r.free t
    unfolding after_jobs sum
    jobs_free zero t l = omega arith
    jobs_free (suc i) t l = omega (arith, jobs_free i t l, slots_free (after_jobs k n r i) i n t l)

    -- a placement that has just the pairs that were taken goes on, with those pairs removed
    jobs_within : (i : ℕ) (b : ℕ → ℕ → Bool) → i ≤ k → ((j t : ℕ) → j < i → t < n → first_fit k n r j t ≡ b j t) → WithinRest r b
        → (d : ℕ → ℕ → Bool) × WithinRest (after_jobs k n r i) d × ((j t : ℕ) → i ≤ j → d j t ≡ b j t)
    unfolding after_jobs
    jobs_within zero b l same h = (b, h, (λ j t q. refl))
    jobs_within (suc i) b l same h = go (jobs_within i b (omega arith) (λ j t q. same j t (omega arith)) h)
      where
        go : ((d : ℕ → ℕ → Bool) × WithinRest (after_jobs k n r i) d × ((j t : ℕ) → i ≤ j → d j t ≡ b j t))
            → (d : ℕ → ℕ → Bool) × WithinRest (after_slots k n (after_jobs k n r i) i n) d × ((j t : ℕ) → suc i ≤ j → d j t ≡ b j t)
        go (d, within, agrees) =
            let w = slots_within (after_jobs k n r i) i n d l (le_refl n)
            (λ t q. same i t (le_refl (suc i)) q ∙ sym (agrees i t (le_refl i))) within in
            (w.0, w.1, (λ j t q. w.2 j t (λ e. absurd (omega arith)) ∙ agrees j t (omega arith)))

    -- ---- the walk places

    -- at the end no pair may be taken, so nothing is needed
    end_needs : rest_excess k n r ≡ 0 → (j : ℕ) → j < k → (after_jobs k n r k).needs j ≡ 0
    end_needs fits j l =
        let e = after_jobs k n r k in
        omega (
          arith,
          criterion_of_window_excess k e.needs n e.free e.windows (jobs_fit k (le_refl k) fits) (λ i. true),
          term_le k e.needs j l,
          sum_zero n (λ s. min (e.free s) (users_of k e.windows (λ i. true) s))
              (λ s m. omega (arith, count_none k (λ i. e.windows i s) (λ i q. not-true (e.windows i s) (jobs_passed k i s q m)))),
        )

    -- where there is no excess the walk makes a placement
    pub first_fit_within : rest_excess k n r ≡ 0 → Placed r.windows k r.needs n r.free (first_fit k n r)
    first_fit_within fits =
        record {
          exact = λ i l. omega (arith, jobs_needs k i l, end_needs fits i l);
          within = λ s l. omega (arith, jobs_free k s l);
          allowed = λ i s l m e. jobs_windows i i s
              (slots_windows (after_jobs k n r i) i s i s (taken_may (after_slots k n (after_jobs k n r i) i s) i s e).0);
        }

    -- ---- any other placement is behind

    module _ (b : ℕ → ℕ → Bool) (h : WithinRest r b) where
      -- where it has all pairs before that the walk took, and no others, the walk takes each pair that it has
      ahead_next : (i s : ℕ) → i < k → s < n → ((j t : ℕ) → j < i → t < n → first_fit k n r j t ≡ b j t)
          → ((t : ℕ) → t < s → first_fit k n r i t ≡ b i t) → b i s ≡ true → first_fit k n r i s ≡ true
      ahead_next i s l m rows row e =
          let u = jobs_within i b (omega arith) rows h in
          let v = slots_within (after_jobs k n r i) i s u.0 l (omega arith) (λ t q. row t q ∙ sym (u.2 i t (le_refl i))) u.1 in
          pair_must (after_slots k n (after_jobs k n r i) i s) i s v.0 l m v.1
          (v.2 i s (λ q. le_refl s) ∙ u.2 i s (le_refl i) ∙ e)

      -- the row of job i up to slot s is the same, or the walk is ahead
      row_ahead : (i s : ℕ) → i < k → s ≤ n → ((j t : ℕ) → j < i → t < n → first_fit k n r j t ≡ b j t)
          → ((t : ℕ) → t < s → first_fit k n r i t ≡ b i t) ⊎ Ahead k n (first_fit k n r) b
      row_ahead i zero l m rows = inl (λ t q. absurd (let z : t < 0 = q in omega arith))
      row_ahead i (suc s) l m rows = go (row_ahead i s l (omega arith) rows)
        where
          grown : ((t : ℕ) → t < s → first_fit k n r i t ≡ b i t) → first_fit k n r i s ≡ b i s → (t : ℕ) → t < suc s → Is (eqb t s)
              → first_fit k n r i t ≡ b i t
          grown row same t q (is_true e) = rw (eq_of t s e) same
          grown row same t q (is_false e) = let ne : t ≡ s → ⊥ = ne_of t s e in row t (omega arith)

          earlier : ((t : ℕ) → t < s → first_fit k n r i t ≡ b i t) → (j t : ℕ) → t < n → Earlier j t i s → first_fit k n r j t ≡ b j t
          earlier row j t q (inl f) = rows j t f q
          earlier row j t q (inr f) = rw f.0 (row t f.1)

          here : ((t : ℕ) → t < s → first_fit k n r i t ≡ b i t) → Is (first_fit k n r i s) → Is (b i s)
              → ((t : ℕ) → t < suc s → first_fit k n r i t ≡ b i t) ⊎ Ahead k n (first_fit k n r) b
          here row (is_true e) (is_true f) = inl (λ t q. grown row (e ∙ sym f) t q (is (eqb t s)))
          here row (is_true e) (is_false f) =
              inr (record {
                job = i;
                slot = s;
                job_below = l;
                slot_below = m;
                has = e;
                lacks = f;
                same = λ j t u q. earlier row j t q;
              })
          here row (is_false e) (is_true f) = absurd (clash (sym (ahead_next i s l m rows row f) ∙ e))
          here row (is_false e) (is_false f) = inl (λ t q. grown row (e ∙ sym f) t q (is (eqb t s)))

          go : ((t : ℕ) → t < s → first_fit k n r i t ≡ b i t) ⊎ Ahead k n (first_fit k n r) b
              → ((t : ℕ) → t < suc s → first_fit k n r i t ≡ b i t) ⊎ Ahead k n (first_fit k n r) b
          go (inl row) = here row (is (first_fit k n r i s)) (is (b i s))
          go (inr a) = inr a

      rows_ahead : (i : ℕ) → i ≤ k → ((j t : ℕ) → j < i → t < n → first_fit k n r j t ≡ b j t) ⊎ Ahead k n (first_fit k n r) b
      rows_ahead zero l = inl (λ j t q. absurd (let z : j < 0 = q in omega arith))
      rows_ahead (suc i) l = go (rows_ahead i (omega arith))
        where
          grown : ((j t : ℕ) → j < i → t < n → first_fit k n r j t ≡ b j t) → ((t : ℕ) → t < n → first_fit k n r i t ≡ b i t)
              → (j t : ℕ) → j < suc i → t < n → Is (eqb j i) → first_fit k n r j t ≡ b j t
          grown rows row j t q m (is_true e) = rw (eq_of j i e) (row t m)
          grown rows row j t q m (is_false e) = let ne : j ≡ i → ⊥ = ne_of j i e in rows j t (omega arith) m

          next : ((j t : ℕ) → j < i → t < n → first_fit k n r j t ≡ b j t)
              → ((t : ℕ) → t < n → first_fit k n r i t ≡ b i t) ⊎ Ahead k n (first_fit k n r) b
              → ((j t : ℕ) → j < suc i → t < n → first_fit k n r j t ≡ b j t) ⊎ Ahead k n (first_fit k n r) b
          next rows (inl row) = inl (λ j t q m. grown rows row j t q m (is (eqb j i)))
          next rows (inr a) = inr a

          go : ((j t : ℕ) → j < i → t < n → first_fit k n r j t ≡ b j t) ⊎ Ahead k n (first_fit k n r) b
              → ((j t : ℕ) → j < suc i → t < n → first_fit k n r j t ≡ b j t) ⊎ Ahead k n (first_fit k n r) b
          go (inl rows) = next rows (row_ahead i n l (le_refl n) rows)
          go (inr a) = inr a

    -- the placement found pair by pair comes first
    pub first_fit_first : rest_excess k n r ≡ 0 → FirstPlaced k r.needs n r.free r.windows (first_fit k n r)
    first_fit_first fits = record { within = first_fit_within fits; first = λ b h. rows_ahead b h k (le_refl k) }

-- ---- Hall's theorem

-- Where no set of jobs exceeds its capacity there is a placement, and only there.
pub hall : (k : ℕ) (c : ℕ → ℕ) (n : ℕ) (x : ℕ → ℕ) (w : ℕ → ℕ → Bool) → (window_excess k c n x w ≡ 0) ↔ ((a : ℕ → ℕ → Bool) × Placed w k c n x a)
hall k c n x w = (
  (λ fits. (first_placement k c n x w, first_fit_within k n (record { needs = c; free = x; windows = w }) fits)),
  (λ p. window_excess_of_within p.1),
)

-- ---- the first placement

-- Where there is no excess the placement found job by job, slot by slot, is the first.
pub first_placement_first : (k : ℕ) (c : ℕ → ℕ) (n : ℕ) (x : ℕ → ℕ) (w : ℕ → ℕ → Bool) → window_excess k c n x w ≡ 0
    → FirstPlaced k c n x w (first_placement k c n x w)
first_placement_first k c n x w fits = first_fit_first k n (record { needs = c; free = x; windows = w }) fits

-- no two placements are each ahead of the other
never_both_ahead : {k n : ℕ} {a b : ℕ → ℕ → Bool} → Ahead k n a b → Ahead k n b a → ⊥
never_both_ahead {k} {n} {a} {b} p q = jobs (is (ltb p.job q.job)) (is (ltb q.job p.job))
  where
    -- the pair of the one comes before that of the other
    p_first : Earlier p.job p.slot q.job q.slot → ⊥
    p_first e = clash (sym p.has ∙ sym (q.same p.job p.slot p.job_below p.slot_below e) ∙ p.lacks)

    q_first : Earlier q.job q.slot p.job p.slot → ⊥
    q_first e = clash (sym q.has ∙ sym (p.same q.job q.slot q.job_below q.slot_below e) ∙ q.lacks)

    slots : p.job ≡ q.job → Is (ltb p.slot q.slot) → Is (ltb q.slot p.slot) → ⊥
    slots e (is_true f) g = p_first (inr (e, lt_of p.slot q.slot f))
    slots e (is_false f) (is_true g) = q_first (inr (sym e, lt_of q.slot p.slot g))
    slots e (is_false f) (is_false g) =
        let same : p.slot ≡ q.slot = omega (arith, ge_of p.slot q.slot f, ge_of q.slot p.slot g) in
        clash (sym p.has ∙ ap (λ (i : ℕ). a i p.slot) e ∙ ap (a q.job) same ∙ q.lacks)

    jobs : Is (ltb p.job q.job) → Is (ltb q.job p.job) → ⊥
    jobs (is_true f) g = p_first (inl (lt_of p.job q.job f))
    jobs (is_false f) (is_true g) = q_first (inl (lt_of q.job p.job g))
    jobs (is_false f) (is_false g) =
        slots (omega (arith, ge_of p.job q.job f, ge_of q.job p.job g)) (is (ltb p.slot q.slot)) (is (ltb q.slot p.slot))

-- no two matrices that differ are both the first placement
pub first_placed_unique : {k : ℕ} {c : ℕ → ℕ} {n : ℕ} {x : ℕ → ℕ} {w a b : ℕ → ℕ → Bool} → FirstPlaced k c n x w a → FirstPlaced k c n x w b
    → (i s : ℕ) → i < k → s < n → a i s ≡ b i s
first_placed_unique {k} {c} {n} {x} {w} {a} {b} A B i s l m = go (A.first b B.within) (B.first a A.within)
  where
    go : ((i s : ℕ) → i < k → s < n → a i s ≡ b i s) ⊎ Ahead k n a b → ((i s : ℕ) → i < k → s < n → b i s ≡ a i s) ⊎ Ahead k n b a → a i s ≡ b i s
    go (inl same) g = same i s l m
    go (inr p) (inl same) = sym (same i s l m)
    go (inr p) (inr q) = absurd (never_both_ahead p q)

-- what is the first placement is what the walk finds
pub first_placed_is : {k : ℕ} {c : ℕ → ℕ} {n : ℕ} {x : ℕ → ℕ} {w a : ℕ → ℕ → Bool} → FirstPlaced k c n x w a
    → (i s : ℕ) → i < k → s < n → a i s ≡ first_placement k c n x w i s
first_placed_is {k} {c} {n} {x} {w} A = first_placed_unique A (first_placement_first k c n x w (window_excess_of_within A.within))

-- and a matrix that agrees with the first placement is it
pub first_placed_ext : {k : ℕ} {c : ℕ → ℕ} {n : ℕ} {x : ℕ → ℕ} {w a b : ℕ → ℕ → Bool} → ((i s : ℕ) → i < k → s < n → a i s ≡ b i s)
    → FirstPlaced k c n x w a → FirstPlaced k c n x w b
first_placed_ext {k} {c} {n} {x} {w} {a} {b} same A =
    record { within = within_ext same A.within; first = λ d h. go d (A.first d h) }
  where
    go : (d : ℕ → ℕ → Bool) → ((i s : ℕ) → i < k → s < n → a i s ≡ d i s) ⊎ Ahead k n a d → ((i s : ℕ) → i < k → s < n → b i s ≡ d i s) ⊎ Ahead k n b d
    go d (inl all) = inl (λ i s l m. sym (same i s l m) ∙ all i s l m)
    go d (inr p) =
        inr (record {
          job = p.job;
          slot = p.slot;
          job_below = p.job_below;
          slot_below = p.slot_below;
          has = sym (same p.job p.slot p.job_below p.slot_below) ∙ p.has;
          lacks = p.lacks;
          same = λ j t l m e. sym (same j t l m) ∙ p.same j t l m e;
        })
