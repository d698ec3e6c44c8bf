-- Necessity and least eviction: what every valid table of a call tells of the search.
--
-- In order: the cells of a job in a valid table, how many the jobs have in a slot at the most (`jobs_in_slot`), and the placement that they are (`free_of_valid`); the lost cells of a
-- valid table as a set of the eviction order, with which the call fits (`lost_set_lem`, `lost_set_size`, `lost_set_fits`); so a call with a valid table fits (`valid_fits`); the evicted
-- set has the fewest cells, of each priority (`fewest_upto`) and in all (`fewest`); it is document 01's (`evicted_first_smallest`).
-- Assumes nothing.
use Prim.Native.Nat.{ℕ, ◌+◌, ◌≤◌, ◌<◌}
use native.Mathlib.Omega.{arith}
use mathlib.Core.Path.{◌≡◌, refl, sym, ◌∙◌, ap}
use mathlib.Core.Logic.{◌⊎◌, inl, inr}
use mathlib.Core.Bool.{Bool, true, false, not, ◌&&◌, ◌||◌}
use mathlib.Core.List.{List}
use lib.ListN.{length, length-map}
use lib.Dec.{ltb, leb, eqb}
use Rattle.laws.specs.Sums.{only, sum, count}
use Rattle.laws.specs.Lists.{at}
use Rattle.laws.specs.Placement.{Placed, everywhere}
use Rattle.laws.specs.Eviction.{added, ones, FirstSmallest}
use Rattle.laws.proofs.Tests.{Is, is_true, is_false, is, clash, both, left_of, right_of, or_left, or_right, or_cases, and_implied, not_is_true, false_of_not}
use Rattle.laws.proofs.Comparisons.{eq_of, eqb_yes}
use Rattle.laws.proofs.Counts.{count_ext, count_imp, count_none, count_split, count_le_bit}
use Rattle.laws.proofs.Cells.{cells_within, placed_of_cells}
use Rattle.laws.proofs.Eviction.{searched_long, searched_best, searched_fewest, searched_weight, searched_first, first_smallest_of_iff}
use Rattle.station.specs.Head.{Head, Job, Valid}
use Rattle.placing.specs.Table.{Cells, Each, WellFormed, cells, is_empty, is_optional, is_held, number_in, call_cell, free_number, cleared}
use Rattle.placing.specs.Valid.{ValidCall, Change, same, filled, evicted, usable, job_at, lost, lost_up_to, priority_of}
use Rattle.placing.specs.Call.{CellPlace, evictable, eviction_order, slots_of, in_set, empty_free, free_number_from, lengths, call_short, evicted_set, is_evictable}
use Rattle.placing.specs.Call.{call_fits}
use Rattle.placing.specs.Claims.{Fits}
use Rattle.placing.proofs.CountedCells.{cells_ext, number_in_call, is_optional_call, is_call_call, lost_was, lost_now, is_lost, optional_evictable}
use Rattle.placing.proofs.WellFormed.{once_cell}
use Rattle.placing.proofs.FreeNumber.{held_call, empty_unheld, cleared_empty, cleared_held, freed_from}
use Rattle.placing.proofs.NewJobs.{Good, Placeable, placeable_of, above, above_new, length_lengths, at_lengths}
use Rattle.placing.proofs.CallShort.{call_shortage, short_fits}
use Rattle.placing.proofs.EvictionOrder.{those, length_those, set_size, set_in_slot, in_those, marked_cells, order_rising}

-- ---- a valid table is a placement

module _ (h : Head) (clock : ℕ) (jobs : List Job) (t u : Cells) where
  -- a cell of a job was empty or is lost
  job_cell_free : Placeable h clock t jobs → (i s b : ℕ) → i < length jobs → s < h.slots → b < h.bridges → usable clock s ≡ true
      → Change clock jobs s (t s b) (u s b) → u s b ≡ call_cell (job_at jobs i).number → (empty_free clock t s b || lost t u s b) ≡ true
  job_cell_free can i s b l ls lb late (same e) q =
      absurd (can.no_cell i l s b ls lb late (ap number_in (sym e ∙ q) ∙ number_in_call (job_at jobs i).number (omega (arith, can.high i l))))
  job_cell_free can i s b l ls lb late (filled a o j lj e) q = go (or_cases (is_empty (t s b)) (is_optional (t s b)) o)
    where
      go : (is_empty (t s b) ≡ true) ⊎ (is_optional (t s b) ≡ true) → (empty_free clock t s b || lost t u s b) ≡ true
      go (inl p) = or_left (empty_free clock t s b) (lost t u s b) (both (usable clock s) (is_empty (t s b)) a p)
      go (inr p) =
          or_right (empty_free clock t s b) (lost t u s b)
          (is_lost t u s b p (ap is_optional q ∙ is_optional_call (job_at jobs i).number (omega (arith, can.high i l))))
  job_cell_free can i s b l ls lb late (evicted a o e) q = absurd (omega arith)

  -- job i has the cell of slot s, bridge b, above the clock
  abbrev own : ℕ → ℕ → ℕ → Bool
  own i s b = usable clock s && eqb (u s b) (call_cell (job_at jobs i).number)

  own_cell : (i s b : ℕ) → own i s b ≡ true → (usable clock s ≡ true) × (u s b ≡ call_cell (job_at jobs i).number)
  own_cell i s b e =
      let v : ℕ = call_cell (job_at jobs i).number in
      (left_of (usable clock s) (eqb (u s b) v) e, eq_of (u s b) v (right_of (usable clock s) (eqb (u s b) v) e))

  module _ (can : Placeable h clock t jobs) (formed : WellFormed h u) (changes : Each h (λ s b. Change clock jobs s (t s b) (u s b))) where
    job : (i : ℕ) → i < length (lengths jobs) → i < length jobs
    job i l = omega (arith, length_lengths jobs)

    -- the jobs' cells of a slot are at most those that pass a test which each of them passes
    in_slot_lem : (f : ℕ → Bool) (s : ℕ) → ((i b : ℕ) → i < length jobs → b < h.bridges → own i s b ≡ true → f b ≡ true)
        → sum (length (lengths jobs)) (λ i. count h.bridges (λ b. own i s b)) ≤ count h.bridges f
    in_slot_lem f s pass =
        cells_within (length (lengths jobs)) h.bridges (λ i b. own i s b) f
        (λ b lb. count_le_bit (length (lengths jobs)) (λ i. own i s b) (f b)
        (λ i j k l p q. can.distinct j i k (job j l) (omega (arith, (own_cell i s b p).1, (own_cell j s b q).1)))
        (λ i l. pass i b (job i l) lb))

    -- what is left of t without the lost cells
    abbrev spared : Cells
    spared = cleared (lost t u) t

    -- a cell of a job was empty or is lost, and is held only now
    job_cell_lem : (i s b : ℕ) → i < length jobs → s < h.slots → b < h.bridges → own i s b ≡ true → (is_empty (spared s b) ≡ true) × (is_held (u s b) ≡ true)
    job_cell_lem i s b l ls lb e =
        let has = own_cell i s b e in (
          cleared_empty h (lost t u) t s b ∙ free_or_lost (or_cases (empty_free clock t s b) (lost t u s b) (job_cell_free can i s b l ls lb has.0 (changes s b ls lb) has.1)),
          ap is_held has.1 ∙ held_call (call_cell (job_at jobs i).number) (is_call_call (job_at jobs i).number (omega (arith, can.high i l))),
        )
      where
        free_or_lost : (empty_free clock t s b ≡ true) ⊎ (lost t u s b ≡ true) → (is_empty (t s b) || lost t u s b) ≡ true
        free_or_lost (inl p) = or_left (is_empty (t s b)) (lost t u s b) (right_of (usable clock s) (is_empty (t s b)) p)
        free_or_lost (inr p) = or_right (is_empty (t s b)) (lost t u s b) p

    -- what is held and not lost is held afterwards
    held_after : (s b : ℕ) → s < h.slots → b < h.bridges → is_held (spared s b) ≡ true → is_held (u s b) ≡ true
    held_after s b ls lb e =
        let now : (is_held (t s b) && not (lost t u s b)) ≡ true = sym (cleared_held h (lost t u) t s b) ∙ e in
        go (left_of (is_held (t s b)) (not (lost t u s b)) now) (false_of_not (lost t u s b) (right_of (is_held (t s b)) (not (lost t u s b)) now)) (changes s b ls lb)
      where
        go : is_held (t s b) ≡ true → lost t u s b ≡ false → Change clock jobs s (t s b) (u s b) → is_held (u s b) ≡ true
        go p q (same d) = ap is_held d ∙ p
        go p q (filled a o j lj d) = ap is_held d ∙ held_call (call_cell (job_at jobs j).number) (is_call_call (job_at jobs j).number (omega (arith, can.high j lj)))
        go p q (evicted a o d) = absurd (clash (sym (is_lost t u s b o (ap is_optional d)) ∙ q))

    -- The jobs' cells of a slot are at most its free number without the lost cells: they were empty or are lost, and a sound table obeys the cap.
    pub jobs_in_slot : (s : ℕ) → s < h.slots
        → sum (length (lengths jobs)) (λ i. count h.bridges (λ b. own i s b)) ≤ free_number_from h clock (cleared (lost t u) t) s
    jobs_in_slot s ls = go (is (usable clock s))
      where
        new : ℕ → Bool
        new b = is_held (u s b) && not (is_held (spared s b))

        go : Is (usable clock s) → sum (length (lengths jobs)) (λ i. count h.bridges (λ b. own i s b)) ≤ only (usable clock s) (free_number h spared s)
        go (is_true e) =
            omega (
              arith,
              ap (λ (c : Bool). only c (free_number h spared s)) e,
              in_slot_lem (λ b. is_empty (spared s b)) s (λ i b l lb d. (job_cell_lem i s b l ls lb d).0),
              in_slot_lem new s (λ i b l lb d. let w = job_cell_lem i s b l ls lb d in
                  both (is_held (u s b)) (not (is_held (spared s b))) w.1 (not_is_true (is_held (spared s b)) (empty_unheld (spared s b) w.0))),
              formed.supplied s ls,
              count_split h.bridges (λ b. is_held (u s b)) (λ b. is_held (spared s b)),
              count_imp h.bridges (λ b. is_held (spared s b)) (λ b. is_held (u s b) && is_held (spared s b))
                  (λ b lb d. both (is_held (u s b)) (is_held (spared s b)) (held_after s b ls lb d) d),
            )
        go (is_false e) =
            omega (
              arith,
              in_slot_lem (λ b. false) s (λ i b l lb d. absurd (clash (sym (own_cell i s b d).0 ∙ e))),
              count_none h.bridges (λ b. false) (λ b lb. refl),
            )

    -- A table that gives each job its length in cells above the clock places the jobs in what is free without the cells that it loses.
    pub free_of_valid : ((i : ℕ) → i < length jobs → above h clock u (call_cell (job_at jobs i).number) ≡ (job_at jobs i).slots)
        → Placed everywhere (length (lengths jobs)) (at (lengths jobs)) h.slots (free_number_from h clock (cleared (lost t u) t))
        (λ i s. ltb 0 (count h.bridges (λ b. own i s b)))
    free_of_valid exact =
        placed_of_cells everywhere (length (lengths jobs)) h.slots h.bridges own (free_number_from h clock (cleared (lost t u) t))
        (at (lengths jobs)) row jobs_in_slot (λ i l. exact i (job i l) ∙ sym (at_lengths jobs i)) (λ i s l ls e. refl)
      where
        row : (i s : ℕ) → i < length (lengths jobs) → s < h.slots → count h.bridges (λ b. own i s b) ≤ 1
        row i s l ls =
            let number : number_in (call_cell (job_at jobs i).number) ≡ (job_at jobs i).number =
            number_in_call (job_at jobs i).number (omega (arith, can.high i (job i l))) in
            omega (
              arith,
              count_imp h.bridges (λ b. own i s b) (λ b. eqb (u s b) (call_cell (job_at jobs i).number))
                  (λ b lb. right_of (usable clock s) (eqb (u s b) (call_cell (job_at jobs i).number))),
              once_cell h u formed s (call_cell (job_at jobs i).number) ls (omega (arith, can.low i (job i l))),
            )

  -- a lost cell is evictable
  pub lost_evictable : (s b : ℕ) → Change clock jobs s (t s b) (u s b) → lost t u s b ≡ true → evictable h clock t s b ≡ true
  lost_evictable s b (same e) q = absurd (clash (sym (lost_was t u s b q) ∙ sym (ap is_optional e) ∙ lost_now t u s b q))
  lost_evictable s b (filled a o j lj e) q = both (usable clock s) (is_evictable h (t s b)) a (optional_evictable h (t s b) (lost_was t u s b q))
  lost_evictable s b (evicted a o e) q = both (usable clock s) (is_evictable h (t s b)) a (optional_evictable h (t s b) (lost_was t u s b q))

-- ---- the lost cells as a set of the eviction order

-- a set of the eviction order has as many tests as the list of its slots
length_those_slots : (q : ℕ → ℕ → Bool) (zs : List CellPlace) → length (those q zs) ≡ length (slots_of zs)
length_those_slots q zs = length_those q zs ∙ sym (length-map zs (λ (z : CellPlace). z.slot))

-- the lost cells of u as a set of the eviction order
abbrev pub lost_set : Head → ℕ → Cells → Cells → List Bool
lost_set h clock t u = those (λ s b. lost t u s b) (eviction_order h clock t)

module _ (h : Head) (clock : ℕ) (jobs : List Job) (t u : Cells)
    (valid : Valid h) (formed : WellFormed h t) (good : Good h t jobs) (w : ValidCall h clock jobs t u) where
  -- in the frame the set is just the lost cells, and has as many
  pub lost_set_lem : Each h (λ s b. in_set (eviction_order h clock t) (lost_set h clock t u) s b ≡ lost t u s b)
  lost_set_lem s b ls lb =
      in_those h clock t valid formed (λ r a. lost t u r a) s b ls lb
      ∙ and_implied (evictable h clock t s b) (lost t u s b) (lost_evictable h clock jobs t u s b (w.changes s b ls lb))

  pub lost_set_size : ones (lost_set h clock t u) ≡ cells h (λ s b. lost t u s b)
  lost_set_size =
      set_size h clock t valid formed (lost_set h clock t u) (length_those (λ s b. lost t u s b) (eviction_order h clock t))
      ∙ cells_ext h (λ s b. in_set (eviction_order h clock t) (lost_set h clock t u) s b) (λ s b. lost t u s b) lost_set_lem

  -- with the lost cells the call fits
  pub lost_set_fits : call_short h jobs (added (free_number_from h clock t) (slots_of (eviction_order h clock t)) (lost_set h clock t u)) ≡ 0
  lost_set_fits =
      go (free_of_valid h clock jobs t u (placeable_of h t jobs formed good clock) w.well_formed w.changes
      (λ i l. above_new h clock jobs t u good w.changes i l ∙ w.exact i l))
    where
      free : (s : ℕ) → s < h.slots
          → added (free_number_from h clock t) (slots_of (eviction_order h clock t)) (lost_set h clock t u) s ≡ free_number_from h clock (cleared (lost t u) t) s
      free s l =
          set_in_slot h clock t valid formed (free_number_from h clock t) (lost_set h clock t u) s l
          ∙ ap (λ (n : ℕ). free_number_from h clock t s + n)
          (count_ext h.bridges (λ b. in_set (eviction_order h clock t) (lost_set h clock t u) s b) (λ b. lost t u s b) (λ b m. lost_set_lem s b l m))
          ∙ sym (freed_from h clock t s (lost t u) (λ b m. lost_evictable h clock jobs t u s b (w.changes s b l m)) (formed.supplied s l))

      go : {a : ℕ → ℕ → Bool}
          → Placed everywhere (length (lengths jobs)) (at (lengths jobs)) h.slots (free_number_from h clock (cleared (lost t u) t)) a
          → call_short h jobs (added (free_number_from h clock t) (slots_of (eviction_order h clock t)) (lost_set h clock t u)) ≡ 0
      go {a} P =
          (short_fits h jobs (added (free_number_from h clock t) (slots_of (eviction_order h clock t)) (lost_set h clock t u))).1
          (a, record { exact = P.exact; within = λ s l. omega (arith, P.within s l, free s l); allowed = P.allowed })

  -- A valid table exists only where the call fits.
  pub valid_fits : call_fits h clock jobs t ≡ true
  unfolding call_fits evicted_set
  valid_fits =
      eqb_yes (call_short h jobs (added (free_number_from h clock t) (slots_of (eviction_order h clock t)) (evicted_set h clock jobs t))) 0
      (omega (
        arith,
        lost_set_fits,
        searched_best h.slots (call_short h jobs) (call_shortage h jobs) (free_number_from h clock t)
            (slots_of (eviction_order h clock t)) (lost_set h clock t u) (length_those_slots (λ s b. lost t u s b) (eviction_order h clock t)),
      ))

  -- Every valid table loses at least as many cells of priority p or better as the call evicts.
  pub fewest_upto : (p : ℕ)
      → cells h (λ s b. in_set (eviction_order h clock t) (evicted_set h clock jobs t) s b && leb (priority_of h (number_in (t s b))) p) ≤ lost_up_to h t u p
  unfolding evicted_set
  fewest_upto p =
      let better : ℕ → ℕ → Bool = λ s b. leb (priority_of h (number_in (t s b))) p in
      let here : cells h (λ s b. in_set (eviction_order h clock t) (lost_set h clock t u) s b && better s b) ≡ lost_up_to h t u p =
      cells_ext h (λ s b. in_set (eviction_order h clock t) (lost_set h clock t u) s b && better s b) (λ s b. lost t u s b && better s b)
      (λ s b ls lb. ap (λ (c : Bool). c && better s b) (lost_set_lem s b ls lb)) in
      omega (
        arith,
        here,
        marked_cells h clock t valid formed better (lost_set h clock t u),
        marked_cells h clock t valid formed better (evicted_set h clock jobs t),
        searched_weight h.slots (call_short h jobs) (call_shortage h jobs) (free_number_from h clock t) (slots_of (eviction_order h clock t))
            (lost_set h clock t u) (those better (eviction_order h clock t)) (order_rising h clock t valid formed p)
            (length_those_slots better (eviction_order h clock t)) (length_those_slots (λ s b. lost t u s b) (eviction_order h clock t)) lost_set_fits,
      )

  -- Every valid table loses at least as many cells as the call evicts.
  pub fewest : ones (evicted_set h clock jobs t) ≤ cells h (λ s b. lost t u s b)
  unfolding evicted_set
  fewest =
      omega (
        arith,
        lost_set_size,
        searched_fewest h.slots (call_short h jobs) (call_shortage h jobs) (free_number_from h clock t)
            (slots_of (eviction_order h clock t)) (lost_set h clock t u) 0
            (length_those_slots (λ s b. lost t u s b) (eviction_order h clock t)) lost_set_fits,
      )

-- ---- document 01's rule

-- The evicted set is, of the smallest sets with which the call fits, the one whose list comes first.
pub evicted_first_smallest : (h : Head) (clock : ℕ) (jobs : List Job) (t : Cells) → call_fits h clock jobs t ≡ true
    → FirstSmallest (Fits h jobs) (free_number_from h clock t) (slots_of (eviction_order h clock t)) (evicted_set h clock jobs t)
unfolding call_fits evicted_set
evicted_first_smallest h clock jobs t e =
    first_smallest_of_iff (λ y. call_short h jobs y ≡ 0) (Fits h jobs) (λ y. short_fits h jobs y)
    (free_number_from h clock t) (slots_of (eviction_order h clock t)) (evicted_set h clock jobs t)
    (searched_first h.slots (call_short h jobs) (call_shortage h jobs) (free_number_from h clock t) (slots_of (eviction_order h clock t))
    (evicted_set h clock jobs t) (searched_long (call_short h jobs) (free_number_from h clock t) (slots_of (eviction_order h clock t)))
    (eq_of (call_short h jobs (added (free_number_from h clock t) (slots_of (eviction_order h clock t)) (evicted_set h clock jobs t))) 0 e))
