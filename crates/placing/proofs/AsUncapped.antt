-- Where the supply feeds every bridge, a plan and a call are what they were without it.
--
-- In order: no supply line is no cap (`no_line_uncapped`); each number of free cells is what it was (`free_uncapped`, `plan_count_lem`, `empty_count_lem`,
-- `call_count`), and no table is above the cap (`supplied_uncapped`); the parts of a plan and of a call; then `plan_uncapped_lem`, `call_uncapped_lem`; `(supply 8)` is none (`fed_uncapped`) and gives the same (`plan_eight`,
-- `frame_eight`, `causes_eight`, `cost_eight`, `state_eight`).
-- Assumes nothing.
use Prim.Native.Nat.{ℕ, ◌-◌, ◌≤◌}
use native.Mathlib.Omega.{arith}
use mathlib.Core.Path.{◌≡◌, refl, sym, ◌∙◌, ap, ap₂, fun_ext}
use mathlib.Core.Bool.{Bool, not, ◌&&◌, ◌||◌, cond, and-true}
use mathlib.Core.Option.{Option, none, some}
use mathlib.Core.List.{List, [], ◌∷◌, ◌++◌}
use lib.ListN.{length}
use lib.Dec.{ltb, leb, eqb}
use Rattle.laws.specs.Sums.{only}
use Rattle.laws.specs.Lists.{at, tabulate}
use Rattle.laws.specs.Placement.{Ties, nobody, left, lrtf, excess}
use Rattle.laws.specs.Grants.{granted}
use Rattle.laws.specs.Eviction.{added, ones, searched}
use Rattle.laws.proofs.Tests.{Is, is_true, is_false, is, clash, not-true, left_of}
use Rattle.laws.proofs.Comparisons.{leb_yes}
use Rattle.laws.proofs.Every.{all_every}
use Rattle.laws.proofs.Counts.{count_le, count_ext, count_none, count_or}
use Rattle.station.specs.Limits.{most_bridges, least_cells}
use Rattle.station.specs.Head.{Head, Job, with_supply, preset_at, valid}
use Rattle.station.specs.Refusal.{Refusal, out_of_limits, mandatory_not_feasible, call_not_feasible, too_short, not_well_formed, try, first_of}
use Rattle.placing.specs.Table.{Cells, cell, preset_count, number_at, mandatory_cell, optional_cell, busy_cell, call_cell, is_empty, is_held, held_cells, empty_cells, motors, free_number, cleared, laid_out, well_formed}
use Rattle.placing.specs.Valid.{usable, clock_in, job_at}
use Rattle.placing.specs.State.{State, with_table}
use Rattle.placing.specs.Plan.{rank, mandatories, optionals, plan_free, plan_free_count, plan_fits, needs, needs_from, grants, placing, tie_of, planned}
use Rattle.placing.specs.Call.{eviction_order, slots_of, in_set, empty_free, free_number_from, lengths, call_short, evicted_set, call_fits, call_free, call_free_count, called}
use Rattle.placing.specs.Outcomes.{written, PlanAnswer, PlanOutcome, plan_of, job_causes, frame_causes, call_causes, Cost, cost_of, cost, called_state, CallAnswer, CallOutcome, call_of}
use Rattle.placing.specs.Uncapped.{Uncapped, free_count, plan_count, plan_fits_uncapped, needs_uncapped, grants_uncapped, planned_uncapped, plan_uncapped}
use Rattle.placing.specs.Uncapped.{empty_count, evicted_uncapped, fits_uncapped, called_uncapped, cost_uncapped, state_uncapped, frame_causes_uncapped, call_causes_uncapped, call_uncapped}
use Rattle.placing.proofs.FreeNumber.{empty_unheld, cleared_empty, plan_free_is}
use Rattle.placing.proofs.EvictionOrder.{in_set_evictable}

-- ---- no cap

pub no_line_uncapped : (h : Head) → h.supply ≡ 0 → Uncapped h
no_line_uncapped h e = omega (arith, ap (λ (k : ℕ). cond (eqb k 0) h.bridges k) e)

-- ---- the numbers

module _ (h : Head) (all : Uncapped h) where
  -- the empty cells and the held ones are no more than the bridges
  pub free_uncapped : (t : Cells) (s : ℕ) → free_number h t s ≡ empty_cells h t s
  free_uncapped t s =
      omega (
        arith,
        all,
        count_or h.bridges (λ b. is_empty (t s b)) (λ b. is_held (t s b)) (λ b m. empty_unheld (t s b)),
        count_le h.bridges (λ b. is_empty (t s b) || is_held (t s b)),
      )

  pub supplied_uncapped : (t : Cells) (s : ℕ) → held_cells h t s ≤ motors h
  supplied_uncapped t s = omega (arith, all, count_le h.bridges (λ b. is_held (t s b)))

  pub plan_count_lem : plan_free_count h ≡ plan_count h
  plan_count_lem = fun_ext (λ s. omega (arith, all, plan_free_is h s, count_le h.bridges (λ b. plan_free h s b)))

  -- of the cells that pass a test and are empty then, in slots above the clock
  from_uncapped : (clock : ℕ) (t : Cells) (f : ℕ → ℕ → Bool) (s : ℕ) → ((b : ℕ) → f s b ≡ (usable clock s && is_empty (t s b))) → free_number_from h clock t s ≡ free_count h.bridges f s
  from_uncapped clock t f s e = go (is (usable clock s))
    where
      go : Is (usable clock s) → only (usable clock s) (free_number h t s) ≡ free_count h.bridges f s
      go (is_true u) =
          ap (λ (c : Bool). only c (free_number h t s)) u
          ∙ free_uncapped t s
          ∙ count_ext h.bridges (λ b. is_empty (t s b)) (λ b. f s b) (λ b m. sym (e b ∙ ap (λ (c : Bool). c && is_empty (t s b)) u))
      go (is_false u) =
          ap (λ (c : Bool). only c (free_number h t s)) u
          ∙ sym (count_none h.bridges (λ b. f s b) (λ b m. e b ∙ ap (λ (c : Bool). c && is_empty (t s b)) u))

  pub empty_count_lem : (clock : ℕ) (t : Cells) → free_number_from h clock t ≡ empty_count h clock t
  empty_count_lem clock t = fun_ext (λ s. from_uncapped clock t (empty_free clock t) s (λ b. refl))

  -- an evicted cell stands in a slot above the clock
  free_or_evicted : (clock : ℕ) (t : Cells) (d : List Bool) (s b : ℕ)
      → (empty_free clock t s b || in_set (eviction_order h clock t) d s b) ≡ (usable clock s && is_empty (cleared (in_set (eviction_order h clock t) d) t s b))
  free_or_evicted clock t d s b = go (is (usable clock s))
    where
      gone : ℕ → ℕ → Bool
      gone = in_set (eviction_order h clock t) d

      go : Is (usable clock s) → (empty_free clock t s b || gone s b) ≡ (usable clock s && is_empty (cleared gone t s b))
      go (is_true u) = rw u (sym (cleared_empty h gone t s b))
      go (is_false u) =
          rw u (not-true (gone s b) (λ e. clash (sym (left_of (usable clock s) _ (in_set_evictable h clock t d s b e).0) ∙ u)))

  -- ---- a plan

  fits_plan : (c : List ℕ) → plan_fits h c ≡ plan_fits_uncapped h c
  fits_plan c = ap (λ (x : ℕ → ℕ). eqb (excess (length c) (at c) h.slots x) 0) plan_count_lem

  needs_plan : needs h ≡ needs_uncapped h
  unfolding needs_from needs_uncapped
  needs_plan = ap (λ (f : List ℕ → Bool). granted f (rank h) (optionals h) (mandatories h) (preset_count h)) (fun_ext fits_plan)

  grants_plan : grants h ≡ grants_uncapped h
  unfolding grants grants_uncapped
  grants_plan = ap (λ (c : List ℕ). tabulate (preset_count h) (λ i. at c i - at (mandatories h) i)) needs_plan

  planned_plan : (ties : Ties) → planned ties h ≡ planned_uncapped ties h
  unfolding planned planned_uncapped
  planned_plan ties = ap₂ table needs_plan plan_count_lem
    where
      table : List ℕ → (ℕ → ℕ) → Cells
      table c x =
          placing (length c) (plan_free h) (λ i s. lrtf ties nobody c x i s)
          (λ i s. cond (ltb (at c i - at (left ties nobody c x s) i) (preset_at h i).mandatory) (mandatory_cell (number_at h i)) (optional_cell (number_at h i))) (λ s b. busy_cell)

  -- Where the supply feeds every bridge, a plan answers and leaves what it did without it.
  pub plan_uncapped_lem : (t : List ℕ) → plan_of h t ≡ plan_uncapped h t
  unfolding plan_of plan_uncapped
  plan_uncapped_lem t =
      ap (λ (f : Bool). outcome f (grants h) (planned (tie_of h.hold) h)) (fits_plan (mandatories h))
      ∙ ap₂ (outcome (plan_fits_uncapped h (mandatories h))) grants_plan (planned_plan (tie_of h.hold))
    where
      outcome : Bool → List ℕ → Cells → PlanOutcome
      outcome f g u =
          elim (first_of (try too_short (ltb (length t) least_cells) ∷ try out_of_limits (not (valid h)) ∷ try mandatory_not_feasible (not f) ∷ [])) [
            | none ↦ record { answer = PlanAnswer.granted g; table = written h u t }
            | some r ↦ record { answer = PlanAnswer.refused 0 r; table = t }
          ]

  -- ---- a call

  pub evicted_call : (clock : ℕ) (jobs : List Job) (t : Cells) → evicted_set h clock jobs t ≡ evicted_uncapped h clock jobs t
  unfolding evicted_set evicted_uncapped
  evicted_call clock jobs t = ap (λ (x : ℕ → ℕ). searched (call_short h jobs) x (slots_of (eviction_order h clock t))) (empty_count_lem clock t)

  pub fits_call : (clock : ℕ) (jobs : List Job) (t : Cells) → call_fits h clock jobs t ≡ fits_uncapped h clock jobs t
  unfolding call_fits fits_uncapped
  fits_call clock jobs t =
      ap₂ (λ (x : ℕ → ℕ) (d : List Bool). eqb (call_short h jobs (added x (slots_of (eviction_order h clock t)) d)) 0) (empty_count_lem clock t) (evicted_call clock jobs t)

  pub call_count : (clock : ℕ) (jobs : List Job) (t : Cells) → call_free_count h clock jobs t ≡ free_count h.bridges (call_free h clock jobs t)
  call_count clock jobs t =
      fun_ext (λ s. from_uncapped clock (cleared (in_set (eviction_order h clock t) (evicted_set h clock jobs t)) t) (call_free h clock jobs t) s
      (λ b. free_or_evicted clock t (evicted_set h clock jobs t) s b))

  pub called_call : (ties : Ties) (clock : ℕ) (jobs : List Job) (t : Cells) → called ties h clock jobs t ≡ called_uncapped ties h clock jobs t
  unfolding called called_uncapped
  called_call ties clock jobs t =
      ap (λ (x : ℕ → ℕ). placing (length (lengths jobs)) (call_free h clock jobs t) (λ i s. lrtf ties nobody (lengths jobs) x i s) (λ i s. call_cell (job_at jobs i).number) t) (call_count clock jobs t)
      ∙ ap (λ (d : List Bool).
      let f : ℕ → ℕ → Bool = λ s b. empty_free clock t s b || in_set (eviction_order h clock t) d s b in
      placing (length (lengths jobs)) f (λ i s. lrtf ties nobody (lengths jobs) (free_count h.bridges f) i s) (λ i s. call_cell (job_at jobs i).number) t)
      (evicted_call clock jobs t)

  pub cost_call : (jobs : List Job) (st : State) → cost_of h jobs st ≡ cost_uncapped h jobs st
  cost_call jobs st = ap (λ (d : List Bool). cost (ones d)) (evicted_call st.clock jobs (cell h st.table))

  pub state_call : (jobs : List Job) (st : State) → called_state h jobs st ≡ state_uncapped h jobs st
  state_call jobs st = ap (λ (u : Cells). with_table (written h u st.table) st) (called_call (tie_of st.hold) st.clock jobs (cell h st.table))

  pub sound_call : (t : Cells) → well_formed h t ≡ laid_out h t
  unfolding well_formed
  sound_call t =
      ap (λ (c : Bool). laid_out h t && c) (all_every h.slots (λ s. leb (held_cells h t s) (motors h)) (λ s l. leb_yes (held_cells h t s) (motors h) (supplied_uncapped t s)))
      ∙ and-true (laid_out h t)

  pub frame_causes_lem : (st : State) → frame_causes h st ≡ frame_causes_uncapped h st
  frame_causes_lem st =
      ap (λ (c : Bool).
      try too_short (ltb (length st.table) least_cells) ∷ try out_of_limits (not (valid h)) ∷ try not_well_formed (not (c && clock_in h.slots st.clock)) ∷ [])
      (sound_call (cell h st.table))

  pub call_causes_lem : (clock : ℕ) (jobs : List Job) (t : Cells) → call_causes h clock jobs t ≡ call_causes_uncapped h clock jobs t
  call_causes_lem clock jobs t = ap (λ (f : Bool). job_causes h jobs t ++ (try call_not_feasible (not f) ∷ [])) (fits_call clock jobs t)

  -- Where the supply feeds every bridge, a call answers and leaves what it did without it.
  pub call_uncapped_lem : (jobs : List Job) (st : State) → call_of h jobs st ≡ call_uncapped h jobs st
  unfolding call_of call_uncapped
  call_uncapped_lem jobs st =
      ap (λ (cs : List (Option Refusal)). outcome cs (cost_of h jobs st) (called_state h jobs st))
      (ap₂ (λ (x y : List (Option Refusal)). x ++ y) (frame_causes_lem st) (call_causes_lem st.clock jobs (cell h st.table)))
      ∙ ap₂ (outcome (frame_causes_uncapped h st ++ call_causes_uncapped h st.clock jobs (cell h st.table))) (cost_call jobs st) (state_call jobs st)
    where
      outcome : List (Option Refusal) → Cost → State → CallOutcome
      outcome cs n after =
          elim (first_of cs) [
            | none ↦ record { answer = CallAnswer.taken n; after = after }
            | some r ↦ record { answer = CallAnswer.refused 0 r; after = st }
          ]

-- ---- `(supply 8)` and no supply line

-- of every head of up to eight bridges
module _ (h : Head) (few : h.bridges ≤ most_bridges) (none_there : h.supply ≡ 0) where
  -- the head with the line
  abbrev fed : Head
  fed = with_supply h 8

  pub fed_uncapped : Uncapped (with_supply h 8)
  fed_uncapped = few

  both_valid : valid (with_supply h 8) ≡ valid h
  unfolding valid
  both_valid = sym (ap (λ (k : ℕ). valid (with_supply h k)) none_there)

  plan_both : (t : List ℕ) → plan_uncapped (with_supply h 8) t ≡ plan_uncapped h t
  unfolding plan_uncapped needs_uncapped grants_uncapped planned_uncapped placing written
  plan_both t =
      ap (λ (c : Bool).
      elim (first_of (try too_short (ltb (length t) least_cells) ∷ try out_of_limits (not c) ∷ try mandatory_not_feasible (not (plan_fits_uncapped h (mandatories h))) ∷ [])) [
        | none ↦ record { answer = PlanAnswer.granted (grants_uncapped h); table = written h (planned_uncapped (tie_of h.hold) h) t }
        | some r ↦ record { answer = PlanAnswer.refused 0 r; table = t }
      ]) both_valid

  -- the two give the same plan, with every table
  pub plan_eight : (t : List ℕ) → plan_of (with_supply h 8) t ≡ plan_of h t
  plan_eight t = plan_uncapped_lem fed fed_uncapped t ∙ plan_both t ∙ sym (plan_uncapped_lem h (no_line_uncapped h none_there) t)

  -- and what a call or any event is decided by and leaves is the same
  pub frame_eight : (st : State) → frame_causes_uncapped (with_supply h 8) st ≡ frame_causes_uncapped h st
  unfolding laid_out
  frame_eight st =
      ap (λ (c : Bool).
      try too_short (ltb (length st.table) least_cells)
      ∷ try out_of_limits (not c)
      ∷ try not_well_formed (not (laid_out h (cell h st.table) && clock_in h.slots st.clock))
      ∷ []) both_valid

  pub causes_eight : (clock : ℕ) (jobs : List Job) (t : Cells) → call_causes_uncapped (with_supply h 8) clock jobs t ≡ call_causes_uncapped h clock jobs t
  unfolding fits_uncapped evicted_uncapped eviction_order
  causes_eight clock jobs t = refl

  pub cost_eight : (jobs : List Job) (st : State) → cost_uncapped (with_supply h 8) jobs st ≡ cost_uncapped h jobs st
  unfolding evicted_uncapped eviction_order
  cost_eight jobs st = refl

  pub state_eight : (jobs : List Job) (st : State) → state_uncapped (with_supply h 8) jobs st ≡ state_uncapped h jobs st
  unfolding evicted_uncapped eviction_order called_uncapped placing written
  state_eight jobs st = refl
