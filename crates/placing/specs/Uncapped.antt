-- A plan and a call where the supply feeds every bridge: what they were before there was a supply line, when the free number of a slot was the number of its free cells. Document 02, 2026-03:
-- "without it there is no cap". proofs/AsUncapped.antt shows that without the line, and with one that feeds as many motors as there are bridges, the definitions of the other files come to this.
--
-- In order: when there is no cap (`Uncapped`); a plan (`plan_uncapped`); a call (`call_uncapped`), with what is tried before it. What no number of free cells enters (ranks, the order of loss, the
-- causes but 5, 7 and 11, the rule for a given number) is that of the other files.
-- Assumes nothing.
use Rattle.std.specs.Prelude.{ℕ, ◌-◌, ◌≤◌, Bool, not, cond, ◌&&◌, ◌||◌, List, [], ◌∷◌, ◌++◌, length, ltb, eqb}
use Rattle.std.proofs.Math.Option.{Option, none, some}
use Rattle.laws.specs.Sums.{count}
use Rattle.laws.specs.Lists.{at, tabulate}
use Rattle.laws.specs.Placement.{Ties, nobody, left, lrtf, excess}
use Rattle.laws.specs.Grants.{granted}
use Rattle.laws.specs.Eviction.{added, ones, searched}
use Rattle.station.specs.Limits.{least_cells}
use Rattle.station.specs.Head.{Head, Job, preset_at, valid}
use Rattle.station.specs.Refusal.{Refusal, out_of_limits, mandatory_not_feasible, call_not_feasible, too_short, not_well_formed, try, first_of}
use Rattle.placing.specs.Table.{Cells, cell, preset_count, number_at, mandatory_cell, optional_cell, busy_cell, call_cell, motors, laid_out}
use Rattle.placing.specs.Valid.{clock_in, job_at}
use Rattle.placing.specs.State.{State, with_table}
use Rattle.placing.specs.Plan.{rank, mandatories, optionals, plan_free, placing, tie_of}
use Rattle.placing.specs.Call.{eviction_order, slots_of, in_set, empty_free, lengths, call_short}
use Rattle.placing.specs.Outcomes.{written, PlanAnswer, PlanOutcome, job_causes, Cost, cost, CallAnswer, CallOutcome}

-- the supply feeds every bridge: there is no supply line, or its k is B or more, as `(supply 8)` is in every frame
abbrev pub Uncapped : Head → Type 0
Uncapped h = h.bridges ≤ motors h

-- how many of a slot's bridges pass a test
abbrev pub free_count : ℕ → (ℕ → ℕ → Bool) → ℕ → ℕ
free_count bridges f s = count bridges (λ b. f s b)

-- ---- a plan

-- how many bridges of a slot are not busy: what a plan could fill
abbrev pub plan_count : Head → ℕ → ℕ
plan_count h = free_count h.bridges (plan_free h)

-- whether needs fit into them
abbrev pub plan_fits_uncapped : Head → List ℕ → Bool
plan_fits_uncapped h c = eqb (excess (length c) (at c) h.slots (plan_count h)) 0

-- what each preset got in all, and what it was granted beyond its required slots
unfoldable pub needs_uncapped : Head → List ℕ
needs_uncapped h = granted (plan_fits_uncapped h) (rank h) (optionals h) (mandatories h) (preset_count h)

unfoldable pub grants_uncapped : Head → List ℕ
grants_uncapped h = tabulate (preset_count h) (λ i. at (needs_uncapped h) i - at (mandatories h) i)

-- "A preset's first m cells in time are required, the rest refinement", and the table of the plan
abbrev pub cell_uncapped : Ties → Head → ℕ → ℕ → ℕ
cell_uncapped ties h i s =
    cond
    (ltb (at (needs_uncapped h) i - at (left ties nobody (needs_uncapped h) (plan_count h) s) i) (preset_at h i).mandatory)
    (mandatory_cell (number_at h i))
    (optional_cell (number_at h i))

unfoldable pub planned_uncapped : Ties → Head → Cells
planned_uncapped ties h =
    placing (length (needs_uncapped h)) (plan_free h) (λ i s. lrtf ties nobody (needs_uncapped h) (plan_count h) i s) (cell_uncapped ties h) (λ s b. busy_cell)

-- the plan: 8, 2 and 5, else the grants and the table
unfoldable pub plan_uncapped : Head → List ℕ → PlanOutcome
plan_uncapped h t =
    elim (first_of (
    try too_short (ltb (length t) least_cells)
    ∷ try out_of_limits (not (valid h))
    ∷ try mandatory_not_feasible (not (plan_fits_uncapped h (mandatories h)))
    ∷ []
    )) [
      | none ↦ record { answer = PlanAnswer.granted (grants_uncapped h); table = written h (planned_uncapped (tie_of h.hold) h) t }
      | some r ↦ record { answer = PlanAnswer.refused 0 r; table = t }
    ]

-- ---- a call

-- how many empty cells of a slot above the clock there are: what a call could fill without loss
abbrev pub empty_count : Head → ℕ → Cells → ℕ → ℕ
empty_count h clock t = free_count h.bridges (empty_free clock t)

-- the refinement cells that were lost, and whether the call fitted then
unfoldable pub evicted_uncapped : Head → ℕ → List Job → Cells → List Bool
evicted_uncapped h clock jobs t = searched (call_short h jobs) (empty_count h clock t) (slots_of (eviction_order h clock t))

unfoldable pub fits_uncapped : Head → ℕ → List Job → Cells → Bool
fits_uncapped h clock jobs t =
    eqb (call_short h jobs (added (empty_count h clock t) (slots_of (eviction_order h clock t)) (evicted_uncapped h clock jobs t))) 0

-- the cells that the jobs could take: the empty and the lost ones
abbrev pub call_free_uncapped : Head → ℕ → List Job → Cells → ℕ → ℕ → Bool
call_free_uncapped h clock jobs t s b = empty_free clock t s b || in_set (eviction_order h clock t) (evicted_uncapped h clock jobs t) s b

-- "Jobs are then placed by the rule above over the empty and lost cells": as many in a slot as there are such
unfoldable pub called_uncapped : Ties → Head → ℕ → List Job → Cells → Cells
called_uncapped ties h clock jobs t =
    placing (length (lengths jobs)) (call_free_uncapped h clock jobs t)
    (λ i s. lrtf ties nobody (lengths jobs) (free_count h.bridges (call_free_uncapped h clock jobs t)) i s) (λ i s. call_cell (job_at jobs i).number) t

-- what a call cost, and what it left
abbrev pub cost_uncapped : Head → List Job → State → Cost
cost_uncapped h jobs st = cost (ones (evicted_uncapped h st.clock jobs (cell h st.table)))

abbrev pub state_uncapped : Head → List Job → State → State
state_uncapped h jobs st = with_table (written h (called_uncapped (tie_of st.hold) h st.clock jobs (cell h st.table)) st.table) st

-- 8, 2 and 11, for a table of which document 01's clauses hold
abbrev pub frame_causes_uncapped : Head → State → List (Option Refusal)
frame_causes_uncapped h st =
    try too_short (ltb (length st.table) least_cells)
    ∷ try out_of_limits (not (valid h))
    ∷ try not_well_formed (not (laid_out h (cell h st.table) && clock_in h.slots st.clock))
    ∷ []

-- the causes of the call itself: 2, 4 and 9 of its jobs, then 7
abbrev pub call_causes_uncapped : Head → ℕ → List Job → Cells → List (Option Refusal)
call_causes_uncapped h clock jobs t = job_causes h jobs t ++ (try call_not_feasible (not (fits_uncapped h clock jobs t)) ∷ [])

-- the call
unfoldable pub call_uncapped : Head → List Job → State → CallOutcome
call_uncapped h jobs st =
    elim (first_of (frame_causes_uncapped h st ++ call_causes_uncapped h st.clock jobs (cell h st.table))) [
      | none ↦ record { answer = CallAnswer.taken (cost_uncapped h jobs st); after = state_uncapped h jobs st }
      | some r ↦ record { answer = CallAnswer.refused 0 r; after = st }
    ]
