-- What is claimed of plan and call: the meaning of their answers. Document 01, "What demand 3 speaks of"; document 02, 2026-02 and 2026-03. The claims speak of the very functions that the
-- entries are held to, `plan_of` and `call_of`; that they hold for all inputs is proved in proofs/Theorems.antt.
-- Assumes nothing.
use Rattle.std.specs.Prelude.{ℕ, ◌+◌, ◌-◌, ◌*◌, ◌≤◌, ◌<◌, ◌≡◌, ◌↔◌, Bool, List, ◌++◌, length, drop, ltb, eqb}
use Rattle.std.proofs.Math.Option.{Option, none}
use Rattle.laws.specs.Sums.{sum, count, only}
use Rattle.laws.specs.Lists.{at}
use Rattle.laws.specs.Placement.{Placed, Ties, TotalTies, holders, SlotRule, everywhere}
use Rattle.laws.specs.Eviction.{added, FirstSmallest}
use Rattle.station.specs.Limits.{worst_priority, least_cells}
use Rattle.station.specs.Head.{Head, Job, Valid, with_tie, preset_at}
use Rattle.station.specs.Refusal.{Refusal, mandatory_not_feasible, call_not_feasible, first_of}
use Rattle.placing.specs.Table.{Cells, cell, cells, Each, preset_count, number_at, number_in, call_cell, cleared}
use Rattle.placing.specs.State.{State, with_order, WellFormedFrame}
use Rattle.placing.specs.Valid.{ValidPlan, ValidCall, job_at, lost, lost_up_to, optional_of}
use Rattle.placing.specs.Plan.{rank, plan_free_count, tie_of, planned}
use Rattle.placing.specs.Call.{eviction_order, InEvictionOrder, slots_of, in_set, free_number_from, lengths, evicted_set, called}
use Rattle.placing.specs.Capacity.{PlanByCapacity, CallByCapacity, GreatestExcess, longest_jobs, free_capacity}
use Rattle.placing.specs.Outcomes.{Cost, PlanAnswer, plan_of, frame_causes, job_causes, CallAnswer, call_of, joining}

-- A running frame that 8, a head record's 2 and 11 let pass: a lent table of 512 cells or more, a head that some text yields, "any sound table and clock".
pub record Running (h : Head) (st : State) : Type 0 where
  pub long : least_cells ≤ length st.table
  pub valid : Valid h
  pub well_formed : WellFormedFrame h st

-- Nothing past the frame changes: "Cells past S × B are never changed".
pub record SamePast (h : Head) (t u : List ℕ) : Type 0 where
  pub long : length u ≡ length t
  pub past : drop (h.slots * h.bridges) u ≡ drop (h.slots * h.bridges) t

-- how many refinement cells the first r presets by rank have
abbrev pub optional_of_first : Head → Cells → ℕ → ℕ
optional_of_first h t r = sum (preset_count h) (λ i. only (ltb (rank h i) r) (optional_of h t i))

-- how many cells of slot s in the table u of a plan have the number of the preset of line i
abbrev pub cells_of_preset : Head → Cells → ℕ → ℕ → ℕ
cells_of_preset h u i s = count h.bridges (λ b. eqb (number_in (u s b)) (number_at h i))

-- "as many presets as there are free bridges, those with the most slots still to get, never one with none left": slot s of the table u of a plan with the grants g. A preset has its
-- required slots and its grant still to get, less its cells in the slots before. Of equal ones those go first whom the order of ties puts first, by who has a cell in the slot just before: by
-- `(tie place)` "the earlier line first", by `(tie hold)` "those with a cell in the slot just before .., then file .. order".
abbrev pub PresetsRule : Ties → Head → List ℕ → Cells → ℕ → Type 0
PresetsRule ties h g u s =
    SlotRule (ties s (holders (preset_count h) (λ i r. ltb 0 (cells_of_preset h u i r)) s)) (preset_count h)
    (λ i. (preset_at h i).mandatory + at g i - sum s (λ r. cells_of_preset h u i r)) (plan_free_count h s) (λ i. ltb 0 (cells_of_preset h u i s))

-- "Optimality is shown for every order of ties": the table u of a plan with the grants g, placed by the rule under an order of ties, is valid, shows these grants, and no valid plan grants
-- the first k presets by rank more.
pub record BestPlan (ties : Ties) (h : Head) (g : List ℕ) (u : Cells) : Type 0 where
  pub slots : (s : ℕ) → s < h.slots → PresetsRule ties h g u s
  pub valid : ValidPlan h u
  pub reported : (i : ℕ) → i < preset_count h → at g i ≡ optional_of h u i
  pub best : (v : List ℕ) → ValidPlan h (cell h v) → (k : ℕ) → optional_of_first h (cell h v) k ≤ optional_of_first h u k

pub record PlanClaim (h : Head) (t : List ℕ) : Type 0 where
  -- 5 comes exactly when no cause tried before it holds and no valid plan exists
  pub five : ((plan_of h t).answer ≡ PlanAnswer.refused 0 mandatory_not_feasible)
      ↔ ((least_cells ≤ length t) × Valid h × ((u : List ℕ) → ValidPlan h (cell h u) → ⊥))
  -- a plan is a valid one
  pub valid : (g : List ℕ) → (plan_of h t).answer ≡ PlanAnswer.granted g → ValidPlan h (cell h (plan_of h t).table)
  -- the presets that have a cell in a slot of it are those that the rule chooses there, by the head's order of ties
  pub slots : (g : List ℕ) → (plan_of h t).answer ≡ PlanAnswer.granted g → (s : ℕ) → s < h.slots → PresetsRule (tie_of h.hold) h g (cell h (plan_of h t).table) s
  -- "A plan reports as each preset's grant the number of its refinement cells."
  pub reported : (g : List ℕ) → (plan_of h t).answer ≡ PlanAnswer.granted g
      → (i : ℕ) → i < preset_count h → at g i ≡ optional_of h (cell h (plan_of h t).table) i
  -- "For every k, every other valid plan of that head has at most as many refinement cells of the first k presets by rank as this plan."
  pub best : (g : List ℕ) → (plan_of h t).answer ≡ PlanAnswer.granted g
      → (u : List ℕ) → ValidPlan h (cell h u) → (k : ℕ) → optional_of_first h (cell h u) k ≤ optional_of_first h (cell h (plan_of h t).table) k
  -- "Needs fit exactly if, for every r, the r largest needs together do not exceed" the room for r: a valid plan of the head exists exactly then
  pub capacity : Valid h → PlanByCapacity h
  -- all this of the table that the rule makes with any order of ties; and 5 and the grants do not depend on the order
  pub any_order : (g : List ℕ) → (plan_of h t).answer ≡ PlanAnswer.granted g → (ties : Ties) → TotalTies ties → BestPlan ties h g (planned ties h)
  pub any_answer : (hold : Bool) → (plan_of (with_tie h hold) t).answer ≡ (plan_of h t).answer
  pub past : SamePast h t (plan_of h t).table

-- "the meaning of "fits" is that a valid placement exists": the jobs have a placement in the free cells x
abbrev pub Fits : Head → List Job → (ℕ → ℕ) → Type 0
Fits h jobs x = (a : ℕ → ℕ → Bool) × Placed everywhere (length (lengths jobs)) (at (lengths jobs)) h.slots x a

-- "A lost cell frees one motor": with a set d of the evictable cells lost, each adds one to the free number of its slot, which is then that of the table without them.
abbrev pub Frees : Head → ℕ → Cells → Type 0
Frees h clock t =
    (d : List Bool) (s : ℕ) → s < h.slots
    → added (free_number_from h clock t) (slots_of (eviction_order h clock t)) d s ≡ free_number_from h clock (cleared (in_set (eviction_order h clock t) d) t) s

-- how many cells job i has in slot s of the table u
abbrev pub cells_of_job : Head → List Job → Cells → ℕ → ℕ → ℕ
cells_of_job h jobs u i s = count h.bridges (λ b. eqb (u s b) (call_cell (job_at jobs i).number))

-- "Jobs are then placed by the rule above over the empty and lost cells, in the call's order": slot s of the table u that a call leaves of t. A job has its length still
-- to get less its cells in the slots before. Of equal jobs those go first whom the order of ties puts first: by `(tie place)` the earlier in the call, by `(tie hold)` "those with a cell in
-- the slot just before .., then .. call order".
abbrev pub JobsRule : Ties → Head → ℕ → List Job → Cells → Cells → ℕ → Type 0
JobsRule ties h clock jobs t u s =
    SlotRule (ties s (holders (length jobs) (λ i r. ltb 0 (cells_of_job h jobs u i r)) s)) (length jobs) (λ i. (job_at jobs i).slots - sum s (λ r. cells_of_job h jobs u i r))
    (free_number_from h clock (cleared (lost t u) t) s) (λ i. ltb 0 (cells_of_job h jobs u i s))

-- the causes tried before 7
abbrev pub before_seven : Head → List Job → State → List (Option Refusal)
before_seven h jobs st = frame_causes h st ++ job_causes h jobs (cell h st.table)

-- "Optimality is shown for every order of ties": the table u that a call of cost n leaves of t, placed by the rule under an order of ties, is valid, has lost the first smallest set and no other
-- cell, n counts these, and no valid placement loses less, in all or for any priority and better.
pub record LeastCall (ties : Ties) (h : Head) (clock : ℕ) (jobs : List Job) (n : Cost) (t u : Cells) : Type 0 where
  pub slots : (s : ℕ) → s < h.slots → JobsRule ties h clock jobs t u s
  pub valid : ValidCall h clock jobs t u
  pub lost_cells : Each h (λ s b. lost t u s b ≡ in_set (eviction_order h clock t) (evicted_set h clock jobs t) s b)
  pub reported : n.count ≡ cells h (λ s b. lost t u s b)
  pub least : (v : List ℕ) → ValidCall h clock jobs t (cell h v) → (p : ℕ) → lost_up_to h t u p ≤ lost_up_to h t (cell h v) p

pub record CallClaim (h : Head) (jobs : List Job) (st : State) : Type 0 where
  -- "Number 7 comes exactly when a call meets no cause tried before 7 and has no valid placement."
  pub seven : ((call_of h jobs st).answer ≡ CallAnswer.refused 0 call_not_feasible)
      ↔ ((first_of (before_seven h jobs st) ≡ none) × ((u : List ℕ) → ValidCall h st.clock (joining h st jobs) (cell h st.table) (cell h u) → ⊥))
  -- "An accepted call leaves a valid one, that of the rules above":
  pub valid : (n : Cost) → (call_of h jobs st).answer ≡ CallAnswer.taken n → ValidCall h st.clock (joining h st jobs) (cell h st.table) (cell h (call_of h jobs st).after.table)
  pub rule : (n : Cost) → (call_of h jobs st).answer ≡ CallAnswer.taken n
      → Each h (λ s b. cell h (call_of h jobs st).after.table s b ≡ called (tie_of st.hold) h st.clock (joining h st jobs) (cell h st.table) s b)
  -- the jobs that have a cell in a slot of it are those that the rule chooses there, by the order of ties in force
  pub slots : (n : Cost) → (call_of h jobs st).answer ≡ CallAnswer.taken n
      → (s : ℕ) → s < h.slots → JobsRule (tie_of st.hold) h st.clock (joining h st jobs) (cell h st.table) (cell h (call_of h jobs st).after.table) s
  -- "The order of loss: worst rank first; for one preset the latest slot first."
  pub order : (n : Cost) → (call_of h jobs st).answer ≡ CallAnswer.taken n → InEvictionOrder h st.clock (cell h st.table) (eviction_order h st.clock (cell h st.table))
  -- "The lost cells: of the smallest sets with which the call fits, each written as a list in the order of loss, the one whose list comes first."
  pub evicted : (n : Cost) → (call_of h jobs st).answer ≡ CallAnswer.taken n
      → FirstSmallest (Fits h (joining h st jobs)) (free_number_from h st.clock (cell h st.table)) (slots_of (eviction_order h st.clock (cell h st.table))) (evicted_set h st.clock (joining h st jobs) (cell h st.table))
  -- what a set adds to the free numbers there is what losing it frees
  pub frees : first_of (before_seven h jobs st) ≡ none → Frees h st.clock (cell h st.table)
  -- and the cells that are lost in the table left are those of this set, and no other
  pub lost_cells : (n : Cost) → (call_of h jobs st).answer ≡ CallAnswer.taken n
      → Each h (λ s b. lost (cell h st.table) (cell h (call_of h jobs st).after.table) s b
      ≡ in_set (eviction_order h st.clock (cell h st.table)) (evicted_set h st.clock (joining h st jobs) (cell h st.table)) s b)
  -- "An accepted call reports the number of lost cells in the table that it leaves."
  pub reported : (n : Cost) → (call_of h jobs st).answer ≡ CallAnswer.taken n
      → n.count ≡ cells h (λ s b. lost (cell h st.table) (cell h (call_of h jobs st).after.table) s b)
  -- "For each priority p, every other valid placement has at least as many lost cells of presets with priority p or better as the table left":
  pub least : (n : Cost) → (call_of h jobs st).answer ≡ CallAnswer.taken n
      → (u : List ℕ) → ValidCall h st.clock (joining h st jobs) (cell h st.table) (cell h u)
      → (p : ℕ) → lost_up_to h (cell h st.table) (cell h (call_of h jobs st).after.table) p ≤ lost_up_to h (cell h st.table) (cell h u) p
  -- "p = 9 counts all"
  pub nine : (n : Cost) → (call_of h jobs st).answer ≡ CallAnswer.taken n
      → (u : List ℕ) → lost_up_to h (cell h st.table) (cell h u) worst_priority ≡ cells h (λ s b. lost (cell h st.table) (cell h u) s b)
  -- a valid placement of a call that meets no cause tried before 7 exists exactly if, for every r, its r longest jobs do not exceed the room for r; every one loses at least the excess over the
  -- room for r without loss; and what is lost is the greatest excess
  pub capacity : first_of (before_seven h jobs st) ≡ none → CallByCapacity h st.clock jobs (cell h st.table)
  pub excess : (n : Cost) → (call_of h jobs st).answer ≡ CallAnswer.taken n → GreatestExcess (longest_jobs jobs) (free_capacity h st.clock (cell h st.table)) n.count
  -- all this of the table that the rule makes with any order of ties; and 7 and the cost do not depend on the order
  pub any_order : (n : Cost) → (call_of h jobs st).answer ≡ CallAnswer.taken n → (ties : Ties) → TotalTies ties
      → LeastCall ties h st.clock (joining h st jobs) n (cell h st.table) (called ties h st.clock (joining h st jobs) (cell h st.table))
  pub any_answer : (hold : Bool) → (call_of h jobs (with_order hold st)).answer ≡ (call_of h jobs st).answer
  pub past : SamePast h st.table (call_of h jobs st).after.table
