-- The three demands as statements about `whole_of`, `head_of`, `text_of`, `plan_of`, `event_of` and
-- `run_of`, each a record whose fields are document 01's sentences in their order, and those of
-- document 02: 2026-02 on the order of ties, 2026-03 on the supply, 2026-05 on the clock, above
-- which a call uses slots. That they hold for all texts, tables, starts and lists of events is
-- `demand_1`, `demand_2` and `demand_3` in proofs/Demands.antt.
-- Assumes nothing.
use Rattle.std.specs.Prelude.{ℕ, suc, ◌+◌, ◌≤◌, ◌<◌, ◌≡◌, ◌↔◌, Bool, true, false, ◌||◌, List, [], ◌∷◌, length, get_or, take}
use Rattle.std.proofs.Math.Option.{none, some}
use Rattle.laws.specs.Placement.{Ties, TotalTies}
use Rattle.laws.specs.Eviction.{FirstSmallest}
use Rattle.station.specs.Head.{Head, Job, Valid}
use Rattle.station.specs.Refusal.{Refusal, no_form, call_not_feasible, mandatory_not_feasible, not_well_formed, too_short, text_too_long, first_of}
use Rattle.station.specs.Text.{lines, join}
use Rattle.station.specs.Writing.{forms_of, text_of}
use Rattle.station.specs.Reading.{Reading, Means, head_of}
use Rattle.placing.specs.Table.{Cells, cell, cells, Each, holding, is_busy, is_mandatory, is_optional, is_call, call_cell}
use Rattle.placing.specs.State.{State, state_of, with_table, with_clock, with_order}
use Rattle.placing.specs.Valid.{ValidPlan, ValidCall, usable, job_at, lost, lost_up_to, optional_count}
use Rattle.placing.specs.Plan.{GrantRule, tie_of, planned}
use Rattle.placing.specs.Call.{free_number_from, eviction_order, InEvictionOrder, slots_of, in_set, evicted_set, called}
use Rattle.placing.specs.Capacity.{CallByCapacity, GreatestExcess, longest_jobs, free_capacity}
use Rattle.placing.specs.Outcomes.{Cost, cost_of, PlanAnswer, plan_of, CallAnswer, called_state, call_of}
use Rattle.placing.specs.Claims.{Frees, Running, SamePast, PresetsRule, Fits, JobsRule, LeastCall, before_seven}
use Rattle.frame.specs.Event.{Event, line, set_clock, set_tie, place_jobs, asked, Answer, clock_now, tie_now, taken, refused, Outcome, Run, clock_state, tie_state, event_causes, run_of}
use Rattle.frame.specs.Text.{Whole, not_read, not_planned, ran, start_of, events_of, whole_of}
use Rattle.frame.specs.Listing.{answer_line}
use Rattle.station.specs.Limits.{least_cells, most_bytes, worst_priority}

-- ---- where an event stands in a list

-- "Each event gets the table and clock that the last one left", and the order of ties: what event j
-- of the list gets, and the answer to it
abbrev pub state_at : Head → State → List Event → ℕ → State
state_at h st es j = (run_of h st (take j es)).after

abbrev pub event_at : List Event → ℕ → Event
event_at es j = get_or es j (line [])

abbrev pub answer_at : Head → State → List Event → ℕ → Answer
answer_at h st es j = get_or (run_of h st es).answers j (refused 0 no_form)

abbrev pub cells_at : Head → State → List Event → ℕ → Cells
cells_at h st es j = cell h (state_at h st es j).table

-- ---- demand 1: every text, and every line after its head

-- "every station file, of whatever bytes, ends as a plan or as one numbered refusal .. refusals
-- only for their listed cause, in the listed order"
pub data Ends (text t : List ℕ) : Whole → Type 0 where
  -- 10 comes first, then 8
  too_long : most_bytes < length text → Ends text t (not_read 0 text_too_long)
  too_short_lem : length text ≤ most_bytes → length t < least_cells → Ends text t (not_read 0 too_short)
  -- "In a head, the first line at fault decides": `Means` says by which line and for which cause
  head_refused : {n : ℕ} {r : Refusal} → length text ≤ most_bytes → least_cells ≤ length t → Means text (Reading.refused n r) → Ends text t (not_read n r)
  -- "the required slots do not fit": no valid plan exists
  is_not_planned : {h : Head} {n : ℕ} → least_cells ≤ length t → Means text (Reading.accepted h n) → ((u : List ℕ) → ValidPlan h (cell h u) → ⊥)
      → Ends text t (not_planned h n mandatory_not_feasible)
  -- a plan, a valid one, and then every line after the head is an event
  is_planned : {h : Head} {n : ℕ} {g : List ℕ} → least_cells ≤ length t → Means text (Reading.accepted h n) → (plan_of h t).answer ≡ PlanAnswer.granted g
      → ValidPlan h (cell h (plan_of h t).table) → Ends text t (ran h n g (run_of h (start_of h (plan_of h t).table) (events_of text n)))

-- An event is refused by the first of its causes that holds, which changes nothing; or no cause
-- holds, and a clock changes the clock alone, a tie the order of ties alone, a call the table
-- alone.
pub data EventIs (h : Head) (st : State) (e : Event) : Outcome → Type 0 where
  stopped : (r : Refusal) → first_of (event_causes h st e) ≡ some r → EventIs h st e (record { answer = refused 0 r; after = st })
  clock_set : (t : ℕ) → asked e ≡ set_clock t → first_of (event_causes h st e) ≡ none
      → EventIs h st e (record { answer = clock_now t; after = clock_state h t st })
  tie_set : (hold : Bool) → asked e ≡ set_tie hold → first_of (event_causes h st e) ≡ none
      → EventIs h st e (record { answer = tie_now hold; after = tie_state h hold st })
  placed : (jobs : List Job) → asked e ≡ place_jobs jobs → first_of (event_causes h st e) ≡ none
      → EventIs h st e (record { answer = taken (cost_of h jobs st); after = called_state h jobs st })

pub record Demand1 (text t : List ℕ) : Type 0 where
  pub ends : Ends text t (whole_of text t)
  -- "each later line is accepted or is a refusal that changes nothing": line j after the head, in
  -- what the lines before it left
  pub later : (h : Head) (n : ℕ) (g : List ℕ) (r : Run) → whole_of text t ≡ ran h n g r → (j : ℕ) → j < length (events_of text n)
      → EventIs h (state_at h (start_of h (plan_of h t).table) (events_of text n) j) (event_at (events_of text n) j) (record {
        answer = get_or r.answers j (refused 0 no_form);
        after = state_at h (start_of h (plan_of h t).table) (events_of text n) (suc j);
      })
  pub left : (h : Head) (n : ℕ) (g : List ℕ) (r : Run) → whole_of text t ≡ ran h n g r
      → (length r.answers ≡ length (events_of text n)) × (r.after ≡ state_at h (start_of h (plan_of h t).table) (events_of text n) (length (events_of text n)))

-- ---- demand 2: grants and table are those of the rule, and a head has one text

pub record Demand2 (h : Head) (t : List ℕ) : Type 0 where
  -- "Grants: in rank order each preset gets as much refinement, up to o, as still lets all required
  -- slots and the grants before it fit."
  pub grants : (g : List ℕ) → (plan_of h t).answer ≡ PlanAnswer.granted g → GrantRule h g
  -- "Placing, slot by slot from the first: as many presets as there are free bridges, those with
  -- the most slots still to get, never one with none left.
  -- Equal ones: the earlier line first", or whom `(tie hold)` in the head puts first.
  pub slots : (g : List ℕ) → (plan_of h t).answer ≡ PlanAnswer.granted g → (s : ℕ) → s < h.slots → PresetsRule (tie_of h.hold) h g (cell h (plan_of h t).table) s
  -- "The chosen, in file order, take the free bridges in ascending order"; "A preset's first m
  -- cells in time are required, the rest refinement"
  pub cells : (g : List ℕ) → (plan_of h t).answer ≡ PlanAnswer.granted g → Each h (λ s b. cell h (plan_of h t).table s b ≡ planned (tie_of h.hold) h s b)
  -- "Jobs are then placed by the rule above over the empty and lost cells, in the call's order": a
  -- call on this table, whatever order of ties is in force. In each slot the jobs that have a cell
  -- are those that the rule chooses, and they take the free bridges as the presets of a plan do.
  pub call_slots : (clock : ℕ) (hold : Bool) (jobs : List Job) (n : Cost) → (call_of h jobs (state_of t clock hold)).answer ≡ CallAnswer.taken n
      → (s : ℕ) → s < h.slots → JobsRule (tie_of hold) h clock jobs (cell h t) (cell h (call_of h jobs (state_of t clock hold)).after.table) s
  pub call_cells : (clock : ℕ) (hold : Bool) (jobs : List Job) (n : Cost) → (call_of h jobs (state_of t clock hold)).answer ≡ CallAnswer.taken n
      → Each h (λ s b. cell h (call_of h jobs (state_of t clock hold)).after.table s b ≡ called (tie_of hold) h clock jobs (cell h t) s b)

-- "The head has one text only, and the writer makes it": reading and writing a head are inverse.
pub record OneText : Type 0 where
  pub read_written : (text : List ℕ) (h : Head) (n : ℕ) → head_of text ≡ Reading.accepted h n → text_of h ≡ join (take n (lines text))
  pub written_read : (h : Head) → Valid h → head_of (text_of h) ≡ Reading.accepted h (length (forms_of h))
  pub valid_is_yielded : (h : Head) → Valid h ↔ ((text : List ℕ) × (n : ℕ) × (head_of text ≡ Reading.accepted h n))

-- ---- demand 3: over any list of events

-- what holds of any two moments of the list, after its first i events and after its first j, where
-- j is not the earlier one
abbrev pub Between : List Event → (ℕ → ℕ → Type 0) → Type 0
Between es P = (i j : ℕ) → i ≤ j → j ≤ length es → P i j

-- event j is a call of these jobs
pub record CallAt (es : List Event) (j : ℕ) (jobs : List Job) : Type 0 where
  pub inside : j < length es
  pub asks : asked (event_at es j) ≡ place_jobs jobs

-- what a value becomes by the answers of a list, one after the other
unfoldable pub through : {A : Type 0} → (A → Answer → A) → A → List Answer → A
through by a [] = a
through by a (x ∷ answers) = through by (by a x) answers

-- "the clock is the t of the last accepted clock line, or without one the start's"
abbrev pub clock_by : ℕ → Answer → ℕ
clock_by c (clock_now t) = t
clock_by c (tie_now hold) = c
clock_by c (taken n) = c
clock_by c (refused _ r) = c

abbrev pub last_clock : ℕ → List Answer → ℕ
last_clock c answers = through clock_by c answers

-- "As an event either holds for later calls": the order of the last accepted tie event, or without
-- one the start's
abbrev pub tie_by : Bool → Answer → Bool
tie_by hold (clock_now t) = hold
tie_by hold (tie_now next) = next
tie_by hold (taken n) = hold
tie_by hold (refused _ r) = hold

abbrev pub last_tie : Bool → List Answer → Bool
last_tie hold answers = through tie_by hold answers

-- "all lost cells reported"
unfoldable pub total_taken : List Answer → ℕ
total_taken [] = 0
total_taken (clock_now t ∷ answers) = total_taken answers
total_taken (tie_now hold ∷ answers) = total_taken answers
total_taken (taken c ∷ answers) = c.count + total_taken answers
total_taken (refused _ r ∷ answers) = total_taken answers

-- a busy or required cell, in the first table or in the second, is the same in both
pub record SameFixed (v w : ℕ) : Type 0 where
  pub from_first : (is_busy v || is_mandatory v) ≡ true → w ≡ v
  pub from_second : (is_busy w || is_mandatory w) ≡ true → w ≡ v

-- what a list of events leaves of call cells: those of its accepted calls, and those of the start
pub record CallCells (h : Head) (st : State) (es : List Event) : Type 0 where
  -- "each job of an accepted call has exactly c call cells, none in a slot" up to that call's clock
  -- (2026-05)
  pub jobs_exact : (j : ℕ) (jobs : List Job) (n : Cost) → CallAt es j jobs → answer_at h st es j ≡ taken n → (i : ℕ) → i < length jobs
      → holding h (cell h (run_of h st es).after.table) (call_cell (job_at jobs i).number) ≡ (job_at jobs i).slots
  pub jobs_later : (j : ℕ) (jobs : List Job) (n : Cost) → CallAt es j jobs → answer_at h st es j ≡ taken n → (i : ℕ) → i < length jobs
      → Each h (λ s b. cell h (run_of h st es).after.table s b ≡ call_cell (job_at jobs i).number → usable (state_at h st es j).clock s ≡ true)
  -- "earlier calls' cells stay where they are": between any two moments of the list
  pub calls_between : Between es (λ i j. Each h (λ s b. is_call (cells_at h st es i s b) ≡ true → cells_at h st es j s b ≡ cells_at h st es i s b))
  -- so the call cells of the start stay
  pub calls_stay : Each h (λ s b. is_call (cell h st.table s b) ≡ true → cell h (run_of h st es).after.table s b ≡ cell h st.table s b)

pub record Demand3 (h : Head) (st : State) (es : List Event) : Type 0 where
  -- every event has its answer
  pub answered : length (run_of h st es).answers ≡ length es
  -- "An entry not reached through a text returns 0 for the line."
  pub no_line : (j n : ℕ) (r : Refusal) → j < length es → answer_at h st es j ≡ refused n r → n ≡ 0
  -- "Number 7 comes exactly when a call meets no cause tried before 7 and has no valid placement."
  pub seven : (j : ℕ) (jobs : List Job) → CallAt es j jobs
      → (answer_at h st es j ≡ refused 0 call_not_feasible)
      ↔ ((first_of (before_seven h jobs (state_at h st es j)) ≡ none)
      × ((u : List ℕ) → ValidCall h (state_at h st es j).clock jobs (cells_at h st es j) (cell h u) → ⊥))
  pub seven_is_a_call : (j : ℕ) → j < length es → answer_at h st es j ≡ refused 0 call_not_feasible → (jobs : List Job) × CallAt es j jobs
  -- "Needs fit exactly if, for every r, the r largest needs together do not exceed" the room for r:
  -- so it is with the valid placements of a call that meets no cause tried before 7; and what an
  -- accepted call loses is the greatest excess over the room for r without loss, which every valid
  -- placement loses at least
  pub capacity : (j : ℕ) (jobs : List Job) → CallAt es j jobs → first_of (before_seven h jobs (state_at h st es j)) ≡ none
      → CallByCapacity h (state_at h st es j).clock jobs (cells_at h st es j)
  pub excess : (j : ℕ) (jobs : List Job) (n : Cost) → CallAt es j jobs → answer_at h st es j ≡ taken n
      → GreatestExcess (longest_jobs jobs) (free_capacity h (state_at h st es j).clock (cells_at h st es j)) n.count
  -- "An accepted call leaves a valid one, that of the rules above": the first of the smallest sets
  -- is lost, and the jobs go by the placing rule
  pub evicted : (j : ℕ) (jobs : List Job) (n : Cost) → CallAt es j jobs → answer_at h st es j ≡ taken n
      → FirstSmallest (Fits h jobs) (free_number_from h (state_at h st es j).clock (cells_at h st es j))
      (slots_of (eviction_order h (state_at h st es j).clock (cells_at h st es j))) (evicted_set h (state_at h st es j).clock jobs (cells_at h st es j))
  -- "A lost cell frees one motor": what a set adds to the free numbers there is what losing it
  -- frees
  pub frees : (j : ℕ) (jobs : List Job) → CallAt es j jobs → first_of (before_seven h jobs (state_at h st es j)) ≡ none → Frees h (state_at h st es j).clock (cells_at h st es j)
  pub order : (j : ℕ) (jobs : List Job) (n : Cost) → CallAt es j jobs → answer_at h st es j ≡ taken n
      → InEvictionOrder h (state_at h st es j).clock (cells_at h st es j) (eviction_order h (state_at h st es j).clock (cells_at h st es j))
  pub rule : (j : ℕ) (jobs : List Job) (n : Cost) → CallAt es j jobs → answer_at h st es j ≡ taken n
      → Each h (λ s b. cells_at h st es (suc j) s b ≡ called (tie_of (state_at h st es j).hold) h (state_at h st es j).clock jobs (cells_at h st es j) s b)
  -- that is demand 2's rule, slot by slot, on the table and clock of this very call and under the
  -- order of ties in force at it
  pub slots : (j : ℕ) (jobs : List Job) (n : Cost) → CallAt es j jobs → answer_at h st es j ≡ taken n
      → (s : ℕ) → s < h.slots → JobsRule (tie_of (state_at h st es j).hold) h (state_at h st es j).clock jobs (cells_at h st es j) (cells_at h st es (suc j)) s
  pub valid : (j : ℕ) (jobs : List Job) (n : Cost) → CallAt es j jobs → answer_at h st es j ≡ taken n
      → ValidCall h (state_at h st es j).clock jobs (cells_at h st es j) (cells_at h st es (suc j))
  -- the cells that are lost in the table left are those of that set, and no other
  pub lost_cells : (j : ℕ) (jobs : List Job) (n : Cost) → CallAt es j jobs → answer_at h st es j ≡ taken n
      → Each h (λ s b. lost (cells_at h st es j) (cells_at h st es (suc j)) s b
      ≡ in_set (eviction_order h (state_at h st es j).clock (cells_at h st es j)) (evicted_set h (state_at h st es j).clock jobs (cells_at h st es j)) s b)
  -- "An accepted call reports the number of lost cells in the table that it leaves."
  pub reported : (j : ℕ) (jobs : List Job) (n : Cost) → CallAt es j jobs → answer_at h st es j ≡ taken n
      → n.count ≡ cells h (λ s b. lost (cells_at h st es j) (cells_at h st es (suc j)) s b)
  -- "For each priority p, every other valid placement has at least as many lost cells of presets
  -- with priority p or better as the table left; p = 9 counts all." 2026-05: "The least loss is
  -- measured over placements in slots above the clock", which is `ValidCall`.
  pub least : (j : ℕ) (jobs : List Job) (n : Cost) → CallAt es j jobs → answer_at h st es j ≡ taken n
      → (u : List ℕ) → ValidCall h (state_at h st es j).clock jobs (cells_at h st es j) (cell h u)
      → (p : ℕ) → lost_up_to h (cells_at h st es j) (cells_at h st es (suc j)) p ≤ lost_up_to h (cells_at h st es j) (cell h u) p
  pub nine_counts_all : (j : ℕ) → j ≤ length es → (u : Cells) → lost_up_to h (cells_at h st es j) u worst_priority ≡ cells h (λ s b. lost (cells_at h st es j) u s b)
  -- "Optimality is shown for every order of ties": of the table that the rule makes of this call
  -- with any of them
  pub any_order : (j : ℕ) (jobs : List Job) (n : Cost) → CallAt es j jobs → answer_at h st es j ≡ taken n → (ties : Ties) → TotalTies ties
      → LeastCall ties h (state_at h st es j).clock jobs n (cells_at h st es j) (called ties h (state_at h st es j).clock jobs (cells_at h st es j))
  -- "After the list: 11 was never met"; the frame that is left is one that 11 lets pass
  pub never_eleven : (j : ℕ) → j < length es → answer_at h st es j ≡ refused 0 not_well_formed → ⊥
  pub running : Running h (run_of h st es).after
  -- "the clock is the t of the last accepted clock line, or without one the start's, and the head
  -- is the start's" (the events are handed one head)
  pub clock : (run_of h st es).after.clock ≡ last_clock st.clock (run_of h st es).answers
  pub clock_asked_lem : (j t : ℕ) → j < length es → answer_at h st es j ≡ clock_now t → asked (event_at es j) ≡ set_clock t
  -- the order of ties is that of the last accepted tie event, or without one the start's, after the
  -- list and at each event of it; a tie event is never refused, changes nothing else, and is
  -- "printed as it came": the line of its answer is the line handed over
  pub tie : (run_of h st es).after.hold ≡ last_tie st.hold (run_of h st es).answers
  pub tie_at : (j : ℕ) → (state_at h st es j).hold ≡ last_tie st.hold (take j (run_of h st es).answers)
  pub tie_accepted : (j : ℕ) (hold : Bool) → j < length es → (answer_at h st es j ≡ tie_now hold) ↔ (asked (event_at es j) ≡ set_tie hold)
  pub tie_leaves : (j : ℕ) (hold : Bool) → j < length es → answer_at h st es j ≡ tie_now hold → state_at h st es (suc j) ≡ with_order hold (state_at h st es j)
  pub tie_printed : (j n : ℕ) (l : List ℕ) (hold : Bool) → j < length es → event_at es j ≡ line l → answer_at h st es j ≡ tie_now hold → answer_line n (tie_now hold) ≡ l
  -- a refused event leaves all as it was, a clock all but the clock, and a call all but the table
  pub refused_leaves : (j : ℕ) (r : Refusal) → j < length es → answer_at h st es j ≡ refused 0 r → state_at h st es (suc j) ≡ state_at h st es j
  pub clock_leaves : (j t : ℕ) → j < length es → answer_at h st es j ≡ clock_now t → state_at h st es (suc j) ≡ with_clock t (state_at h st es j)
  pub call_leaves : (j : ℕ) (n : Cost) → j < length es → answer_at h st es j ≡ taken n → state_at h st es (suc j) ≡ with_table (state_at h st es (suc j)).table (state_at h st es j)
  -- "busy and required cells are the start's", and between any two moments of the list they are the
  -- same
  pub fixed : Each h (λ s b. SameFixed (cell h st.table s b) (cell h (run_of h st es).after.table s b))
  pub fixed_between : Between es (λ i j. Each h (λ s b. SameFixed (cells_at h st es i s b) (cells_at h st es j s b)))
  -- "each refinement cell is one of the start's", and of any moment before: "Kept refinement does
  -- not move"
  pub optional : Each h (λ s b. is_optional (cell h (run_of h st es).after.table s b) ≡ true → cell h (run_of h st es).after.table s b ≡ cell h st.table s b)
  pub optional_between : Between es (λ i j. Each h (λ s b. is_optional (cells_at h st es j s b) ≡ true → cells_at h st es j s b ≡ cells_at h st es i s b))
  -- "slots gone by are not used": every cell of a slot up to the clock stays as it is; the slot
  -- about to begin "is already lost" (2026-05)
  pub still : Between es (λ i j. Each h (λ s b. usable (state_at h st es i).clock s ≡ false → cells_at h st es j s b ≡ cells_at h st es i s b))
  -- "refinement cells at the start = refinement cells now + all lost cells reported"
  pub conserved : optional_count h (cell h st.table) ≡ optional_count h (cell h (run_of h st es).after.table) + total_taken (run_of h st es).answers
  -- "each job of an accepted call has exactly c call cells, none in a slot" up to that call's
  -- clock; other call cells stay
  pub calls : CallCells h st es
  -- nothing else moves: all that stands past the frame stays
  pub past : SamePast h st.table (run_of h st es).after.table
