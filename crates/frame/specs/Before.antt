-- The planner as document 01 had it, before there were ties and a supply, but for the clock, which
-- is that of 2026-05: how a head was read, the rule, a plan, an event, a list of events and a whole
-- text. proofs/AsBefore.antt shows that without lines of the forms that came later, and from `(tie
-- place)` on where the supply feeds every bridge, this is what the definitions come to. Document
-- 02, 2026-02: "`(tie place)` brings back the old order"; 2026-03: "without it there is no cap".
-- (The clock before 2026-05 is in specs/OwnSlot.)
--
-- In order: the five forms (`form_before`), how a head was read (`head_before`), and what an event
-- asked for (`asked_before`); document 01's rule (`left_before`, `lrtf_before`), and the tables
-- that it makes (`planned_before`, `called_before`); a plan, an event, a list of events and a whole
-- text with them (`plan_before`, `event_before`, `run_before`, `whole_before`); a text and a list
-- of events without the later forms (`FiveForms`, `FiveAsked`). The numbers of free cells, and what
-- follows from them, are those of placing's specs/Uncapped; what neither a tie nor a supply enters
-- (the causes of lines of the five forms, `valid` of a head without a supply, the clock and the
-- slots above it, the order of loss, the listing) is that of the other files.
-- Assumes nothing.
use Rattle.std.specs.Prelude.{ℕ, zero, suc, ◌-◌, ◌≡◌, Bool, cond, not, ◌&&◌, List, [], ◌∷◌, ◌++◌, map, length, get_or, ltb}
use Rattle.std.proofs.Math.Option.{Option, none, some}
use Rattle.laws.specs.Sums.{bit, position}
use Rattle.laws.specs.Lists.{at, tabulate}
use Rattle.laws.specs.Placement.{before}
use Rattle.station.specs.Limits.{most_bytes, least_cells}
use Rattle.station.specs.Head.{Head, Job, preset_at, valid}
use Rattle.station.specs.Refusal.{no_form, out_of_limits, out_of_place, mandatory_not_feasible, too_short, text_too_long, try, first_of}
use Rattle.station.specs.Text.{lines}
use Rattle.station.specs.Form.{Form, frame_line, busy_line, preset_line, clock_line, call_line, tie_line, supply_line, is_event, form}
use Rattle.station.specs.Reading.{Stage, at_frame, at_supply, at_tie, at_busy, at_presets, begun, SoFar, begin, causes, more, unless, Reading}
use Rattle.placing.specs.Table.{Cells, cell, number_at, mandatory_cell, optional_cell, busy_cell, call_cell}
use Rattle.placing.specs.Valid.{job_at}
use Rattle.placing.specs.State.{State, with_table, with_clock}
use Rattle.placing.specs.Plan.{placing, mandatories, plan_free}
use Rattle.placing.specs.Call.{lengths}
use Rattle.placing.specs.Outcomes.{written, PlanAnswer, PlanOutcome}
use Rattle.placing.specs.Uncapped.{free_count, plan_count, plan_fits_uncapped, needs_uncapped, grants_uncapped, call_free_uncapped, cost_uncapped, frame_causes_uncapped}
use Rattle.frame.specs.Event.{Event, Asked, set_clock, set_tie, place_jobs, fault, asked_by_form, asked, clock_now, taken, refused, Outcome}
use Rattle.frame.specs.Event.{Run}
use Rattle.frame.specs.Text.{Whole, start_of}
use Rattle.frame.specs.Uncapped.{decided, run_by, whole_by, own_uncapped}
use Rattle.frame.specs.Demands.{event_at}

-- the form of a line: "one of the five forms", of which a tie line and a supply line were none
abbrev pub of_five : Option Form → Option Form
of_five none = none
of_five (some (frame_line s b)) = some (frame_line s b)
of_five (some (busy_line b p)) = some (busy_line b p)
of_five (some (preset_line p)) = some (preset_line p)
of_five (some (clock_line t)) = some (clock_line t)
of_five (some (call_line p)) = some (call_line p)
of_five (some (tie_line hold)) = none
of_five (some (supply_line k)) = none

abbrev pub form_before : List ℕ → Option Form
form_before l = of_five (form l)

-- how a head was read: after the frame line come the busy lines, and any event's form ends it
abbrev pub settle : Stage → Stage
settle at_frame = at_frame
settle at_supply = at_busy 0
settle at_tie = at_busy 0
settle (at_busy least) = at_busy least
settle at_presets = at_presets

abbrev pub settled : SoFar → SoFar
settled r = record { stage = settle r.stage; head = r.head }

unfoldable pub read_before : ℕ → SoFar → List (Option Form) → Reading
read_before n r [] = cond (begun r.stage) (Reading.accepted r.head n) (Reading.refused 1 out_of_place)
read_before n r (none ∷ ls) = Reading.refused (suc n) no_form
read_before n r (some f ∷ ls) =
    cond (is_event f && begun r.stage) (Reading.accepted r.head n) (unless (first_of (causes r f)) (suc n) (read_before (suc n) (settled (more r f)) ls))

unfoldable pub head_before : List ℕ → Reading
head_before t = cond (ltb most_bytes (length t)) (Reading.refused 0 text_too_long) (read_before 0 begin (map form_before (lines t)))

-- what an event asked for
abbrev pub asked_before : Event → Asked
asked_before (Event.line l) = asked_by_form (form_before l)
asked_before (Event.clock t) = set_clock t
asked_before (Event.call jobs) = place_jobs jobs

-- "as many presets as there are free bridges, those with the most slots still to get, never one
-- with none left. Equal ones: the earlier line first"
abbrev pub chosen_before : ℕ → (ℕ → ℕ) → ℕ → ℕ → Bool
chosen_before k c d i = ltb 0 (c i) && ltb (position k (before c) i) d

-- the slots still to get after a slot with d free bridges, before slot s, and who has a cell in it
unfoldable pub served_before : List ℕ → ℕ → List ℕ
served_before l d = tabulate (length l) (λ i. at l i - bit (chosen_before (length l) (at l) d i))

unfoldable pub left_before : List ℕ → (ℕ → ℕ) → ℕ → List ℕ
left_before c x zero = c
left_before c x (suc s) = served_before (left_before c x s) (x s)

abbrev pub lrtf_before : List ℕ → (ℕ → ℕ) → ℕ → ℕ → Bool
lrtf_before c x i s = chosen_before (length c) (at (left_before c x s)) (x s) i

-- the table of a plan, "A preset's first m cells in time are required, the rest refinement", and
-- that of a call
abbrev pub plan_cell_before : Head → ℕ → ℕ → ℕ
plan_cell_before h i s =
    cond
    (ltb (at (needs_uncapped h) i - at (left_before (needs_uncapped h) (plan_count h) s) i) (preset_at h i).mandatory)
    (mandatory_cell (number_at h i))
    (optional_cell (number_at h i))

abbrev pub planned_before : Head → Cells
planned_before h = placing (length (needs_uncapped h)) (plan_free h) (λ i s. lrtf_before (needs_uncapped h) (plan_count h) i s) (plan_cell_before h) (λ s b. busy_cell)

abbrev pub called_before : Head → ℕ → List Job → Cells → Cells
called_before h clock jobs t =
    placing (length (lengths jobs)) (call_free_uncapped h clock jobs t) (λ i s. lrtf_before (lengths jobs) (free_count h.bridges (call_free_uncapped h clock jobs t)) i s)
    (λ i s. call_cell (job_at jobs i).number) t

-- a plan: 8, 2 and 5, else the grants and the table
unfoldable pub plan_before : Head → List ℕ → PlanOutcome
plan_before h t =
    elim (first_of (
    try too_short (ltb (length t) least_cells)
    ∷ try out_of_limits (not (valid h))
    ∷ try mandatory_not_feasible (not (plan_fits_uncapped h (mandatories h)))
    ∷ []
    )) [
      | none ↦ record { answer = PlanAnswer.granted (grants_uncapped h); table = written h (planned_before h) t }
      | some r ↦ record { answer = PlanAnswer.refused 0 r; table = t }
    ]

-- "(here clocks and calls)": a tie line was none of the five forms
unfoldable pub carried_before : Head → State → Asked → Outcome
carried_before h st (set_clock t) = record { answer = clock_now t; after = with_clock t st }
carried_before h st (set_tie hold) = record { answer = refused 0 no_form; after = st }
carried_before h st (place_jobs jobs) =
    record { answer = taken (cost_uncapped h jobs st); after = with_table (written h (called_before h st.clock jobs (cell h st.table)) st.table) st }
carried_before h st (fault r) = record { answer = refused 0 r; after = st }

-- what it is tried for is `own_uncapped`: no tie line comes so far
unfoldable pub event_before : Head → State → Event → Outcome
event_before h st e = decided st (frame_causes_uncapped h st ++ own_uncapped h st (asked_before e)) (carried_before h st (asked_before e))

-- a list of events, and a whole text
abbrev pub run_before : Head → State → List Event → Run
run_before h = run_by (event_before h)

abbrev pub whole_before : List ℕ → List ℕ → Whole
whole_before = whole_by head_before plan_before start_of event_before

-- ---- without the later forms

-- each line of a text has the form that it had: none is a tie line or a supply line
abbrev pub FiveForms : List (List ℕ) → Type 0
FiveForms ls = (j : ℕ) → form (get_or ls j []) ≡ form_before (get_or ls j [])

-- each event of a list asks for what it asked for: none is such a line
abbrev pub FiveAsked : List Event → Type 0
FiveAsked es = (j : ℕ) → asked (event_at es j) ≡ asked_before (event_at es j)
