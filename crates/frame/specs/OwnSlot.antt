-- Events, a list of them and a whole text as they were when a call could use the clock's own slot,
-- before 2026-05: "A call uses slots from the clock on", and the clock "starts at 1 and ends at
-- S + 1".
-- proofs/AsOwnSlot.antt shows that a list of events comes to the same with every clock one higher,
-- and that a text without a clock line has the listing that it had; without tie and supply lines
-- too, that of document 01.
--
-- In order: the clocks of a frame and the start (`own_clock_in`, `own_start`), and the last slot
-- gone by, above which a call went (`last_gone`, `gone`); the rest of a planner (`Rules`), with
-- ties and a supply as it is (`today`) and without as document 01 has it (`document_one`); what an
-- event was tried for (`own_slot_frame`, `own_slot_causes`), carried out to and came to
-- (`event_own_slot`), a list of events (`run_own_slot`) and a whole text (`whole_own_slot`,
-- `whole_document_one`); then the same one higher: a state, what is asked, an answer and a run
-- (`higher..`), two lists of events of which the second has every clock one higher (`OneHigher`),
-- and a text without a clock line (`NoClockLine`). How a head is read, its plan, what an event asks
-- for and the listing are those of the other files.
-- Assumes nothing.
use Rattle.std.specs.Prelude.{ℕ, zero, suc, ◌≡◌, Bool, not, ◌&&◌, List, [], ◌∷◌, ◌++◌, map, length, get_or, ltb}
use Rattle.std.proofs.Math.Option.{Option, some}
use Rattle.station.specs.Limits.{least_cells}
use Rattle.station.specs.Head.{Head, Job, within, valid}
use Rattle.station.specs.Refusal.{Refusal, out_of_limits, clock_back, too_short, not_well_formed, try}
use Rattle.station.specs.Form.{clock_line, form}
use Rattle.station.specs.Reading.{head_of}
use Rattle.placing.specs.Table.{Cells, cell, laid_out, well_formed}
use Rattle.placing.specs.State.{State, state_of, with_table, with_clock, with_order}
use Rattle.placing.specs.Outcomes.{written, plan_of, call_causes, Cost, cost_of, called_state}
use Rattle.placing.specs.Uncapped.{cost_uncapped, call_causes_uncapped}
use Rattle.frame.specs.Event.{Event, Asked, set_clock, set_tie, place_jobs, fault, asked, Answer, clock_now, tie_now, taken, refused, Outcome, Run}
use Rattle.frame.specs.Text.{Whole}
use Rattle.frame.specs.Uncapped.{decided, run_by, whole_by}
use Rattle.frame.specs.Before.{head_before, asked_before, called_before, plan_before}
use Rattle.frame.specs.Demands.{event_at}

-- "it starts at 1 and ends at S + 1": the clocks of a frame of so many slots, and the start
abbrev pub own_clock_in : ℕ → ℕ → Bool
own_clock_in slots c = within 1 (suc slots) c

abbrev pub own_start : Head → List ℕ → State
own_start h t = state_of t 1 h.hold

-- "A call uses slots from the clock on": those above the last slot gone by, the one before the
-- clock's. What a call comes to is said of slots above a clock, so that this is the one to ask for.
unfoldable pub last_gone : ℕ → ℕ
last_gone zero = zero
last_gone (suc c) = c

abbrev pub gone : State → State
gone st = with_clock (last_gone st.clock) st

-- What does not depend on the clock's range: what an event asks for, when cells are sound, and of a
-- call above a clock its causes, its cost and the table that it leaves.
pub record Rules : Type 0 where
  pub asks : Event → Asked
  pub sound : Head → Cells → Bool
  pub causes : Head → ℕ → List Job → Cells → List (Option Refusal)
  pub cost : Head → List Job → State → Cost
  pub table : Head → List Job → State → List ℕ

-- those of the other files; and those of document 01, without ties and a supply (specs/Before)
abbrev pub today : Rules
today = record { asks = asked; sound = well_formed; causes = call_causes; cost = cost_of; table = λ h jobs st. (called_state h jobs st).table }

abbrev pub document_one : Rules
document_one = record {
  asks = asked_before;
  sound = laid_out;
  causes = call_causes_uncapped;
  cost = cost_uncapped;
  table = λ h jobs st. written h (called_before h st.clock jobs (cell h st.table)) st.table;
}

-- 8, 2 and 11: "a table that is not sound, or a clock outside 1 to S + 1"
abbrev pub own_slot_frame : Rules → Head → State → List (Option Refusal)
own_slot_frame rules h st =
    try too_short (ltb (length st.table) least_cells)
    ∷ try out_of_limits (not (valid h))
    ∷ try not_well_formed (not (rules.sound h (cell h st.table) && own_clock_in h.slots st.clock))
    ∷ []

-- "t below 1 or above S + 1" and "a clock below the present one"; the causes of a call; the fault
-- of a line
unfoldable pub own_slot_causes : Rules → Head → State → Asked → List (Option Refusal)
own_slot_causes rules h st (set_clock t) = try out_of_limits (not (own_clock_in h.slots t)) ∷ try clock_back (ltb t st.clock) ∷ []
own_slot_causes rules h st (set_tie hold) = []
own_slot_causes rules h st (place_jobs jobs) = rules.causes h (gone st).clock jobs (cell h st.table)
own_slot_causes rules h st (fault r) = some r ∷ []

-- and carried out to: a clock changes the clock alone, a tie the order of ties alone, a call the
-- table alone
unfoldable pub carried_own_slot : Rules → Head → State → Asked → Outcome
carried_own_slot rules h st (set_clock t) = record { answer = clock_now t; after = with_clock t st }
carried_own_slot rules h st (set_tie hold) = record { answer = tie_now hold; after = with_order hold st }
carried_own_slot rules h st (place_jobs jobs) = record { answer = taken (rules.cost h jobs (gone st)); after = with_table (rules.table h jobs (gone st)) st }
carried_own_slot rules h st (fault r) = record { answer = refused 0 r; after = st }

unfoldable pub event_own_slot : Rules → Head → State → Event → Outcome
event_own_slot rules h st e = decided st (own_slot_frame rules h st ++ own_slot_causes rules h st (rules.asks e)) (carried_own_slot rules h st (rules.asks e))

-- a list of events, and a whole text
abbrev pub run_own_slot : Head → State → List Event → Run
run_own_slot h = run_by (event_own_slot today h)

abbrev pub whole_own_slot : List ℕ → List ℕ → Whole
whole_own_slot = whole_by head_of plan_of own_start (event_own_slot today)

-- and a whole text as document 01 had it, without ties and a supply
abbrev pub whole_document_one : List ℕ → List ℕ → Whole
whole_document_one = whole_by head_before plan_before own_start (event_own_slot document_one)

-- ---- one higher

-- a state with its clock one higher, and what is asked, an answer and a run likewise
abbrev pub higher : State → State
higher st = with_clock (suc st.clock) st

abbrev pub higher_asked : Asked → Asked
higher_asked (set_clock t) = set_clock (suc t)
higher_asked (set_tie hold) = set_tie hold
higher_asked (place_jobs jobs) = place_jobs jobs
higher_asked (fault r) = fault r

abbrev pub higher_answer : Answer → Answer
higher_answer (clock_now t) = clock_now (suc t)
higher_answer (tie_now hold) = tie_now hold
higher_answer (taken n) = taken n
higher_answer (refused n r) = refused n r

abbrev pub higher_run : Run → Run
higher_run r = record { answers = map higher_answer r.answers; after = higher r.after }

-- Two lists of events on a frame of so many slots: the second asks for what the first does, a clock
-- one higher. The last clock, S + 1, is left out: it is new, and one higher there was none.
pub record OneHigher (slots : ℕ) (es later : List Event) : Type 0 where
  pub long : length later ≡ length es
  pub asks : (j : ℕ) → asked (event_at later j) ≡ higher_asked (asked (event_at es j))
  pub not_last : (j : ℕ) → asked (event_at es j) ≡ set_clock (suc slots) → ⊥

-- no line of a text has the form of a clock line
abbrev pub NoClockLine : List (List ℕ) → Type 0
NoClockLine ls = (j t : ℕ) → form (get_or ls j []) ≡ some (clock_line t) → ⊥
