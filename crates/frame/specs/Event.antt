-- One event on the running frame, and a list of events. Document 01, "The station text", "Causes"
-- and "What demand 3 speaks of"; document 02, 2026-02, 2026-03 and 2026-05.
-- Assumes nothing.
use Rattle.std.specs.Prelude.{ℕ, Bool, not, List, [], ◌∷◌, ◌++◌, ltb}
use Rattle.std.proofs.Math.Option.{Option, none, some}
use Rattle.station.specs.Head.{Head, Job}
use Rattle.station.specs.Refusal.{Refusal, no_form, out_of_limits, out_of_place, clock_back, try, first_of}
use Rattle.station.specs.Form.{Form, frame_line, busy_line, preset_line, clock_line, call_line, tie_line, supply_line, jobs_of, form}
use Rattle.placing.specs.Table.{cell}
use Rattle.placing.specs.Valid.{clock_in}
use Rattle.placing.specs.State.{State, with_clock, with_order}
use Rattle.placing.specs.Outcomes.{Cost, cost_of, frame_causes, call_causes, CallAnswer, called_state}

-- "events of every kind (here clocks and calls)", ties since 2026-02, ".. and faulty lines": a line
-- of whatever bytes, its end included, or a clock or a call handed over.
pub data Event : Type 0 where
  line : List ℕ → Event
  clock : ℕ → Event
  call : List Job → Event

-- the new clock; the new order of ties; what a call costs; or the refusal
pub data Answer : Type 0 where
  clock_now : ℕ → Answer
  tie_now : Bool → Answer
  taken : Cost → Answer
  refused : ℕ → Refusal → Answer

-- the answer to a call of the layer below, as that to an event
abbrev pub answer_of : CallAnswer → Answer
answer_of (CallAnswer.taken n) = taken n
answer_of (CallAnswer.refused n r) = refused n r

pub record Outcome : Type 0 where
  pub answer : Answer
  pub after : State

-- what an event asks for, or the fault of its line
pub data Asked : Type 0 where
  set_clock : ℕ → Asked
  set_tie : Bool → Asked
  place_jobs : List Job → Asked
  fault : Refusal → Asked

-- "a line that is not one of the five forms, or lacks its end", which are six since 2026-02 and
-- seven since 2026-03; "A head line after an event is out of place."
abbrev pub asked_by_form : Option Form → Asked
asked_by_form none = fault no_form
asked_by_form (some (frame_line s b)) = fault out_of_place
asked_by_form (some (busy_line b p)) = fault out_of_place
asked_by_form (some (preset_line p)) = fault out_of_place
asked_by_form (some (clock_line t)) = set_clock t
asked_by_form (some (call_line p)) = place_jobs (jobs_of p)
asked_by_form (some (tie_line hold)) = set_tie hold
asked_by_form (some (supply_line k)) = fault out_of_place

abbrev pub asked : Event → Asked
asked (line l) = asked_by_form (form l)
asked (clock t) = set_clock t
asked (call jobs) = place_jobs jobs

-- What an event is tried for after 8, a head record's 2, and 11: its line's 1 or 3, a t outside 0
-- to S + 1 (2026-05) and "a clock below the present one", or the causes of a call; a tie has none
-- of its own.
unfoldable pub own_causes : Head → State → Asked → List (Option Refusal)
own_causes h st (set_clock t) = try out_of_limits (not (clock_in h.slots t)) ∷ try clock_back (ltb t st.clock) ∷ []
own_causes h st (set_tie hold) = []
own_causes h st (place_jobs jobs) = call_causes h st.clock jobs (cell h st.table)
own_causes h st (fault r) = some r ∷ []

-- the causes of what is asked, in the listed order
abbrev pub asked_causes : Head → State → Asked → List (Option Refusal)
asked_causes h st a = frame_causes h st ++ own_causes h st a

abbrev pub event_causes : Head → State → Event → List (Option Refusal)
event_causes h st e = asked_causes h st (asked e)

-- what a clock leaves that is set: the new clock, and the table as it was
abbrev pub clock_state : Head → ℕ → State → State
clock_state h t st = with_clock t st

-- what a tie leaves that is set: "As an event either holds for later calls, and the frame runs on
-- with all cells as they were"
abbrev pub tie_state : Head → Bool → State → State
tie_state h hold st = with_order hold st

-- An event for which no cause holds: a clock changes the clock alone, a tie the order of ties
-- alone, a call the table alone.
unfoldable pub carried_out : Head → State → Asked → Outcome
carried_out h st (set_clock t) = record { answer = clock_now t; after = clock_state h t st }
carried_out h st (set_tie hold) = record { answer = tie_now hold; after = tie_state h hold st }
carried_out h st (place_jobs jobs) = record { answer = taken (cost_of h jobs st); after = called_state h jobs st }
carried_out h st (fault r) = record { answer = refused 0 r; after = st }

-- One event: refused by the first cause that holds, which changes nothing, or carried out.
unfoldable pub comes_to : Head → State → Asked → Outcome
comes_to h st a = elim (first_of (asked_causes h st a)) [ none ↦ carried_out h st a | some r ↦ record { answer = refused 0 r; after = st } ]

abbrev pub event_of : Head → State → Event → Outcome
event_of h st e = comes_to h st (asked e)

-- A list of events: "Each event gets the table and clock that the last one left", and the order of
-- ties.
pub record Run : Type 0 where
  pub answers : List Answer
  pub after : State

abbrev pub more : Answer → Run → Run
more a r = record { answers = a ∷ r.answers; after = r.after }

unfoldable pub run_of : Head → State → List Event → Run
run_of h st [] = record { answers = []; after = st }
run_of h st (e ∷ es) = more (event_of h st e).answer (run_of h (event_of h st e).after es)
