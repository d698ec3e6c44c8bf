-- Events, a list of them and a whole text where the supply feeds every bridge, under whatever order
-- of ties: what they were before there was a supply line. Document 02, 2026-03: "without it there
-- is no cap". proofs/AsUncapped.antt shows that without the line, and with one that feeds as many
-- motors as there are bridges, the definitions of the other files come to this.
--
-- In order: an event by its causes (`decided`), a list of events and a whole text, from any reading
-- of a head, any plan, any start and any event (`run_by`, `whole_by`), which specs/Before and
-- specs/OwnSlot have too; then what an event is tried for (`own_uncapped`) and carried out to, what
-- it comes to (`event_uncapped`), a list of events (`run_uncapped`) and a whole text
-- (`whole_uncapped`). The plan and the call are those of placing's specs/Uncapped; what an event
-- asks for, how a head is read and the listing are those of the other files.
-- Assumes nothing.
use Rattle.std.specs.Prelude.{ℕ, not, List, [], ◌∷◌, ◌++◌, length, ltb}
use Rattle.std.proofs.Math.Option.{Option, none, some}
use Rattle.station.specs.Limits.{most_bytes, least_cells}
use Rattle.station.specs.Head.{Head}
use Rattle.station.specs.Refusal.{Refusal, out_of_limits, clock_back, too_short, text_too_long, try, first_of}
use Rattle.station.specs.Reading.{Reading, head_of}
use Rattle.placing.specs.Table.{cell}
use Rattle.placing.specs.Valid.{clock_in}
use Rattle.placing.specs.State.{State}
use Rattle.placing.specs.Outcomes.{PlanAnswer, PlanOutcome}
use Rattle.placing.specs.Uncapped.{plan_uncapped, cost_uncapped, state_uncapped, frame_causes_uncapped, call_causes_uncapped}
use Rattle.frame.specs.Event.{Event, Asked, set_clock, set_tie, place_jobs, fault, asked, clock_now, tie_now, taken, refused, Outcome, clock_state, tie_state, Run, more}
use Rattle.frame.specs.Text.{Whole, not_read, not_planned, ran, start_of, events_of}

-- what an event comes to: the first of its causes refuses it, else it is carried out
abbrev pub decided : State → List (Option Refusal) → Outcome → Outcome
decided st cs o = elim (first_of cs) [ none ↦ o | some r ↦ record { answer = refused 0 r; after = st } ]

-- a list of events, where `one` is what an event comes to
unfoldable pub run_by : (State → Event → Outcome) → State → List Event → Run
run_by one st [] = record { answers = []; after = st }
run_by one st (e ∷ es) = more (one st e).answer (run_by one (one st e).after es)

-- a whole text, where `read` reads its head, `plan` plans it, `start` is the state that the events
-- start from and `one` what an event comes to: the lines after a plan
unfoldable pub with_plan_by : (Head → List ℕ → State) → (Head → State → Event → Outcome) → List ℕ → Head → ℕ → PlanAnswer → List ℕ → Whole
with_plan_by start one text h n (PlanAnswer.granted g) t = ran h n g (run_by (one h) (start h t) (events_of text n))
with_plan_by start one text h n (PlanAnswer.refused _ r) t = not_planned h n r

-- the plan of a head that was read
unfoldable pub with_head_by : (Head → List ℕ → PlanOutcome) → (Head → List ℕ → State) → (Head → State → Event → Outcome) → List ℕ → Reading → List ℕ → Whole
with_head_by plan start one text (Reading.accepted h n) t = with_plan_by start one text h n (plan h t).answer (plan h t).table
with_head_by plan start one text (Reading.refused n r) t = not_read n r

-- 10 and 8 first
unfoldable pub whole_by : (List ℕ → Reading) → (Head → List ℕ → PlanOutcome) → (Head → List ℕ → State) → (Head → State → Event → Outcome) → List ℕ → List ℕ → Whole
whole_by read plan start one text t =
    elim (first_of (try text_too_long (ltb most_bytes (length text)) ∷ try too_short (ltb (length t) least_cells) ∷ []))
    [ none ↦ with_head_by plan start one text (read text) t | some r ↦ not_read 0 r ]

-- what an event is tried for
unfoldable pub own_uncapped : Head → State → Asked → List (Option Refusal)
own_uncapped h st (set_clock t) = try out_of_limits (not (clock_in h.slots t)) ∷ try clock_back (ltb t st.clock) ∷ []
own_uncapped h st (set_tie hold) = []
own_uncapped h st (place_jobs jobs) = call_causes_uncapped h st.clock jobs (cell h st.table)
own_uncapped h st (fault r) = some r ∷ []

-- and carried out to
unfoldable pub carried_uncapped : Head → State → Asked → Outcome
carried_uncapped h st (set_clock t) = record { answer = clock_now t; after = clock_state h t st }
carried_uncapped h st (set_tie hold) = record { answer = tie_now hold; after = tie_state h hold st }
carried_uncapped h st (place_jobs jobs) = record { answer = taken (cost_uncapped h jobs st); after = state_uncapped h jobs st }
carried_uncapped h st (fault r) = record { answer = refused 0 r; after = st }

-- an event: 8, 2 and 11 of the frame, then its own causes
unfoldable pub event_uncapped : Head → State → Event → Outcome
event_uncapped h st e = decided st (frame_causes_uncapped h st ++ own_uncapped h st (asked e)) (carried_uncapped h st (asked e))

-- a list of events, and a whole text
abbrev pub run_uncapped : Head → State → List Event → Run
run_uncapped h = run_by (event_uncapped h)

abbrev pub whole_uncapped : List ℕ → List ℕ → Whole
whole_uncapped = whole_by head_of plan_uncapped start_of event_uncapped
