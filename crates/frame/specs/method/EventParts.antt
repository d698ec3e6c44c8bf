-- The parts of an event, where the causes of the frame itself (8, 2 of a head record, 11) are not
-- tried: what the code that they are made of is held to. Document 01, "Causes".
--
-- In order: a clock (`clock_causes`, `clock_answer`, `clock_after`, `ClockDone`); what an event
-- line asks for, as it was read (`asked_in`), and what that comes to (`line_outcome`,
-- `line_meant`).
-- Assumes nothing.
use Rattle.std.specs.Prelude.{ℕ, ◌≡◌, Bool, not, List, [], ◌∷◌, ltb, Result, Ok, Err}
use Rattle.std.proofs.Math.Option.{Option, none, some}
use Rattle.station.specs.Refusal.{Refusal, out_of_limits, clock_back, try, first_of}
use Rattle.station.specs.Form.{form}
use Rattle.station.specs.Types.{head_in, refusal_in}
use Rattle.station.specs.declared.types.Refusal as cause
use Rattle.station.specs.declared.types.Preset as record-of-preset
use Rattle.station.specs.declared.types.Head as record-of-head
use Rattle.station.specs.Event.{event_in}
use Rattle.station.specs.declared.events.Event as read
use Rattle.station.specs.declared.events.Event.TheVariants.{Clock, Call, Tie}
use Rattle.placing.specs.Valid.{clock_in}
use Rattle.placing.specs.State.{State}
use Rattle.placing.specs.Causes.{call_jobs}
use Rattle.placing.specs.CallDone.{call_meant}
use Rattle.frame.specs.Types as result
use Rattle.frame.specs.Event.{Asked, set_clock, set_tie, place_jobs, fault, Answer, clock_now, tie_now, refused, answer_of, Outcome, clock_state, tie_state}
use Rattle.frame.specs.Types.{answer_in}

-- The causes of a clock itself, on a frame of so many slots at the clock c: a t outside 0 to S + 1
-- and "a clock below the present one".
abbrev pub clock_causes : ℕ → ℕ → ℕ → List (Option Refusal)
clock_causes slots c t = try out_of_limits (not (clock_in slots t)) ∷ try clock_back (ltb t c) ∷ []

-- what a clock that is asked for answers: the first of them, or the new clock
unfoldable pub clock_answer : ℕ → ℕ → ℕ → Answer
clock_answer slots c t = elim (first_of (clock_causes slots c t)) [ none ↦ clock_now t | some r ↦ refused 0 r ]

-- and the clock that it leaves: a refusal changes nothing
unfoldable pub clock_after : ℕ → ℕ → ℕ → ℕ
clock_after slots c t = elim (first_of (clock_causes slots c t)) [ none ↦ t | some r ↦ c ]

-- What the code answers and leaves for a clock; the order of ties stays.
pub record ClockDone (slots c : ℕ) (order : Bool) (t : ℕ) (r : result.Outcome) : Type 0 where
  pub answer : answer_in r.answer ≡ clock_answer slots c t
  pub clock : r.clock ≡ clock_after slots c t
  pub hold : r.hold ≡ order

-- What an event line asks for, as it was read: a clock that stops at 65,535, the jobs that were
-- kept, an order of ties, or the fault.
abbrev pub asked_in : Result read.Event cause.Refusal → Asked
asked_in (Ok (Clock t)) = set_clock t
asked_in (Ok (Call c)) = place_jobs (call_jobs c.count c.jobs)
asked_in (Ok (Tie hold)) = set_tie hold
asked_in (Err r) = fault (refusal_in r)

-- What that comes to: a clock is refused by its own causes alone or set, and the table stays; a
-- call is what `call_meant` says, which tries the causes of the frame itself, and the clock stays;
-- a tie is set; a fault changes nothing.
unfoldable pub line_outcome : record-of-head.Head → List record-of-preset.Preset → State → Asked → Outcome
line_outcome head ps st (set_clock t) =
    elim (first_of (clock_causes head.slots st.clock t)) [
      | none ↦ record { answer = clock_now t; after = clock_state (head_in head ps) t st }
      | some r ↦ record { answer = refused 0 r; after = st }
    ]
line_outcome head ps st (set_tie hold) = record { answer = tie_now hold; after = tie_state (head_in head ps) hold st }
line_outcome head ps st (place_jobs jobs) = record { answer = answer_of (call_meant head ps jobs st).answer; after = (call_meant head ps jobs st).after }
line_outcome head ps st (fault r) = record { answer = refused 0 r; after = st }

-- An event line, by what was read of it. On a frame that meets none of its own causes this is
-- `event_of` of the line: `line_event_lem` of proofs/Running.
abbrev pub line_meant : record-of-head.Head → List record-of-preset.Preset → State → List ℕ → Outcome
line_meant head ps st l = line_outcome head ps st (asked_in (event_in (form l)))
