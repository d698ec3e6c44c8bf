-- What the entry run_events is held to, for every input: the lines of a text without a head as
-- events on a lent frame. Document 01, "What demand 3 speaks of": a list of events starts "with any
-- sound table and clock that 11 lets pass"; "Causes" and "One listing, whole".
--
-- In order: the causes (`events_causes`); the outcome that they decide (`events_meant`); what is
-- answered and left (`EventsLeft`), what is claimed (`EventsClaim`), and the promise
-- (`EventsEntry`).
-- Assumes nothing.
use Rattle.std.specs.Prelude.{ℕ, suc, ◌≤◌, ◌<◌, ◌≡◌, Bool, List, ◌∷◌, length, ltb, Result}
use Rattle.std.proofs.Math.Option.{Option, none, some}
use Rattle.std.proofs.lemmas.List.Edits.{sets}
use Rattle.station.specs.Refusal.{Refusal, too_short, text_too_long, try, first_of}
use Rattle.station.specs.Types.{head_in}
use Rattle.station.specs.Wrote.{moved}
use Rattle.station.specs.declared.types.Preset as record-of-preset
use Rattle.station.specs.declared.types.Head as record-of-head
use Rattle.station.specs.declared.types.Fault.{Fault}
use Rattle.placing.specs.declared.moment.Moment.{Moment}
use Rattle.placing.specs.State.{State, state_of}
use Rattle.placing.specs.Causes.{frame_causes_of}
use Rattle.placing.specs.Claims.{Running}
use Rattle.frame.specs.Event.{Event, Run, run_of}
use Rattle.frame.specs.Text.{events_of}
use Rattle.frame.specs.Listing.{answer_lines}
use Rattle.frame.specs.Demands.{state_at, event_at, answer_at, EventIs, Demand3}
use Rattle.frame.specs.TextDone.{End, listed, refused_at, end_in}
use Rattle.station.specs.Limits.{least_output, least_records, most_bytes}

-- every line of a text without a head
abbrev pub all_events : List ℕ → List Event
all_events text = events_of text 0

-- The causes where the list has n records, "Tried in the order 10, 8, 11, .." and "A lent head
-- record is tried by 2 before a table is held against it by 11": 10, then 8 of the list, of the
-- output and of the table, then 2, then 11.
abbrev pub events_causes : ℕ → record-of-head.Head → List record-of-preset.Preset → State → List ℕ → List ℕ → List (Option Refusal)
events_causes n head ps st text out =
    try text_too_long (ltb most_bytes (length text)) ∷ try too_short (ltb n least_records) ∷ try too_short (ltb (length out) least_output) ∷ frame_causes_of head ps st

-- how the events end, the table, the clock and the order of ties that they leave, and the output
-- afterwards
pub record EventsOutcome : Type 0 where
  pub ended : End
  pub after : State
  pub output : List ℕ

-- The lines of the answers stand at the start of the output, as far as it has room for them; a
-- refused one has the number of its line, from 1 on.
abbrev pub answers_written : Run → List ℕ → EventsOutcome
answers_written run out = record {
  ended = listed (moved (length out) 0 (length (answer_lines 0 run.answers)));
  after = run.after;
  output = sets out 0 (answer_lines 0 run.answers);
}

-- Refused at line 0 by the first cause that holds, which changes nothing; else every line is an
-- event, "Each event gets the table and clock that the last one left".
unfoldable pub events_meant : ℕ → record-of-head.Head → List record-of-preset.Preset → State → List ℕ → List ℕ → EventsOutcome
events_meant n head ps st text out =
    elim (first_of (events_causes n head ps st text out)) [
      | none ↦ answers_written (run_of (head_in head ps) st (all_events text)) out
      | some r ↦ record { ended = refused_at 0 r; after = st; output = out }
    ]

-- what the events leave beside the table and the output: the code's answer, and the clock and the
-- order of ties afterwards
pub record EventsAnswer : Type 0 where
  pub ended : Result ℕ Fault
  pub clock : ℕ
  pub hold : Bool

abbrev pub events_answer : Result ℕ Fault → Moment → EventsAnswer
events_answer a m = record { ended = a; clock = m.clock; hold = m.hold }

-- The code answers r and leaves the table t₁ and the output out₁, as the outcome o says.
pub record EventsLeft (o : EventsOutcome) (t₁ out₁ : List ℕ) (r : EventsAnswer) : Type 0 where
  pub ended : end_in r.ended ≡ o.ended
  pub table : t₁ ≡ o.after.table
  pub clock : r.clock ≡ o.after.clock
  pub hold : r.hold ≡ o.after.hold
  pub output : out₁ ≡ o.output

-- What is claimed of it, whatever the frame, the text and the output are.
pub record EventsClaim (n : ℕ) (head : record-of-head.Head) (ps : List record-of-preset.Preset) (st : State) (text out t₁ : List ℕ) (r : EventsAnswer) : Type 0 where
  -- "any sound table and clock that 11 lets pass": the lines are run
  pub runs : length text ≤ most_bytes → least_records ≤ n → least_output ≤ length out → first_of (frame_causes_of head ps st) ≡ none
      → events_meant n head ps st text out ≡ answers_written (run_of (head_in head ps) st (all_events text)) out
  -- a refusal of the text changes nothing
  pub unchanged : (k : ℕ) (c : Refusal) → end_in r.ended ≡ refused_at k c → state_of t₁ r.clock r.hold ≡ st
  -- "each later line is accepted or is a refusal that changes nothing": line j, in what the lines
  -- before it left
  pub later : (j : ℕ) → j < length (all_events text)
      → EventIs (head_in head ps) (state_at (head_in head ps) st (all_events text) j) (event_at (all_events text) j)
      (record { answer = answer_at (head_in head ps) st (all_events text) j; after = state_at (head_in head ps) st (all_events text) (suc j) })
  -- a frame that 11 lets pass is such a frame afterwards
  pub kept : Running (head_in head ps) st → Running (head_in head ps) (state_of t₁ r.clock r.hold)
  -- demand 3 over the list of all lines
  pub demand3 : Running (head_in head ps) st → Demand3 (head_in head ps) st (all_events text)

-- What `run_events` answers and leaves, and what is claimed of it. Of the list no record is
-- changed.
pub record EventsEntry (head : record-of-head.Head) (ps : List record-of-preset.Preset) (st : State) (text out t₁ out₁ : List ℕ) (r : EventsAnswer) : Type 0 where
  pub done : EventsLeft (events_meant (length ps) head ps st text out) t₁ out₁ r
  pub claim : EventsClaim (length ps) head ps st text out t₁ r
