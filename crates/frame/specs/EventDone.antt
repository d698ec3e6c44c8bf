-- What the entries on the running frame are held to: the outcome of one event for a head record,
-- its preset records and the state of a running frame. Document 01, "Causes" and "What demand 3
-- speaks of".
-- Assumes nothing.
use Rattle.std.specs.Prelude.{ℕ, ◌≡◌, List}
use Rattle.std.proofs.Math.Option.{none, some}
use Rattle.station.specs.Refusal.{first_of}
use Rattle.station.specs.Types.{head_in}
use Rattle.station.specs.declared.types.Preset as record-of-preset
use Rattle.station.specs.declared.types.Head as record-of-head
use Rattle.placing.specs.State.{State}
use Rattle.placing.specs.Causes.{causes_of}
use Rattle.frame.specs.Types as result
use Rattle.frame.specs.Event.{Event, refused, Outcome, event_of}
use Rattle.frame.specs.Types.{answer_in}

-- One event for a head record and its preset records: where no cause of the record alone holds,
-- that of the head they stand for. "A lent head record is tried by 2 before a table is held against
-- it by 11", and a refusal changes nothing.
unfoldable pub event_meant : record-of-head.Head → List record-of-preset.Preset → State → Event → Outcome
event_meant head ps st e =
    elim (first_of (causes_of head ps st.table)) [
      | none ↦ event_of (head_in head ps) st e
      | some r ↦ record { answer = refused 0 r; after = st }
    ]

-- The code answers r and leaves the table u, as the outcome o says; the clock and the order of ties
-- afterwards are in the answer.
pub record Yields (o : Outcome) (u : List ℕ) (r : result.Outcome) : Type 0 where
  pub answer : answer_in r.answer ≡ o.answer
  pub table : u ≡ o.after.table
  pub clock : r.clock ≡ o.after.clock
  pub hold : r.hold ≡ o.after.hold

-- What an entry answers and leaves for an event.
abbrev pub EventDone : record-of-head.Head → List record-of-preset.Preset → State → Event → List ℕ → result.Outcome → Type 0
EventDone head ps st e u r = Yields (event_meant head ps st e) u r
