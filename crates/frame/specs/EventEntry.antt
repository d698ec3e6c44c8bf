-- What the entries set_clock and event over a borrowed list of preset records are held to, for
-- every input. Document 01, "Presets stand in a lent list of records, in file order", and "Causes":
-- "preset list below 32 records" is 8, which is tried first.
--
-- In order: an event (`event_on_slice`, `EventOnSlice`); the promise of both entries
-- (`EventEntry`), of `set_clock` for the event `clock t`, of `event` for `line l`.
-- Assumes nothing.
use Rattle.std.specs.Prelude.{ℕ, ◌≡◌, List, [], ◌∷◌, length, ltb}
use Rattle.std.proofs.Math.Option.{none, some}
use Rattle.station.specs.Limits.{least_records}
use Rattle.station.specs.Refusal.{Refusal, too_short, try, first_of}
use Rattle.station.specs.Types.{head_in}
use Rattle.station.specs.declared.types.Preset as record-of-preset
use Rattle.station.specs.declared.types.Head as record-of-head
use Rattle.placing.specs.State.{State, state_of}
use Rattle.placing.specs.Claims.{Running}
use Rattle.frame.specs.Types as result
use Rattle.frame.specs.Event.{Event, refused, Outcome}
use Rattle.frame.specs.Demands.{Demand3}
use Rattle.frame.specs.Types.{answer_in}
use Rattle.frame.specs.EventDone.{event_meant, Yields}

-- One event where the list has so many records: 8 for fewer than 32, which changes nothing, else
-- what the event comes to.
unfoldable pub event_on_slice : ℕ → record-of-head.Head → List record-of-preset.Preset → State → Event → Outcome
event_on_slice records head ps st e =
    elim (first_of (try too_short (ltb records least_records) ∷ [])) [ none ↦ event_meant head ps st e | some r ↦ record { answer = refused 0 r; after = st } ]

-- What an entry answers and leaves for an event. Of the list no record is changed.
abbrev pub EventOnSlice : ℕ → record-of-head.Head → List record-of-preset.Preset → State → Event → List ℕ → result.Outcome → Type 0
EventOnSlice records head ps st e u r = Yields (event_on_slice records head ps st e) u r

-- What `set_clock` and `event` answer and leave, and what is claimed of it.
pub record EventEntry (head : record-of-head.Head) (ps : List record-of-preset.Preset) (st : State) (e : Event) (u : List ℕ) (r : result.Outcome) : Type 0 where
  pub done : EventOnSlice (length ps) head ps st e u r
  -- "a refusal that changes nothing": table, clock and order of ties
  pub unchanged : (n : ℕ) (c : Refusal) → answer_in r.answer ≡ refused n c → state_of u r.clock r.hold ≡ st
  -- a frame that 11 lets pass is such a frame afterwards: "Each event gets the table and clock that
  -- the last one left"
  pub kept : Running (head_in head ps) st → Running (head_in head ps) (state_of u r.clock r.hold)
  -- so that demand 3 holds of a list of events handed over one by one, and in it demand 2's rule of
  -- a call, on this very table (`slots`, `rule`)
  pub claim : Running (head_in head ps) st → Demand3 (head_in head ps) st (e ∷ [])
