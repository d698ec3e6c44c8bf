-- Events handed over one by one: successive calls of the entries `event`, `set_clock` and `call`,
-- in any number and mix. Document 01, "What demand 3 speaks of": "The list holds events of every
-- kind .. in any number and sequence, those refused for whatever cause too, and faulty lines."
--
-- In order: what the list starts from (`LetPass`); the list, each call of an entry by its contract
-- (`Handed`); what is claimed of it (`HandedClaim`).
-- Assumes nothing.
use Rattle.std.specs.Prelude.{ℕ, ◌≡◌, List, [], ◌∷◌, length, ltb, Result}
use Rattle.std.proofs.Math.Option.{none}
use Rattle.station.specs.Head.{Head}
use Rattle.station.specs.Refusal.{too_short, try, first_of}
use Rattle.station.specs.declared.types.Job as record-of-job
use Rattle.station.specs.declared.types.Preset as record-of-preset
use Rattle.station.specs.declared.types.Head as record-of-head
use Rattle.placing.specs.State.{State, state_of}
use Rattle.placing.specs.Causes.{frame_causes_of, call_jobs}
use Rattle.station.specs.declared.types.Refusal as cause
use Rattle.placing.specs.CallDone.{call_answer_in}
use Rattle.placing.specs.Entries.{CallEntry}
use Rattle.frame.specs.Types as result
use Rattle.frame.specs.Event.{Event, line, clock, call, Answer, answer_of, run_of}
use Rattle.frame.specs.Types.{answer_in}
use Rattle.frame.specs.Demands.{Demand3}
use Rattle.frame.specs.EventEntry.{EventEntry}
use Rattle.station.specs.Limits.{least_records}

-- "any sound table and clock that 11 lets pass": none of the causes that an entry tries of the
-- list, the table, the head record and the clock holds.
abbrev pub LetPass : record-of-head.Head → List record-of-preset.Preset → State → Type 0
LetPass head ps st = first_of (try too_short (ltb (length ps) least_records) ∷ frame_causes_of head ps st) ≡ none

-- A list of events handed over: each premise is what the entry promises of one call of it, each
-- call meets "the table and clock that the last one left" and the order of ties, and "nobody else
-- writes these, the head or the preset list meanwhile". Then the events, their answers and the last
-- table, clock and order are these.
pub data Handed (head : record-of-head.Head) (ps : List record-of-preset.Preset) : State → List Event → List Answer → State → Type 0 where
  no_more : {st : State} → Handed head ps st [] [] st
  -- a line to `event`, which left the table u
  by_event : {st end : State} {l u : List ℕ} {r : result.Outcome} {es : List Event} {answers : List Answer} → EventEntry head ps st (line l) u r
      → Handed head ps (state_of u r.clock r.hold) es answers end → Handed head ps st (line l ∷ es) (answer_in r.answer ∷ answers) end
  -- a clock to `set_clock`, which only looks at the table
  by_set_clock : {st end : State} {t : ℕ} {r : result.Outcome} {es : List Event} {answers : List Answer} → EventEntry head ps st (clock t) st.table r
      → Handed head ps (state_of st.table r.clock r.hold) es answers end → Handed head ps st (clock t ∷ es) (answer_in r.answer ∷ answers) end
  -- the first n of eight jobs to `call`, which left the table u
  by_call : {st end : State} (n : ℕ) (js : List record-of-job.Job) {u : List ℕ} {r : Result ℕ cause.Refusal} {es : List Event} {answers : List Answer} → CallEntry head ps (call_jobs n js) st u r
      → Handed head ps (state_of u st.clock st.hold) es answers end → Handed head ps st (call (call_jobs n js) ∷ es) (answer_of (call_answer_in r) ∷ answers) end

-- What is claimed of it: "one claim about the whole list". That it holds of every list handed over
-- from such a start is `handed_over` in proofs/HandedOver.antt.
pub record HandedClaim (h : Head) (st : State) (es : List Event) (answers : List Answer) (end : State) : Type 0 where
  pub answered : answers ≡ (run_of h st es).answers
  pub left : end ≡ (run_of h st es).after
  pub demand3 : Demand3 h st es
