-- What `call_by_value` is held to: the outcome of a call for a head record, preset records, job records and the state of a running frame. Document 01, "Causes".
-- Assumes nothing.
use Rattle.std.specs.Prelude.{ℕ, ◌≡◌, List, Result, Ok, Err}
use Rattle.std.proofs.Math.Option.{none, some}
use Rattle.station.specs.Head.{Job}
use Rattle.station.specs.Refusal.{first_of}
use Rattle.station.specs.declared.types.Preset as record-of-preset
use Rattle.station.specs.declared.types.Head as record-of-head
use Rattle.station.specs.Types.{head_in, refusal_in}
use Rattle.station.specs.declared.types.Refusal as cause
use Rattle.placing.specs.State.{State}
use Rattle.placing.specs.Outcomes.{cost, CallAnswer, taken, refused, CallOutcome, call_of}
use Rattle.placing.specs.Causes.{causes_of}

-- what an answer of the code stands for
abbrev pub call_answer_in : Result ℕ cause.Refusal → CallAnswer
call_answer_in (Ok n) = taken (cost n)
call_answer_in (Err r) = refused 0 (refusal_in r)

-- The outcome of a call for a head record and its preset records: where no cause of the record alone holds, that of the head they stand for.
unfoldable pub call_meant : record-of-head.Head → List record-of-preset.Preset → List Job → State → CallOutcome
call_meant head ps jobs st =
    elim (first_of (causes_of head ps st.table)) [
      | none ↦ call_of (head_in head ps) jobs st
      | some r ↦ record { answer = refused 0 r; after = st }
    ]

-- What `call_by_value` answers and leaves: the answer and the table are those of the outcome.
pub record CallDone (head : record-of-head.Head) (ps : List record-of-preset.Preset) (jobs : List Job) (st : State) (u : List ℕ) (r : Result ℕ cause.Refusal) : Type 0 where
  pub answer : call_answer_in r ≡ (call_meant head ps jobs st).answer
  pub table : u ≡ (call_meant head ps jobs st).after.table
