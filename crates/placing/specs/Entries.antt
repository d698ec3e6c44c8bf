-- What the entries `plan` and `call` are held to, over a list of preset records of any length. Document 01, "The table": "Presets stand in a lent list
-- of records, in file order"; "Causes": 8 for a "preset list below 32 records".
-- Assumes nothing.
use Rattle.std.specs.Prelude.{ℕ, ◌≤◌, ◌<◌, ◌≡◌, List, length, Result, Err}
use Rattle.station.specs.Limits.{least_records}
use Rattle.station.specs.Head.{Job}
use Rattle.station.specs.Refusal.{Refusal}
use Rattle.station.specs.Types.{head_in}
use Rattle.station.specs.declared.types.Preset.{Preset}
use Rattle.station.specs.declared.types.Head.{Head}
use Rattle.station.specs.declared.types.Refusal as cause
use Rattle.station.specs.declared.types.Refusal.TheVariants.{TooShort}
use Rattle.placing.specs.PlanDone.{PlanDone}
use Rattle.placing.specs.State.{State, state_of}
use Rattle.placing.specs.Outcomes as outcome
use Rattle.placing.specs.CallDone.{call_answer_in, CallDone}
use Rattle.placing.specs.Claims.{Running, CallClaim}

-- 8, and no grants
abbrev pub plan_too_short : Result (List ℕ) cause.Refusal
plan_too_short = Err TooShort

-- What a plan over n preset records answers and leaves. Fewer than 32: 8, and "every lent cell" is left as it was. Else what a plan over these records does.
pub record PlanEntered (n : ℕ) (head : Head) (ps : List Preset) (t u : List ℕ) (r : Result (List ℕ) cause.Refusal) : Type 0 where
  pub short : n < least_records → (r ≡ plan_too_short) × (u ≡ t)
  pub done : least_records ≤ n → PlanDone head ps t u r

-- What a call over n preset records answers and leaves. Fewer than 32: 8, and "every lent cell" is left as it was. Else what a call over these records does.
pub record CallEntered (n : ℕ) (head : Head) (ps : List Preset) (jobs : List Job) (st : State) (u : List ℕ) (r : Result ℕ cause.Refusal) : Type 0 where
  pub short : n < least_records → (r ≡ Err TooShort) × (u ≡ st.table)
  pub done : least_records ≤ n → CallDone head ps jobs st u r

-- What `call` answers and leaves, and what is claimed of it.
pub record CallEntry (head : Head) (ps : List Preset) (jobs : List Job) (st : State) (u : List ℕ) (r : Result ℕ cause.Refusal) : Type 0 where
  pub done : CallEntered (length ps) head ps jobs st u r
  -- "a refusal that changes nothing"
  pub unchanged : (n : ℕ) (c : Refusal) → call_answer_in r ≡ outcome.CallAnswer.refused n c → u ≡ st.table
  -- a frame that 11 lets pass is such a frame afterwards: "Each event gets the table and clock that the last one left"
  pub kept : Running (head_in head ps) st → Running (head_in head ps) (state_of u st.clock st.hold)
  pub claim : CallClaim (head_in head ps) jobs st
