-- What the part of a call's code is held to that carries it out where none of the causes before 7 is met.
-- Assumes nothing.
use Rattle.std.specs.Prelude.{ℕ, ◌≡◌, cond, List, Result}
use Rattle.station.specs.Head.{Head, Job}
use Rattle.station.specs.Refusal.{call_not_feasible}
use Rattle.station.specs.declared.types.Refusal as cause
use Rattle.placing.specs.Table.{cell}
use Rattle.placing.specs.State.{State}
use Rattle.placing.specs.Call.{call_fits}
use Rattle.placing.specs.Outcomes.{taken, refused, CallOutcome, cost_of, called_state}
use Rattle.placing.specs.CallDone.{call_answer_in}

-- The outcome of a call that meets none of the causes before 7: "a call that does not fit", or the evicted cells and the table that `call_of` gives.
unfoldable pub call_carried_out : Head → List Job → State → CallOutcome
call_carried_out h jobs st =
    cond (call_fits h st.clock jobs (cell h st.table))
    (record { answer = taken (cost_of h jobs st); after = called_state h jobs st })
    (record { answer = refused 0 call_not_feasible; after = st })

-- what the carrying out answers, and the table u that it leaves
pub record CallCarriedOut (h : Head) (jobs : List Job) (st : State) (u : List ℕ) (r : Result ℕ cause.Refusal) : Type 0 where
  pub answer : call_answer_in r ≡ (call_carried_out h jobs st).answer
  pub table : u ≡ (call_carried_out h jobs st).after.table
