-- What the answers of the running frame stand for, and what one event leaves.
--
-- In order: the answer to an event (`answer_in`); what one event comes to beside the table
-- (`Outcome`, `outcome`).
-- Assumes nothing.
use Rattle.std.specs.Prelude.{ℕ, Bool, Result, Ok, Err}
use Rattle.station.specs.Types.{refusal_in}
use Rattle.station.specs.declared.types.Refusal as cause
use Rattle.placing.specs.Outcomes.{cost}
use Rattle.placing.specs.declared.moment.Moment.{Moment}
use Rattle.frame.specs.declared.types.Answer as reply
use Rattle.frame.specs.declared.types.Answer.TheVariants.{Now, Tie, Taken}
use Rattle.frame.specs.Event.{Answer, clock_now, tie_now, taken, refused}

-- The answer that a value of the code stands for. "An entry not reached through a text returns 0
-- for the line."
abbrev pub answer_in : Result reply.Answer cause.Refusal → Answer
answer_in (Ok (Now t)) = clock_now t
answer_in (Ok (Tie hold)) = tie_now hold
answer_in (Ok (Taken n)) = taken (cost n)
answer_in (Err r) = refused 0 (refusal_in r)

-- what one event comes to beside the table: the code's answer, and the clock and the order of ties
-- afterwards
pub record Outcome : Type 0 where
  pub answer : Result reply.Answer cause.Refusal
  pub clock : ℕ
  pub hold : Bool

abbrev pub outcome : Result reply.Answer cause.Refusal → Moment → Outcome
outcome a m = record { answer = a; clock = m.clock; hold = m.hold }
