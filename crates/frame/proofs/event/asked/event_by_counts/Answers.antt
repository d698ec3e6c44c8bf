-- `event::asked::event_by_counts` meets its contract: a law for what each line asks. Assumes
-- nothing.
use Prim.Native.Nat.{ℕ}
use mathlib.Core.Path.{sym, ◌∙◌, ap}
use Rattle.std.specs.Prelude.{Result, Ok}
use Rattle.std.proofs.lemmas.Result.{err_from_is_err_and}
use Rattle.station.specs.declared.types.Refusal as cause
use Rattle.placing.specs.CallDone.{call_answer_in}
use Rattle.placing.specs.State.{state_at}
use Rattle.frame.specs.Event.{answer_of}
use Rattle.frame.proofs.event.EventAnswers.{line_clock, line_place, line_tie, line_fault, clock_counts}
use Rattle.frame.proofs.event.asked.event_by_counts.Goals as goal

pub returns-in_err-t : goal.returns-in_err-t
returns-in_err-t c = λ v run right.
    let a = c.args in
    let p = err_from_is_err_and c.from_residual.result c.from_residual.ensures.1 in
    rw (p.1, p.2) (line_fault a.station.now.head a.station.now.presets (state_at a.table.now a.moment.now) a.line.now c.read_event.ensures c.in_err-t.was, right)

pub returns-in-Clock : goal.returns-in-Clock
returns-in-Clock c = λ v run right.
    let a = c.args in
    let st = state_at a.table.now a.moment.now in (
      line_clock a.station.now.head a.station.now.presets st a.line.now c.read_event.ensures (c.in_ok-t.was ∙ ap Ok c.in-Clock.is) c.asked_clock-answer.ensures,
      clock_counts a.station.now.head a.station.now.presets _ st c.asked_clock-answer.ensures v run right c.pass_slots.ensures.kept c.pass_slots.ensures.passed,
    )

pub returns-in_err-evicted-in-Call : goal.returns-in_err-evicted-in-Call
returns-in_err-evicted-in-Call c = λ v run right.
    let a = c.args in
    let done = c.call_by_counts.ensures v run right in
    let p = err_from_is_err_and c.from_residual-in_err-evicted-in-Call.result c.from_residual-in_err-evicted-in-Call.ensures.1 in
    rw (p.1, p.2) (
      line_place a.station.now.head a.station.now.presets (state_at a.table.now a.moment.now) a.line.now c.read_event.ensures (c.in_ok-t.was ∙ ap Ok c.in-Call.is) done.0
          (sym (ap (λ (x : Result ℕ cause.Refusal). answer_of (call_answer_in x)) c.in_err-evicted-in-Call.was)),
      done.1,
    )

pub returns-in_ok-evicted-in-Call : goal.returns-in_ok-evicted-in-Call
returns-in_ok-evicted-in-Call c = λ v run right.
    let a = c.args in
    let done = c.call_by_counts.ensures v run right in (
      line_place a.station.now.head a.station.now.presets (state_at a.table.now a.moment.now) a.line.now c.read_event.ensures (c.in_ok-t.was ∙ ap Ok c.in-Call.is) done.0
          (sym (ap (λ (x : Result ℕ cause.Refusal). answer_of (call_answer_in x)) c.in_ok-evicted-in-Call.was)),
      done.1,
    )

pub returns-in-Tie : goal.returns-in-Tie
returns-in-Tie c = λ v run right.
    let a = c.args in
    (line_tie a.station.now.head a.station.now.presets (state_at a.table.now a.moment.now) a.line.now c.read_event.ensures (c.in_ok-t.was ∙ ap Ok c.in-Tie.is), right)
