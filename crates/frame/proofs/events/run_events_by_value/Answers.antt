-- `events::run_events_by_value` meets its contract: a law for each cause, the lines by the loop
-- over them, and the claim by `events_claim`. Assumes nothing.
use native.Mathlib.Omega.{arith}
use Rattle.std.proofs.Common.{rules}
use Rattle.std.proofs.lemmas.Result.{err_from_is_err_and}
use Rattle.placing.specs.State.{state_at}
use Rattle.frame.proofs.events.EventsRun.{events_long, events_short, events_stopped, events_start, events_ran, events_claim}
use Rattle.frame.proofs.events.run_events_by_value.Goals as goal

pub returns-then-text-gt-MOST_BYTES : goal.returns-then-text-gt-MOST_BYTES
returns-then-text-gt-MOST_BYTES c = let a = c.args in
    let st = state_at a.table.now a.moment.now in
    let done = events_long 32 a.station.now.head a.station.now.presets st a.text.now a.out.now c.if-text-gt-MOST_BYTES.true c.into.ensures in
    record { done = done; claim = events_claim 32 a.station.now.head a.station.now.presets st a.text.now a.out.now done }

pub returns-then-out-lt-LEAST_OUTPUT : goal.returns-then-out-lt-LEAST_OUTPUT
returns-then-out-lt-LEAST_OUTPUT c = let a = c.args in
    let st = state_at a.table.now a.moment.now in
    let done =
    events_short 32 a.station.now.head a.station.now.presets st a.text.now a.out.now c.if-text-gt-MOST_BYTES.false (omega arith) c.if-out-lt-LEAST_OUTPUT.true c.into-then-out-lt-LEAST_OUTPUT.ensures in
    record { done = done; claim = events_claim 32 a.station.now.head a.station.now.presets st a.text.now a.out.now done }

pub returns-in_err-frame_cause : goal.returns-in_err-frame_cause
returns-in_err-frame_cause c = let a = c.args in
    let st = state_at a.table.now a.moment.now in
    let r = c.in_err-frame_cause.field-0.0 in
    let p = err_from_is_err_and c.from_residual.result c.from_residual.ensures.1 in
    let done =
    events_stopped 32 a.station.now.head a.station.now.presets st a.text.now a.out.now c.if-text-gt-MOST_BYTES.false (omega arith) c.if-out-lt-LEAST_OUTPUT.false r (c.frame_cause.ensures a.moment.now.hold) c.in_err-frame_cause.was p.2 in
    rw p.1 (record { done = done; claim = events_claim 32 a.station.now.head a.station.now.presets st a.text.now a.out.now done })

pub run_lines-requires : goal.run_lines-requires
run_lines-requires c = let a = c.args in
    events_start 32 a.station.now.head a.station.now.presets (state_at a.table.now a.moment.now) a.text.now a.out.now c.if-text-gt-MOST_BYTES.false (c.frame_cause.ensures a.moment.now.hold) c.in_ok-frame_cause.was

pub returns : goal.returns
returns c = let a = c.args in
    let st = state_at a.table.now a.moment.now in
    let done =
    events_ran 32 a.station.now.head a.station.now.presets st a.text.now a.out.now c.if-text-gt-MOST_BYTES.false (omega arith) c.if-out-lt-LEAST_OUTPUT.false (c.frame_cause.ensures a.moment.now.hold) c.in_ok-frame_cause.was
    c.new-writer.ensures.bytes c.new-writer.ensures.place c.run_lines.ensures (search rules) c.place.ensures in
    record { done = done; claim = events_claim 32 a.station.now.head a.station.now.presets st a.text.now a.out.now done }
