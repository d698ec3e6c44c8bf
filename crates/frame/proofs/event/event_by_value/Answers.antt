-- `event::event_by_value` meets its contract: a law for each answer, the frame afterwards by
-- `done_running`, and the claim by `demand_3`. Assumes nothing.
use mathlib.Core.List.{[], ◌∷◌}
use Rattle.std.proofs.lemmas.Result.{err_from_is_err_and}
use Rattle.station.specs.Types.{head_in}
use Rattle.placing.specs.State.{state_at}
use Rattle.placing.proofs.Theorems.{frame_running}
use Rattle.frame.specs.Event.{Event}
use Rattle.frame.proofs.Demands.{demand_3}
use Rattle.frame.proofs.event.EventAnswers.{frame_free, line_done, frame_refused, event_done, done_running}
use Rattle.frame.proofs.event.event_by_value.Goals as goal

pub returns-in_err-frame_cause : goal.returns-in_err-frame_cause
returns-in_err-frame_cause c = let a = c.args in
    let st = state_at a.table.now a.moment.now in
    let e = Event.line a.line.now in
    let p = err_from_is_err_and c.from_residual.result c.from_residual.ensures.1 in
    let done = frame_refused a.station.now.head a.station.now.presets st e c.in_err-frame_cause.field-0.0 (c.frame_cause.ensures a.moment.now.hold) c.in_err-frame_cause.was in
    rw (p.1, p.2) (record { done = done; kept = done_running a.station.now.head a.station.now.presets st e done; claim = demand_3 (head_in a.station.now.head a.station.now.presets) st (e ∷ []) })

pub returns : goal.returns
returns c = let a = c.args in
    let st = state_at a.table.now a.moment.now in
    let e = Event.line a.line.now in
    let free = frame_free a.station.now.head a.station.now.presets st (c.frame_cause.ensures a.moment.now.hold) c.in_ok-frame_cause.was in
    let run = frame_running a.station.now.head a.station.now.presets st free in
    let done = event_done a.station.now.head a.station.now.presets st e free (line_done a.station.now.head a.station.now.presets st free a.line.now (c.event_by_counts.ensures run.0 run.1 (c.of-counts.ensures run.0 run.1.long)).0) in
    record { done = done; kept = done_running a.station.now.head a.station.now.presets st e done; claim = demand_3 (head_in a.station.now.head a.station.now.presets) st (e ∷ []) }
