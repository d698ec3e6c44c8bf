-- `call::call_by_value` meets its contract: a cause of the frame is met, or the frame is a running one and its counts are made. Assumes nothing.
use mathlib.Core.Path.{sym}
use Rattle.std.proofs.lemmas.Result.{err_from_is_err_and}
use Rattle.station.specs.Types.{head_in}
use Rattle.placing.specs.State.{state_at}
use Rattle.placing.proofs.ClaimsHold.{call_claim_lem}
use Rattle.placing.specs.Causes.{call_jobs}
use Rattle.placing.proofs.check.FrameCauses.{frame_running}
use Rattle.placing.proofs.call.CallAnswers.{frame_refused, done_running}
use Rattle.placing.proofs.call.call_by_value.Goals as goal

pub returns-in_err-frame_cause : goal.returns-in_err-frame_cause
returns-in_err-frame_cause c =
    let p = err_from_is_err_and c.from_residual.result c.from_residual.ensures.1 in rw (p.1, p.2)
    (let a = c.args in
    let st = state_at a.table.now a.moment in
    let done = frame_refused a.station.now.head a.station.now.presets (call_jobs a.call.count a.call.jobs) st c.in_err-frame_cause.field-0.0 (c.in_err-frame_cause.ensures a.moment.hold) in
    record {
      done = done;
      kept = done_running a.station.now.head a.station.now.presets (call_jobs a.call.count a.call.jobs) st done;
      claim = call_claim_lem (head_in a.station.now.head a.station.now.presets) (call_jobs a.call.count a.call.jobs) st;
    })

pub returns : goal.returns
returns c = let a = c.args in
    let st = state_at a.table.now a.moment in
    let run = frame_running a.station.now.head a.station.now.presets st (sym (c.in_ok-frame_cause.ensures a.moment.hold)) in
    let done = (c.call_by_counts.ensures run.0 run.1 (c.of-counts.ensures run.0 run.1.long)).0 in
    record {
      done = done;
      kept = done_running a.station.now.head a.station.now.presets (call_jobs a.call.count a.call.jobs) st done;
      claim = call_claim_lem (head_in a.station.now.head a.station.now.presets) (call_jobs a.call.count a.call.jobs) st;
    }
