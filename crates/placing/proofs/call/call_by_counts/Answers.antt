-- `call::call_by_counts` meets its contract: a law for each answer. Assumes nothing.
use native.Mathlib.Omega.{arith}
use mathlib.Core.Path.{sym, refl}
use Rattle.std.proofs.lemmas.Result.{err_from_is_err_and}
use Rattle.station.specs.Types.{head_in}
use Rattle.placing.specs.State.{state_at}
use Rattle.placing.specs.Table.{cell}
use Rattle.placing.specs.Causes.{call_jobs}
use Rattle.placing.proofs.counts.causes.CallCauses.{call_jobs_lem, cause_known}
use Rattle.placing.proofs.call.CallAnswers.{counted_refused, counted_done, counted_taken, counted_after}
use Rattle.placing.proofs.call.call_by_counts.Goals as goal

pub returns-in_err-cause_by_counts : goal.returns-in_err-cause_by_counts
returns-in_err-cause_by_counts c =
    let p = err_from_is_err_and c.from_residual.result c.from_residual.ensures.1 in rw (p.1, p.2)
    (λ v run right.
    let a = c.args in
    let h = head_in a.station.now.head a.station.now.presets in (
      counted_refused a.station.now.head a.station.now.presets (call_jobs a.call.count a.call.jobs) (state_at a.table.now a.moment) v run c.in_err-cause_by_counts.field-0.0
          (c.in_err-cause_by_counts.ensures.0 h a.moment.clock (cell h a.table.now) run.valid run.well_formed.cells right),
      right,
    ))

-- no cause is met before, so that the call fits
pub returns-in_err-evicted : goal.returns-in_err-evicted
returns-in_err-evicted c = λ v run right.
    let a = c.args in
    let h = head_in a.station.now.head a.station.now.presets in
    let st = state_at a.table.now a.moment in
    let tried = c.in_ok-cause_by_counts.ensures.0 h a.moment.clock (cell h a.table.now) run.valid run.well_formed.cells right in
    let known = cause_known a.call.jobs (omega (arith, c)) a.call.count h a.moment.clock (cell h a.table.now) (sym tried) in
    absurd (counted_taken a.station.now.head a.station.now.presets (call_jobs a.call.count a.call.jobs) st v run tried
    (counted_done a.station.now.head a.station.now.presets (call_jobs a.call.count a.call.jobs) st v run tried
    (call_jobs_lem a.call.jobs (omega (arith, c)) a.call.count known.0) (c.in_err-evicted.ensures v run.long run.well_formed.cells known)))

pub returns : goal.returns
returns c = λ v run right.
    let a = c.args in
    let h = head_in a.station.now.head a.station.now.presets in
    let st = state_at a.table.now a.moment in
    let tried = c.in_ok-cause_by_counts.ensures.0 h a.moment.clock (cell h a.table.now) run.valid run.well_formed.cells right in
    let known = cause_known a.call.jobs (omega (arith, c)) a.call.count h a.moment.clock (cell h a.table.now) (sym tried) in
    let done = counted_done a.station.now.head a.station.now.presets (call_jobs a.call.count a.call.jobs) st v run tried
    (call_jobs_lem a.call.jobs (omega (arith, c)) a.call.count known.0) (c.in_ok-evicted.ensures v run.long run.well_formed.cells known) in (
      done,
      counted_after a.station.now.head a.station.now.presets a.call.jobs a.call.count st (omega (arith, c)) v run tried done right c.mark_jobs.ensures refl c.count_slots-counts.ensures,
    )
