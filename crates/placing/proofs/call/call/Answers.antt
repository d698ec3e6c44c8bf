-- `call::call` meets its contract: a list of fewer than 32 records, and a call over the first 32. Assumes nothing.
use Rattle.std.proofs.lemmas.Result.{err_from_is_err_and}
use Rattle.placing.specs.State.{state_at}
use Rattle.placing.specs.Causes.{call_jobs}
use Rattle.placing.proofs.ListOfRecords.{call_entry, call_entry_short}
use Rattle.placing.proofs.call.call.Goals as goal

pub returns-in_err-station : goal.returns-in_err-station
returns-in_err-station c = let a = c.args in
    let few = rw c.in_err-station.was at c.of.ensures in
    let p = err_from_is_err_and c.from_residual.result c.from_residual.ensures.1 in
    rw (p.1, p.2, few.1) (call_entry_short a.head a.presets.now (call_jobs a.call.count a.call.jobs) (state_at a.table.now a.moment) few.0)

pub returns : goal.returns
returns c = let a = c.args in
    let made = rw c.in_ok-station.was at c.of.ensures in
    call_entry a.head a.presets.now (call_jobs a.call.count a.call.jobs) (state_at a.table.now a.moment) made.2 made.0 (rw made.1 at c.call_by_value.ensures.done)
