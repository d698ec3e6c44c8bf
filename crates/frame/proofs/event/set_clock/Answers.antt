-- `event::set_clock` meets its contract: fewer than 32 records are refused, else the clock is set
-- with the first 32 of them. Assumes nothing.
use Rattle.std.proofs.lemmas.Result.{err_from_is_err_and}
use Rattle.placing.specs.State.{state_at}
use Rattle.frame.specs.Event.{Event}
use Rattle.frame.proofs.event.ListOfRecords.{entry_few, entry_enough}
use Rattle.frame.proofs.event.set_clock.Goals as goal

pub returns-in_err-station : goal.returns-in_err-station
returns-in_err-station c = let a = c.args in
    let few = rw c.in_err-station.was at c.of.ensures in
    let p = err_from_is_err_and c.from_residual.result c.from_residual.ensures.1 in
    rw (p.1, p.2, few.1) (entry_few a.head a.presets.now (state_at a.table.now a.moment.now) (Event.clock a.t) few.0)

pub returns : goal.returns
returns c = let a = c.args in
    let made = rw c.in_ok-station.was at c.of.ensures in
    entry_enough a.head a.presets.now (state_at a.table.now a.moment.now) (Event.clock a.t) made.0 made.2 (rw made.1 at c.set_clock_by_value.ensures.done)
