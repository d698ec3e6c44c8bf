-- `events::run_events` meets its contract: a text that is too long and fewer than 32 records are
-- refused, else the events are run with the first 32 of them. Assumes nothing.
use Rattle.std.proofs.lemmas.Result.{err_from_is_err_and}
use Rattle.placing.specs.State.{state_at}
use Rattle.frame.proofs.events.EventsRun.{entry_long, entry_few, entry_enough}
use Rattle.frame.proofs.events.run_events.Goals as goal

pub returns-then-text-gt-MOST_BYTES : goal.returns-then-text-gt-MOST_BYTES
returns-then-text-gt-MOST_BYTES c = let a = c.args in
    entry_long a.head a.presets.now (state_at a.table.now a.moment.now) a.text.now a.out.now c.if-text-gt-MOST_BYTES.true c.into.ensures

pub returns-in_err-station : goal.returns-in_err-station
returns-in_err-station c = let a = c.args in
    let few = rw c.in_err-station.was at c.of.ensures in
    let p = err_from_is_err_and c.from_residual.result c.from_residual.ensures.1 in
    rw (p.1, p.2, few.1) (entry_few a.head a.presets.now (state_at a.table.now a.moment.now) a.text.now a.out.now c.if-text-gt-MOST_BYTES.false few.0)

pub returns : goal.returns
returns c = let a = c.args in
    let made = rw c.in_ok-station.was at c.of.ensures in
    entry_enough a.head a.presets.now (state_at a.table.now a.moment.now) a.text.now a.out.now made.0 made.2 (rw made.1 at c.run_events_by_value.ensures.done)
