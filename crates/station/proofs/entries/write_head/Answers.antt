-- `entries::write_head` meets its contract: fewer than 32 records are refused; else what is written of the first 32 is what the list has. Assumes nothing.
use lib.ListN.{length}
use Rattle.std.proofs.lemmas.Result.{err_from_is_err_and}
use Rattle.station.proofs.entries.ListOfRecords.{write_few, write_list}
use Rattle.station.proofs.entries.write_head.Goals as goal

pub returns-in_err-station : goal.returns-in_err-station
returns-in_err-station c = let a = c.args in
    let few = rw c.in_err-station.was at c.of.ensures in
    let p = err_from_is_err_and c.from_residual.result c.from_residual.ensures.1 in
    rw (p.1, p.2, few.1) (write_few (length a.presets.now) a.head a.presets.now a.out.now few.0)

pub returns : goal.returns
returns c = let a = c.args in
    let made = rw c.in_ok-station.was at c.of.ensures in
    write_list a.head a.presets.now a.out.now made.0 (rw (made.1, made.2) at c.write_head_by_value.ensures)
