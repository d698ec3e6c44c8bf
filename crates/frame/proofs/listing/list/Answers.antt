-- `listing::list` meets its contract: the listing of a text that ran stands there already, and the
-- one line of a refusal is written. Assumes nothing.
use Rattle.std.proofs.Common.{rules}
use Rattle.station.proofs.Theorems.{writes_out}
use Rattle.frame.specs.TextDone.{whole_with_output}
use Rattle.frame.proofs.listing.WholeListing.{lists_ran, lists_refused}
use Rattle.frame.proofs.listing.list.Goals as goal

pub returns-in-Ok : goal.returns-in-Ok
returns-in-Ok c = let a = c.args in
    lists_ran (whole_with_output a.text.now a.table.now a.out.now) c.run_text_by_value.ensures.done c.in-Ok.is

pub returns-in-Err : goal.returns-in-Err
returns-in-Err c = let a = c.args in
    lists_refused (whole_with_output a.text.now a.table.now a.out.now) c.run_text_by_value.ensures.done c.in-Err.is (writes_out c.refused_line.ensures c.new-writer.ensures.bytes c.new-writer.ensures.place (search rules) c.place.ensures)
