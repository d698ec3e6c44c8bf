-- `exports::planner_write_rows` meets its contract: a law for what is lent too short, and one for rows that are handed on. Assumes nothing.
use mathlib.Core.Path.{◌∙◌}
use Rattle.planner.proofs.RowsWritten.{write_short, write_handed}
use Rattle.planner.proofs.exports.planner_write_rows.Goals as goal

pub returns-in_default : goal.returns-in_default
returns-in_default c = let a = c.args in
    let d = write_short a.frame.now a.presets.now a.out.now c.in_default.ensures.short in
    rw c.refusal_number.ensures (record { done = d.0; claim = d.1 })

pub returns : goal.returns
returns c = let a = c.args in
    let rows = c.write_rows_by_value-rows in
    let d =
    write_handed a.frame.now a.presets.now a.out.now c.in-Some.station rows.result c.in-Some.ensures.found rows.ensures (c.returned.ensures.count ∙ c.written.ensures.count)
    (c.returned.ensures.number ∙ c.written.ensures.number) in
    record { done = d.0; claim = d.1 }
