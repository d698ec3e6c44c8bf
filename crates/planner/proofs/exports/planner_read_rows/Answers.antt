-- `exports::planner_read_rows` meets its contract: a law for a text that is too long, one for what is lent too short, and one for rows that are handed on. Assumes nothing.
use native.Mathlib.Omega.{arith}
use Rattle.station.specs.RowEntries.{rows_left}
use Rattle.planner.proofs.RowsRead.{rows_long, rows_short, rows_handed}
use Rattle.planner.proofs.exports.planner_read_rows.Goals as goal

pub returns-then-text-gt-MOST_BYTES : goal.returns-then-text-gt-MOST_BYTES
returns-then-text-gt-MOST_BYTES c = let a = c.args in
    let d = rows_long a.text.now a.frame.now a.presets.now c.if-text-gt-MOST_BYTES.true in
    rw c.refusal_number.ensures (record { done = d.0; claim = d.1 })

pub returns-in_default : goal.returns-in_default
returns-in_default c = let a = c.args in
    let d = rows_short a.text.now a.frame.now a.presets.now (omega (arith, c.if-text-gt-MOST_BYTES.false)) c.in_default.ensures.short in
    rw c.refusal_number-in_default.ensures (record { done = d.0; claim = d.1 })

pub returns : goal.returns
returns c = let a = c.args in
    let read = c.read_rows_by_value-read in
    let d =
    rows_handed a.text.now a.frame.now a.presets.now c.in-Some.station (rows_left read.result read.new.head) (omega (arith, c.if-text-gt-MOST_BYTES.false)) c.in-Some.ensures.found read.ensures
    c.save_masks.ensures c.returned.ensures.count c.returned.ensures.number in
    record { done = d.0; claim = d.1 }
