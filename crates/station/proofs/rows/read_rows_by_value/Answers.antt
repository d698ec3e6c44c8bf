-- `read_rows_by_value` meets its contract: a text that is too long and a record that no text yields are refused, any other is read row by row.
-- Assumes nothing.
use native.Mathlib.Omega.{arith}
use mathlib.Core.Path.{sym, ◌∙◌}
use Rattle.station.proofs.check.ValidRecord.{valid_head}
use Rattle.station.proofs.rows.RowCauses.{rows_long, rows_invalid, rows_tried}
use Rattle.station.proofs.rows.read_rows_by_value.Goals as goal

pub returns-then-text-gt-MOST_BYTES : goal.returns-then-text-gt-MOST_BYTES
returns-then-text-gt-MOST_BYTES c = let a = c.args in
    rw c.into.ensures (rows_long 32 a.head.now a.presets.now a.text.now (omega arith))

pub returns-then-not-valid_record : goal.returns-then-not-valid_record
returns-then-not-valid_record c = let a = c.args in
    rw c.into-then-not-valid_record.ensures
    (rows_invalid 32 a.head.now a.presets.now a.text.now (omega arith) (omega arith) (sym c.valid_record.ensures ∙ c.if-not-valid_record.true))

pub read_row_lines-requires : goal.read_row_lines-requires
read_row_lines-requires c = let a = c.args in
    let w = valid_head a.head.now a.presets.now (sym c.valid_record.ensures ∙ c.if-not-valid_record.false) in
    (omega arith, w.slots_high, w.bridges_high)

pub returns : goal.returns
returns c = let a = c.args in
    c.read_row_lines.ensures a.presets.now
    ∙ rows_tried 32 a.head.now a.presets.now a.text.now (omega arith) (omega arith) (sym c.valid_record.ensures ∙ c.if-not-valid_record.false)
