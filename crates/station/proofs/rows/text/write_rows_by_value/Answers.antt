-- `write_rows_by_value` meets its contract. Assumes nothing.
use Rattle.std.proofs.Common.{rules}
use Rattle.std.proofs.lemmas.Result.{err_from_is_err_and}
use Rattle.station.proofs.output.Runs.{writes_out}
use Rattle.station.proofs.rows.RowRuns.{rows_refused_lem, rows_written_lem}
use Rattle.station.proofs.rows.text.write_rows_by_value.Goals as goal

pub returns-in_err-write_cause : goal.returns-in_err-write_cause
returns-in_err-write_cause c = let a = c.args in
    let p = err_from_is_err_and c.from_residual.result c.from_residual.ensures.1 in
    rw (p.1, p.2) (rows_refused_lem a.station.now.head a.station.now.presets a.out.now c.in_err-write_cause.field-0.0 c.in_err-write_cause.ensures)

pub returns : goal.returns
returns c = let a = c.args in
    rows_written_lem a.station.now.head a.station.now.presets a.out.now c.place.result _ c.in_ok-write_cause.ensures
    (writes_out c.all_rows.ensures c.new-writer.ensures.bytes c.new-writer.ensures.place (search rules) c.place.ensures)
