-- `write_head_by_value` meets its contract. Assumes nothing.
use Rattle.std.proofs.Common.{rules}
use Rattle.std.proofs.lemmas.Result.{err_from_is_err_and}
use Rattle.station.proofs.output.Runs.{writes_out}
use Rattle.station.proofs.write.HeadLines.{none_valid, head_refused, head_written}
use Rattle.station.proofs.write.write_head_by_value.Goals as goal

pub returns-in_err-write_cause : goal.returns-in_err-write_cause
returns-in_err-write_cause c = let a = c.args in
    let p = err_from_is_err_and c.from_residual.result c.from_residual.ensures.1 in
    rw (p.1, p.2) (head_refused a.station.now.head a.station.now.presets a.out.now c.in_err-write_cause.field-0.0 c.in_err-write_cause.ensures)

pub head_text-requires : goal.head_text-requires
head_text-requires c = let a = c.args in (none_valid a.station.now.head a.station.now.presets a.out.now c.in_ok-write_cause.ensures).1

pub returns : goal.returns
returns c = let a = c.args in
    head_written a.station.now.head a.station.now.presets a.out.now c.place.result _ c.in_ok-write_cause.ensures
    (writes_out c.head_text.ensures c.new-writer.ensures.bytes c.new-writer.ensures.place (search rules) c.place.ensures)
