-- `entries::read_rows` meets its contract: a text that is too long and fewer than 32 records are refused; else what the first 32 give is what the list gives. Assumes nothing.
use native.Mathlib.Omega.{arith}
use mathlib.Core.Path.{sym}
use mathlib.Core.List.{List}
use lib.ListN.{length}
use Rattle.std.proofs.Common.{Bor}
use Rattle.std.proofs.lemmas.Result.{err_from_is_err_and}
use Rattle.station.specs.declared.types.Preset.{Preset}
use Rattle.station.specs.declared.types.Refusal.TheVariants.{TooShort}
use Rattle.station.proofs.entries.FirstRecords.{few_records, first_records}
use Rattle.station.proofs.rows.RowCauses.{rows_long, rows_few, rows_list}
use Rattle.station.proofs.entries.read_rows.Goals as goal

pub returns-then-text-gt-MOST_BYTES : goal.returns-then-text-gt-MOST_BYTES
returns-then-text-gt-MOST_BYTES c = let a = c.args in
    rw c.into.ensures (rows_long (length a.presets.now) a.head.now a.presets.now a.text.now (omega arith))

pub returns-in_err-records : goal.returns-in_err-records
returns-in_err-records c = let a = c.args in
    let few = few_records (λ (y : Bor (List Preset)). y.now) 32 a.presets.now TooShort c.first_chunk.result c.ok_or.result c.in_err-records.field-0.0 c.first_chunk.ensures.cases
    c.ok_or.ensures.value c.in_err-records.was in
    let p = err_from_is_err_and c.from_residual.result c.from_residual.ensures.1 in
    rw (p.1, p.2, few.1) (rows_few (length a.presets.now) a.head.now a.presets.now a.text.now (omega arith) few.0)

pub returns : goal.returns
returns c = let a = c.args in
    let chunk = first_records (λ (y : Bor (List Preset)). y.now) 32 a.presets.now TooShort c.first_chunk.result c.ok_or.result c.in_ok-records.records c.first_chunk.ensures.cases
    c.ok_or.ensures.value c.in_ok-records.was in
    rw (sym (rows_list a.head.now a.presets.now a.text.now chunk.0)) (rw chunk.1 at c.read_rows_by_value.ensures)
