-- `text::run_text` meets its contract: a text that is too long and fewer than 32 records are
-- refused, else the text is run with the first 32 of them. Assumes nothing.
use mathlib.Core.List.{List}
use Rattle.std.proofs.Common.{MutBor}
use Rattle.std.proofs.lemmas.Result.{err_from_is_err_and}
use Rattle.station.specs.declared.types.Preset.{Preset}
use Rattle.station.specs.declared.types.Refusal.TheVariants.{TooShort}
use Rattle.station.proofs.Theorems.{few_records, first_records}
use Rattle.frame.proofs.text.ListOfRecords.{entry_long, entry_few, entry_enough}
use Rattle.frame.proofs.text.run_text.Goals as goal

pub returns-then-text-gt-MOST_BYTES : goal.returns-then-text-gt-MOST_BYTES
returns-then-text-gt-MOST_BYTES c = let a = c.args in
    entry_long a.presets.now a.text.now a.table.now a.out.now a.head.now a.moment.now.clock a.moment.now.hold c.if-text-gt-MOST_BYTES.true c.into.ensures

pub returns-in_err-records : goal.returns-in_err-records
returns-in_err-records c = let a = c.args in
    let few = few_records (λ (y : MutBor (List Preset)). y.now) 32 a.presets.now TooShort c.first_chunk_mut.result c.ok_or.result c.in_err-records.field-0.0 c.first_chunk_mut.ensures.cases
    c.ok_or.ensures.value c.in_err-records.was in
    let p = err_from_is_err_and c.from_residual.result c.from_residual.ensures.1 in
    rw (p.1, p.2, few.1) (entry_few a.presets.now a.text.now a.table.now a.out.now a.head.now a.moment.now.clock a.moment.now.hold c.if-text-gt-MOST_BYTES.false few.0)

pub returns : goal.returns
returns c = let a = c.args in
    let chunk = first_records (λ (y : MutBor (List Preset)). y.now) 32 a.presets.now TooShort c.first_chunk_mut.result c.ok_or.result c.in_ok-records.records c.first_chunk_mut.ensures.cases
    c.ok_or.ensures.value c.in_ok-records.was in
    entry_enough a.presets.now a.text.now a.table.now a.out.now a.head.now a.moment.now.clock a.moment.now.hold chunk.0 chunk.1 c.run_text_by_value.ensures.done
