-- `types::Station::of` meets its contract: a list of fewer than 32 records is refused, and of others the first 32 are taken. Assumes nothing.
use mathlib.Core.Path.{refl, sym, ◌∙◌}
use mathlib.Core.List.{List}
use Rattle.std.proofs.Common.{Bor}
use Rattle.std.proofs.lemmas.Result.{err_from_is_err_and}
use Rattle.station.specs.declared.types.Preset.{Preset}
use Rattle.station.specs.declared.types.Refusal.TheVariants.{TooShort}
use Rattle.station.proofs.CopiedRecords.{loaded_whole}
use Rattle.station.proofs.entries.FirstRecords.{few_records, first_records}
use Rattle.station.proofs.types.Station.of.Goals as goal

pub returns-in_err-records : goal.returns-in_err-records
returns-in_err-records c =
    let few = few_records (λ (y : Bor (List Preset)). y.now) 32 c.args.presets.now TooShort c.first_chunk.result c.ok_or.result c.in_err-records.field-0.0 c.first_chunk.ensures.cases
    c.ok_or.ensures.value c.in_err-records.was in
    let p = err_from_is_err_and c.from_residual.result c.from_residual.ensures.1 in
    rw (p.1, p.2) few

pub returns : goal.returns
returns c =
    let chunk = first_records (λ (y : Bor (List Preset)). y.now) 32 c.args.presets.now TooShort c.first_chunk.result c.ok_or.result c.in_ok-records.records c.first_chunk.ensures.cases
    c.ok_or.ensures.value c.in_ok-records.was in
    (chunk.0, refl, chunk.1, chunk.1 ∙ sym (loaded_whole c.args.presets.now chunk.0))

pub invariant_of-result : goal.invariant_of-result
invariant_of-result c =
    let chunk = first_records (λ (y : Bor (List Preset)). y.now) 32 c.args.presets.now TooShort c.first_chunk.result c.ok_or.result c.in_ok-records.records c.first_chunk.ensures.cases
    c.ok_or.ensures.value c.in_ok-records.was in
    record { full = chunk.2 }
