-- `check::table::presets_met` meets its contract. Assumes nothing.
use native.Mathlib.Omega.{arith}
use mathlib.Core.Path.{◌≡◌, ◌∙◌, ap}
use mathlib.Core.Bool.{true, false}
use lib.ListN.{take}
use lib.Seq.{get_or-take, length-take-le}
use borrow.Author.Tests.{tests}
use Rattle.std.proofs.Common.{rules}
use Rattle.std.proofs.lemmas.Iterator.{cases_from_all, YieldsList-from_slice}
use Rattle.station.specs.Types.{preset_in, presets_in, no_record}
use Rattle.station.specs.declared.types.Preset.{Preset}
use Rattle.placing.specs.method.Check.{is_met, preset_met}
use Rattle.placing.proofs.HeadRecord.{preset_at_lem}
use Rattle.placing.proofs.Chains.{every_by_all}
use Rattle.placing.proofs.check.table.presets_met.Goals as goal

pub returns : goal.returns
returns c =
    let ps = c.args.lawful.now.station.now.presets in
    let n = c.args.lawful.now.station.now.head.count in
    let t = c.args.counts.now in
    let met : Preset → Type 0 = λ p. is_met t (preset_in p) ≡ true in
    let unmet : Preset → Type 0 = λ p. is_met t (preset_in p) ≡ false in
    every_by_all no_record met unmet (take n ps) n (length-take-le n ps (omega (arith, c.args.lawful.now.station.now.full))) (preset_met (presets_in n ps) t)
    (λ k l q. ap (is_met t) (preset_at_lem n ps k l) ∙ (rw (get_or-take n ps k no_record l) at q))
    (λ k l q. ap (is_met t) (preset_at_lem n ps k l) ∙ (rw (get_or-take n ps k no_record l) at q))
    _ (cases_from_all _ _ _ met unmet c.all.ensures.ran (YieldsList-from_slice (take n ps) cc) (λ x q k. search (rules, tests)) (λ x q k. search (rules, tests)))
