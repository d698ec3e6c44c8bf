-- `check::table::preset_numbers` meets its contract. The loop's invariant: the counts are those of the presets before `i`. Assumes nothing.
use native.Mathlib.Omega.{arith}
use mathlib.Core.List.{List}
use Prim.Native.Nat.{ℕ}
use mathlib.Core.Path.{sym, ◌∙◌, ap}
use Rattle.station.specs.Head.{Preset}
use Rattle.station.specs.Types.{presets_in}
use Rattle.placing.specs.method.Check.{bump, numbered}
use Rattle.placing.proofs.HeadRecord.{preset_at_lem}
use Rattle.placing.specs.method.Records.{record_at}
use Rattle.placing.proofs.check.table.Counted.{numbered_none, numbered_more, numbered_le}
use Rattle.placing.proofs.check.table.preset_numbers.Goals as goal

pub loop-i-init : goal.loop-i-init
loop-i-init c = sym (numbered_none _)

pub overflow_add-numbers : goal.overflow_add-numbers
overflow_add-numbers c = let a = c.args in
    let l = c.loop-i in
    rw l.invariant (omega (arith, numbered_le (presets_in a.lawful.now.station.now.head.count a.lawful.now.station.now.presets) c.from.result l.i))

pub loop-i-preserved : goal.loop-i-preserved
loop-i-preserved c = let a = c.args in
    let l = c.loop-i in
    let ps = presets_in a.lawful.now.station.now.head.count a.lawful.now.station.now.presets in
    rw c.from.ensures
    (sym (numbered_more ps l.i
    ∙ ap (λ (p : Preset). bump (numbered ps l.i) p.number) (preset_at_lem a.lawful.now.station.now.head.count a.lawful.now.station.now.presets l.i (omega arith))
    ∙ ap (λ (k : List ℕ). bump k (record_at a.lawful.now.station.now.presets l.i).number) (sym l.invariant)))
