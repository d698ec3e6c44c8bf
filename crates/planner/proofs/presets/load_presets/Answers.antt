-- `presets::load_presets` meets its contract. The invariant: the records passed are those read, and there are 32. Assumes nothing.
use native.Mathlib.Omega.{arith}
use mathlib.Core.Path.{refl, ◌∙◌}
use Rattle.planner.proofs.Steps.{read_more, read_all}
use lib.ListN.{length-set}
use Rattle.planner.proofs.presets.load_presets.Goals as goal

pub loop-i-init : goal.loop-i-init
loop-i-init c = (omega arith, refl, refl)

pub loop-i-preserved : goal.loop-i-preserved
loop-i-preserved c = let l = c.loop-i in
    let a = c.args in
    (omega arith, length-set l.copied l.i c.preset_at.result ∙ l.invariant.1, read_more l.copied a.presets.now l.i (omega arith) l.invariant.1 l.invariant.2 c.preset_at.ensures)

pub returns : goal.returns
returns c = let l = c.loop-i in
    read_all l.copied c.args.presets.now l.i (omega arith) (omega arith) l.invariant.1 l.invariant.2
