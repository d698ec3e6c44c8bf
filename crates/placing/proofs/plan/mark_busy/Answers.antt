-- `plan::mark_busy` meets its contract. Assumes nothing.
use Prim.Native.Nat.{ℕ}
use mathlib.Core.Path.{◌∙◌, ap}
use mathlib.Core.List.{List, ◌++◌}
use lib.ListN.{drop, replicate}
use lib.Seq.{length-take-le}
use Rattle.placing.proofs.plan.BusyCells.{busy_filled}
use Rattle.placing.proofs.plan.mark_busy.Goals as goal

pub returns : goal.returns
returns c = let a = c.args in
    let busy = c.fill.ensures.after (λ y e. e) ∙ ap (λ (k : ℕ). replicate k 256) (length-take-le a.cells a.table.now c.requires) in
    ap (λ (q : List ℕ). q ++ drop a.cells a.table.now) busy ∙ busy_filled a.table.now a.cells c.requires
