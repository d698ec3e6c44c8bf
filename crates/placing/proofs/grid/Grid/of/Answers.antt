-- `grid::Grid::of` meets its contract. Assumes nothing.
use mathlib.Core.Path.{sym, ◌∙◌}
use lib.ListN.{length}
use Rattle.placing.proofs.limits.Within.{limits_of}
use Rattle.placing.proofs.grid.Grid.of.Goals as goal

pub invariant_of-result : goal.invariant_of-result
invariant_of-result c = let h = c.args.head.now in
    let l = limits_of h.slots h.bridges 0 (length c.args.cells.now) (sym c.in_limits.ensures ∙ c.if-not-in_limits.false) in
    record { few_slots = l.0; few_bridges = l.1; enough = l.3 }
