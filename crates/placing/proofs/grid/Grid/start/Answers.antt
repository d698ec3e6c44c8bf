-- `grid::Grid::start` meets its contract: eight cells from the start of a slot are within a table of 512. Assumes nothing.
use native.Mathlib.Omega.{arith}
use Rattle.placing.proofs.counts.usable.UsableCells.{eight_le}
use Rattle.placing.proofs.grid.Grid.start.Goals as goal

pub overflow_mul-result : goal.overflow_mul-result
overflow_mul-result c = let g = c.args.self.now in omega (arith, eight_le c.args.slot g.bridges (omega (arith, g.few_slots, c.requires)) g.few_bridges)

pub returns : goal.returns
returns c = let g = c.args.self.now in omega (arith, eight_le c.args.slot g.bridges (omega (arith, g.few_slots, c.requires)) g.few_bridges, g.enough)
