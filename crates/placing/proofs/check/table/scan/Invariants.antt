-- `check::table::scan` meets its contract. The loops' invariants: the cells before the place `at` fit and are counted; before a slot no number has its mark (`Passed`), in
-- it those have it whose cells were passed, and these are as many as `held` says (`Walked`). Assumes nothing.
use Rattle.placing.proofs.check.table.FrameWalk.{Passed, Walked}
use Rattle.placing.proofs.check.table.scan.Given as goal

abbrev pub invariant-loop-b : goal.invariant-loop-b
invariant-loop-b l = Walked l.grid.bridges l.grid.fed l.busy l.numbers l.grid.cells.now l.s l.b l.at l.counts l.last l.held

abbrev pub invariant-frame : goal.invariant-frame
invariant-frame l = Passed l.grid.bridges l.grid.fed l.busy l.numbers l.grid.cells.now l.s l.at l.counts l.last
