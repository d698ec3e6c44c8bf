-- `empty_line` meets its contract. The invariant: the lines to the place `at` are the head's, and the rest are left. Assumes nothing.
use Rattle.station.specs.Line.{lines_left}
use Rattle.rows.proofs.InputParts.{AtLine}
use Rattle.rows.proofs.empty_line.Given as goal

abbrev pub invariant-loop-line : goal.invariant-loop-line
invariant-loop-line l = AtLine l.input (lines_left l.line-iterator) l.at
