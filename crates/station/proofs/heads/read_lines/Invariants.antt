-- `read_lines` meets its contract. The invariant is `AtLine`: the lines that are left, read from the state on, are the reading of the text.
-- Assumes nothing.
use Rattle.station.specs.Line.{lines_left}
use Rattle.station.proofs.heads.LineLoop.{AtLine}
use Rattle.station.proofs.heads.read_lines.Given as goal

abbrev pub invariant-loop-line : goal.invariant-loop-line
invariant-loop-line l = AtLine l.text l.presets l.state (lines_left l.line-iterator) l.extent.bytes l.extent.lines
