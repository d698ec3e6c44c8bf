-- `text::lines::run_lines` meets its contract. The invariant is `AtEvent`: the lines that are left,
-- run from here on, come to what the whole run comes to, their answers are what is left to be
-- written, and the counts are those of the table and the clock. Assumes nothing.
use Rattle.station.specs.Line.{lines_left}
use Rattle.placing.specs.State.{state_at}
use Rattle.frame.proofs.text.lines.LineLoop.{AtEvent}
use Rattle.frame.proofs.text.lines.run_lines.Given as goal

abbrev pub invariant-loop-line : goal.invariant-loop-line
invariant-loop-line l =
    AtEvent l.station.head l.station.presets l.fn.text l.fn.gone.bytes l.fn.gone.lines (state_at l.initial.table l.initial.moment) l.initial.out (lines_left l.line-iterator) l.n l.moment l.table l.out l.counts
