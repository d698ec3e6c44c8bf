-- `write::bracket` meets its contract: with a blank where another follows, else with the end of its line.
use mathlib.Core.List.{append_assoc}
use Rattle.station.specs.Text.{bytes}
use Rattle.station.proofs.output.Runs.{writes_then}
use Rattle.station.proofs.write.bracket.Goals as goal

pub returns-then-more : goal.returns-then-more
unfolding bytes
returns-then-more c = rw c.if-more.true (simp append_assoc at (writes_then c.put.ensures (writes_then c.two_numbers.ensures c.word.ensures)))

pub returns-else-more : goal.returns-else-more
unfolding bytes
returns-else-more c = rw c.if-more.false (simp append_assoc at (writes_then c.put.ensures (writes_then c.two_numbers.ensures c.word-else-more.ensures)))
