-- `write::frame_line` meets its contract. Assumes nothing.
use mathlib.Core.List.{append_assoc}
use Rattle.station.specs.Form.{print}
use Rattle.station.specs.Text.{bytes}
use Rattle.station.proofs.output.Runs.{writes_then}
use Rattle.station.proofs.write.frame_line.Goals as goal

pub returns : goal.returns
unfolding print bytes
returns c = simp append_assoc at (writes_then c.word.ensures (writes_then c.two_numbers.ensures c.word-2.ensures))
