-- `write::preset_line` meets its contract. Assumes nothing.
use mathlib.Core.List.{append_assoc}
use Rattle.station.specs.Form.{print}
use Rattle.station.specs.Text.{bytes}
use Rattle.station.proofs.output.Runs.{writes_then}
use Rattle.station.proofs.write.preset_line.Goals as goal

pub returns : goal.returns
unfolding print bytes
returns c =
    let said = simp append_assoc at (writes_then c.word.ensures (writes_then c.two_numbers.ensures (writes_then c.put.ensures (writes_then c.two_numbers-2.ensures c.word-2.ensures)))) in
    rw (c.from.ensures, c.from-2.ensures, c.from-3.ensures, c.from-4.ensures) at said
