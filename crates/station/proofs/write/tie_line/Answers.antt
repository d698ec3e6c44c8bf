-- `write::tie_line` meets its contract. Assumes nothing.
use Rattle.station.specs.Form.{print}
use Rattle.station.specs.Text.{bytes}
use Rattle.station.proofs.output.Runs.{writes_none}
use Rattle.station.proofs.write.tie_line.Goals as goal

pub returns-then-hold : goal.returns-then-hold
unfolding print bytes
returns-then-hold c = rw c.if-hold.true c.word.ensures

pub returns-else-hold : goal.returns-else-hold
returns-else-hold c = let a = c.args in
    rw c.if-hold.false (writes_none a.out.now)
