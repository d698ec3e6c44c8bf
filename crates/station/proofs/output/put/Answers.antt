-- `output::put` meets its contract. Assumes nothing.
use mathlib.Core.List.{[], ◌∷◌}
use Rattle.station.proofs.output.Runs.{wrote_byte, wrote_out}
use Rattle.station.proofs.output.put.Goals as goal

pub returns-then-at-out : goal.returns-then-at-out
returns-then-at-out c = let a = c.args in wrote_byte a.out.now a.at a.byte c.if-at-out.true

pub returns-else-at-out : goal.returns-else-at-out
returns-else-at-out c = let a = c.args in wrote_out a.out.now a.at (a.byte ∷ []) c.if-at-out.false
