-- `output::two_digits` meets its contract. Assumes nothing.
use native.Mathlib.Omega.{arith}
use Rattle.station.proofs.output.Runs.{wrote_two}
use Rattle.station.proofs.output.two_digits.Goals as goal

pub returns : goal.returns
returns c = let a = c.args in wrote_two a.out.now a.at _ _ (omega arith)
