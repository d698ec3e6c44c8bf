-- `output::long_number` meets its contract, by recursion. Assumes nothing.
use native.Mathlib.Omega.{arith}
use Rattle.station.proofs.Decimal.{digits_small, digits_step}
use Rattle.station.proofs.output.Runs.{wrote_then}
use Rattle.station.proofs.output.+long_number.Goals as goal

pub returns-then-n-lt10 : goal.returns-then-n-lt10
returns-then-n-lt10 t c = rw (digits_small c.args.n (omega arith)) c.put.ensures

pub returns : goal.returns
returns t c = rw (digits_step c.args.n (omega arith)) (wrote_then c.long_number-last.ensures c.put-2.ensures)
