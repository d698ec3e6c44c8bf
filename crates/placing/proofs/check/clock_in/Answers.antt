-- `check::clock_in` meets its contract: a law for each answer. Assumes nothing.
use native.Mathlib.Omega.{arith}
use mathlib.Core.Path.{sym}
use Rattle.placing.proofs.WellFormedFrame.{clock_is, clock_past}
use Rattle.placing.proofs.check.clock_in.Goals as goal

pub returns-then-clock-slots : goal.returns-then-clock-slots
returns-then-clock-slots c = let a = c.args in sym (clock_is a.slots a.clock (omega (arith, c.if-clock-slots.true)))

pub returns : goal.returns
returns c = let a = c.args in clock_past a.slots a.clock (omega (arith, c.if-clock-slots.false))
