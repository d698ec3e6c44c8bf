-- `listing::bytes::answer_line` meets its contract, by the answer. Assumes nothing.
use native.Mathlib.Omega.{arith}
use Rattle.station.specs.Text.{bytes}
use Rattle.station.specs.Types.{refusal_in}
use Rattle.placing.specs.Outcomes.{cost}
use Rattle.frame.specs.Event.{clock_now, tie_now, taken, refused}
use Rattle.frame.specs.Listing.{answer_line}
use Rattle.frame.proofs.listing.bytes.LineSizes.{answer_fits}
use Rattle.frame.proofs.listing.bytes.answer_line.Goals as goal

pub returns-in-Ok-Now-clause-wrote : goal.returns-in-Ok-Now-clause-wrote
unfolding answer_line bytes
returns-in-Ok-Now-clause-wrote c = rw (c.in-Ok-Now.is, rw c.in-Ok-Now.is at c.in-Ok-Now.field-0-is) c.number_line.ensures.wrote

pub returns-in-Ok-Now-clause-fits : goal.returns-in-Ok-Now-clause-fits
returns-in-Ok-Now-clause-fits c = let a = c.args in
    rw (c.in-Ok-Now.is, rw c.in-Ok-Now.is at c.in-Ok-Now.field-0-is) (answer_fits a.line (clock_now c.in-Ok-Now.t) (omega arith) c.number_line.ensures.few)

pub returns-in-Ok-Tie-clause-wrote : goal.returns-in-Ok-Tie-clause-wrote
unfolding answer_line
returns-in-Ok-Tie-clause-wrote c = rw (c.in-Ok-Tie.is, rw c.in-Ok-Tie.is at c.in-Ok-Tie.field-0-is) c.tie_line.ensures

pub returns-in-Ok-Tie-clause-fits : goal.returns-in-Ok-Tie-clause-fits
returns-in-Ok-Tie-clause-fits c = let a = c.args in
    rw (c.in-Ok-Tie.is, rw c.in-Ok-Tie.is at c.in-Ok-Tie.field-0-is) (answer_fits a.line (tie_now c.in-Ok-Tie.hold) (omega arith) tt)

pub returns-in-Ok-Taken-clause-wrote : goal.returns-in-Ok-Taken-clause-wrote
unfolding answer_line bytes
returns-in-Ok-Taken-clause-wrote c = rw (c.in-Ok-Taken.is, rw c.in-Ok-Taken.is at c.in-Ok-Taken.field-0-is) c.number_line-in-Ok-Taken.ensures.wrote

pub returns-in-Ok-Taken-clause-fits : goal.returns-in-Ok-Taken-clause-fits
returns-in-Ok-Taken-clause-fits c = let a = c.args in
    rw (c.in-Ok-Taken.is, rw c.in-Ok-Taken.is at c.in-Ok-Taken.field-0-is) (answer_fits a.line (taken (cost c.in-Ok-Taken.n)) (omega arith) c.number_line-in-Ok-Taken.ensures.few)

pub returns-in-Err-clause-wrote : goal.returns-in-Err-clause-wrote
unfolding answer_line bytes
returns-in-Err-clause-wrote c = rw c.in-Err.is c.refused_line.ensures

pub returns-in-Err-clause-fits : goal.returns-in-Err-clause-fits
returns-in-Err-clause-fits c = let a = c.args in rw c.in-Err.is (answer_fits a.line (refused 0 (refusal_in c.in-Err.cause)) (omega arith) tt)
