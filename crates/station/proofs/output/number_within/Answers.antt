-- `output::number_within` meets its contract, by the number of digits. Assumes nothing.
use Prim.Native.Nat.{◌+◌, ◌/◌}
use native.Mathlib.Omega.{arith}
use Rattle.station.proofs.Decimal.{digits_small}
use Rattle.station.proofs.output.TwoDigits.{digits_two, digits_hundreds}
use Rattle.station.proofs.output.Runs.{wrote_byte, wrote_then, wrote_length, wrote_place}
use Rattle.station.proofs.output.number_within.Goals as goal

pub returns-then-n-lt10 : goal.returns-then-n-lt10
returns-then-n-lt10 c = let a = c.args in rw (digits_small a.n (omega arith)) (wrote_byte a.out.now a.at (48 + a.n) (omega arith))

pub returns-then-n-lt100 : goal.returns-then-n-lt100
returns-then-n-lt100 c = rw (digits_two c.args.n (omega arith) (omega arith)) c.two_digits.ensures

pub returns-then-n-lt1000 : goal.returns-then-n-lt1000
returns-then-n-lt1000 c = let a = c.args in
    rw (digits_hundreds a.n (omega arith), digits_small (a.n / 100) (omega arith))
    (wrote_then (wrote_byte a.out.now a.at (48 + a.n / 100) (omega arith)) c.two_digits-then-n-lt1000.ensures)

pub two_digits-requires-2 : goal.two_digits-requires-2
two_digits-requires-2 c = let first = c.two_digits-next.ensures in
    (omega arith, omega (arith, wrote_length first, wrote_place first (omega arith)))

pub returns : goal.returns
returns c = let a = c.args in
    rw (digits_hundreds a.n (omega arith), digits_two (a.n / 100) (omega arith) (omega arith))
    (wrote_then c.two_digits-next.ensures c.two_digits-2.ensures)
