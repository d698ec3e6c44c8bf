-- `listing::write_grant` meets its contract. Assumes nothing.
use native.Mathlib.Omega.{arith}
use Rattle.std.proofs.Common.{rules}
use Rattle.station.proofs.Theorems.{writes_out}
use Rattle.frame.specs.Listing.{granted_line}
use Rattle.frame.proofs.listing.OneLine.{line_short, line_whole}
use Rattle.frame.proofs.listing.bytes.LineSizes.{grant_fits}
use Rattle.frame.proofs.listing.write_grant.Goals as goal

pub returns-then-out-lt-LEAST_OUTPUT : goal.returns-then-out-lt-LEAST_OUTPUT
returns-then-out-lt-LEAST_OUTPUT c = let a = c.args in line_short _ (granted_line a.number a.slots) a.out.now c.if-out-lt-LEAST_OUTPUT.true

pub returns : goal.returns
returns c = let a = c.args in
    line_whole (granted_line a.number a.slots) a.out.now c.if-out-lt-LEAST_OUTPUT.false (grant_fits a.number a.slots (omega arith) (omega arith))
    (writes_out (rw (c.from.ensures, c.from-2.ensures) at c.granted_line.ensures) c.new-writer.ensures.bytes c.new-writer.ensures.place (search rules) c.place.ensures)
