-- `listing::write_listing` meets its contract: a law for each cause and one for the listing.
-- Assumes nothing.
use native.Mathlib.Omega.{arith}
use Rattle.station.specs.declared.types.Refusal.TheVariants.{TooShort, TextTooLong}
use Rattle.frame.proofs.listing.WholeListing.{cause_long, cause_short, listed_refused, listed_written}
use Rattle.frame.proofs.listing.write_listing.Goals as goal

pub returns-then-text-gt-MOST_BYTES : goal.returns-then-text-gt-MOST_BYTES
returns-then-text-gt-MOST_BYTES c = let a = c.args in
    let r =
    listed_refused a.text.now a.table.now a.out.now TextTooLong (cause_long a.text.now a.table.now a.out.now c.if-text-gt-MOST_BYTES.true) in
    record { done = r.0; whole = r.1 }

pub returns-then-out-lt-LEAST_OUTPUT : goal.returns-then-out-lt-LEAST_OUTPUT
returns-then-out-lt-LEAST_OUTPUT c = let a = c.args in
    let r =
    listed_refused a.text.now a.table.now a.out.now TooShort
    (cause_short a.text.now a.table.now a.out.now (omega arith) c.then-out-lt-LEAST_OUTPUT.either) in
    record { done = r.0; whole = r.1 }

pub returns : goal.returns
returns c = let a = c.args in
    let r =
    listed_written a.text.now a.table.now a.out.now (omega arith) c.if-out-lt-LEAST_OUTPUT.false c.if-table-lt-LEAST_CELLS.false c.list.ensures in
    record { done = r.0; whole = r.1 }
