-- `listing::bytes::granted_line` meets its contract. Assumes nothing.
use Rattle.station.specs.Text.{bytes}
use Rattle.station.proofs.Theorems.{writes_then}
use Rattle.frame.specs.Listing.{granted_line}
use Rattle.frame.proofs.listing.bytes.granted_line.Goals as goal

pub returns : goal.returns
unfolding granted_line bytes
returns c = writes_then c.word.ensures c.numbers_end.ensures
