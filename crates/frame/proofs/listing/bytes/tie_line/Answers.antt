-- `listing::bytes::tie_line` meets its contract: a word for each order. Assumes nothing.
use Rattle.station.specs.Form.{print}
use Rattle.station.specs.Text.{bytes}
use Rattle.frame.proofs.listing.bytes.tie_line.Goals as goal

pub returns-then-hold : goal.returns-then-hold
unfolding print bytes
returns-then-hold c = rw c.if-hold.true c.word.ensures

pub returns-else-hold : goal.returns-else-hold
unfolding print bytes
returns-else-hold c = rw c.if-hold.false c.word-else-hold.ensures
