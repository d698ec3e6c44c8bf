-- `listing::bytes::number_line` meets its contract. Assumes nothing.
use native.Mathlib.Omega.{arith}
use Rattle.station.specs.Text.{bytes}
use Rattle.station.proofs.Theorems.{writes_then}
use Rattle.frame.proofs.listing.bytes.LineSizes.{digits_few}
use Rattle.frame.proofs.listing.bytes.number_line.Goals as goal

pub returns-clause-wrote : goal.returns-clause-wrote
unfolding bytes
returns-clause-wrote c = writes_then c.word.ensures (writes_then c.number.ensures c.word-2.ensures)

pub returns-clause-few : goal.returns-clause-few
returns-clause-few c = digits_few c.args.n (omega arith)
