-- `listing::bytes::refused_line` meets its contract. Assumes nothing.
use mathlib.Core.Path.{◌∙◌}
use Rattle.station.specs.Text.{bytes}
use Rattle.station.proofs.Theorems.{writes_then}
use Rattle.frame.specs.Listing.{refused_line}
use Rattle.frame.proofs.listing.bytes.refused_line.Goals as goal

pub returns : goal.returns
unfolding refused_line bytes
returns c = writes_then c.word.ensures (rw (c.from-2.ensures ∙ c.from.ensures) at c.numbers_end.ensures)
