-- `output::two_numbers` meets its contract. Assumes nothing.
use Rattle.station.specs.Text.{bytes}
use Rattle.station.proofs.output.Runs.{wrote_then}
use Rattle.station.proofs.output.two_numbers.Goals as goal

pub returns : goal.returns
unfolding bytes
returns c = wrote_then c.number-blank.ensures (wrote_then c.put-second.ensures c.number.ensures)
