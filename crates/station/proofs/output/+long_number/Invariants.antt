-- `output::long_number` ends: the measure is the number, of which a call takes a tenth. Assumes nothing.
use Rattle.station.proofs.output.+long_number.Given as goal

abbrev pub decreases-long_number : goal.decreases-long_number
decreases-long_number l = l.n
