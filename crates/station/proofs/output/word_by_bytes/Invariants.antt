-- The invariant: the bytes from the one at hand on are left.
use lib.ListN.{drop}
use Rattle.station.specs.Wrote.{Left}
use Rattle.station.proofs.output.word_by_bytes.Given as goal

abbrev pub invariant-loop-byte : goal.invariant-loop-byte
invariant-loop-byte l = Left l.initial.out l.at l.text l.out l.position (drop l.byte-index l.text)
