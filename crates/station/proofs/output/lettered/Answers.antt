-- `output::lettered` meets its contract. Assumes nothing.
use native.Mathlib.Omega.{arith}
use Rattle.station.specs.Text.{bytes}
use Rattle.station.proofs.output.Runs.{wrote_two, wrote_then}
use Rattle.station.proofs.output.lettered.Goals as goal

pub returns-then-at-saturating_sub : goal.returns-then-at-saturating_sub
unfolding bytes
returns-then-at-saturating_sub c = let a = c.args in rw c.from-n.ensures at (wrote_then (wrote_two a.out.now a.at 32 a.letter (omega arith)) c.number_within.ensures)

pub returns : goal.returns
unfolding bytes
returns c = rw c.from-n.ensures at (wrote_then c.put-first.ensures (wrote_then c.put-next.ensures c.number.ensures))
