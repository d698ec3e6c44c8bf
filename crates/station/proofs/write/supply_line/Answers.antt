-- `write::supply_line` meets its contract. Assumes nothing.
use Rattle.station.specs.Text.{bytes}
use Rattle.station.proofs.write.HeadLines.{supply_text}
use Rattle.station.proofs.output.Runs.{writes_none, writes_then}
use Rattle.station.proofs.write.supply_line.Goals as goal

pub returns-then-motors-eq0 : goal.returns-then-motors-eq0
returns-then-motors-eq0 c = let a = c.args in
    rw c.if-motors-eq0.true (writes_none a.out.now)

pub returns : goal.returns
unfolding bytes
returns c = let a = c.args in
    rw (supply_text a.motors c.if-motors-eq0.false)
    (writes_then c.word.ensures (writes_then c.number.ensures c.word-2.ensures))
