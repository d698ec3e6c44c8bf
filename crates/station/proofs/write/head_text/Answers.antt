-- `write::head_text` meets its contract. Assumes nothing.
use Rattle.station.specs.Types.{station_in}
use Rattle.station.proofs.write.HeadLines.{head_text}
use Rattle.station.proofs.output.Runs.{writes_then}
use Rattle.station.proofs.write.head_text.Goals as goal

pub returns : goal.returns
returns c = let a = c.args in
    rw (head_text (station_in a.station.now))
    (writes_then c.frame_line.ensures
    (writes_then c.supply_line.ensures (writes_then c.tie_line.ensures (writes_then c.busy_lines.ensures c.preset_lines.ensures))))
