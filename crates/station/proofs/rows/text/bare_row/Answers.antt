-- `rows::text::bare_row` meets its contract. Assumes nothing.
use Rattle.station.specs.Text.{bytes}
use Rattle.station.specs.Row.{print_row}
use Rattle.station.proofs.output.Runs.{writes_then}
use Rattle.station.proofs.rows.text.bare_row.Goals as goal

pub returns : goal.returns
unfolding print_row bytes
returns c = writes_then c.number.ensures
    (writes_then c.put.ensures
    (writes_then c.number-2.ensures
    (writes_then c.put-2.ensures
    (writes_then c.number-3.ensures c.word.ensures))))
