-- `listing::write_answer` meets its contract. Assumes nothing.
use Rattle.std.proofs.Common.{rules}
use Rattle.station.proofs.Theorems.{writes_out}
use Rattle.frame.specs.Types.{answer_in}
use Rattle.frame.specs.Listing.{answer_line}
use Rattle.frame.proofs.listing.OneLine.{line_short, line_whole}
use Rattle.frame.proofs.listing.write_answer.Goals as goal

pub returns-then-out-lt-LEAST_OUTPUT : goal.returns-then-out-lt-LEAST_OUTPUT
returns-then-out-lt-LEAST_OUTPUT c = let a = c.args in line_short _ (answer_line a.line (answer_in a.answer)) a.out.now c.if-out-lt-LEAST_OUTPUT.true

pub returns : goal.returns
returns c = let a = c.args in
    line_whole (answer_line a.line (answer_in a.answer)) a.out.now c.if-out-lt-LEAST_OUTPUT.false c.answer_line.ensures.fits (writes_out c.answer_line.ensures.wrote c.new-writer.ensures.bytes c.new-writer.ensures.place (search rules) c.place.ensures)
