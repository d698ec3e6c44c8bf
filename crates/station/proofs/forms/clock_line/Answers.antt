-- `clock_line` meets its contract: it is a word, a number and the end of the line.
-- Assumes nothing.
use mathlib.Core.Path.{sym, ◌∙◌, ap}
use Rattle.station.specs.Text.{bytes}
use Rattle.station.specs.Form.{clock_line, clock_in}
use Rattle.station.specs.method.ReadLine.{line_in}
use Rattle.station.proofs.numbers.Recognised.{lone_value, lone_yes, lone_no}
use Rattle.station.proofs.forms.clock_line.Goals as goal

pub returns-in_err-lone_number : goal.returns-in_err-lone_number
unfolding bytes clock_in
returns-in_err-lone_number c = λ hi.
    c.from_residual.ensures ∙ ap (line_in hi) (sym (lone_no c.args.line.now (bytes "(clock ") clock_line c.in_err-lone_number.ensures))

pub returns : goal.returns
unfolding bytes clock_in
returns c = λ hi.
    let n = c.in_ok-lone_number in
    let t = c.args.line.now in
    rw (lone_value t (bytes "(clock ") _ n.ensures) (ap (line_in hi) (sym (lone_yes t (bytes "(clock ") clock_line _ n.ensures)))
