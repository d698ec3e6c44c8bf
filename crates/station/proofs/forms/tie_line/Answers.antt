-- `tie_line` meets its contract: hold, place or neither.
-- Assumes nothing.
use mathlib.Core.Path.{sym, ◌∙◌, ap}
use Rattle.station.specs.Text.{bytes}
use Rattle.station.specs.method.ReadLine.{line_in}
use Rattle.station.proofs.forms.LineForms.{tie_hold_lem, tie_other}
use Rattle.station.proofs.forms.tie_line.Goals as goal

pub returns-then-closes_at : goal.returns-then-closes_at
unfolding bytes
returns-then-closes_at c = λ hi.
    ap (line_in hi) (sym (tie_hold_lem _ (sym c.closes_at.ensures ∙ c.if-closes_at.true)))

pub returns : goal.returns
unfolding bytes
returns c = λ hi.
    c.then_some.ensures ∙ tie_other c.args.line.now hi (sym c.closes_at.ensures ∙ c.if-closes_at.false) _ c.closes_at-2.ensures
