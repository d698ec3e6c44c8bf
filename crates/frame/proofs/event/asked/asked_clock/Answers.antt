-- `event::asked::asked_clock` meets its contract: a law for each answer. Assumes nothing.
use mathlib.Core.Path.{sym, ◌∙◌}
use Rattle.frame.proofs.event.EventAnswers.{clock_out, clock_below, clock_set_lem}
use Rattle.frame.proofs.event.asked.asked_clock.Goals as goal

pub returns-then-not-clock_in : goal.returns-then-not-clock_in
returns-then-not-clock_in c = let a = c.args in
    clock_out a.slots a.moment.now.clock a.to a.moment.now.hold (sym c.clock_in.ensures ∙ c.if-not-clock_in.true)

pub returns-then-to-moment : goal.returns-then-to-moment
returns-then-to-moment c = let a = c.args in
    clock_below a.slots a.moment.now.clock a.to a.moment.now.hold (sym c.clock_in.ensures ∙ c.if-not-clock_in.false) c.if-to-moment.true

pub returns : goal.returns
returns c = let a = c.args in
    clock_set_lem a.slots a.moment.now.clock a.to a.moment.now.hold (sym c.clock_in.ensures ∙ c.if-not-clock_in.false) c.if-to-moment.false
