-- `counts::mark` meets its contract: a law for each answer. Assumes nothing.
use mathlib.Core.Path.{sym, ◌∙◌}
use Rattle.placing.proofs.counts.MarkedNumbers.{mark_other, mark_again, mark_new}
use Rattle.placing.proofs.counts.mark.Goals as goal
use Rattle.placing.proofs.counts.mark.Goals.{then-not-is_call-via-then-not-is_call, then-not-is_call-via-else-not-is_call+then-used-n}

pub returns-then-not-is_call : goal.returns-then-not-is_call
returns-then-not-is_call c = let a = c.args in
    elim c.then-not-is_call.branch [
      | then-not-is_call-via-then-not-is_call w ↦ mark_other a.v a.used.now (sym c.is_call.ensures ∙ w.if-not-is_call.true)
      | then-not-is_call-via-else-not-is_call+then-used-n w ↦ mark_again a.v a.used.now c.requires (sym c.is_call.ensures ∙ w.if-not-is_call.false) (rw c.number_in-n.ensures.0 at w.if-used-n.true)
    ]

pub returns : goal.returns
returns c = rw c.number_in-n.ensures.0
    (mark_new c.args.v c.args.used.now c.requires (sym c.is_call.ensures ∙ c.if-not-is_call.false)
    (rw c.number_in-n.ensures.0 at c.if-used-n.false))
