-- `rule::placeable` meets its contract: a law for each answer. Assumes nothing.
use mathlib.Core.Path.{sym, ◌∙◌}
use Rattle.laws.proofs.Tests.{clash}
use Rattle.laws.proofs.Comparisons.{leb_no}
use Rattle.placing.proofs.rule.SlotsPlaced.{jobs_over, needs_over, all_but_frame}
use Rattle.placing.proofs.rule.placeable.Goals as goal
use Rattle.placing.proofs.rule.placeable.Goals.{then-work-le-MOST_PLACED, else-work-le-MOST_PLACED}

pub returns-then-needs_in : goal.returns-then-needs_in
returns-then-needs_in c = let h = c.args.head.now in
    let w = c.args.work.now in
    elim c.if-work-le-MOST_PLACED.branch [
      | then-work-le-MOST_PLACED b ↦
          c.in_limits.ensures
          ∙ sym (all_but_frame h.slots h.bridges w.needs w.count c.args.cells b.if-work-le-MOST_PLACED.true (sym b.needs_in.ensures ∙ sym b.value-is ∙ c.if-needs_in.true))
      | else-work-le-MOST_PLACED b ↦ absurd (clash (sym c.if-needs_in.true ∙ b.value-is ∙ leb_no w.count 64 b.if-work-le-MOST_PLACED.false))
    ]

pub returns-else-needs_in : goal.returns-else-needs_in
returns-else-needs_in c = let h = c.args.head.now in
    let w = c.args.work.now in
    elim c.if-work-le-MOST_PLACED.branch [
      | then-work-le-MOST_PLACED b ↦
          c.if-needs_in.false
          ∙ sym (needs_over h.slots h.bridges w.needs w.count c.args.cells (sym b.needs_in.ensures ∙ sym b.value-is ∙ c.if-needs_in.false))
      | else-work-le-MOST_PLACED b ↦ c.if-needs_in.false ∙ sym (jobs_over h.slots h.bridges w.needs w.count c.args.cells b.if-work-le-MOST_PLACED.false)
    ]
