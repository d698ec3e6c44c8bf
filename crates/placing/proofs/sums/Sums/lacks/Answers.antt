-- `Sums::lacks` meets its contract. Assumes nothing.
use native.Mathlib.Omega.{arith}
use mathlib.Core.Path.{◌≡◌, sym, ◌∙◌}
use borrow.Author.Count.{below_more}
use Rattle.laws.specs.Lists.{at}
use Rattle.laws.specs.method.Capacities.{capacity_from}
use Rattle.laws.proofs.Comparisons.{leb_yes}
use Rattle.laws.proofs.Loops.{sum_none, sum_more}
use Rattle.laws.proofs.Excess.{over_some, over_total}
use Rattle.placing.proofs.sums.Sums.lacks.Goals as goal

pub loop-r-init : goal.loop-r-init
loop-r-init c = (omega arith, omega (arith, sum_none (at c.args.entries.now)), λ q low. absurd (omega arith))

pub returns-then-enough-self : goal.returns-then-enough-self
returns-then-enough-self c = let a = c.args in
    sym (over_some (at a.self.now.largest) a.self.now.total (capacity_from a.entries.now) a.short c.loop-r.r (omega arith) (omega (arith, c.loop-r.invariant.1, c.if-enough-self.true)))

pub loop-r-preserved : goal.loop-r-preserved
loop-r-preserved c = let l = c.loop-r in (
  omega (arith, c.from-enough.ensures),
  omega (arith, l.invariant.1, sum_more l.r (at c.args.entries.now), c.from-enough.ensures),
  below_more _ _ l.invariant.2 (omega (arith, l.invariant.1, c.if-enough-self.false)),
)

pub returns-then-enough-self-2 : goal.returns-then-enough-self-2
returns-then-enough-self-2 c = let a = c.args in
    let l = c.loop-r in
    let end : l.r ≡ 8 = omega arith in
    let whole = rw end at l.invariant.1 in
    leb_yes _ _ c.if-enough-self-2.true
    ∙ sym (over_some (at a.self.now.largest) a.self.now.total (capacity_from a.entries.now) a.short 8 (omega arith) (omega (arith, whole, c.if-enough-self-2.true)))

pub returns-else-enough-self-2 : goal.returns-else-enough-self-2
returns-else-enough-self-2 c = let a = c.args in
    let l = c.loop-r in
    let end : l.r ≡ 8 = omega arith in
    let whole = rw end at l.invariant.1 in
    over_total (at a.self.now.largest) a.self.now.total (capacity_from a.entries.now) a.short c.requires.0
    (λ q low. below_more _ 8 (λ p few. l.invariant.2 p (omega arith)) (omega (arith, whole, c.if-enough-self-2.false)) q (omega arith)) whole
