-- `Sums::excess` meets its contract. Assumes nothing.
use Prim.Native.Nat.{ℕ, ◌-◌, max}
use native.Mathlib.Omega.{arith}
use mathlib.Core.Path.{◌≡◌, sym, ◌∙◌, ap, ap₂}
use Rattle.laws.specs.Lists.{at}
use Rattle.laws.specs.method.Capacities.{capacity_from}
use Rattle.laws.proofs.Loops.{sum_none, sum_more, greatest_none, greatest_more}
use Rattle.placing.proofs.sums.Sums.excess.Goals as goal

pub loop-r-init : goal.loop-r-init
loop-r-init c = let a = c.args in
    let none = sum_none (at a.entries.now) in
    (omega arith, sym none, omega (arith, none, greatest_none (λ q. at a.self.now.largest q - capacity_from a.entries.now q)))

pub loop-r-preserved : goal.loop-r-preserved
loop-r-preserved c = let a = c.args in
    let r = c.loop-r.r in
    let more = sum_more r (at a.entries.now) in (
      omega (arith, c.from-capacity.ensures),
      omega (arith, more, c.from-capacity.ensures),
      omega (arith, more, c.from-capacity.ensures, c.max-most.ensures, c.saturating_sub.ensures, greatest_more r (λ q. at a.self.now.largest q - capacity_from a.entries.now q)),
    )

pub returns : goal.returns
returns c = let a = c.args in
    let l = c.loop-r in
    let e : l.r ≡ 8 = omega arith in
    let most = rw e at l.invariant.2 in
    let room = rw e at l.invariant.1 in
    c.max.ensures ∙ ap₂ max most (c.saturating_sub-2.ensures ∙ ap (λ (y : ℕ). a.self.now.total - y) room)
