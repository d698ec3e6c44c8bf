-- `Sums::highest` meets its contract. Assumes nothing.
use Prim.Native.Nat.{ℕ, suc, ◌+◌, ◌-◌, min}
use native.Mathlib.Numerals.{add-one}
use native.Mathlib.Omega.{arith}
use mathlib.Core.Path.{◌≡◌, refl, sym, ◌∙◌, ap₂}
use Rattle.laws.specs.Lists.{at}
use Rattle.laws.specs.method.Capacities.{capacity_from}
use Rattle.laws.proofs.Loops.{sum_none, sum_more, lowest_more, lowest_none}
use Rattle.placing.specs.method.Grants.{other_sum}
use Rattle.placing.proofs.sums.Sums.highest.Goals as goal

pub loop-r-init : goal.loop-r-init
loop-r-init c = (omega arith, sym (sum_none (at c.args.entries.now)), sym (lowest_none _ _))

pub loop-r-preserved : goal.loop-r-preserved
loop-r-preserved c = let a = c.args in
    let l = c.loop-r in
    let r = l.r in
    let f : ℕ → ℕ = λ q. capacity_from a.entries.now (suc q) - other_sum a.self.now.largest a.need q in
    let more : l.capacity + c.from-capacity.result ≡ capacity_from a.entries.now (r + 1) = omega (arith, sum_more r (at a.entries.now), c.from-capacity.ensures) in
    let left : c.saturating_sub.result ≡ f r =
    c.saturating_sub.ensures ∙ ap₂ (λ (x y : ℕ). x - y) more c.of_others-others.ensures ∙ rw (add-one r) refl in
    (omega (arith, c.from-capacity.ensures), more, c.min-least.ensures ∙ ap₂ min l.invariant.2 left ∙ sym (lowest_more r f _))
