-- `Sums::raise` meets its contract. Assumes nothing.
use Prim.Native.Nat.{ℕ, suc, ◌+◌, ◌-◌, max}
use native.Mathlib.Omega.{arith}
use mathlib.Core.Path.{◌≡◌, refl, ◌∙◌, ap}
use Rattle.laws.specs.Lists.{at}
use Rattle.placing.proofs.grants.Arrays.{past_none, past_more, past_all}
use Rattle.placing.proofs.sums.Sums.raise.Goals as goal

pub of_others-others-requires : goal.of_others-others-requires
of_others-others-requires c = let r = c.loop-r.r in
    let e : r - 1 + 1 ≡ r = omega arith in
    let d : suc (r - 1) ≡ r = omega arith in
    rw e (omega (arith, c.requires.part (r - 1) (omega arith), c.loop-r.invariant.0.as_were r (omega arith), ap (at c.args.self.now.largest) d))

pub loop-r-init : goal.loop-r-init
loop-r-init c = (past_none c.args.self.now.largest c.args.need c.args.top c.requires.long, refl)

pub overflow_add-others : goal.overflow_add-others
overflow_add-others c = let r = c.loop-r.r in
    omega (arith, c.requires.low (r - 1) (omega arith), c.loop-r.invariant.0.as_were (r - 1) (omega arith), c.of_others-others.ensures)

pub loop-r-preserved : goal.loop-r-preserved
loop-r-preserved c = let a = c.args in
    let r = c.loop-r.r in
    let e : r - 1 + 1 ≡ r = omega arith in (
      rw e (past_more a.self.now.largest a.need a.top r (r - 1) _ c.loop-r.self.largest (omega arith) (omega arith) c.loop-r.invariant.0
          (c.max.ensures ∙ rw e (ap (λ (o : ℕ). max (at c.loop-r.self.largest r) (o + a.top)) (rw e at c.of_others-others.ensures)))),
      c.loop-r.invariant.1,
    )

pub overflow_sub-self : goal.overflow_sub-self
overflow_sub-self c = omega (arith, c.loop-r.invariant.1)

pub overflow_add-self-2 : goal.overflow_add-self-2
overflow_add-self-2 c = omega (arith, c.loop-r.invariant.1)

pub returns : goal.returns
returns c = (past_all c.args.self.now.largest c.args.need c.args.top c.loop-r.r c.loop-r.self.largest (omega arith) c.loop-r.invariant.0, omega (arith, c.loop-r.invariant.1))
