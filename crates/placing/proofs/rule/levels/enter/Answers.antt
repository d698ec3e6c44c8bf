-- `enter` meets its contract. The loop's invariant: the first i jobs stand in their levels, none of them above `top`. Assumes nothing.
use Prim.Native.Nat.{ℕ, ◌≤◌, ◌*◌, ◌%◌, ◌^◌}
use native.Mathlib.Omega.{arith}
use mathlib.Core.Path.{◌≡◌, ◌∙◌, ap}
use mathlib.Core.List.{List}
use lib.ListN.{length, length-set}
use lib.Pow.{pow_mono}
use Rattle.laws.specs.Lists.{at}
use Rattle.station.specs.Head.{has_bit}
use Rattle.placing.proofs.rule.levels.ByLevel.{standing_none, standing_more, most_more}
use Rattle.placing.proofs.rule.levels.enter.Goals as goal

pub loop-i-init : goal.loop-i-init
loop-i-init c = let a = c.args in (
  ap length c.requires.2,
  λ l j. ap (λ (t : List ℕ). has_bit (at t l) j) c.requires.2 ∙ standing_none a.needs.now l j,
  omega arith,
  λ j h. absurd (omega arith),
)

pub loop-i-preserved : goal.loop-i-preserved
loop-i-preserved c = let l = c.loop-i in
    let n = c.args.needs.now in
    let few : l.i ≤ 63 = omega arith in
    let low : 2 ^ l.i ≤ 2 ^ 63 = pow_mono few in
    let power : 1 * 2 ^ l.i % 18446744073709551616 ≡ 2 ^ l.i = omega arith in
    let here = c.requires.1 l.i (omega arith) in (
      simp length-set l.invariant.0,
      rw (power, c.from-l.ensures) (standing_more n l.levels l.i (omega (arith, here, l.invariant.0)) l.invariant.1),
      omega (arith, here),
      most_more (at n) l.i l.top _ l.invariant.3 (omega arith) (omega arith),
    )

pub returns : goal.returns
returns c = let l = c.loop-i in
    let end : l.i ≡ c.args.k = omega arith in
    (l.invariant.0, rw end at l.invariant.1, l.invariant.2, rw end at l.invariant.3)
