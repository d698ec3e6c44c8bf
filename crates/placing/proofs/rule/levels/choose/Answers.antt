-- `choose` meets its contract. The loop's invariant: of all needs that the levels may stand for, those above level l have been served. Assumes nothing.
use Prim.Native.Nat.{◌-◌}
use native.Mathlib.Omega.{arith}
use mathlib.Core.Logic.{inl, inr}
use lib.ListN.{length-set}
use Rattle.laws.specs.Placement.{tie_hold}
use Rattle.station.specs.Head.{has_bit}
use Rattle.placing.proofs.rule.levels.LevelsDone.{gone_none, gone_empty, gone_more, gone_all}
use Rattle.placing.proofs.rule.levels.choose.Goals as goal

pub loop-l-init : goal.loop-l-init
loop-l-init c = let a = c.args in (omega arith, c.requires.1, λ n h most. gone_none (tie_hold 0 (has_bit a.held)) n a.d a.levels.now a.top h most)

pub returns-then-rest-eq0 : goal.returns-then-rest-eq0
returns-then-rest-eq0 c = let l = c.loop-l in
    let a = c.args in
    let first = c.first_held-first in (
      simp length-set l.invariant.1,
      λ n h most.
          let tie = tie_hold 0 (has_bit a.held) in
          let so_far = gone_more tie n a.d l.levels l.l l.rest l.served (omega arith) (l.invariant.2 n h most) (omega arith) first.result.jobs first.ensures.0 first.ensures.1 l.invariant.1 in
          record { picks = gone_all tie n a.d _ (l.l - 1) _ _ (omega arith) so_far (inr c.if-rest-eq0.true); levels = so_far.levels },
    )

pub loop-l-smaller : goal.loop-l-smaller
loop-l-smaller c = omega (arith, c.highest-l.ensures.0)

pub loop-l-preserved : goal.loop-l-preserved
loop-l-preserved c = let l = c.loop-l in
    let a = c.args in
    let first = c.first_held-first in (
      omega (arith, c.highest-l.ensures.0),
      simp length-set l.invariant.1,
      λ n h most.
          let tie = tie_hold 0 (has_bit a.held) in
          let so_far = gone_more tie n a.d l.levels l.l l.rest l.served (omega arith) (l.invariant.2 n h most) (omega arith) first.result.jobs first.ensures.0 first.ensures.1 l.invariant.1 in
          gone_empty tie n a.d _ (l.l - 1) _ _ (omega arith) so_far c.highest-l.result c.highest-l.ensures.0 c.highest-l.ensures.1,
    )

pub returns : goal.returns
returns c = let l = c.loop-l in
    let a = c.args in (
      l.invariant.1,
      λ n h most.
          let so_far = l.invariant.2 n h most in
          record { picks = gone_all (tie_hold 0 (has_bit a.held)) n a.d l.levels l.l l.rest l.served (omega arith) so_far (inl (omega arith)); levels = so_far.levels },
    )
