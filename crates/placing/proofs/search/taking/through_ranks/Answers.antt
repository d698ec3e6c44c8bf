-- `search::taking::through_ranks` meets its contract: what remains of the walk has the outcome of
-- the whole. Assumes nothing.
use Prim.Native.Nat.{ℕ, ◌-◌}
use native.Mathlib.Omega.{arith}
use mathlib.Core.Path.{◌≡◌, ◌∙◌, ap}
use Rattle.placing.specs.Call.{downward}
use Rattle.placing.proofs.search.taking.CellByCell.{remains_after, remains_none, remains_done, downward_none, downward_less}
use Rattle.placing.proofs.search.taking.through_ranks.Goals as goal

pub returns-then-search-eq0 : goal.returns-then-search-eq0
returns-then-search-eq0 c = λ of C. let a = c.args in
    remains_done a.demand.now (downward a.n of) a.search.now (downward c.loop-r.r of) c.loop-r.search (c.loop-r.invariant.1 of C) c.loop-r.invariant.0 c.if-search-eq0.true

pub loop-r-preserved : goal.loop-r-preserved
loop-r-preserved c = let a = c.args in
    let r = c.loop-r.r in (
      c.through_chain.ensures.0,
      λ of C. remains_after a.demand.now (downward a.n of) a.search.now (downward r of) c.loop-r.search (c.loop-r.invariant.1 of C) (of (r - 1)) (downward (r - 1) of)
          (downward_less r of c.loop-r-test.true) (c.through_chain.ensures.1 of C),
    )

pub returns : goal.returns
returns c = λ of C. let a = c.args in
    let end : c.loop-r.r ≡ 0 = omega arith in
    remains_none a.demand.now (downward a.n of) a.search.now (downward c.loop-r.r of) c.loop-r.search (c.loop-r.invariant.1 of C) c.loop-r.invariant.0
    (ap (λ (m : ℕ). downward m of) end ∙ downward_none of)
