-- `search::taking::through_chain` meets its contract: what remains of the walk is the rest of the
-- chain. Assumes nothing.
use native.Mathlib.Omega.{arith}
use Rattle.placing.proofs.search.links.Chains.{left_after, left_none, left_done}
use Rattle.placing.proofs.search.taking.through_chain.Goals as goal

pub returns-then-search-eq0 : goal.returns-then-search-eq0
returns-then-search-eq0 c = (c.loop-at.invariant.1, λ of C. left_done (c.loop-at.invariant.2 of C) c.loop-at.invariant.1 c.if-search-eq0.true)

pub loop-at-preserved : goal.loop-at-preserved
loop-at-preserved c = let left = rw c.in-Some.is at c.loop-at.invariant in (
  omega (arith, c.requires.1.down c.from-place.result, left.0),
  c.try_cell.ensures.stands,
  λ of C. left_after (rw (← c.from-place.ensures) at left.2 of C) c.try_cell.ensures,
)

pub returns : goal.returns
returns c = let left = rw c.in_default.is at c.loop-at.invariant in (c.loop-at.invariant.1, λ of C. left_none (left.2 of C) c.loop-at.invariant.1)
