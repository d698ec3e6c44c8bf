-- `counts::has_calls` meets its contract. The loop's invariant: the call cells before `b` are counted. Assumes nothing.
use native.Mathlib.Omega.{arith}
use Prim.Native.Nat.{◌+◌}
use mathlib.Core.Path.{sym}
use lib.ListN.{get_or}
use Rattle.laws.specs.Sums.{bit}
use Rattle.laws.proofs.Loops.{sum_none, sum_more}
use Rattle.placing.specs.Table.{is_call}
use Rattle.placing.proofs.OneBit.{one_bit}
use Rattle.placing.proofs.counts.has_calls.Goals as goal

pub loop-b-init : goal.loop-b-init
loop-b-init c = let a = c.args in (omega arith, sym (sum_none (λ j. bit (is_call (get_or a.grid.now.cells.now (c.start-from.result + j) 0)))))

pub loop-b-preserved : goal.loop-b-preserved
loop-b-preserved c = let l = c.loop-b in
    let a = c.args in
    let one = one_bit _ _ c.from-calls.ensures c.is_call.ensures in
    (omega (arith, one.1), omega (arith, l.invariant.1, one.0, sum_more l.b (λ j. bit (is_call (get_or a.grid.now.cells.now (c.start-from.result + j) 0)))))
