-- `all_distinct` meets its contract: a number that is met again, or one number more that is marked.
use Rattle.std.proofs.Common.{arith, sym}
use Rattle.station.proofs.check.ValidRecord.{marked_none, marked_fault, marked_more}
use Rattle.station.proofs.check.all_distinct.Goals as goal

pub loop-preset-init : goal.loop-preset-init
loop-preset-init c = marked_none

pub returns-then-marked-n : goal.returns-then-marked-n
returns-then-marked-n c = let loop = c.loop-preset in
    sym (marked_fault c.args.presets.now loop.preset-index c.loop-preset-test.true loop.marked loop.invariant (omega arith) (rw c.from-n.ensures at c.if-marked-n.true))

pub loop-preset-preserved : goal.loop-preset-preserved
loop-preset-preserved c = let loop = c.loop-preset in
    rw c.from-n.ensures
    (marked_more c.args.presets.now loop.preset-index c.loop-preset-test.true loop.marked loop.invariant (omega arith) (rw c.from-n.ensures at c.if-marked-n.false))
