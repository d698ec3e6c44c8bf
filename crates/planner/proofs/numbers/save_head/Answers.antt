-- `numbers::save_head` meets its contract: each number goes to its place. Assumes nothing.
use Rattle.planner.proofs.Steps.{head_written}
use Rattle.planner.proofs.numbers.save_head.Goals as goal

pub returns : goal.returns
returns c = let a = c.args in
    head_written a.head a.clock a.frame.now c.set_value.ensures c.set_value-2.ensures c.set_value-3.ensures c.set_value-4.ensures c.save_masks.ensures c.set_value-5.ensures
