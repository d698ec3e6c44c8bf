-- `counts::usable::count_slots` meets its contract: beyond the limits it promises nothing. The loop's invariant: the slots before `s` are entered, of which those up to the clock are in no entry. Assumes nothing.
use Rattle.laws.specs.method.Capacities.{AtLeast}
use Rattle.placing.specs.method.Counts.{slot_free}
use Rattle.placing.proofs.counts.usable.count_slots.Given as goal

abbrev pub invariant-loop-s : goal.invariant-loop-s
invariant-loop-s l = AtLeast l.entries l.s (slot_free l.grid.cells.now l.grid.bridges l.grid.fed l.clock)
