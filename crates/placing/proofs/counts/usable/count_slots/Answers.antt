-- `counts::usable::count_slots` meets its contract: beyond the limits it promises nothing. The loop's invariant: the slots before `s` are entered, of which those up to the clock are in no entry. Assumes nothing.
use native.Mathlib.Omega.{arith}
use mathlib.Core.Path.{sym, ◌∙◌}
use Rattle.laws.proofs.Capacities.{at_least_le, at_least_on}
use Rattle.placing.proofs.counts.usable.UsableCells.{slot_from, entries_before}
use Rattle.placing.proofs.counts.usable.count_slots.Goals as goal

pub loop-s-init : goal.loop-s-init
loop-s-init c = let g = c.in-Some.grid in entries_before g.cells.now g.bridges g.fed c.args.clock c.first_slot-s.result (omega (arith, c.first_slot-s.ensures))

pub enter_slot-requires : goal.enter_slot-requires
enter_slot-requires c = let was = c.loop-s.invariant in (was.long, λ r low. omega (arith, at_least_le was r low, c.loop-s-test.true, c.in-Some.grid.few_slots))

pub loop-s-preserved : goal.loop-s-preserved
loop-s-preserved c = let l = c.loop-s in
    let g = c.in-Some.grid in
    let own = c.usable_in.ensures.0 ∙ sym (slot_from g.cells.now g.bridges g.fed c.args.clock l.s (omega (arith, l.auto.s, c.first_slot-s.ensures, c.loop-s-test.true))) in
    at_least_on l.invariant own c.enter_slot.ensures.0 c.enter_slot.ensures.1
