-- `counts::Counts::pass_slots` meets its contract: beyond the limits it promises nothing. Assumes nothing.
use native.Mathlib.Omega.{arith}
use Prim.Native.Nat.{ℕ, min}
use mathlib.Core.Path.{◌≡◌, refl, subst}
use Rattle.laws.specs.method.Capacities.{AtLeast}
use Rattle.placing.specs.method.Counts.{slot_free}
use Rattle.placing.proofs.counts.usable.UsableCells.{pass_slot, entries_past}
use Rattle.placing.proofs.counts.Counts.pass_slots.Goals as goal

pub loop-s-init : goal.loop-s-init
loop-s-init c = let g = c.in-Some.grid in
    (refl, refl, λ up right. rw c.first_slot-s.ensures ((entries_past g.cells.now g.slots g.bridges g.fed c.args.from).0 right))

pub loop-s-preserved : goal.loop-s-preserved
loop-s-preserved c = let l = c.loop-s in
    let g = c.in-Some.grid in (
      l.invariant.0,
      l.invariant.1,
      λ up right.
          let r = l.invariant.2 up right in
          pass_slot g.cells.now g.slots g.bridges g.fed l.s (omega (arith, c.loop-s-test.true, c.first_slot-s-end.ensures)) r
          c.usable_in.ensures.0 c.leave_slot.ensures.0 (c.leave_slot.ensures.1 r.long),
    )

pub returns-clause-passed : goal.returns-clause-passed
returns-clause-passed c = λ e up.
    let l = c.loop-s in
    let a = c.args in
    let g = c.in-Some.grid in
    let of = c.in-Some.ensures in
    let same : l.s ≡ min a.to g.slots = omega (arith, up, l.auto.s-end, c.loop-s-test.false, c.first_slot-s.ensures, c.first_slot-s-end.ensures) in
    rw (of.cells, of.slots, of.bridges, of.fed) at (λ (right : AtLeast c.args.self.now.at_least g.slots (slot_free g.cells.now g.bridges g.fed a.from)). (entries_past g.cells.now g.slots g.bridges g.fed a.to).1
    (subst (λ (k : ℕ). AtLeast l.self.at_least g.slots (slot_free g.cells.now g.bridges g.fed k)) same (l.invariant.2 up right)))
