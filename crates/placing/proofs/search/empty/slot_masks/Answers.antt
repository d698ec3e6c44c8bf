-- `search::empty::slot_masks` meets its contract: the slots passed are filled in, and those up to
-- the clock have nothing. Assumes nothing.
use Prim.Native.Nat.{ℕ, ◌+◌, ◌*◌, ◌-◌, ◌≤◌, min}
use native.Mathlib.Omega.{arith}
use mathlib.Core.Path.{◌≡◌, refl, sym, ◌∙◌, ap}
use lib.ListN.{length-set}
use Rattle.laws.proofs.Stores.{stored_none, stored_more, stored_zeros, zeros}
use Rattle.placing.specs.method.Search.{first_slot, held_from}
use Rattle.placing.proofs.search.Parts.{slot_mask_before, slot_mask_from}
use Rattle.placing.proofs.search.empty.slot_masks.Goals as goal

pub loop-s-init : goal.loop-s-init
loop-s-init c = let a = c.args in
    let start : min c.first_slot-s.result a.grid.now.slots ≡ min (first_slot a.clock) a.grid.now.slots = omega (arith, c.first_slot-s.ensures) in (
      omega arith,
      record {
        done = λ q low l. zeros 64 q ∙ sym (slot_mask_before a.grid.now.cells.now a.grid.now.bridges a.clock q (omega (arith, c.first_slot-s.ensures)));
        under = λ q l. refl;
        rest = λ q l. refl;
      },
      rw (start) (stored_none a.spare.now (λ q. a.grid.now.fed - held_from a.grid.now.cells.now (q * a.grid.now.bridges) a.grid.now.bridges) (min (first_slot a.clock) a.grid.now.slots)),
    )

pub loop-s-preserved : goal.loop-s-preserved
loop-s-preserved c = let a = c.args in
    let s = c.loop-s.s in
    let here : min s a.grid.now.slots ≡ s = omega arith in
    let next : min (s + 1) a.grid.now.slots ≡ s + 1 = omega arith in
    let found = c.found_in-found.ensures in
    let from : first_slot a.clock ≤ s = omega (arith, c.loop-s.auto.s, c.first_slot-s.ensures, c.loop-s-test.true) in
    let l = rw here at c.loop-s.invariant in (
      simp length-set l.0,
      rw next (stored_more l.1 (omega arith) (omega arith) (found.0 ∙ sym (slot_mask_from a.grid.now.cells.now a.grid.now.bridges a.clock s from))),
      rw next (stored_more l.2 (omega (arith, from)) (omega arith) (c.saturating_sub.ensures ∙ ap (λ (n : ℕ). a.grid.now.fed - n) found.1)),
    )

pub returns : goal.returns
returns c = let a = c.args in
    let end : min c.loop-s.s a.grid.now.slots ≡ a.grid.now.slots = omega arith in
    let l = rw end at c.loop-s.invariant in
    (stored_zeros 64 l.1, λ s low few. l.2.done s (omega (arith, low)) few)
