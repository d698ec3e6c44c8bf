-- `capacities::slot_counts` meets its contract. Assumes nothing.
use Prim.Native.Nat.{ℕ}
use native.Mathlib.Omega.{arith}
use mathlib.Core.Path.{◌≡◌, sym, ◌∙◌, ap}
use lib.ListN.{length-set, replicate}
use lib.Dec.{ltb}
use Rattle.laws.specs.Sums.{only}
use Rattle.laws.specs.Lists.{at}
use Rattle.laws.proofs.Stores.{stored_none, stored_more, stored_zeros}
use Rattle.laws.proofs.Capacities.{at_least_none, at_least_le, at_least_on, at_least_ext}
use Rattle.placing.proofs.capacities.slot_counts.Invariants.{number_at}
use Rattle.placing.proofs.capacities.slot_counts.Goals as goal

pub loop-s-init : goal.loop-s-init
loop-s-init c = let x : ℕ → ℕ = number_at c.args.masks.now c.args.spare.now in
    (omega arith, stored_none (replicate 64 0) x 0, rw c.requires.1 (at_least_none 0 x (λ s l. absurd (omega arith))))

pub enter_slot-requires : goal.enter_slot-requires
enter_slot-requires c = let l = c.loop-s in
    (l.invariant.2.long, λ r low. omega (arith, at_least_le l.invariant.2 r low, c.requires.0))

pub loop-s-preserved : goal.loop-s-preserved
loop-s-preserved c = let l = c.loop-s in
    let right : c.min-free.result ≡ number_at c.args.masks.now c.args.spare.now l.s = omega arith in (
      simp length-set l.invariant.0,
      stored_more l.invariant.1 (omega arith) (omega arith) right,
      at_least_on l.invariant.2 right c.enter_slot.ensures.0 c.enter_slot.ensures.1,
    )

pub returns : goal.returns
returns c = let x : ℕ → ℕ = number_at c.args.masks.now c.args.spare.now in
    let end : c.loop-s.s ≡ c.args.slots = omega arith in
    let l = c.loop-s in (
      λ s. stored_zeros 64 l.invariant.1 s ∙ ap (λ (n : ℕ). only (ltb s n) (x s)) end,
      at_least_ext (rw end at l.invariant.2) (at l.out) (λ s m. sym (l.invariant.1.done s (omega arith) (omega (arith, end, m)))),
    )
