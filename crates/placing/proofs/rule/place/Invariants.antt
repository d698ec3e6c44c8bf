-- `place` meets its contract. The loop's invariant: the slots before s are placed, `levels` has the needs that are left, `due` what is due of the first slots and `held` who
-- goes first among equal ones, for all needs that the levels may have stood for at first. Assumes nothing.
use Prim.Native.Nat.{ℕ, ◌≤◌, ◌<◌}
use mathlib.Core.Path.{◌≡◌}
use mathlib.Core.List.{List}
use lib.ListN.{length, take}
use Rattle.laws.specs.Lists.{at}
use Rattle.placing.specs.method.Rule.{Levelled, CleanFrom, Fillable}
use Rattle.placing.proofs.rule.SlotsPlaced.{Progress}
use Rattle.placing.proofs.rule.place.Given as goal

abbrev pub invariant-loop-s : goal.invariant-loop-s
invariant-loop-s l = (l.s ≤ l.head.slots)
    × (l.head.slots ≤ 64)
    × (l.head.bridges ≤ 8)
    × (l.work.count ≤ 64)
    × (512 ≤ length l.initial.table)
    × (length l.table ≡ length l.initial.table)
    × (length l.due ≡ 64)
    × (length l.levels ≡ 65)
    × (l.top < 65)
    × ((n : List ℕ) → l.work.count ≤ length n → Levelled l.initial.levels (at (take l.work.count n)) → ((i : ℕ) → i < l.work.count → at n i ≤ l.initial.top)
    → CleanFrom l.clean l.head.slots l.head.bridges l.offer.free l.initial.table → Fillable l.head.slots l.head.bridges l.offer.free l.offer.counts
    → Progress l.hold l.head.bridges l.offer.free l.offer.counts (take l.work.count n) l.initial.due l.work.early l.work.late l.initial.table l.work.count l.s l.table l.due l.levels l.top l.held)
