-- One less in the entries passed up to the slot's free bridges.
use Prim.Native.Nat.{◌-◌}
use mathlib.Core.Path.{◌≡◌}
use lib.ListN.{length, get_or}
use lib.Dec.{ltb}
use Rattle.laws.specs.Sums.{bit}
use Rattle.laws.proofs.Stores.{Stored}
use Rattle.placing.proofs.capacities.leave_slot.Given as goal

abbrev pub invariant-loop-r : goal.invariant-loop-r
invariant-loop-r l = (length l.entries ≡ 8) × Stored l.initial.entries (λ q. get_or l.initial.entries q 0 - bit (ltb q l.free)) 0 l.r l.entries
