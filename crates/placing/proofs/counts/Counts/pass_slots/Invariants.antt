-- `counts::Counts::pass_slots` meets its contract. The loop's invariant: all else is as it was, and where the entries were those of the first clock, they are those of the clock s. Assumes nothing.
use Prim.Native.Nat.{◌≤◌}
use mathlib.Core.Path.{◌≡◌}
use Rattle.laws.specs.method.Capacities.{AtLeast}
use Rattle.placing.specs.method.Counts.{slot_free}
use Rattle.placing.proofs.counts.Counts.pass_slots.Given as goal

abbrev pub invariant-loop-s : goal.invariant-loop-s
invariant-loop-s l = (l.self.used ≡ l.initial.self.used) × (l.self.admitted ≡ l.initial.self.admitted)
    × (l.from ≤ l.to → AtLeast l.initial.self.at_least l.grid.slots (slot_free l.grid.cells.now l.grid.bridges l.grid.fed l.from) → AtLeast l.self.at_least l.grid.slots (slot_free l.grid.cells.now l.grid.bridges l.grid.fed l.s))
