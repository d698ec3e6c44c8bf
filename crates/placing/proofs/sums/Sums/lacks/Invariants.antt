-- None of the sums passed exceeds its capacity by as much, each capacity the sum of the entries so far.
use Prim.Native.Nat.{ℕ, ◌+◌, ◌*◌, ◌≤◌, ◌<◌}
use mathlib.Core.Path.{◌≡◌}
use Rattle.laws.specs.Lists.{at}
use Rattle.laws.specs.method.Capacities.{capacity_from}
use Rattle.placing.proofs.sums.Sums.lacks.Given as goal

abbrev pub invariant-loop-r : goal.invariant-loop-r
invariant-loop-r l = (l.enough ≤ 16320 + 255 * l.r) × (l.enough ≡ l.short + capacity_from l.entries l.r) × ((q : ℕ) → q < l.r → at l.self.largest q < l.short + capacity_from l.entries q)
