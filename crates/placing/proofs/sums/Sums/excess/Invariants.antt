-- The greatest excess over the capacities passed, each the sum of the entries so far.
use Prim.Native.Nat.{◌*◌, ◌-◌, ◌≤◌}
use mathlib.Core.Path.{◌≡◌}
use Rattle.laws.specs.Sums.{greatest}
use Rattle.laws.specs.Lists.{at}
use Rattle.laws.specs.method.Capacities.{capacity_from}
use Rattle.placing.proofs.sums.Sums.excess.Given as goal

abbrev pub invariant-loop-r : goal.invariant-loop-r
invariant-loop-r l = (l.capacity ≤ 255 * l.r) × (l.capacity ≡ capacity_from l.entries l.r) × (l.most ≡ greatest l.r (λ q. at l.self.largest q - capacity_from l.entries q))
