-- The least of the limit and of what the numbers passed leave of their capacities.
use Prim.Native.Nat.{suc, ◌*◌, ◌≤◌, ◌-◌}
use mathlib.Core.Path.{◌≡◌}
use Rattle.laws.specs.method.Capacities.{capacity_from}
use Rattle.laws.specs.method.Least.{lowest}
use Rattle.placing.specs.method.Grants.{other_sum}
use Rattle.placing.proofs.sums.Sums.highest.Given as goal

abbrev pub invariant-loop-r : goal.invariant-loop-r
invariant-loop-r l = (l.capacity ≤ 255 * l.r) × (l.capacity ≡ capacity_from l.entries l.r) × (l.least ≡ lowest l.r (λ q. capacity_from l.entries (suc q) - other_sum l.self.largest l.need q) l.limit)
