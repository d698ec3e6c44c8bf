-- The sums are those of the needs passed, each below 256, and of 0 for the others.
use Prim.Native.Nat.{ℕ, ◌*◌, ◌≤◌, ◌<◌}
use mathlib.Core.Path.{◌≡◌}
use Rattle.laws.specs.Sums.{sum}
use Rattle.laws.specs.Lists.{at}
use Rattle.laws.proofs.Largest.{up_to}
use Rattle.placing.specs.method.Grants.{Sums}
use Rattle.placing.proofs.sums.Sums.of.Given as goal

abbrev pub invariant-loop-i : goal.invariant-loop-i
invariant-loop-i l = Sums l.k (up_to (at l.needs) l.i) l.sums.largest × ((r : ℕ) → r < 9 → at l.sums.largest r ≤ 255 * l.i) × (l.sums.total ≡ sum l.i (at l.needs)) × (l.sums.total ≤ 255 * l.i)
