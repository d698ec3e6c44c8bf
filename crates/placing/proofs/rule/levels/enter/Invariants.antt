-- `enter` meets its contract. The loop's invariant: the first i jobs stand in their levels, none of them above `top`. Assumes nothing.
use Prim.Native.Nat.{ℕ, ◌≤◌, ◌<◌}
use mathlib.Core.Path.{◌≡◌}
use mathlib.Core.Bool.{◌&&◌}
use lib.ListN.{length}
use lib.Dec.{ltb, eqb}
use Rattle.laws.specs.Lists.{at}
use Rattle.station.specs.Head.{has_bit}
use Rattle.placing.proofs.rule.levels.enter.Given as goal

abbrev pub invariant-loop-i : goal.invariant-loop-i
invariant-loop-i l = (length l.levels ≡ 65)
    × ((v j : ℕ) → has_bit (at l.levels v) j ≡ (ltb j l.i && eqb (at l.needs j) v))
    × (l.top < 65)
    × ((j : ℕ) → j < l.i → at l.needs j ≤ l.top)
