-- `highest` meets its contract. The loop's invariant: nobody that is not served stands above l. Assumes nothing.
use Prim.Native.Nat.{ℕ, ◌≤◌, ◌<◌}
use mathlib.Core.Path.{◌≡◌}
use Rattle.laws.specs.Lists.{at}
use Rattle.placing.specs.method.Rule.{without}
use Rattle.placing.proofs.rule.levels.highest.Given as goal

abbrev pub invariant-loop-l : goal.invariant-loop-l
invariant-loop-l l = (q : ℕ) → l.l < q → q ≤ l.from → without (at l.levels q) l.served ≡ 0
