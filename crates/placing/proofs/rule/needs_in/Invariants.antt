-- `rule::needs_in` meets its contract. The invariant: none of the needs passed is above the longest job. Assumes nothing.
use mathlib.Core.Path.{◌≡◌}
use mathlib.Core.Bool.{true}
use lib.Dec.{leb}
use Rattle.laws.specs.Sums.{every}
use Rattle.laws.specs.Lists.{at}
use Rattle.placing.proofs.rule.needs_in.Given as goal

abbrev pub invariant-loop-i : goal.invariant-loop-i
invariant-loop-i l = every l.i (λ j. leb (at l.needs j) 64) ≡ true
