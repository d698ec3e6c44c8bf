-- The presets passed have theirs.
use Prim.Native.Nat.{◌-◌}
use mathlib.Core.Path.{◌≡◌}
use Rattle.laws.specs.Lists.{at}
use Rattle.placing.specs.Types.{filled}
use Rattle.placing.proofs.plan.grants_of.Given as goal

abbrev pub invariant-loop-i : goal.invariant-loop-i
invariant-loop-i l = l.all ≡ filled 32 l.i (λ j. at l.needs j - at l.mandatory j)
