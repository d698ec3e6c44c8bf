-- The presets passed have theirs.
use Prim.Native.Nat.{◌+◌}
use mathlib.Core.Path.{◌≡◌}
use Rattle.placing.specs.method.Records.{record_at}
use Rattle.placing.specs.Types.{filled}
use Rattle.placing.proofs.plan.preset_cells.Given as goal

abbrev pub invariant-loop-i : goal.invariant-loop-i
invariant-loop-i l = l.all ≡ filled 64 l.i (λ j. l.kind + (record_at l.lawful.station.now.presets j).number)
