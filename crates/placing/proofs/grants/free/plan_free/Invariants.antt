-- The slots passed have their masks.
use mathlib.Core.Path.{◌≡◌}
use Rattle.placing.specs.method.Grants.{free_mask}
use Rattle.placing.specs.Types.{filled}
use Rattle.placing.proofs.grants.free.plan_free.Given as goal

abbrev pub invariant-loop-s : goal.invariant-loop-s
invariant-loop-s l = l.masks ≡ filled 64 l.s (free_mask l.lawful.station.now.head.busy l.lawful.station.now.head.bridges)
