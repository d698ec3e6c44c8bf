-- The mask is that of the bridges passed.
use mathlib.Core.Path.{◌≡◌}
use Rattle.placing.specs.method.Grants.{free_mask}
use Rattle.placing.proofs.grants.free.slot_free.Given as goal

abbrev pub invariant-loop-b : goal.invariant-loop-b
invariant-loop-b l = l.mask ≡ free_mask l.lawful.station.now.head.busy l.b l.s
