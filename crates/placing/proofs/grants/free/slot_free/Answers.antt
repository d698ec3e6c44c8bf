-- `grants::free::slot_free` meets its contract. Assumes nothing.
use native.Mathlib.Omega.{arith}
use mathlib.Core.Path.{refl}
use Rattle.placing.specs.method.Mask.{bridge_mask}
use Rattle.placing.proofs.grants.Arrays.{free_next, free_same, free_fits}
use Rattle.placing.proofs.grants.free.slot_free.Goals as goal
use Rattle.placing.proofs.grants.free.slot_free.Goals.{then-head-b-eq0, else-head-b-eq0}

pub loop-b-init : goal.loop-b-init
unfolding bridge_mask
loop-b-init c = refl

pub overflow_add-mask : goal.overflow_add-mask
overflow_add-mask c = omega (arith, free_fits c.args.lawful.now.station.now.head.busy c.loop-b.b c.args.s (omega arith))

pub loop-b-preserved : goal.loop-b-preserved
loop-b-preserved c = let a = c.args in
    let b = c.loop-b.b in
    elim c.if-head-b-eq0.branch [
      | then-head-b-eq0 w ↦ omega (arith, w.mask-is, free_fits a.lawful.now.station.now.head.busy b a.s (omega arith), free_next a.lawful.now.station.now.head.busy b a.s w.if-head-b-eq0.true)
      | else-head-b-eq0 w ↦ omega (arith, w.mask-is, free_same a.lawful.now.station.now.head.busy b a.s w.if-head-b-eq0.false)
    ]
