-- `plan::write_plan` meets its contract: the busy cells stand first, and `place` writes the free ones. Assumes nothing.
use Prim.Native.Nat.{ℕ, ◌*◌, ◌≤◌}
use native.Mathlib.Omega.{arith}
use mathlib.Core.Path.{◌≡◌, sym, ◌∙◌}
use mathlib.Core.Bool.{true}
use mathlib.Core.List.{List}
use lib.ListN.{length}
use Rattle.station.specs.declared.types.Preset.{Preset}
use Rattle.station.specs.declared.types.Head.{Head}
use Rattle.station.specs.Types.{valid_record}
use Rattle.placing.proofs.HeadRecord.{record_valid}
use Rattle.placing.proofs.rule.SlotsPlaced.{frame_within}
use Rattle.placing.proofs.plan.BusyCells.{busy_filled}
use Rattle.placing.proofs.plan.PlanAnswers.{plan_fillable, plan_written}
use Rattle.placing.proofs.plan.write_plan.Goals as goal

-- the cells of the frame are in the table
cells_in : (head : Head) (ps : List Preset) (t : List ℕ) → valid_record head ps ≡ true → 512 ≤ length t
    → (head.slots * head.bridges ≤ 512) × (head.slots * head.bridges ≤ length t)
cells_in head ps t v long =
    let limits = record_valid head ps v in
    let frame = frame_within head.slots head.bridges limits.slots_high limits.bridges_high in
    (frame, omega (arith, long, frame))

pub overflow_mul-head : goal.overflow_mul-head
overflow_mul-head c = omega (arith, (cells_in c.args.lawful.now.station.now.head c.args.lawful.now.station.now.presets c.args.table.now c.args.lawful.now.valid c.requires.0).0)

pub mark_busy-requires : goal.mark_busy-requires
mark_busy-requires c = (cells_in c.args.lawful.now.station.now.head c.args.lawful.now.station.now.presets c.args.table.now c.args.lawful.now.valid c.requires.0).1

pub returns : goal.returns
returns c = let a = c.args in
    let g = c.requires.1 in
    let n = a.lawful.now.station.now.head.slots * a.lawful.now.station.now.head.bridges in
    let inside = (cells_in a.lawful.now.station.now.head a.lawful.now.station.now.presets a.table.now c.args.lawful.now.valid c.requires.0).1 in
    c.place.ensures (λ z b past inside low free. absurd (omega (arith, past, inside)))
    (plan_fillable a.lawful.now.station.now.head a.lawful.now.station.now.presets a.lawful.now.station.now.full c.args.lawful.now.valid a.granted g.granted a.granted.offer.counts g.free g.counts)
    ∙ plan_written a.lawful.now.station.now.head a.lawful.now.station.now.presets a.lawful.now.station.now.full c.args.lawful.now.valid a.granted g.granted a.table.now a.granted.offer.counts c.requires.0
    (c.mark_busy.ensures ∙ sym (busy_filled a.table.now n inside)) g.free g.counts g.mandatory c.preset_cells.ensures
    c.preset_cells-2.ensures
