-- `check::frame_cause` meets its contract: a law for each answer. Assumes nothing.
use mathlib.Core.Path.{sym, ◌∙◌}
use Rattle.placing.specs.State.{state_of}
use Rattle.placing.proofs.HeadRecord.{count_high, record_valid}
use Rattle.placing.proofs.check.FrameCauses.{frame_short, frame_invalid, frame_fault, frame_passed}
use Rattle.placing.proofs.check.frame_cause.Goals as goal

pub returns-then-table-lt-LEAST_CELLS : goal.returns-then-table-lt-LEAST_CELLS
returns-then-table-lt-LEAST_CELLS c hold = let a = c.args in frame_short a.station.now.head a.station.now.presets (state_of a.table.now a.clock hold) c.if-table-lt-LEAST_CELLS.true

pub returns-then-not-valid_record : goal.returns-then-not-valid_record
returns-then-not-valid_record c hold = let a = c.args in
    frame_invalid a.station.now.head a.station.now.presets (state_of a.table.now a.clock hold) c.if-table-lt-LEAST_CELLS.false (sym c.valid_record.ensures ∙ c.if-not-valid_record.true)

pub invariant_of-lawful : goal.invariant_of-lawful
invariant_of-lawful c = let h = c.args.station.now.head in
    let ps = c.args.station.now.presets in
    let valid = sym c.valid_record.ensures ∙ c.if-not-valid_record.false in
    let v = record_valid h ps valid in
    record { valid = valid; few_presets = count_high h ps valid; few_slots = v.slots_high; few_bridges = v.bridges_high }

pub returns-then-not-well_formed_frame : goal.returns-then-not-well_formed_frame
returns-then-not-well_formed_frame c hold =
    let a = c.args in
    frame_fault a.station.now.head a.station.now.presets (state_of a.table.now a.clock hold) c.if-table-lt-LEAST_CELLS.false (sym c.valid_record.ensures ∙ c.if-not-valid_record.false)
    (sym (c.well_formed_frame.ensures hold) ∙ c.if-not-well_formed_frame.true)

pub returns : goal.returns
returns c hold =
    let a = c.args in
    frame_passed a.station.now.head a.station.now.presets (state_of a.table.now a.clock hold) c.if-table-lt-LEAST_CELLS.false (sym c.valid_record.ensures ∙ c.if-not-valid_record.false)
    (sym (c.well_formed_frame.ensures hold) ∙ c.if-not-well_formed_frame.false)
