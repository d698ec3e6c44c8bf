-- `listing::write_slot` meets its contract: a law for each answer, by the first 32 records of the list. Assumes nothing.
use Prim.Native.Nat.{◌-◌}
use mathlib.Core.Path.{sym, ◌∙◌, ap}
use lib.ListN.{length, take}
use Rattle.std.proofs.Common.{rules}
use Rattle.std.proofs.lemmas.Result.{err_from_is_err_and}
use Rattle.station.specs.Types.{head_in}
use Rattle.station.proofs.Theorems.{writes_out}
use Rattle.placing.specs.Causes.{cause_in}
use Rattle.frame.specs.Listing.{slot_line}
use Rattle.frame.proofs.listing.OneLine.{line_short, slot_few, slot_stopped, slot_none, slot_written_lem, slot_list}
use Rattle.frame.proofs.listing.write_slot.Goals as goal

pub returns-then-out-lt-LEAST_OUTPUT : goal.returns-then-out-lt-LEAST_OUTPUT
returns-then-out-lt-LEAST_OUTPUT c = let a = c.args in line_short _ (slot_line (head_in a.head a.presets.now) a.table.now (a.slot - 1)) a.out.now c.if-out-lt-LEAST_OUTPUT.true

pub returns-in_err-station : goal.returns-in_err-station
returns-in_err-station c = let a = c.args in
    let few = rw c.in_err-station.was at c.of.ensures in
    let p = err_from_is_err_and c.from_residual.result c.from_residual.ensures.1 in
    rw (p.1, p.2, few.1) (slot_few (length a.presets.now) a.head a.presets.now a.table.now a.slot a.out.now c.if-out-lt-LEAST_OUTPUT.false few.0)

pub returns-in_err-frame_cause : goal.returns-in_err-frame_cause
returns-in_err-frame_cause c = let a = c.args in
    let p = err_from_is_err_and c.from_residual-in_err-frame_cause.result c.from_residual-in_err-frame_cause.ensures.1 in
    let made = rw c.in_ok-station.was at c.of.ensures in
    rw (p.1, p.2)
    (slot_list a.head a.presets.now a.table.now a.slot a.out.now
    (slot_stopped (length a.presets.now) a.head (take 32 a.presets.now) a.table.now a.slot a.out.now c.if-out-lt-LEAST_OUTPUT.false made.0 c.in_err-frame_cause.field-0.0
    (rw (made.1, made.2) at (sym (ap cause_in c.in_err-frame_cause.was) ∙ c.frame_cause.ensures a.head.hold))))

pub returns-then-slot-lt1 : goal.returns-then-slot-lt1
returns-then-slot-lt1 c = let a = c.args in
    let made = rw c.in_ok-station.was at c.of.ensures in
    slot_list a.head a.presets.now a.table.now a.slot a.out.now
    (slot_none (length a.presets.now) a.head (take 32 a.presets.now) a.table.now a.slot a.out.now c.if-out-lt-LEAST_OUTPUT.false made.0
    (rw (made.1, made.2) at (sym (ap cause_in c.in_ok-frame_cause.was) ∙ c.frame_cause.ensures a.head.hold)) c.then-slot-lt1.either)

pub returns : goal.returns
returns c = let a = c.args in
    let made = rw c.in_ok-station.was at c.of.ensures in
    slot_list a.head a.presets.now a.table.now a.slot a.out.now
    (slot_written_lem (length a.presets.now) a.head (take 32 a.presets.now) a.table.now a.slot a.out.now c.if-out-lt-LEAST_OUTPUT.false made.0
    (rw (made.1, made.2) at (sym (ap cause_in c.in_ok-frame_cause.was) ∙ c.frame_cause.ensures a.head.hold)) c.if-slot-lt1.false c.if-head-slot.false (writes_out c.slot_line.ensures c.new-writer.ensures.bytes c.new-writer.ensures.place (search rules) c.place.ensures))
