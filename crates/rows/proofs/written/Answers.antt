-- `written` meets its contract: what is refused is what the reading of the head or of the rows tells, and no writing is. Assumes nothing.
use mathlib.Core.Path.{sym, ◌∙◌}
use Rattle.std.proofs.lemmas.Result.{err_from_is_err_and}
use Rattle.station.specs.ReadHead.{left_by}
use Rattle.station.specs.RowEntries.{rows_left}
use Rattle.station.proofs.Theorems.{read_accepted, read_refused}
use Rattle.rows.proofs.Outputs.{ok_same, read_record, rows_refused_lem, alone_refused, rows_wrote, head_refused, rows_refused, text_wrote}
use Rattle.rows.proofs.written.Goals as goal

pub returns-in_err-read_head_by_value-clause-fault :
    goal.returns-in_err-read_head_by_value-clause-fault
returns-in_err-read_head_by_value-clause-fault c =
    let k = c.read_head_by_value in
    let f = c.in_err-read_head_by_value.field-0.0 in
    let h = read_refused _ _ _ (left_by k.result k.new.head k.new.presets) f.line f.cause k.ensures c.in_err-read_head_by_value.was in
    let p = err_from_is_err_and c.from_residual.result c.from_residual.ensures.1 in
    rw (p.1, p.2) (alone_refused _ c.in_default.ensures.parts _ _ h.reads)

pub returns-in_err-write_rows_by_value-clause-fault :
    goal.returns-in_err-write_rows_by_value-clause-fault
returns-in_err-write_rows_by_value-clause-fault c =
    let k = c.read_head_by_value in
    let h = read_accepted _ _ _ (left_by k.result k.new.head k.new.presets) _ _ k.ensures c.in_ok-read_head_by_value.was in
    let s = rows_wrote _ c.in_default.ensures.parts c.args.out.now c.requires h c.write_rows_by_value.result c.write_rows_by_value.ensures in
    let e = sym s.0 ∙ c.in_err-write_rows_by_value.was in
    cc

pub returns-in_default-clause-done : goal.returns-in_default-clause-done
returns-in_default-clause-done c =
    let k = c.read_head_by_value in
    let h = read_accepted _ _ _ (left_by k.result k.new.head k.new.presets) _ _ k.ensures c.in_ok-read_head_by_value.was in
    let s = rows_wrote _ c.in_default.ensures.parts c.args.out.now c.requires h c.write_rows_by_value.result c.write_rows_by_value.ensures in
    rw (ok_same (sym c.in_ok-write_rows_by_value.was ∙ s.0)) s.1

pub returns-in_err-read_head_by_value-2-clause-fault :
    goal.returns-in_err-read_head_by_value-2-clause-fault
returns-in_err-read_head_by_value-2-clause-fault c =
    let k = c.read_head_by_value-2 in
    let f = c.in_err-read_head_by_value-2.field-0.0 in
    let h = read_refused _ _ _ (left_by k.result k.new.head k.new.presets) f.line f.cause k.ensures c.in_err-read_head_by_value-2.was in
    let p = err_from_is_err_and c.from_residual-in_err-read_head_by_value-2.result c.from_residual-in_err-read_head_by_value-2.ensures.1 in
    rw (p.1, p.2) (head_refused _ _ c.in-Some.ensures.parts _ _ h.reads)

pub returns-in_err-read_rows_by_value-clause-fault :
    goal.returns-in_err-read_rows_by_value-clause-fault
returns-in_err-read_rows_by_value-clause-fault c =
    let k = c.read_head_by_value-2 in
    let h = read_accepted _ _ _ (left_by k.result k.new.head k.new.presets) _ _ k.ensures c.in_ok-read_head_by_value-2.was in
    let m = c.read_rows_by_value in
    let f = c.in_err-read_rows_by_value.field-0.0 in
    let r = rows_refused_lem k.new.head k.new.presets (read_record h) _ (rows_left m.result m.new.head) m.ensures f.line f.cause c.in_err-read_rows_by_value.was in
    let p = err_from_is_err_and c.from_residual-in_err-read_rows_by_value.result c.from_residual-in_err-read_rows_by_value.ensures.1 in
    rw (p.1, p.2) (rows_refused _ _ c.in-Some.ensures.parts _ _ h.reads _ _ r)

pub returns-in_err-write_head_by_value-clause-fault :
    goal.returns-in_err-write_head_by_value-clause-fault
returns-in_err-write_head_by_value-clause-fault c =
    let k = c.read_head_by_value-2 in
    let h = read_accepted _ _ _ (left_by k.result k.new.head k.new.presets) _ _ k.ensures c.in_ok-read_head_by_value-2.was in
    let m = c.read_rows_by_value in
    let s = text_wrote _ _ c.in-Some.ensures.parts c.args.out.now c.requires h (rows_left m.result m.new.head) m.ensures _ c.in_ok-read_rows_by_value.was c.write_head_by_value.result c.write_head_by_value.ensures in
    let e = sym s.0 ∙ c.in_err-write_head_by_value.was in
    cc

pub returns-clause-done : goal.returns-clause-done
returns-clause-done c =
    let k = c.read_head_by_value-2 in
    let h = read_accepted _ _ _ (left_by k.result k.new.head k.new.presets) _ _ k.ensures c.in_ok-read_head_by_value-2.was in
    let m = c.read_rows_by_value in
    let s = text_wrote _ _ c.in-Some.ensures.parts c.args.out.now c.requires h (rows_left m.result m.new.head) m.ensures _ c.in_ok-read_rows_by_value.was c.write_head_by_value.result c.write_head_by_value.ensures in
    rw (ok_same (sym c.in_ok-write_head_by_value.was ∙ s.0)) s.1
