-- `text::run_head` meets its contract: the plan is refused, or granted lines, answers and slots
-- make the listing. Assumes nothing.
use mathlib.Core.Path.{◌≡◌}
use Rattle.std.proofs.Common.{rules}
use Rattle.std.proofs.lemmas.Result.{err_from_is_err_and}
use Rattle.station.specs.ReadHead.{fault}
use Rattle.frame.proofs.text.WholeText.{mapped_err, mapped_ok, run_refused, lines_may_start, run_done}
use Rattle.frame.proofs.text.run_head.Goals as goal

pub returns-in_err-grants : goal.returns-in_err-grants
returns-in_err-grants c = let a = c.args in
    let m = mapped_err _ c.plan_by_value.result c.map_err.result c.in_err-grants.field-0.0 c.map_err.ensures.cases c.in_err-grants.was in
    let p = err_from_is_err_and c.from_residual.result c.from_residual.ensures.1 in
    let k = m.2 in
    let e : c.in_err-grants.field-0.0 ≡ fault a.read.lines m.0 = search rules in
    rw (p.1, p.2, e) (run_refused c.requires c.plan_by_value.ensures.done a.moment.now.clock a.moment.now.hold a.out.now m.1)

pub run_lines-requires : goal.run_lines-requires
run_lines-requires c =
    lines_may_start c.requires c.plan_by_value.ensures.done (mapped_ok _ c.plan_by_value.result c.map_err.result c.in_ok-grants.grants c.map_err.ensures.cases c.in_ok-grants.was)

pub returns : goal.returns
returns c = let a = c.args in
    let planned = mapped_ok _ c.plan_by_value.result c.map_err.result c.in_ok-grants.grants c.map_err.ensures.cases c.in_ok-grants.was in
    run_done c.requires c.plan_by_value.ensures.done planned a.moment.now.clock a.moment.now.hold c.new-writer.ensures.bytes c.new-writer.ensures.place c.granted_lines.ensures
    c.run_lines.ensures c.slot_lines.ensures (search rules) c.place.ensures
