-- `read_event` meets its contract: a call by its first word, or any line by what it says.
-- Assumes nothing.
use mathlib.Core.Path.{◌∙◌}
use Rattle.std.proofs.lemmas.Result.{err_from_is_err_and}
use Rattle.station.specs.Text.{bytes}
use Rattle.station.specs.Form.{form}
use Rattle.station.proofs.events.EventLines.{call_lacks, call_has, line_lacks, line_has}
use Rattle.station.proofs.events.read_event.Goals as goal

pub returns-in_err-list : goal.returns-in_err-list
unfolding bytes
returns-in_err-list c =
    let p = err_from_is_err_and c.from_residual.result c.from_residual.ensures.1 in
    rw (p.1, p.2) (call_lacks c.args.line.now c.in-Some.at c.in-Some.ensures c.jobs_at.result c.jobs_at.ensures _ c.in_err-list.ensures.value)

pub returns-in-Some : goal.returns-in-Some
unfolding bytes
returns-in-Some c =
    c.call_event.ensures
    ∙ call_has c.args.line.now c.in-Some.at c.in-Some.ensures c.jobs_at.result c.jobs_at.ensures c.in_ok-list.list c.in_ok-list.ensures.value

pub returns-in_err-said : goal.returns-in_err-said
returns-in_err-said c =
    let p = err_from_is_err_and c.from_residual-in_err-said.result c.from_residual-in_err-said.ensures.1 in
    rw (p.1, p.2) (line_lacks 64 (form c.args.line.now) c.read_line.result c.read_line.ensures _ c.in_err-said.ensures.value)

pub returns : goal.returns
returns c = c.line_event.ensures ∙ line_has 64 (form c.args.line.now) c.read_line.result c.read_line.ensures c.in_ok-said.said c.in_ok-said.ensures.value
