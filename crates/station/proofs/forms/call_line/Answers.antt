-- `call_line` meets its contract: each answer is the recogniser's, step by step.
-- Assumes nothing.
use mathlib.Core.Path.{sym, ◌∙◌, ap}
use lib.ListN.{drop}
use Rattle.station.specs.Text.{bytes}
use Rattle.station.specs.Form.{read_jobs, call_in}
use Rattle.station.specs.method.ReadLine.{line_in}
use Rattle.station.proofs.numbers.Recognised.{word_read, word_lacks}
use Rattle.station.proofs.forms.LineForms.{call_none, call_some}
use Rattle.station.proofs.forms.call_line.Goals as goal

pub returns-in_err-at : goal.returns-in_err-at
unfolding bytes call_in
returns-in_err-at c = λ hi.
    c.from_residual.ensures ∙ ap (line_in hi) (sym (word_lacks _ (bytes "(call ") 0 _ c.in_err-at.ensures))

pub returns-in_err-jobs_at : goal.returns-in_err-jobs_at
unfolding bytes call_in
returns-in_err-jobs_at c = λ hi.
    let t = c.args.line.now in
    c.from_residual-in_err-jobs_at.ensures ∙ ap (line_in hi) (sym (word_read t (bytes "(call ") 0 _ c.in_ok-at.at c.in_ok-at.ensures
    ∙ call_none (read_jobs (drop c.in_ok-at.at t)) c.in_err-jobs_at.ensures))

pub returns : goal.returns
unfolding bytes call_in
returns c = λ hi.
    let j = c.in_ok-jobs_at in
    let t = c.args.line.now in
    call_some hi (read_jobs (drop c.in_ok-at.at t)) _ j.ensures
    ∙ ap (line_in hi) (sym (word_read t (bytes "(call ") 0 _ c.in_ok-at.at c.in_ok-at.ensures))
