-- `frame_line` meets its contract: each answer is the recogniser's, step by step.
-- Assumes nothing.
use mathlib.Core.Path.{sym, ◌∙◌, ap}
use Rattle.station.specs.Text.{bytes}
use Rattle.station.specs.Form.{frame_in}
use Rattle.station.specs.method.ReadLine.{line_in}
use Rattle.station.proofs.numbers.Recognised.{word_read, word_lacks, then_yes, then_no, then_value, last_yes, last_no, last_value}
use Rattle.station.proofs.forms.frame_line.Goals as goal

pub returns-in_err-at : goal.returns-in_err-at
unfolding bytes frame_in
returns-in_err-at c = λ hi.
    c.from_residual.ensures ∙ ap (line_in hi) (sym (word_lacks _ (bytes "(frame ") 0 _ c.in_err-at.ensures))

pub returns-in_err-slots : goal.returns-in_err-slots
unfolding bytes frame_in
returns-in_err-slots c = λ hi.
    let t = c.args.line.now in
    c.from_residual-in_err-slots.ensures ∙ ap (line_in hi) (sym (word_read t (bytes "(frame ") 0 _ c.in_ok-at.at c.in_ok-at.ensures
    ∙ then_no t (bytes " ") c.in_ok-at.at _ c.in_err-slots.ensures))

pub returns-in_err-bridges : goal.returns-in_err-bridges
unfolding bytes frame_in
returns-in_err-bridges c = λ hi.
    let n = c.in_ok-slots in
    let t = c.args.line.now in
    c.from_residual-in_err-bridges.ensures ∙ ap (line_in hi) (sym (word_read t (bytes "(frame ") 0 _ c.in_ok-at.at c.in_ok-at.ensures
    ∙ then_yes t (bytes " ") c.in_ok-at.at _ n.slots n.ensures
    ∙ last_no t n.slots.next _ c.in_err-bridges.ensures))

pub returns : goal.returns
unfolding bytes frame_in
returns c = λ hi.
    let n = c.in_ok-slots in
    let b = c.in_ok-bridges in
    let t = c.args.line.now in
    rw (then_value t (bytes " ") c.in_ok-at.at n.slots n.ensures, last_value t n.slots.next b.bridges b.ensures)
    (ap (line_in hi) (sym (word_read t (bytes "(frame ") 0 _ c.in_ok-at.at c.in_ok-at.ensures
    ∙ then_yes t (bytes " ") c.in_ok-at.at _ n.slots n.ensures
    ∙ last_yes t n.slots.next _ b.bridges b.ensures)))
