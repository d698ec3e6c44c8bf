-- `preset_line` meets its contract: each answer is the recogniser's, step by step.
-- Assumes nothing.
use mathlib.Core.Path.{sym, ◌∙◌, ap}
use Rattle.station.specs.Text.{bytes}
use Rattle.station.specs.Form.{preset_in}
use Rattle.station.specs.method.ReadLine.{line_in}
use Rattle.station.proofs.numbers.Recognised.{word_read, word_lacks, then_yes, then_no, then_value, last_yes, last_no, last_value}
use Rattle.station.proofs.forms.preset_line.Goals as goal

pub returns-in_err-at : goal.returns-in_err-at
unfolding bytes preset_in
returns-in_err-at c = λ hi.
    c.from_residual.ensures ∙ ap (line_in hi) (sym (word_lacks _ (bytes "(preset ") 0 _ c.in_err-at.ensures))

pub returns-in_err-number : goal.returns-in_err-number
unfolding bytes preset_in
returns-in_err-number c = λ hi.
    let t = c.args.line.now in
    c.from_residual-in_err-number.ensures ∙ ap (line_in hi) (sym (word_read t (bytes "(preset ") 0 _ c.in_ok-at.at c.in_ok-at.ensures
    ∙ then_no t (bytes " ") c.in_ok-at.at _ c.in_err-number.ensures))

pub returns-in_err-priority : goal.returns-in_err-priority
unfolding bytes preset_in
returns-in_err-priority c = λ hi.
    let n = c.in_ok-number in
    let t = c.args.line.now in
    c.from_residual-in_err-priority.ensures ∙ ap (line_in hi) (sym (word_read t (bytes "(preset ") 0 _ c.in_ok-at.at c.in_ok-at.ensures
    ∙ then_yes t (bytes " ") c.in_ok-at.at _ n.number n.ensures
    ∙ then_no t (bytes " ") n.number.next _ c.in_err-priority.ensures))

pub returns-in_err-mandatory : goal.returns-in_err-mandatory
unfolding bytes preset_in
returns-in_err-mandatory c = λ hi.
    let n = c.in_ok-number in
    let p = c.in_ok-priority in
    let t = c.args.line.now in
    c.from_residual-in_err-mandatory.ensures ∙ ap (line_in hi) (sym (word_read t (bytes "(preset ") 0 _ c.in_ok-at.at c.in_ok-at.ensures
    ∙ then_yes t (bytes " ") c.in_ok-at.at _ n.number n.ensures
    ∙ then_yes t (bytes " ") n.number.next _ p.priority p.ensures
    ∙ then_no t (bytes " ") p.priority.next _ c.in_err-mandatory.ensures))

pub returns-in_err-optional : goal.returns-in_err-optional
unfolding bytes preset_in
returns-in_err-optional c = λ hi.
    let n = c.in_ok-number in
    let p = c.in_ok-priority in
    let m = c.in_ok-mandatory in
    let t = c.args.line.now in
    c.from_residual-in_err-optional.ensures ∙ ap (line_in hi) (sym (word_read t (bytes "(preset ") 0 _ c.in_ok-at.at c.in_ok-at.ensures
    ∙ then_yes t (bytes " ") c.in_ok-at.at _ n.number n.ensures
    ∙ then_yes t (bytes " ") n.number.next _ p.priority p.ensures
    ∙ then_yes t (bytes " ") p.priority.next _ m.mandatory m.ensures
    ∙ last_no t m.mandatory.next _ c.in_err-optional.ensures))

pub returns : goal.returns
unfolding bytes preset_in
returns c = λ hi.
    let n = c.in_ok-number in
    let p = c.in_ok-priority in
    let m = c.in_ok-mandatory in
    let o = c.in_ok-optional in
    let t = c.args.line.now in
    rw (
      then_value t (bytes " ") c.in_ok-at.at n.number n.ensures,
      then_value t (bytes " ") n.number.next p.priority p.ensures,
      then_value t (bytes " ") p.priority.next m.mandatory m.ensures,
      last_value t m.mandatory.next o.optional o.ensures,
    )
    (ap (line_in hi) (sym (word_read t (bytes "(preset ") 0 _ c.in_ok-at.at c.in_ok-at.ensures
    ∙ then_yes t (bytes " ") c.in_ok-at.at _ n.number n.ensures
    ∙ then_yes t (bytes " ") n.number.next _ p.priority p.ensures
    ∙ then_yes t (bytes " ") p.priority.next _ m.mandatory m.ensures
    ∙ last_yes t m.mandatory.next _ o.optional o.ensures)))
