-- `busy_line` meets its contract: each answer is the recogniser's, step by step.
-- Assumes nothing.
use Prim.Native.Nat.{min}
use mathlib.Core.Path.{sym, ◌∙◌, ap}
use lib.ListN.{drop}
use Rattle.station.specs.Text.{bytes}
use Rattle.station.specs.Form.{read_brackets, busy_in}
use Rattle.station.specs.method.Numeral.{front}
use Rattle.station.specs.method.ReadLine.{line_in}
use Rattle.station.proofs.numbers.Recognised.{word_read, word_lacks, then_yes, then_no, then_value}
use Rattle.station.proofs.forms.LineForms.{busy_none, busy_some}
use Rattle.station.proofs.forms.busy_line.Goals as goal

pub returns-in_err-at : goal.returns-in_err-at
unfolding bytes busy_in
returns-in_err-at c =
    c.from_residual.ensures ∙ ap (line_in (min c.args.slots 64)) (sym (word_lacks _ (bytes "(busy ") 0 _ c.in_err-at.ensures))

pub returns-in_err-bridge : goal.returns-in_err-bridge
unfolding bytes busy_in
returns-in_err-bridge c = let s = c.args in
    c.from_residual-in_err-bridge.ensures ∙ ap (line_in (min s.slots 64)) (sym (word_read s.line.now (bytes "(busy ") 0 _ c.in_ok-at.at c.in_ok-at.ensures
    ∙ then_no s.line.now (bytes " ") c.in_ok-at.at _ c.in_err-bridge.ensures))

pub returns-in_err-mask : goal.returns-in_err-mask
unfolding bytes busy_in
returns-in_err-mask c = let n = c.in_ok-bridge in
    let s = c.args in
    let t = s.line.now in
    c.from_residual-in_err-mask.ensures ∙ ap (line_in (min s.slots 64)) (sym (word_read t (bytes "(busy ") 0 _ c.in_ok-at.at c.in_ok-at.ensures
    ∙ then_yes t (bytes " ") c.in_ok-at.at _ n.bridge n.ensures
    ∙ busy_none (min s.slots 64) (front (drop c.in_ok-at.at t)) (read_brackets (drop n.bridge.next t)) c.in_err-mask.ensures))

pub returns : goal.returns
unfolding bytes busy_in
returns c = let n = c.in_ok-bridge in
    let m = c.in_ok-mask in
    let s = c.args in
    let t = s.line.now in
    rw (then_value t (bytes " ") c.in_ok-at.at n.bridge n.ensures)
    (busy_some (min s.slots 64) (front (drop c.in_ok-at.at t)) (read_brackets (drop n.bridge.next t)) m.mask m.ensures
    ∙ ap (line_in (min s.slots 64)) (sym (word_read t (bytes "(busy ") 0 _ c.in_ok-at.at c.in_ok-at.ensures
    ∙ then_yes t (bytes " ") c.in_ok-at.at _ n.bridge n.ensures)))
