-- `row_at` meets its contract: each answer is the recogniser's, step by step, and a row that it finds is the line.
-- Assumes nothing.
use native.Mathlib.Omega.{arith}
use mathlib.Core.Path.{◌∙◌}
use Rattle.station.specs.Text.{bytes}
use Rattle.station.specs.Row.{row}
use Rattle.station.proofs.numbers.Recognised.{word_inside, word_read, word_lacks}
use Rattle.station.proofs.rows.RowText.{row_then}
use Rattle.station.proofs.rows.RowLine.{comma_yes, comma_no, comma_value, field_number, field_yes, field_no, field_value, row_found, row_missing}
use Rattle.station.proofs.rows.fields.row_at.Goals as goal

pub returns-in_err-bridge : goal.returns-in_err-bridge
unfolding row_then
returns-in_err-bridge c = let s = c.args in
    c.from_residual.ensures ∙ row_missing s.text.now s.at (comma_no s.text.now s.at _ c.in_err-bridge.ensures)

pub returns-in_err-first : goal.returns-in_err-first
unfolding row_then
returns-in_err-first c = let s = c.args in
    let t = s.text.now in
    let b = c.in_ok-bridge in
    c.from_residual-in_err-first.ensures ∙ row_missing t s.at (comma_yes t s.at _ b.bridge b.ensures
    ∙ comma_no t b.bridge.next _ c.in_err-first.ensures)

pub returns-in_err-last : goal.returns-in_err-last
unfolding row_then
returns-in_err-last c = let s = c.args in
    let t = s.text.now in
    let b = c.in_ok-bridge in
    let f = c.in_ok-first in
    c.from_residual-in_err-last.ensures ∙ row_missing t s.at (comma_yes t s.at _ b.bridge b.ensures
    ∙ comma_yes t b.bridge.next _ f.first f.ensures
    ∙ field_no t f.first.next _ c.in_err-last.ensures)

pub returns-in_err-next : goal.returns-in_err-next
unfolding bytes row_then
returns-in_err-next c = let s = c.args in
    let t = s.text.now in
    let b = c.in_ok-bridge in
    let f = c.in_ok-first in
    let l = c.in_ok-last in
    c.from_residual-in_err-next.ensures ∙ row_missing t s.at (comma_yes t s.at _ b.bridge b.ensures
    ∙ comma_yes t b.bridge.next _ f.first f.ensures
    ∙ field_yes t f.first.next _ l.last l.ensures
    ∙ word_lacks t (bytes "\r\n") l.last.next _ c.in_err-next.ensures)

pub returns : goal.returns
unfolding bytes row_then
returns c = let s = c.args in
    let t = s.text.now in
    let b = c.in_ok-bridge in
    let f = c.in_ok-first in
    let l = c.in_ok-last in
    let n = c.in_ok-next in
    rw (
      comma_value t s.at b.bridge b.ensures,
      comma_value t b.bridge.next f.first f.ensures,
      field_value t f.first.next l.last l.ensures,
    )
    (row_found t s.at (row (field_number t s.at) (field_number t b.bridge.next) (field_number t f.first.next)) n.next
    (word_inside t (bytes "\r\n") l.last.next n.next n.ensures (omega arith))
    (comma_yes t s.at _ b.bridge b.ensures
    ∙ comma_yes t b.bridge.next _ f.first f.ensures
    ∙ field_yes t f.first.next _ l.last l.ensures
    ∙ word_read t (bytes "\r\n") l.last.next _ n.next n.ensures))
