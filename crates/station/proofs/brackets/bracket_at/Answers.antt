-- `bracket_at` meets its contract: each answer is one law's.
-- Assumes nothing.
use mathlib.Core.Path.{sym, ◌∙◌}
use Rattle.station.specs.Text.{bytes}
use Rattle.station.proofs.brackets.OneBracket.{not_opened, no_first, no_second, is_last, not_ended, is_next}
use Rattle.station.proofs.brackets.bracket_at.Goals as goal

pub returns-in_err-open : goal.returns-in_err-open
unfolding bytes
returns-in_err-open c = rw c.from_residual.ensures (not_opened c.args.text.now c.args.at c.in_err-open.ensures)

pub returns-in_err-first : goal.returns-in_err-first
unfolding bytes
returns-in_err-first c = let s = c.args in
    let o = c.in_ok-open in
    rw c.from_residual-in_err-first.ensures (no_first s.text.now s.at o.open o.ensures c.in_err-first.ensures)

pub returns-in_err-second : goal.returns-in_err-second
unfolding bytes
returns-in_err-second c = let s = c.args in
    let o = c.in_ok-open in
    let a = c.in_ok-first in
    rw c.from_residual-in_err-second.ensures (no_second s.text.now s.at o.open o.ensures a.first a.ensures c.in_err-second.ensures)

pub returns-then-closes_at : goal.returns-then-closes_at
unfolding bytes
returns-then-closes_at c = let s = c.args in
    let o = c.in_ok-open in
    let a = c.in_ok-first in
    let b = c.in_ok-second in
    is_last s.text.now s.at o.open o.ensures a.first a.ensures b.second b.ensures (sym c.closes_at.ensures ∙ c.if-closes_at.true)

pub returns-in_err-next : goal.returns-in_err-next
unfolding bytes
returns-in_err-next c = let s = c.args in
    let o = c.in_ok-open in
    let a = c.in_ok-first in
    let b = c.in_ok-second in
    rw c.from_residual-in_err-next.ensures
    (not_ended s.text.now s.at o.open o.ensures a.first a.ensures b.second b.ensures (sym c.closes_at.ensures ∙ c.if-closes_at.false) c.in_err-next.ensures)

pub returns : goal.returns
unfolding bytes
returns c = let s = c.args in
    let o = c.in_ok-open in
    let a = c.in_ok-first in
    let b = c.in_ok-second in
    is_next s.text.now s.at o.open o.ensures a.first a.ensures b.second b.ensures (sym c.closes_at.ensures ∙ c.if-closes_at.false)
    c.in_ok-next.next c.in_ok-next.ensures
