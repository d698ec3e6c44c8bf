-- `read_row_lines` meets its contract. The invariant is `AtRow`: the rows that are left, read from the masks found so far on, are the reading of the text. The measure is
-- what is left of the text.
-- Assumes nothing.
use Prim.Native.Nat.{◌<◌}
use native.Mathlib.Omega.{arith}
use mathlib.Core.Path.{◌≡◌, sym, ◌∙◌}
use mathlib.Core.List.{List}
use Prim.Native.Nat.{ℕ}
use lib.ListN.{length}
use Rattle.std.specs.Prelude.{Option}
use Rattle.station.specs.declared.types.Head.{Head}
use Rattle.station.specs.declared.rows.fields.Fields.{Fields}
use Rattle.station.specs.Row.{with_row}
use Rattle.station.specs.method.RowFields.{fields_at}
use Rattle.station.proofs.rows.RowLoop.{AtRow, rows_start, RowRead, row_further, rows_next, out_no_row, out_outside, out_rows}
use Rattle.station.proofs.rows.read_row_lines.Goals as goal

-- what was read of a row
row_read : {t : List ℕ} {head : Head} {busy : List ℕ} {at n : ℕ} {o : Option Fields} → AtRow t head busy at n → at < length t → o ≡ fields_at t at
    → RowRead t head busy at n o
row_read h w e = record { here = h; within = w; fields = e }

pub loop-at-init : goal.loop-at-init
loop-at-init c = rows_start c.args.text.now c.args.head.now

pub returns-in_default : goal.returns-in_default
returns-in_default c =
    let a = row_read c.loop-at.invariant c.loop-at-test.true c.in_default.ensures in
    λ ps. rw c.at.ensures (out_no_row a ps)

pub returns-then-not-row_in : goal.returns-then-not-row_in
returns-then-not-row_in c =
    let a = row_read c.loop-at.invariant c.loop-at-test.true c.in-Some.ensures in
    λ ps. rw c.at-then-not-row_in.ensures (out_outside a c.requires.1 c.requires.2 (sym c.row_in.ensures ∙ c.if-not-row_in.true) ps)

pub loop-at-smaller : goal.loop-at-smaller
loop-at-smaller c =
    let a = row_read c.loop-at.invariant c.loop-at-test.true c.in-Some.ensures in
    omega (arith, row_further a, a.within)

pub loop-at-preserved : goal.loop-at-preserved
unfolding with_row
loop-at-preserved c =
    let a = row_read c.loop-at.invariant c.loop-at-test.true c.in-Some.ensures in
    rw c.stretch_mask.ensures (rows_next a c.requires.1 c.requires.2 (sym c.row_in.ensures ∙ c.if-not-row_in.false))

pub returns : goal.returns
returns c = λ ps. out_rows c.loop-at.invariant c.loop-at-test.false ps
