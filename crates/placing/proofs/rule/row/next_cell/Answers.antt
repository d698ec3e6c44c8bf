-- `next_cell` meets its contract. Assumes nothing.
use native.Mathlib.Omega.{arith}
use mathlib.Core.Path.{refl, sym, ◌∙◌, ap}
use lib.ListN.{set}
use lib.Seq.{set-get_or}
use Rattle.placing.proofs.rule.row.RowWritten.{writes_late, writes_early}
use Rattle.placing.proofs.rule.row.next_cell.Goals as goal

pub returns-then-rest-eq0 : goal.returns-then-rest-eq0
returns-then-rest-eq0 c = let a = c.args in (
  writes_late a.due.now a.work.now.early a.work.now.late a.i c.if-rest-eq0.true,
  sym (ap (set a.due.now a.i) (omega (arith, c.if-rest-eq0.true)) ∙ set-get_or a.due.now a.i 0),
)

pub returns : goal.returns
returns c = let a = c.args in
    (writes_early a.due.now a.work.now.early a.work.now.late a.i (omega (arith, c.if-rest-eq0.false)), refl)
