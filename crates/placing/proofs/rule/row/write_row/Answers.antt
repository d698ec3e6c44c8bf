-- `write_row` meets its contract. The loop's invariant: the jobs before those in `jobs` have written their cells and have one less due, and `free` has the
-- bridges that are left. Assumes nothing.
use Prim.Native.Nat.{ℕ, ◌<◌, ◌-◌}
use native.Mathlib.Omega.{arith}
use mathlib.Core.Path.{◌≡◌, refl, ◌∙◌}
use lib.Bits.{and_le_l}
use lib.Count.{count_trailing_zeros}
use borrow.Author.Rules as author
use lib.ListN.{length}
use Rattle.station.specs.Head.{has_bit}
use Rattle.placing.specs.method.Rule.{due_cells}
use Rattle.placing.proofs.MaskBits.{none_below_lowest, some_bit}
use Rattle.placing.proofs.rule.row.RowWritten.{filled_none, filled_all, filled_clean}
use Rattle.placing.proofs.rule.row.ServedJobs.{earliest, value_of, serving_none, serving_next, serving_full, serving_all}
use Rattle.placing.proofs.rule.row.write_row.Goals as goal
use Rattle.placing.proofs.rule.row.write_row.Goals.{else-b-row, then-b-row}

pub loop-jobs-init : goal.loop-jobs-init
loop-jobs-init c = let a = c.args in
    let t = a.row.now in
    let v = due_cells a.due.now a.work.now.early a.work.now.late in (
      omega arith,
      serving_none t (length t) a.chosen (has_bit a.mask) v a.due.now (search author.rules) c.requires.1 t a.mask
          (filled_none t (length t) (has_bit a.chosen) (has_bit a.mask) v),
    )

pub next_cell-value-requires : goal.next_cell-value-requires
next_cell-value-requires c = let l = c.loop-jobs in
    let some : 0 < l.jobs = omega arith in
    (earliest c.args.chosen l.jobs l.invariant.1.pending some, l.invariant.1.long)

pub overflow_sub-free : goal.overflow_sub-free
overflow_sub-free c = some_bit 8 c.loop-jobs.free (omega arith)

pub loop-jobs-preserved : goal.loop-jobs-preserved
loop-jobs-preserved c = let l = c.loop-jobs in
    let a = c.args in
    let t = a.row.now in
    let v : ℕ → ℕ = due_cells a.due.now a.work.now.early a.work.now.late in
    let some : 0 < l.jobs = omega arith in
    let value : c.next_cell-value.result ≡ v (count_trailing_zeros 64 l.jobs) =
    value_of t (length t) a.chosen (has_bit a.mask) v a.due.now l.row l.free l.jobs l.due l.invariant.1 some
    a.work.now.early a.work.now.late _ refl c.next_cell-value.result c.next_cell-value.ensures.0 in
    elim c.if-b-row.branch [
      | then-b-row w ↦ (
        omega (arith, w.free-is, and_le_l l.free (l.free - 1)),
        rw (w.row-is, w.free-is, c.next_cell-value.ensures.1)
            (serving_next t (length t) a.chosen (has_bit a.mask) v a.due.now l.row l.free l.jobs l.due l.invariant.1 some
            l.invariant.0 _ refl (omega (arith, w.if-b-row.true, l.invariant.1.row.row.long)) (omega arith) (omega arith) c.next_cell-value.result value),
      )
      | else-b-row w ↦ (
        omega (arith, w.free-is),
        rw (w.row-is, w.free-is, c.next_cell-value.ensures.1)
            (serving_full t (length t) a.chosen (has_bit a.mask) v a.due.now l.row l.free l.jobs l.due l.invariant.1 some
            (λ b h. none_below_lowest 8 l.free l.invariant.0 b (let over = w.if-b-row.false in omega (arith, h, over, l.invariant.1.row.row.long)))),
      )
    ]

pub empty_row-requires : goal.empty_row-requires
empty_row-requires c = omega (arith, c.loop-jobs.invariant.1.row.row.long, c.requires.0)

pub returns-then-empties : goal.returns-then-empties
returns-then-empties c = let l = c.loop-jobs in
    let a = c.args in
    let end : l.jobs ≡ 0 = omega arith in
    let v = due_cells a.due.now a.work.now.early a.work.now.late in
    let all = serving_all a.row.now (length a.row.now) a.chosen (has_bit a.mask) v a.due.now l.row l.free l.due (rw end at l.invariant.1) in (
      c.empty_row.ensures.long ∙ l.invariant.1.row.row.long,
      l.invariant.1.long,
      all.1,
      λ clean. filled_all a.row.now (length a.row.now) (has_bit a.chosen) (has_bit a.mask) v 64 l.row (has_bit l.free) all.0 c.empty_row.new.row (rw l.invariant.1.row.row.long at c.empty_row.ensures),
    )

pub returns-else-empties : goal.returns-else-empties
returns-else-empties c = let l = c.loop-jobs in
    let a = c.args in
    let end : l.jobs ≡ 0 = omega arith in
    let v = due_cells a.due.now a.work.now.early a.work.now.late in
    let all = serving_all a.row.now (length a.row.now) a.chosen (has_bit a.mask) v a.due.now l.row l.free l.due (rw end at l.invariant.1) in (
      l.invariant.1.row.row.long,
      l.invariant.1.long,
      all.1,
      λ clean. filled_clean a.row.now (length a.row.now) (has_bit a.chosen) (has_bit a.mask) v 64 l.row (has_bit l.free) all.0 (clean c.if-empties.false),
    )
