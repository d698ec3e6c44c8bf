-- `counts::mark_calls` meets its contract. The loop's invariant: the slots before `s` are marked and counted. Assumes nothing.
use native.Mathlib.Omega.{arith}
use Prim.Native.Nat.{ℕ}
use native.Mathlib.Nat.{zero-mul}
use mathlib.Core.Path.{sym, ◌∙◌, ap}
use mathlib.Core.Bool.{Bool}
use mathlib.Core.List.{List}
use Rattle.laws.specs.Sums.{count}
use Rattle.laws.proofs.Counts.{count_le}
use Rattle.placing.proofs.HeadRecord.{next_row}
use Rattle.placing.specs.method.Jobs.{marked}
use Rattle.placing.proofs.counts.MarkedNumbers.{marked_none, none_marked, marked_past}
use Rattle.placing.proofs.counts.mark_calls.Goals as goal
use Rattle.placing.proofs.counts.mark_calls.Goals.{else-has_calls, then-has_calls}

pub loop-s-init : goal.loop-s-init
loop-s-init c = let a = c.args in
    (rw (zero-mul a.grid.now.bridges, c.requires) (marked_none a.grid.now.cells.now), rw c.requires (sym none_marked))

pub overflow_add-jobs : goal.overflow_add-jobs
overflow_add-jobs c = let l = c.loop-s in
    omega (arith, l.invariant.1, count_le 256 (marked l.used), c.mark_slot-jobs.ensures.2, c.args.grid.now.few_bridges)

pub loop-s-preserved : goal.loop-s-preserved
loop-s-preserved c = let l = c.loop-s in
    let a = c.args in
    let next = next_row l.s a.grid.now.bridges in
    let many : List Bool → ℕ = λ u. count 256 (marked u) in
    elim c.if-has_calls.branch [ then-has_calls p ↦ (rw p.used-is (rw next at p.mark_slot-jobs.ensures.0), p.jobs-is ∙ omega (arith, l.invariant.1, p.mark_slot-jobs.ensures.1) ∙ sym (ap many p.used-is)) | else-has_calls p ↦ (rw p.used-is (rw next at (marked_past a.grid.now.bridges l.invariant.0 c.args.grid.now.few_bridges (sym c.has_calls.ensures ∙ p.if-has_calls.false))), p.jobs-is ∙ l.invariant.1 ∙ sym (ap many p.used-is)) ]
