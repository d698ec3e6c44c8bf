-- `counts::usable::usable_in` meets its contract. The loop's invariant: the cells before `b` that are within the slot are counted. Assumes nothing.
use native.Mathlib.Omega.{arith}
use Prim.Native.Nat.{ℕ, ◌-◌, min}
use mathlib.Core.Path.{◌≡◌, ◌∙◌, ap, ap₂}
use mathlib.Core.Bool.{Bool}
use Rattle.laws.specs.Sums.{count}
use Rattle.laws.proofs.Loops.{sum_none, count_here, count_past}
use Rattle.placing.specs.method.Counts.{free_cell, staying_cell, usable_in}
use Rattle.placing.proofs.OneBit.{one_bit}
use Rattle.placing.proofs.counts.usable.usable_in.Invariants.{along}
use Rattle.placing.proofs.counts.usable.usable_in.Goals as goal
use Rattle.placing.proofs.counts.usable.usable_in.Goals.{else-b-grid, then-b-grid}

pub loop-b-init : goal.loop-b-init
loop-b-init c = let a = c.args in
    let z : min 0 a.grid.now.bridges ≡ 0 = omega arith in
    let none : (p : ℕ → Bool) → count (min 0 a.grid.now.bridges) p ≡ 0 = λ p. ap (λ (n : ℕ). count n p) z ∙ sum_none _ in
    (omega arith, omega (arith, none (along free_cell a.grid.now.cells.now c.start-from.result)), omega arith, omega (arith, none (along staying_cell a.grid.now.cells.now c.start-from.result)))

pub loop-b-preserved : goal.loop-b-preserved
loop-b-preserved c = let i = c.loop-b.invariant in
    let b = c.loop-b.b in
    let a = c.args in
    let one = one_bit _ _ c.from-one.ensures c.is_free.ensures in
    let other = one_bit _ _ c.from-other.ensures c.is_staying.ensures in
    let frees = along free_cell a.grid.now.cells.now c.start-from.result in
    let stays = along staying_cell a.grid.now.cells.now c.start-from.result in (
      elim c.if-b-grid.branch [ then-b-grid w ↦ omega (arith, w, i.0, one.1) | else-b-grid w ↦ omega (arith, w, i.0) ],
      elim c.if-b-grid.branch [ then-b-grid w ↦ omega (arith, w, i.1, one.0, count_here a.grid.now.bridges b frees w.if-b-grid.true) | else-b-grid w ↦ omega (arith, w, i.1, count_past a.grid.now.bridges b frees w.if-b-grid.false) ],
      elim c.if-b-grid.branch [ then-b-grid w ↦ omega (arith, w, i.2, other.1) | else-b-grid w ↦ omega (arith, w, i.2) ],
      elim c.if-b-grid.branch [ then-b-grid w ↦ omega (arith, w, i.3, other.0, count_here a.grid.now.bridges b stays w.if-b-grid.true) | else-b-grid w ↦ omega (arith, w, i.3, count_past a.grid.now.bridges b stays w.if-b-grid.false) ],
    )

pub returns : goal.returns
unfolding usable_in
returns c = let l = c.loop-b in
    let a = c.args in
    let e : min 8 a.grid.now.bridges ≡ a.grid.now.bridges = omega arith in
    let all : (p : ℕ → Bool) → count (min 8 a.grid.now.bridges) p ≡ count a.grid.now.bridges p = λ p. ap (λ (n : ℕ). count n p) e in
    let end : l.b ≡ 8 = omega arith in (
      rw c.start-from.ensures.0 at (c.min.ensures
          ∙ ap₂ min (c.from.ensures ∙ l.invariant.1 ∙ ap (λ (n : ℕ). count (min n a.grid.now.bridges) (along free_cell a.grid.now.cells.now c.start-from.result)) end ∙ all (along free_cell a.grid.now.cells.now c.start-from.result))
          (c.saturating_sub.ensures ∙ ap (λ (n : ℕ). a.grid.now.fed - n) (c.from-2.ensures ∙ l.invariant.3 ∙ ap (λ (n : ℕ). count (min n a.grid.now.bridges) (along staying_cell a.grid.now.cells.now c.start-from.result)) end ∙ all (along staying_cell a.grid.now.cells.now c.start-from.result)))),
      omega (arith, c.min.ensures, c.from.ensures, l.invariant.0, end),
    )
