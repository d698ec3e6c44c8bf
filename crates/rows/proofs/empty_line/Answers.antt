-- `empty_line` meets its contract. The invariant: the lines to the place `at` are the head's, and the rest are left. Assumes nothing.
use native.Mathlib.Omega.{arith}
use Prim.Native.Nat.{ℕ}
use mathlib.Core.Path.{◌≡◌, sym, ◌∙◌, ap}
use mathlib.Core.Bool.{Bool}
use mathlib.Core.List.{List, [], ◌∷◌}
use lib.Dec.{eqb}
use lib.Pointwise.{pointwise}
use Rattle.rows.specs.Printed.{is_empty}
use Rattle.rows.proofs.InputParts.{compared, at_start, line_inside, at_next, out_empty, out_end}
use Rattle.rows.proofs.empty_line.Goals as goal

-- what the comparison with byte 10 tells of a line
told : (l : List ℕ) {m : List ℕ} {x : Bool} → m ≡ 10 ∷ [] → x ≡ pointwise eqb l m → x ≡ is_empty l
told l e q = q ∙ ap (pointwise eqb l) e ∙ compared l

pub loop-line-init : goal.loop-line-init
loop-line-init c = rw (c.into_iter-line-iterator.ensures.into_iter_gives, c.new-line-items.ensures) (at_start c.args.input.now)

pub returns-then-eq-clause-inside : goal.returns-then-eq-clause-inside
returns-then-eq-clause-inside c =
    let a = rw c.in-Some.ensures.steps at c.loop-line.invariant in
    (out_empty a (sym (told c.in-Some.line.now c.as_slice.ensures c.eq.ensures) ∙ c.if-eq.true)).0

pub returns-then-eq-clause-parts : goal.returns-then-eq-clause-parts
returns-then-eq-clause-parts c =
    let a = rw c.in-Some.ensures.steps at c.loop-line.invariant in
    (out_empty a (sym (told c.in-Some.line.now c.as_slice.ensures c.eq.ensures) ∙ c.if-eq.true)).1

pub loop-line-preserved : goal.loop-line-preserved
loop-line-preserved c =
    let a = rw c.in-Some.ensures.steps at c.loop-line.invariant in
    at_next a (sym (told c.in-Some.line.now c.as_slice.ensures c.eq.ensures) ∙ c.if-eq.false)

pub overflow_add-at : goal.overflow_add-at
overflow_add-at c = let a = rw c.in-Some.ensures.steps at c.loop-line.invariant in omega (arith, line_inside a)

pub returns-clause-parts : goal.returns-clause-parts
returns-clause-parts c = out_end (rw c.in-None.ensures.steps.0 at c.loop-line.invariant)
