-- `search::empty::found_in` meets its contract: the mask is that of the cells passed, and of the
-- first bridges in the end; of these the held ones are counted. Assumes nothing.
use Prim.Native.Nat.{◌+◌, ◌*◌, ◌%◌, ◌^◌, min}
use native.Mathlib.Omega.{arith}
use mathlib.Core.Path.{◌≡◌, sym, ◌∙◌, ap}
use lib.ListN.{get_or}
use lib.Pow.{shl_exact}
use borrow.Author.Tests.{eq-eqb, ne_eqb}
use Rattle.laws.specs.Sums.{only, bit}
use Rattle.laws.proofs.Counts.{bit_le}
use Rattle.placing.specs.method.Search.{held_from}
use Rattle.placing.proofs.search.Parts.{mask_none, mask_more, mask_fits, mask_low, byte_is, held_none, held_here, held_past}
use Rattle.placing.proofs.search.empty.found_in.Goals as goal
use Rattle.placing.proofs.search.empty.found_in.Goals.{else-b-grid, else-v-eq0, then-b-grid, then-v-eq0}

pub loop-b-init : goal.loop-b-init
loop-b-init c = let a = c.args in (sym (mask_none a.grid.now.cells.now c.start-from.result), omega arith, sym (held_none a.grid.now.cells.now c.start-from.result a.grid.now.bridges))

pub overflow_add-mask : goal.overflow_add-mask
overflow_add-mask c = let b = c.loop-b.b in
    omega (arith, mask_fits c.args.grid.now.cells.now c.start-from.result b (omega arith), shl_exact {a = 1} 1 b 8 (omega arith) (omega arith))

pub loop-b-preserved : goal.loop-b-preserved
loop-b-preserved c = let a = c.args in
    let b = c.loop-b.b in
    let v = get_or a.grid.now.cells.now (c.start-from.result + b) 0 in
    let next = mask_more a.grid.now.cells.now c.start-from.result b in (
      elim c.if-v-eq0.branch [
        | then-v-eq0 w ↦ omega (arith, next, ap (λ t. only t (2 ^ b)) (eq-eqb v 0 w.if-v-eq0.true), shl_exact {a = 1} 1 b 8 (omega arith) (omega arith), w.mask-is)
        | else-v-eq0 w ↦ omega (arith, w, next, ap (λ t. only t (2 ^ b)) (ne_eqb v 0 w.if-v-eq0.false))
      ],
      elim c.if-b-grid.branch [
        | then-b-grid w ↦ omega (arith, w.held-is, w.from-held.ensures ∙ byte_is w.is_held.result, bit_le w.is_held.result)
        | else-b-grid w ↦ omega (arith, w)
      ],
      elim c.if-b-grid.branch [
        | then-b-grid w ↦ omega (arith, w.held-is, w.from-held.ensures ∙ byte_is w.is_held.result ∙ ap bit w.is_held.ensures, held_here a.grid.now.cells.now c.start-from.result a.grid.now.bridges b w.if-b-grid.true)
        | else-b-grid w ↦ omega (arith, w, held_past a.grid.now.cells.now c.start-from.result a.grid.now.bridges b w.if-b-grid.false)
      ],
    )

pub returns : goal.returns
returns c = let a = c.args in
    let l = c.loop-b in
    let eight : l.b ≡ 8 = omega arith in
    let all : min l.b a.grid.now.bridges ≡ a.grid.now.bridges = omega arith in
    let power : 1 * 2 ^ a.grid.now.bridges % 65536 ≡ 2 ^ a.grid.now.bridges = shl_exact {a = 1} 1 a.grid.now.bridges 16 (omega arith) (omega arith) ∙ omega arith in (
      rw (power, c.from.ensures, l.invariant.0, eight, c.start-from.ensures.0) (mask_low a.grid.now.cells.now (a.slot * a.grid.now.bridges) a.grid.now.bridges (omega arith)),
      rw c.start-from.ensures.0 at (l.invariant.2 ∙ ap (held_from a.grid.now.cells.now c.start-from.result) all),
    )
