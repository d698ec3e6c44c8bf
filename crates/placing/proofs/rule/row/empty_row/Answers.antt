-- `empty_row` meets its contract. The loop's invariant: the bridges of the mask but those of `rest` are empty. Assumes nothing.
use Prim.Native.Nat.{ℕ, ◌-◌, ◌<◌}
use native.Mathlib.Omega.{arith}
use mathlib.Core.Path.{◌≡◌, ◌∙◌, ap}
use mathlib.Core.Bool.{true, not, ◌&&◌}
use lib.Bits.{bit_and, and_le_l}
use lib.Count.{count_trailing_zeros}
use lib.Dec.{eqb}
use lib.ListN.{length}
use Rattle.station.specs.Head.{has_bit}
use Rattle.placing.proofs.MaskBits.{has_bit_zero, lowest, cleared}
use Rattle.placing.proofs.rule.row.EmptiedRow.{emptying_none, emptying_next, emptying_past, emptying_all}
use Rattle.placing.proofs.rule.row.empty_row.Goals as goal
use Rattle.placing.proofs.rule.row.empty_row.Goals.{else-b-row, then-b-row}

pub loop-rest-init : goal.loop-rest-init
loop-rest-init c = let a = c.args in (omega arith, emptying_none a.row.now (length a.row.now) (has_bit a.mask))

pub loop-rest-preserved : goal.loop-rest-preserved
loop-rest-preserved c = let l = c.loop-rest in
    let a = c.args in
    let t = a.row.now in
    let some : 0 < l.rest = omega arith in
    let z = count_trailing_zeros 8 l.rest in
    let here : has_bit l.rest z ≡ true = (lowest 8 l.rest some l.invariant.0).set in
    let fewer : (b : ℕ) → has_bit (bit_and l.rest (l.rest - 1)) b ≡ (has_bit l.rest b && not (eqb b z)) = cleared 8 l.rest some l.invariant.0 in (
      omega (arith, l.invariant.0, and_le_l l.rest (l.rest - 1)),
      (elim c.if-b-row.branch [
        | then-b-row w ↦ rw w.row-is (emptying_next t (length t) (has_bit a.mask) l.row (has_bit l.rest) (has_bit (bit_and l.rest (l.rest - 1))) z l.invariant.1 here fewer
            (omega (arith, w.if-b-row.true, l.invariant.1.row.long)) (omega arith))
        | else-b-row w ↦ rw w.row-is (emptying_past t (length t) (has_bit a.mask) l.row (has_bit l.rest) (has_bit (bit_and l.rest (l.rest - 1))) z l.invariant.1 here fewer
            (omega (arith, w.if-b-row.false, l.invariant.1.row.long)))
      ]),
    )

pub returns : goal.returns
returns c = let l = c.loop-rest in
    let a = c.args in
    let end : l.rest ≡ 0 = omega arith in
    emptying_all a.row.now (length a.row.now) (has_bit a.mask) l.row (has_bit l.rest) l.invariant.1 (λ b h. ap (λ (m : ℕ). has_bit m b) end ∙ has_bit_zero b)
