-- `first_of` meets its contract. The loop's invariant: `rest` has the mask's bits but the first ones, one for each turn, and there were so many. Assumes nothing.
use Prim.Native.Nat.{◌-◌, ◌<◌}
use native.Mathlib.Omega.{arith}
use mathlib.Core.Path.{◌≡◌}
use lib.Bits.{and_le_l}
use borrow.Author.Rules.{rules}
use Rattle.station.specs.Head.{has_bit}
use Rattle.placing.proofs.rule.row.RowWritten.{untaken_none}
use Rattle.placing.proofs.rule.Sets.{clear_more, clear_some, clear_none, first_all, first_cleared}
use Rattle.placing.proofs.rule.levels.first_of.Goals as goal

pub loop-taken-init : goal.loop-taken-init
loop-taken-init c = (search rules, λ b. untaken_none (has_bit c.args.mask) b, omega arith)

pub returns-then-rest-eq0 : goal.returns-then-rest-eq0
returns-then-rest-eq0 c = let l = c.loop-taken in
    let a = c.args in
    let none = clear_none (has_bit a.mask) l.taken l.rest l.invariant.0 l.invariant.1 c.if-rest-eq0.true in
    (first_all a.mask a.d (omega (arith, none)), omega (arith, none, l.invariant.2))

pub loop-taken-preserved : goal.loop-taken-preserved
loop-taken-preserved c = let l = c.loop-taken in
    let some : 0 < l.rest = omega (arith, c.if-rest-eq0.false) in
    let all = has_bit c.args.mask in (
      omega (arith, and_le_l l.rest (l.rest - 1)),
      clear_more all l.taken l.rest l.invariant.0 l.invariant.1,
      omega (arith, clear_some all l.taken l.rest l.invariant.0 l.invariant.1 some),
    )

pub returns : goal.returns
returns c = let l = c.loop-taken in
    let a = c.args in
    let all : l.taken ≡ a.d = omega arith in
    (λ i h. first_cleared a.mask a.d l.rest (rw all at l.invariant.1) i, omega (arith, all, l.invariant.2))
