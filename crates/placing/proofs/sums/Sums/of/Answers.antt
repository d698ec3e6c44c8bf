-- `Sums::of` meets its contract. Assumes nothing.
use Prim.Native.Nat.{◌*◌}
use native.Mathlib.Omega.{arith}
use mathlib.Core.Path.{◌≡◌, sym}
use Rattle.laws.specs.Lists.{at}
use Rattle.laws.proofs.Loops.{sum_none, sum_more}
use Rattle.laws.proofs.Stores.{zeros}
use Rattle.placing.proofs.grants.Arrays.{sums_none, sums_more, sums_all, raised_low}
use Rattle.placing.proofs.sums.Sums.of.Goals as goal

pub loop-i-init : goal.loop-i-init
loop-i-init c = (sums_none c.args.k (at c.args.needs.now), λ r low. omega (arith, zeros 9 r), sym (sum_none (at c.args.needs.now)), omega arith)

pub raise-requires : goal.raise-requires
raise-requires c = let l = c.loop-i in
    record { long = l.invariant.0.long; part = λ q low. omega arith; low = λ q low. omega (arith, l.invariant.1 q low); small = omega arith; within = omega arith; few = omega (arith, l.invariant.3) }

pub loop-i-preserved : goal.loop-i-preserved
loop-i-preserved c = let l = c.loop-i in (
  sums_more c.args.k (at c.args.needs.now) l.i _ l.sums.largest _ (omega arith) l.invariant.0 c.raise.ensures.0 c.from.ensures,
  λ r low. omega (arith, raised_low l.sums.largest _ 0 _ (255 * l.i) c.raise.ensures.0 l.invariant.1 r low),
  omega (arith, c.raise.ensures.1, l.invariant.2, c.from.ensures, sum_more l.i (at c.args.needs.now)),
  omega (arith, c.raise.ensures.1, l.invariant.3, c.from.ensures),
)

pub returns : goal.returns
returns c = let l = c.loop-i in
    let e : l.i ≡ c.args.k = omega arith in
    (record { largest = sums_all c.args.k (at c.args.needs.now) l.sums.largest (rw e at l.invariant.0); total = rw e at l.invariant.2 }, omega (arith, l.invariant.3))
