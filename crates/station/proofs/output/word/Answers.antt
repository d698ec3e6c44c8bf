-- `output::word` meets its contract: one byte more is stored in its place.
use Prim.Native.Nat.{suc, ◌+◌, ◌<◌}
use native.Mathlib.Nat.{add-zero}
use native.Mathlib.Numerals.{add-one}
use native.Mathlib.Omega.{arith}
use mathlib.Core.List.{[], ◌∷◌}
use mathlib.Core.Path.{◌≡◌}
use lib.ListN.{length, drop, get_or}
use lib.Seq.{drop-cons, drop-length}
use Rattle.station.proofs.output.Runs.{wrote_byte, left_all, left_wrote, left_none}
use Rattle.station.proofs.output.word.Goals as goal

pub loop-i-init : goal.loop-i-init
loop-i-init c = let a = c.args in (omega arith, rw add-zero (left_all a.out.now a.at a.text.now))

pub loop-i-preserved : goal.loop-i-preserved
loop-i-preserved c = let loop = c.loop-i in
    let a = c.args in
    let text = a.text.now in
    let i = loop.i in
    let h : i < length text = c.loop-i-test.true in
    let e : a.at + suc i ≡ a.at + i + 1 = omega arith in (
      omega arith,
      rw (add-one i, e) (left_wrote (get_or text i 0 ∷ []) (drop (suc i) text) (rw (drop-cons text i 0) at loop.invariant.1) (wrote_byte loop.out (a.at + i) (get_or text i 0) (omega (arith, loop.invariant.1.size)))),
    )

pub returns : goal.returns
returns c = let loop = c.loop-i in
    let text = c.args.text.now in
    let e : loop.i ≡ length text = omega arith in
    left_none (rw (e, drop-length text) at loop.invariant.1)
