-- `output::word_by_bytes` meets its contract: one byte more is put.
use Prim.Native.Nat.{suc, ◌<◌}
use native.Mathlib.Numerals.{add-one}
use native.Mathlib.Omega.{arith}
use mathlib.Core.List.{[], ◌∷◌}
use mathlib.Core.Path.{◌≡◌}
use lib.ListN.{length, drop, get_or}
use lib.Seq.{drop-cons, drop-length}
use Rattle.station.proofs.output.Runs.{left_wrote, left_none}
use Rattle.station.proofs.output.word_by_bytes.Goals as goal

pub loop-byte-preserved : goal.loop-byte-preserved
loop-byte-preserved c = let loop = c.loop-byte in
    let text = c.args.text.now in
    let i = loop.byte-index in
    let h : i < length text = c.loop-byte-test.true in
    rw add-one (left_wrote (get_or text i 0 ∷ []) (drop (suc i) text) (rw (drop-cons text i 0) at loop.invariant) c.put-position.ensures)

pub returns : goal.returns
returns c = let loop = c.loop-byte in
    let text = c.args.text.now in
    let e : loop.byte-index ≡ length text = omega arith in
    left_none (rw (e, drop-length text) at loop.invariant)
