-- `rows::text::all_rows` meets its contract. The invariant: the rows of the bridges from b on are left. Assumes nothing.
use Prim.Native.Nat.{suc}
use native.Mathlib.Numerals.{add-one}
use native.Mathlib.Omega.{arith}
use mathlib.Core.Path.{◌≡◌}
use lib.ListN.{length, drop, get_or}
use lib.Seq.{drop-length}
use Rattle.station.specs.Writing.{stretches}
use Rattle.station.specs.Row.{bridge_rows, mask_rows, bare, rows_text}
use Rattle.station.proofs.output.Runs.{rest_all, rest_wrote, rest_none}
use Rattle.station.proofs.rows.RowRuns.{bridge_rows_step}
use Rattle.station.proofs.rows.text.all_rows.Goals as goal

pub loop-b-init : goal.loop-b-init
unfolding rows_text
loop-b-init c = let a = c.args in rest_all a.out.now (rows_text a.busy.now)

pub loop-b-preserved : goal.loop-b-preserved
loop-b-preserved c = let loop = c.loop-b in
    let b = loop.b in
    let busy = c.args.busy.now in
    rw add-one
    (rest_wrote (bare (bridge_rows (suc b) (stretches 64 1 (get_or busy b 0)))) (bare (mask_rows (suc (suc b)) (drop (suc b) busy)))
    (rw (bridge_rows_step b busy c.loop-b-test.true) at loop.invariant) (rw add-one at c.bridge_rows.ensures))

pub returns : goal.returns
unfolding mask_rows bare
returns c = let loop = c.loop-b in
    let busy = c.args.busy.now in
    let e : loop.b ≡ length busy = omega arith in
    rest_none (rw (e, drop-length busy) at loop.invariant)
