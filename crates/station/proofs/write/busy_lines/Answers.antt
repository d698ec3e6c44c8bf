-- `write::busy_lines` meets its contract. The invariant: the lines of the bridges from b on are left. Assumes nothing.
use Prim.Native.Nat.{suc}
use native.Mathlib.Numerals.{add-one}
use native.Mathlib.Omega.{arith}
use mathlib.Core.Path.{◌≡◌}
use mathlib.Core.List.{map}
use lib.ListN.{length, drop, get_or}
use lib.Seq.{drop-length}
use Rattle.station.specs.Text.{join}
use Rattle.station.specs.Form.{print}
use Rattle.station.specs.Writing.{busy_lines, busy_line_of, stretches}
use Rattle.station.proofs.output.Runs.{rest_all, rest_wrote, rest_none}
use Rattle.station.proofs.write.HeadLines.{busy_lines_step}
use Rattle.station.proofs.write.busy_lines.Goals as goal

pub loop-b-init : goal.loop-b-init
loop-b-init c = let a = c.args in rest_all a.out.now (join (map print (busy_lines 1 a.busy.now)))

pub loop-b-preserved : goal.loop-b-preserved
unfolding busy_lines
loop-b-preserved c = let loop = c.loop-b in
    let b = loop.b in
    let busy = c.args.busy.now in
    rw add-one
    (rest_wrote (join (map print (busy_line_of (suc b) (stretches 64 1 (get_or busy b 0))))) (join (map print (busy_lines (suc (suc b)) (drop (suc b) busy))))
    (rw (busy_lines_step b busy c.loop-b-test.true) at loop.invariant) (rw add-one at c.busy_line.ensures))

pub returns : goal.returns
unfolding busy_lines
returns c = let loop = c.loop-b in
    let busy = c.args.busy.now in
    let e : loop.b ≡ length busy = omega arith in
    rest_none (rw (e, drop-length busy) at loop.invariant)
