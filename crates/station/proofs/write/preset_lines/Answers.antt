-- `write::preset_lines` meets its contract. The invariant: the lines of the presets from i on are left. Assumes nothing.
use Prim.Native.Nat.{suc}
use native.Mathlib.Numerals.{add-one}
use native.Mathlib.Omega.{arith}
use mathlib.Core.Path.{◌≡◌}
use mathlib.Core.List.{map}
use lib.ListN.{length, drop, get_or}
use lib.Seq.{drop-length}
use Rattle.station.specs.Text.{join}
use Rattle.station.specs.Form.{preset_line, print}
use Rattle.station.specs.Types.{preset_in, no_record}
use Rattle.station.proofs.output.Runs.{rest_all, rest_wrote, rest_none}
use Rattle.station.proofs.write.HeadLines.{preset_lines_step}
use Rattle.station.proofs.write.preset_lines.Goals as goal

pub loop-preset-init : goal.loop-preset-init
loop-preset-init c = let a = c.args in rest_all a.out.now (join (map print (map preset_line (map preset_in a.presets.now))))

pub loop-preset-preserved : goal.loop-preset-preserved
loop-preset-preserved c = let loop = c.loop-preset in
    let i = loop.preset-index in
    let presets = c.args.presets.now in
    rw add-one
    (rest_wrote (print (preset_line (preset_in (get_or presets i no_record)))) (join (map print (map preset_line (map preset_in (drop (suc i) presets)))))
    (rw (preset_lines_step i presets c.loop-preset-test.true) at loop.invariant) c.preset_line.ensures)

pub returns : goal.returns
returns c = let loop = c.loop-preset in
    let presets = c.args.presets.now in
    let e : loop.preset-index ≡ length presets = omega arith in
    rest_none (rw (e, drop-length presets) at loop.invariant)
