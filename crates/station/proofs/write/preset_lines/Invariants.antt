-- `write::preset_lines` meets its contract. The invariant: the lines of the presets from i on are left. Assumes nothing.
use mathlib.Core.List.{map}
use lib.ListN.{drop}
use Rattle.station.specs.Text.{join}
use Rattle.station.specs.Form.{preset_line, print}
use Rattle.station.specs.Types.{preset_in}
use Rattle.station.specs.Wrote.{Rest}
use Rattle.station.proofs.write.preset_lines.Given as goal

abbrev pub invariant-loop-preset : goal.invariant-loop-preset
invariant-loop-preset l = Rest l.initial.out (join (map print (map preset_line (map preset_in l.presets)))) l.out (join (map print (map preset_line (map preset_in (drop l.preset-index l.presets)))))
