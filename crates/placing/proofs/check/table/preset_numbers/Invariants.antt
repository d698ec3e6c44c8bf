-- `check::table::preset_numbers` meets its contract. The loop's invariant: the counts are those of the presets before `i`. Assumes nothing.
use mathlib.Core.List.{map}
use mathlib.Core.Path.{◌≡◌}
use lib.ListN.{take}
use Rattle.station.specs.Types.{preset_in}
use Rattle.placing.specs.method.Check.{numbered}
use Rattle.placing.proofs.check.table.preset_numbers.Given as goal

abbrev pub invariant-loop-i : goal.invariant-loop-i
invariant-loop-i l = l.numbers ≡ numbered (map preset_in (take l.fn.lawful.station.now.head.count l.lawful.station.now.presets)) l.i
