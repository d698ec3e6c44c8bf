-- The invariant: the presets so far have different numbers, and theirs are marked.
use Rattle.std.proofs.Common.{take}
use Rattle.station.proofs.check.ValidRecord.{Marked}
use Rattle.station.proofs.check.all_distinct.Given as goal

abbrev pub invariant-loop-preset : goal.invariant-loop-preset
invariant-loop-preset l = Marked (take l.preset-index l.presets) l.marked
