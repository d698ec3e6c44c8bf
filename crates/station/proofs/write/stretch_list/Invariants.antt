-- `write::stretch_list` meets its contract. The invariant: `from` is busy or past the end, and the brackets of the slots from there on are left. Assumes nothing.
use Prim.Native.Nat.{◌-◌, ◌≤◌, ◌<◌}
use mathlib.Core.Path.{◌≡◌}
use mathlib.Core.Bool.{true}
use Rattle.station.specs.Head.{has_bit}
use Rattle.station.specs.Writing.{stretches}
use Rattle.station.specs.method.Runs.{stretches_from, brackets_of}
use Rattle.station.specs.Wrote.{Rest}
use Rattle.station.proofs.write.stretch_list.Given as goal

abbrev pub invariant-loop-from : goal.invariant-loop-from
invariant-loop-from l = (l.from ≤ 64) × (l.from < 64 → has_bit l.mask l.from ≡ true)
    × Rest l.initial.out (brackets_of (stretches 64 1 l.mask)) l.out (brackets_of (stretches_from (64 - l.from) l.mask l.from))

abbrev pub decreases-loop-from : goal.decreases-loop-from
decreases-loop-from l = 64 - l.from
