-- `counts::mark_slot` meets its contract. The loop's invariant: the cells before `b` are marked and counted. Assumes nothing.
use Prim.Native.Nat.{◌+◌, ◌≤◌}
use mathlib.Core.Path.{◌≡◌}
use Rattle.laws.specs.Sums.{count}
use Rattle.placing.specs.method.Jobs.{marked}
use Rattle.placing.specs.method.Counts.{Marked}
use Rattle.placing.proofs.counts.mark_slot.Given as goal

abbrev pub invariant-loop-b : goal.invariant-loop-b
invariant-loop-b l = Marked l.grid.cells.now (l.from + l.b) l.used × (count 256 (marked l.used) ≡ count 256 (marked l.initial.used) + l.jobs) × (l.jobs ≤ l.b)
