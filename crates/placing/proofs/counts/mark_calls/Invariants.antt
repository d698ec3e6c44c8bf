-- `counts::mark_calls` meets its contract. The loop's invariant: the slots before `s` are marked and counted. Assumes nothing.
use Prim.Native.Nat.{◌*◌}
use mathlib.Core.Path.{◌≡◌}
use Rattle.laws.specs.Sums.{count}
use Rattle.placing.specs.method.Jobs.{marked}
use Rattle.placing.specs.method.Counts.{Marked}
use Rattle.placing.proofs.counts.mark_calls.Given as goal

abbrev pub invariant-loop-s : goal.invariant-loop-s
invariant-loop-s l = Marked l.grid.cells.now (l.s * l.grid.bridges) l.used × (l.jobs ≡ count 256 (marked l.used))
