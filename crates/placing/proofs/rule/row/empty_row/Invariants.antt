-- `empty_row` meets its contract. The loop's invariant: the bridges of the mask but those of `rest` are empty. Assumes nothing.
use Prim.Native.Nat.{◌<◌}
use lib.ListN.{length}
use Rattle.station.specs.Head.{has_bit}
use Rattle.placing.proofs.rule.row.EmptiedRow.{Emptying}
use Rattle.placing.proofs.rule.row.empty_row.Given as goal

abbrev pub invariant-loop-rest : goal.invariant-loop-rest
invariant-loop-rest l = (l.rest < 256) × Emptying l.initial.row (length l.initial.row) (has_bit l.mask) l.row (has_bit l.rest)

abbrev pub decreases-loop-rest : goal.decreases-loop-rest
decreases-loop-rest l = l.rest
