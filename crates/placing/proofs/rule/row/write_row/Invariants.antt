-- `write_row` meets its contract. The loop's invariant: the jobs before those in `jobs` have written their cells and have one less due, and `free` has the
-- bridges that are left. Assumes nothing.
use Prim.Native.Nat.{◌<◌}
use lib.ListN.{length}
use Rattle.station.specs.Head.{has_bit}
use Rattle.placing.specs.method.Rule.{due_cells}
use Rattle.placing.proofs.rule.row.ServedJobs.{Serving}
use Rattle.placing.proofs.rule.row.write_row.Given as goal

abbrev pub invariant-loop-jobs : goal.invariant-loop-jobs
invariant-loop-jobs l = (l.free < 256) × Serving l.initial.row (length l.initial.row) l.chosen (has_bit l.mask) (due_cells l.initial.due l.work.early l.work.late) l.initial.due l.row l.free l.jobs l.due

abbrev pub decreases-loop-jobs : goal.decreases-loop-jobs
decreases-loop-jobs l = l.jobs
