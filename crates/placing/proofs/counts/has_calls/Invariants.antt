-- `counts::has_calls` meets its contract. The loop's invariant: the call cells before `b` are counted. Assumes nothing.
use Prim.Native.Nat.{◌+◌, ◌≤◌}
use mathlib.Core.Path.{◌≡◌}
use lib.ListN.{get_or}
use Rattle.laws.specs.Sums.{count}
use Rattle.placing.specs.Table.{is_call}
use Rattle.placing.proofs.counts.has_calls.Given as goal

abbrev pub invariant-loop-b : goal.invariant-loop-b
invariant-loop-b l = (l.calls ≤ l.b) × (l.calls ≡ count l.b (λ j. is_call (get_or l.grid.cells.now (l.from + j) 0)))
