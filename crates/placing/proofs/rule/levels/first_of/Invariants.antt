-- `first_of` meets its contract. The loop's invariant: `rest` has the mask's bits but the first ones, one for each turn, and there were so many. Assumes nothing.
use Prim.Native.Nat.{ℕ, ◌≤◌, ◌<◌, ◌^◌}
use mathlib.Core.Path.{◌≡◌}
use Rattle.laws.specs.Sums.{count}
use Rattle.station.specs.Head.{has_bit}
use Rattle.placing.proofs.rule.row.RowWritten.{untaken}
use Rattle.placing.proofs.rule.levels.first_of.Given as goal

abbrev pub invariant-loop-taken : goal.invariant-loop-taken
invariant-loop-taken l = (l.rest < 2 ^ 64) × ((b : ℕ) → has_bit l.rest b ≡ untaken (has_bit l.mask) l.taken b) × (l.taken ≤ count 64 (has_bit l.mask))
