-- `numbers::masks_of` meets its contract. The invariant: the masks passed are those read, and there are eight. Assumes nothing.
use Rattle.std.proofs.Common.{◌≡◌, ℕ, ◌+◌, ◌<◌, length, get_or}
use Rattle.planner.proofs.numbers.masks_of.Given as goal

abbrev pub invariant-loop-b : goal.invariant-loop-b
invariant-loop-b l = (length l.busy ≡ 8) × ((k : ℕ) → k < l.b → get_or l.busy k 0 ≡ get_or l.frame (4 + k) 0)
