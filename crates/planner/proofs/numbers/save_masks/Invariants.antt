-- `numbers::save_masks` meets its contract. The invariant: the masks that are left, written to their places, make what is to be written in all. Assumes nothing.
use Prim.Native.Nat.{◌≤◌, ◌+◌}
use mathlib.Core.Path.{◌≡◌}
use lib.ListN.{length, drop}
use lib.Seq.{sets}
use Rattle.planner.proofs.numbers.save_masks.Given as goal

abbrev pub invariant-loop-b : goal.invariant-loop-b
invariant-loop-b l = (l.b ≤ 8) × (length l.frame ≡ length l.initial.frame) × (sets l.frame (4 + l.b) (drop l.b l.busy) ≡ sets l.initial.frame 4 l.busy)
