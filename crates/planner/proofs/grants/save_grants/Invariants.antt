-- `grants::save_grants` meets its contract. The invariant: the grants that are left, written to their places, make what is to be written in all. Assumes nothing.
use Prim.Native.Nat.{◌≤◌}
use mathlib.Core.Path.{◌≡◌}
use lib.ListN.{length, drop}
use lib.Seq.{sets}
use Rattle.planner.proofs.grants.save_grants.Given as goal

abbrev pub invariant-loop-i : goal.invariant-loop-i
invariant-loop-i l = (l.i ≤ 32) × (length l.grants ≡ length l.initial.grants) × (sets l.grants l.i (drop l.i l.granted) ≡ sets l.initial.grants 0 l.granted)
