-- `presets::save_presets` meets its contract. The invariant: the records that are left, written over the bytes, make what is to be written in all. Assumes nothing.
use Prim.Native.Nat.{◌≤◌, ◌*◌}
use mathlib.Core.Path.{◌≡◌}
use lib.ListN.{length, drop}
use Rattle.planner.specs.Layout.{bytes_of, bytes_over}
use lib.Seq.{sets}
use Rattle.planner.proofs.presets.save_presets.Given as goal

abbrev pub invariant-loop-i : goal.invariant-loop-i
invariant-loop-i l = (l.i ≤ 32) × (length l.presets ≡ length l.initial.presets) × (sets l.presets (4 * l.i) (bytes_of (drop l.i l.copied)) ≡ bytes_over l.copied l.initial.presets)
