-- `presets::load_presets` meets its contract. The invariant: the records passed are those read, and there are 32. Assumes nothing.
use Prim.Native.Nat.{◌≤◌}
use mathlib.Core.Path.{◌≡◌}
use Rattle.planner.specs.Layout.{records_in}
use lib.ListN.{length, take}
use Rattle.planner.proofs.presets.load_presets.Given as goal

abbrev pub invariant-loop-i : goal.invariant-loop-i
invariant-loop-i l = (l.i ≤ 32) × (length l.copied ≡ 32) × (take l.i l.copied ≡ take l.i (records_in l.presets))
