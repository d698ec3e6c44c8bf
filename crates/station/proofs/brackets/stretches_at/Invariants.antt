-- `stretches_at` meets its contract. The invariant: the stretches so far and those from `i` on make what the stretches from `at` on make.
-- The measure is what is left of the text.
-- Assumes nothing.
use Prim.Native.Nat.{◌-◌, min}
use mathlib.Core.Path.{◌≡◌}
use lib.ListN.{length, drop}
use Rattle.station.specs.Form.{read_brackets}
use Rattle.station.specs.method.Bracket.{busy_mask_in}
use Rattle.station.proofs.brackets.StretchMask.{Masked, folded}
use Rattle.station.proofs.brackets.stretches_at.Given as goal

abbrev pub invariant-loop-b : goal.invariant-loop-b
invariant-loop-b l = Masked l.so_far × (folded (min l.slots 64) l.so_far (read_brackets (drop l.i l.text)) ≡ busy_mask_in (min l.slots 64) (read_brackets (drop l.at l.text)))

abbrev pub decreases-loop-b : goal.decreases-loop-b
decreases-loop-b l = length l.text - l.i
