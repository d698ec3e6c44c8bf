-- `stretch_mask` meets its contract: 2 ^ t is twice 2 ^ (t - 1).
-- Assumes nothing.
use Prim.Native.Nat.{◌-◌}
use native.Mathlib.Omega.{arith}
use Rattle.station.proofs.brackets.StretchMask.{shift_one, low_high, mask_parts, mask_parts_fit}
use Rattle.station.proofs.brackets.stretch_mask.Goals as goal

pub overflow_sub-result : goal.overflow_sub-result
overflow_sub-result c = let s = c.args in
    omega (
      arith,
      shift_one (s.first - 1) (omega arith),
      shift_one (s.last - 1) (omega arith),
      low_high s.first s.last (omega arith) (omega arith),
    )

pub overflow_add-result : goal.overflow_add-result
overflow_add-result c = let s = c.args in
    omega (
      arith,
      shift_one (s.first - 1) (omega arith),
      shift_one (s.last - 1) (omega arith),
      mask_parts_fit s.first s.last (omega arith) (omega arith) (omega arith),
    )

pub returns : goal.returns
returns c = let s = c.args in
    omega (
      arith,
      shift_one (s.first - 1) (omega arith),
      shift_one (s.last - 1) (omega arith),
      mask_parts s.first s.last (omega arith) (omega arith),
    )
