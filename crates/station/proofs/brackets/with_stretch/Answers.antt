-- `with_stretch` meets its contract: the stretch is added to the mask without overlap.
-- Assumes nothing.
use native.Mathlib.Omega.{arith}
use Rattle.station.proofs.brackets.StretchMask.{more_fits}
use Rattle.station.proofs.brackets.with_stretch.Goals as goal

pub overflow_add-result-2 : goal.overflow_add-result-2
overflow_add-result-2 c = let s = c.args in
    let e = c.stretch_mask.ensures in
    omega (arith, more_fits s.s s.first s.last c.requires.0 (omega arith) (omega arith) (omega arith))
