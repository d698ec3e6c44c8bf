-- A test as a number: what `u16::from` and `usize::from` make of it is 1 where it holds, else 0.
-- Assumes nothing.
use Prim.Native.Nat.{ℕ, ◌≤◌}
use native.Mathlib.Omega.{arith}
use mathlib.Core.Path.{◌≡◌, ◌∙◌, ap}
use mathlib.Core.Bool.{Bool, true, false}
use mir.Val.{bool_byte}
use Rattle.laws.specs.Sums.{bit}

pub one_bit : {n : ℕ} (r b : Bool) → n ≡ bool_byte r → r ≡ b → (n ≡ bit b) × (n ≤ 1)
one_bit r true e q = let f = e ∙ ap bool_byte q in (f, omega (arith, f))
one_bit r false e q = let f = e ∙ ap bool_byte q in (f, omega (arith, f))
