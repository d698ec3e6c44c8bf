-- "A slot's free bridges are kept as one bit each."
-- Assumes nothing.
use Rattle.std.specs.Prelude.{ℕ, zero, suc, ◌+◌, ◌^◌, Bool}
use Rattle.laws.specs.Sums.{only}

-- the mask of the bridges below n that pass a test: bridge b is the bit of worth 2 ^ b
unfoldable pub bridge_mask : ℕ → (ℕ → Bool) → ℕ
bridge_mask zero f = 0
bridge_mask (suc n) f = bridge_mask n f + only (f n) (2 ^ n)
