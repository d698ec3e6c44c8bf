-- Laws of the choice in one slot: the case of a job that needs something, and jobs past the last one, which need nothing.
-- Assumes nothing.
use Prim.Native.Nat.{ℕ, ◌+◌, ◌≤◌, ◌<◌}
use native.Mathlib.Omega.{arith}
use mathlib.Core.Path.{◌≡◌, refl, sym, ◌∙◌, ap}
use mathlib.Core.Bool.{Bool, ◌&&◌}
use lib.Dec.{ltb}
use Rattle.laws.specs.Sums.{bit, position}
use Rattle.laws.specs.Placement.{goes_first, chosen}
use Rattle.laws.proofs.Tests.{Is, is_true, is_false, is}
use Rattle.laws.proofs.Comparisons.{lt_of, ge_of, ltb_yes, ltb_no}
use Rattle.laws.proofs.Sums.{sum_below}
use Rattle.laws.proofs.Counts.{bit_le}
use Rattle.laws.proofs.Placement.{chosen_ext}

-- a job that needs something is chosen by its position alone
pub chosen_by_position : (r : ℕ → ℕ → Bool) (k : ℕ) (c : ℕ → ℕ) (d i : ℕ) → (c i ≡ 0 → ⊥) → ltb (position k (goes_first r c) i) d ≡ chosen r k c d i
chosen_by_position r k c d i h = rw (ltb_yes 0 (c i) (omega arith)) refl

-- the choice goes by the jobs that need something, and by the order of ties between them
pub chosen_past : (r q : ℕ → ℕ → Bool) (k n : ℕ) (c : ℕ → ℕ) → k ≤ n → ((j : ℕ) → k ≤ j → c j ≡ 0) → ((j i : ℕ) → j < k → i < k → r j i ≡ q j i)
    → (d i : ℕ) → chosen r n c d i ≡ chosen q k c d i
chosen_past r q k n c h none agree d i = go (is (ltb 0 (c i))) (is (ltb i k))
  where
    go : Is (ltb 0 (c i)) → Is (ltb i k) → chosen r n c d i ≡ chosen q k c d i
    go (is_true e) (is_true l) =
        ap (λ (m : ℕ). ltb 0 (c i) && ltb m d)
        (sym (sum_below k n (λ j. bit (goes_first r c j i)) h (λ j m p.
        ap bit (ltb_no (c i) (c j + bit (r j i)) (omega (arith, none j m, bit_le (r j i), lt_of 0 (c i) e))))))
        ∙ chosen_ext r q k c d agree i (lt_of i k l)
    go (is_true e) (is_false l) = absurd (omega (arith, none i (ge_of i k l), lt_of 0 (c i) e))
    go (is_false e) l = rw e refl
