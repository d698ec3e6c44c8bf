-- Laws of a slot's mask of free bridges.
--
-- In order: the bits of a number, lowest first (`taken-..`); the bits of the mask of a test
-- (`has_bit_mask`); the lowest bit that is set (`lowest`, `none_below_lowest`, `some_lowest`), and what is left without it
-- (`cleared`).
-- Assumes nothing.
use Prim.Native.Nat.{ℕ, zero, suc, ◌+◌, ◌-◌, ◌*◌, ◌/◌, ◌%◌, ◌^◌, ◌<◌}
use native.Mathlib.Nat.{pow-suc}
use native.Mathlib.Numerals.{one-add}
use native.Mathlib.Omega.{arith}
use mathlib.Core.Path.{◌≡◌, refl, sym, ◌∙◌, ap}
use mathlib.Core.Logic.{◌⊎◌, inl, inr}
use mathlib.Core.Bool.{Bool, true, false, not, ◌&&◌, and-true}
use lib.Count.{count_trailing_zeros, trailing_of_zero}
use lib.Bits.{bit_and, and_step, and_self}
use lib.Dec.{eqb, eqb-suc-zero, eqb-suc-suc}
use lib.Pow.{shr-shr}
use Rattle.laws.specs.Sums.{bit}
use Rattle.laws.proofs.Tests.{Is, is_true, is_false, is}
use Rattle.laws.proofs.Comparisons.{eq_of, ne_of, eqb_yes, eqb_no}
use Rattle.station.specs.Head.{has_bit}
use Rattle.placing.specs.method.Mask.{bridge_mask}
use Rattle.placing.proofs.BridgeMask.{mask_first}

-- ---- the bits of a number

pub has_bit_half : (m b : ℕ) → has_bit m (suc b) ≡ has_bit (m / 2) b
has_bit_half m b =
    ap (λ (n : ℕ). eqb (n % 2) 1) (ap (λ (k : ℕ). m / 2 ^ k) (sym (one-add b)) ∙ sym (shr-shr m 1 b))

-- ---- the mask of a test

pub has_bit_mask : (n : ℕ) (f : ℕ → Bool) (b : ℕ) → b < n → has_bit (bridge_mask n f) b ≡ f b
has_bit_mask zero f b h = absurd (omega arith)
has_bit_mask (suc n) f zero h = go (f 0) (mask_first n f)
  where
    go : (a : Bool) → bridge_mask (suc n) f ≡ bit a + 2 * bridge_mask n (λ b. f (suc b)) → has_bit (bridge_mask (suc n) f) 0 ≡ a
    go true e = eqb_yes (bridge_mask (suc n) f / 2 ^ 0 % 2) 1 (omega (arith, e))
    go false e = eqb_no (bridge_mask (suc n) f / 2 ^ 0 % 2) 1 (λ q. omega (arith, e))
has_bit_mask (suc n) f (suc b) h =
    has_bit_half (bridge_mask (suc n) f) b
    ∙ ap (λ (m : ℕ). has_bit m b) (half (f 0) (mask_first n f))
    ∙ has_bit_mask n (λ a. f (suc a)) b (omega arith)
  where
    half : (a : Bool) → bridge_mask (suc n) f ≡ bit a + 2 * bridge_mask n (λ b. f (suc b)) → bridge_mask (suc n) f / 2 ≡ bridge_mask n (λ b. f (suc b))
    half true e = omega (arith, e)
    half false e = omega (arith, e)

-- ---- the lowest bit that is set, and a number without it

pub parity : (m : ℕ) → Is (eqb (m % 2) 1) → (m % 2 ≡ 1) ⊎ (m % 2 ≡ 0)
parity m (is_true e) = inl (eq_of (m % 2) 1 e)
parity m (is_false e) = inr (let ne : m % 2 ≡ 1 → ⊥ = ne_of (m % 2) 1 e in omega arith)

taken_odd : (m : ℕ) → m % 2 ≡ 1 → has_bit m 0 ≡ true
taken_odd m e = eqb_yes (m / 2 ^ 0 % 2) 1 (omega (arith, e))

pub taken_even : (m : ℕ) → m % 2 ≡ 0 → has_bit m 0 ≡ false
taken_even m e = eqb_no (m / 2 ^ 0 % 2) 1 (λ q. omega (arith, e))

-- of a number of n bits that is not 0: the bit at `count_trailing_zeros` is set, and none below it
pub record Lowest (n m : ℕ) : Type 0 where
  pub within : count_trailing_zeros n m < n
  pub set : has_bit m (count_trailing_zeros n m) ≡ true
  pub none_below : (b : ℕ) → b < count_trailing_zeros n m → has_bit m b ≡ false

pub lowest : (n m : ℕ) → 0 < m → m < 2 ^ n → Lowest n m
unfolding count_trailing_zeros
lowest zero m p h = absurd (omega arith)
lowest (suc n) m p h = go (λ q. lowest n (m / 2) q (omega (arith, pow-suc 2 n))) (parity m (is (eqb (m % 2) 1)))
  where
    go : (0 < m / 2 → Lowest n (m / 2)) → (m % 2 ≡ 1) ⊎ (m % 2 ≡ 0) → Lowest (suc n) m
    go ih (inl e) =
        record { within = rw e (omega arith); set = rw e (taken_odd m e); none_below = rw e (λ b l. absurd (omega arith)) }
    go ih (inr e) =
        let i = ih (omega (arith, e)) in
        record {
          within = rw e (omega (arith, i.within));
          set = rw e (has_bit_half m (count_trailing_zeros n (m / 2)) ∙ i.set);
          none_below = rw e (λ b. below i b);
        }
      where
        below : Lowest n (m / 2) → (b : ℕ) → b < suc (count_trailing_zeros n (m / 2)) → has_bit m b ≡ false
        below i zero l = taken_even m e
        below i (suc b) l = has_bit_half m b ∙ i.none_below b (omega arith)

pub has_bit_zero : (b : ℕ) → has_bit 0 b ≡ false
has_bit_zero zero = refl
has_bit_zero (suc b) = has_bit_half 0 b ∙ has_bit_zero b

-- a mask with a bit below n is not 0
pub some_bit : (n m : ℕ) → count_trailing_zeros n m < n → 0 < m
some_bit n zero l = absurd (omega (arith, l, trailing_of_zero n))
some_bit n (suc m) l = omega arith

-- Of any number of n bits, 0 included, where `count_trailing_zeros` is n: no bit below it is set, and one is if it is below n.
pub none_below_lowest : (n m : ℕ) → m < 2 ^ n → (b : ℕ) → b < count_trailing_zeros n m → has_bit m b ≡ false
none_below_lowest n zero h b l = has_bit_zero b
none_below_lowest n (suc m) h b l = (lowest n (suc m) (omega arith) h).none_below b l

pub some_lowest : (n m : ℕ) → count_trailing_zeros n m < n → 0 < m
some_lowest n zero h = absurd (omega (arith, trailing_of_zero n))
some_lowest n (suc m) h = omega arith

-- m & (m - 1) has the bits of m but the lowest one
pub cleared : (n m : ℕ) → 0 < m → m < 2 ^ n → (b : ℕ) → has_bit (bit_and m (m - 1)) b ≡ (has_bit m b && not (eqb b (count_trailing_zeros n m)))
unfolding count_trailing_zeros
cleared zero m p h b = absurd (omega arith)
cleared (suc n) m p h b = go b (λ q a. cleared n (m / 2) q (omega (arith, pow-suc 2 n)) a) (parity m (is (eqb (m % 2) 1)))
  where
    odd : m % 2 ≡ 1 → bit_and m (m - 1) ≡ m - 1
    odd e =
        let half : (m - 1) / 2 ≡ m / 2 = omega (arith, e) in
        let low : (m - 1) % 2 ≡ 0 = omega (arith, e) in
        and_step m (m - 1) ∙ (rw (half, low, e, and_self (m / 2)) (omega (arith, e)))

    even : m % 2 ≡ 0 → bit_and m (m - 1) ≡ bit_and (m / 2) (m / 2 - 1) * 2
    even e =
        let half : (m - 1) / 2 ≡ m / 2 - 1 = omega (arith, e) in
        let low : (m - 1) % 2 ≡ 1 = omega (arith, e) in
        and_step m (m - 1) ∙ (rw (half, low, e) (omega arith))

    go : (b : ℕ) → (0 < m / 2 → (a : ℕ) → has_bit (bit_and (m / 2) (m / 2 - 1)) a ≡ (has_bit (m / 2) a && not (eqb a (count_trailing_zeros n (m / 2)))))
        → (m % 2 ≡ 1) ⊎ (m % 2 ≡ 0) → has_bit (bit_and m (m - 1)) b ≡ (has_bit m b && not (eqb b (count_trailing_zeros (suc n) m)))
    go zero ih (inl e) = rw (odd e, taken_odd m e, e) (taken_even (m - 1) (omega (arith, e)))
    go (suc b) ih (inl e) =
        let half : (m - 1) / 2 ≡ m / 2 = omega (arith, e) in
        ap (λ (k : ℕ). has_bit k (suc b)) (odd e)
        ∙ has_bit_half (m - 1) b
        ∙ ap (λ (k : ℕ). has_bit k b) half
        ∙ sym (has_bit_half m b)
        ∙ (rw (e, eqb-suc-zero b) (sym (and-true (has_bit m (suc b)))))
    go zero ih (inr e) = rw (even e, taken_even m e) (taken_even (bit_and (m / 2) (m / 2 - 1) * 2) (omega arith))
    go (suc b) ih (inr e) =
        let half : bit_and (m / 2) (m / 2 - 1) * 2 / 2 ≡ bit_and (m / 2) (m / 2 - 1) = omega arith in
        ap (λ (k : ℕ). has_bit k (suc b)) (even e)
        ∙ has_bit_half (bit_and (m / 2) (m / 2 - 1) * 2) b
        ∙ ap (λ (k : ℕ). has_bit k b) half
        ∙ ih (omega (arith, e)) b
        ∙ (rw (e, eqb-suc-suc b (count_trailing_zeros n (m / 2)), has_bit_half m b) refl)
