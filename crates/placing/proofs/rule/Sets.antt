-- Laws of masks as sets: bit i of a mask says whether i is in the set.
--
-- In order: the bits of `|`, `&` and `^` (`has_bit_or`, `has_bit_and`, `has_bit_xor`), of one mask without another (`has_bit_without`) and of a single one
-- (`has_bit_one`); a mask after its lowest bits were cleared, one more at a time (`clear_more`), and whether any is left (`clear_some`, `clear_none`); the lowest bits themselves: all
-- that there are, those that were cleared (`first_all`, `first_cleared`).
-- Assumes nothing.
use Prim.Native.Nat.{ℕ, zero, suc, ◌+◌, ◌-◌, ◌/◌, ◌%◌, ◌^◌, ◌≤◌, ◌<◌}
use native.Mathlib.Nat.{pow-suc}
use native.Mathlib.Omega.{arith}
use mathlib.Core.Path.{◌≡◌, refl, sym, ◌∙◌, ap}
use mathlib.Core.Logic.{◌⊎◌, inl, inr}
use mathlib.Core.Bool.{Bool, true, false, not, ◌&&◌, ◌||◌, cond}
use lib.Bits.{bit_and, bit_or, bit_xor, and_step, or_step, xor_step, and_shr, or_shr, xor_shr}
use lib.Count.{count_trailing_zeros}
use lib.Dec.{eqb, leb, eqb-zero-suc, eqb-suc-zero, eqb-suc-suc}
use Rattle.laws.specs.Sums.{bit, count}
use Rattle.laws.proofs.Tests.{Is, is_true, is_false, is, left_of}
use Rattle.laws.proofs.Comparisons.{eq_of, ne_of, gt_of, ltb_yes, ltb_not}
use Rattle.laws.proofs.Counts.{count_ext}
use Rattle.laws.proofs.Cells.{count_below, count_first}
use Rattle.station.specs.Head.{has_bit}
use Rattle.placing.specs.method.Rule.{first_few}
use Rattle.placing.proofs.MaskBits.{parity, has_bit_zero, has_bit_half, taken_even, lowest, cleared}
use Rattle.placing.proofs.rule.row.RowWritten.{untaken, untaken_first, untaken_more, untaken_stays}

-- ---- the bits of the operations

module _ (x y : ℕ) where
  digit_or : (x % 2 ≡ 1) ⊎ (x % 2 ≡ 0) → (y % 2 ≡ 1) ⊎ (y % 2 ≡ 0) → eqb (bit_or x y % 2) 1 ≡ (eqb (x % 2) 1 || eqb (y % 2) 1)
  digit_or (inl p) (inl q) = let e : bit_or x y % 2 ≡ 1 = omega (arith, or_step x y, p, q) in rw (e, p) refl
  digit_or (inl p) (inr q) = let e : bit_or x y % 2 ≡ 1 = omega (arith, or_step x y, p, q) in rw (e, p) refl
  digit_or (inr p) (inl q) = let e : bit_or x y % 2 ≡ 1 = omega (arith, or_step x y, p, q) in rw (e, p, q) refl
  digit_or (inr p) (inr q) = let e : bit_or x y % 2 ≡ 0 = omega (arith, or_step x y, p, q) in rw (e, p, q) refl

  digit_and : (x % 2 ≡ 1) ⊎ (x % 2 ≡ 0) → (y % 2 ≡ 1) ⊎ (y % 2 ≡ 0) → eqb (bit_and x y % 2) 1 ≡ (eqb (x % 2) 1 && eqb (y % 2) 1)
  digit_and (inl p) (inl q) = let e : bit_and x y % 2 ≡ 1 = omega (arith, and_step x y, p, q) in rw (e, p, q) refl
  digit_and (inl p) (inr q) = let e : bit_and x y % 2 ≡ 0 = omega (arith, and_step x y, p, q) in rw (e, p, q) refl
  digit_and (inr p) (inl q) = let e : bit_and x y % 2 ≡ 0 = omega (arith, and_step x y, p, q) in rw (e, p) refl
  digit_and (inr p) (inr q) = let e : bit_and x y % 2 ≡ 0 = omega (arith, and_step x y, p, q) in rw (e, p) refl

  digit_xor : (x % 2 ≡ 1) ⊎ (x % 2 ≡ 0) → (y % 2 ≡ 1) ⊎ (y % 2 ≡ 0) → eqb (bit_xor x y % 2) 1 ≡ cond (eqb (y % 2) 1) (not (eqb (x % 2) 1)) (eqb (x % 2) 1)
  digit_xor (inl p) (inl q) = let e : bit_xor x y % 2 ≡ 0 = omega (arith, rw (p, q) at (xor_step x y)) in rw (e, p, q) refl
  digit_xor (inl p) (inr q) = let e : bit_xor x y % 2 ≡ 1 = omega (arith, rw (p, q) at (xor_step x y)) in rw (e, p, q) refl
  digit_xor (inr p) (inl q) = let e : bit_xor x y % 2 ≡ 1 = omega (arith, rw (p, q) at (xor_step x y)) in rw (e, p, q) refl
  digit_xor (inr p) (inr q) = let e : bit_xor x y % 2 ≡ 0 = omega (arith, rw (p, q) at (xor_step x y)) in rw (e, p, q) refl

-- a bit of a number is its lowest one after a shift
digit : (a i : ℕ) → (a / 2 ^ i % 2 ≡ 1) ⊎ (a / 2 ^ i % 2 ≡ 0)
digit a i = parity (a / 2 ^ i) (is (has_bit a i))

module _ (a b i : ℕ) where
  pub has_bit_or : has_bit (bit_or a b) i ≡ (has_bit a i || has_bit b i)
  has_bit_or = ap (λ (n : ℕ). eqb (n % 2) 1) (or_shr a b i) ∙ digit_or (a / 2 ^ i) (b / 2 ^ i) (digit a i) (digit b i)

  pub has_bit_and : has_bit (bit_and a b) i ≡ (has_bit a i && has_bit b i)
  has_bit_and = ap (λ (n : ℕ). eqb (n % 2) 1) (and_shr a b i) ∙ digit_and (a / 2 ^ i) (b / 2 ^ i) (digit a i) (digit b i)

  pub has_bit_xor : has_bit (bit_xor a b) i ≡ cond (has_bit b i) (not (has_bit a i)) (has_bit a i)
  has_bit_xor = ap (λ (n : ℕ). eqb (n % 2) 1) (xor_shr a b i) ∙ digit_xor (a / 2 ^ i) (b / 2 ^ i) (digit a i) (digit b i)

  -- what a has and b has not
  pub has_bit_without : has_bit (bit_xor a (bit_and a b)) i ≡ (has_bit a i && not (has_bit b i))
  has_bit_without = go (is (has_bit a i)) (is (has_bit b i))
    where
      one : has_bit (bit_xor a (bit_and a b)) i ≡ cond (has_bit a i && has_bit b i) (not (has_bit a i)) (has_bit a i)
      one = ap (λ (n : ℕ). eqb (n % 2) 1) (xor_shr a (bit_and a b) i) ∙ digit_xor (a / 2 ^ i) (bit_and a b / 2 ^ i) (digit a i) (digit (bit_and a b) i)
          ∙ ap (λ (x : Bool). cond x (not (has_bit a i)) (has_bit a i)) has_bit_and

      go : Is (has_bit a i) → Is (has_bit b i) → has_bit (bit_xor a (bit_and a b)) i ≡ (has_bit a i && not (has_bit b i))
      go (is_true p) (is_true q) = one ∙ (rw (p, q) refl)
      go (is_true p) (is_false q) = one ∙ (rw (p, q) refl)
      go (is_false p) q = one ∙ (rw p refl)

-- the mask of one number
pub has_bit_one : (i j : ℕ) → has_bit (2 ^ i) j ≡ eqb j i
has_bit_one zero zero = refl
has_bit_one zero (suc j) = has_bit_half 1 j ∙ has_bit_zero j ∙ sym (eqb-suc-zero j)
has_bit_one (suc i) zero = taken_even (2 ^ suc i) (omega (arith, pow-suc 2 i)) ∙ sym (eqb-zero-suc i)
has_bit_one (suc i) (suc j) =
    let half : 2 ^ suc i / 2 ≡ 2 ^ i = omega (arith, pow-suc 2 i) in
    has_bit_half (2 ^ suc i) j ∙ ap (λ (n : ℕ). has_bit n j) half ∙ has_bit_one i j ∙ sym (eqb-suc-suc j i)

-- ---- the lowest bits

module _ (f : ℕ → Bool) (n m : ℕ) (short : m < 2 ^ 64) (so_far : (b : ℕ) → has_bit m b ≡ untaken f n b) where
  -- one bit more is cleared: of 0 none
  pub clear_more : (b : ℕ) → has_bit (bit_and m (m - 1)) b ≡ untaken f (n + 1) b
  clear_more b = go (is (eqb m 0))
    where
      go : Is (eqb m 0) → has_bit (bit_and m (m - 1)) b ≡ untaken f (n + 1) b
      go (is_true e) =
          let none : m ≡ 0 = eq_of m 0 e in
          let empty : has_bit m b ≡ false = rw none (has_bit_zero b) in
          has_bit_and m (m - 1) b ∙ (rw empty (sym (untaken_stays f n b (sym (so_far b) ∙ empty))))
      go (is_false e) =
          let ne : m ≡ 0 → ⊥ = ne_of m 0 e in
          let some : 0 < m = omega arith in
          let low = lowest 64 m some short in
          let z = count_trailing_zeros 64 m in
          let here : untaken f n z ≡ true = sym (so_far z) ∙ low.set in
          let order : count z f ≡ n = untaken_first f n z here (λ a l. sym (so_far a) ∙ low.none_below a l) in
          cleared 64 m some short b
          ∙ ap (λ (x : Bool). x && not (eqb b z)) (so_far b)
          ∙ untaken_more f n z (left_of (f z) (leb n (count z f)) here) order b

  -- where a bit is left, more than n were set
  pub clear_some : 0 < m → n < count 64 f
  clear_some some =
      let low = lowest 64 m some short in
      let z = count_trailing_zeros 64 m in
      let here : untaken f n z ≡ true = sym (so_far z) ∙ low.set in
      omega (
        arith,
        untaken_first f n z here (λ a l. sym (so_far a) ∙ low.none_below a l),
        count_below 64 f z low.within,
        ap bit (left_of (f z) (leb n (count z f)) here),
      )

  -- where none is left, no more than n were
  pub clear_none : m ≡ 0 → count 64 f ≤ n
  clear_none none = omega (arith, count_ext 64 f (first_few f n) (λ b l. go b (is (f b))), count_first 64 f n)
    where
      go : (b : ℕ) → Is (f b) → f b ≡ first_few f n b
      go b (is_true e) =
          let off : leb n (count b f) ≡ false =
          ap (λ (x : Bool). x && leb n (count b f)) (sym e) ∙ sym (so_far b) ∙ ap (λ (k : ℕ). has_bit k b) none ∙ has_bit_zero b in
          rw (e, ltb_yes (count b f) n (gt_of n (count b f) off)) refl
      go b (is_false e) = rw e refl

module _ (m d : ℕ) where
  -- all bits, where they are no more than d
  pub first_all : count 64 (has_bit m) ≤ d → (i : ℕ) → i < 64 → has_bit m i ≡ first_few (has_bit m) d i
  first_all few i l = go (is (has_bit m i))
    where
      go : Is (has_bit m i) → has_bit m i ≡ first_few (has_bit m) d i
      go (is_true e) = rw (e, ltb_yes (count i (has_bit m)) d (omega (arith, few, count_below 64 (has_bit m) i l, ap bit e))) refl
      go (is_false e) = rw e refl

  -- the bits that d turns of clearing took away
  pub first_cleared : (r : ℕ) → ((b : ℕ) → has_bit r b ≡ untaken (has_bit m) d b) → (i : ℕ) → has_bit (bit_xor m r) i ≡ first_few (has_bit m) d i
  first_cleared r rest i = has_bit_xor m r i ∙ ap (λ (x : Bool). cond x (not (has_bit m i)) (has_bit m i)) (rest i) ∙ go (is (has_bit m i))
    where
      go : Is (has_bit m i) → cond (untaken (has_bit m) d i) (not (has_bit m i)) (has_bit m i) ≡ first_few (has_bit m) d i
      go (is_true e) = rw (e, ltb_not (count i (has_bit m)) d) (turn (leb d (count i (has_bit m))))
        where
          turn : (x : Bool) → cond x false true ≡ not x
          turn true = refl
          turn false = refl
      go (is_false e) = rw e refl
