-- Laws of the first d of a set where those of another go before the others, as the code takes them: first of those that are in both sets, then of the rest.
--
-- In order: who goes before one of them (`held_before_lem`); the two parts of the first d (`first_parts`); the same of masks (`held_first`), and how many more are
-- asked for after both (`held_count`).
-- Assumes nothing.
use Prim.Native.Nat.{ℕ, ◌+◌, ◌-◌, ◌<◌}
use native.Mathlib.Omega.{arith}
use mathlib.Core.Path.{◌≡◌, refl, sym, ◌∙◌, ap, ap₂}
use mathlib.Core.Bool.{Bool, true, false, not, ◌&&◌, ◌||◌, cond, and_assoc, or-false}
use lib.Bits.{bit_and}
use lib.Dec.{ltb}
use Rattle.laws.specs.Sums.{bit, count}
use Rattle.laws.specs.Placement.{tie_hold}
use Rattle.laws.proofs.Tests.{Is, is_true, is_false, is}
use Rattle.laws.proofs.Comparisons.{ltb_iff}
use Rattle.laws.proofs.Sums.{sum_ext, sum_add}
use Rattle.laws.proofs.Counts.{count_ext, count_split, count_smaller}
use Rattle.station.specs.Head.{has_bit}
use Rattle.placing.specs.method.Rule.{without, first_few, first_held}
use Rattle.placing.proofs.rule.Sets.{has_bit_and, has_bit_without}

module _ (p f : ℕ → Bool) where
  -- who of f goes before i: where i is of p the earlier ones of p, and else all of p and the earlier others
  held_before_lem : (i : ℕ) → i < 64
      → count 64 (λ j. f j && tie_hold 0 p j i) ≡ cond (p i) (count i (λ j. f j && p j)) (count 64 (λ j. f j && p j) + count i (λ j. f j && not (p j)))
  held_before_lem i l = go (is (p i))
    where
      within : (x y : Bool) → ltb 1 (bit x + bit y) ≡ (x && y)
      within true true = refl
      within true false = refl
      within false true = refl
      within false false = refl

      among : (g x y : Bool) → bit (g && ltb 0 (bit x + bit y)) ≡ bit (g && x) + bit ((g && not x) && y)
      among true true true = refl
      among true true false = refl
      among true false true = refl
      among true false false = refl
      among false x y = refl

      go : Is (p i) → count 64 (λ j. f j && tie_hold 0 p j i) ≡ cond (p i) (count i (λ j. f j && p j)) (count 64 (λ j. f j && p j) + count i (λ j. f j && not (p j)))
      go (is_true e) =
          rw e
          (count_ext 64 (λ j. f j && ltb 1 (bit (p j) + bit (ltb j i))) (λ j. (f j && p j) && ltb j i)
          (λ j m. ap (λ (b : Bool). f j && b) (within (p j) (ltb j i)) ∙ sym (and_assoc (f j) (p j) (ltb j i)))
          ∙ count_smaller 64 (λ j. f j && p j) i (omega arith))
      go (is_false e) =
          rw e
          (omega (
            arith,
            sum_ext 64 (λ j. bit (f j && ltb 0 (bit (p j) + bit (ltb j i)))) (λ j. bit (f j && p j) + bit ((f j && not (p j)) && ltb j i)) (λ j m. among (f j) (p j) (ltb j i)),
            sum_add 64 (λ j. bit (f j && p j)) (λ j. bit ((f j && not (p j)) && ltb j i)),
            count_smaller 64 (λ j. f j && not (p j)) i (omega arith),
          ))

  -- so the first d are the first d of p, and of the others as many as are then left
  first_parts : (d i : ℕ) → i < 64
      → (first_few (λ j. f j && p j) d i || first_few (λ j. f j && not (p j)) (d - count 64 (λ j. f j && p j)) i) ≡ first_held p f d i
  first_parts d i l =
      parts (f i) (p i) (count i (λ j. f j && p j)) (count i (λ j. f j && not (p j))) (count 64 (λ j. f j && p j))
      ∙ sym (ap (λ (n : ℕ). f i && ltb n d) (held_before_lem i l))
    where
      parts : (x y : Bool) (a b n : ℕ) → ((x && y && ltb a d) || (x && not y && ltb b (d - n))) ≡ (x && ltb (cond y a (n + b)) d)
      parts true true a b n = or-false (ltb a d)
      parts true false a b n = ltb_iff b (d - n) (n + b) d (λ q. omega (arith, q)) (λ q. omega (arith, q))
      parts false y a b n = refl

few_ext : (f g : ℕ → Bool) → ((j : ℕ) → f j ≡ g j) → (d i : ℕ) → first_few f d i ≡ first_few g d i
few_ext f g same d i = ap₂ (λ (x : Bool) (n : ℕ). x && ltb n d) (same i) (count_ext i f g (λ j l. same j))

-- the same of masks: those of `mask` that are held, and those that are not
module _ (mask held d : ℕ) where
  pub held_first : (i : ℕ) → i < 64
      → (first_few (has_bit (bit_and mask held)) d i || first_few (has_bit (without mask held)) (d - count 64 (has_bit (bit_and mask held))) i)
      ≡ first_held (has_bit held) (has_bit mask) d i
  held_first i l =
      ap₂ (λ (x y : Bool). x || y)
      (few_ext (has_bit (bit_and mask held)) (λ j. has_bit mask j && has_bit held j) (has_bit_and mask held) d i)
      (few_ext (has_bit (without mask held)) (λ j. has_bit mask j && not (has_bit held j)) (has_bit_without mask held) (d - count 64 (has_bit (bit_and mask held))) i
      ∙ ap (λ (n : ℕ). first_few (λ j. has_bit mask j && not (has_bit held j)) (d - n) i)
      (count_ext 64 (has_bit (bit_and mask held)) (λ j. has_bit mask j && has_bit held j) (λ j m. has_bit_and mask held j)))
      ∙ first_parts (has_bit held) (has_bit mask) d i l

  pub held_count : d - count 64 (has_bit (bit_and mask held)) - count 64 (has_bit (without mask held)) ≡ d - count 64 (has_bit mask)
  held_count =
      omega (
        arith,
        count_ext 64 (has_bit (bit_and mask held)) (λ j. has_bit mask j && has_bit held j) (λ j m. has_bit_and mask held j),
        count_ext 64 (has_bit (without mask held)) (λ j. has_bit mask j && not (has_bit held j)) (λ j m. has_bit_without mask held j),
        count_split 64 (has_bit mask) (has_bit held),
      )
