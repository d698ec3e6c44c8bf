-- Laws of the levels gone through from the highest down, as the code chooses the jobs that get a cell in one slot.
--
-- In order: what it means that the levels above one are done (`Gone`); none is done, those in which nobody stands, one more, all (`gone-..`).
-- Assumes nothing.
use Prim.Native.Nat.{ℕ, ◌+◌, ◌-◌, ◌≤◌, ◌<◌}
use native.Mathlib.Nat.{add-zero}
use native.Mathlib.Omega.{arith}
use mathlib.Core.Path.{◌≡◌, refl, sym, ◌∙◌, ap, ap₂}
use mathlib.Core.Logic.{◌⊎◌, inl, inr}
use mathlib.Core.Bool.{Bool, true, false, not, ◌&&◌, ◌||◌, and-true, and-false, or-false, or-true, and-or_distrib_right}
use mathlib.Core.List.{List}
use lib.ListN.{length}
use lib.Bits.{bit_or}
use lib.Dec.{ltb, eqb}
use Rattle.laws.specs.Sums.{bit, count}
use Rattle.laws.specs.Lists.{at}
use Rattle.laws.specs.Placement.{chosen}
use Rattle.laws.proofs.Tests.{Is, is_true, is_false, is, not-true, left_of}
use Rattle.laws.proofs.Comparisons.{lt_of, ge_of, eq_of, ne_of, ltb_yes, ltb_no, eqb_no, ltb_iff}
use Rattle.laws.proofs.Sums.{sum_ext, sum_add}
use Rattle.laws.proofs.Counts.{bit_ltb, count_ext, count_none}
use Rattle.station.specs.Head.{has_bit}
use Rattle.placing.specs.method.Rule.{without, Levelled}
use Rattle.placing.proofs.MaskBits.{has_bit_zero}
use Rattle.placing.proofs.rule.Sets.{has_bit_or, has_bit_without}
use Rattle.placing.proofs.rule.levels.ByLevel.{chosen_level, chosen_below, none_at_level, moved, levelled_moved}

-- above l - 1 is above l, or at l
module _ (l x : ℕ) (some : 0 < l) where
  level_or : (ltb l x || eqb x l) ≡ ltb (l - 1) x
  level_or = go (is (eqb x l))
    where
      go : Is (eqb x l) → (ltb l x || eqb x l) ≡ ltb (l - 1) x
      go (is_true e) = rw e (or-true (ltb l x) ∙ sym (ltb_yes (l - 1) x (omega (arith, eq_of x l e))))
      go (is_false e) =
          let ne : x ≡ l → ⊥ = ne_of x l e in
          rw e (or-false (ltb l x) ∙ ltb_iff l x (l - 1) x (λ q. omega (arith, q)) (λ q. omega (arith, ne, q)))

  level_bits : bit (ltb (l - 1) x) ≡ bit (ltb l x) + bit (eqb x l)
  level_bits = go (is (eqb x l))
    where
      go : Is (eqb x l) → bit (ltb (l - 1) x) ≡ bit (ltb l x) + bit (eqb x l)
      go (is_true e) = rw e (omega (arith, eq_of x l e, bit_ltb (l - 1) x, bit_ltb l x))
      go (is_false e) = sym (ap bit level_or) ∙ (rw e (ap bit (or-false (ltb l x)) ∙ sym (add-zero (bit (ltb l x)))))

-- Of the jobs with the needs c, which go for d cells under an order of ties, those above level l have been served: t has the needs that are left by levels, r the jobs that got
-- a cell, and `rest` cells are left.
pub record Gone (tie : ℕ → ℕ → Bool) (c : ℕ → ℕ) (d : ℕ) (t : List ℕ) (l rest r : ℕ) : Type 0 where
  pub levels : Levelled t (λ i. c i - bit (has_bit r i))
  pub picked : (i : ℕ) → i < 64 → has_bit r i ≡ (ltb l (c i) && chosen tie 64 c d i)
  pub cells : rest ≡ d - count 64 (λ j. ltb l (c j))

-- no level: nobody stands above `top`
pub gone_none : (tie : ℕ → ℕ → Bool) (c : ℕ → ℕ) (d : ℕ) (t : List ℕ) (top : ℕ) → Levelled t c → ((i : ℕ) → i < 64 → c i ≤ top) → Gone tie c d t top d 0
gone_none tie c d t top h most =
    record {
      levels = λ l i p q m. h l i p q m ∙ ap (λ (n : ℕ). eqb n l) (omega (arith, ap bit (has_bit_zero i)));
      picked = λ i m. has_bit_zero i ∙ sym (rw (ltb_no top (c i) (most i m)) refl);
      cells = omega (arith, count_none 64 (λ j. ltb top (c j)) (λ j m. ltb_no top (c j) (most j m)));
    }

module _ (tie : ℕ → ℕ → Bool) (c : ℕ → ℕ) (d : ℕ) (t : List ℕ) (l rest r : ℕ) (high : l < 65) (so_far : Gone tie c d t l rest r) where
  -- whoever got a cell stood above l
  above : (i : ℕ) → i < 64 → has_bit r i ≡ true → l < c i
  above i m e = lt_of l (c i) (left_of (ltb l (c i)) (chosen tie 64 c d i) (sym (so_far.picked i m) ∙ e))

  -- whoever needs no more than l got none, and stands where it stood
  still : (i : ℕ) → i < 64 → c i ≤ l → has_bit r i ≡ false
  still i m low = not-true (has_bit r i) (λ e. omega (arith, low, above i m e))

  -- nobody that got no cell stands in the levels from l down to l'
  pub gone_empty : (l' : ℕ) → l' ≤ l → ((q : ℕ) → l' < q → q ≤ l → without (at t q) r ≡ 0) → Gone tie c d t l' rest r
  gone_empty l' less empty =
      record {
        levels = so_far.levels;
        picked = λ i m. so_far.picked i m ∙ ap (λ (x : Bool). x && chosen tie 64 c d i) (same i m);
        cells = omega (arith, so_far.cells, count_ext 64 (λ j. ltb l (c j)) (λ j. ltb l' (c j)) same);
      }
    where
      same : (i : ℕ) → i < 64 → ltb l (c i) ≡ ltb l' (c i)
      same i m = ltb_iff l (c i) l' (c i) (λ q. omega (arith, less, q)) (λ q. further q (is (ltb l (c i))))
        where
          further : l' < c i → Is (ltb l (c i)) → l < c i
          further q (is_true e) = lt_of l (c i) e
          further q (is_false e) =
              let low : c i ≤ l = ge_of l (c i) e in
              absurd (none_at_level t (λ j. c j - bit (has_bit r j)) so_far.levels (c i) i r (omega (arith, q)) (omega (arith, low, high)) m (empty (c i) q low)
              (still i m low) (omega (arith, ap bit (still i m low))))

  -- every level, or as many as there were cells for
  pub gone_all : (l ≡ 0) ⊎ (rest ≡ 0) → (i : ℕ) → i < 64 → has_bit r i ≡ chosen tie 64 c d i
  gone_all (inl e) i m = so_far.picked i m ∙ (rw e (go (is (ltb 0 (c i)))))
    where
      go : Is (ltb 0 (c i)) → (ltb 0 (c i) && chosen tie 64 c d i) ≡ chosen tie 64 c d i
      go (is_true p) = rw p refl
      go (is_false p) = rw p refl
  gone_all (inr e) i m = so_far.picked i m ∙ go (is (ltb l (c i)))
    where
      go : Is (ltb l (c i)) → (ltb l (c i) && chosen tie 64 c d i) ≡ chosen tie 64 c d i
      go (is_true p) = rw p refl
      go (is_false p) = rw p (sym (chosen_below tie 64 c i d l (ge_of l (c i) p) (omega (arith, so_far.cells, e))))

  -- those that stand in level l and got no cell yet
  abbrev those : ℕ
  those = without (at t l) r

  -- One level more: the first `rest` of those get a cell (`got`) and move to the level below.
  module _ (some : 0 < l) (got : ℕ)
      (first : (i : ℕ) → i < 64 → has_bit got i ≡ (has_bit those i && ltb (count 64 (λ j. has_bit those j && tie j i)) rest)) where
    -- they are those who need l slots
    stands : (i : ℕ) → i < 64 → has_bit those i ≡ eqb (c i) l
    stands i m =
        has_bit_without (at t l) r i
        ∙ ap (λ (x : Bool). x && not (has_bit r i)) (so_far.levels l i some high m)
        ∙ go (is (has_bit r i))
      where
        go : Is (has_bit r i) → (eqb (c i - bit (has_bit r i)) l && not (has_bit r i)) ≡ eqb (c i) l
        go (is_true e) =
            rw (eqb_no (c i) l (λ z. omega (arith, z, above i m e)), e) (and-false (eqb (c i - 1) l))
        go (is_false e) = rw e (and-true (eqb (c i - 0) l) ∙ ap (λ (n : ℕ). eqb n l) (omega arith))

    gets : (i : ℕ) → i < 64 → has_bit got i ≡ (eqb (c i) l && chosen tie 64 c d i)
    gets i m = first i m ∙ ap (λ (x : Bool). x && ltb (count 64 (λ j. has_bit those j && tie j i)) rest) (stands i m) ∙ go (is (eqb (c i) l))
      where
        go : Is (eqb (c i) l) → (eqb (c i) l && ltb (count 64 (λ j. has_bit those j && tie j i)) rest) ≡ (eqb (c i) l && chosen tie 64 c d i)
        go (is_true e) =
            ap (λ (x : Bool). eqb (c i) l && x)
            (ap₂ (λ (n q : ℕ). ltb n q)
            (count_ext 64 (λ j. has_bit those j && tie j i) (λ j. eqb (c j) l && tie j i) (λ j q. ap (λ (x : Bool). x && tie j i) (stands j q)))
            so_far.cells
            ∙ chosen_level tie 64 c i d l some (eq_of (c i) l e))
        go (is_false e) = rw e refl

    here : (i : ℕ) → i < 64 → has_bit got i ≡ true → c i ≡ l
    here i m e = eq_of (c i) l (left_of (eqb (c i) l) (chosen tie 64 c d i) (sym (gets i m) ∙ e))

    picked_more : (i : ℕ) → i < 64 → has_bit (bit_or r got) i ≡ (ltb (l - 1) (c i) && chosen tie 64 c d i)
    picked_more i m =
        has_bit_or r got i
        ∙ ap₂ (λ (x y : Bool). x || y) (so_far.picked i m) (gets i m)
        ∙ sym (and-or_distrib_right (ltb l (c i)) (eqb (c i) l) (chosen tie 64 c d i))
        ∙ ap (λ (x : Bool). x && chosen tie 64 c d i) (level_or l (c i) some)

    served_more : (i : ℕ) → i < 64 → c i - bit (has_bit (bit_or r got) i) ≡ c i - bit (has_bit r i) - bit (has_bit got i)
    served_more i m = go (is (has_bit got i))
      where
        go : Is (has_bit got i) → c i - bit (has_bit (bit_or r got) i) ≡ c i - bit (has_bit r i) - bit (has_bit got i)
        go (is_true e) =
            let none : has_bit r i ≡ false = still i m (omega (arith, here i m e)) in
            omega (arith, ap bit (has_bit_or r got i ∙ ap₂ (λ (x y : Bool). x || y) none e), ap bit none, ap bit e)
        go (is_false e) =
            omega (arith, ap bit (has_bit_or r got i ∙ ap (λ (x : Bool). has_bit r i || x) e ∙ or-false (has_bit r i)), ap bit e)

    pub gone_more : {more : ℕ} → more ≡ rest - count 64 (has_bit those) → (long : length t ≡ 65) → Gone tie c d (moved t l got long some high) (l - 1) more (bit_or r got)
    gone_more e long =
        record {
          levels =
              levelled_moved t l got long some high (λ i. c i - bit (has_bit r i)) (λ i. c i - bit (has_bit (bit_or r got) i)) so_far.levels
              (λ i m e. omega (arith, here i m e, ap bit (still i m (omega (arith, here i m e)))))
              served_more;
          picked = picked_more;
          cells =
              omega (
                arith,
                e,
                so_far.cells,
                count_ext 64 (has_bit those) (λ j. eqb (c j) l) stands,
                sum_ext 64 (λ j. bit (ltb (l - 1) (c j))) (λ j. bit (ltb l (c j)) + bit (eqb (c j) l)) (λ j m. level_bits l (c j) some),
                sum_add 64 (λ j. bit (ltb l (c j))) (λ j. bit (eqb (c j) l)),
              );
        }
