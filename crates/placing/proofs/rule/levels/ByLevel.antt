-- Laws of the jobs by levels: those that need most come first, and of those that need the same whom the order of ties puts first.
--
-- In order: a job's position by levels (`position_levels`), and whether it is chosen, by its level (`chosen_level`, `chosen_below`); the jobs put into
-- their levels one by one (`standing-..`); levels in which nobody stands (`none_at_level`, `most_of`); jobs that move to the level below
-- (`levelled_moved`).
-- Assumes nothing.
use Prim.Native.Nat.{ℕ, ◌+◌, ◌-◌, ◌^◌, ◌≤◌, ◌<◌}
use native.Mathlib.Omega.{arith}
use mathlib.Core.Path.{◌≡◌, refl, sym, ◌∙◌, ap, ap₂}
use mathlib.Core.Bool.{Bool, true, false, not, ◌&&◌, ◌||◌, cond, and-false, or-false, or-true}
use mathlib.Core.List.{List}
use lib.ListN.{length, set, take, replicate, length-set, length-take}
use lib.Seq.{get_or-set_same, get_or-set_other, get_or-take}
use lib.Bits.{bit_or, bit_xor}
use lib.Dec.{ltb, eqb}
use Rattle.laws.specs.Sums.{bit, count, position}
use Rattle.laws.specs.Lists.{at}
use Rattle.laws.specs.Placement.{goes_first, chosen}
use Rattle.laws.proofs.Tests.{Is, is_true, is_false, is, clash, not-true, both, right_of}
use Rattle.laws.proofs.Comparisons.{lt_of, ge_of, eq_of, ne_of, ltb_yes, ltb_no, eqb_yes, eqb_no, ltb_iff, ltb_next}
use Rattle.laws.proofs.Sums.{sum_ext, sum_add}
use Rattle.laws.proofs.Counts.{bit_le, bit_ltb, count_imp}
use Rattle.laws.proofs.Lists.{at_past}
use Rattle.laws.proofs.Stores.{zeros}
use Rattle.station.specs.Head.{has_bit}
use Rattle.placing.specs.method.Rule.{without, Levelled}
use Rattle.placing.proofs.MaskBits.{has_bit_zero}
use Rattle.placing.proofs.rule.Sets.{has_bit_or, has_bit_xor, has_bit_without, has_bit_one}
use Rattle.placing.proofs.rule.levels.Choice.{chosen_by_position}

-- ---- a job's position by levels

module _ (r : ℕ → ℕ → Bool) (n : ℕ) (c : ℕ → ℕ) (i : ℕ) where
  split : (j : ℕ) → bit (goes_first r c j i) ≡ bit (ltb (c i) (c j)) + bit (eqb (c j) (c i) && r j i)
  split j = go (is (eqb (c j) (c i))) (is (r j i))
    where
      go : Is (eqb (c j) (c i)) → Is (r j i) → bit (goes_first r c j i) ≡ bit (ltb (c i) (c j)) + bit (eqb (c j) (c i) && r j i)
      go (is_true p) (is_true q) = rw (p, q) (omega (arith, eq_of (c j) (c i) p, bit_ltb (c i) (c j + 1), bit_ltb (c i) (c j)))
      go (is_true p) (is_false q) = rw (p, q) (omega (arith, bit_ltb (c i) (c j + 0), bit_ltb (c i) (c j)))
      go (is_false p) q =
          let ne : c j ≡ c i → ⊥ = ne_of (c j) (c i) p in
          rw p (omega (arith, ne, bit_le (r j i), bit_ltb (c i) (c j + bit (r j i)), bit_ltb (c i) (c j)))

  -- those of the levels above, and those of the same that the order of ties puts first
  position_levels : position n (goes_first r c) i ≡ count n (λ j. ltb (c i) (c j)) + count n (λ j. eqb (c j) (c i) && r j i)
  position_levels =
      sum_ext n (λ j. bit (goes_first r c j i)) (λ j. bit (ltb (c i) (c j)) + bit (eqb (c j) (c i) && r j i)) (λ j l. split j)
      ∙ sum_add n (λ j. bit (ltb (c i) (c j))) (λ j. bit (eqb (c j) (c i) && r j i))

  module _ (d : ℕ) where
    -- a job of level l gets a cell if fewer of its level go first than the levels above leave cells
    pub chosen_level : (l : ℕ) → 0 < l → c i ≡ l → ltb (count n (λ j. eqb (c j) l && r j i)) (d - count n (λ j. ltb l (c j))) ≡ chosen r n c d i
    chosen_level l some e =
        let p = position_levels in
        rw (sym e)
        (ltb_iff (count n (λ j. eqb (c j) (c i) && r j i)) (d - count n (λ j. ltb (c i) (c j))) (position n (goes_first r c) i) d
        (λ q. omega (arith, p, q)) (λ q. omega (arith, p, q))
        ∙ chosen_by_position r n c d i (λ z. omega (arith, z, e, some)))

    -- a job of no higher level than l gets none if the levels above l leave none
    pub chosen_below : (l : ℕ) → c i ≤ l → d ≤ count n (λ j. ltb l (c j)) → chosen r n c d i ≡ false
    chosen_below l low full =
        not-true (chosen r n c d i) (λ e.
        omega (
          arith,
          full,
          lt_of (position n (goes_first r c) i) d (right_of (ltb 0 (c i)) (ltb (position n (goes_first r c) i) d) e),
          position_levels,
          count_imp n (λ j. ltb l (c j)) (λ j. ltb (c i) (c j)) (λ j m t. ltb_yes (c i) (c j) (omega (arith, low, lt_of l (c j) t))),
        ))

-- ---- the jobs by levels

-- the first n jobs: none, and one more
pub standing_none : (c : List ℕ) (l i : ℕ) → has_bit (at (replicate 65 0) l) i ≡ (ltb i 0 && eqb (at c i) l)
standing_none c l i = rw (zeros 65 l, ltb_no i 0 (omega arith)) (has_bit_zero i)

pub standing_more : (c t : List ℕ) (n : ℕ) → at c n < length t
    → ((l i : ℕ) → has_bit (at t l) i ≡ (ltb i n && eqb (at c i) l))
    → (l i : ℕ) → has_bit (at (set t (at c n) (bit_or (at t (at c n)) (2 ^ n))) l) i ≡ (ltb i (n + 1) && eqb (at c i) l)
standing_more c t n inside so_far l i = go (is (eqb l (at c n))) (is (eqb i n))
  where
    here : has_bit (at (set t (at c n) (bit_or (at t (at c n)) (2 ^ n))) (at c n)) i ≡ ((ltb i n && eqb (at c i) (at c n)) || eqb i n)
    here =
        ap (λ (m : ℕ). has_bit m i) (get_or-set_same t (at c n) (bit_or (at t (at c n)) (2 ^ n)) 0 inside)
        ∙ has_bit_or (at t (at c n)) (2 ^ n) i
        ∙ ap₂ (λ (x y : Bool). x || y) (so_far (at c n) i) (has_bit_one n i)

    there : (l ≡ at c n → ⊥) → has_bit (at (set t (at c n) (bit_or (at t (at c n)) (2 ^ n))) l) i ≡ (ltb i n && eqb (at c i) l)
    there ne = ap (λ (m : ℕ). has_bit m i) (get_or-set_other t (at c n) l (bit_or (at t (at c n)) (2 ^ n)) 0 ne) ∙ so_far l i

    go : Is (eqb l (at c n)) → Is (eqb i n) → has_bit (at (set t (at c n) (bit_or (at t (at c n)) (2 ^ n))) l) i ≡ (ltb i (n + 1) && eqb (at c i) l)
    go (is_true p) (is_true q) =
        let same : i ≡ n = eq_of i n q in
        rw (eq_of l (at c n) p)
        (here
        ∙ ap (λ (x : Bool). (ltb i n && eqb (at c i) (at c n)) || x) q
        ∙ or-true (ltb i n && eqb (at c i) (at c n))
        ∙ sym (both (ltb i (n + 1)) (eqb (at c i) (at c n)) (ltb_yes i (n + 1) (omega (arith, same))) (eqb_yes (at c i) (at c n) (ap (at c) same))))
    go (is_true p) (is_false q) =
        rw (eq_of l (at c n) p)
        (here
        ∙ ap (λ (x : Bool). (ltb i n && eqb (at c i) (at c n)) || x) q
        ∙ or-false (ltb i n && eqb (at c i) (at c n))
        ∙ ap (λ (x : Bool). x && eqb (at c i) (at c n)) (ltb_next i n (ne_of i n q)))
    go (is_false p) (is_true q) =
        let off : eqb (at c i) l ≡ false = eqb_no (at c i) l (λ z. ne_of l (at c n) p (sym z ∙ ap (at c) (eq_of i n q))) in
        there (ne_of l (at c n) p) ∙ (rw off (and-false (ltb i n) ∙ sym (and-false (ltb i (n + 1)))))
    go (is_false p) (is_false q) = there (ne_of l (at c n) p) ∙ ap (λ (x : Bool). x && eqb (at c i) l) (ltb_next i n (ne_of i n q))

-- one more need below a bound that may rise
pub most_more : (c : ℕ → ℕ) (n top top' : ℕ) → ((j : ℕ) → j < n → c j ≤ top) → top ≤ top' → c n ≤ top' → (j : ℕ) → j < n + 1 → c j ≤ top'
most_more c n top top' most more here j h = go (is (eqb j n))
  where
    go : Is (eqb j n) → c j ≤ top'
    go (is_true e) = omega (arith, ap c (eq_of j n e))
    go (is_false e) = let ne : j ≡ n → ⊥ = ne_of j n e in omega (arith, most j (omega (arith, ne, h)))

-- all jobs of a list that is taken from the front of another
pub standing_all : (c t : List ℕ) (k : ℕ) → ((l i : ℕ) → has_bit (at t l) i ≡ (ltb i k && eqb (at c i) l)) → Levelled t (at (take k c))
standing_all c t k all l i some high m = all l i ∙ go (is (ltb i k))
  where
    go : Is (ltb i k) → (ltb i k && eqb (at c i) l) ≡ eqb (at (take k c) i) l
    go (is_true e) = rw e (ap (λ (n : ℕ). eqb n l) (sym (get_or-take k c i 0 (lt_of i k e))))
    go (is_false e) =
        let none : at (take k c) i ≡ 0 = at_past (take k c) i (omega (arith, length-take k c, ge_of i k e)) in
        rw (e, none) (sym (eqb_no 0 l (λ z. omega (arith, z, some))))

-- nobody but the jobs r needs as many slots as a level says that is empty without them
pub none_at_level : (t : List ℕ) (c : ℕ → ℕ) → Levelled t c → (l i r : ℕ) → 0 < l → l < 65 → i < 64 → without (at t l) r ≡ 0 → has_bit r i ≡ false → c i ≡ l → ⊥
none_at_level t c h l i r some high m empty other e =
    clash (sym (both (has_bit (at t l) i) (not (has_bit r i)) (h l i some high m ∙ eqb_yes (c i) l e) (ap not other))
    ∙ sym (has_bit_without (at t l) r i)
    ∙ ap (λ (n : ℕ). has_bit n i) empty
    ∙ has_bit_zero i)

-- where all levels above r are empty, nobody needs more than r
pub most_of : (t : List ℕ) (c : ℕ → ℕ) (top r : ℕ) → Levelled t c → top < 65 → ((i : ℕ) → i < 64 → c i ≤ top)
    → ((l : ℕ) → r < l → l ≤ top → without (at t l) 0 ≡ 0) → (i : ℕ) → i < 64 → c i ≤ r
most_of t c top r h high most empty i m = go (is (ltb r (c i)))
  where
    go : Is (ltb r (c i)) → c i ≤ r
    go (is_true e) =
        let l : r < c i = lt_of r (c i) e in
        absurd (none_at_level t c h (c i) i 0 (omega (arith, l)) (omega (arith, high, most i m)) m (empty (c i) l (most i m)) (has_bit_zero i) refl)
    go (is_false e) = ge_of r (c i) e

-- some of the jobs of level l, those of the mask `got`, move to the level below
module _ (t : List ℕ) (l got : ℕ) (long : length t ≡ 65) (some : 0 < l) (high : l < 65) where
  abbrev off : List ℕ
  off = set t l (bit_xor (at t l) got)

  abbrev pub moved : List ℕ
  moved = set off (l - 1) (bit_or (at off (l - 1)) got)

  moved_below : (i : ℕ) → has_bit (at moved (l - 1)) i ≡ (has_bit (at t (l - 1)) i || has_bit got i)
  moved_below i =
      ap (λ (n : ℕ). has_bit n i) (get_or-set_same off (l - 1) (bit_or (at off (l - 1)) got) 0 (omega (arith, long, high, length-set t l (bit_xor (at t l) got))))
      ∙ has_bit_or (at off (l - 1)) got i
      ∙ ap (λ (n : ℕ). has_bit n i || has_bit got i) (get_or-set_other t l (l - 1) (bit_xor (at t l) got) 0 (λ e. omega (arith, e, some)))

  moved_from : (i : ℕ) → has_bit (at moved l) i ≡ cond (has_bit got i) (not (has_bit (at t l) i)) (has_bit (at t l) i)
  moved_from i =
      ap (λ (n : ℕ). has_bit n i) (get_or-set_other off (l - 1) l (bit_or (at off (l - 1)) got) 0 (λ e. omega (arith, e, some))
      ∙ get_or-set_same t l (bit_xor (at t l) got) 0 (omega (arith, long, high)))
      ∙ has_bit_xor (at t l) got i

  moved_other : (q i : ℕ) → (q ≡ l - 1 → ⊥) → (q ≡ l → ⊥) → has_bit (at moved q) i ≡ has_bit (at t q) i
  moved_other q i ne other =
      ap (λ (n : ℕ). has_bit n i) (get_or-set_other off (l - 1) q (bit_or (at off (l - 1)) got) 0 ne ∙ get_or-set_other t l q (bit_xor (at t l) got) 0 other)

  pub levelled_moved : (c c' : ℕ → ℕ) → Levelled t c → ((i : ℕ) → i < 64 → has_bit got i ≡ true → c i ≡ l) → ((i : ℕ) → i < 64 → c' i ≡ c i - bit (has_bit got i))
      → Levelled moved c'
  levelled_moved c c' h from less q i a b m = go (is (has_bit got i)) (is (eqb q (l - 1))) (is (eqb q l))
    where
      stays : has_bit got i ≡ false → eqb (c i) q ≡ eqb (c' i) q
      stays e = ap (λ (n : ℕ). eqb n q) (omega (arith, less i m, ap bit e))

      fell : has_bit got i ≡ true → c' i ≡ l - 1
      fell e = omega (arith, less i m, from i m e, ap bit e)

      go : Is (has_bit got i) → Is (eqb q (l - 1)) → Is (eqb q l) → has_bit (at moved q) i ≡ eqb (c' i) q
      go (is_false e) (is_true x) y =
          let same : q ≡ l - 1 = eq_of q (l - 1) x in
          ap (λ (n : ℕ). has_bit (at moved n) i) same
          ∙ moved_below i
          ∙ ap (λ (z : Bool). has_bit (at t (l - 1)) i || z) e
          ∙ or-false (has_bit (at t (l - 1)) i)
          ∙ ap (λ (n : ℕ). has_bit (at t n) i) (sym same)
          ∙ h q i a b m
          ∙ stays e
      go (is_false e) (is_false x) (is_true y) =
          let same : q ≡ l = eq_of q l y in
          ap (λ (n : ℕ). has_bit (at moved n) i) same
          ∙ moved_from i
          ∙ ap (λ (z : Bool). cond z (not (has_bit (at t l) i)) (has_bit (at t l) i)) e
          ∙ ap (λ (n : ℕ). has_bit (at t n) i) (sym same)
          ∙ h q i a b m
          ∙ stays e
      go (is_false e) (is_false x) (is_false y) = moved_other q i (ne_of q (l - 1) x) (ne_of q l y) ∙ h q i a b m ∙ stays e
      go (is_true e) (is_true x) y =
          let same : q ≡ l - 1 = eq_of q (l - 1) x in
          ap (λ (n : ℕ). has_bit (at moved n) i) same
          ∙ moved_below i
          ∙ ap (λ (z : Bool). has_bit (at t (l - 1)) i || z) e
          ∙ or-true (has_bit (at t (l - 1)) i)
          ∙ sym (eqb_yes (c' i) q (fell e ∙ sym same))
      go (is_true e) (is_false x) (is_true y) =
          let same : q ≡ l = eq_of q l y in
          let here : has_bit (at t l) i ≡ true = h l i some high m ∙ eqb_yes (c i) l (from i m e) in
          ap (λ (n : ℕ). has_bit (at moved n) i) same
          ∙ moved_from i
          ∙ ap₂ (λ (z w : Bool). cond z (not w) w) e here
          ∙ sym (eqb_no (c' i) q (λ z. omega (arith, z, same, fell e, some)))
      go (is_true e) (is_false x) (is_false y) =
          moved_other q i (ne_of q (l - 1) x) (ne_of q l y)
          ∙ h q i a b m
          ∙ eqb_no (c i) q (λ z. ne_of q l y (sym z ∙ from i m e))
          ∙ sym (eqb_no (c' i) q (λ z. ne_of q (l - 1) x (sym z ∙ fell e)))
