-- Laws of capacities: for a number of jobs, of slots, of free cells, and as code that counts slots by their free cells finds them.
--
-- In order: more free cells (`capacity_mono`, `capacity_spread`); more jobs: none, one more, all that a slot has cells for (`capacity_top`), and that each further one adds no more
-- than the one before (`capacity_concave`); no slot and one more; one cell more (`capacity_put_..`); the table of how many slots have at least so many free cells: that there is
-- one (`at_least_of`), the capacities from it (`capacity_table`, `capacity_past`), a slot more and a slot less (`at_least_on`, `at_least_off`), a cell more (`trial_table`). The needs that fit a capacity are in Placement and Largest.
-- Assumes nothing.
use Prim.Native.Nat.{ℕ, zero, suc, ◌+◌, ◌-◌, ◌*◌, ◌≤◌, ◌<◌, min, max}
use native.Mathlib.Numerals.{add-one}
use native.Mathlib.Omega.{arith}
use mathlib.Core.Path.{◌≡◌, refl, sym, ◌∙◌, ap, ap₂}
use mathlib.Core.Bool.{Bool, false, ◌&&◌, ◌||◌}
use mathlib.Core.List.{List}
use lib.ListN.{length, get_or, set, replicate, length-set}
use lib.Seq.{get_or-set_same, get_or-set_other}
use lib.Dec.{leb, eqb, ltb}
use Rattle.laws.specs.Sums.{bit, sum, count}
use Rattle.laws.specs.Lists.{at, tabulate}
use Rattle.laws.specs.Placement.{capacity}
use Rattle.laws.specs.Eviction.{put}
use Rattle.laws.specs.method.Capacities.{AtLeast, capacity_from, excess_over}
use Rattle.laws.proofs.Tests.{Is, is, is_true, is_false, left_of, right_of}
use Rattle.laws.proofs.Comparisons.{lt_of, ge_of, le_of, gt_of, eq_of, eqb_self, ne_of, leb_yes, leb_no, eqb_no}
use Rattle.laws.proofs.Sums.{sum_ext, sum_le, sum_zero, sum_add, sum_le_two, sum_or_and, sum_below, sum_but, greatest_ext}
use Rattle.laws.proofs.Counts.{bit_le, count_ext, count_le, count_imp, count_none, count_eqb_le}
use Rattle.laws.proofs.Lists.{length_tabulate, at_tabulate, at_past}
use Rattle.laws.proofs.Stores.{zeros}
use Rattle.laws.proofs.Loops.{sum_none, sum_more, count_more}

-- ---- more free cells

-- x has at most the free cells of y in each of the n slots
abbrev pub Below : ℕ → (ℕ → ℕ) → (ℕ → ℕ) → Type 0
Below n x y = (s : ℕ) → s < n → x s ≤ y s

pub capacity_mono : (n : ℕ) (x y : ℕ → ℕ) (r : ℕ) → Below n x y → capacity n x r ≤ capacity n y r
capacity_mono n x y r h = sum_le n (λ s. min r (x s)) (λ s. min r (y s)) (λ s l. omega (arith, h s l))

-- more free cells help a larger number at least as much
pub capacity_spread : (n : ℕ) (x y : ℕ → ℕ) (r q : ℕ) → r ≤ q → Below n x y → capacity n y r + capacity n x q ≤ capacity n y q + capacity n x r
capacity_spread n x y r q h b =
    sum_le_two n (λ s. min r (y s)) (λ s. min q (x s)) (λ s. min q (y s)) (λ s. min r (x s)) (λ s l. omega (arith, b s l))

-- ---- more jobs

-- a larger number has no less capacity
pub capacity_up : (n : ℕ) (x : ℕ → ℕ) (r t : ℕ) → r ≤ t → capacity n x r ≤ capacity n x t
capacity_up n x r t h = sum_le n (λ s. min r (x s)) (λ s. min t (x s)) (λ s l. omega arith)

-- slots of at most eight bridges
pub capacity_bound : (n : ℕ) (x : ℕ → ℕ) (r : ℕ) → r < 9 → capacity n x r ≤ 8 * n
unfolding sum
capacity_bound zero x r low = omega arith
capacity_bound (suc n) x r low = omega (arith, capacity_bound n x r low)

module _ (n : ℕ) (x : ℕ → ℕ) (m : ℕ) (few : (s : ℕ) → s < n → x s ≤ m) where
  -- from m on the capacity is the same
  pub capacity_top : (r : ℕ) → m ≤ r → capacity n x r ≡ capacity n x m
  capacity_top r h = sum_ext n (λ s. min r (x s)) (λ s. min m (x s)) (λ s l. omega (arith, few s l))

  pub capacity_high : (r : ℕ) → capacity n x r ≤ capacity n x m
  capacity_high r = sum_le n (λ s. min r (x s)) (λ s. min m (x s)) (λ s l. omega (arith, few s l))

-- two numbers further apart have no more capacity than two of the same sum between them
pub capacity_concave : (n : ℕ) (x : ℕ → ℕ) (a b c d : ℕ) → a ≤ c → a ≤ d → a + b ≡ c + d
    → capacity n x b + capacity n x a ≤ capacity n x c + capacity n x d
capacity_concave n x a b c d hc hd e =
    sum_le_two n (λ s. min b (x s)) (λ s. min a (x s)) (λ s. min c (x s)) (λ s. min d (x s)) (λ s l. omega arith)

-- and so for the sizes of two selections, of their union and of their intersection
pub capacity_or_and : (k n : ℕ) (x : ℕ → ℕ) (p q : ℕ → Bool)
    → capacity n x (count k (λ i. p i || q i)) + capacity n x (count k (λ i. p i && q i)) ≤ capacity n x (count k p) + capacity n x (count k q)
capacity_or_and k n x p q =
    capacity_concave n x (count k (λ i. p i && q i)) (count k (λ i. p i || q i)) (count k p) (count k q)
    (count_imp k (λ i. p i && q i) p (λ i l h. left_of (p i) (q i) h))
    (count_imp k (λ i. p i && q i) q (λ i l h. right_of (p i) (q i) h))
    (let e : count k (λ i. p i || q i) + count k (λ i. p i && q i) ≡ count k p + count k q = sum_or_and k (λ i b. bit b) p q in omega arith)

-- for no job, and for one job more: one cell more of each slot that has so many
pub capacity_zero : (n : ℕ) (x : ℕ → ℕ) → capacity n x 0 ≡ 0
capacity_zero n x = sum_zero n (λ s. min 0 (x s)) (λ s l. omega arith)

pub capacity_next : (n : ℕ) (x : ℕ → ℕ) (r : ℕ) → capacity n x (r + 1) ≡ capacity n x r + count n (λ s. leb (r + 1) (x s))
capacity_next n x r =
    sum_ext n (λ s. min (r + 1) (x s)) (λ s. min r (x s) + bit (leb (r + 1) (x s))) (λ s l. one (x s) (is (leb (r + 1) (x s))))
    ∙ sum_add n (λ s. min r (x s)) (λ s. bit (leb (r + 1) (x s)))
  where
    one : (y : ℕ) → Is (leb (r + 1) y) → min (r + 1) y ≡ min r y + bit (leb (r + 1) y)
    one y (is_true e) = omega (arith, ap bit e, le_of (r + 1) y e)
    one y (is_false e) = omega (arith, ap bit e, gt_of (r + 1) y e)

-- ---- one slot more

pub capacity_none : (x : ℕ → ℕ) (r : ℕ) → capacity 0 x r ≡ 0
unfolding sum
capacity_none x r = refl

pub capacity_more : (n : ℕ) (x : ℕ → ℕ) (r : ℕ) → capacity (n + 1) x r ≡ capacity n x r + min r (x n)
unfolding sum
capacity_more n x r = rw add-one

-- ---- one cell more

-- it adds at most one, wherever it stands
pub capacity_put_le : (n : ℕ) (x : ℕ → ℕ) (z r : ℕ) → capacity n (put x z) r ≤ suc (capacity n x r)
capacity_put_le n x z r =
    omega (
      arith,
      sum_le_two n (λ s. min r (put x z s)) (λ s. 0) (λ s. min r (x s)) (λ s. bit (eqb s z)) (λ s l. omega arith),
      count_eqb_le n z,
    )

-- a cell in a slot that has r cells already, or in no slot, does not change the capacity for r
pub capacity_put_same : (n : ℕ) (x : ℕ → ℕ) (z r : ℕ) → (z < n → r ≤ x z) → capacity n (put x z) r ≡ capacity n x r
capacity_put_same n x z r h = sum_ext n (λ s. min r (put x z s)) (λ s. min r (x s)) each
  where
    each : (s : ℕ) → s < n → min r (x s + bit (eqb s z)) ≡ min r (x s)
    each s l = go (is (eqb s z))
      where
        go : Is (eqb s z) → min r (x s + bit (eqb s z)) ≡ min r (x s)
        go (is_true e) =
            let at-z : s ≡ z = eq_of s z e in
            omega (arith, ap x at-z, h (omega arith), bit_le (eqb s z))
        go (is_false e) = omega (arith, ap bit e)

-- and it is only such a cell that does not
pub capacity_put_full : (n : ℕ) (x : ℕ → ℕ) (z r : ℕ) → capacity n (put x z) r ≡ capacity n x r → z < n → r ≤ x z
capacity_put_full n x z r same l =
    omega
    (arith, sum_but n (λ s. min r (put x z s)) (λ s. min r (x s)) z l (λ s m ne. other s (eqb_no s z ne)), ap bit (eqb_self z))
  where
    other : (s : ℕ) → eqb s z ≡ false → min r (put x z s) ≡ min r (x s)
    other s e = omega (arith, ap bit e)

-- and in all there is one more
pub sum_put : (n : ℕ) (x : ℕ → ℕ) (z : ℕ) → z < n → sum n (put x z) ≡ sum n x + 1
sum_put n x z low =
    omega (arith, sum_but n (put x z) x z low (λ s m ne. omega (arith, ap bit (eqb_no s z ne))), ap bit (eqb_self z))

-- ---- the table of how many slots have at least so many

-- one free cell more or fewer, as the code tests it
least_bit : (r v : ℕ) → bit (leb (r + 1) v) ≡ bit (ltb r v)
least_bit r v = go (is (ltb r v))
  where
    go : Is (ltb r v) → bit (leb (r + 1) v) ≡ bit (ltb r v)
    go (is_true e) = ap bit (leb_yes (r + 1) v (omega (arith, lt_of r v e)) ∙ sym e)
    go (is_false e) = ap bit (leb_no (r + 1) v (omega (arith, ge_of r v e)) ∙ sym e)

-- every frame has one
pub at_least_of : (n : ℕ) (x : ℕ → ℕ) → AtLeast (tabulate 8 (λ r. count n (λ s. leb (r + 1) (x s)))) n x
at_least_of n x =
    record {
      long = length_tabulate 8 (λ r. count n (λ s. leb (r + 1) (x s)));
      each = at_tabulate 8 (λ r. count n (λ s. leb (r + 1) (x s)));
    }

-- slots without a free cell are in no entry
pub at_least_none : (n : ℕ) (x : ℕ → ℕ) → ((s : ℕ) → s < n → x s ≡ 0) → AtLeast (replicate 8 0) n x
at_least_none n x none =
    record { long = refl; each = λ r l. zeros 8 r ∙ sym (count_none n (λ s. leb (r + 1) (x s)) (λ s m. leb_no (r + 1) (x s) (omega (arith, none s m)))) }

module _ {l : List ℕ} {n : ℕ} {x : ℕ → ℕ} (a : AtLeast l n x) where
  -- an entry counts slots
  pub at_least_le : (r : ℕ) → r < 8 → get_or l r 0 ≤ n
  at_least_le r low = omega (arith, a.each r low, count_le n (λ s. leb (r + 1) (x s)))

  pub at_least_ext : (y : ℕ → ℕ) → ((s : ℕ) → s < n → x s ≡ y s) → AtLeast l n y
  at_least_ext y same =
      record { long = a.long; each = λ r low. a.each r low ∙ count_ext n (λ s. leb (r + 1) (x s)) (λ s. leb (r + 1) (y s)) (λ s m. ap (leb (r + 1)) (same s m)) }

  -- the sum of the entries 1 to r is the capacity for r ..
  pub capacity_table : (r : ℕ) → r ≤ 8 → capacity_from l r ≡ capacity n x r
  capacity_table zero low = sum_none (at l) ∙ sym (capacity_zero n x)
  capacity_table (suc r) low =
      let next : suc r ≡ r + 1 = omega arith in
      rw next (omega (arith, sum_more r (at l), capacity_table r (omega arith), a.each r (omega arith), capacity_next n x r))

  -- .. and past 8 it is that for 8
  pub capacity_past : (r : ℕ) → 8 ≤ r → capacity_from l r ≡ capacity_from l 8
  capacity_past r high = sym (sum_below 8 r (at l) high (λ i m h. at_past l i (omega (arith, a.long))))

  -- so needs exceed the one as they exceed the other
  pub excess_table : (sums : ℕ → ℕ) (total : ℕ) → excess_over sums total (capacity_from l) ≡ excess_over sums total (capacity n x)
  excess_table sums total =
      ap₂ max
      (greatest_ext 8 (λ r. sums r - capacity_from l r) (λ r. sums r - capacity n x r) (λ r low. ap (λ (y : ℕ). sums r - y) (capacity_table r low)))
      (ap (λ (y : ℕ). total - y) (capacity_table 8 (omega arith)))

  -- one slot more: one more in the entries up to its free cells
  pub at_least_on : {m : List ℕ} {free : ℕ} → free ≡ x n → length m ≡ 8 → ((r : ℕ) → r < 8 → get_or m r 0 ≡ get_or l r 0 + bit (ltb r free)) → AtLeast m (n + 1) x
  at_least_on {m} {free} e long more =
      record {
        long = long;
        each = λ r low. omega (arith, more r low, a.each r low, count_more n (λ s. leb (r + 1) (x s)), least_bit r (x n), ap (λ (v : ℕ). bit (ltb r v)) e);
      }

  -- a slot that can be used no more: one less in the entries up to its free cells
  pub at_least_off : (y : ℕ → ℕ) (z : ℕ) {m : List ℕ} {free : ℕ} → z < n → ((s : ℕ) → s < n → (s ≡ z → ⊥) → y s ≡ x s) → y z ≡ 0 → free ≡ x z → length m ≡ 8
      → ((r : ℕ) → r < 8 → get_or m r 0 ≡ get_or l r 0 - bit (ltb r free)) → AtLeast m n y
  at_least_off y z {m} {free} inside same none e long less =
      record {
        long = long;
        each = λ r low.
            omega (
              arith,
              less r low,
              a.each r low,
              sum_but n (λ s. bit (leb (r + 1) (y s))) (λ s. bit (leb (r + 1) (x s))) z inside (λ s m ne. ap (λ (v : ℕ). bit (leb (r + 1) v)) (same s m ne)),
              ap bit (leb_no (r + 1) (y z) (omega (arith, none))),
              least_bit r (x z),
              ap (λ (v : ℕ). bit (ltb r v)) e,
            );
      }

  -- One cell more, in slot z, changes one entry: the slot has at least one more than it had.
  pub trial_table : (z : ℕ) → z < n → x z < 8 → AtLeast (set l (x z) (get_or l (x z) 0 + 1)) n (put x z)
  trial_table z inside low = record { long = length-set l (x z) (get_or l (x z) 0 + 1) ∙ a.long; each = λ r few. go r few (is (eqb r (x z))) }
    where
      but : (r : ℕ) → count n (λ s. leb (r + 1) (put x z s)) + bit (leb (r + 1) (x z)) ≡ count n (λ s. leb (r + 1) (x s)) + bit (leb (r + 1) (put x z z))
      but r =
          sum_but n (λ s. bit (leb (r + 1) (put x z s))) (λ s. bit (leb (r + 1) (x s))) z inside
          (λ s m ne. ap (λ (v : ℕ). bit (leb (r + 1) v)) (omega (arith, ap bit (eqb_no s z ne))))

      own : put x z z ≡ x z + 1
      own = omega (arith, ap bit (eqb_self z))

      go : (r : ℕ) → r < 8 → Is (eqb r (x z)) → get_or (set l (x z) (get_or l (x z) 0 + 1)) r 0 ≡ count n (λ s. leb (r + 1) (put x z s))
      go r few (is_true e) =
          let here : r ≡ x z = eq_of r (x z) e in
          ap (λ (k : ℕ). get_or (set l (x z) (get_or l (x z) 0 + 1)) k 0) here
          ∙ get_or-set_same l (x z) (get_or l (x z) 0 + 1) 0 (omega (arith, a.long))
          ∙ omega (
            arith,
            ap (λ (k : ℕ). get_or l k 0) here,
            a.each r few,
            but r,
            ap bit (leb_no (r + 1) (x z) (omega arith)),
            ap bit (leb_yes (r + 1) (put x z z) (omega (arith, own))),
          )
      go r few (is_false e) =
          let ne : r ≡ x z → ⊥ = ne_of r (x z) e in
          get_or-set_other l (x z) r (get_or l (x z) 0 + 1) 0 ne
          ∙ omega (arith, a.each r few, but r, ap bit (same r ne (is (leb (r + 1) (x z)))))
        where
          same : (r : ℕ) → (r ≡ x z → ⊥) → Is (leb (r + 1) (x z)) → leb (r + 1) (put x z z) ≡ leb (r + 1) (x z)
          same r ne (is_true e) = leb_yes (r + 1) (put x z z) (omega (arith, own, le_of (r + 1) (x z) e)) ∙ sym e
          same r ne (is_false e) =
              let high = gt_of (r + 1) (x z) e in
              leb_no (r + 1) (put x z z) (omega (arith, own)) ∙ sym e
