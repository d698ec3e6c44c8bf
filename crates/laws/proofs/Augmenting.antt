-- A placement that lacks some cells, one pair at a time: a job gives up a slot, takes a spare cell, or takes over another job's slot.
--
-- In order: rows and columns with one pair more; a pair given up (`partial_without`); a spare cell taken (`partial_with`), which leaves one less
-- lacking; a slot handed over (`partial_handed`), which leaves as much lacking, now by the other job.
-- Assumes nothing.
use Prim.Native.Nat.{ℕ, suc, ◌+◌, ◌-◌, ◌≤◌, ◌<◌}
use native.Mathlib.Omega.{arith}
use mathlib.Core.Path.{◌≡◌, ap}
use mathlib.Core.Logic.{◌⊎◌, inl, inr}
use mathlib.Core.Bool.{Bool, true, false, not, ◌&&◌, ◌||◌}
use lib.Dec.{eqb}
use Rattle.laws.specs.Sums.{bit, count}
use Rattle.laws.specs.Windows.{without, Partial, lacking, with_pair}
use Rattle.laws.proofs.Tests.{Is, is_true, is_false, is, left_of, right_of, or_right, or_cases}
use Rattle.laws.proofs.Comparisons.{eq_of, eqb_self, eqb_no}
use Rattle.laws.proofs.Sums.{sum_but}
use Rattle.laws.proofs.Counts.{bit_le, count_ext, bit_and_true}
use Rattle.laws.proofs.WindowPlacement.{row_without, column_without}

-- ---- rows and columns with one pair more

-- the pair taken away again leaves the matrix
with_without : (a : ℕ → ℕ → Bool) (i s j t : ℕ) → a i s ≡ false → without (with_pair a i s) i s j t ≡ a j t
with_without a i s j t e = go (is (eqb j i)) (is (eqb t s))
  where
    off : (b d : Bool) → d ≡ false → ((b || d) && not d) ≡ b
    off true d h = rw h
    off false d h = rw h

    go : Is (eqb j i) → Is (eqb t s) → without (with_pair a i s) i s j t ≡ a j t
    go (is_true f) (is_true g) = rw (f, g, eq_of j i f, eq_of t s g, e)
    go (is_true f) (is_false g) = off (a j t) (eqb j i && eqb t s) (rw (f, g))
    go (is_false f) g = off (a j t) (eqb j i && eqb t s) (rw f)

-- the pair is there
with_has : (a : ℕ → ℕ → Bool) (i s : ℕ) → with_pair a i s i s ≡ true
with_has a i s = or_right (a i s) (eqb i i && eqb s s) (rw (eqb_self i, eqb_self s))

-- the pair is one more in its job's row, and in its slot's column
pub row_with : (n : ℕ) (a : ℕ → ℕ → Bool) (i s j : ℕ) → s < n → a i s ≡ false → count n (λ t. with_pair a i s j t) ≡ count n (λ t. a j t) + bit (eqb j i)
row_with n a i s j l e =
    omega (
      arith,
      row_without n (with_pair a i s) i s j l,
      bit_and_true (eqb j i) (with_pair a i s i s) (with_has a i s),
      count_ext n (λ t. without (with_pair a i s) i s j t) (λ t. a j t) (λ t m. with_without a i s j t e),
    )

pub column_with : (k : ℕ) (a : ℕ → ℕ → Bool) (i s t : ℕ) → i < k → a i s ≡ false → count k (λ j. with_pair a i s j t) ≡ count k (λ j. a j t) + bit (eqb t s)
column_with k a i s t l e =
    omega (
      arith,
      column_without k (with_pair a i s) i s t l,
      bit_and_true (eqb t s) (with_pair a i s i s) (with_has a i s),
      count_ext k (λ j. without (with_pair a i s) i s j t) (λ j. a j t) (λ j m. with_without a i s j t e),
    )

-- ---- a pair given up

module _ {k : ℕ} {c : ℕ → ℕ} {n : ℕ} {x : ℕ → ℕ} {w a : ℕ → ℕ → Bool} (i s : ℕ) (l : i < k) (m : s < n) (h : Partial k c n x w a) where
  -- what is left is a placement that lacks some cells
  pub partial_without : Partial k c n x w (without a i s)
  partial_without =
      record {
        few = λ j q. omega (arith, h.few j q, row_without n a i s j m);
        within = λ t q. omega (arith, h.within t q, column_without k a i s t l);
        allowed = λ j t q u e. h.allowed j t q u (left_of (a j t) (not (eqb j i && eqb t s)) e);
      }

  -- one more is lacking
  pub without_lacking : a i s ≡ true → lacking k c n (without a i s) ≡ suc (lacking k c n a)
  without_lacking e =
      omega (
        arith,
        sum_but k (λ j. c j - count n (λ t. without a i s j t)) (λ j. c j - count n (λ t. a j t)) i l (λ j q ne. other j (eqb_no j i ne)),
        own i (eqb_self i),
        h.few i l,
      )
    where
      own : (j : ℕ) → eqb j i ≡ true → count n (λ t. a j t) ≡ suc (count n (λ t. without a i s j t))
      own j f = omega (arith, row_without n a i s j m, bit_and_true (eqb j i) (a i s) e, ap bit f)

      other : (j : ℕ) → eqb j i ≡ false → c j - count n (λ t. without a i s j t) ≡ c j - count n (λ t. a j t)
      other j f = omega (arith, row_without n a i s j m, bit_and_true (eqb j i) (a i s) e, ap bit f)

  -- and the slot has a spare cell
  pub without_spare : a i s ≡ true → count k (λ j. without a i s j s) < x s
  without_spare e =
      omega (arith, h.within s m, column_without k a i s s l, bit_and_true (eqb s s) (a i s) e, ap bit (eqb_self s))

-- ---- a spare cell taken

module _ {k : ℕ} {c : ℕ → ℕ} {n : ℕ} {x : ℕ → ℕ} {w a : ℕ → ℕ → Bool} (i s : ℕ) (l : i < k) (m : s < n) (may : w i s ≡ true) (free : a i s ≡ false)
    (lack : count n (λ t. a i t) < c i) (h : Partial k c n x w a) where
  -- a job that lacks a slot takes a spare cell that it may use
  pub partial_with : count k (λ j. a j s) < x s → Partial k c n x w (with_pair a i s)
  partial_with spare =
      record {
        few = λ j q. row j q (is (eqb j i));
        within = λ t q. column t q (is (eqb t s));
        allowed = λ j t q u e. cell j t q u (or_cases (a j t) (eqb j i && eqb t s) e);
      }
    where
      row : (j : ℕ) → j < k → Is (eqb j i) → count n (λ t. with_pair a i s j t) ≤ c j
      row j q (is_true e) = rw (eq_of j i e) (omega (arith, row_with n a i s i m free, bit_le (eqb i i)))
      row j q (is_false e) = omega (arith, h.few j q, row_with n a i s j m free, ap bit e)

      column : (t : ℕ) → t < n → Is (eqb t s) → count k (λ j. with_pair a i s j t) ≤ x t
      column t q (is_true e) = rw (eq_of t s e) (omega (arith, column_with k a i s s l free, bit_le (eqb s s)))
      column t q (is_false e) = omega (arith, h.within t q, column_with k a i s t l free, ap bit e)

      cell : (j t : ℕ) → j < k → t < n → (a j t ≡ true) ⊎ ((eqb j i && eqb t s) ≡ true) → w j t ≡ true
      cell j t q u (inl e) = h.allowed j t q u e
      cell j t q u (inr e) = rw (eq_of j i (left_of (eqb j i) (eqb t s) e), eq_of t s (right_of (eqb j i) (eqb t s) e)) may

  -- one less is lacking
  pub with_lacking : suc (lacking k c n (with_pair a i s)) ≡ lacking k c n a
  with_lacking =
      omega (
        arith,
        sum_but k (λ j. c j - count n (λ t. with_pair a i s j t)) (λ j. c j - count n (λ t. a j t)) i l (λ j q ne. other j (eqb_no j i ne)),
        row_with n a i s i m free,
        ap bit (eqb_self i),
      )
    where
      other : (j : ℕ) → eqb j i ≡ false → c j - count n (λ t. with_pair a i s j t) ≡ c j - count n (λ t. a j t)
      other j f = omega (arith, row_with n a i s j m free, ap bit f)

-- ---- a slot handed over

-- job j hands slot s over to job i
abbrev pub handed : (ℕ → ℕ → Bool) → ℕ → ℕ → ℕ → ℕ → ℕ → Bool
handed a j i s = with_pair (without a j s) i s

module _ {k : ℕ} {c : ℕ → ℕ} {n : ℕ} {x : ℕ → ℕ} {w a : ℕ → ℕ → Bool} (j i s : ℕ) (q : j < k) (l : i < k) (m : s < n) (has : a j s ≡ true)
    (may : w i s ≡ true) (free : a i s ≡ false) (lack : count n (λ t. a i t) < c i) (h : Partial k c n x w a) where
  -- what holds of the job that takes over holds when the slot is given up
  still_free : without a j s i s ≡ false
  still_free = ap (λ (b : Bool). b && not (eqb i j && eqb s s)) free

  still_lacks : count n (λ t. without a j s i t) < c i
  still_lacks = omega (arith, row_without n a j s i m)

  -- the slot goes from the one job to the other
  pub partial_handed : Partial k c n x w (handed a j i s)
  partial_handed = partial_with i s l m may still_free still_lacks (partial_without j s q m h) (without_spare j s q m h has)

  -- and as much is lacking as before
  pub handed_lacking : lacking k c n (handed a j i s) ≡ lacking k c n a
  handed_lacking =
      omega (arith, with_lacking i s l m may still_free still_lacks (partial_without j s q m h), without_lacking j s q m h has)
