-- Cells and placements: the free cells of a slot taken in order, and a placement read off from cells.
--
-- In order: the cells that pass a test: those below one of them (`count_below`), the first m (`count_first`), the r-th (`nth_count`); one job to a
-- cell, one cell to a job (`takes_one_job`, `takes_one_cell`); what the cells of a slot then hold (`slot_holding`); the jobs' cells of a
-- slot are at most the free ones (`cells_within`), and with any such bound on the slots they are a placement (`placed_of_cells`).
-- Assumes nothing.
use Prim.Native.Nat.{ℕ, zero, suc, ◌+◌, ◌≤◌, ◌<◌, min}
use native.Mathlib.Nat.{le_refl, zero-add, add-zero}
use native.Mathlib.Omega.{arith}
use mathlib.Core.Path.{◌≡◌, sym, ◌∙◌, ap}
use mathlib.Core.Bool.{Bool, true, false, not, ◌&&◌, cond, and-true, and-false}
use lib.Dec.{ltb, eqb}
use Rattle.laws.specs.Sums.{bit, only, sum, count}
use Rattle.laws.specs.Placement.{Placed}
use Rattle.laws.specs.Cells.{takes, slot_cell}
use Rattle.laws.proofs.Tests.{Is, is_true, is_false, is, not-true}
use Rattle.laws.proofs.Comparisons.{lt_of, eq_of, ne_of, ltb_yes, eqb_comm}
use Rattle.laws.proofs.Sums.{sum_ext, sum_le, sum_zero, term_le, sum_add, sum_swap, sum_beyond}
use Rattle.laws.proofs.Counts.{bit_le, bit_ltb, count_ext}

-- ---- the cells that pass a test

-- a test below a number: its count there, and one more where it holds
pub count_below : (n : ℕ) (a : ℕ → Bool) (i : ℕ) → i < n → count i a + bit (a i) ≤ count n a
count_below n a i h = sum_beyond i n (λ j. bit (a j)) i (le_refl i) h

-- how many of the first m numbers that pass a test are below n
pub count_first : (n : ℕ) (a : ℕ → Bool) (m : ℕ) → sum n (λ s. bit (a s && ltb (count s a) m)) ≡ min m (count n a)
unfolding sum
count_first zero a m = omega arith
count_first (suc n) a m = go (count_first n a m) (is (a n))
  where
    go : sum n (λ s. bit (a s && ltb (count s a) m)) ≡ min m (count n a) → Is (a n)
        → sum n (λ s. bit (a s && ltb (count s a) m)) + bit (a n && ltb (count n a) m) ≡ min m (count n a + bit (a n))
    go ih (is_true e) = rw e (omega (arith, bit_ltb (count n a) m))
    go ih (is_false e) = rw e (omega arith)

-- among the cells that pass a test, just one has r of them before it, if there are more than r
pub nth_count : (n : ℕ) (f : ℕ → Bool) (r : ℕ) → count n (λ b. f b && eqb r (count b f)) ≡ bit (ltb r (count n f))
unfolding sum
nth_count zero f r = omega (arith, bit_ltb r 0)
nth_count (suc n) f r = go (nth_count n f r) (is (f n)) (is (eqb r (count n f)))
  where
    go : count n (λ b. f b && eqb r (count b f)) ≡ bit (ltb r (count n f)) → Is (f n) → Is (eqb r (count n f))
        → count n (λ b. f b && eqb r (count b f)) + bit (f n && eqb r (count n f)) ≡ bit (ltb r (count n f + bit (f n)))
    go ih (is_true p) (is_true q) =
        rw (p, q) (omega (arith, eq_of r (count n f) q, bit_ltb r (count n f), bit_ltb r (count n f + 1)))
    go ih (is_true p) (is_false q) =
        let ne : r ≡ count n f → ⊥ = ne_of r (count n f) q in
        rw (p, q) (omega (arith, bit_ltb r (count n f), bit_ltb r (count n f + 1)))
    go ih (is_false p) q = rw p (omega (arith, bit_ltb r (count n f), bit_ltb r (count n f + 0)))

-- ---- one job to a cell, one cell to a job

-- a cell is taken by at most one job, and only if it is free
pub takes_one_job : (k : ℕ) (a f : ℕ → Bool) (b : ℕ) → count k (λ i. takes a f i b) ≤ bit (f b)
takes_one_job k a f b = go (is (f b))
  where
    go : Is (f b) → count k (λ i. takes a f i b) ≤ bit (f b)
    go (is_true e) =
        let q : (i : ℕ) → i < k → takes a f i b ≡ (a i && eqb (count b f) (count i a)) =
        λ i l. rw e (ap (λ (t : Bool). a i && t) (eqb_comm (count i a) (count b f))) in
        omega (
          arith,
          count_ext k (λ i. takes a f i b) (λ i. a i && eqb (count b f) (count i a)) q,
          nth_count k a (count b f),
          bit_le (ltb (count b f) (count k a)),
          ap bit e,
        )
    go (is_false e) =
        omega (arith, sum_zero k (λ i. bit (takes a f i b)) (λ i l. rw e))

-- a chosen job takes one cell, and any other none, if the free cells are enough for all that are chosen
pub takes_one_cell : (k n : ℕ) (a f : ℕ → Bool) → count k a ≤ count n f → (i : ℕ) → i < k → count n (λ b. takes a f i b) ≡ bit (a i)
takes_one_cell k n a f enough i l = go (is (a i))
  where
    go : Is (a i) → count n (λ b. takes a f i b) ≡ bit (a i)
    go (is_true e) =
        let q : (b : ℕ) → b < n → takes a f i b ≡ (f b && eqb (count i a) (count b f)) =
        λ b m. rw (e, and-true (f b)) in
        count_ext n (λ b. takes a f i b) (λ b. f b && eqb (count i a) (count b f)) q
        ∙ nth_count n f (count i a)
        ∙ ap bit (ltb_yes (count i a) (count n f) (omega (arith, count_below k a i l, ap bit e)) ∙ sym e)
    go (is_false e) =
        sum_zero n (λ b. bit (takes a f i b)) (λ b m. rw (e, and-false (f b))) ∙ sym (ap bit e)

-- ---- what the cells of a slot hold

-- A test that at most one job passes: the value of that job, or 0 if there is none, passes a test q exactly if a job passes whose value
-- does. (q is false of 0.)
pub one_value : (k : ℕ) (g : ℕ → Bool) (v : ℕ → ℕ) (q : ℕ → Bool) → q 0 ≡ false → count k g ≤ 1
    → bit (q (sum k (λ i. only (g i) (v i)))) ≡ count k (λ i. g i && q (v i))
unfolding sum
one_value zero g v q z h = ap bit z
one_value (suc k) g v q z h = go (one_value k g v q z) (is (g k))
  where
    none : g k ≡ true → (i : ℕ) → i < k → g i ≡ false
    none e i l = not-true (g i) (λ p. omega (arith, term_le k (λ j. bit (g j)) i l, ap bit p, ap bit e))

    go : (count k g ≤ 1 → bit (q (sum k (λ i. only (g i) (v i)))) ≡ count k (λ i. g i && q (v i))) → Is (g k)
        → bit (q (sum k (λ i. only (g i) (v i)) + only (g k) (v k))) ≡ count k (λ i. g i && q (v i)) + bit (g k && q (v k))
    go ih (is_true e) =
        let z₁ : sum k (λ i. only (g i) (v i)) ≡ 0 = sum_zero k (λ i. only (g i) (v i)) (λ i l. ap (λ (t : Bool). only t (v i)) (none e i l)) in
        let z₂ : count k (λ i. g i && q (v i)) ≡ 0 =
        sum_zero k (λ i. bit (g i && q (v i))) (λ i l. ap (λ (t : Bool). bit (t && q (v i))) (none e i l)) in
        rw (e, z₁, z₂) (ap (λ (n : ℕ). bit (q n)) (zero-add (v k)) ∙ sym (zero-add (bit (q (v k)))))
    go ih (is_false e) =
        rw e (ap (λ (n : ℕ). bit (q n)) (add-zero (sum k (λ i. only (g i) (v i))))
        ∙ ih (omega (arith, bit_le (g k)))
        ∙ sym (add-zero (count k (λ i. g i && q (v i)))))

-- how many cells of a slot pass a test after the jobs have taken theirs: the chosen jobs whose value does, and the cells that were not free
pub slot_holding : (k n : ℕ) (a f : ℕ → Bool) (v t : ℕ → ℕ) (q : ℕ → Bool) → q 0 ≡ false → count k a ≤ count n f
    → count n (λ b. q (slot_cell k a f v t b)) ≡ count k (λ i. a i && q (v i)) + count n (λ b. not (f b) && q (t b))
slot_holding k n a f v t q z enough =
    sum_ext n (λ b. bit (q (slot_cell k a f v t b))) (λ b. taken b + bit (not (f b) && q (t b))) (λ b l. point b (is (f b)))
    ∙ sum_add n taken (λ b. bit (not (f b) && q (t b)))
    ∙ ap (λ (m : ℕ). m + count n (λ b. not (f b) && q (t b)))
    (sum_swap n k (λ b i. bit (takes a f i b && q (v i)))
    ∙ sum_ext k (λ i. count n (λ b. takes a f i b && q (v i))) (λ i. bit (a i && q (v i))) (λ i l. job i l (is (q (v i)))))
  where
    taken : ℕ → ℕ
    taken b = count k (λ i. takes a f i b && q (v i))

    point : (b : ℕ) → Is (f b) → bit (q (slot_cell k a f v t b)) ≡ taken b + bit (not (f b) && q (t b))
    point b (is_true e) =
        ap (λ (x : Bool). bit (q (cond x (sum k (λ i. only (takes a f i b) (v i))) (t b)))) e
        ∙ one_value k (λ i. takes a f i b) v q z (omega (arith, takes_one_job k a f b, bit_le (f b)))
        ∙ sym (add-zero (taken b))
        ∙ ap (λ (x : Bool). taken b + bit (not x && q (t b))) (sym e)
    point b (is_false e) =
        let w : taken b ≡ 0 = sum_zero k (λ i. bit (takes a f i b && q (v i))) (λ i l. rw e) in
        rw (w, e) (sym (zero-add (bit (q (t b)))))

    job : (i : ℕ) → i < k → Is (q (v i)) → count n (λ b. takes a f i b && q (v i)) ≡ bit (a i && q (v i))
    job i l (is_true e) =
        rw (e, and-true (a i)) (count_ext n (λ b. takes a f i b && true) (λ b. takes a f i b) (λ b m. and-true (takes a f i b))
        ∙ takes_one_cell k n a f enough i l)
    job i l (is_false e) = rw (e, and-false (a i)) (sum_zero n (λ b. bit (takes a f i b && false)) (λ b m. ap bit (and-false (takes a f i b))))

-- ---- a placement read off from cells

-- cells of a slot that belong to jobs (`own i b`), each to at most one job and only where it is free, are no more than are free
pub cells_within : (k m : ℕ) (own : ℕ → ℕ → Bool) (f : ℕ → Bool) → ((b : ℕ) → b < m → count k (λ i. own i b) ≤ bit (f b))
    → sum k (λ i. count m (λ b. own i b)) ≤ count m f
cells_within k m own f single =
    omega (arith, sum_swap k m (λ i b. bit (own i b)), sum_le m (λ b. count k (λ i. own i b)) (λ b. bit (f b)) single)

-- Cells that belong to jobs (`own i s b`), at most one of a slot to a job, of slot s at most `x s`, and only in slots that the job may use: a placement.
pub placed_of_cells : (w : ℕ → ℕ → Bool) (k n m : ℕ) (own : ℕ → ℕ → ℕ → Bool) (x c : ℕ → ℕ)
    → ((i s : ℕ) → i < k → s < n → count m (λ b. own i s b) ≤ 1)
    → ((s : ℕ) → s < n → sum k (λ i. count m (λ b. own i s b)) ≤ x s)
    → ((i : ℕ) → i < k → sum n (λ s. count m (λ b. own i s b)) ≡ c i)
    → ((i s : ℕ) → i < k → s < n → 0 < count m (λ b. own i s b) → w i s ≡ true)
    → Placed w k c n x (λ i s. ltb 0 (count m (λ b. own i s b)))
placed_of_cells w k n m own x c row slot exact may =
    record {
      exact = λ i l. sum_ext n (has i) (λ s. count m (λ b. own i s b)) (λ s z. one i s l z) ∙ exact i l;
      within = λ s z. omega (arith, sum_ext k (λ i. has i s) (λ i. count m (λ b. own i s b)) (λ i l. one i s l z), slot s z);
      allowed = λ i s l z e. may i s l z (lt_of 0 (count m (λ b. own i s b)) e);
    }
  where
    has : ℕ → ℕ → ℕ
    has i s = bit (ltb 0 (count m (λ b. own i s b)))

    one : (i s : ℕ) → i < k → s < n → has i s ≡ count m (λ b. own i s b)
    one i s l z = omega (arith, bit_ltb 0 (count m (λ b. own i s b)), row i s l z)
