-- The numbers of the table that a call leaves: those that were used before it, and the jobs' own.
--
-- In order: how many values some numbers have (`count_values`); the job numbers (`left_has_job`), the used ones (`left_is_used`), and how many job numbers there are (`left_job_count`).
-- Assumes nothing.
use Prim.Native.Nat.{ℕ, zero, suc, ◌+◌, ◌≤◌, ◌<◌}
use native.Mathlib.Omega.{arith}
use mathlib.Core.Path.{◌≡◌, refl, sym, ◌∙◌, ap}
use mathlib.Core.Bool.{Bool, true, false, ◌||◌, or-false, or_assoc}
use mathlib.Core.List.{List}
use lib.ListN.{length}
use lib.Dec.{ltb, eqb}
use Rattle.laws.specs.Sums.{bit, count, sum}
use Rattle.laws.proofs.Tests.{Is, is, is_true, is_false, clash, not-true, or_right, neither_right}
use Rattle.laws.proofs.Comparisons.{ge_of, lt_of, eq_of, ltb_yes, ltb_no, eqb_yes, eqb_no, eqb_self}
use Rattle.laws.proofs.Sums.{sum_but}
use Rattle.laws.proofs.Counts.{count_ext, count_none, count_pos, count_some, count_or}
use Rattle.station.specs.Head.{Head, Job}
use Rattle.placing.specs.Table.{Cells, holding, call_cell, has_preset, has_job, is_used, job_count}
use Rattle.placing.specs.Valid.{ValidCall, job_at}
use Rattle.placing.proofs.NewJobs.{Good}
use Rattle.placing.proofs.CalledTable.{changed_other_calls}

-- ---- values

-- one of f 0, .., f (k - 1) is n
abbrev pub is_one_of : ℕ → (ℕ → ℕ) → ℕ → Bool
is_one_of k f n = ltb 0 (count k (λ i. eqb (f i) n))

-- different numbers below m are as many of the numbers below m
count_values : (m k : ℕ) (f : ℕ → ℕ) → ((i : ℕ) → i < k → f i < m) → ((i j : ℕ) → j < i → i < k → f j ≡ f i → ⊥) → count m (is_one_of k f) ≡ k
unfolding sum
count_values m zero f low other = count_none m (is_one_of zero f) (λ n l. refl)
count_values m (suc k) f low other =
    omega (
      arith,
      count_values m k f (λ i l. low i (omega arith)) (λ i j l q. other i j l (omega arith)),
      sum_but m (λ n. bit (is_one_of (suc k) f n)) (λ n. bit (is_one_of k f n)) (f k) (low k (omega arith)) (λ n l ne. ap bit (same n (λ q. ne (sym q)))),
      ap bit here,
      ap bit fresh,
    )
  where
    same : (n : ℕ) → (f k ≡ n → ⊥) → is_one_of (suc k) f n ≡ is_one_of k f n
    same n ne =
        let more : count (suc k) (λ i. eqb (f i) n) ≡ count k (λ i. eqb (f i) n) = omega (arith, ap bit (eqb_no (f k) n ne)) in
        ap (λ (x : ℕ). ltb 0 x) more

    here : is_one_of (suc k) f (f k) ≡ true
    here = ltb_yes 0 (count (suc k) (λ i. eqb (f i) (f k))) (count_some (suc k) (λ i. eqb (f i) (f k)) k (omega arith) (eqb_self (f k)))

    fresh : is_one_of k f (f k) ≡ false
    fresh =
        ltb_no 0 (count k (λ i. eqb (f i) (f k)))
        (omega (arith, count_none k (λ i. eqb (f i) (f k)) (λ i l. eqb_no (f i) (f k) (other k i l (omega arith)))))

-- ---- numbers

-- the number of job i
abbrev pub number_of : List Job → ℕ → ℕ
number_of jobs i = (job_at jobs i).number

module _ (h : Head) (clock : ℕ) (jobs : List Job) (t u : Cells) (good : Good h t jobs) (valid : ValidCall h clock jobs t u) (some : (i : ℕ) → i < length jobs → 1 ≤ (job_at jobs i).slots) where
  pub left_has_job : (n : ℕ) → has_job h u n ≡ (has_job h t n || is_one_of (length jobs) (number_of jobs) n)
  left_has_job n = go (is (is_one_of (length jobs) (number_of jobs) n))
    where
      none : is_one_of (length jobs) (number_of jobs) n ≡ false → (i : ℕ) → i < length jobs → (job_at jobs i).number ≡ n → ⊥
      none e i l q =
          omega (arith, count_some (length jobs) (λ j. eqb (number_of jobs j) n) i l (eqb_yes (number_of jobs i) n q), ge_of 0 (count (length jobs) (λ j. eqb (number_of jobs j) n)) e)

      go : Is (is_one_of (length jobs) (number_of jobs) n) → has_job h u n ≡ (has_job h t n || is_one_of (length jobs) (number_of jobs) n)
      go (is_true e) =
          let one = count_pos (length jobs) (λ j. eqb (number_of jobs j) n) (lt_of 0 (count (length jobs) (λ j. eqb (number_of jobs j) n)) e) in
          let cells : holding h u (call_cell n) ≡ (job_at jobs one.0).slots =
          ap (λ (k : ℕ). holding h u (call_cell k)) (sym (eq_of (number_of jobs one.0) n one.2)) ∙ valid.exact one.0 one.1 in
          ltb_yes 0 (holding h u (call_cell n)) (omega (arith, cells, some one.0 one.1))
          ∙ sym (or_right (has_job h t n) (is_one_of (length jobs) (number_of jobs) n) e)
      go (is_false e) =
          ap (λ (k : ℕ). ltb 0 k) (changed_other_calls h clock jobs t u good.high valid.changes n (none e))
          ∙ sym (ap (λ (b : Bool). has_job h t n || b) e ∙ or-false (has_job h t n))

  pub left_is_used : (n : ℕ) → is_used h u n ≡ (is_used h t n || is_one_of (length jobs) (number_of jobs) n)
  left_is_used n = ap (λ (b : Bool). has_preset h n || b) (left_has_job n) ∙ sym (or_assoc (has_preset h n) (has_job h t n) (is_one_of (length jobs) (number_of jobs) n))

  pub left_job_count : job_count h u ≡ job_count h t + length jobs
  left_job_count =
      count_ext 256 (has_job h u) (λ n. has_job h t n || is_one_of (length jobs) (number_of jobs) n) (λ n l. left_has_job n)
      ∙ count_or 256 (has_job h t) (is_one_of (length jobs) (number_of jobs)) (λ n l e. not-true (is_one_of (length jobs) (number_of jobs) n) (new n e))
      ∙ ap (λ (k : ℕ). job_count h t + k)
      (count_values 256 (length jobs) (number_of jobs) (λ i l. omega (arith, good.high i l)) (λ i j l m. good.distinct i j l m))
    where
      new : (n : ℕ) → has_job h t n ≡ true → is_one_of (length jobs) (number_of jobs) n ≡ true → ⊥
      new n e o =
          let one = count_pos (length jobs) (λ j. eqb (number_of jobs j) n) (lt_of 0 (count (length jobs) (λ j. eqb (number_of jobs j) n)) o) in
          let q : number_of jobs one.0 ≡ n = eq_of (number_of jobs one.0) n one.2 in
          clash (sym e ∙ ap (has_job h t) (sym q) ∙ neither_right (has_preset h (number_of jobs one.0)) (has_job h t (number_of jobs one.0)) (good.fresh one.0 one.1))
