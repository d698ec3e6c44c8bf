-- Placements within windows: they obey the criterion, and what is left of one without a pair is one.
--
-- In order: what the jobs of a set hold (`held_by_slots`, `held_in_slot`); a placement obeys the criterion; a matrix that agrees with a placement; a placement with one pair less.
-- Assumes nothing.
use Prim.Native.Nat.{ℕ, ◌+◌, ◌≤◌, ◌<◌, min}
use native.Mathlib.Omega.{arith}
use mathlib.Core.Path.{◌≡◌, sym, ◌∙◌, ap}
use mathlib.Core.Bool.{Bool, true, false, not, ◌&&◌, and_comm}
use lib.Dec.{eqb}
use Rattle.laws.specs.Sums.{bit, only, sum, count}
use Rattle.laws.specs.Placement.{Placed}
use Rattle.laws.specs.Windows.{need_of, users_of, WindowCriterion, window_excess, less, without}
use Rattle.laws.proofs.Tests.{left_of, right_of, both}
use Rattle.laws.proofs.Sums.{sum_ext, sum_le, sum_swap}
use Rattle.laws.proofs.Counts.{count_ext, count_imp, bit_and_true, bit_and_false}
use Rattle.laws.proofs.Placement.{only_count}
use Rattle.laws.proofs.WindowExcess.{window_excess_of_criterion}
use Rattle.laws.proofs.TakeOrLeave.{users_without}

-- ---- what the jobs of a set hold

-- counted by jobs and counted by slots
pub held_by_slots : (k n : ℕ) (a : ℕ → ℕ → Bool) (p : ℕ → Bool) → need_of k (λ i. count n (λ s. a i s)) p ≡ sum n (users_of k a p)
held_by_slots k n a p =
    sum_ext k (λ i. only (p i) (count n (λ s. a i s))) (λ i. sum n (λ s. bit (p i && a i s))) (λ i l. only_count n (a i) (p i))
    ∙ sum_swap k n (λ i s. bit (p i && a i s))

-- in a slot the jobs of a set have at most as many cells as are free, and as they may use
pub held_in_slot : (k n : ℕ) (x : ℕ → ℕ) (w a : ℕ → ℕ → Bool) (p : ℕ → Bool) → ((s : ℕ) → s < n → count k (λ i. a i s) ≤ x s)
    → ((i s : ℕ) → i < k → s < n → a i s ≡ true → w i s ≡ true) → (s : ℕ) → s < n → users_of k a p s ≤ min (x s) (users_of k w p s)
held_in_slot k n x w a p within allowed s l =
    omega (
      arith,
      within s l,
      count_imp k (λ i. p i && a i s) (λ i. a i s) (λ i m. right_of (p i) (a i s)),
      count_imp k (λ i. p i && a i s) (λ i. p i && w i s)
          (λ i m e. both (p i) (w i s) (left_of (p i) (a i s) e) (allowed i s m l (right_of (p i) (a i s) e))),
    )

-- T1 for windows: a placement obeys every set of jobs
pub criterion_of_within : {k : ℕ} {c : ℕ → ℕ} {n : ℕ} {x : ℕ → ℕ} {w a : ℕ → ℕ → Bool} → Placed w k c n x a → WindowCriterion k c n x w
criterion_of_within {k} {c} {n} {x} {w} {a} h p =
    omega (
      arith,
      sum_ext k (λ i. only (p i) (c i)) (λ i. only (p i) (count n (λ s. a i s))) (λ i l. ap (only (p i)) (sym (h.exact i l))),
      held_by_slots k n a p,
      sum_le n (users_of k a p) (λ s. min (x s) (users_of k w p s)) (held_in_slot k n x w a p h.within h.allowed),
    )

-- so where there is a placement there is no excess
pub window_excess_of_within : {k : ℕ} {c : ℕ → ℕ} {n : ℕ} {x : ℕ → ℕ} {w a : ℕ → ℕ → Bool} → Placed w k c n x a → window_excess k c n x w ≡ 0
window_excess_of_within {k} {c} {n} {x} {w} h = window_excess_of_criterion k c n x w (criterion_of_within h)

-- ---- a matrix that agrees with a placement

-- a placement is what it says about the k jobs and n slots
pub within_ext : {k : ℕ} {c : ℕ → ℕ} {n : ℕ} {x : ℕ → ℕ} {w a b : ℕ → ℕ → Bool} → ((i s : ℕ) → i < k → s < n → a i s ≡ b i s)
    → Placed w k c n x a → Placed w k c n x b
within_ext {k} {c} {n} {x} {w} {a} {b} same h =
    record {
      exact = λ i l. sym (count_ext n (λ s. a i s) (λ s. b i s) (λ s m. same i s l m)) ∙ h.exact i l;
      within = λ s m. omega (arith, h.within s m, count_ext k (λ i. a i s) (λ i. b i s) (λ i l. same i s l m));
      allowed = λ i s l m e. h.allowed i s l m (same i s l m ∙ e);
    }

-- ---- a placement with one pair less

-- a job's slots, and a slot's jobs, with the pair and without it
pub row_without : (n : ℕ) (b : ℕ → ℕ → Bool) (i s j : ℕ) → s < n → count n (λ t. b j t) ≡ count n (λ t. without b i s j t) + bit (eqb j i && b i s)
row_without n b i s j l =
    users_without n (λ t h. b h t) (λ t. true) s i j l
    ∙ ap (λ (m : ℕ). m + bit (eqb j i && b i s))
    (count_ext n (λ t. b j t && not (eqb t s && eqb j i)) (λ t. without b i s j t)
    (λ t m. ap (λ (d : Bool). b j t && not d) (and_comm (eqb t s) (eqb j i))))

pub column_without : (k : ℕ) (b : ℕ → ℕ → Bool) (i s t : ℕ) → i < k → count k (λ j. b j t) ≡ count k (λ j. without b i s j t) + bit (eqb t s && b i s)
column_without k b i s t l = users_without k b (λ j. true) i s t l

-- a part of the windows stays one without the pair
without_part : (a b d : Bool) → (a ≡ true → b ≡ true) → (a && d) ≡ true → (b && d) ≡ true
without_part a b d h e = both b d (h (left_of a d e)) (right_of a d e)

-- the pair that a placement has is taken
pub within_taking : {k : ℕ} {c : ℕ → ℕ} {n : ℕ} {x : ℕ → ℕ} {w b : ℕ → ℕ → Bool} (i s : ℕ) → i < k → s < n → b i s ≡ true
    → Placed w k c n x b → Placed (without w i s) k (less c i) n (less x s) (without b i s)
within_taking {k} {c} {n} {x} {w} {b} i s l m e h =
    record {
      exact = λ j q. omega (arith, h.exact j q, row_without n b i s j m, bit_and_true (eqb j i) (b i s) e);
      within = λ t q. omega (arith, h.within t q, column_without k b i s t l, bit_and_true (eqb t s) (b i s) e);
      allowed = λ j t q u. without_part (b j t) (w j t) (not (eqb j i && eqb t s)) (h.allowed j t q u);
    }

-- the pair that a placement lacks is left out
pub within_leaving : {k : ℕ} {c : ℕ → ℕ} {n : ℕ} {x : ℕ → ℕ} {w b : ℕ → ℕ → Bool} (i s : ℕ) → i < k → s < n → b i s ≡ false
    → Placed w k c n x b → Placed (without w i s) k c n x (without b i s)
within_leaving {k} {c} {n} {x} {w} {b} i s l m e h =
    record {
      exact = λ j q. omega (arith, h.exact j q, row_without n b i s j m, bit_and_false (eqb j i) (b i s) e);
      within = λ t q. omega (arith, h.within t q, column_without k b i s t l, bit_and_false (eqb t s) (b i s) e);
      allowed = λ j t q u. without_part (b j t) (w j t) (not (eqb j i && eqb t s)) (h.allowed j t q u);
    }
