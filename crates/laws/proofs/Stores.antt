-- Stores into lists.
--
-- In order: zeros; a list of numbers whose places from one on and below another were stored, one by one (`Stored`): none yet, one more, one that stands already, and over zeros; one that is put back (`set_back`); of a run of
-- stores, `sets` of lib.Seq, those past the end (`sets_out`), and one run and then another (`sets_append`). The laws of one store are lib.Seq's.
-- Assumes nothing.
use Prim.Native.Nat.{ℕ, zero, suc, ◌+◌, ◌≤◌, ◌<◌}
use native.Mathlib.Omega.{arith}
use mathlib.Core.Path.{◌≡◌, refl, ◌∙◌, ap}
use mathlib.Core.List.{List, [], ◌∷◌, ◌++◌}
use lib.ListN.{length, get_or, set, replicate}
use lib.Dec.{ltb, eqb}
use lib.Seq.{sets, set_out, get_or-set_same, get_or-set_other}
use Rattle.laws.specs.Sums.{only}
use Rattle.laws.proofs.Tests.{Is, is, is_true, is_false}
use Rattle.laws.proofs.Comparisons.{lt_of, ge_of, eq_of, ne_of}

-- ---- zeros

pub zeros : (n i : ℕ) → get_or {A = ℕ} (replicate n 0) i 0 ≡ 0
zeros zero i = refl
zeros (suc n) zero = refl
zeros (suc n) (suc i) = zeros n i

-- ---- numbers stored one by one

-- m is l but for the places from `from` on and below n, which have what f says.
pub record Stored (l : List ℕ) (f : ℕ → ℕ) (from n : ℕ) (m : List ℕ) : Type 0 where
  pub done : (q : ℕ) → from ≤ q → q < n → get_or m q 0 ≡ f q
  pub under : (q : ℕ) → q < from → get_or m q 0 ≡ get_or l q 0
  pub rest : (q : ℕ) → n ≤ q → get_or m q 0 ≡ get_or l q 0

pub stored_none : (l : List ℕ) (f : ℕ → ℕ) (from : ℕ) → Stored l f from from l
stored_none l f from = record { done = λ q a b. absurd (omega arith); under = λ q b. refl; rest = λ q b. refl }

pub stored_more : {l : List ℕ} {f : ℕ → ℕ} {from n : ℕ} {m : List ℕ} {v : ℕ} → Stored l f from n m → from ≤ n → n < length m → v ≡ f n
    → Stored l f from (n + 1) (set m n v)
stored_more {l} {f} {from} {n} {m} {v} h low inside e =
    record {
      done = λ q a b. go q a b (is (eqb q n));
      under = λ q b. get_or-set_other m n q v 0 (λ y. omega arith) ∙ h.under q b;
      rest = λ q b. get_or-set_other m n q v 0 (λ y. omega arith) ∙ h.rest q (omega arith);
    }
  where
    go : (q : ℕ) → from ≤ q → q < n + 1 → Is (eqb q n) → get_or (set m n v) q 0 ≡ f q
    go q a b (is_true y) = rw (eq_of q n y) (get_or-set_same m n v 0 inside ∙ e)
    go q a b (is_false y) = let other = ne_of q n y in get_or-set_other m n q v 0 other ∙ h.done q a (omega arith)

-- what stands there already need not be stored
pub stored_kept : {l : List ℕ} {f : ℕ → ℕ} {from n : ℕ} {m : List ℕ} → Stored l f from n m → get_or m n 0 ≡ f n → Stored l f from (n + 1) m
stored_kept {f = f} {from = from} {n = n} {m = m} h e = record { done = λ q a b. go q a b (is (eqb q n)); under = h.under; rest = λ q b. h.rest q (omega arith) }
  where
    go : (q : ℕ) → from ≤ q → q < n + 1 → Is (eqb q n) → get_or m q 0 ≡ f q
    go q a b (is_true y) = rw (eq_of q n y) e
    go q a b (is_false y) = let other = ne_of q n y in h.done q a (omega arith)

-- a list of zeros, stored into from the front
pub stored_zeros : (k : ℕ) {f : ℕ → ℕ} {n : ℕ} {m : List ℕ} → Stored (replicate k 0) f 0 n m → (q : ℕ) → get_or m q 0 ≡ only (ltb q n) (f q)
stored_zeros k {f} {n} {m} h q = go (is (ltb q n))
  where
    go : Is (ltb q n) → get_or m q 0 ≡ only (ltb q n) (f q)
    go (is_true e) = rw e (h.done q (omega arith) (lt_of q n e))
    go (is_false e) = rw e (h.rest q (ge_of q n e) ∙ zeros k q)

-- a place stored into and put back
pub set_back : (l : List ℕ) (i v : ℕ) → set (set l i v) i (get_or l i 0) ≡ l
set_back [] i v = refl
set_back (x ∷ l) zero v = refl
set_back (x ∷ l) (suc i) v = ap (λ (r : List ℕ). x ∷ r) (set_back l i v)

-- ---- runs of stores

module _ {A : Type 0} where
  -- stores past the end are left out
  pub sets_out : (l : List A) (i : ℕ) (vs : List A) → length l ≤ i → sets l i vs ≡ l
  sets_out l i [] h = refl
  sets_out l i (v ∷ vs) h = rw (set_out l i v h) (sets_out l (suc i) vs (omega arith))

  -- one run and then another
  pub sets_append : (l : List A) (i : ℕ) (a b : List A) → sets l i (a ++ b) ≡ sets (sets l i a) (i + length a) b
  sets_append l i [] b = let e : i + 0 ≡ i = omega arith in rw e refl
  sets_append l i (v ∷ a) b =
      let e : i + suc (length a) ≡ suc i + length a = omega arith in
      rw e (sets_append (set l i v) (suc i) a b)
