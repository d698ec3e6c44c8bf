-- The greatest value over all sets of numbers below a bound.
--
-- In order: some set has it (`greatest_set_attained`); no set of numbers below the bound has more (`greatest_set_bounds`), and no set at all where
-- the value depends on the numbers below the bound only (`greatest_set_bounds_all`).
-- Assumes nothing.
use Prim.Native.Nat.{ℕ, zero, suc, ◌≤◌, ◌<◌, max}
use native.Mathlib.Nat.{le_refl}
use native.Mathlib.Omega.{arith}
use mathlib.Core.Path.{◌≡◌, refl, sym, ◌∙◌, ap, fun_ext}
use mathlib.Core.Bool.{Bool, true, false, not, ◌&&◌, ◌||◌}
use lib.Dec.{ltb, leb, eqb}
use Rattle.laws.specs.GreatestSet.{greatest_set}
use Rattle.laws.proofs.Tests.{Is, is_true, is_false, is}
use Rattle.laws.proofs.Comparisons.{le_of, gt_of, eq_of, ne_of, ltb_yes, ltb_no}

-- some set has the greatest value
pub greatest_set_attained : (k : ℕ) (f : (ℕ → Bool) → ℕ) → (p : ℕ → Bool) × (f p ≡ greatest_set k f)
unfolding greatest_set
greatest_set_attained zero f = ((λ i. false), refl)
greatest_set_attained (suc k) f =
    go (greatest_set_attained k f) (greatest_set_attained k (λ p. f (λ i. p i || eqb i k)))
    (is (leb (greatest_set k f) (greatest_set k (λ p. f (λ i. p i || eqb i k)))))
  where
    more : ℕ
    more = greatest_set k (λ p. f (λ i. p i || eqb i k))

    go : ((p : ℕ → Bool) × (f p ≡ greatest_set k f)) → ((p : ℕ → Bool) × (f (λ i. p i || eqb i k) ≡ more)) → Is (leb (greatest_set k f) more)
        → (p : ℕ → Bool) × (f p ≡ max (greatest_set k f) more)
    go u v (is_true e) = ((λ i. v.0 i || eqb i k), omega (arith, v.1, le_of (greatest_set k f) more e))
    go u v (is_false e) = (u.0, omega (arith, u.1, gt_of (greatest_set k f) more e))

-- no set of numbers below k has more
pub greatest_set_bounds : (k : ℕ) (f : (ℕ → Bool) → ℕ) (p : ℕ → Bool) → ((i : ℕ) → k ≤ i → p i ≡ false) → f p ≤ greatest_set k f
unfolding greatest_set
greatest_set_bounds zero f p off = rw (fun_ext (λ i. off i (omega arith))) (le_refl (f (λ i. false)))
greatest_set_bounds (suc k) f p off =
    go (is (p k)) (λ l. greatest_set_bounds k f p l) (greatest_set_bounds k (λ q. f (λ i. q i || eqb i k)) (λ i. p i && not (eqb i k)) rest)
  where
    past : (i : ℕ) → k ≤ i → Is (eqb i k) → (p i && not (eqb i k)) ≡ false
    past i l (is_true e) = rw e (fails_right (p i))
      where
        fails_right : (b : Bool) → (b && false) ≡ false
        fails_right true = refl
        fails_right false = refl
    past i l (is_false e) = let ne : i ≡ k → ⊥ = ne_of i k e in rw (off i (omega arith))

    rest : (i : ℕ) → k ≤ i → (p i && not (eqb i k)) ≡ false
    rest i l = past i l (is (eqb i k))

    below : p k ≡ false → (i : ℕ) → k ≤ i → Is (eqb i k) → p i ≡ false
    below out i l (is_true e) = ap p (eq_of i k e) ∙ out
    below out i l (is_false e) = let ne : i ≡ k → ⊥ = ne_of i k e in off i (omega arith)

    again : p k ≡ true → (i : ℕ) → Is (eqb i k) → ((p i && not (eqb i k)) || eqb i k) ≡ p i
    again in_p i (is_true e) = rw (e, eq_of i k e, in_p)
    again in_p i (is_false e) = rw e (same (p i))
      where
        same : (b : Bool) → ((b && true) || false) ≡ b
        same true = refl
        same false = refl

    go : Is (p k) → (((i : ℕ) → k ≤ i → p i ≡ false) → f p ≤ greatest_set k f)
        → f (λ i. (p i && not (eqb i k)) || eqb i k) ≤ greatest_set k (λ q. f (λ i. q i || eqb i k))
        → f p ≤ max (greatest_set k f) (greatest_set k (λ q. f (λ i. q i || eqb i k)))
    go (is_true e) out within = omega (arith, ap f (fun_ext (λ i. again e i (is (eqb i k)))))
    go (is_false e) out within = omega (arith, out (λ i l. below e i l (is (eqb i k))))

-- nor any set, where numbers from k on do not matter
pub greatest_set_bounds_all : (k : ℕ) (f : (ℕ → Bool) → ℕ) → ((p q : ℕ → Bool) → ((i : ℕ) → i < k → p i ≡ q i) → f p ≡ f q) → (p : ℕ → Bool)
    → f p ≤ greatest_set k f
greatest_set_bounds_all k f same p =
    omega (
      arith,
      same p (λ i. ltb i k && p i) (λ i l. ap (λ (b : Bool). b && p i) (sym (ltb_yes i k l))),
      greatest_set_bounds k f (λ i. ltb i k && p i) (λ i l. ap (λ (b : Bool). b && p i) (ltb_no i k l)),
    )
