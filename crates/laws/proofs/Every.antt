-- Laws of `every`, and of what each number below a bound has.
--
-- In order: `every` as a statement about each number, both ways (`every_all`, `all_every`); equal tests, and a number that fails; one of two properties of each number
-- (`either`); numbers that never stand twice (`injective_below`). No number and one more are in Loops.
-- Assumes nothing.
use Prim.Native.Nat.{ℕ, zero, suc, ◌<◌}
use native.Mathlib.Nat.{le_refl}
use native.Mathlib.Omega.{arith}
use mathlib.Core.Path.{◌≡◌, refl, sym, ◌∙◌, ap, ap₂}
use mathlib.Core.Logic.{◌⊎◌, inl, inr}
use mathlib.Core.Bool.{Bool, true, false, ◌&&◌}
use lib.Dec.{ltb, eqb}
use Rattle.laws.specs.Sums.{every}
use Rattle.laws.proofs.Tests.{Is, is, is_true, is_false, clash, not-true, both, left_of, right_of}
use Rattle.laws.proofs.Comparisons.{lt_of, ge_of, eq_of, ne_of}

pub every_all : (n : ℕ) (p : ℕ → Bool) → every n p ≡ true → (i : ℕ) → i < n → p i ≡ true
unfolding every
every_all zero p e i h = absurd (omega arith)
every_all (suc n) p e i h = go (every_all n p (left_of (every n p) (p n) e) i) (is (eqb i n))
  where
    go : (i < n → p i ≡ true) → Is (eqb i n) → p i ≡ true
    go ih (is_true q) = ap p (eq_of i n q) ∙ right_of (every n p) (p n) e
    go ih (is_false q) = let ne : i ≡ n → ⊥ = ne_of i n q in ih (omega arith)

pub all_every : (n : ℕ) (p : ℕ → Bool) → ((i : ℕ) → i < n → p i ≡ true) → every n p ≡ true
unfolding every
all_every zero p h = refl
all_every (suc n) p h = both (every n p) (p n) (all_every n p (λ i l. h i (omega arith))) (h n (le_refl (suc n)))

-- equal tests, and a number that fails
pub every_ext : (n : ℕ) (p q : ℕ → Bool) → ((i : ℕ) → i < n → p i ≡ q i) → every n p ≡ every n q
unfolding every
every_ext zero p q h = refl
every_ext (suc n) p q h = ap₂ (λ (a b : Bool). a && b) (every_ext n p q (λ i l. h i (omega arith))) (h n (le_refl (suc n)))

pub every_not : (n : ℕ) (p : ℕ → Bool) (i : ℕ) → i < n → p i ≡ false → every n p ≡ false
every_not n p i l q = not-true (every n p) (λ e. clash (sym (every_all n p e i l) ∙ q))

-- where each number has one of two properties, some number has the first or all have the second
pub either : {P Q : ℕ → Type 0} (n : ℕ) → ((i : ℕ) → i < n → P i ⊎ Q i) → ((i : ℕ) × (i < n) × P i) ⊎ ((i : ℕ) → i < n → Q i)
either zero h = inr (λ i l. absurd (let m : i < 0 = l in omega arith))
either {P} {Q} (suc n) h = go (either n (λ i l. h i (omega arith))) (h n (le_refl (suc n)))
  where
    all : ((i : ℕ) → i < n → Q i) → Q n → (i : ℕ) → i < suc n → Is (eqb i n) → Q i
    all f q i l (is_true e) = rw (eq_of i n e) q
    all f q i l (is_false e) = let ne : i ≡ n → ⊥ = ne_of i n e in f i (omega arith)

    go : ((i : ℕ) × (i < n) × P i) ⊎ ((i : ℕ) → i < n → Q i) → P n ⊎ Q n → ((i : ℕ) × (i < suc n) × P i) ⊎ ((i : ℕ) → i < suc n → Q i)
    go (inl w) d = inl (w.0, omega arith, w.2)
    go (inr f) (inl p) = inl (n, le_refl (suc n), p)
    go (inr f) (inr q) = inr (λ i l. all f q i l (is (eqb i n)))

-- numbers that never stand twice, the earlier before the later, tell their places
pub injective_below : (n : ℕ) (f : ℕ → ℕ) → ((i j : ℕ) → j < i → i < n → f j ≡ f i → ⊥) → (i j : ℕ) → i < n → j < n → f i ≡ f j → i ≡ j
injective_below n f apart i j l m e = go (is (ltb i j)) (is (ltb j i))
  where
    go : Is (ltb i j) → Is (ltb j i) → i ≡ j
    go (is_true a) b = absurd (apart j i (lt_of i j a) m e)
    go (is_false a) (is_true b) = absurd (apart i j (lt_of j i b) l (sym e))
    go (is_false a) (is_false b) = omega (arith, ge_of i j a, ge_of j i b)
