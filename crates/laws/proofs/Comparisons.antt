-- Comparisons of numbers as tests: `ltb`, `leb` and `eqb`.
--
-- In order: what a comparison says (`lt_of`, `ge_of`, ..), and the comparison that says it (`ltb_yes`, `ltb_no`, ..), for each of the three; one order is the other denied
-- (`ltb_not`), comparisons that imply each other (`ltb_iff`), one number further (`ltb_next`), at least one (`leb_one`).
-- A comparison as a number that omega reads is in Counts (`bit_ltb`).
-- Assumes nothing.
use Prim.Native.Nat.{ℕ, ◌+◌, ◌≤◌, ◌<◌}
use native.Mathlib.Omega.{arith}
use mathlib.Core.Path.{◌≡◌, refl, sym, ◌∙◌, ap}
use mathlib.Core.Bool.{Bool, true, false, not}
use lib.Dec.{ltb, leb, eqb, T, ltb→lt, nltb→le, leb→le, nleb→lt, eqb→eq, eqb_refl, lt→ltb, le→leb}
use Rattle.laws.proofs.Tests.{Is, is, is_true, is_false, clash, not-true, test_ext}

-- what lib.Dec says of tests, in equations
T_of : {b : Bool} → b ≡ true → T b
T_of e = rw e tt

of__t : (b : Bool) → T b → b ≡ true
of__t true t = refl
of__t false t = absurd t

not_T_of : {b : Bool} → b ≡ false → T (not b)
not_T_of e = rw e tt

-- what a comparison says ..
pub lt_of : (m n : ℕ) → ltb m n ≡ true → m < n
lt_of m n e = ltb→lt m n (T_of e)

pub ge_of : (m n : ℕ) → ltb m n ≡ false → n ≤ m
ge_of m n e = nltb→le m n (not_T_of e)

pub le_of : (m n : ℕ) → leb m n ≡ true → m ≤ n
le_of m n e = leb→le m n (T_of e)

pub gt_of : (m n : ℕ) → leb m n ≡ false → n < m
gt_of m n e = nleb→lt m n (not_T_of e)

pub eq_of : (m n : ℕ) → eqb m n ≡ true → m ≡ n
eq_of m n e = eqb→eq m n (T_of e)

pub eqb_self : (n : ℕ) → eqb n n ≡ true
eqb_self n = of__t _ (eqb_refl n)

pub ne_of : (m n : ℕ) → eqb m n ≡ false → m ≡ n → ⊥
ne_of m n e h = clash (sym (eqb_self n) ∙ ap (λ (k : ℕ). eqb k n) (sym h) ∙ e)

-- .. and the comparison that says it
pub ltb_yes : (m n : ℕ) → m < n → ltb m n ≡ true
ltb_yes m n h = of__t _ (lt→ltb m n h)

pub leb_yes : (m n : ℕ) → m ≤ n → leb m n ≡ true
leb_yes m n h = of__t _ (le→leb m n h)

pub ltb_no : (m n : ℕ) → n ≤ m → ltb m n ≡ false
ltb_no m n h = not-true (ltb m n) (λ e. let l : m < n = lt_of m n e in omega arith)

pub leb_no : (m n : ℕ) → n < m → leb m n ≡ false
leb_no m n h = not-true (leb m n) (λ e. let l : m ≤ n = le_of m n e in omega arith)

pub eqb_yes : (m n : ℕ) → m ≡ n → eqb m n ≡ true
eqb_yes m n h = rw h (eqb_self n)

pub eqb_no : (m n : ℕ) → (m ≡ n → ⊥) → eqb m n ≡ false
eqb_no m n h = not-true (eqb m n) (λ e. h (eq_of m n e))

pub eqb_comm : (m n : ℕ) → eqb m n ≡ eqb n m
eqb_comm m n = test_ext (eqb m n) (eqb n m) (λ e. eqb_yes n m (sym (eq_of m n e))) (λ e. eqb_yes m n (sym (eq_of n m e)))

-- one order is the other turned round and denied
pub ltb_not : (m n : ℕ) → ltb m n ≡ not (leb n m)
ltb_not m n = go (is (ltb m n))
  where
    go : Is (ltb m n) → ltb m n ≡ not (leb n m)
    go (is_true e) = e ∙ sym (ap not (leb_no n m (lt_of m n e)))
    go (is_false e) = e ∙ sym (ap not (leb_yes n m (ge_of m n e)))

-- two comparisons that imply each other are the same test
pub ltb_iff : (a b c d : ℕ) → (a < b → c < d) → (c < d → a < b) → ltb a b ≡ ltb c d
ltb_iff a b c d f g = test_ext (ltb a b) (ltb c d) (λ e. ltb_yes c d (f (lt_of a b e))) (λ e. ltb_yes a b (g (lt_of c d e)))

-- one number further
pub ltb_next : (q r : ℕ) → (q ≡ r → ⊥) → ltb q r ≡ ltb q (r + 1)
ltb_next q r other = go (is (ltb q r))
  where
    go : Is (ltb q r) → ltb q r ≡ ltb q (r + 1)
    go (is_true e) = e ∙ sym (ltb_yes q (r + 1) (omega (arith, lt_of q r e)))
    go (is_false e) = e ∙ sym (ltb_no q (r + 1) (let l = ge_of q r e in omega arith))

-- at least one, or none
pub leb_one : (v : ℕ) → leb 1 v ≡ not (eqb v 0)
leb_one v = go (is (eqb v 0))
  where
    go : Is (eqb v 0) → leb 1 v ≡ not (eqb v 0)
    go (is_true e) = rw e (leb_no 1 v (omega (arith, eq_of v 0 e)))
    go (is_false e) = let some = ne_of v 0 e in rw e (leb_yes 1 v (omega arith))
