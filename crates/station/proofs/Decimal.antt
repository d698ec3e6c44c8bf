-- Laws of decimal numbers: printing and reading are inverse to one another.
--
-- In order: bytes that are digits (`digit_low`, `digit_high`, `is_digit_lem`, `all_digits`); the steps of `digits` (`digits_small`, `digits_step`); the
-- two inverses, `value_digits` and `digits_value`; the digits at the front of a text (`digits_count`, `plain_digits`); a number read (`number_digits`, `number_had`);
-- how many digits (`digits_length`).
-- Assumes nothing.
use Prim.Native.Nat.{ℕ, zero, suc, ◌+◌, ◌-◌, ◌*◌, ◌/◌, ◌%◌, ◌^◌, ◌≤◌, ◌<◌}
use native.Mathlib.Nat.{le_refl}
use native.Mathlib.Omega.{arith}
use mathlib.Core.Path.{◌≡◌, refl, sym, ◌∙◌, ap}
use mathlib.Core.Bool.{Bool, true, not, ◌||◌}
use mathlib.Core.Option.{Option, some}
use mathlib.Core.List.{List, [], ◌∷◌, ◌++◌, append_assoc, append-nil}
use lib.ListN.{length, take, drop, length-append, take-append-drop}
use lib.Seq.{take_at, drop_at, length-take-le}
use lib.Dec.{eqb, ltb, leb}
use Rattle.laws.proofs.Tests.{Is, is_true, is_false, is, clash, both, left_of, right_of, none_some}
use Rattle.laws.proofs.Comparisons.{lt_of, ge_of, le_of, eq_of, ne_of, ltb_yes, leb_yes, ltb_no, eqb_yes, eqb_no}
use Rattle.station.specs.Decimal.{digits, digits_in, is_digit, digit_count, plain, value, value_from}
use Rattle.station.specs.Form.{number}

-- ---- bytes that are digits

pub digit_low : (b : ℕ) → is_digit b ≡ true → 48 ≤ b
digit_low b e = le_of 48 b (left_of (leb 48 b) (leb b 57) e)

pub digit_high : (b : ℕ) → is_digit b ≡ true → b ≤ 57
digit_high b e = le_of b 57 (right_of (leb 48 b) (leb b 57) e)

pub is_digit_lem : (b : ℕ) → 48 ≤ b → b ≤ 57 → is_digit b ≡ true
is_digit_lem b l h = both (leb 48 b) (leb b 57) (leb_yes 48 b l) (leb_yes b 57 h)

-- a list that is digits throughout begins with a digit, and so is the rest
pub all_digits : (b : ℕ) (l : List ℕ) → digit_count (b ∷ l) ≡ suc (length l) → (is_digit b ≡ true) × (digit_count l ≡ length l)
unfolding digit_count
all_digits b l e = go (is (is_digit b))
  where
    go : Is (is_digit b) → (is_digit b ≡ true) × (digit_count l ≡ length l)
    go (is_true d) = let c : suc (digit_count l) ≡ suc (length l) = rw d at e in (d, omega arith)
    go (is_false d) = absurd (let c : 0 ≡ suc (length l) = rw d at e in omega arith)

-- ---- the steps of `digits`

digits_in_enough : (k j n : ℕ) → n < k → n < j → digits_in k n ≡ digits_in j n
unfolding digits_in
digits_in_enough zero j n h l = absurd (omega arith)
digits_in_enough (suc k) zero n h l = absurd (omega arith)
digits_in_enough (suc k) (suc j) n h l = go (digits_in_enough k j (n / 10)) (is (ltb n 10))
  where
    go : (n / 10 < k → n / 10 < j → digits_in k (n / 10) ≡ digits_in j (n / 10)) → Is (ltb n 10) → digits_in (suc k) n ≡ digits_in (suc j) n
    go ih (is_true e) = rw e refl
    go ih (is_false e) =
        let g : 10 ≤ n = ge_of n 10 e in
        rw e (ap (λ (l : List ℕ). l ++ ((48 + n % 10) ∷ [])) (ih (omega arith) (omega arith)))

pub digits_small : (n : ℕ) → n < 10 → digits n ≡ (48 + n) ∷ []
unfolding digits digits_in
digits_small n h = rw (ltb_yes n 10 h) refl

pub digits_step : (n : ℕ) → 10 ≤ n → digits n ≡ digits (n / 10) ++ ((48 + n % 10) ∷ [])
unfolding digits digits_in
digits_step n h =
    rw (ltb_no n 10 h) (ap (λ (l : List ℕ). l ++ ((48 + n % 10) ∷ [])) (digits_in_enough n (suc (n / 10)) (n / 10) (omega arith) (omega arith)))

-- one more digit
digits_snoc : (v d : ℕ) → 0 < v → d < 10 → digits (v * 10 + d) ≡ digits v ++ ((48 + d) ∷ [])
digits_snoc v d h l =
    let q : (v * 10 + d) / 10 ≡ v = omega arith in
    let r : (v * 10 + d) % 10 ≡ d = omega arith in
    digits_step (v * 10 + d) (omega arith) ∙ (rw (q, r) refl)

-- ---- the two inverses

digits_value_from : (v : ℕ) (ds : List ℕ) → 0 < v → digit_count ds ≡ length ds → digits (value_from v ds) ≡ digits v ++ ds
unfolding digit_count value_from
digits_value_from v [] h e = sym (append-nil (digits v))
digits_value_from v (d ∷ ds) h e =
    let t = all_digits d ds e in
    let low = digit_low d t.0 in
    let high = digit_high d t.0 in
    let b : 48 + (d - 48) ≡ d = omega arith in
    digits_value_from (v * 10 + (d - 48)) ds (omega arith) t.1
    ∙ ap (λ (l : List ℕ). l ++ ds) (digits_snoc v (d - 48) h (omega arith))
    ∙ (rw b (append_assoc (digits v) (d ∷ []) ds))

value_from_append : (v : ℕ) (a b : List ℕ) → value_from v (a ++ b) ≡ value_from (value_from v a) b
unfolding value_from
value_from_append v [] b = refl
value_from_append v (d ∷ a) b = value_from_append (v * 10 + (d - 48)) a b

value_digits_in : (k n : ℕ) → n < k → value (digits_in k n) ≡ n
unfolding digits_in value_from
value_digits_in zero n h = absurd (omega arith)
value_digits_in (suc k) n h = go (value_digits_in k (n / 10)) (is (ltb n 10))
  where
    go : (n / 10 < k → value (digits_in k (n / 10)) ≡ n / 10) → Is (ltb n 10) → value (digits_in (suc k) n) ≡ n
    go ih (is_true e) = rw e (omega arith)
    go ih (is_false e) =
        let g : 10 ≤ n = ge_of n 10 e in
        rw (e, value_from_append 0 (digits_in k (n / 10)) ((48 + n % 10) ∷ []), ih (omega arith)) (omega arith)

-- the digits of a number have its value
pub value_digits : (n : ℕ) → value (digits n) ≡ n
unfolding digits
value_digits n = value_digits_in (suc n) n (omega arith)

-- the value of digits without a leading zero has just these digits
pub digits_value : (ds : List ℕ) → plain ds ≡ true → digit_count ds ≡ length ds → digits (value ds) ≡ ds
unfolding plain digit_count value_from
digits_value [] p e = absurd (clash (sym p))
digits_value (b ∷ l) p e = go (left_of (is_digit b) single p) (right_of (is_digit b) single p) (is (eqb b 48))
  where
    single : Bool
    single = not (eqb b 48) || eqb (digit_count l) 0

    counted : digit_count l ≡ length l
    counted = (all_digits b l e).1

    alone : (m : List ℕ) → length m ≡ 0 → b ≡ 48 → digits (value_from (0 * 10 + (b - 48)) m) ≡ b ∷ m
    alone [] z q = rw q (digits_small 0 (omega arith))
    alone (x ∷ m) z q = absurd (omega arith)

    go : is_digit b ≡ true → (not (eqb b 48) || eqb (digit_count l) 0) ≡ true → Is (eqb b 48) → digits (value_from (0 * 10 + (b - 48)) l) ≡ b ∷ l
    go d q (is_true z) =
        let c : eqb (digit_count l) 0 ≡ true = rw z at q in
        alone l (omega (arith, counted, eq_of (digit_count l) 0 c)) (eq_of b 48 z)
    go d q (is_false z) =
        let low = digit_low b d in
        let high = digit_high b d in
        let other : b ≡ 48 → ⊥ = ne_of b 48 z in
        let v : 0 * 10 + (b - 48) ≡ b - 48 = omega arith in
        let w : 48 + (b - 48) ≡ b = omega arith in
        digits_value_from (0 * 10 + (b - 48)) l (omega arith) (counted)
        ∙ ap (λ (x : List ℕ). x ++ l) (ap digits v ∙ digits_small (b - 48) (omega arith) ∙ ap (λ (x : ℕ). x ∷ []) w)

-- ---- the digits at the front of a text

digit_count_append : (a r : List ℕ) → digit_count a ≡ length a → digit_count (a ++ r) ≡ length a + digit_count r
unfolding digit_count
digit_count_append [] r e = omega arith
digit_count_append (b ∷ a) r e = let t = all_digits b a e in rw t.0 (omega (arith, digit_count_append a r t.1))

digit_count_lem : (n : ℕ) → n < 10 → digit_count ((48 + n) ∷ []) ≡ 1
unfolding digit_count
digit_count_lem n h = rw (is_digit_lem (48 + n) (omega arith) (omega arith)) refl

digits_in_count : (k n : ℕ) → digit_count (digits_in k n) ≡ length (digits_in k n)
unfolding digits_in digit_count
digits_in_count zero n = refl
digits_in_count (suc k) n = go (digits_in_count k (n / 10)) (is (ltb n 10))
  where
    go : digit_count (digits_in k (n / 10)) ≡ length (digits_in k (n / 10)) → Is (ltb n 10)
        → digit_count (digits_in (suc k) n) ≡ length (digits_in (suc k) n)
    go ih (is_true e) = rw e (digit_count_lem n (lt_of n 10 e))
    go ih (is_false e) =
        rw e
        (digit_count_append (digits_in k (n / 10)) ((48 + n % 10) ∷ []) ih
        ∙ ap (λ (x : ℕ). length (digits_in k (n / 10)) + x) (digit_count_lem (n % 10) (omega arith))
        ∙ sym (length-append (digits_in k (n / 10)) ((48 + n % 10) ∷ [])))

-- all bytes of a number are digits
pub digits_count : (n : ℕ) → digit_count (digits n) ≡ length (digits n)
unfolding digits
digits_count n = digits_in_count (suc n) n

-- a number that is not 0 begins with a digit that is not 0
digits_in_first : (k n : ℕ) (r : List ℕ) → n < k → 0 < n → plain (digits_in k n ++ r) ≡ true
unfolding digits_in plain
digits_in_first zero n r h p = absurd (omega arith)
digits_in_first (suc k) n r h p = go (λ s. digits_in_first k (n / 10) s) (is (ltb n 10))
  where
    go : ((s : List ℕ) → n / 10 < k → 0 < n / 10 → plain (digits_in k (n / 10) ++ s) ≡ true) → Is (ltb n 10) → plain (digits_in (suc k) n ++ r) ≡ true
    go ih (is_true e) =
        let l : n < 10 = lt_of n 10 e in
        rw (e, is_digit_lem (48 + n) (omega arith) (omega arith), eqb_no (48 + n) 48 (λ q. omega arith)) refl
    go ih (is_false e) =
        let g : 10 ≤ n = ge_of n 10 e in
        rw (e, append_assoc (digits_in k (n / 10)) ((48 + n % 10) ∷ []) r) (ih (((48 + n % 10) ∷ []) ++ r) (omega arith) (omega arith))

-- a number, and no digit after it, begins with a number
pub plain_digits : (n : ℕ) (r : List ℕ) → digit_count r ≡ 0 → plain (digits n ++ r) ≡ true
unfolding digits digits_in plain
plain_digits zero r e = rw (eqb_yes (digit_count r) 0 e) refl
plain_digits (suc n) r e = digits_in_first (suc (suc n)) (suc n) r (omega arith) (omega arith)

digit_count_le : (l : List ℕ) → digit_count l ≤ length l
unfolding digit_count
digit_count_le [] = le_refl 0
digit_count_le (b ∷ l) = go (digit_count_le l) (is (is_digit b))
  where
    go : digit_count l ≤ length l → Is (is_digit b) → digit_count (b ∷ l) ≤ suc (length l)
    go ih (is_true d) = rw d (omega arith)
    go ih (is_false d) = rw d (omega arith)

-- the digits at the front are digits throughout
digit_count_take : (l : List ℕ) → digit_count (take (digit_count l) l) ≡ digit_count l
unfolding digit_count
digit_count_take [] = refl
digit_count_take (b ∷ l) = go (digit_count_take l) (is (is_digit b))
  where
    go : digit_count (take (digit_count l) l) ≡ digit_count l → Is (is_digit b) → digit_count (take (digit_count (b ∷ l)) (b ∷ l)) ≡ digit_count (b ∷ l)
    go ih (is_true d) = rw d (rw d (ap suc ih))
    go ih (is_false d) = rw d refl

-- and no digit follows them
digit_count_drop : (l : List ℕ) → digit_count (drop (digit_count l) l) ≡ 0
unfolding digit_count
digit_count_drop [] = refl
digit_count_drop (b ∷ l) = go (digit_count_drop l) (is (is_digit b))
  where
    go : digit_count (drop (digit_count l) l) ≡ 0 → Is (is_digit b) → digit_count (drop (digit_count (b ∷ l)) (b ∷ l)) ≡ 0
    go ih (is_true d) = rw d ih
    go ih (is_false d) = rw d (rw d refl)

plain_take : (l : List ℕ) → plain l ≡ true → plain (take (digit_count l) l) ≡ true
unfolding plain digit_count
plain_take [] p = p
plain_take (b ∷ l) p = go (left_of (is_digit b) (not (eqb b 48) || eqb (digit_count l) 0) p)
  where
    go : is_digit b ≡ true → plain (take (digit_count (b ∷ l)) (b ∷ l)) ≡ true
    go d = rw (d, digit_count_take l) p

-- ---- a number read

module _ {A : Type 0} where
  -- a number printed, and no digit after it, reads as that number
  pub number_digits : (n : ℕ) (r : List ℕ) (k : ℕ → List ℕ → Option A) → digit_count r ≡ 0 → number (digits n ++ r) k ≡ k n r
  unfolding number
  number_digits n r k e =
      let c : length (digits n) ≡ digit_count (digits n ++ r) = omega (arith, digit_count_append (digits n) r (digits_count n)) in
      let d = digit_count (digits n ++ r) in
      rw (plain_digits n r e, take_at (digits n) r d c, drop_at (digits n) r d c, value_digits n) refl

  -- a number was read, so the text was that number printed and then the rest, which begins with no digit
  pub number_had : {G : Type 0} (l : List ℕ) (k : ℕ → List ℕ → Option A) (a : A) → number l k ≡ some a
      → ((n : ℕ) (r : List ℕ) → l ≡ digits n ++ r → digit_count r ≡ 0 → k n r ≡ some a → G) → G
  unfolding number
  number_had {G} l k a e f = go (is (plain l)) e
    where
      front : plain l ≡ true → digits (value (take (digit_count l) l)) ≡ take (digit_count l) l
      front p =
          digits_value (take (digit_count l) l) (plain_take l p)
          (digit_count_take l ∙ sym (length-take-le (digit_count l) l (digit_count_le l)))

      go : Is (plain l) → number l k ≡ some a → G
      go (is_true p) e =
          f (value (take (digit_count l) l)) (drop (digit_count l) l)
          (sym (ap (λ (x : List ℕ). x ++ drop (digit_count l) l) (front p) ∙ take-append-drop (digit_count l) l))
          (digit_count_drop l) (rw p at e)
      go (is_false p) e = absurd (none_some (rw p at e))

-- ---- how many digits

-- a number below 10 ^ k has at most k digits, and at least one
pub digits_length : (k n : ℕ) → 0 < k → n < 10 ^ k → length (digits n) ≤ k
digits_length zero n p h = absurd (omega arith)
digits_length (suc k) n p h = go (digits_length k (n / 10)) (is (ltb n 10))
  where
    go : (0 < k → n / 10 < 10 ^ k → length (digits (n / 10)) ≤ k) → Is (ltb n 10) → length (digits n) ≤ suc k
    go ih (is_true e) = rw (digits_small n (lt_of n 10 e)) (omega arith)
    go ih (is_false e) =
        let g : 10 ≤ n = ge_of n 10 e in
        let s : 10 ^ suc k ≡ 10 ^ k * 10 = native.Mathlib.Nat.pow-suc 10 k in
        let b : n / 10 < 10 ^ k = omega arith in
        let more : 0 < k = positive k b in
        rw (digits_step n g, length-append (digits (n / 10)) ((48 + n % 10) ∷ [])) (omega (arith, ih more b))
      where
        positive : (j : ℕ) → n / 10 < 10 ^ j → 0 < j
        positive zero b = absurd (let g = ge_of n 10 e in omega arith)
        positive (suc j) b = omega arith
