-- Decimal numbers as bytes. Document 01, "The station text": "Numbers are decimal, of any length,
-- without leading zeros." Assumes nothing.
use Rattle.std.specs.Prelude.{ℕ, zero, suc, ◌+◌, ◌-◌, ◌*◌, ◌/◌, ◌%◌, Bool, false, cond, not, ◌&&◌, ◌||◌, List, [], ◌∷◌, ◌++◌, eqb, ltb, leb}

-- The bytes of n, of its last k digits at most; the digit 0 is byte 48.
unfoldable pub digits_in : ℕ → ℕ → List ℕ
digits_in zero n = []
digits_in (suc k) n =
    let longer = digits_in k (n / 10) ++ ((48 + n % 10) ∷ []) in
    cond (ltb n 10) ((48 + n) ∷ []) longer

-- The number as the station text writes it: no number has more digits than suc n.
unfoldable pub digits : ℕ → List ℕ
digits n = digits_in (suc n) n

-- the bytes `0` to `9`
abbrev pub is_digit : ℕ → Bool
is_digit b = leb 48 b && leb b 57

-- how many digits a text begins with
unfoldable pub digit_count : List ℕ → ℕ
digit_count [] = 0
digit_count (b ∷ l) =
    let longer = suc (digit_count l) in
    cond (is_digit b) longer 0

-- A text begins with a number: a digit, and no leading zero. "`0` is a number; `00` and `01` are
-- not."
unfoldable pub plain : List ℕ → Bool
plain [] = false
plain (b ∷ l) = is_digit b && (not (eqb b 48) || eqb (digit_count l) 0)

-- the value of digits after a number v
unfoldable pub value_from : ℕ → List ℕ → ℕ
value_from v [] = v
value_from v (d ∷ ds) = value_from (v * 10 + (d - 48)) ds

-- the value of digits; it never wraps
abbrev pub value : List ℕ → ℕ
value ds = value_from 0 ds
