-- What the code makes of a number and of a word at a place. Document 01, "The station text":
-- "Numbers are decimal, of any length, without leading zeros." A number is read into 32 bits that
-- stop at 65,535, a value past every limit: it never wraps. Assumes nothing.
use Rattle.std.specs.Prelude.{ℕ, ◌+◌, Bool, false, ◌&&◌, List, [], ◌∷◌, length, take, drop, leb, Option, option_and_then, option_map}
use Rattle.std.specs.Bool.{then_some}
use Rattle.station.specs.declared.numbers.Numeral.{Numeral}
use Rattle.station.specs.Text.{bytes}
use Rattle.station.specs.Decimal.{is_digit, digit_count, plain, value, value_from}
use Rattle.station.specs.Form.{starts}
use Rattle.station.specs.Jobs.{seen}

-- a text begins with a digit
abbrev pub leads : List ℕ → Bool
leads [] = false
leads (b ∷ l) = is_digit b

-- the number v with the digits that a text begins with after it
abbrev pub front_from : ℕ → List ℕ → ℕ
front_from v l = value_from v (take (digit_count l) l)

-- the value of the digits that a text begins with
abbrev pub front : List ℕ → ℕ
front l = value (take (digit_count l) l)

-- a number at a place, if one stands there: its value as it is read, and the place after its digits
abbrev pub numeral_at : List ℕ → ℕ → Option Numeral
numeral_at t at = then_some (plain (drop at t)) (record { value = seen (front (drop at t)); next = at + digit_count (drop at t) })

-- the word w at a place, and nothing after it
abbrev pub closes : List ℕ → List ℕ → ℕ → Bool
closes w t at = starts w (drop at t) && leb (length t) (at + length w)

-- the place after the word w, if it stands at a place
abbrev pub word_at : List ℕ → List ℕ → ℕ → Option ℕ
word_at w t at = then_some (starts w (drop at t)) (at + length w)

-- a number at a place and the word w after it; the place is that after the word
abbrev pub numeral_then : List ℕ → List ℕ → ℕ → Option Numeral
numeral_then w t at =
    option_and_then (λ n. option_map (λ next. record { value = n.value; next = next }) (word_at w t n.next)) (numeral_at t at)

-- the value of a number at a place, then a bracket and byte 10, and nothing after them
abbrev pub numeral_last : List ℕ → ℕ → Option ℕ
numeral_last t at = option_and_then (λ n. then_some (closes (bytes ")\n") t n.next) n.value) (numeral_at t at)

-- the value of the number of a text that is the word w, a number, a bracket and byte 10
abbrev pub lone_numeral : List ℕ → List ℕ → Option ℕ
lone_numeral w t = option_and_then (λ at. numeral_last t at) (word_at w t 0)
