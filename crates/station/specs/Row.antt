-- Busy times as rows of comma-separated text. Document 02, request 2026-01: "Read rows of three
-- fields, bridge, first slot, last slot, quoted or bare, with CR LF ends and no header, and put
-- them in place of the head's busy lines; write them back from a head, bare." In order: a row and
-- its texts (`print_row`, `TextOfRow`); reading a line (`row_of`); a text cut at CR LF (`cuts`); the
-- frame, and one row more (`RowIn`, `with_row`, `rows_take`); writing (`mask_rows`, `rows_text`). How a
-- whole text reads is in ReadRows. Assumes nothing.
use Rattle.std.specs.Prelude.{ℕ, suc, ◌+◌, ◌-◌, ◌≤◌, ◌<◌, ◌≡◌, Bool, true, false, cond, ◌&&◌, ◌||◌, List, [], ◌∷◌, ◌++◌, map, get_or, set, eqb, leb}
use Rattle.std.proofs.Math.Option.{Option, none, some}
use Rattle.std.specs.Int.Bits.{bit_or}
use Rattle.station.specs.Limits.{most_slots}
use Rattle.station.specs.Head.{within}
use Rattle.station.specs.Text.{bytes, ◌then◌, join, onto}
use Rattle.station.specs.Decimal.{digits}
use Rattle.station.specs.Form.{Pairs, last, next, word, number, whole, ◌or_else◌}
use Rattle.station.specs.Writing.{mask_to, stretches}

-- ---- a row and its texts

-- "bridge, first slot, last slot", as the numbers stand: whether they lie in the frame is not the
-- form's matter
pub record Row : Type 0 where
  pub bridge : ℕ
  pub first : ℕ
  pub last : ℕ

abbrev pub row : ℕ → ℕ → ℕ → Row
row b f t = record { bridge = b; first = f; last = t }

-- byte 34
abbrev pub quote : List ℕ
quote = 34 ∷ []

-- "quoted or bare"; "Numbers are as in the station text"
abbrev pub field : Bool → ℕ → List ℕ
field true n = quote then digits n then quote
field false n = digits n

-- the text of a row, the Bools saying which fields are quoted: commas part the fields, bytes 13 and
-- 10 end the row
unfoldable pub print_row : Bool → Bool → Bool → Row → List ℕ
print_row p q r x = field p x.bridge then bytes "," then field q x.first then bytes "," then field r x.last then bytes "\r\n"

-- a line is a text of the row
pub record TextOfRow (l : List ℕ) (x : Row) : Type 0 where
  pub bridge_quoted : Bool
  pub first_quoted : Bool
  pub last_quoted : Bool
  pub text : l ≡ print_row bridge_quoted first_quoted last_quoted x

-- ---- reading a line

-- a field, then what k makes of its number and the rest
unfoldable pub field_in : {A : Type 0} → List ℕ → (ℕ → List ℕ → Option A) → Option A
field_in l k = word quote l (λ l₁. number l₁ (λ n l₂. word quote l₂ (k n))) or_else number l k

-- The row of a line, bytes 13 and 10 included; none is "a row that is not three decimal fields with
-- CR LF".
unfoldable pub row_of : List ℕ → Option Row
row_of l =
    field_in l (λ b l₁. word (bytes ",") l₁ (λ l₂. field_in l₂ (λ f l₃. word (bytes ",") l₃ (λ l₄. field_in l₄ (λ t l₅.
    word (bytes "\r\n") l₅ (whole (row b f t)))))))

-- ---- the rows of a text

-- "CR LF ends": a text cut after each byte 10 that follows a byte 13; the Bool says that the byte
-- before was 13
unfoldable pub cuts_after : Bool → List ℕ → List (List ℕ)
cuts_after cr [] = []
cuts_after cr (b ∷ t) =
    let ended = (b ∷ []) ∷ cuts_after false t in
    cond (cr && eqb b 10) ended (onto b (cuts_after (eqb b 13) t))

abbrev pub cuts : List ℕ → List (List ℕ)
cuts t = cuts_after false t

-- ---- the union: "Rows may come in any sequence and may overlap or touch; the head holds their union."

-- a row within a frame of S slots and B bridges: "a value outside the frame, or first above last,
-- is 2"
pub record RowIn (slots bridges : ℕ) (x : Row) : Type 0 where
  pub bridge_low : 1 ≤ x.bridge
  pub bridge_high : x.bridge ≤ bridges
  pub first_low : 1 ≤ x.first
  pub up : x.first ≤ x.last
  pub last_high : x.last ≤ slots

-- `RowIn` as a test
abbrev pub row_in : ℕ → ℕ → Row → Bool
row_in slots bridges x = within 1 bridges x.bridge && (leb 1 x.first && leb x.first x.last && leb x.last slots)

-- one row more
unfoldable pub with_row : List ℕ → Row → List ℕ
with_row ms x = set ms (x.bridge - 1) (bit_or (get_or ms (x.bridge - 1) 0) (mask_to x.first x.last))

-- the row takes slot s of bridge b, both counted from 1
abbrev pub row_takes : Row → ℕ → ℕ → Bool
row_takes x b s = eqb x.bridge b && within x.first x.last s

-- one of the rows does
unfoldable pub rows_take : List Row → ℕ → ℕ → Bool
rows_take [] b s = false
rows_take (x ∷ xs) b s = row_takes x b s || rows_take xs b s

-- ---- writing: "Writing gives the stretches by bridge, then by slot", "bare"

-- the rows of some stretches of bridge b
unfoldable pub stretch_rows : ℕ → Pairs → List Row
stretch_rows b (last f t) = row b f t ∷ []
stretch_rows b (next f t p) = row b f t ∷ stretch_rows b p

-- none where no slot is busy
abbrev pub bridge_rows : ℕ → Option Pairs → List Row
bridge_rows b none = []
bridge_rows b (some p) = stretch_rows b p

-- the rows of the bridges from b on
unfoldable pub mask_rows : ℕ → List ℕ → List Row
mask_rows b [] = []
mask_rows b (m ∷ ms) = bridge_rows b (stretches most_slots 1 m) ++ mask_rows (suc b) ms

-- "by bridge, then by slot": row x comes before row y, and does not touch it
pub data Before (x y : Row) : Type 0 where
  lower_bridge : x.bridge < y.bridge → Before x y
  earlier_slot : x.bridge ≡ y.bridge → x.last + 2 ≤ y.first → Before x y

-- the text of some rows, bare
unfoldable pub bare : List Row → List ℕ
bare xs = join (map (print_row false false false) xs)

-- the rows of a head's masks
unfoldable pub rows_text : List ℕ → List ℕ
rows_text ms = bare (mask_rows 1 ms)
