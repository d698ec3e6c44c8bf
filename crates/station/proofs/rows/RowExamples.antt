-- Rows by computing: the lines that have a row's form and those that have none; texts read into a head, accepted with its masks or refused at the first row at fault; what
-- is written of masks; what the entries try before any row.
--
-- In order: what computes (`reads_row`, `reads_rows`, `writes_rows`, `tries_record`, for `unfolding` lines); lines read (`lines_read`); where a text is cut (`text_cut`); whole
-- texts read into a head of 4 slots and 2 bridges with a busy slot (`texts_read`), and into one of 64 slots and 8 bridges (`widest_read`); what is written (`masks_written`,
-- `rows_longest`); the entries (`entries_too_long`, `entries_tried`, `entries_left`, `entries_wrote`).
-- Assumes nothing.
use Prim.Native.Nat.{ℕ}
use Prim.Native.String.{String}
use mathlib.Core.Path.{◌≡◌, refl}
use mathlib.Core.Bool.{Bool, true}
use mathlib.Core.Option.{Option, none, some}
use mathlib.Core.List.{List, [], ◌∷◌, ◌++◌, map}
use lib.ListN.{length, replicate}
use Rattle.station.specs.Head.{Head, preset_of, bare_head, with_supply, with_tie, with_busy, with_presets, valid, has_number, all_in_limits, all_distinct, masks_in}
use Rattle.station.specs.Refusal.{Refusal, no_row, out_of_limits, too_short, text_too_long, first_of}
use Rattle.station.specs.Text.{bytes, lines}
use Rattle.station.specs.Decimal.{digits, digits_in, digit_count, plain, value_from}
use Rattle.station.specs.Form.{starts, word, number}
use Rattle.station.specs.Reading.{Reading, accepted, refused}
use Rattle.station.specs.Writing.{stretches}
use Rattle.station.specs.Row.{Row, row, print_row, field_in, row_of, cuts_after, cuts, with_row, stretch_rows, mask_rows, bare, rows_text}
use Rattle.station.specs.ReadRows.{read_rows_from, read_rows}
use Rattle.station.specs.declared.types.Preset as record-of-preset
use Rattle.station.specs.declared.types.Head as record-of-head
use Rattle.station.specs.declared.types.Refusal as type
use Rattle.station.specs.declared.types.Refusal.TheVariants as code
use Rattle.std.specs.Prelude.{Result, Ok, Err}
use Rattle.station.specs.ReadHead.{fault}
use Rattle.station.specs.Types.{valid_record}
use Rattle.station.specs.WriteHead as write
use Rattle.station.specs.WriteHead.{answer_in}
use Rattle.station.specs.RowEntries.{RowsRead, rows_reading, rows_read, WroteRows}
use Rattle.station.proofs.Examples.{records_to}

-- ---- what computes

unfoldable pub reads_row : List ℕ → Option Row
unfolding bytes plain digit_count value_from starts word number field_in row_of
reads_row l = row_of l

unfoldable pub reads_rows : Head → List ℕ → Reading
unfolding reads_row lines first_of with_row read_rows_from read_rows
reads_rows h t = read_rows h t

unfoldable pub writes_rows : List ℕ → List ℕ
unfolding bytes digits digits_in print_row stretches stretch_rows mask_rows bare rows_text
writes_rows ms = rows_text ms

unfoldable pub tries_record : record-of-head.Head → List record-of-preset.Preset → Bool
unfolding records_to valid has_number all_in_limits all_distinct masks_in first_of
tries_record h ps = valid_record h ps

-- ---- lines

record Line : Type 0 where
  text : String
  said : Option Row

abbrev reads : String → Option Row → Line
reads t r = record { text = t; said = r }

abbrev some_lines : List Line
some_lines =
    -- bare, quoted, and both in one row; any value has the form, also 0, a bridge past the frame, first above last, twenty digits
    reads "2,3,4\r\n" (some (row 2 3 4))
    ∷ reads "\"2\",\"1\",\"4\"\r\n" (some (row 2 1 4))
    ∷ reads "\"2\",\"1\",2\r\n" (some (row 2 1 2))
    ∷ reads "0,1,1\r\n" (some (row 0 1 1))
    ∷ reads "1,3,2\r\n" (some (row 1 3 2))
    ∷ reads "3,10,64\r\n" (some (row 3 10 64))
    ∷ reads "1,1,18446744073709551616\r\n" (some (row 1 1 18446744073709551616))
    -- two fields, four fields, none; a header
    ∷ reads "9,9\r\n" none
    ∷ reads "1,1,1,1\r\n" none
    ∷ reads "\r\n" none
    ∷ reads "" none
    ∷ reads ",,\r\n" none
    ∷ reads "bridge,first,last\r\n" none
    -- leading zeros, blanks, signs
    ∷ reads "1,01,1\r\n" none
    ∷ reads "1,\"01\",1\r\n" none
    ∷ reads "1, 1,1\r\n" none
    ∷ reads "1,1,1 \r\n" none
    ∷ reads "+1,1,1\r\n" none
    -- quotes that are doubled, open, within a number, around a comma, empty
    ∷ reads "1,\"1\"\",1\r\n" none
    ∷ reads "1,\"1,1\r\n" none
    ∷ reads "1,1\",1\r\n" none
    ∷ reads "1,1\"1\",1\r\n" none
    ∷ reads "\"1,1\",1\r\n" none
    ∷ reads "\"\",1,1\r\n" none
    -- ends: none, byte 10 alone, byte 13 alone, both turned round, twice
    ∷ reads "1,1,1" none
    ∷ reads "1,1,1\n" none
    ∷ reads "1,1,1\r" none
    ∷ reads "1,1,1\n\r" none
    ∷ reads "1,1,1\r\r\n" none
    ∷ []

pub lines_read : map (λ c. row_of (bytes c.text)) some_lines ≡ map (λ c. c.said) some_lines
unfolding reads_row
lines_read = refl

-- ---- where a text is cut: after byte 10 that follows byte 13, and nowhere else

pub text_cut : cuts (bytes "1,1,1\r\n1,2,2\n1,3,3\r1\r\n\r\n\n1") ≡ map bytes ("1,1,1\r\n" ∷ "1,2,2\n1,3,3\r1\r\n" ∷ "\r\n" ∷ "\n1" ∷ [])
unfolding bytes cuts_after
text_cut = refl

-- ---- whole texts: the head is that of `(frame 4 2)`, `(busy 1 (4 4))` and a preset

-- 4 slots and 2 bridges, with these slots of bridge 1 and of bridge 2 busy
abbrev busy_on : ℕ → ℕ → Head
busy_on m n = with_presets (with_busy (bare_head 4 2) (m ∷ n ∷ replicate 6 0)) (preset_of 7 1 2 3 ∷ [])

-- a text, and what the paper says of it
record Text : Type 0 where
  text : String
  said : Reading

-- so many rows, and the slots that are busy then
abbrev takes : String → ℕ → ℕ → ℕ → Text
takes t n m₁ m₂ = record { text = t; said = accepted (busy_on m₁ m₂) n }

-- the row at fault, and its cause
abbrev fails : String → ℕ → Refusal → Text
fails t n c = record { text = t; said = refused n c }

abbrev some_texts : List Text
some_texts =
    -- no rows at all: no busy line is left; nor is it by rows of another bridge
    takes "" 0 0 0
    ∷ takes "2,1,1\r\n" 1 0 1
    -- touching rows are one stretch
    ∷ takes "1,1,2\r\n1,3,4\r\n" 2 15 0
    -- any sequence, overlap, quotes; the same row twice; a gap
    ∷ takes "2,3,4\r\n1,1,1\r\n\"2\",\"1\",2\r\n" 3 1 15
    ∷ takes "1,2,3\r\n1,3,4\r\n1,2,2\r\n" 3 14 0
    ∷ takes "1,4,4\r\n1,1,2\r\n1,4,4\r\n" 3 11 0
    -- bridge from 1 to 2, first from 1, last to 4, first not above last: at the edge and one past it
    ∷ fails "0,1,1\r\n" 1 out_of_limits
    ∷ takes "1,1,1\r\n" 1 1 0
    ∷ takes "2,4,4\r\n" 1 0 8
    ∷ fails "3,1,1\r\n" 1 out_of_limits
    ∷ fails "1,0,1\r\n" 1 out_of_limits
    ∷ takes "1,1,4\r\n" 1 15 0
    ∷ fails "1,1,5\r\n" 1 out_of_limits
    ∷ fails "1,5,5\r\n" 1 out_of_limits
    ∷ fails "1,0,0\r\n" 1 out_of_limits
    ∷ takes "1,3,3\r\n" 1 4 0
    ∷ fails "1,3,2\r\n" 1 out_of_limits
    -- a number of any length never wraps
    ∷ fails "18446744073709551617,1,1\r\n" 1 out_of_limits
    ∷ fails "1,18446744073709551617,1\r\n" 1 out_of_limits
    ∷ fails "1,1,18446744073709551617\r\n" 1 out_of_limits
    ∷ fails "1,1,99999999999999999999\r\n" 1 out_of_limits
    -- no three decimal fields with CR LF
    ∷ fails "9,9\r\n" 1 no_row
    ∷ fails "1,01,1\r\n" 1 no_row
    ∷ fails "\"1,1\",1\r\n" 1 no_row
    ∷ fails "1,1,1,1\r\n" 1 no_row
    ∷ fails "1, 1,1\r\n" 1 no_row
    ∷ fails "1,\"1\"\",1\r\n" 1 no_row
    ∷ fails "bridge,first,last\r\n1,1,1\r\n" 1 no_row
    ∷ fails "\r\n" 1 no_row
    ∷ fails "1,1,1\n" 1 no_row
    ∷ fails "1,1,1" 1 no_row
    -- in a row 12 comes before 2
    ∷ fails "9,9,9\n" 1 no_row
    ∷ fails "3,2,1,\r\n" 1 no_row
    -- the first row at fault decides
    ∷ fails "3,1,1\r\n1,1\r\n" 1 out_of_limits
    ∷ fails "1,1\r\n3,1,1\r\n" 1 no_row
    ∷ fails "1,1,1\r\n2,1,1\r\n1,5,5\r\n1,1\r\n" 3 out_of_limits
    ∷ fails "1,1,1\r\n2,1,1\r\n1,1\r\n1,5,5\r\n" 3 no_row
    -- a last row without its end; an empty row; byte 10 without 13, byte 13 without 10
    ∷ fails "1,1,1\r\n1,2,2" 2 no_row
    ∷ fails "1,1,1\r\n\r\n1,2,2\r\n" 2 no_row
    ∷ fails "1,1,1\r\n\r\n" 2 no_row
    ∷ fails "1,1,1\r\n1,2,2\n1,3,3\r\n" 2 no_row
    ∷ fails "1,1,1\r\n1,2,2\r1,3,3\r\n" 2 no_row
    -- a quoted CR LF: the row in which the quote opens
    ∷ fails "1,1,1\r\n1,\"2\r\n\",2\r\n" 2 no_row
    ∷ []

pub texts_read : map (λ c. read_rows (busy_on 8 0) (bytes c.text)) some_texts ≡ map (λ c. c.said) some_texts
unfolding reads_rows
texts_read = refl

-- every slot of the most, and the last of the most bridges; one past each
pub widest_read :
    map (λ t. read_rows (bare_head 64 8) (bytes t)) ("1,1,64\r\n" ∷ "8,64,64\r\n8,1,1\r\n" ∷ "1,1,65\r\n" ∷ "9,1,1\r\n" ∷ [])
    ≡ accepted (with_busy (bare_head 64 8) (18446744073709551615 ∷ replicate 7 0)) 1
    ∷ accepted (with_busy (bare_head 64 8) (replicate 7 0 ++ (9223372036854775809 ∷ []))) 2
    ∷ refused 1 out_of_limits
    ∷ refused 1 out_of_limits
    ∷ []
unfolding reads_rows
widest_read = refl

-- ---- what is written of masks: by bridge, then by slot, bare

pub masks_written :
    map (λ ms. rows_text (ms ++ replicate 6 0))
    ((0 ∷ 0 ∷ []) ∷ (15 ∷ 0 ∷ []) ∷ (1 ∷ 15 ∷ []) ∷ (11 ∷ 8 ∷ []) ∷ (18446744073709551615 ∷ 0 ∷ []) ∷ (9223372036854775809 ∷ 1 ∷ []) ∷ [])
    ≡ map bytes
    ("" ∷ "1,1,4\r\n" ∷ "1,1,1\r\n2,1,4\r\n" ∷ "1,1,2\r\n1,4,4\r\n2,4,4\r\n" ∷ "1,1,64\r\n" ∷ "1,1,1\r\n1,64,64\r\n2,1,1\r\n" ∷ [])
unfolding writes_rows
masks_written = refl

-- the longest: slots 2, 4 and so on to 64 of every bridge, each alone
pub rows_longest : length (rows_text (replicate 8 12297829382473034410)) ≡ 2240
unfolding writes_rows
rows_longest = refl

-- ---- the entries over a list of records: 10, then 8, then 2 of the head record, all at row 0 before any row

-- a head record of 4 slots and 2 bridges with a supply line and a tie line of its own, which stay, and this mask for bridge 1, slot 5 being past the last, that counts so many presets
abbrev counting : ℕ → ℕ → record-of-head.Head
counting m n = record { slots = 4; bridges = 2; supply = 3; hold = true; busy = m ∷ replicate 7 0; count = n }

pub entries_too_long : (rows_reading 31 (counting 16 0) [] (replicate 40000 10) ≡ refused 0 text_too_long)
    × (rows_reading 32 (counting 16 0) [] (replicate 40000 10) ≡ refused 0 text_too_long)
    × (rows_reading 31 (counting 8 0) [] (replicate 32769 10) ≡ refused 0 text_too_long)
    × (rows_reading 32 (counting 8 0) [] (replicate 32769 10) ≡ refused 0 text_too_long)
    × (rows_reading 31 (counting 8 0) [] (replicate 32768 10) ≡ refused 0 too_short)
    × (rows_reading 32 (counting 8 0) [] (replicate 32768 10) ≡ refused 1 no_row)
unfolding reads_rows tries_record
entries_too_long = (refl, refl, refl, refl, refl, refl)

pub entries_tried : (rows_reading 31 (counting 16 0) [] (bytes "nonsense") ≡ refused 0 too_short)
    × (rows_reading 32 (counting 16 0) [] (bytes "nonsense") ≡ refused 0 out_of_limits)
    × (rows_reading 32 (counting 15 0) [] (bytes "nonsense") ≡ refused 1 no_row)
    × (rows_reading 31 (counting 8 0) [] (bytes "1,1,2\r\n") ≡ refused 0 too_short)
    × (rows_reading 32 (counting 8 1) (records_to 32) (bytes "1,1,2\r\n")
    ≡ accepted (with_presets (with_busy (with_tie (with_supply (bare_head 4 2) 3) true) (3 ∷ replicate 7 0)) (preset_of 32 0 0 0 ∷ [])) 1)
    × (rows_reading 33 (counting 8 33) (records_to 33) (bytes "1,1,2\r\n") ≡ refused 0 out_of_limits)
    × (rows_reading 32 (counting 8 33) (records_to 32) [] ≡ refused 0 out_of_limits)
unfolding reads_rows tries_record
entries_tried = (refl, refl, refl, refl, refl, refl, refl)

-- what is answered, and the head record afterwards: other masks, or the one handed in
abbrev entry_leaves : ℕ → List ℕ → RowsRead
entry_leaves records t = rows_read (rows_reading records (counting 8 32) (records_to 32) t) (counting 8 32)

pub entries_left : (entry_leaves 32 (bytes "2,1,2\r\n2,4,4\r\n")
    ≡ record { answer = Ok 2; head = record { slots = 4; bridges = 2; supply = 3; hold = true; busy = 0 ∷ 11 ∷ replicate 6 0; count = 32 } })
    × (entry_leaves 32 (bytes "2,1,2\r\n2,5,5\r\n") ≡ record { answer = Err (fault 2 code.OutOfLimits); head = counting 8 32 })
    × (entry_leaves 32 (bytes "2,1,2\n") ≡ record { answer = Err (fault 1 code.NoRow); head = counting 8 32 })
    × (entry_leaves 31 [] ≡ record { answer = Err (fault 0 code.TooShort); head = counting 8 32 })
unfolding reads_rows tries_record
entries_left = (refl, refl, refl, refl)

-- what is written: the length of the rows, and the rows before the bytes that stay; or 8, then 2, and the output as it was
pub entries_wrote : (r : Result ℕ type.Refusal) (after : List ℕ)
    → (WroteRows 32 (counting 11 0) [] (replicate 8192 7) r after → (answer_in r ≡ write.written 14) × (after ≡ bytes "1,1,2\r\n1,4,4\r\n" ++ replicate 8178 7))
    × (WroteRows 32 (counting 16 0) [] (replicate 8192 7) r after → (answer_in r ≡ write.refused 0 out_of_limits) × (after ≡ replicate 8192 7))
    × (WroteRows 32 (counting 16 0) [] (replicate 8191 7) r after → (answer_in r ≡ write.refused 0 too_short) × (after ≡ replicate 8191 7))
    × (WroteRows 31 (counting 16 0) [] (replicate 8192 7) r after → (answer_in r ≡ write.refused 0 too_short) × (after ≡ replicate 8192 7))
unfolding writes_rows tries_record
entries_wrote r after =
    (λ w. (w.answer, w.output), λ w. (w.answer, w.output), λ w. (w.answer, w.output), λ w. (w.answer, w.output))
