-- Laws of the causes that are tried before any row, for a list of so many records.
--
-- In order: a text that is too long (`rows_long`), fewer than 32 records (`rows_few`), a record that no text yields (`rows_invalid`), none of them (`rows_tried`); with
-- enough records what the first 32 give is what the list gives (`rows_list`).
-- Assumes nothing.
use Prim.Native.Nat.{ℕ, ◌≤◌, ◌<◌}
use mathlib.Core.Path.{◌≡◌, refl}
use mathlib.Core.Bool.{true, false}
use mathlib.Core.List.{List}
use lib.ListN.{length, take}
use lib.Dec.{ltb, leb}
use Rattle.laws.proofs.Tests.{Is, is, is_true, is_false}
use Rattle.laws.proofs.Comparisons.{le_of, ltb_yes, ltb_no}
use Rattle.station.specs.declared.types.Preset.{Preset}
use Rattle.station.specs.declared.types.Head.{Head}
use Rattle.station.specs.declared.types.Refusal.TheVariants.{OutOfLimits, TooShort, TextTooLong}
use Rattle.station.specs.Refusal.{first_of}
use Rattle.station.specs.Types.{head_in, valid_record}
use Rattle.station.specs.ReadRows.{read_rows}
use Rattle.station.specs.RowEntries.{rows_reading, rows_read, rows_refused}
use Rattle.station.proofs.entries.ListOfRecords.{head_list}

module _ (records : ℕ) (h : Head) (ps : List Preset) (t : List ℕ) where
  pub rows_long : 32768 < length t → rows_refused 0 TextTooLong h ≡ rows_read (rows_reading records h ps t) h
  unfolding first_of
  rows_long l = rw (ltb_yes 32768 (length t) l) refl

  pub rows_few : length t ≤ 32768 → records < 32 → rows_refused 0 TooShort h ≡ rows_read (rows_reading records h ps t) h
  unfolding first_of
  rows_few l k = rw (ltb_no 32768 (length t) l, ltb_yes records 32 k) refl

  pub rows_invalid : length t ≤ 32768 → 32 ≤ records → valid_record h ps ≡ false → rows_refused 0 OutOfLimits h ≡ rows_read (rows_reading records h ps t) h
  unfolding first_of
  rows_invalid l k e = rw (ltb_no 32768 (length t) l, ltb_no records 32 k, e) refl

  pub rows_tried : length t ≤ 32768 → 32 ≤ records → valid_record h ps ≡ true → rows_read (read_rows (head_in h ps) t) h ≡ rows_read (rows_reading records h ps t) h
  unfolding first_of
  rows_tried l k e = rw (ltb_no 32768 (length t) l, ltb_no records 32 k, e) refl

-- A count above 32 is refused; else no record past the first 32 is looked at.
pub rows_list : (h : Head) (ps : List Preset) (t : List ℕ) → 32 ≤ length ps → rows_reading 32 h (take 32 ps) t ≡ rows_reading (length ps) h ps t
unfolding first_of
rows_list h ps t long = rw (ltb_no (length ps) 32 long) (go (is (ltb 32768 (length t))) (is (leb h.count 32)))
  where
    go : Is (ltb 32768 (length t)) → Is (leb h.count 32) → rows_reading 32 h (take 32 ps) t ≡ rows_reading 32 h ps t
    go (is_true a) c = rw a refl
    go (is_false a) (is_true c) = rw (head_list h ps (le_of h.count 32 c)) refl
    go (is_false a) (is_false c) = rw (a, c) refl
