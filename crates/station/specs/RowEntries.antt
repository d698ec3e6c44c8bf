-- The entries read_rows and write_rows over a borrowed list of preset records, for every input.
-- Document 02, 2026-01; document 01, "Causes".
--
-- In order: reading (`rows_causes`, `rows_reading`), and what the entry answers and leaves
-- (`RowsRead`, `rows_left`, `rows_read`); writing (`WroteRows`). Assumes nothing.
use Rattle.std.specs.Prelude.{ℕ, ◌≡◌, not, List, [], ◌∷◌, length, ltb, Result, Ok, Err}
use Rattle.std.proofs.Math.Option.{Option}
use Rattle.station.specs.Limits.{most_bytes, least_records}
use Rattle.station.specs.declared.types.Preset.{Preset}
use Rattle.station.specs.declared.types.Head.{Head}
use Rattle.station.specs.declared.types.Refusal as code
use Rattle.station.specs.declared.types.Fault.{Fault}
use Rattle.station.specs.Refusal.{Refusal, out_of_limits, too_short, text_too_long, try, first_of}
use Rattle.station.specs.Reading.{Reading, accepted, refused, unless}
use Rattle.station.specs.Row.{rows_text}
use Rattle.station.specs.ReadRows.{read_rows}
use Rattle.station.specs.Types.{refusal_of, with_masks, head_in, valid_record}
use Rattle.station.specs.ReadHead.{fault}
use Rattle.station.specs.WriteHead.{answer_in, answer_of, output_of}
use Rattle.station.specs.Entries.{entry_causes}

-- ---- reading

-- Tried before any row, for a list of so many records: "text above 32,768 bytes" is 10, "preset
-- list below 32 records" 8, and "a lent head record is tried by 2, which then returns 0, before any
-- row".
abbrev pub rows_causes : ℕ → Head → List Preset → List ℕ → List (Option Refusal)
rows_causes records h ps t = try text_too_long (ltb most_bytes (length t)) ∷ try too_short (ltb records least_records) ∷ try out_of_limits (not (valid_record h ps)) ∷ []

-- how a text of rows reads beside a head record and its list
abbrev pub rows_reading : ℕ → Head → List Preset → List ℕ → Reading
rows_reading records h ps t = unless (first_of (rows_causes records h ps t)) 0 (read_rows (head_in h ps) t)

-- what reading rows answers, and the head record after it
pub record RowsRead : Type 0 where
  pub answer : Result ℕ Fault
  pub head : Head

-- an answer and the head record afterwards, as one reading
abbrev pub rows_left : Result ℕ Fault → Head → RowsRead
rows_left r h = record { answer = r; head = h }

-- so many rows, and the record with the masks that were read
abbrev pub rows_accepted : ℕ → Head → List ℕ → RowsRead
rows_accepted n h ms = rows_left (Ok n) (with_masks h ms)

-- "returns the row and leaves the head"
abbrev pub rows_refused : ℕ → code.Refusal → Head → RowsRead
rows_refused n c h = rows_left (Err (fault n c)) h

-- what reading rows answers and leaves of the head record; of the list nothing is changed
abbrev pub rows_read : Reading → Head → RowsRead
rows_read (accepted g n) h = rows_accepted n h g.busy
rows_read (refused n c) h = rows_refused n (refusal_of c) h

-- ---- writing

-- What the writer promises, with the causes of writing a head: its answer r and the output
-- afterwards are those of the rows of the head's busy cells.
pub record WroteRows (records : ℕ) (h : Head) (ps : List Preset) (out : List ℕ) (r : Result ℕ code.Refusal) (after : List ℕ) : Type 0 where
  pub answer : answer_in r ≡ answer_of (first_of (entry_causes records h ps out)) (length (rows_text h.busy))
  pub output : after ≡ output_of (first_of (entry_causes records h ps out)) (rows_text h.busy) out
