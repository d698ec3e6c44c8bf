-- The entries read_head and write_head over a borrowed list of preset records, for every input.
-- Document 01, "Presets stand in a lent list of records, in file order", and "Causes": the list is
-- tried first, 8 for "preset list below 32 records", but for a text by 10 before that.
--
-- In order: writing a head (`entry_causes`, `entry_answer`, `entry_output`, `WroteEntry`); reading a
-- head (`entry_reading`, `entry_read`). Assumes nothing.
use Rattle.std.specs.Prelude.{ℕ, ◌≡◌, List, [], ◌∷◌, length, ltb, Result}
use Rattle.std.proofs.Math.Option.{Option}
use Rattle.station.specs.Limits.{most_bytes, least_records}
use Rattle.station.specs.declared.types.Preset.{Preset}
use Rattle.station.specs.declared.types.Head.{Head}
use Rattle.station.specs.declared.types.Refusal as code
use Rattle.station.specs.Refusal.{Refusal, too_short, text_too_long, try, first_of}
use Rattle.station.specs.Writing.{text_of}
use Rattle.station.specs.Reading.{Reading, unless, head_of}
use Rattle.station.specs.Types.{head_in}
use Rattle.station.specs.ReadHead.{HeadRead, head_read}
use Rattle.station.specs.WriteHead.{Answer, answer_in, write_causes, answer_of as writeAnswerOf, output_of}

-- ---- writing

-- "preset list below 32 records": 8; then the causes of writing a head
abbrev pub entry_causes : ℕ → Head → List Preset → List ℕ → List (Option Refusal)
entry_causes records h ps out = try too_short (ltb records least_records) ∷ write_causes h ps out

-- the answer for a list of so many records
abbrev pub entry_answer : ℕ → Head → List Preset → List ℕ → Answer
entry_answer records h ps out = writeAnswerOf (first_of (entry_causes records h ps out)) (length (text_of (head_in h ps)))

-- the output afterwards
abbrev pub entry_output : ℕ → Head → List Preset → List ℕ → List ℕ
entry_output records h ps out = output_of (first_of (entry_causes records h ps out)) (text_of (head_in h ps)) out

-- What the writer promises: its answer r and the output afterwards are the defined ones.
pub record WroteEntry (records : ℕ) (h : Head) (ps : List Preset) (out : List ℕ) (r : Result ℕ code.Refusal) (after : List ℕ) : Type 0 where
  pub answer : answer_in r ≡ entry_answer records h ps out
  pub output : after ≡ entry_output records h ps out

-- ---- reading

-- How the head of a text reads where the list has so many records: "Tried in the order 10, 8, ..",
-- both at line 0, and then the head's causes.
abbrev pub entry_reading : ℕ → List ℕ → Reading
entry_reading records t = unless (first_of (try text_too_long (ltb most_bytes (length t)) ∷ try too_short (ltb records least_records) ∷ [])) 0 (head_of t)

-- what reading a head answers and leaves of the head record and of the list
abbrev pub entry_read : ℕ → List ℕ → Head → List Preset → HeadRead
entry_read records t head ps = head_read (entry_reading records t) head ps
