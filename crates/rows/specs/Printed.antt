-- What the program `rows` prints of its input. Document 02, 2026-01: "Read rows .. and put them in
-- place of the head's busy lines; write them back from a head, bare." The paper leaves open how a
-- program is handed both; the other words quoted here are those of docs/FORMAT.md, "Busy times from
-- a spreadsheet".
--
-- In order: the parts of an input (`Input`, `parts_of`); what is printed of it (`rows_printed`).
-- Assumes nothing.
use Rattle.std.specs.Prelude.{ℕ, Bool, false, cond, List, [], ◌∷◌, length, eqb, ltb}
use Rattle.station.specs.Limits.{most_bytes}
use Rattle.station.specs.Head.{Head}
use Rattle.station.specs.Refusal.{text_too_long, try}
use Rattle.station.specs.Text.{◌then◌, join, lines}
use Rattle.station.specs.Writing.{text_of}
use Rattle.station.specs.Reading.{Reading, accepted, refused, unless, head_of}
use Rattle.station.specs.Row.{rows_text}
use Rattle.station.specs.ReadRows.{read_rows}
use Rattle.frame.specs.Listing.{refused_line}

-- ---- the parts of an input

-- "Standard input is the text of a head, then an empty line (byte 10 alone), then the rows." Or
-- there is no empty line, and the head is alone.
pub data Input : Type 0 where
  head_alone : List ℕ → Input
  head_and_rows : List ℕ → List ℕ → Input

-- "an empty line (byte 10 alone)"
abbrev pub is_empty : List ℕ → Bool
is_empty [] = false
is_empty (b ∷ []) = eqb b 10
is_empty (b ∷ (c ∷ l)) = false

-- some bytes more before the head's text
abbrev pub prefixed : List ℕ → Input → Input
prefixed l (head_alone h) = head_alone (l then h)
prefixed l (head_and_rows h rs) = head_and_rows (l then h) rs

-- The lines before the first empty line are the head's text, those after it the rows'; a later
-- empty line is one of these.
unfoldable pub parts_of : List (List ℕ) → Input
parts_of [] = head_alone []
parts_of (l ∷ ls) =
    let rest = prefixed l (parts_of ls) in
    cond (is_empty l) (head_and_rows [] (join ls)) rest

-- ---- what is printed

-- "A refusal is one line `(refused n c)`: where the head is refused n is its line, else the row,
-- counted from 1." Of a head that is accepted, k says what is printed.
abbrev pub of_reading : Reading → (Head → List ℕ) → List ℕ
of_reading (accepted h n) k = k h
of_reading (refused n c) k = refused_line n c

-- Rows beside a head that was read: "text above 32,768 bytes", 10, at row 0, before any row. The
-- head is one that some text yields, so that 2 of its record is not met.
unfoldable pub rows_beside : Head → List ℕ → Reading
rows_beside h t = unless (try text_too_long (ltb most_bytes (length t))) 0 (read_rows h t)

-- The head is read first, so that its line at fault is answered whatever the rows are. "Standard
-- output is the head's text with the rows in place of its busy lines"; "Without the empty line,
-- `rows` writes the busy lines of the head as rows: bare, by bridge, then by slot".
unfoldable pub printed_of : Input → List ℕ
printed_of (head_alone t) = of_reading (head_of t) (λ h. rows_text h.busy)
printed_of (head_and_rows t rs) = of_reading (head_of t) (λ h. of_reading (rows_beside h rs) text_of)

-- what is printed of an input
unfoldable pub rows_printed : List ℕ → List ℕ
rows_printed t = printed_of (parts_of (lines t))
