-- What the code makes of one field and of one row at a place of a text. Document 02, 2026-01: "Read
-- rows of three fields, .., quoted or bare". Assumes nothing.
use Rattle.std.specs.Prelude.{ℕ, ◌+◌, cond, List, length, drop, Option, Some, None, option_and_then, option_map}
use Rattle.std.proofs.Math.Option as math
use Rattle.std.proofs.Math.Option.{none, some}
use Rattle.station.specs.declared.numbers.Numeral.{Numeral}
use Rattle.station.specs.declared.rows.fields.Fields.{Fields}
use Rattle.station.specs.Text.{bytes}
use Rattle.station.specs.Line.{line_of}
use Rattle.station.specs.Form.{starts}
use Rattle.station.specs.Jobs.{seen}
use Rattle.station.specs.Row.{Row, row, quote, row_of}
use Rattle.station.specs.method.Numeral.{word_at, numeral_at, numeral_then}

-- a field at a place: a number between quotes where a quote stands there, else a number; the place
-- is that after the field
abbrev pub field_at : List ℕ → ℕ → Option Numeral
field_at t at = cond (starts quote (drop at t)) (numeral_then quote t (at + 1)) (numeral_at t at)

-- a field and a comma after it; the place is that after the comma
abbrev pub field_then : List ℕ → ℕ → Option Numeral
field_then t at =
    option_and_then (λ n. option_map (λ next. record { value = n.value; next = next }) (word_at (bytes ",") t n.next)) (field_at t at)

-- a row as it is read, and the place after it, if there is one
abbrev pub fields_of : ℕ → math.Option Row → Option Fields
fields_of next none = None
fields_of next (some x) = Some (record { bridge = seen x.bridge; first = seen x.first; last = seen x.last; next = next })

-- the row of the line at a place; the place is that after the line
abbrev pub fields_at : List ℕ → ℕ → Option Fields
fields_at t at = fields_of (at + length (line_of (drop at t))) (row_of (line_of (drop at t)))

-- the row of its fields
abbrev pub row_is : Fields → Row
row_is f = row f.bridge f.first f.last
