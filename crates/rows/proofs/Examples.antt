-- Inputs and what is printed of them, by computing (`inputs_printed`): both ways, both refusals, the first empty line, what comes after the head; and rows that are too long (`rows_too_long`).
-- Assumes nothing.
use Prim.Native.Nat.{ℕ}
use Prim.Native.String.{String}
use mathlib.Core.Path.{◌≡◌, refl}
use mathlib.Core.List.{List, [], ◌∷◌, map}
use lib.ListN.{replicate}
use Rattle.station.specs.Text.{bytes, ◌then◌}
use Rattle.station.specs.Row.{field_in, row_of, with_row, stretch_rows, mask_rows, bare, rows_text, print_row}
use Rattle.station.specs.ReadRows.{read_rows_from, read_rows}
use Rattle.station.proofs.Examples.{reads, writes}
use Rattle.frame.specs.Listing.{refused_line}
use Rattle.rows.specs.Printed.{parts_of, rows_beside, printed_of, rows_printed}

-- ---- what computes

unfoldable prints : List ℕ → List ℕ
unfolding reads writes field_in row_of with_row read_rows_from read_rows print_row stretch_rows mask_rows bare rows_text refused_line parts_of rows_beside printed_of rows_printed
prints t = rows_printed t

-- ---- inputs

record Case : Type 0 where
  input : String
  printed : String

abbrev prints_as : String → String → Case
prints_as t p = record { input = t; printed = p }

abbrev inputs : List Case
inputs =
    -- without an empty line: the head's rows, by bridge, then by slot, bare; none where nothing is busy
    prints_as "(frame 4 2)\n(busy 1 (1 2) (4 4))\n(busy 2 (2 3))\n" "1,1,2\r\n1,4,4\r\n2,2,3\r\n"
    ∷ prints_as "(frame 4 2)\n(preset 1 0 2 1)\n" ""
    -- rows in place of the head's busy lines: any sequence, overlap, quotes
    ∷ prints_as "(frame 4 2)\n(busy 1 (4 4))\n(preset 1 0 2 1)\n\n2,3,4\r\n1,1,1\r\n\"2\",\"1\",2\r\n" "(frame 4 2)\n(busy 1 (1 1))\n(busy 2 (1 4))\n(preset 1 0 2 1)\n"
    -- the head's tie line stays where it is; a tie line after the busy lines is an event, and is not looked at
    ∷ prints_as "(frame 4 2)\n(tie hold)\n(busy 1 (4 4))\n\n1,1,2\r\n" "(frame 4 2)\n(tie hold)\n(busy 1 (1 2))\n"
    ∷ prints_as "(frame 4 2)\n(busy 1 (4 4))\n(tie hold)\n\n1,1,2\r\n" "(frame 4 2)\n(busy 1 (1 2))\n"
    ∷ prints_as "(frame 4 2)\n(tie place)\n\n1,1,2\r\n" "(refused 2 3)\n"
    -- and so does its supply line, with the tie line right after it
    ∷ prints_as "(frame 4 2)\n(supply 3)\n(busy 1 (4 4))\n\n1,1,2\r\n" "(frame 4 2)\n(supply 3)\n(busy 1 (1 2))\n"
    ∷ prints_as "(frame 4 2)\n(supply 3)\n(tie hold)\n(busy 1 (4 4))\n\n1,1,2\r\n" "(frame 4 2)\n(supply 3)\n(tie hold)\n(busy 1 (1 2))\n"
    ∷ prints_as "(frame 4 2)\n(busy 1 (4 4))\n(supply 3)\n\n1,1,2\r\n" "(refused 3 3)\n"
    -- no rows after the empty line: no busy line is left
    ∷ prints_as "(frame 4 2)\n(busy 1 (4 4))\n\n" "(frame 4 2)\n"
    -- the first row at fault, counted from the empty line: no row, outside the frame
    ∷ prints_as "(frame 4 2)\n(busy 1 (4 4))\n\n1,1,1\r\n9,9\r\n3,1,1\r\n" "(refused 2 12)\n"
    ∷ prints_as "(frame 4 2)\n(busy 1 (4 4))\n\n3,1,1\r\n1,1\r\n" "(refused 1 2)\n"
    -- the head's line at fault, whatever the rows are
    ∷ prints_as "(frame 4 2)\n(busy 3 (1 1))\n" "(refused 2 2)\n"
    ∷ prints_as "(frame 4 2)\n(busy 3 (1 1))\n\n9,9\r\n" "(refused 2 2)\n"
    -- no text of a head: "No text at all: 3 at line 1."
    ∷ prints_as "" "(refused 1 3)\n"
    ∷ prints_as "\n1,1,1\r\n" "(refused 1 3)\n"
    -- the first of two empty lines parts, and the second is a row without its form; CR LF is no empty line
    ∷ prints_as "(frame 4 2)\n\n\n1,1,1\r\n" "(refused 1 12)\n"
    ∷ prints_as "(frame 4 2)\n\r\n1,1,1\r\n" "(refused 2 1)\n"
    -- from the first event line up to the empty line nothing is looked at, and nothing of it is written
    ∷ prints_as "(frame 4 2)\n(busy 1 (4 4))\n(clock 2)\n(nonsense\n\n1,1,2\r\n" "(frame 4 2)\n(busy 1 (1 2))\n"
    ∷ prints_as "(frame 4 2)\n(busy 1 (4 4))\n(clock 2)\n(nonsense\n" "1,4,4\r\n"
    ∷ []

pub inputs_printed : map (λ c. rows_printed (bytes c.input)) inputs ≡ map (λ c. bytes c.printed) inputs
unfolding prints
inputs_printed = refl

-- 32,769 bytes of rows are too many, whatever they are
pub rows_too_long : rows_printed (bytes "(frame 4 2)\n\n" then replicate 32769 49) ≡ bytes "(refused 0 10)\n"
unfolding prints
rows_too_long = refl
