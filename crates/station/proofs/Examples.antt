-- Texts read and written, by computing: the listing of document 01, each cause that a head can meet, and the readings of its open points.
--
-- In order: what computes (`recognises`, `reads`, `writes`, for `unfolding` lines); the cases, and that each text reads as its case says
-- (`cases_read`); the head of the listing, written (`listing_written_lem`) and tested (`listing_valid`); the 33rd preset (`presets_32`,
-- `presets_33`); a number above 2 ^ 64 (`long_number`); the longest text (`too_long`, `longest`). Then what holds the definitions to document 01 from two
-- sides, each a list of cases and one fact: the causes' numbers (`cause_numbers`); the limits of a head's lines at both edges, and the causes of a line two at
-- a time in the listed order (`edges_read`), the tie line and its places (`ties_read`, `ties_written`), the supply line and its places (`supplies_read`, `supplies_written`),
-- the causes of a 33rd preset (`used_before_33`, `outside_before_33`); head records at the edges (`edges_valid`, `record_32`, `record_33`); what the entries over a list of records
-- try (`entries_read`, `entries_written`), and what is copied out of a list and back (`records_loaded`, `records_saved`).
-- Assumes nothing.
use Prim.Native.Nat.{ℕ, zero, suc}
use Prim.Native.String.{String}
use mathlib.Core.Path.{◌≡◌, refl}
use mathlib.Core.Bool.{Bool, true, false}
use mathlib.Core.Option.{Option}
use mathlib.Core.List.{List, [], ◌∷◌, ◌++◌, map}
use lib.ListN.{replicate}
use Rattle.station.specs.Head.{Head, Preset, preset_of, bare_head, with_tie, with_busy, with_presets, valid, has_number, all_in_limits, all_distinct, masks_in}
use Rattle.station.specs.Refusal.{number_of, first_of, no_form, out_of_limits, out_of_place, number_used, mandatory_not_feasible, clock_back}
use Rattle.station.specs.Refusal.{call_not_feasible, too_short, too_many, text_too_long, not_well_formed, no_row}
use Rattle.station.specs.Text.{bytes, lines}
use Rattle.station.specs.Decimal.{digits, digits_in, digit_count, plain, value_from}
use Rattle.station.specs.Form.{Form, form, print, brackets, starts, word, number, brackets_in, read_brackets, frame_in, busy_in, preset_in, clock_in}
use Rattle.station.specs.Form.{job_list_in, read_jobs, call_in, tie_in, supply_in}
use Rattle.station.specs.Writing.{mask_of, ordered, stretches, busy_lines, forms_of, text_of}
use Rattle.station.specs.Reading.{Reading, accepted, refused, head_of, read_from, tried}
use Rattle.station.specs.declared.types.Preset as record-of-preset
use Rattle.station.specs.declared.types.Head as record-of-head
use Rattle.station.specs.declared.types.Refusal.TheVariants as code
use Rattle.station.specs.Types.{refusal_in, valid_record, no_record}
use Rattle.station.specs.WriteHead as write
use Rattle.station.specs.Entries.{entry_reading, entry_answer}
use Rattle.station.specs.Records.{loaded, saved}

-- ---- what computes: `unfolding reads` opens all that reading a text needs, and so the others

unfoldable pub recognises : List ℕ → Option Form
unfolding bytes plain digit_count value_from starts word number brackets_in read_brackets job_list_in read_jobs frame_in busy_in preset_in supply_in clock_in call_in tie_in form
recognises l = form l

unfoldable pub reads : List ℕ → Reading
unfolding recognises lines mask_of ordered has_number first_of tried read_from head_of
reads t = head_of t

unfoldable pub writes : Head → List ℕ
unfolding bytes digits digits_in brackets print stretches busy_lines forms_of text_of
writes h = text_of h

-- ---- texts

-- a text, and what the papers say of it
record Case : Type 0 where
  text : String
  said : Reading

abbrev says : String → Reading → Case
says t r = record { text = t; said = r }

-- the head of the listing of document 01
abbrev listing : Head
listing = with_presets (with_busy (bare_head 4 2) (0 ∷ 6 ∷ replicate 6 0)) (preset_of 1 0 2 1 ∷ preset_of 2 1 1 2 ∷ [])

-- one slot, one bridge
abbrev small : List Preset → Head
small ps = with_presets (bare_head 1 1) ps

abbrev cases : List Case
cases =
    -- the listing
    says "(frame 4 2)\n(busy 2 (2 3))\n(preset 1 0 2 1)\n(preset 2 1 1 2)\n(clock 2)\n(call (9 2))\n(call (10 1))\n(call (11 1))\n"
    (accepted listing 4)
    -- a number of any length never wraps
    ∷ says "(frame 18446744073709551618 2)\n" (refused 1 out_of_limits)
    ∷ says "(frame 65 2)\n" (refused 1 out_of_limits)
    ∷ says "(frame 1 0)\n" (refused 1 out_of_limits)
    -- no text; line 1 is not a frame; line 1 has no form
    ∷ says "" (refused 1 out_of_place)
    ∷ says "(clock 0)\n" (refused 1 out_of_place)
    ∷ says "(busy 9 (3 2))\n" (refused 1 out_of_place)
    ∷ says "(preset 0 99 0 0)\n" (refused 1 out_of_place)
    ∷ says "\n" (refused 1 no_form)
    ∷ says "(frame 1 1)\r\n" (refused 1 no_form)
    ∷ says "(frame 1 1)" (refused 1 no_form)
    ∷ says "(frame 01 1)\n" (refused 1 no_form)
    ∷ says "(frame  1 1)\n" (refused 1 no_form)
    ∷ says "(frame 1 1)(frame 1 1)\n" (refused 1 no_form)
    -- the head ends with the text, or before the first line that has an event's form, whatever its values
    ∷ says "(frame 1 1)\n" (accepted (small []) 1)
    ∷ says "(frame 1 1)\n(clock 0)\n" (accepted (small []) 1)
    ∷ says "(frame 1 1)\n(clock 1)" (refused 2 no_form)
    ∷ says "(frame 1 1)\n(call)\n" (refused 2 no_form)
    ∷ says "(frame 1 1)\n(call ())\n" (refused 2 no_form)
    ∷ says "(frame 1 1)\n(call (5 1)(6 1))\n" (refused 2 no_form)
    ∷ says "(frame 1 1)\n(busy 1)\n" (refused 2 no_form)
    -- places: a second frame, a busy line after a preset line, a bridge that does not ascend
    ∷ says "(frame 1 1)\n(frame 99 1)\n" (refused 2 out_of_place)
    ∷ says "(frame 1 1)\n(preset 1 0 0 0)\n(busy 1 (1 1))\n" (refused 3 out_of_place)
    ∷ says "(frame 4 2)\n(busy 2 (1 1))\n(busy 1 (1 1))\n" (refused 3 out_of_place)
    ∷ says "(frame 4 2)\n(busy 2 (1 1))\n(busy 2 (9 9))\n" (refused 3 out_of_place)
    ∷ says "(frame 4 2)\n(busy 2 (1 1))\n(busy 0 (1 1))\n" (refused 3 out_of_place)
    -- values: bridges and stretches outside the frame, stretches that touch, overlap or descend
    ∷ says "(frame 4 2)\n(busy 0 (1 1))\n" (refused 2 out_of_limits)
    ∷ says "(frame 4 2)\n(busy 3 (1 1))\n" (refused 2 out_of_limits)
    ∷ says "(frame 4 2)\n(busy 1 (0 1))\n" (refused 2 out_of_limits)
    ∷ says "(frame 4 2)\n(busy 1 (4 5))\n" (refused 2 out_of_limits)
    ∷ says "(frame 4 2)\n(busy 1 (3 2))\n" (refused 2 out_of_limits)
    ∷ says "(frame 4 2)\n(busy 1 (1 1) (2 3))\n" (refused 2 out_of_limits)
    ∷ says "(frame 4 2)\n(busy 1 (3 4) (1 1))\n" (refused 2 out_of_limits)
    -- presets: the limits; m above S is no fault of the line; a value at fault before a used number
    ∷ says "(frame 1 1)\n(preset 7 9 64 64)\n" (accepted (small (preset_of 7 9 64 64 ∷ [])) 2)
    ∷ says "(frame 1 1)\n(preset 7 10 1 1)\n" (refused 2 out_of_limits)
    ∷ says "(frame 1 1)\n(preset 256 0 1 1)\n" (refused 2 out_of_limits)
    ∷ says "(frame 1 1)\n(preset 0 0 1 1)\n" (refused 2 out_of_limits)
    ∷ says "(frame 1 1)\n(preset 7 0 65 1)\n" (refused 2 out_of_limits)
    ∷ says "(frame 1 1)\n(preset 7 0 1 1)\n(preset 7 0 1 65)\n" (refused 3 out_of_limits)
    ∷ says "(frame 1 1)\n(preset 7 0 1 1)\n(preset 7 0 1 1)\n" (refused 3 number_used)
    -- the first line at fault decides
    ∷ says "(frame 1 1)\n(preset 7 99 1 1)\n(frame 1 1)\n(no\n" (refused 2 out_of_limits)
    ∷ []

-- each text reads as its case says
pub cases_read : map (λ c. head_of (bytes c.text)) cases ≡ map (λ c. c.said) cases
unfolding reads
cases_read = refl

-- the head of the listing writes its own lines
pub listing_written_lem : text_of listing ≡ bytes "(frame 4 2)\n(busy 2 (2 3))\n(preset 1 0 2 1)\n(preset 2 1 1 2)\n"
unfolding writes
listing_written_lem = refl

pub listing_valid : valid listing ≡ true
unfolding valid has_number all_in_limits all_distinct masks_in
listing_valid = refl

-- a frame and n presets, numbered n down to 1
unfoldable pub presets_to : ℕ → List Preset → Head
presets_to zero ps = small ps
presets_to (suc n) ps = presets_to n (preset_of (suc n) 0 1 0 ∷ ps)

pub presets_32 : head_of (text_of (presets_to 32 [])) ≡ accepted (presets_to 32 []) 33
unfolding presets_to writes reads
presets_32 = refl

-- the 33rd preset returns its own line
pub presets_33 : head_of (text_of (presets_to 33 [])) ≡ refused 34 too_many
unfolding presets_to writes reads
presets_33 = refl

-- 2 ^ 64 + 2 as a number, printed and read
pub long_number : digits 18446744073709551618 ≡ bytes "18446744073709551618"
unfolding bytes digits digits_in
long_number = refl

-- 32,769 bytes are too many, whatever they are; 32,768 are read
pub too_long : head_of (replicate 32769 10) ≡ refused 0 text_too_long
unfolding reads
too_long = refl

pub longest : head_of (replicate 32768 10) ≡ refused 1 no_form
unfolding reads
longest = refl

-- ---- held from two sides: the numbers

-- "Number", row by row of the table of causes; and what the code answers goes by the same numbers
pub cause_numbers : (map number_of (no_form ∷ out_of_limits ∷ out_of_place ∷ number_used ∷ mandatory_not_feasible ∷ clock_back ∷ call_not_feasible ∷ too_short
    ∷ too_many ∷ text_too_long ∷ not_well_formed ∷ no_row ∷ []) ≡ 1 ∷ 2 ∷ 3 ∷ 4 ∷ 5 ∷ 6 ∷ 7 ∷ 8 ∷ 9 ∷ 10 ∷ 11 ∷ 12 ∷ [])
    × (map (λ r. number_of (refusal_in r)) (code.NoForm ∷ code.OutOfLimits ∷ code.OutOfPlace ∷ code.NumberUsed ∷ code.MandatoryNotFeasible
    ∷ code.ClockBack ∷ code.CallNotFeasible ∷ code.TooShort ∷ code.TooMany ∷ code.TextTooLong ∷ code.NotWellFormed
    ∷ code.NoRow ∷ []) ≡ 1 ∷ 2 ∷ 3 ∷ 4 ∷ 5 ∷ 6 ∷ 7 ∷ 8 ∷ 9 ∷ 10 ∷ 11 ∷ 12 ∷ [])
cause_numbers = (refl, refl)

-- ---- the limits of the lines of a head, accepted at the edge and refused one past it; the causes of a line two at a time

-- so many slots and bridges, nothing busy, no presets; 4 slots and 2 bridges, some slots of bridge 1 busy
abbrev bare : ℕ → ℕ → Head
bare s b = record { slots = s; bridges = b; supply = 0; hold = false; busy = replicate 8 0; presets = [] }

abbrev busy_on : ℕ → ℕ → Head
busy_on m n = record { slots = 4; bridges = 2; supply = 0; hold = false; busy = m ∷ n ∷ replicate 6 0; presets = [] }

abbrev edges : List Case
edges =
    -- S from 1 to 64, B from 1 to 8
    says "(frame 0 1)\n" (refused 1 out_of_limits)
    ∷ says "(frame 1 1)\n" (accepted (bare 1 1) 1)
    ∷ says "(frame 64 8)\n" (accepted (bare 64 8) 1)
    ∷ says "(frame 65 8)\n" (refused 1 out_of_limits)
    ∷ says "(frame 64 9)\n" (refused 1 out_of_limits)
    ∷ says "(frame 1 0)\n" (refused 1 out_of_limits)
    -- b from 1 to B; f and t from 1 to S; f ≤ t; the next f at least 2 above t
    ∷ says "(frame 4 2)\n(busy 0 (1 1))\n" (refused 2 out_of_limits)
    ∷ says "(frame 4 2)\n(busy 1 (1 1))\n(busy 2 (4 4))\n" (accepted (busy_on 1 8) 3)
    ∷ says "(frame 4 2)\n(busy 3 (1 1))\n" (refused 2 out_of_limits)
    ∷ says "(frame 4 2)\n(busy 1 (0 4))\n" (refused 2 out_of_limits)
    ∷ says "(frame 4 2)\n(busy 1 (1 4))\n" (accepted (busy_on 15 0) 2)
    ∷ says "(frame 4 2)\n(busy 1 (1 5))\n" (refused 2 out_of_limits)
    ∷ says "(frame 4 2)\n(busy 1 (2 1))\n" (refused 2 out_of_limits)
    ∷ says "(frame 4 2)\n(busy 1 (1 2) (3 4))\n" (refused 2 out_of_limits)
    ∷ says "(frame 4 2)\n(busy 1 (1 2) (4 4))\n" (accepted (busy_on 11 0) 2)
    -- a preset's number from 1 to 255, its priority from 0 to 9, m and o from 0 to 64
    ∷ says "(frame 1 1)\n(preset 0 0 0 0)\n" (refused 2 out_of_limits)
    ∷ says "(frame 1 1)\n(preset 1 0 0 0)\n(preset 255 9 64 64)\n" (accepted (small (preset_of 1 0 0 0 ∷ preset_of 255 9 64 64 ∷ [])) 3)
    ∷ says "(frame 1 1)\n(preset 256 9 64 64)\n" (refused 2 out_of_limits)
    ∷ says "(frame 1 1)\n(preset 255 10 64 64)\n" (refused 2 out_of_limits)
    ∷ says "(frame 1 1)\n(preset 255 9 65 64)\n" (refused 2 out_of_limits)
    ∷ says "(frame 1 1)\n(preset 255 9 64 65)\n" (refused 2 out_of_limits)
    -- 1 before 3: a line without a form where its form would be out of place
    ∷ says "(busy 1)\n" (refused 1 no_form)
    ∷ says "(frame 1 1)\n(frame 1)\n" (refused 2 no_form)
    ∷ says "(frame 1 1)\n(preset 1 0 0 0)\n(busy 1)\n" (refused 3 no_form)
    -- 3 before 2: a form out of its place with a value outside its limits
    ∷ says "(preset 0 0 0 0)\n" (refused 1 out_of_place)
    ∷ says "(frame 1 1)\n(frame 0 0)\n" (refused 2 out_of_place)
    ∷ says "(frame 1 1)\n(preset 1 0 0 0)\n(busy 9 (3 2))\n" (refused 3 out_of_place)
    -- 2 before 4
    ∷ says "(frame 1 1)\n(preset 7 0 0 0)\n(preset 7 10 0 0)\n" (refused 3 out_of_limits)
    ∷ []

pub edges_read : map (λ c. head_of (bytes c.text)) edges ≡ map (λ c. c.said) edges
unfolding reads
edges_read = refl

-- ---- the tie line: directly after the frame line one of the head, anywhere else an event's form, on line 1 out of its place

-- one slot and one bridge with `(tie hold)`; the same head with its one cell busy
abbrev holding : Head
holding = with_tie (bare_head 1 1) true

abbrev taken : Head → Head
taken h = with_busy h (1 ∷ replicate 7 0)

abbrev ties : List Case
ties =
    -- directly after the frame line: hold is the head's, place out of its place
    says "(frame 1 1)\n(tie hold)\n" (accepted holding 2)
    ∷ says "(frame 1 1)\n(tie place)\n" (refused 2 out_of_place)
    -- after the head's tie line, a busy line or a preset line it ends the head
    ∷ says "(frame 1 1)\n(tie hold)\n(tie hold)\n" (accepted holding 2)
    ∷ says "(frame 1 1)\n(tie hold)\n(tie place)\n" (accepted holding 2)
    ∷ says "(frame 1 1)\n(busy 1 (1 1))\n(tie hold)\n" (accepted (taken (small [])) 2)
    ∷ says "(frame 1 1)\n(busy 1 (1 1))\n(tie place)\n" (accepted (taken (small [])) 2)
    ∷ says "(frame 1 1)\n(preset 1 0 0 0)\n(tie place)\n(preset 2 0 0 0)\n" (accepted (small (preset_of 1 0 0 0 ∷ [])) 2)
    -- after an event no line is the head's
    ∷ says "(frame 1 1)\n(clock 1)\n(tie hold)\n" (accepted (small []) 1)
    -- line 1
    ∷ says "(tie hold)\n" (refused 1 out_of_place)
    ∷ says "(tie place)\n" (refused 1 out_of_place)
    -- lines of the head after its tie line: a bridge below 1 is outside its limits there too, and the first bridge is in its place
    ∷ says "(frame 1 1)\n(tie hold)\n(busy 0 (1 1))\n" (refused 3 out_of_limits)
    ∷ says "(frame 1 1)\n(tie hold)\n(busy 1 (1 1))\n" (accepted (taken holding) 3)
    ∷ says "(frame 1 1)\n(tie hold)\n(preset 1 0 0 0)\n" (accepted (with_presets holding (preset_of 1 0 0 0 ∷ [])) 3)
    ∷ says "(frame 1 1)\n(tie hold)\n(frame 1 1)\n" (refused 3 out_of_place)
    -- one text only
    ∷ says "(frame 1 1)\n(tie Hold)\n" (refused 2 no_form)
    ∷ says "(frame 1 1)\n(tie hold) \n" (refused 2 no_form)
    ∷ says "(frame 1 1)\n(tie  hold)\n" (refused 2 no_form)
    ∷ says "(frame 1 1)\n(tie holds)\n" (refused 2 no_form)
    ∷ says "(frame 1 1)\n(tie)\n" (refused 2 no_form)
    ∷ says "(frame 1 1)\n(tie hold)" (refused 2 no_form)
    ∷ says "(frame 1 1)\n(tie place)" (refused 2 no_form)
    ∷ []

pub ties_read : map (λ c. head_of (bytes c.text)) ties ≡ map (λ c. c.said) ties
unfolding reads
ties_read = refl

-- the head's tie line is written where there is one, directly after the frame line
pub ties_written : map text_of (holding ∷ small [] ∷ taken holding ∷ [])
    ≡ map bytes ("(frame 1 1)\n(tie hold)\n" ∷ "(frame 1 1)\n" ∷ "(frame 1 1)\n(tie hold)\n(busy 1 (1 1))\n" ∷ [])
unfolding writes
ties_written = refl

-- ---- the supply line: directly after the frame line only

-- one slot and one bridge, with this supply line, none where k is 0, and `(tie hold)` or no tie line
abbrev fed : ℕ → Bool → Head
fed k hold = record { slots = 1; bridges = 1; supply = k; hold = hold; busy = replicate 8 0; presets = [] }

abbrev supplies : List Case
supplies =
    -- k from 1 to 8, which may be above B; without the line there is none; a number of any length never wraps
    says "(frame 1 1)\n(supply 0)\n" (refused 2 out_of_limits)
    ∷ says "(frame 1 1)\n(supply 1)\n" (accepted (fed 1 false) 2)
    ∷ says "(frame 1 1)\n(supply 8)\n" (accepted (fed 8 false) 2)
    ∷ says "(frame 1 1)\n(supply 9)\n" (refused 2 out_of_limits)
    ∷ says "(frame 1 1)\n" (accepted (fed 0 false) 1)
    ∷ says "(frame 1 1)\n(supply 18446744073709551617)\n" (refused 2 out_of_limits)
    -- the head's tie line stands right after it, where place is out of its place, and not before it; a later one ends the head
    ∷ says "(frame 1 1)\n(supply 3)\n(tie hold)\n" (accepted (fed 3 true) 3)
    ∷ says "(frame 1 1)\n(supply 3)\n(tie place)\n" (refused 3 out_of_place)
    ∷ says "(frame 1 1)\n(tie hold)\n(supply 3)\n" (refused 3 out_of_place)
    ∷ says "(frame 1 1)\n(supply 3)\n(tie hold)\n(tie place)\n" (accepted (fed 3 true) 3)
    ∷ says "(frame 1 1)\n(supply 3)\n(busy 1 (1 1))\n(tie hold)\n" (accepted (taken (fed 3 false)) 3)
    -- twice, after the tie line, after a busy line, after a preset line, on line 1: 3, before 2
    ∷ says "(frame 1 1)\n(supply 3)\n(supply 3)\n" (refused 3 out_of_place)
    ∷ says "(frame 1 1)\n(supply 3)\n(supply 99)\n" (refused 3 out_of_place)
    ∷ says "(frame 1 1)\n(tie hold)\n(supply 99)\n" (refused 3 out_of_place)
    ∷ says "(frame 1 1)\n(supply 3)\n(tie hold)\n(supply 99)\n" (refused 4 out_of_place)
    ∷ says "(frame 1 1)\n(busy 1 (1 1))\n(supply 3)\n" (refused 3 out_of_place)
    ∷ says "(frame 1 1)\n(busy 1 (1 1))\n(supply 99)\n" (refused 3 out_of_place)
    ∷ says "(frame 1 1)\n(preset 1 0 0 0)\n(supply 3)\n" (refused 3 out_of_place)
    ∷ says "(frame 1 1)\n(preset 1 0 0 0)\n(supply 99)\n" (refused 3 out_of_place)
    ∷ says "(supply 3)\n(frame 1 1)\n" (refused 1 out_of_place)
    ∷ says "(supply 99)\n" (refused 1 out_of_place)
    -- after an event no line is the head's
    ∷ says "(frame 1 1)\n(clock 1)\n(supply 3)\n" (accepted (fed 0 false) 1)
    -- the lines after it: a bridge below 1 is outside its limits there too, and the first bridge is in its place
    ∷ says "(frame 1 1)\n(supply 3)\n(busy 0 (1 1))\n" (refused 3 out_of_limits)
    ∷ says "(frame 1 1)\n(supply 3)\n(busy 1 (1 1))\n" (accepted (taken (fed 3 false)) 3)
    ∷ says "(frame 1 1)\n(supply 3)\n(preset 1 0 0 0)\n" (accepted (with_presets (fed 3 false) (preset_of 1 0 0 0 ∷ [])) 3)
    ∷ says "(frame 1 1)\n(supply 3)\n(tie hold)\n(busy 1 (1 1))\n(preset 1 0 0 0)\n" (accepted (with_presets (taken (fed 3 true)) (preset_of 1 0 0 0 ∷ [])) 5)
    ∷ says "(frame 1 1)\n(supply 3)\n(frame 1 1)\n" (refused 3 out_of_place)
    ∷ says "(frame 1 1)\n(supply 3)\n(clock 1)\n" (accepted (fed 3 false) 2)
    -- one text only, and 1 before 3
    ∷ says "(frame 1 1)\n(supply 03)\n" (refused 2 no_form)
    ∷ says "(frame 1 1)\n(supply)\n" (refused 2 no_form)
    ∷ says "(frame 1 1)\n(supply )\n" (refused 2 no_form)
    ∷ says "(frame 1 1)\n(supply  3)\n" (refused 2 no_form)
    ∷ says "(frame 1 1)\n(supply 3 4)\n" (refused 2 no_form)
    ∷ says "(frame 1 1)\n(supply 3) \n" (refused 2 no_form)
    ∷ says "(frame 1 1)\n(Supply 3)\n" (refused 2 no_form)
    ∷ says "(frame 1 1)\n(supply 3)" (refused 2 no_form)
    ∷ says "(frame 1 1)\n(preset 1 0 0 0)\n(supply 03)\n" (refused 3 no_form)
    ∷ []

pub supplies_read : map (λ c. head_of (bytes c.text)) supplies ≡ map (λ c. c.said) supplies
unfolding reads
supplies_read = refl

-- the supply line is written where there is one, directly after the frame line and before the tie line; and what is written is read again to the same head
pub supplies_written : (map text_of (fed 0 false ∷ fed 1 false ∷ fed 8 false ∷ fed 3 true ∷ taken (fed 3 true) ∷ [])
    ≡ map bytes ("(frame 1 1)\n" ∷ "(frame 1 1)\n(supply 1)\n" ∷ "(frame 1 1)\n(supply 8)\n" ∷ "(frame 1 1)\n(supply 3)\n(tie hold)\n"
    ∷ "(frame 1 1)\n(supply 3)\n(tie hold)\n(busy 1 (1 1))\n" ∷ []))
    × (map (λ h. head_of (text_of h)) (fed 0 false ∷ fed 1 false ∷ fed 8 false ∷ fed 3 true ∷ taken (fed 3 true) ∷ [])
    ≡ accepted (fed 0 false) 1 ∷ accepted (fed 1 false) 2 ∷ accepted (fed 8 false) 2 ∷ accepted (fed 3 true) 3 ∷ accepted (taken (fed 3 true)) 4 ∷ [])
unfolding writes reads
supplies_written = (refl, refl)

-- 4 and 2 before 9: the 33rd preset has a number already used, or a value outside its limits
pub used_before_33 : head_of (text_of (presets_to 32 []) ++ bytes "(preset 32 0 0 0)\n") ≡ refused 34 number_used
unfolding presets_to writes reads
used_before_33 = refl

pub outside_before_33 : head_of (text_of (presets_to 32 []) ++ bytes "(preset 33 10 0 0)\n") ≡ refused 34 out_of_limits
unfolding presets_to writes reads
outside_before_33 = refl

-- ---- "a head record that no text yields"

abbrev records : List (Head × Bool)
records =
    (bare 0 1, false) ∷ (bare 1 0, false) ∷ (bare 1 1, true) ∷ (bare 64 8, true) ∷ (bare 65 8, false) ∷ (bare 64 9, false)
    -- a busy cell past the last slot, and one past the last bridge
    ∷ (busy_on 15 15, true)
    ∷ (busy_on 16 0, false)
    ∷ (record { slots = 4; bridges = 2; supply = 0; hold = false; busy = 0 ∷ 0 ∷ 1 ∷ replicate 5 0; presets = [] }, false)
    -- a preset's values, and a number twice
    ∷ (small (preset_of 1 0 0 0 ∷ preset_of 255 9 64 64 ∷ []), true)
    ∷ (small (preset_of 0 0 0 0 ∷ []), false)
    ∷ (small (preset_of 256 0 0 0 ∷ []), false)
    ∷ (small (preset_of 1 10 0 0 ∷ []), false)
    ∷ (small (preset_of 1 0 65 0 ∷ []), false)
    ∷ (small (preset_of 1 0 0 65 ∷ []), false)
    ∷ (small (preset_of 1 0 0 0 ∷ preset_of 1 0 0 0 ∷ []), false)
    -- 32 presets, and 33
    ∷ (presets_to 32 [], true)
    ∷ (presets_to 33 [], false)
    -- either order of ties will do, and mends nothing
    ∷ (with_tie (bare 64 8) true, true)
    ∷ (with_tie (bare 65 8) true, false)
    -- a supply line's number, or 0 for none
    ∷ (fed 0 true, true)
    ∷ (fed 1 false, true)
    ∷ (fed 8 false, true)
    ∷ (fed 9 false, false)
    ∷ []

pub edges_valid : map (λ p. valid p.0) records ≡ map (λ p. p.1) records
unfolding presets_to valid has_number all_in_limits all_distinct masks_in
edges_valid = refl

-- a head record of one slot and one bridge that counts so many presets; n preset records, numbered n down to 1
abbrev counting : ℕ → record-of-head.Head
counting n = record { slots = 1; bridges = 1; supply = 0; hold = false; busy = replicate 8 0; count = n }

-- one that counts no presets, with this supply number
abbrev feeding : ℕ → record-of-head.Head
feeding k = record { slots = 1; bridges = 1; supply = k; hold = false; busy = replicate 8 0; count = 0 }

unfoldable pub records_to : ℕ → List record-of-preset.Preset
records_to zero = []
records_to (suc n) = record { number = suc n; priority = 0; mandatory = 0; optional = 0 } ∷ records_to n

pub record_32 : valid_record (counting 32) (records_to 33) ≡ true
unfolding valid has_number all_in_limits all_distinct masks_in records_to
record_32 = refl

pub record_33 : valid_record (counting 33) (records_to 33) ≡ false
unfolding valid has_number all_in_limits all_distinct masks_in records_to
record_33 = refl

-- ---- the entries over a list of records: 10, then 8 for a list below 32 records or an output below 8,192 bytes, then the rest

pub entries_read : (entry_reading 31 (replicate 32769 10) ≡ refused 0 text_too_long)
    × (entry_reading 31 (replicate 32768 10) ≡ refused 0 too_short)
    × (entry_reading 32 (replicate 32768 10) ≡ refused 1 no_form)
    × (entry_reading 31 (bytes "(clock 1)\n") ≡ refused 0 too_short)
    × (entry_reading 32 (bytes "(clock 1)\n") ≡ refused 1 out_of_place)
    × (entry_reading 32 (bytes "(frame 64 8)\n") ≡ accepted (bare 64 8) 1)
unfolding reads
entries_read = (refl, refl, refl, refl, refl, refl)

-- the text of a head with one slot and one bridge has 12 bytes, and its supply line 11; a record that counts 33 presets, or with a supply number of 9, is refused after 8
pub entries_written : (entry_answer 32 (counting 0) [] (replicate 8192 0) ≡ write.written 12)
    × (entry_answer 31 (counting 0) [] (replicate 8192 0) ≡ write.refused 0 too_short)
    × (entry_answer 32 (counting 0) [] (replicate 8191 0) ≡ write.refused 0 too_short)
    × (entry_answer 32 (counting 33) [] (replicate 8192 0) ≡ write.refused 0 out_of_limits)
    × (entry_answer 31 (counting 33) [] (replicate 8192 0) ≡ write.refused 0 too_short)
    × (entry_answer 32 (counting 33) [] (replicate 8191 0) ≡ write.refused 0 too_short)
    × (entry_answer 32 (feeding 8) [] (replicate 8192 0) ≡ write.written 23)
    × (entry_answer 32 (feeding 9) [] (replicate 8192 0) ≡ write.refused 0 out_of_limits)
    × (entry_answer 32 (feeding 9) [] (replicate 8191 0) ≡ write.refused 0 too_short)
unfolding writes valid has_number all_in_limits all_distinct masks_in first_of
entries_written = (refl, refl, refl, refl, refl, refl, refl, refl, refl)

-- ---- preset records copied out of a list, and back

abbrev numbered : ℕ → record-of-preset.Preset
numbered n = record { number = n; priority = 3; mandatory = 5; optional = 2 }

-- zeros after the records of a short list, and none past the 32nd
pub records_loaded : (loaded (numbered 7 ∷ numbered 5 ∷ []) ≡ numbered 7 ∷ numbered 5 ∷ replicate 30 no_record)
    × (loaded (replicate 31 (numbered 7) ++ numbered 5 ∷ numbered 9 ∷ []) ≡ replicate 31 (numbered 7) ++ numbered 5 ∷ [])
records_loaded = (refl, refl)

-- Only the first n go back, in their order, and only as far as the list and the copied have them:
-- none, two, more than a list of three has; and of 40 no more than the 32 that were copied.
pub records_saved : (list : List record-of-preset.Preset) → list ≡ numbered 7 ∷ numbered 5 ∷ numbered 9 ∷ []
    → (copied : List record-of-preset.Preset) → copied ≡ numbered 4 ∷ numbered 1 ∷ numbered 8 ∷ replicate 29 (numbered 2)
    → (saved list copied 0 ≡ list)
    × (saved list copied 2 ≡ numbered 4 ∷ numbered 1 ∷ numbered 9 ∷ [])
    × (saved list copied 4 ≡ numbered 4 ∷ numbered 1 ∷ numbered 8 ∷ [])
    × (saved (replicate 33 (numbered 6)) copied 40 ≡ copied ++ numbered 6 ∷ [])
records_saved list l copied c = rw (l, c) (refl, refl, refl, refl)
