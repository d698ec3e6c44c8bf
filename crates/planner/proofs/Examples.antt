-- The layout of what is lent by worked examples, read and written, and the lengths at both edges. Each is by computing.
--
-- In order: the bytes of two preset records (`records_laid_out`), the grants (`grants_laid_out`); the sixteen numbers of a frame (`frame_laid_out`, `ties_laid_out`); 8 for what is too short, and 10 before it
-- (`lengths_tried`); what is returned of a refusal and of what is accepted (`numbers_returned`); the orders of ties after a text and after an event (`texts_tied`, `events_tied`), the records after a text (`texts_recorded`);
-- the supply (`texts_supplied`, `frames_supplied`), the clock (`frames_clocked`);
-- rows read into a frame (`rows_tried`), and the causes of writing them (`write_tried`).
-- Assumes nothing.
use Prim.Native.Nat.{ℕ}
use Prim.Native.String.{String}
use mathlib.Core.Path.{◌≡◌, refl}
use mathlib.Core.Bool.{true, false}
use mathlib.Core.Option.{none, some}
use mathlib.Core.List.{List, [], ◌∷◌, ◌++◌, map}
use lib.ListN.{take, replicate}
use Rattle.laws.specs.Lists.{tabulate}
use Rattle.station.specs.Refusal.{no_form, too_short, out_of_limits, mandatory_not_feasible, clock_back, call_not_feasible, text_too_long, not_well_formed, no_row, first_of}
use Rattle.station.specs.WriteHead as writing
use Rattle.station.specs.Reading.{accepted, refused}
use Rattle.station.specs.Head.{bare_head, valid, masks_in, all_in_limits, all_distinct, has_number}
use Rattle.station.specs.Text.{bytes, lines}
use Rattle.station.specs.Decimal.{plain, digit_count, value_from}
use Rattle.station.specs.Form.{starts, word, number, jobs_of}
use Rattle.station.specs.Row.{field_in, row_of, with_row}
use Rattle.station.specs.ReadRows.{read_rows_from, read_rows}
use Rattle.station.specs.Types.{with_hold}
use Rattle.station.specs.declared.types.Head.{Head}
use Rattle.station.specs.declared.types.Preset.{Preset}
use Rattle.station.proofs.Examples.{reads}
use Rattle.placing.specs.Outcomes.{cost, PlanAnswer}
use Rattle.placing.specs.Types.{filled}
use Rattle.placing.specs.PlanDone.{plan_meant}
use Rattle.placing.proofs.Examples.{plans, calls}
use Rattle.frame.specs.Event as event
use Rattle.frame.specs.Event.{own_causes, carried_out, comes_to, run_of}
use Rattle.frame.specs.EventDone.{event_meant}
use Rattle.frame.specs.Text.{not_read, whole_with_plan, whole_with_head, whole_of}
use Rattle.frame.specs.TextDone.{whole_with_output, listed, refused_at}
use Rattle.planner.specs.Layout.{first_records, records_in, bytes_of, bytes_over, head_tie, tie_in_force, head_of_numbers, clock_of_numbers, hold_of_numbers, head_over, tie_over, numbers_over, clock_over, started, masks_over}
use Rattle.planner.specs.Exports.{frame_after, records_after, grants_after, end_returned, answer_returned, plan_returned, written_returned, rows_returned, text_on, event_on, plan_on, rows_on, rows_frame, rows_write_causes}

-- preset 7 of priority 3 with 5 mandatory and 9 optional slots, and preset 255 of priority 9 with 64 and 0
abbrev two : List Preset
two = record { number = 7; priority = 3; mandatory = 5; optional = 9 } ∷ record { number = 255; priority = 9; mandatory = 64; optional = 0 } ∷ []

abbrev eight : List ℕ
eight = 7 ∷ 3 ∷ 5 ∷ 9 ∷ 255 ∷ 9 ∷ 64 ∷ 0 ∷ []

pub records_laid_out : (bytes_of two ≡ eight) × (take 2 (records_in eight) ≡ two) × (bytes_over two (replicate 10 1) ≡ eight ++ (1 ∷ 1 ∷ []))
unfolding bytes_of first_records
records_laid_out = (refl, refl, refl)

-- the grants, and 0 past the last preset up to 32; a refusal leaves what stood there
pub grants_laid_out : (grants_after (PlanAnswer.granted (1 ∷ 2 ∷ [])) (replicate 33 7) ≡ 1 ∷ 2 ∷ replicate 30 0 ++ (7 ∷ []))
    × (grants_after (PlanAnswer.refused 0 too_short) (replicate 33 7) ≡ replicate 33 7)
unfolding grants_after filled
grants_laid_out = (refl, refl)

-- 4 slots, 2 bridges, a supply of 3, the second bridge busy in slots 2 and 3, and 2 presets
abbrev head : Head
head = record { slots = 4; bridges = 2; supply = 3; hold = false; busy = 0 ∷ 6 ∷ replicate 6 0; count = 2 }

-- with the clock 3: twelve numbers
abbrev twelve : List ℕ
twelve = 4 ∷ 2 ∷ 2 ∷ 3 ∷ 0 ∷ 6 ∷ replicate 6 0

-- and these at 12 to 15: the supply; of the orders of ties at 13 and 14, 0 is place and 1 and 7 are hold; 9 stands in the reserved place
abbrev ending : ℕ → ℕ → List ℕ
ending tie force = twelve ++ (3 ∷ tie ∷ force ∷ 9 ∷ [])

pub frame_laid_out : (head_of_numbers (ending 0 7) ≡ head)
    × (head_of_numbers (ending 1 0) ≡ with_hold head true)
    × (head_of_numbers (ending 7 0) ≡ with_hold head true)
    × (map (λ (n : ℕ). hold_of_numbers (ending 0 n)) (0 ∷ 1 ∷ 7 ∷ []) ≡ false ∷ true ∷ true ∷ [])
    × (clock_of_numbers (ending 0 7) ≡ 3)
    × (head_over head 3 (replicate 17 9) ≡ twelve ++ (3 ∷ replicate 4 9))
    × (numbers_over head 3 true (replicate 17 9) ≡ twelve ++ (3 ∷ 0 ∷ 1 ∷ 0 ∷ 9 ∷ []))
    × (numbers_over (with_hold head true) 3 false (replicate 17 9) ≡ twelve ++ (3 ∷ 1 ∷ 0 ∷ 0 ∷ 9 ∷ []))
    × (clock_over 5 (twelve ++ replicate 4 9) ≡ 4 ∷ 2 ∷ 2 ∷ 5 ∷ 0 ∷ 6 ∷ replicate 6 0 ++ replicate 4 9)
    × (masks_over (replicate 8 7) (twelve ++ replicate 5 9) ≡ 4 ∷ 2 ∷ 2 ∷ 3 ∷ replicate 8 7 ++ replicate 5 9)
unfolding tabulate
frame_laid_out = (refl, refl, refl, refl, refl, refl, refl, refl, refl, refl)

-- an order of ties alone: a number that says it stays, another becomes 0 or 1, and past the end nothing is written
pub ties_laid_out : (tie_over tie_in_force true (ending 0 7) ≡ ending 0 7)
    × (tie_over tie_in_force false (ending 0 7) ≡ ending 0 0)
    × (tie_over head_tie true (ending 0 7) ≡ ending 1 7)
    × (tie_over head_tie false (ending 0 7) ≡ ending 0 7)
    × (tie_over head_tie true twelve ≡ twelve)
    -- the start's: the first clock, and in force the very number that the head has
    × (started (ending 7 0) ≡ clock_over 0 (ending 7 7))
ties_laid_out = (refl, refl, refl, refl, refl, refl)

-- one slot, one bridge, no preset, with the clock 4, which 11 refuses
abbrev late : List ℕ
late = 1 ∷ 1 ∷ 0 ∷ 4 ∷ replicate 12 0

pub lengths_tried : ((event_on (take 15 late) (replicate 128 0) (replicate 512 0) []).answer ≡ event.refused 0 too_short)
    × ((event_on late (replicate 127 0) (replicate 512 0) []).answer ≡ event.refused 0 too_short)
    × ((plan_on (take 15 late) (replicate 128 0) (replicate 512 0) (replicate 32 0)).answer ≡ PlanAnswer.refused 0 too_short)
    × ((plan_on late (replicate 127 0) (replicate 512 0) (replicate 32 0)).answer ≡ PlanAnswer.refused 0 too_short)
    × ((plan_on late (replicate 128 0) (replicate 512 0) (replicate 31 0)).answer ≡ PlanAnswer.refused 0 too_short)
    × (text_on (replicate 32769 10) [] [] [] [] ≡ not_read 0 text_too_long)
    × (text_on [] (take 15 late) (replicate 128 0) (replicate 512 0) (replicate 8192 0) ≡ not_read 0 too_short)
    × (text_on [] late (replicate 127 0) (replicate 512 0) (replicate 8192 0) ≡ not_read 0 too_short)
unfolding event_on plan_on text_on first_of
lengths_tried = (refl, refl, refl, refl, refl, refl, refl, refl)

-- number 11 with line 0 of an event, number 10 with line 0 of a text and 7 bytes of a listing; 0 with the clock 3, with either order of ties and with 2 cells evicted; 12 with row 3,
-- and 0 with 5 rows
pub numbers_returned : (answer_returned (event.refused 0 not_well_formed) ≡ record { number = 11; values = 0 ∷ [] })
    × (end_returned (refused_at 5 text_too_long) ≡ record { number = 10; values = 5 ∷ [] })
    × (end_returned (listed 7) ≡ record { number = 0; values = 7 ∷ [] })
    × (answer_returned (event.clock_now 3) ≡ record { number = 0; values = 3 ∷ [] })
    × (answer_returned (event.tie_now false) ≡ record { number = 0; values = 0 ∷ [] })
    × (answer_returned (event.tie_now true) ≡ record { number = 0; values = 1 ∷ [] })
    × (answer_returned (event.taken (cost 2)) ≡ record { number = 0; values = 2 ∷ [] })
    × (plan_returned (PlanAnswer.granted (1 ∷ 2 ∷ [])) ≡ record { number = 0; values = 1 ∷ 2 ∷ [] })
    × (written_returned (writing.refused 0 too_short) ≡ record { number = 8; values = 0 ∷ [] })
    × (rows_returned (refused 3 no_row) ≡ record { number = 12; values = 3 ∷ [] })
    × (rows_returned (accepted (bare_head 4 2) 5) ≡ record { number = 0; values = 5 ∷ [] })
numbers_returned = (refl, refl, refl, refl, refl, refl, refl, refl, refl, refl, refl)

-- ---- ties: one slot and one bridge

-- a frame with the first clock, this supply at 12 and these orders at 13 and 14, and 0 in the reserved place; and one without a supply
abbrev fed : ℕ → ℕ → ℕ → List ℕ
fed k tie force = 1 ∷ 1 ∷ 0 ∷ 0 ∷ replicate 8 0 ++ (k ∷ tie ∷ force ∷ 0 ∷ [])

abbrev tied : ℕ → ℕ → List ℕ
tied = fed 0

-- what a text comes to beside a frame of sevens, and what it leaves of these
abbrev sevens : List ℕ
sevens = replicate 16 7

abbrev runs : String → List ℕ
runs text = frame_after (text_on (bytes text) sevens (replicate 128 0) (replicate 512 0) (replicate 8192 0)) sevens

-- A text that ran leaves both orders, as 0 or 1, and 0 at 15; one refused by 5 leaves the head's supply at 12, its order at 13 and the others as they were, one refused otherwise all.
pub texts_tied : (runs "(frame 1 1)\n" ≡ tied 0 0)
    × (runs "(frame 1 1)\n(tie hold)\n" ≡ tied 1 1)
    × (runs "(frame 1 1)\n(tie hold)\n(tie place)\n" ≡ tied 1 0)
    × (runs "(frame 1 1)\n(preset 1 1 2 0)\n" ≡ 1 ∷ 1 ∷ 1 ∷ 7 ∷ replicate 8 0 ++ (0 ∷ 0 ∷ 7 ∷ 7 ∷ []))
    × (runs "(frame 1 1)\n(tie hold)\n(preset 1 1 2 0)\n" ≡ 1 ∷ 1 ∷ 1 ∷ 7 ∷ replicate 8 0 ++ (0 ∷ replicate 3 7))
    × (runs "(frame 1 1)\n(tie place)\n" ≡ sevens)
unfolding reads plans calls jobs_of own_causes carried_out comes_to run_of whole_with_plan whole_with_head whole_of whole_with_output text_on frame_after
texts_tied = (refl, refl, refl, refl, refl, refl)

-- The records of a text that 5 refuses are those read, the others those handed in; any other refusal leaves all.
abbrev keeps : String → List ℕ
keeps text = take 9 (records_after (text_on (bytes text) sevens (replicate 128 7) (replicate 512 0) (replicate 8192 0)) (replicate 128 7))

pub texts_recorded : (keeps "(frame 1 1)\n(preset 20 3 2 9)\n(preset 10 8 0 1)\n" ≡ 20 ∷ 3 ∷ 2 ∷ 9 ∷ 10 ∷ 8 ∷ 0 ∷ 1 ∷ 7 ∷ [])
    × (keeps "(frame 1 1)\n(preset 20 3 2 65)\n" ≡ replicate 9 7)
unfolding reads plans calls jobs_of own_causes carried_out comes_to run_of whole_with_plan whole_with_head whole_of whole_with_output text_on records_after bytes_of
texts_recorded = (refl, refl)

-- The supply at 12: that of a text that ran, above B too, and of one refused by 5; 0 where it has none, whatever stood there.
pub texts_supplied : (runs "(frame 1 1)\n(supply 3)\n" ≡ fed 3 0 0)
    × (runs "(frame 1 1)\n(supply 8)\n(tie hold)\n" ≡ fed 8 1 1)
    × (runs "(frame 1 2)\n(supply 1)\n(preset 1 1 1 0)\n(preset 2 1 1 0)\n" ≡ 1 ∷ 2 ∷ 2 ∷ 7 ∷ replicate 8 0 ++ (1 ∷ 0 ∷ 7 ∷ 7 ∷ []))
    × (runs "(frame 1 1)\n(supply 9)\n" ≡ sevens)
unfolding reads plans calls jobs_of own_causes carried_out comes_to run_of whole_with_plan whole_with_head whole_of whole_with_output text_on frame_after
texts_supplied = (refl, refl, refl, refl)

-- It is read there: under a supply of 1 two cells of a slot of two bridges are above the cap, under 2 they are not; 9 is one that no text yields, and is tried before the table. A plan obeys it.
abbrev two_bridges : ℕ → List ℕ
two_bridges k = 1 ∷ 2 ∷ 0 ∷ 1 ∷ replicate 8 0 ++ (k ∷ 0 ∷ 0 ∷ 0 ∷ [])

pub frames_supplied : (map (λ k. (event_on (two_bridges k) (replicate 128 0) (1025 ∷ 1026 ∷ replicate 510 0) (bytes "(clock 2)\n")).answer) (0 ∷ 1 ∷ 2 ∷ 8 ∷ 9 ∷ [])
    ≡ event.clock_now 2 ∷ event.refused 0 not_well_formed ∷ event.clock_now 2 ∷ event.clock_now 2 ∷ event.refused 0 out_of_limits ∷ [])
    × (map (λ k. (plan_on (1 ∷ 2 ∷ 2 ∷ 1 ∷ replicate 8 0 ++ (k ∷ 0 ∷ 0 ∷ 0 ∷ [])) (1 ∷ 0 ∷ 1 ∷ 0 ∷ 2 ∷ 0 ∷ 1 ∷ 0 ∷ replicate 120 0) (replicate 512 0) (replicate 32 0)).answer) (0 ∷ 1 ∷ 2 ∷ 9 ∷ [])
    ≡ PlanAnswer.granted (0 ∷ 0 ∷ []) ∷ PlanAnswer.refused 0 mandatory_not_feasible ∷ PlanAnswer.granted (0 ∷ 0 ∷ []) ∷ PlanAnswer.refused 0 out_of_limits ∷ [])
unfolding reads plans calls jobs_of own_causes carried_out comes_to event_meant event_on plan_meant plan_on first_records
frames_supplied = (refl, refl)

-- The clock at 3: 0 to S + 1 pass, here to 2, and 3 is 11; at 0 a call has the slot, from 1 on it has none.
abbrev at_clock : String → ℕ → event.Answer
at_clock l clock = (event_on (clock_over clock (tied 0 0)) (replicate 128 0) (replicate 512 0) (bytes l)).answer

pub frames_clocked : (map (at_clock "(clock 2)\n") (0 ∷ 1 ∷ 2 ∷ 3 ∷ []) ≡ event.clock_now 2 ∷ event.clock_now 2 ∷ event.clock_now 2 ∷ event.refused 0 not_well_formed ∷ [])
    × (map (at_clock "(call (5 1))\n") (0 ∷ 1 ∷ 2 ∷ []) ≡ event.taken (cost 0) ∷ event.refused 0 call_not_feasible ∷ event.refused 0 call_not_feasible ∷ [])
    × (map (at_clock "(clock 0)\n") (0 ∷ 1 ∷ []) ≡ event.clock_now 0 ∷ event.refused 0 clock_back ∷ [])
unfolding reads plans calls jobs_of own_causes carried_out comes_to event_meant event_on first_records
frames_clocked = (refl, refl, refl)

-- an event line on it, and the frame afterwards
abbrev meets : String → ℕ → ℕ → event.Outcome
meets l tie force = event_on (tied tie force) (replicate 128 0) (replicate 512 0) (bytes l)

abbrev leaves : String → ℕ → ℕ → List ℕ
leaves l tie force = let o = meets l tie force in tie_over tie_in_force o.after.hold (clock_over o.after.clock (tied tie force))

-- A tie is answered and stands at 14, where a number that says it already stays, and the head's is as it was; a refused event changes nothing.
pub events_tied : ((meets "(tie place)\n" 1 1).answer ≡ event.tie_now false)
    × (leaves "(tie place)\n" 1 1 ≡ tied 1 0)
    × ((meets "(tie hold)\n" 1 0).answer ≡ event.tie_now true)
    × (leaves "(tie hold)\n" 1 0 ≡ tied 1 1)
    × (leaves "(tie hold)\n" 7 7 ≡ tied 7 7)
    × ((meets "(tie)\n" 1 7).answer ≡ event.refused 0 no_form)
    × (leaves "(tie)\n" 1 7 ≡ tied 1 7)
unfolding reads plans calls jobs_of own_causes carried_out comes_to event_meant event_on first_records
events_tied = (refl, refl, refl, refl, refl, refl, refl)

abbrev frame : List ℕ
frame = twelve ++ (8 ∷ replicate 4 9)

abbrev records : List ℕ
records = eight ++ replicate 120 0

-- The rows of bridge 1, which touch, in place of bridge 2's busy slots: the masks at 4 to 11 are theirs, and every other number is as it was. The row at fault; at row 0 a head that no
-- text yields, before any row; 8 before it, and 10 before that.
pub rows_tried : (rows_frame (rows_on (bytes "1,3,3\r\n\"1\",1,2\r\n") frame records) frame ≡ 4 ∷ 2 ∷ 2 ∷ 3 ∷ 7 ∷ replicate 7 0 ++ (8 ∷ replicate 4 9))
    × (rows_on (bytes "1,3,3\r\n9,9\r\n3,1,1\r\n") frame records ≡ refused 2 no_row)
    × (rows_on (bytes "1,3,3\r\n3,1,1\r\n9,9\r\n") frame records ≡ refused 2 out_of_limits)
    × (rows_on (bytes "9,9\r\n") (replicate 16 0) records ≡ refused 0 out_of_limits)
    × (rows_on [] (replicate 15 0) records ≡ refused 0 too_short)
    × (rows_on [] (replicate 16 0) (replicate 127 0) ≡ refused 0 too_short)
    × (rows_on (replicate 32769 10) [] [] ≡ refused 0 text_too_long)
unfolding bytes plain digit_count value_from starts word number field_in row_of lines with_row read_rows_from read_rows valid masks_in all_in_limits all_distinct has_number tabulate first_records first_of rows_on rows_frame
rows_tried = (refl, refl, refl, refl, refl, refl, refl)

pub write_tried : (first_of (rows_write_causes (replicate 15 0) records (replicate 8192 0)) ≡ some too_short)
    × (first_of (rows_write_causes (replicate 16 0) (replicate 127 0) (replicate 8192 0)) ≡ some too_short)
    × (first_of (rows_write_causes (replicate 16 0) records (replicate 8191 0)) ≡ some too_short)
    × (first_of (rows_write_causes (replicate 16 0) records (replicate 8192 0)) ≡ some out_of_limits)
    × (first_of (rows_write_causes frame records (replicate 8192 0)) ≡ none)
unfolding valid masks_in all_in_limits all_distinct has_number tabulate first_records first_of
write_tried = (refl, refl, refl, refl, refl)
