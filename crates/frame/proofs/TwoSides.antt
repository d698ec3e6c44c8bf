-- What holds the definitions of this layer to document 01 from two sides, each a list of cases and one fact, by computing. (The numbers of the causes, the lines of a head
-- and head records are in the station crate's proofs/Examples.antt, sound tables, plans and calls in the placing crate's.)
--
-- In order: texts: lines after an event, the limits of a clock and of a call at both edges, the causes of a head and of an event two at a time, the order of
-- loss (`texts_list`), the grants (`granted_by_line`); events on a lent table, by the listed order 8, 2, 11, 1, 3, 2, 4, 9, 6, 7 (`events_answered`), and with preset records
-- (`records_answered`); the order of ties that is lent, met and left (`orders_met`, `orders_left`); what a list handed over may start from (`starts_pass`); the moments of a list
-- (`between_ends`); the planner before there were ties and a supply (`before_listed`, `five_met`, `asked_met`), and when a call could use the clock's own slot (`own_slot_listed`, `no_clock_met`, `higher_met`), and document 01's own (`document_listed`); a text beside short lent things (`texts_end`),
-- what it leaves of the head, its records and the output (`records_left`, `outputs_left`), and a text of events (`events_end`, `events_left`); the entries that write lines
-- (`slots_written`, `lines_answered`).
-- Assumes nothing.
use Prim.Native.Nat.{ℕ, zero, suc, ◌≤◌}
use mathlib.Core.Path.{◌≡◌, refl, sym, ap}
use mathlib.Core.Bool.{Bool, true, false}
use mathlib.Core.Option.{Option, none, some}
use mathlib.Core.List.{List, [], ◌∷◌, ◌++◌, map}
use native.Mathlib.Omega.{arith}
use lib.ListN.{length, take, replicate}
use Rattle.std.specs.Prelude.{Ok}
use Rattle.laws.proofs.Tests.{none_some}
use Rattle.station.specs.Head.{Head, Job, with_supply}
use Rattle.station.specs.Refusal.{number_of, no_form, out_of_limits, out_of_place, number_used, clock_back, call_not_feasible, too_short, too_many, text_too_long, not_well_formed}
use Rattle.station.specs.Form.{Form, clock_line, form}
use Rattle.station.specs.Text.{bytes, lines}
use Rattle.station.specs.Wrote.{moved}
use Rattle.station.specs.WriteHead as write
use Rattle.station.specs.declared.types.Head as record-of-head
use Rattle.station.specs.declared.types.Preset as record-of-preset
use Rattle.placing.specs.Table.{call_cell}
use Rattle.placing.proofs.Examples.{job_cells, records_to}
use Rattle.frame.specs.Event.{Event, line, clock, call, Asked, set_clock, set_tie, place_jobs, fault, asked_by_form, asked, Answer, clock_now, tie_now, taken, refused, event_of}
use Rattle.placing.specs.State.{State, state_of}
use Rattle.frame.specs.EventDone.{event_meant}
use Rattle.frame.specs.EventEntry.{event_on_slice}
use Rattle.frame.specs.HandedOver.{LetPass}
use Rattle.frame.specs.Demands.{event_at, Between}
use Rattle.frame.specs.Text.{Whole, not_read, whole_of}
use Rattle.frame.specs.TextDone.{whole_with_output, listed, refused_at, end_of, head_after, presets_after, hold_after, output_after}
use Rattle.frame.specs.TextEntry.{whole_on_slice}
use Rattle.frame.specs.EventsDone.{EventsOutcome, events_meant}
use Rattle.frame.specs.Listing.{listing_of}
use Rattle.placing.specs.Uncapped.{Uncapped, needs_uncapped, grants_uncapped, evicted_uncapped, fits_uncapped}
use Rattle.frame.specs.Before.{read_before, head_before, served_before, left_before, plan_before, carried_before, event_before, whole_before, FiveForms, FiveAsked}
use Rattle.frame.specs.OwnSlot.{last_gone, today, document_one, whole_document_one, own_slot_causes, carried_own_slot, event_own_slot, whole_own_slot, higher_asked, OneHigher, NoClockLine}
use Rattle.frame.specs.Uncapped.{run_by, with_plan_by, with_head_by, whole_by, own_uncapped}
use Rattle.frame.specs.declared.types.Answer.TheVariants as reply
use Rattle.frame.specs.WriteListing.{listing_cause, listing_written, listing_meant}
use Rattle.frame.specs.WroteLine.{line_written, answer_written, grant_written, slot_written}
use Rattle.frame.proofs.Starred.{Case, shows, blank, lists}
use Rattle.placing.specs.Outcomes.{cost}

-- ---- texts

abbrev texts : List Case
texts =
    -- "A head line after an event is out of place", whatever its values: 3 before 2; without its form it is 1, before 3
    shows "(frame 2 1)\n(clock 1)\n(frame 2 1)\n(frame 99 9)\n(busy 1 (1 1))\n(busy 9 (3 2))\n(preset 1 0 0 0)\n(preset 0 99 99 99)\n"
    "(now 1)\n(refused 3 3)\n(refused 4 3)\n(refused 5 3)\n(refused 6 3)\n(refused 7 3)\n(refused 8 3)\n(slot 1 0)\n(slot 2 0)\n"
    ∷ shows "(frame 2 1)\n(call (5 1))\n(frame 2)\n(busy 1)\n(preset 1 0 0)\n(clock)\n(call)\n(clock 01)\n\n(slot 1)\n(preset 1 0 0 0) \n(clock 2)"
    "(taken 0)\n(refused 3 1)\n(refused 4 1)\n(refused 5 1)\n(refused 6 1)\n(refused 7 1)\n(refused 8 1)\n(refused 9 1)\n(refused 10 1)\n(refused 11 1)\n(refused 12 1)\n(slot 1 c5)\n(slot 2 0)\n"
    -- t from 0 to S + 1; a clock below the present one
    ∷ shows "(frame 2 1)\n(clock 0)\n(clock 1)\n(clock 4)\n(clock 3)\n(clock 3)\n(clock 2)\n(clock 0)\n"
    "(now 0)\n(now 1)\n(refused 4 2)\n(now 3)\n(now 3)\n(refused 7 6)\n(refused 8 6)\n(slot 1 0)\n(slot 2 0)\n"
    -- jobs in a call: eight, and a ninth
    ∷ shows "(frame 1 8)\n(call (1 1) (2 1) (3 1) (4 1) (5 1) (6 1) (7 1) (8 1) (9 1))\n(call (1 1) (2 1) (3 1) (4 1) (5 1) (6 1) (7 1) (8 1))\n"
    "(refused 2 2)\n(taken 0)\n(slot 1 c1 c2 c3 c4 c5 c6 c7 c8)\n"
    -- a job's number from 1 to 255; c from 1 to 64, also above S
    ∷ shows "(frame 1 2)\n(call (0 1))\n(call (256 1))\n(call (1 1))\n(call (255 1))\n(call (7 0))\n(call (7 65))\n(call (7 64))\n"
    "(refused 2 2)\n(refused 3 2)\n(taken 0)\n(taken 0)\n(refused 6 2)\n(refused 7 2)\n(refused 8 7)\n(slot 1 c1 c255)\n"
    -- a number used by a preset, by a job, twice in a call; 2 before 4, 4 before 7
    ∷ shows "(frame 1 3)\n(preset 1 0 0 1)\n(call (2 1))\n(call (1 1))\n(call (2 1))\n(call (5 1) (5 1))\n(call (1 65))\n(call (5 1) (5 0))\n(call (2 64))\n"
    "(granted 1 1)\n(taken 0)\n(refused 4 4)\n(refused 5 4)\n(refused 6 4)\n(refused 7 2)\n(refused 8 2)\n(refused 9 4)\n(slot 1 o1 c2 0)\n"
    -- the required slots do not fit, at the last head line; a fault of the head before that
    ∷ shows "(frame 1 1)\n(preset 1 0 2 0)\n(preset 2 0 0 0)\n(clock 1)\n" "(refused 3 5)\n"
    ∷ shows "(frame 1 1)\n(preset 1 0 2 0)\n(preset 1 0 0 0)\n" "(refused 3 4)\n"
    -- "for one preset the latest slot first"
    ∷ shows "(frame 2 1)\n(preset 1 0 0 2)\n(call (5 1))\n" "(granted 1 2)\n(taken 1)\n(slot 1 o1)\n(slot 2 c5)\n"
    -- "worst rank first": of two presets of one priority the later line, though its slot comes first
    ∷ shows "(frame 2 2)\n(busy 2 (2 2))\n(preset 1 0 0 2)\n(preset 2 0 0 1)\n(call (5 1))\n"
    "(granted 1 2)\n(granted 2 1)\n(taken 1)\n(slot 1 o1 c5)\n(slot 2 o1 -)\n"
    ∷ []

pub texts_list : map (λ c. listing_of (whole_of (bytes c.text) blank)) texts ≡ map (λ c. c.listing) texts
unfolding lists
texts_list = refl

-- "Granted: preset number and slots, in file order", and neither by rank nor by number
abbrev by_line : Case
by_line = shows "(frame 1 1)\n(preset 2 9 0 1)\n(preset 1 0 0 1)\n" "(granted 2 0)\n(granted 1 1)\n(slot 1 o1)\n"

pub granted_by_line : listing_of (whole_of (bytes by_line.text) blank) ≡ by_line.listing
unfolding lists
granted_by_line = refl

-- ---- events on a lent table

record EventCase : Type 0 where
  head : Head
  state : State
  event : Event
  said : Answer

abbrev answers : Answer → Head → List ℕ → ℕ → Event → EventCase
answers a h t c e = record { head = h; state = state_of t c false; event = e; said = a }

abbrev lent : List ℕ → List ℕ
lent l = take 512 (l ++ replicate 512 0)

-- a frame with nothing busy and no presets
abbrev bare : ℕ → ℕ → Head
bare s b = record { slots = s; bridges = b; supply = 0; hold = false; busy = replicate 8 0; presets = [] }

abbrev job : ℕ → ℕ → Job
job n c = record { number = n; slots = c }

abbrev events : List EventCase
events =
    -- 8: "lent table below 512 cells", before the head record's 2, before 11, before the line's 1 and 3
    answers (clock_now 1) (bare 1 1) (lent []) 0 (line (bytes "(clock 1)\n"))
    ∷ answers (refused 0 too_short) (bare 1 1) (replicate 511 0) 1 (line (bytes "(clock 1)\n"))
    ∷ answers (refused 0 too_short) (bare 0 1) (replicate 511 0) 1 (line (bytes "(clock 1)\n"))
    ∷ answers (refused 0 too_short) (bare 1 1) (replicate 511 7) 1 (line (bytes "(clock 1)\n"))
    ∷ answers (refused 0 too_short) (bare 1 1) (replicate 511 0) 1 (line [])
    -- the head record's 2, before 11, before the line's 1 and 3
    ∷ answers (refused 0 out_of_limits) (bare 1 9) (lent (7 ∷ [])) 3 (line (bytes "(clock 1)\n"))
    ∷ answers (refused 0 out_of_limits) (bare 65 1) (lent []) 1 (line [])
    ∷ answers (refused 0 out_of_limits) (bare 1 0) (lent []) 1 (line (bytes "(frame 1 1)\n"))
    -- 11: "a table that is not sound, or a clock outside" 0 to S + 1, before 1, 3, 2, 4, 6 and 7
    ∷ answers (refused 0 not_well_formed) (bare 1 1) (lent (7 ∷ [])) 1 (line [])
    ∷ answers (refused 0 not_well_formed) (bare 1 1) (lent []) 3 (line (bytes "(frame 1 1)\n"))
    ∷ answers (refused 0 not_well_formed) (bare 1 1) (lent []) 3 (clock 3)
    ∷ answers (refused 0 not_well_formed) (bare 1 1) (lent []) 3 (clock 1)
    ∷ answers (refused 0 not_well_formed) (bare 1 1) (lent (7 ∷ [])) 1 (call [])
    ∷ answers (refused 0 not_well_formed) (bare 1 1) (lent (7 ∷ [])) 1 (call (job 5 1 ∷ job 5 1 ∷ []))
    ∷ answers (refused 0 not_well_formed) (bare 1 1) (lent []) 3 (call (job 5 1 ∷ []))
    ∷ answers (refused 0 not_well_formed) (bare 13 5) (lent (job_cells 65 0)) 1 (clock 1)
    -- the clock's limits, and those of the lent one; 0 is below 1 (6), and no longer outside
    ∷ answers (clock_now 0) (bare 1 1) (lent []) 0 (clock 0)
    ∷ answers (clock_now 2) (bare 1 1) (lent []) 2 (clock 2)
    ∷ answers (refused 0 out_of_limits) (bare 1 1) (lent []) 2 (clock 3)
    ∷ answers (refused 0 out_of_limits) (bare 1 1) (lent []) 0 (clock 3)
    ∷ answers (refused 0 clock_back) (bare 1 1) (lent []) 2 (clock 1)
    ∷ answers (refused 0 clock_back) (bare 1 1) (lent []) 1 (clock 0)
    -- a tie meets no cause of its own, at any clock; 8, 2 and 11 come before it
    ∷ answers (tie_now true) (bare 1 1) (lent []) 1 (line (bytes "(tie hold)\n"))
    ∷ answers (tie_now false) (bare 1 1) (lent []) 2 (line (bytes "(tie place)\n"))
    ∷ answers (refused 0 too_short) (bare 1 1) (replicate 511 0) 1 (line (bytes "(tie hold)\n"))
    ∷ answers (refused 0 out_of_limits) (bare 1 9) (lent []) 1 (line (bytes "(tie hold)\n"))
    ∷ answers (refused 0 not_well_formed) (bare 1 1) (lent []) 3 (line (bytes "(tie place)\n"))
    ∷ answers (refused 0 no_form) (bare 1 1) (lent []) 1 (line (bytes "(tie hold)"))
    -- a supply line is no event, whatever its k; a supply that no text yields is 2, before 11; a table above the cap is 11, at the cap it passes
    ∷ answers (refused 0 out_of_place) (bare 1 1) (lent []) 1 (line (bytes "(supply 1)\n"))
    ∷ answers (refused 0 out_of_place) (bare 1 1) (lent []) 1 (line (bytes "(supply 99)\n"))
    ∷ answers (refused 0 no_form) (bare 1 1) (lent []) 1 (line (bytes "(supply)\n"))
    ∷ answers (refused 0 out_of_limits) (with_supply (bare 1 1) 9) (lent (7 ∷ [])) 1 (clock 1)
    ∷ answers (refused 0 not_well_formed) (with_supply (bare 1 2) 1) (lent (call_cell 7 ∷ call_cell 8 ∷ [])) 2 (clock 2)
    ∷ answers (clock_now 2) (with_supply (bare 1 2) 2) (lent (call_cell 7 ∷ call_cell 8 ∷ [])) 2 (clock 2)
    -- "no job outside a text"; 2 before 4, 4 before 9, 9 before 7
    ∷ answers (refused 0 out_of_limits) (bare 1 1) (lent []) 1 (call [])
    ∷ answers (refused 0 out_of_limits) (bare 1 1) (lent []) 1 (call (job 5 1 ∷ job 5 65 ∷ []))
    ∷ answers (refused 0 number_used) (bare 8 8) (lent (job_cells 64 0)) 1 (call (job 64 1 ∷ []))
    ∷ answers (refused 0 too_many) (bare 8 8) (lent (job_cells 64 0)) 1 (line (bytes "(call (65 1))\n"))
    ∷ answers (taken (cost 0)) (bare 8 8) (lent (job_cells 63 0)) 1 (line (bytes "(call (64 1))\n"))
    -- a slot above the clock, or none
    ∷ answers (taken (cost 0)) (bare 1 1) (lent []) 0 (call (job 5 1 ∷ []))
    ∷ answers (refused 0 call_not_feasible) (bare 1 1) (lent []) 1 (call (job 5 1 ∷ []))
    ∷ answers (refused 0 call_not_feasible) (bare 1 1) (lent []) 2 (call (job 5 1 ∷ []))
    ∷ []

pub events_answered : map (λ c. (event_of c.head c.state c.event).answer) events ≡ map (λ c. c.said) events
unfolding lists job_cells
events_answered = refl

-- ---- the same with preset records: a record that counts 33 presets is 2, a list of 31 records is 8

-- a head record of one slot and one bridge that counts so many presets
abbrev counting : ℕ → record-of-head.Head
counting n = record { slots = 1; bridges = 1; supply = 0; hold = false; busy = replicate 8 0; count = n }

abbrev clock_one : Event
clock_one = line (bytes "(clock 1)\n")

pub records_answered : ((event_meant (counting 32) (records_to 32) (state_of (lent []) 1 false) clock_one).answer ≡ clock_now 1)
    × ((event_meant (counting 33) (records_to 33) (state_of (lent (7 ∷ [])) 3 false) (line [])).answer ≡ refused 0 out_of_limits)
    × ((event_meant (counting 33) (records_to 33) (state_of (replicate 511 0) 1 false) clock_one).answer ≡ refused 0 too_short)
    × ((event_on_slice 32 (counting 0) [] (state_of (lent []) 1 false) clock_one).answer ≡ clock_now 1)
    × ((event_on_slice 31 (counting 0) [] (state_of (lent []) 1 false) clock_one).answer ≡ refused 0 too_short)
    × ((event_on_slice 31 (counting 33) [] (state_of (lent (7 ∷ [])) 3 false) (line [])).answer ≡ refused 0 too_short)
unfolding lists event_meant event_on_slice records_to
records_answered = (refl, refl, refl, refl, refl, refl)

-- ---- the order of ties that is lent

-- It is in force, and a tie event's from then on; a refused line leaves it.
abbrev two_jobs : Event
two_jobs = call (job 1 1 ∷ job 2 2 ∷ [])

abbrev left_by : Bool → List ℕ → EventsOutcome
left_by hold text = events_meant 32 (counting 0) [] (state_of (lent []) 0 hold) text (replicate 8192 0)

pub orders_met : (take 3 (event_of (bare 3 1) (state_of (lent []) 0 true) two_jobs).after.table ≡ call_cell 2 ∷ call_cell 2 ∷ call_cell 1 ∷ [])
    × (take 3 (event_of (bare 3 1) (state_of (lent []) 0 false) two_jobs).after.table ≡ call_cell 2 ∷ call_cell 1 ∷ call_cell 2 ∷ [])
    × ((left_by true (bytes "(clock 1)\n(tie Place)\n")).after.hold ≡ true)
    × ((left_by true (bytes "(tie place)\n(clock 1)\n")).after.hold ≡ false)
    × ((left_by false (bytes "(tie hold)\n(clock 9)\n")).after.hold ≡ true)
unfolding lists events_meant moved
orders_met = (refl, refl, refl, refl, refl)

-- What is refused before it is run leaves the order in force: a head that is not read, required slots that do not fit whatever the head says, and 8.
pub orders_left : (hold_after (whole_of (bytes "(frame 1 1)\n(tie place)\n") (lent [])) true ≡ true)
    × (hold_after (whole_of (bytes "(frame 1 1)\n(tie hold)\n(preset 1 0 2 0)\n") (lent [])) false ≡ false)
    × (hold_after (whole_of (bytes "(frame 1 1)\n(preset 1 0 2 0)\n") (lent [])) true ≡ true)
    × ((events_meant 31 (counting 0) [] (state_of (lent []) 1 true) (bytes "(tie place)\n") (replicate 8192 0)).after.hold ≡ true)
    × ((event_on_slice 31 (counting 0) [] (state_of (lent []) 1 true) (line (bytes "(tie place)\n"))).after.hold ≡ true)
    × ((event_meant (counting 33) (records_to 33) (state_of (lent []) 1 true) (line (bytes "(tie place)\n"))).after.hold ≡ true)
unfolding lists hold_after events_meant event_meant event_on_slice records_to moved
orders_left = (refl, refl, refl, refl, refl, refl)

-- ---- a list handed over

-- It may start from 32 records, and from the first clock, 0, to the last; not from 31, nor past that clock.
pub starts_pass : LetPass (counting 0) (records_to 32) (state_of (lent []) 0 false)
    × LetPass (counting 32) (records_to 32) (state_of (lent []) 2 false)
    × (LetPass (counting 0) (records_to 31) (state_of (lent []) 1 false) → some too_short ≡ none)
    × (LetPass (counting 0) (records_to 32) (state_of (lent []) 3 false) → some not_well_formed ≡ none)
unfolding lists records_to
starts_pass = (refl, refl, λ p. p, λ p. p)

-- Of any two moments of a list the one may be its start and the other its end.
pub between_ends : (es : List Event) (P : ℕ → ℕ → Type 0) → Between es P → P 0 (length es)
between_ends es P all = all 0 (length es) (omega arith) (omega arith)

-- ---- the planner before there were ties and a supply

-- As document 01 has it: a tie line and a supply line are none of the five forms, in a head and after one; of equal ones the earlier line goes first, in a plan and in a call; every free bridge
-- is used.
pub before_listed : (listing_of (whole_before (bytes "(frame 1 1)\n(tie hold)\n") blank) ≡ bytes "(refused 2 1)\n")
    × (listing_of (whole_before (bytes "(frame 1 1)\n(clock 1)\n(tie hold)\n") blank) ≡ bytes "(now 1)\n(refused 3 1)\n(slot 1 0)\n")
    × (listing_of (whole_before (bytes "(frame 1 1)\n(supply 1)\n") blank) ≡ bytes "(refused 2 1)\n")
    × (listing_of (whole_before (bytes "(frame 1 1)\n(clock 1)\n(supply 1)\n") blank) ≡ bytes "(now 1)\n(refused 3 1)\n(slot 1 0)\n")
    × (listing_of (whole_before (bytes "(frame 1 3)\n(preset 1 0 0 1)\n(preset 2 0 0 1)\n(call (5 1) (6 1))\n(call (7 2))\n") blank)
    ≡ bytes "(granted 1 1)\n(granted 2 1)\n(taken 1)\n(refused 5 7)\n(slot 1 o1 c5 c6)\n")
    × (listing_of (whole_before (bytes "(frame 6 1)\n(preset 1 0 1 0)\n(preset 2 0 2 0)\n(call (5 1) (6 2))\n") blank)
    ≡ bytes "(granted 1 0)\n(granted 2 0)\n(taken 0)\n(slot 1 m2)\n(slot 2 m1)\n(slot 3 m2)\n(slot 4 c6)\n(slot 5 c5)\n(slot 6 c6)\n")
unfolding
    lists read_before head_before served_before left_before needs_uncapped grants_uncapped evicted_uncapped fits_uncapped plan_before own_uncapped carried_before event_before run_by with_plan_by
    with_head_by whole_by
before_listed = (refl, refl, refl, refl, refl, refl)

-- What `place_as_before` asks of a text can be met, and a text with a tie line or a supply line does not meet it.
pub five_met : FiveForms (lines (bytes "(frame 1 1)\n(clock 1)\n"))
    × (FiveForms (lines (bytes "(frame 1 1)\n(tie hold)\n")) → ⊥)
    × (FiveForms (lines (bytes "(frame 1 1)\n(supply 8)\n")) → ⊥)
unfolding lists
five_met = (met, λ p. none_some (sym (p 1)), λ p. none_some (sym (p 1)))
  where
    met : FiveForms (lines (bytes "(frame 1 1)\n(clock 1)\n"))
    met zero = refl
    met (suc zero) = refl
    met (suc (suc j)) = refl

-- So it is with what `run_as_before` asks of events and of a head: a tie line and a supply line ask for something else, and a supply below the bridges is a cap, one for each bridge is none.
abbrev cause : Asked → ℕ
cause (set_clock t) = 0
cause (set_tie hold) = 0
cause (place_jobs jobs) = 0
cause (fault r) = number_of r

pub asked_met : FiveAsked (line (bytes "(clock 1)\n") ∷ clock 2 ∷ [])
    × (FiveAsked (line (bytes "(tie place)\n") ∷ []) → ⊥)
    × (FiveAsked (line (bytes "(supply 8)\n") ∷ []) → ⊥)
    × Uncapped (with_supply (bare 1 2) 2)
    × (Uncapped (with_supply (bare 1 2) 1) → ⊥)
unfolding lists
asked_met = (met, λ p. let e : ◌≡◌ {A = ℕ} 0 1 = ap cause (p 0) in omega arith, λ p. let e : ◌≡◌ {A = ℕ} 3 1 = ap cause (p 0) in omega arith, omega arith, λ p. let l : 2 ≤ 1 = p in omega arith)
  where
    met : FiveAsked (line (bytes "(clock 1)\n") ∷ clock 2 ∷ [])
    met zero = refl
    met (suc zero) = refl
    met (suc (suc j)) = refl

-- ---- the planner when a call could use the clock's own slot

-- Document 01's listing with its clock line at 4: "jobs 10 and 11 found a place before". The clock started at 1 and ended at S + 1, 0 was 2 (before 6), and a call at clock 1 had all slots.
pub own_slot_listed : (listing_of (whole_own_slot (bytes "(frame 4 2)\n(busy 2 (2 3))\n(preset 1 0 2 1)\n(preset 2 1 1 2)\n(clock 4)\n(call (9 2))\n(call (10 1))\n(call (11 1))\n") blank)
    ≡ bytes "(granted 1 1)\n(granted 2 2)\n(now 4)\n(refused 6 7)\n(taken 1)\n(taken 1)\n(slot 1 m1 m2)\n(slot 2 m1 -)\n(slot 3 o2 -)\n(slot 4 c11 c10)\n")
    × (listing_of (whole_own_slot (bytes "(frame 2 1)\n(clock 0)\n(clock 1)\n(call (1 2))\n(clock 3)\n(clock 4)\n(clock 2)\n(clock 0)\n") blank)
    ≡ bytes "(refused 2 2)\n(now 1)\n(taken 0)\n(now 3)\n(refused 6 2)\n(refused 7 6)\n(refused 8 2)\n(slot 1 c1)\n(slot 2 c1)\n")
    × (listing_of (whole_own_slot (bytes "(frame 2 2)\n(busy 2 (2 2))\n(preset 1 0 0 2)\n(clock 1)\n(call (9 1))\n") blank) ≡ bytes "(granted 1 2)\n(now 1)\n(taken 0)\n(slot 1 o1 c9)\n(slot 2 o1 -)\n")
    × ((event_own_slot today (bare 1 1) (state_of (lent []) 0 false) (clock 1)).answer ≡ refused 0 not_well_formed)
    × ((event_own_slot today (bare 1 1) (state_of (lent []) 3 false) (clock 1)).answer ≡ refused 0 not_well_formed)
unfolding lists last_gone own_slot_causes carried_own_slot event_own_slot run_by with_plan_by with_head_by whole_by
own_slot_listed = (refl, refl, refl, refl, refl)

-- Document 01, "One listing, whole": its planner, without ties, a supply and the clock of 2026-05, lists just that; a tie line and a supply line were 1, two cells of a slot no fault of soundness whatever the supply.
pub document_listed : (listing_of (whole_document_one (bytes "(frame 4 2)\n(busy 2 (2 3))\n(preset 1 0 2 1)\n(preset 2 1 1 2)\n(clock 2)\n(call (9 2))\n(call (10 1))\n(call (11 1))\n") blank)
    ≡ bytes "(granted 1 1)\n(granted 2 2)\n(now 2)\n(taken 2)\n(taken 1)\n(refused 8 7)\n(slot 1 m1 m2)\n(slot 2 m1 -)\n(slot 3 c9 -)\n(slot 4 c10 c9)\n")
    × (listing_of (whole_document_one (bytes "(frame 2 1)\n(clock 0)\n(call (5 1) (6 1))\n(clock 2)\n(tie hold)\n(supply 1)\n(call (7 1))\n(clock 3)\n(clock 4)\n(clock 1)\n") blank)
    ≡ bytes "(refused 2 2)\n(taken 0)\n(now 2)\n(refused 5 1)\n(refused 6 1)\n(refused 7 7)\n(now 3)\n(refused 9 2)\n(refused 10 6)\n(slot 1 c5)\n(slot 2 c6)\n")
    × ((event_own_slot document_one (with_supply (bare 1 2) 1) (state_of (lent (call_cell 7 ∷ call_cell 8 ∷ [])) 1 false) (clock 2)).answer ≡ clock_now 2)
    × ((event_own_slot document_one (bare 1 1) (state_of (lent []) 1 false) (call (job 5 1 ∷ []))).answer ≡ taken (cost 0))
unfolding
    lists last_gone read_before head_before served_before left_before needs_uncapped grants_uncapped evicted_uncapped fits_uncapped plan_before own_slot_causes carried_own_slot event_own_slot run_by with_plan_by
    with_head_by whole_by
document_listed = (refl, refl, refl, refl)

-- the clock that is asked for, one higher; 0 where none is
abbrev clock_asked : Asked → ℕ
clock_asked (set_clock t) = suc t
clock_asked (set_tie hold) = 0
clock_asked (place_jobs jobs) = 0
clock_asked (fault r) = 0

no_clock : (o : Option Form) (t : ℕ) → clock_asked (asked_by_form o) ≡ 0 → o ≡ some (clock_line t) → ⊥
no_clock o t z e = let q : clock_asked (asked_by_form o) ≡ suc t = ap (λ (f : Option Form). clock_asked (asked_by_form f)) e in omega (arith, z, q)

-- What `text_without_clock` asks of a text can be met, with an event too, and a text with a clock line does not meet it.
pub no_clock_met : NoClockLine (lines (bytes "(frame 1 1)\n(tie hold)\n(call (5 1))\n")) × (NoClockLine (lines (bytes "(frame 1 1)\n(clock 0)\n")) → ⊥)
unfolding lists
no_clock_met = (met, λ p. p 1 0 refl)
  where
    met : NoClockLine (lines (bytes "(frame 1 1)\n(tie hold)\n(call (5 1))\n"))
    met zero t e = no_clock (form (bytes "(frame 1 1)\n")) t refl e
    met (suc zero) t e = no_clock (form (bytes "(tie hold)\n")) t refl e
    met (suc (suc zero)) t e = no_clock (form (bytes "(call (5 1))\n")) t refl e
    met (suc (suc (suc j))) t e = no_clock (form []) t refl e

-- So it is with what `run_one_higher` asks of two lists: the clocks 0 and S were 1 and S + 1; the last clock is left out, and the same clock is not one higher.
pub higher_met : OneHigher 2 (clock 0 ∷ call [] ∷ clock 2 ∷ []) (clock 1 ∷ call [] ∷ clock 3 ∷ [])
    × (OneHigher 2 (clock 3 ∷ []) (clock 4 ∷ []) → ⊥)
    × (OneHigher 2 (clock 0 ∷ []) (clock 0 ∷ []) → ⊥)
unfolding lists
higher_met =
    (record { long = refl; asks = asks; not_last = not_last }, λ p. p.not_last 0 refl, λ p. let q : ◌≡◌ {A = ℕ} 1 2 = ap clock_asked (p.asks 0) in omega (arith, q))
  where
    asks : (j : ℕ) → asked (event_at (clock 1 ∷ call [] ∷ clock 3 ∷ []) j) ≡ higher_asked (asked (event_at (clock 0 ∷ call [] ∷ clock 2 ∷ []) j))
    asks zero = refl
    asks (suc zero) = refl
    asks (suc (suc zero)) = refl
    asks (suc (suc (suc j))) = refl

    not_last : (j : ℕ) → asked (event_at (clock 0 ∷ call [] ∷ clock 2 ∷ []) j) ≡ set_clock 3 → ⊥
    not_last zero e = let q : ◌≡◌ {A = ℕ} 1 4 = ap clock_asked e in omega (arith, q)
    not_last (suc zero) e = let q : ◌≡◌ {A = ℕ} 0 4 = ap clock_asked e in omega (arith, q)
    not_last (suc (suc zero)) e = let q : ◌≡◌ {A = ℕ} 3 4 = ap clock_asked e in omega (arith, q)
    not_last (suc (suc (suc j))) e = let q : ◌≡◌ {A = ℕ} 0 4 = ap clock_asked e in omega (arith, q)

-- ---- a text beside lent things that are too short: 10, then 8, then the head's

pub texts_end : (whole_of (replicate 32769 10) (replicate 511 0) ≡ not_read 0 text_too_long)
    × (whole_of (replicate 32768 10) (replicate 511 0) ≡ not_read 0 too_short)
    × (whole_of (replicate 32768 10) (replicate 512 0) ≡ not_read 1 no_form)
    × (whole_of [] (replicate 511 0) ≡ not_read 0 too_short)
    × (whole_with_output (replicate 32769 10) [] (replicate 8191 0) ≡ not_read 0 text_too_long)
    × (whole_with_output [] (replicate 512 0) (replicate 8191 0) ≡ not_read 0 too_short)
    × (whole_with_output [] (replicate 511 0) (replicate 8192 0) ≡ not_read 0 too_short)
    × (whole_with_output [] (replicate 512 0) (replicate 8192 0) ≡ not_read 1 out_of_place)
    × (whole_on_slice 31 (replicate 32769 10) [] [] ≡ not_read 0 text_too_long)
    × (whole_on_slice 31 [] (replicate 512 0) (replicate 8192 0) ≡ not_read 0 too_short)
    × (whole_on_slice 32 [] (replicate 512 0) (replicate 8192 0) ≡ not_read 1 out_of_place)
unfolding lists whole_with_output whole_on_slice
texts_end = (refl, refl, refl, refl, refl, refl, refl, refl, refl, refl, refl)

-- ---- what a text leaves of the head and its records, and of an output that is shorter than its listing

abbrev preset_record : ℕ → ℕ → ℕ → ℕ → record-of-preset.Preset
preset_record n p m o = record { number = n; priority = p; mandatory = m; optional = o }

abbrev sevens : ℕ → List record-of-preset.Preset
sevens k = replicate k (preset_record 7 7 7 7)

-- With 5 "the head is the one read": its records in file order, each value in its place, and past the last one what stood there; so it is where the text ran, and any other refusal
-- leaves all.
pub records_left : (presets_after (whole_of (bytes "(frame 1 1)\n(preset 20 3 2 9)\n(preset 10 8 0 1)\n") blank) (sevens 4)
    ≡ preset_record 20 3 2 9 ∷ preset_record 10 8 0 1 ∷ sevens 2)
    × (head_after (whole_of (bytes "(frame 1 1)\n(preset 20 3 2 9)\n(preset 10 8 0 1)\n") blank) (counting 7) ≡ counting 2)
    × (presets_after (whole_of (bytes "(frame 1 1)\n(preset 20 3 0 9)\n") blank) (sevens 2) ≡ preset_record 20 3 0 9 ∷ sevens 1)
    × (presets_after (whole_of (bytes "(frame 1 1)\n(preset 20 10 0 9)\n") blank) (sevens 2) ≡ sevens 2)
    × (head_after (whole_of (bytes "(frame 1 1)\n(preset 20 10 0 9)\n") blank) (counting 7) ≡ counting 7)
unfolding lists presets_after head_after
records_left = (refl, refl, refl, refl, refl)

-- The listing of a frame alone has 11 bytes: an output of 13 has it whole and 2 bytes as they were, one of 4 has its first 4, and that is what is answered.
abbrev one_slot : Whole
one_slot = whole_of (bytes "(frame 1 1)\n") blank

pub outputs_left : (output_after one_slot (replicate 13 7) ≡ bytes "(slot 1 0)\n" ++ (7 ∷ 7 ∷ []))
    × (end_of one_slot (replicate 13 7) ≡ listed 11)
    × (output_after one_slot (replicate 4 7) ≡ bytes "(slo")
    × (end_of one_slot (replicate 4 7) ≡ listed 4)
    × ((listing_written one_slot blank (replicate 4 7)).output ≡ bytes "(slo")
    × ((listing_written one_slot blank (replicate 4 7)).answer ≡ write.written 4)
unfolding lists output_after end_of moved
outputs_left = (refl, refl, refl, refl, refl, refl)

-- ---- a text of events on a lent frame: 10, 8, the head record's 2, 11, then its lines, numbered from 1

pub events_end : ((events_meant 31 (counting 33) [] (state_of [] 3 false) (replicate 32769 10) []).ended ≡ refused_at 0 text_too_long)
    × ((events_meant 31 (counting 33) [] (state_of (lent (7 ∷ [])) 3 false) [] (replicate 8192 0)).ended ≡ refused_at 0 too_short)
    × ((events_meant 32 (counting 33) [] (state_of (lent (7 ∷ [])) 3 false) [] (replicate 8191 0)).ended ≡ refused_at 0 too_short)
    × ((events_meant 32 (counting 33) [] (state_of (replicate 511 0) 3 false) [] (replicate 8192 0)).ended ≡ refused_at 0 too_short)
    × ((events_meant 32 (counting 33) [] (state_of (lent (7 ∷ [])) 3 false) [] (replicate 8192 0)).ended ≡ refused_at 0 out_of_limits)
    × ((events_meant 32 (counting 0) [] (state_of (lent (7 ∷ [])) 1 false) (bytes "x") (replicate 8192 0)).ended ≡ refused_at 0 not_well_formed)
    × ((events_meant 32 (counting 0) [] (state_of (lent []) 3 false) (bytes "x") (replicate 8192 0)).ended ≡ refused_at 0 not_well_formed)
    × ((events_meant 32 (counting 0) [] (state_of (lent []) 2 false) [] (replicate 8192 0)).ended ≡ listed 0)
    × (take 45 (events_meant 32 (counting 0) [] (state_of (lent []) 0 false) (bytes "(frame 1 1)\n(call (5 1))\n(clock 2)\n(clock 1)") (replicate 8192 0)).output
    ≡ bytes "(refused 1 3)\n(taken 0)\n(now 2)\n(refused 4 1)")
unfolding lists events_meant moved
events_end = (refl, refl, refl, refl, refl, refl, refl, refl, refl)

-- the answers at the start of the output, every byte past them as it was, and how many bytes they are
abbrev four_lines : EventsOutcome
four_lines = events_meant 32 (counting 0) [] (state_of (lent []) 0 false) (bytes "(frame 1 1)\n(call (5 1))\n(clock 2)\n(clock 1)") (replicate 8192 7)

pub events_left : (four_lines.output ≡ bytes "(refused 1 3)\n(taken 0)\n(now 2)\n(refused 4 1)\n" ++ replicate 8146 7) × (four_lines.ended ≡ listed 46)
unfolding lists events_meant moved
events_left = (refl, refl)

-- ---- the entries that write lines

-- two slots of two bridges, `c5 0 | 0 c6`
abbrev two_by_two : record-of-head.Head
two_by_two = record { slots = 2; bridges = 2; supply = 0; hold = false; busy = replicate 8 0; count = 0 }

-- `write_slot` writes the line of the slot that is asked for, counted from 1.
pub slots_written : map (λ s. take 15 (slot_written 32 two_by_two [] (lent (call_cell 5 ∷ 0 ∷ 0 ∷ call_cell 6 ∷ [])) s (replicate 8192 7)).output) (1 ∷ 2 ∷ [])
    ≡ (bytes "(slot 1 c5 0)\n" ++ (7 ∷ [])) ∷ (bytes "(slot 2 0 c6)\n" ++ (7 ∷ [])) ∷ []
unfolding lists moved line_written
slots_written = refl

-- `write_listing`: 10, then 8 for the output and for the table; the refused line of an empty text has 14 bytes
pub lines_answered : ((listing_meant (replicate 32769 10) [] []).answer ≡ write.refused 0 text_too_long)
    × ((listing_meant [] blank (replicate 8191 0)).answer ≡ write.refused 0 too_short)
    × ((listing_meant [] (replicate 511 0) (replicate 8192 0)).answer ≡ write.refused 0 too_short)
    × ((listing_meant [] blank (replicate 8192 0)).answer ≡ write.written 14)
    -- the line of an answer and of a grant: 8 for the output
    × ((answer_written 0 (Ok (reply.Now 1)) (replicate 8192 0)).answer ≡ write.written 8)
    × ((answer_written 0 (Ok (reply.Now 1)) (replicate 8191 0)).answer ≡ write.refused 0 too_short)
    × ((answer_written 0 (Ok (reply.Tie true)) (replicate 8192 0)).answer ≡ write.written 11)
    × ((answer_written 0 (Ok (reply.Tie false)) (replicate 8192 0)).answer ≡ write.written 12)
    × ((grant_written 1 2 (replicate 8192 0)).answer ≡ write.written 14)
    × ((grant_written 1 2 (replicate 8191 0)).answer ≡ write.refused 0 too_short)
    -- a slot's line: 8, the head record's 2, 11, then 2 for the slot, from 1 to S
    × ((slot_written 32 (counting 0) [] (lent []) 1 (replicate 8192 0)).answer ≡ write.written 11)
    × ((slot_written 32 (counting 33) [] (lent (7 ∷ [])) 0 (replicate 8191 0)).answer ≡ write.refused 0 too_short)
    × ((slot_written 31 (counting 0) [] (lent []) 1 (replicate 8192 0)).answer ≡ write.refused 0 too_short)
    × ((slot_written 32 (counting 33) [] (replicate 511 0) 0 (replicate 8192 0)).answer ≡ write.refused 0 too_short)
    × ((slot_written 32 (counting 33) [] (lent (7 ∷ [])) 1 (replicate 8192 0)).answer ≡ write.refused 0 out_of_limits)
    × ((slot_written 32 (counting 0) [] (lent (7 ∷ [])) 0 (replicate 8192 0)).answer ≡ write.refused 0 not_well_formed)
    × ((slot_written 32 (counting 0) [] (lent []) 0 (replicate 8192 0)).answer ≡ write.refused 0 out_of_limits)
    × ((slot_written 32 (counting 0) [] (lent []) 2 (replicate 8192 0)).answer ≡ write.refused 0 out_of_limits)
unfolding lists moved listing_cause listing_meant line_written
lines_answered = (refl, refl, refl, refl, refl, refl, refl, refl, refl, refl, refl, refl, refl, refl, refl, refl, refl, refl)
