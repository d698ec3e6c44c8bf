-- What the six exported functions are held to: what each answers, and every number, byte and cell that was handed over, afterwards, for all inputs; and what is
-- claimed of it. Document 01, "Causes", "One listing, whole" and "What demand 3 speaks of"; document 02, 2026-01 and 2026-02. A frame and preset records are read and written as Layout says.
--
-- In order: the running frame that numbers and bytes stand for; what is returned (`Returned`); `planner_run_text` (`TextLeaves`, `TextPromise`), `planner_event`
-- (`EventLeaves`, `EventPromise`), `planner_plan` (`PlanLeaves`, `PlanPromise`), `planner_listing` (`ListingLeaves`, `ListingWhole`), `planner_read_rows`
-- (`RowsLeaves`, `RowsPromise`), `planner_write_rows` (`RowsWrittenLeaves`, `RowsWrittenPromise`).
-- Assumes nothing.
use Rattle.std.specs.Prelude.{ℕ, ◌≤◌, ◌<◌, ◌≡◌, Bool, true, List, [], ◌∷◌, ◌++◌, map, length, take, ltb, Result, Ok, Err, ◌⊎◌}
use Rattle.std.proofs.Math.Option.{Option, none, some}
use Rattle.std.proofs.lemmas.List.Edits.{sets}
use Rattle.laws.specs.Sums.{bit}
use Rattle.laws.specs.Lists.{at}
use Rattle.station.specs.Head.{Head, with_busy}
use Rattle.station.specs.Limits.{most_presets, most_bytes}
use Rattle.station.specs.Refusal.{Refusal, number_of, too_short, text_too_long, try, first_of}
use Rattle.station.specs.Types.{head_in, refusal_in, valid_record}
use Rattle.station.specs.declared.types.Head as record-of-head
use Rattle.station.specs.ReadHead.{head_record, record_of}
use Rattle.station.specs.WriteHead as writing
use Rattle.station.specs.Reading as reading
use Rattle.station.specs.Row.{mask_rows, rows_text}
use Rattle.station.specs.ReadRows.{RowsMean}
use Rattle.station.specs.RowEntries.{rows_reading}
use Rattle.station.specs.declared.types.Fault.{Fault}
use Rattle.station.specs.declared.types.Station.{Station}
use Rattle.placing.specs.State.{State, state_of}
use Rattle.placing.specs.Claims.{Running, PlanClaim}
use Rattle.placing.specs.Outcomes.{PlanAnswer, PlanOutcome}
use Rattle.placing.specs.PlanDone.{plan_meant}
use Rattle.frame.specs.Event.{Event, Answer, clock_now, tie_now, taken, refused, Outcome, Run}
use Rattle.frame.specs.Text.{Whole, not_read, not_planned, ran, start_of, whole_of}
use Rattle.frame.specs.Listing.{listing_of}
use Rattle.frame.specs.Demands.{Demand3}
use Rattle.frame.specs.EventDone.{event_meant}
use Rattle.frame.specs.TextDone.{whole_with_output, End, listed, refused_at, end_of, table_after, output_after, TextClaim}
use Rattle.frame.specs.WriteListing.{listing_cause, listing_meant}
use Rattle.planner.specs.Layout.{preset_bytes, records_in, bytes_over, frame_numbers, head_tie, tie_in_force, head_of_numbers, clock_of_numbers, hold_of_numbers, head_over, tie_over, numbers_over, clock_over, started, masks_over}
use Rattle.placing.specs.Types.{filled}

-- ---- the running frame

-- the head that the numbers of a frame and the bytes of the presets stand for
abbrev pub head_on : List ℕ → List ℕ → Head
head_on frame presets = head_in (head_of_numbers frame) (records_in presets)

-- the state that the numbers of a frame and a table stand for
abbrev pub state_on : List ℕ → List ℕ → State
state_on frame t = state_of t (clock_of_numbers frame) (hold_of_numbers frame)

-- a running frame that 8, 2 and 11 let pass
abbrev pub RunningOn : List ℕ → List ℕ → List ℕ → Type 0
RunningOn frame presets t = Running (head_on frame presets) (state_on frame t)

-- "preset list below 32 records" is 8, and so is a frame below sixteen numbers
abbrev pub short_causes : List ℕ → List ℕ → List (Option Refusal)
short_causes frame presets = try too_short (ltb (length frame) frame_numbers) ∷ try too_short (ltb (length presets) preset_bytes) ∷ []

-- and "text above 32,768 bytes" is 10, before these
abbrev pub text_causes : List ℕ → List ℕ → List ℕ → List (Option Refusal)
text_causes text frame presets = try text_too_long (ltb most_bytes (length text)) ∷ short_causes frame presets

-- what is too short of a frame and presets: the frame, or where that is long enough the presets
abbrev pub ShortOf : List ℕ → List ℕ → Type 0
ShortOf frame presets = (length frame < frame_numbers) ⊎ ((frame_numbers ≤ length frame) × (length presets < preset_bytes))

-- the head and the records that a frame and presets, long enough, stand for, by value
pub record LentStation (frame presets : List ℕ) (s : Station) : Type 0 where
  pub numbers : frame_numbers ≤ length frame
  pub records : preset_bytes ≤ length presets
  pub head : s.head ≡ head_of_numbers frame
  pub list : s.presets ≡ records_in presets

-- a frame and presets that 8 and 2 let pass
pub record HeadPasses (frame presets : List ℕ) : Type 0 where
  pub numbers : frame_numbers ≤ length frame
  pub records : preset_bytes ≤ length presets
  pub valid : valid_record (head_of_numbers frame) (records_in presets) ≡ true

-- ---- what is returned

-- What a function returns: 0 and the values of what is accepted; or "Number" and "Returned" of the table of causes, the number of the refusal and its line.
pub record Returned : Type 0 where
  pub number : ℕ
  pub values : List ℕ

abbrev pub accepts : List ℕ → Returned
accepts vs = record { number = 0; values = vs }

abbrev pub refuses : ℕ → Refusal → Returned
refuses n r = record { number = number_of r; values = n ∷ [] }

-- the first of its values
abbrev pub value : Returned → ℕ
value r = at r.values 0

-- of a text: the number of bytes of the listing in the output
abbrev pub end_returned : End → Returned
end_returned (listed n) = accepts (n ∷ [])
end_returned (refused_at n r) = refuses n r

-- of an event: "the new clock; the cells evicted"; of a tie 1 for hold and 0 for place
abbrev pub answer_returned : Answer → Returned
answer_returned (clock_now t) = accepts (t ∷ [])
answer_returned (tie_now hold) = accepts (bit hold ∷ [])
answer_returned (taken c) = accepts (c.count ∷ [])
answer_returned (refused n r) = refuses n r

-- of a plan: the grants
abbrev pub plan_returned : PlanAnswer → Returned
plan_returned (PlanAnswer.granted g) = accepts g
plan_returned (PlanAnswer.refused n r) = refuses n r

-- of a listing or of rows: the number of its bytes in the output
abbrev pub written_returned : writing.Answer → Returned
written_returned (writing.written n) = accepts (n ∷ [])
written_returned (writing.refused n r) = refuses n r

-- of a text of rows: their number; or "returns the row"
abbrev pub rows_returned : reading.Reading → Returned
rows_returned (reading.accepted g n) = accepts (n ∷ [])
rows_returned (reading.refused n r) = refuses n r

-- the number that is returned for an answer of the code, and its count
abbrev pub number_in : Result ℕ Fault → ℕ
number_in (Ok n) = 0
number_in (Err f) = number_of (refusal_in f.cause)

abbrev pub count_in : Result ℕ Fault → ℕ
count_in (Ok n) = n
count_in (Err f) = f.line

-- ---- planner_run_text

-- What a text comes to: 10, then 8 of the frame and of the presets, then as beside the output, which is 8 of the output and of the table.
unfoldable pub text_on : List ℕ → List ℕ → List ℕ → List ℕ → List ℕ → Whole
text_on text frame presets t out =
    elim (first_of (text_causes text frame presets)) [ none ↦ whole_with_output text t out | some r ↦ not_read 0 r ]

-- What a head, a clock and the order of ties in force make of a frame: all its numbers where the text ran, and after a refusal those of the head and the clock.
abbrev pub frame_left : End → record-of-head.Head → ℕ → Bool → List ℕ → List ℕ
frame_left (listed n) head clock hold frame = numbers_over head clock hold frame
frame_left (refused_at n r) head clock hold frame = tie_over head_tie head.hold (head_over head clock frame)

-- The frame and the presets afterwards: a head that is not read leaves both as they were; "the head is the one read" where the required slots do not fit, and the
-- clock, the order of ties in force and the reserved number stay; where the text ran, the clock and the order are those it left, and the reserved number is 0.
unfoldable pub frame_after : Whole → List ℕ → List ℕ
frame_after (not_read n r) frame = frame
frame_after (not_planned h n r) frame = tie_over head_tie h.hold (head_over (head_record h) (clock_of_numbers frame) frame)
frame_after (ran h n g r) frame = numbers_over (head_record h) r.after.clock r.after.hold frame

unfoldable pub records_after : Whole → List ℕ → List ℕ
records_after (not_read n r) presets = presets
records_after (not_planned h n r) presets = bytes_over (map record_of h.presets) presets
records_after (ran h n g r) presets = bytes_over (map record_of h.presets) presets

-- What `planner_run_text` answers (r and n, the `end`) and leaves where the text comes to w; f is the frame and p the presets.
pub record TextLeaves (w : Whole) (f p t out f₁ p₁ t₁ out₁ : List ℕ) (n r : ℕ) : Type 0 where
  pub answer : r ≡ (end_returned (end_of w out)).number
  pub end : n ≡ value (end_returned (end_of w out))
  pub frame : f₁ ≡ frame_after w f
  pub presets : p₁ ≡ records_after w p
  pub table : t₁ ≡ table_after w t
  pub output : out₁ ≡ output_after w out

-- What is claimed of it, r being the answer.
pub record TextPromise (text frame presets t out frame₁ presets₁ t₁ : List ℕ) (r : ℕ) : Type 0 where
  -- a frame and presets that are long enough do not matter
  pub long : frame_numbers ≤ length frame → preset_bytes ≤ length presets → text_on text frame presets t out ≡ whole_with_output text t out
  -- demands 1 to 3 and what is claimed of the plan
  pub claim : TextClaim text t out
  -- "Each event gets the table and clock that the last one left", and the order of ties: a text that ran leaves its head and its last state, a running frame for `planner_event`, so that lines
  -- handed over after it go on with its list of events
  pub left : (h : Head) (n : ℕ) (g : List ℕ) (x : Run) → text_on text frame presets t out ≡ ran h n g x → (head_on frame₁ presets₁ ≡ h) × (state_on frame₁ t₁ ≡ x.after)
  pub running : r ≡ 0 → RunningOn frame₁ presets₁ t₁

-- ---- planner_event

-- One event line: 8 of the frame and of the presets, which change nothing, then what the event comes to.
unfoldable pub event_on : List ℕ → List ℕ → List ℕ → List ℕ → Outcome
event_on frame presets t l =
    elim (first_of (short_causes frame presets)) [
      | none ↦ event_meant (head_of_numbers frame) (records_in presets) (state_on frame t) (Event.line l)
      | some r ↦ record { answer = refused 0 r; after = state_on frame t }
    ]

-- What `planner_event` answers (r and n, the `number`) and leaves where the event comes to o: of the frame f only the clock and the order of ties in force change, of the presets nothing.
pub record EventLeaves (o : Outcome) (f f₁ t₁ : List ℕ) (n r : ℕ) : Type 0 where
  pub answer : r ≡ (answer_returned o.answer).number
  pub number : n ≡ value (answer_returned o.answer)
  pub frame : f₁ ≡ tie_over tie_in_force o.after.hold (clock_over o.after.clock f)
  pub table : t₁ ≡ o.after.table

pub record EventPromise (frame presets t l frame₁ t₁ : List ℕ) (r : ℕ) : Type 0 where
  -- "a refusal that changes nothing"
  pub unchanged : 0 < r → (frame₁ ≡ frame) × (t₁ ≡ t)
  -- a running frame that 11 lets pass is one afterwards, so that the next event starts from one
  pub kept : RunningOn frame presets t → RunningOn frame₁ presets t₁
  -- demand 3 for this event; `run_of` is its fold
  pub claim : RunningOn frame presets t → Demand3 (head_on frame presets) (state_on frame t) (Event.line l ∷ [])

-- ---- planner_plan

-- A plan: 8 of the frame, of the presets and of fewer than 32 grants, which change nothing, then what the plan comes to. The clock and the order of ties in force are not looked at.
unfoldable pub plan_on : List ℕ → List ℕ → List ℕ → List ℕ → PlanOutcome
plan_on frame presets t grants =
    elim (first_of (try too_short (ltb (length frame) frame_numbers) ∷ try too_short (ltb (length presets) preset_bytes) ∷ try too_short (ltb (length grants) most_presets) ∷ [])) [
      | none ↦ plan_meant (head_of_numbers frame) (records_in presets) t
      | some r ↦ record { answer = PlanAnswer.refused 0 r; table = t }
    ]

-- the grants "in file order" at the start, and 0 past the last preset up to 32; a refusal changes nothing
unfoldable pub grants_after : PlanAnswer → List ℕ → List ℕ
grants_after (PlanAnswer.granted g) l = sets l 0 (filled most_presets (length g) (at g))
grants_after (PlanAnswer.refused _ r) l = l

-- What `planner_plan` answers and leaves where the plan comes to o; g are the grants.
pub record PlanLeaves (o : PlanOutcome) (g t₁ g₁ : List ℕ) (r : ℕ) : Type 0 where
  pub answer : r ≡ (plan_returned o.answer).number
  pub grants : g₁ ≡ grants_after o.answer g
  pub table : t₁ ≡ o.table

pub record PlanPromise (frame presets t t₁ : List ℕ) (r : ℕ) : Type 0 where
  -- "a refusal that changes nothing"
  pub unchanged : 0 < r → t₁ ≡ t
  -- 5 exactly when no valid plan exists, best for every k
  pub claim : PlanClaim (head_on frame presets) t
  -- "It starts from an accepted head with its plan and the first clock": with this clock and the head's order of ties put in force, the frame has its head and the state that a text
  -- starts from, a running one
  pub starts : r ≡ 0 → (head_on (started frame) presets ≡ head_on frame presets) × (state_on (started frame) t₁ ≡ start_of (head_on frame presets) t₁)
  pub running : r ≡ 0 → RunningOn (started frame) presets t₁

-- ---- planner_listing

-- What `planner_listing` answers (r and n, the `bytes`) and leaves.
pub record ListingLeaves (text t out t₁ out₁ : List ℕ) (n r : ℕ) : Type 0 where
  pub answer : r ≡ (written_returned (listing_meant text t out).answer).number
  pub bytes : n ≡ value (written_returned (listing_meant text t out).answer)
  pub table : t₁ ≡ (listing_meant text t out).table
  pub output : out₁ ≡ (listing_meant text t out).output

-- What it answers and leaves of an output with 655,360 bytes: where no cause is met, the listing is there whole, and the bytes past it are as they were.
pub record ListingWhole (text t out out₁ : List ℕ) (n : ℕ) : Type 0 where
  pub bytes : n ≡ value (written_returned (writing.answer_of (listing_cause text t out) (length (listing_of (whole_of text t)))))
  pub output : out₁ ≡ writing.output_of (listing_cause text t out) (listing_of (whole_of text t)) out

-- ---- planner_read_rows

-- How rows read beside a frame and presets: 10, then 8 of the frame and of the presets, at row 0, then as beside the head.
unfoldable pub rows_on : List ℕ → List ℕ → List ℕ → reading.Reading
rows_on text frame presets =
    reading.unless (first_of (text_causes text frame presets)) 0 (rows_reading most_presets (head_of_numbers frame) (records_in presets) text)

-- The frame afterwards: "put them in place of the head's busy lines"; a refusal "leaves the head".
unfoldable pub rows_frame : reading.Reading → List ℕ → List ℕ
rows_frame (reading.accepted g n) frame = masks_over g.busy frame
rows_frame (reading.refused n r) frame = frame

-- What `planner_read_rows` answers (r and n, the `row`) and leaves where the rows read as x: of the frame f only the masks change, of the presets nothing.
pub record RowsLeaves (x : reading.Reading) (f f₁ : List ℕ) (n r : ℕ) : Type 0 where
  pub answer : r ≡ (rows_returned x).number
  pub row : n ≡ value (rows_returned x)
  pub frame : f₁ ≡ rows_frame x f

pub record RowsPromise (text frame presets frame₁ : List ℕ) (n r : ℕ) : Type 0 where
  -- "returns the row and leaves the head"
  pub unchanged : 0 < r → frame₁ ≡ frame
  -- the frame afterwards stands for the head that was read
  pub head : r ≡ 0 → rows_on text frame presets ≡ reading.accepted (head_on frame₁ presets) n
  -- what the paper says of the rows, where no cause is met before the first of them
  pub meant : length text ≤ most_bytes → HeadPasses frame presets → RowsMean (head_on frame presets) text (rows_on text frame presets)
  -- a frame and presets that are long enough do not matter
  pub long : frame_numbers ≤ length frame → preset_bytes ≤ length presets → rows_on text frame presets ≡ rows_reading most_presets (head_of_numbers frame) (records_in presets) text

-- ---- planner_write_rows

-- Tried before anything is written: 8 of the frame and of the presets, then the causes of writing a head, 8 of the output and 2.
abbrev pub rows_write_causes : List ℕ → List ℕ → List ℕ → List (Option Refusal)
rows_write_causes frame presets out = short_causes frame presets ++ writing.write_causes (head_of_numbers frame) (records_in presets) out

-- what is returned of the rows of the frame's busy cells
unfoldable pub rows_written : List ℕ → List ℕ → List ℕ → Returned
rows_written frame presets out =
    written_returned (writing.answer_of (first_of (rows_write_causes frame presets out)) (length (rows_text (head_of_numbers frame).busy)))

-- What `planner_write_rows` answers (r and n, the `bytes`) and leaves of the output, f being the frame and p the presets, which do not change.
pub record RowsWrittenLeaves (f p out out₁ : List ℕ) (n r : ℕ) : Type 0 where
  pub answer : r ≡ (rows_written f p out).number
  pub bytes : n ≡ value (rows_written f p out)
  pub output : out₁ ≡ writing.output_of (first_of (rows_write_causes f p out)) (rows_text (head_of_numbers f).busy) out

pub record RowsWrittenPromise (frame presets out out₁ : List ℕ) (n r : ℕ) : Type 0 where
  -- a refusal changes nothing
  pub unchanged : 0 < r → out₁ ≡ out
  -- so long are the longest rows
  pub short : n ≤ 2240
  -- "A head written to rows and read again has the same busy cells": read beside this frame and these presets, which pass, or beside others of the same slots and bridges
  pub passes : r ≡ 0 → HeadPasses frame presets
  pub again : r ≡ 0 → (f p : List ℕ) → HeadPasses f p → (head_of_numbers f).slots ≡ (head_of_numbers frame).slots → (head_of_numbers f).bridges ≡ (head_of_numbers frame).bridges
      → rows_on (take n out₁) f p ≡ reading.accepted (with_busy (head_on f p) (head_of_numbers frame).busy) (length (mask_rows 1 (head_of_numbers frame).busy))
