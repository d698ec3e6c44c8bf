-- The entries that write one line of the listing: the answer and every byte of the output
-- afterwards, for all inputs. Document 01, "Causes".
-- Assumes nothing.
use Rattle.std.specs.Prelude.{ℕ, ◌-◌, ◌≡◌, not, List, [], ◌∷◌, ◌++◌, length, ltb, Result}
use Rattle.std.proofs.Math.Option.{Option}
use Rattle.station.specs.Limits.{least_output, least_records}
use Rattle.station.specs.Head.{within}
use Rattle.station.specs.Refusal.{Refusal, out_of_limits, too_short, try, first_of}
use Rattle.station.specs.Types.{head_in}
use Rattle.station.specs.WriteHead.{Answer, answer_of, output_of, answer_in}
use Rattle.station.specs.declared.types.Preset as record-of-preset
use Rattle.station.specs.declared.types.Head as record-of-head
use Rattle.station.specs.declared.types.Refusal as cause
use Rattle.placing.specs.Causes.{frame_causes_of}
use Rattle.frame.specs.declared.types.Answer as reply
use Rattle.frame.specs.Types as types
use Rattle.frame.specs.Text.{start_of}
use Rattle.frame.specs.Listing.{answer_line, granted_line, slot_line}

-- the length of what was written, or the refusal; and the output afterwards
pub record WriteOutcome : Type 0 where
  pub answer : Answer
  pub output : List ℕ

-- A line is written at the start of the output, the bytes past it as they were; where a cause
-- holds, nothing is written.
unfoldable pub line_written : List (Option Refusal) → List ℕ → List ℕ → WriteOutcome
line_written causes line out = record { answer = answer_of (first_of causes) (length line); output = output_of (first_of causes) line out }

-- "output below 8,192 bytes, the frame's size regardless"
abbrev pub output_short : List ℕ → Option Refusal
output_short out = try too_short (ltb (length out) least_output)

-- the line of an answer: "Now: the clock. Taken: refinement cells lost. Refused: line and number."
abbrev pub answer_written : ℕ → Result reply.Answer cause.Refusal → List ℕ → WriteOutcome
answer_written n a out = line_written (output_short out ∷ []) (answer_line n (types.answer_in a)) out

-- the line of a grant: "preset number and slots"
abbrev pub grant_written : ℕ → ℕ → List ℕ → WriteOutcome
grant_written n g out = line_written (output_short out ∷ []) (granted_line n g) out

-- The causes of a slot's line where the list has n records: 8 for the output, for the list and for
-- the table, 2 for the head record, 11 for the table, and 2 for "a value .. outside its limits",
-- the slot's number. A slot's line asks for no clock and no order of ties: 11 is tried with those
-- of the start, which every frame passes.
abbrev pub slot_causes : ℕ → record-of-head.Head → List record-of-preset.Preset → List ℕ → ℕ → List ℕ → List (Option Refusal)
slot_causes n head ps t s out = output_short out ∷ try too_short (ltb n least_records) ∷ (frame_causes_of head ps (start_of (head_in head ps) t) ++ (try out_of_limits (not (within 1 head.slots s)) ∷ []))

-- the line of a slot, its number being the paper's, from 1 on: "Slot: its number, then the bridges"
abbrev pub slot_written : ℕ → record-of-head.Head → List record-of-preset.Preset → List ℕ → ℕ → List ℕ → WriteOutcome
slot_written n head ps t s out = line_written (slot_causes n head ps t s out) (slot_line (head_in head ps) t (s - 1)) out

-- What such an entry promises: its answer r and the output afterwards are those of the outcome.
pub record WroteLine (o : WriteOutcome) (r : Result ℕ cause.Refusal) (after : List ℕ) : Type 0 where
  pub answer : answer_in r ≡ o.answer
  pub output : after ≡ o.output
