-- What the entry run_text over a borrowed list of preset records is held to, for every input.
-- Document 01, "Presets stand in a lent list of records, in file order", and "Causes": "preset list
-- below 32 records" is 8, which is tried after 10.
--
-- In order: what a text comes to (`whole_on_slice`) and leaves (`TextOnSlice`); that with and
-- without its records (`TextAnswer`, `answer_of`, `text_left`); what is claimed of a text
-- (`SliceClaim`); the promise of `run_text` (`TextEntry`).
-- Assumes nothing.
use Rattle.std.specs.Prelude.{ℕ, ◌≤◌, ◌<◌, ◌≡◌, Bool, List, [], ◌∷◌, length, ltb, Result}
use Rattle.std.proofs.Math.Option.{none, some}
use Rattle.station.specs.Limits.{most_bytes, least_records}
use Rattle.station.specs.Refusal.{Refusal, too_short, text_too_long, try, first_of}
use Rattle.station.specs.declared.types.Preset as record-of-preset
use Rattle.station.specs.declared.types.Head as record-of-head
use Rattle.station.specs.declared.types.Fault.{Fault}
use Rattle.placing.specs.declared.moment.Moment.{Moment}
use Rattle.frame.specs.Text.{Whole, not_read}
use Rattle.frame.specs.TextDone.{whole_with_output, refused_at, end_in, TextRun, Leaves, TextClaim}

-- What a text comes to where the list has so many records: "Tried in the order 10, 8, ..", both at
-- line 0, and then as beside a lent output.
unfoldable pub whole_on_slice : ℕ → List ℕ → List ℕ → List ℕ → Whole
whole_on_slice records text t out =
    elim (first_of (try text_too_long (ltb most_bytes (length text)) ∷ try too_short (ltb records least_records) ∷ []))
    [ none ↦ whole_with_output text t out | some r ↦ not_read 0 r ]

-- What running a text answers and leaves of the head, the records, the table, the clock, the order
-- of ties and the output.
abbrev pub TextOnSlice : ℕ → List ℕ → record-of-head.Head → List record-of-preset.Preset → List ℕ → ℕ → Bool → List ℕ → List ℕ → List ℕ → TextRun → Type 0
TextOnSlice records text head ps t clock hold out t₁ out₁ r = Leaves (whole_on_slice records text t out) head ps t clock hold out t₁ out₁ r

-- what a text leaves beside its records: the code's answer, and the head, the clock and the order
-- of ties afterwards
pub record TextAnswer : Type 0 where
  pub ended : Result ℕ Fault
  pub head : record-of-head.Head
  pub clock : ℕ
  pub hold : Bool

abbrev pub text_answer : Result ℕ Fault → record-of-head.Head → Moment → TextAnswer
text_answer a head m = record { ended = a; head = head; clock = m.clock; hold = m.hold }

-- that of all that a text leaves
abbrev pub answer_of : TextRun → TextAnswer
answer_of r = record { ended = r.ended; head = r.head; clock = r.clock; hold = r.hold }

-- an answer and the list afterwards, as all that a text leaves
abbrev pub text_left : TextAnswer → List record-of-preset.Preset → TextRun
text_left r ps = record { ended = r.ended; head = r.head; presets = ps; clock = r.clock; hold = r.hold }

-- What is claimed of a text where the list has so many records, whatever the text, the table and
-- the output are.
pub record SliceClaim (records : ℕ) (text t out : List ℕ) : Type 0 where
  -- "preset list below 32 records" is 8 at line 0; with any other list a text comes to what is
  -- claimed of it beside the output
  pub short_list : length text ≤ most_bytes → records < least_records → whole_on_slice records text t out ≡ not_read 0 too_short
  pub other_list : least_records ≤ records → whole_on_slice records text t out ≡ whole_with_output text t out
  pub claim : TextClaim text t out

-- What `run_text` answers and leaves, the list of preset records too, and what is claimed of it.
pub record TextEntry (text : List ℕ) (head : record-of-head.Head) (ps : List record-of-preset.Preset) (t : List ℕ) (clock : ℕ) (hold : Bool) (out : List ℕ)
    (ps₁ : List record-of-preset.Preset) (t₁ out₁ : List ℕ) (r : TextAnswer) : Type 0 where
  pub done : TextOnSlice (length ps) text head ps t clock hold out t₁ out₁ (text_left r ps₁)
  -- a refusal leaves table, clock, order of ties and output, also where "the head is the one read"
  pub unchanged : (n : ℕ) (c : Refusal) → end_in r.ended ≡ refused_at n c → (t₁ ≡ t) × (r.clock ≡ clock) × (r.hold ≡ hold) × (out₁ ≡ out)
  pub claim : SliceClaim (length ps) text t out
