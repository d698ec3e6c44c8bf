-- What running a whole text is held to: the answer, the head, and every lent cell and byte
-- afterwards, for all texts, tables and outputs. Document 01, "Causes" and "One listing, whole";
-- document 02, 2026-02.
--
-- In order: what a text comes to beside a lent output; what is answered and left of each lent
-- thing; the promise `TextDone`, and what is claimed of a text that runs (`TextClaim`).
-- Assumes nothing.
use Rattle.std.specs.Prelude.{ℕ, ◌≤◌, ◌<◌, ◌≡◌, Bool, List, [], ◌∷◌, length, ltb, Result, Ok, Err}
use Rattle.std.proofs.Math.Option.{none, some}
use Rattle.std.proofs.lemmas.List.Edits.{sets}
use Rattle.station.specs.Limits.{most_bytes, least_output}
use Rattle.station.specs.Head.{Head}
use Rattle.station.specs.Refusal.{Refusal, too_short, text_too_long, try, first_of}
use Rattle.station.specs.Types.{refusal_in}
use Rattle.station.specs.ReadHead.{head_record, records_over}
use Rattle.station.specs.Wrote.{moved}
use Rattle.station.specs.declared.types.Preset as record-of-preset
use Rattle.station.specs.declared.types.Head as record-of-head
use Rattle.station.specs.declared.types.Fault.{Fault}
use Rattle.placing.specs.declared.moment.Moment.{Moment}
use Rattle.placing.specs.Outcomes.{plan_of}
use Rattle.placing.specs.Claims.{PlanClaim}
use Rattle.frame.specs.Event.{Run, run_of}
use Rattle.frame.specs.Text.{Whole, not_read, not_planned, ran, start_of, events_of, whole_of}
use Rattle.frame.specs.Listing.{listing_of}
use Rattle.frame.specs.Demands.{Demand1, Demand2, Demand3}

-- What a text comes to beside a lent output: 10, then 8 for "output below 8,192 bytes" as for a
-- table below 512 cells, then the rest.
unfoldable pub whole_with_output : List ℕ → List ℕ → List ℕ → Whole
whole_with_output text t out =
    elim (first_of (try text_too_long (ltb most_bytes (length text)) ∷ try too_short (ltb (length out) least_output) ∷ []))
    [ none ↦ whole_of text t | some r ↦ not_read 0 r ]

-- how a text ends: the number of bytes of the listing in the output, or the line and the cause of
-- the one refusal
pub data End : Type 0 where
  listed : ℕ → End
  refused_at : ℕ → Refusal → End

abbrev pub end_in : Result ℕ Fault → End
end_in (Ok n) = listed n
end_in (Err f) = refused_at f.line (refusal_in f.cause)

-- what a text leaves beside the table and the output: the code's answer, and the head with its
-- presets, the clock and the order of ties afterwards
pub record TextRun : Type 0 where
  pub ended : Result ℕ Fault
  pub head : record-of-head.Head
  pub presets : List record-of-preset.Preset
  pub clock : ℕ
  pub hold : Bool

abbrev pub text_run : Result ℕ Fault → record-of-head.Head → List record-of-preset.Preset → Moment → TextRun
text_run a head ps m = record { ended = a; head = head; presets = ps; clock = m.clock; hold = m.hold }

-- "Every answer in order": the listing, as far as the output has room for it; a refused head or
-- plan has no listing, and its line and number are answered.
unfoldable pub end_of : Whole → List ℕ → End
end_of (not_read n r) out = refused_at n r
end_of (not_planned h n r) out = refused_at n r
end_of (ran h n g r) out = listed (moved (length out) 0 (length (listing_of (ran h n g r))))

-- The head afterwards: a head that is not read leaves the one handed in; "the head is the one read"
-- where the required slots do not fit.
unfoldable pub head_after : Whole → record-of-head.Head → record-of-head.Head
head_after (not_read n r) head = head
head_after (not_planned h n r) head = head_record h
head_after (ran h n g r) head = head_record h

unfoldable pub presets_after : Whole → List record-of-preset.Preset → List record-of-preset.Preset
presets_after (not_read n r) ps = ps
presets_after (not_planned h n r) ps = records_over h.presets ps
presets_after (ran h n g r) ps = records_over h.presets ps

-- The table, the clock, the order of ties and the output afterwards: a refusal leaves them as they
-- were.
unfoldable pub table_after : Whole → List ℕ → List ℕ
table_after (not_read n r) t = t
table_after (not_planned h n r) t = t
table_after (ran h n g r) t = r.after.table

unfoldable pub clock_after : Whole → ℕ → ℕ
clock_after (not_read n r) clock = clock
clock_after (not_planned h n r) clock = clock
clock_after (ran h n g r) clock = r.after.clock

unfoldable pub hold_after : Whole → Bool → Bool
hold_after (not_read n r) hold = hold
hold_after (not_planned h n r) hold = hold
hold_after (ran h n g r) hold = r.after.hold

unfoldable pub output_after : Whole → List ℕ → List ℕ
output_after (not_read n r) out = out
output_after (not_planned h n r) out = out
output_after (ran h n g r) out = sets out 0 (listing_of (ran h n g r))

-- What `run_text_by_value` answers and leaves where the text comes to w.
pub record Leaves (w : Whole) (given : record-of-head.Head) (ps : List record-of-preset.Preset) (t : List ℕ) (c : ℕ) (order : Bool) (out t₁ out₁ : List ℕ)
    (r : TextRun) : Type 0 where
  pub ended : end_in r.ended ≡ end_of w out
  pub head : r.head ≡ head_after w given
  pub presets : r.presets ≡ presets_after w ps
  pub table : t₁ ≡ table_after w t
  pub clock : r.clock ≡ clock_after w c
  pub hold : r.hold ≡ hold_after w order
  pub output : out₁ ≡ output_after w out

abbrev pub TextDone : List ℕ → record-of-head.Head → List record-of-preset.Preset → List ℕ → ℕ → Bool → List ℕ → List ℕ → List ℕ → TextRun → Type 0
TextDone text head ps t clock hold out t₁ out₁ r = Leaves (whole_with_output text t out) head ps t clock hold out t₁ out₁ r

-- What is claimed of a text beside a table and an output, whatever they are: the three demands, of
-- the very outcome that `run_text_by_value` answers and leaves. That it holds for all of them is
-- `text_claim` in proofs/text/WholeText.antt.
pub record TextClaim (text t out : List ℕ) : Type 0 where
  -- "output below 8,192 bytes" is 8 at line 0; beside any other output a text comes to what demand
  -- 1 speaks of
  pub short_output : length text ≤ most_bytes → length out < least_output → whole_with_output text t out ≡ not_read 0 too_short
  pub other_output : least_output ≤ length out → whole_with_output text t out ≡ whole_of text t
  -- "every station file, of whatever bytes, ends as a plan or as one numbered refusal", and each
  -- later line is accepted or changes nothing
  pub demand1 : Demand1 text t
  -- a text that ran has run every line after its head, from its plan, the first clock and the
  -- head's order of ties on
  pub events : (h : Head) (n : ℕ) (g : List ℕ) (r : Run) → whole_with_output text t out ≡ ran h n g r → r ≡ run_of h (start_of h (plan_of h t).table) (events_of text n)
  -- its grants, its plan's table and the table after each call, whatever table that meets, are
  -- those of the rules
  pub demand2 : (h : Head) (n : ℕ) (g : List ℕ) (r : Run) → whole_with_output text t out ≡ ran h n g r → (u : List ℕ) → Demand2 h u
  -- demand 3 over the list of all its lines after the head, and what it says of the plan
  pub demand3 : (h : Head) (n : ℕ) (g : List ℕ) (r : Run) → whole_with_output text t out ≡ ran h n g r → Demand3 h (start_of h (plan_of h t).table) (events_of text n)
  pub plan : (h : Head) (n : ℕ) (g : List ℕ) (r : Run) → whole_with_output text t out ≡ ran h n g r → PlanClaim h t
