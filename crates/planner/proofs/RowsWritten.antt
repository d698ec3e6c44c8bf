-- What `planner_write_rows` answers and leaves, law by law.
--
-- In order: the causes 8 of the frame and of the presets (`on-..`); where none holds the frame and the presets pass (`passes`), and what is written is short (`fits`) and read back
-- (`rows_back`); what is claimed follows from what is answered and left (`claimed`); rows that are refused by 8 (`write_short`); rows that are handed on
-- (`write_handed`).
-- Assumes nothing.
use Prim.Native.Nat.{ℕ, ◌≤◌, ◌<◌}
use native.Mathlib.Omega.{arith}
use mathlib.Core.Path.{◌≡◌, refl, sym, ◌∙◌, ap}
use mathlib.Core.Bool.{not}
use mathlib.Core.Option.{Option, none, some}
use mathlib.Core.List.{List, [], ◌∷◌}
use lib.ListN.{length, drop}
use lib.Seq.{take-append_seam}
use lib.Dec.{ltb}
use mathlib.Core.Logic.{inl, inr}
use Rattle.std.specs.Prelude.{Result}
use Rattle.station.specs.declared.types.Station.{Station}
use Rattle.laws.proofs.Tests.{true_of_not}
use Rattle.laws.proofs.Comparisons.{ge_of, ltb_yes, ltb_no}
use Rattle.station.specs.Head.{Valid, with_busy}
use Rattle.station.specs.Refusal.{Refusal, out_of_limits, too_short, try, first_of}
use Rattle.station.specs.Types.{valid_record}
use Rattle.station.specs.declared.types.Preset as record-of-preset
use Rattle.station.specs.declared.types.Head as record-of-head
use Rattle.station.specs.declared.types.Refusal as code
use Rattle.station.specs.WriteHead.{Answer, answer_in, answer_of, output_of, write_causes}
use Rattle.station.specs.Reading.{accepted}
use Rattle.station.specs.Row.{mask_rows, rows_text}
use Rattle.station.specs.RowEntries.{WroteRows}
use Rattle.station.proofs.Theorems.{number_some, first_none, rows_fit, rows_round}
use Rattle.placing.proofs.Theorems.{record_valid}
use Rattle.planner.specs.Layout.{records_in, frame_numbers, head_of_numbers}
use Rattle.planner.proofs.RowsRead.{on_rows}
use Rattle.planner.specs.Exports.{head_on, ShortOf, LentStation, HeadPasses, written_returned, value, rows_on, rows_write_causes, rows_written, RowsWrittenLeaves, RowsWrittenPromise}

module _ (f p out : List ℕ) where
  abbrev cause : Option Refusal
  cause = first_of (rows_write_causes f p out)

  abbrev text : List ℕ
  text = rows_text (head_of_numbers f).busy

  on_short_frame : length f < frame_numbers → cause ≡ some too_short
  unfolding first_of
  on_short_frame s = rw (ltb_yes (length f) frame_numbers s) refl

  on_short_presets : frame_numbers ≤ length f → length p < 128 → cause ≡ some too_short
  unfolding first_of
  on_short_presets k s = rw (ltb_no (length f) frame_numbers k, ltb_yes (length p) 128 s) refl

  on_enough : frame_numbers ≤ length f → 128 ≤ length p → cause ≡ first_of (write_causes (head_of_numbers f) (records_in p) out)
  unfolding first_of
  on_enough k s = rw (ltb_no (length f) frame_numbers k, ltb_no (length p) 128 s) refl

  -- where no cause holds the frame and the presets pass
  passes : cause ≡ none → HeadPasses f p
  passes e =
      let valid = valid_record (head_of_numbers f) (records_in p) in
      let frame = first_none too_short (ltb (length f) frame_numbers) (try too_short (ltb (length p) 128) ∷ write_causes (head_of_numbers f) (records_in p) out) e in
      let presets = first_none too_short (ltb (length p) 128) (write_causes (head_of_numbers f) (records_in p) out) frame.1 in
      let output = first_none too_short (ltb (length out) 8192) (try out_of_limits (not valid) ∷ []) presets.1 in
      record {
        numbers = ge_of (length f) frame_numbers frame.0;
        records = ge_of (length p) 128 presets.0;
        valid = true_of_not valid (first_none out_of_limits (not valid) [] output.1).0;
      }

  module _ (e : cause ≡ none) where
    head_valid : Valid (head_on f p)
    head_valid = record_valid (head_of_numbers f) (records_in p) (passes e).valid

    fits : length text ≤ 2240
    fits = rows_fit (head_on f p) head_valid

    -- what is written is read back
    rows_back : (g q : List ℕ) → HeadPasses g q → (head_of_numbers g).slots ≡ (head_of_numbers f).slots → (head_of_numbers g).bridges ≡ (head_of_numbers f).bridges
        → rows_on text g q ≡ accepted (with_busy (head_on g q) (head_of_numbers f).busy) (length (mask_rows 1 (head_of_numbers f).busy))
    rows_back g q w slots bridges =
        on_rows text g q (omega (arith, fits)) w
        ∙ rows_round (head_on f p) (head_on g q) head_valid (record_valid (head_of_numbers g) (records_in q) w.valid) slots bridges

  -- what is claimed follows from what is answered and left
  claimed : {out₁ : List ℕ} {n r : ℕ} (c : Option Refusal) → cause ≡ c → r ≡ (written_returned (answer_of c (length text))).number
      → n ≡ value (written_returned (answer_of c (length text))) → out₁ ≡ output_of c text out → RowsWrittenPromise f p out out₁ n r
  claimed none e a m o = record {
    unchanged = λ z. absurd (omega (arith, z, a));
    short = omega (arith, m, fits e);
    passes = λ z. passes e;
    again = λ z g q w s b. ap (λ (t : List ℕ). rows_on t g q) (rw (m, o) (take-append_seam text (drop (length text) out))) ∙ rows_back e g q w s b;
  }
  claimed (some c) e a m o = record {
    unchanged = λ z. o;
    short = omega (arith, m);
    passes = λ z. absurd (number_some c (sym a ∙ z));
    again = λ z. absurd (number_some c (sym a ∙ z));
  }

  -- what is answered and left, and what is claimed
  abbrev Done : List ℕ → ℕ → ℕ → Type 0
  Done out₁ n r = RowsWrittenLeaves f p out out₁ n r × RowsWrittenPromise f p out out₁ n r

  write_done : {out₁ : List ℕ} {n r : ℕ} → r ≡ (written_returned (answer_of cause (length text))).number → n ≡ value (written_returned (answer_of cause (length text)))
      → out₁ ≡ output_of cause text out → Done out₁ n r
  unfolding rows_written
  write_done a m o = (record { answer = a; bytes = m; output = o }, claimed cause refl a m o)

  write_stopped : cause ≡ some too_short → Done out 0 8
  write_stopped e = write_done (rw e refl) (rw e refl) (rw e refl)

  pub write_short : ShortOf f p → Done out 0 8
  write_short (inl s) = write_stopped (on_short_frame s)
  write_short (inr s) = write_stopped (on_short_presets s.0 s.1)

  pub write_handed : (st : Station) (x : Result ℕ code.Refusal) {out₁ : List ℕ} {n r : ℕ} → LentStation f p st → WroteRows 32 st.head st.presets out x out₁
      → n ≡ value (written_returned (answer_in x)) → r ≡ (written_returned (answer_in x)).number → Done out₁ n r
  unfolding first_of
  write_handed st x lent d m e =
      let w : WroteRows 32 (head_of_numbers f) (records_in p) out x _ = rw (lent.head, lent.list) at d in
      let enough = on_enough lent.numbers lent.records in
      let same : answer_in x ≡ answer_of cause (length text) = w.answer ∙ ap (λ (c : Option Refusal). answer_of c (length text)) (sym enough) in
      write_done (e ∙ ap (λ (y : Answer). (written_returned y).number) same) (m ∙ ap (λ (y : Answer). value (written_returned y)) same)
      (w.output ∙ ap (λ (c : Option Refusal). output_of c text out) (sym enough))
