-- "A head written to rows and read again has the same busy cells", as a consequence of the contracts of `write_rows` and `read_rows`: into any head record of the same slots and
-- bridges that some text yields, with a list of its own.
--
-- In order: what was written (`rows_wrote`); `rows_written_then_read`.
-- Assumes nothing.
use Prim.Native.Nat.{ℕ, ◌≤◌}
use native.Mathlib.Omega.{arith}
use mathlib.Core.Path.{◌≡◌, refl, sym, ◌∙◌, ap}
use mathlib.Core.Bool.{true, not}
use mathlib.Core.Option.{Option, none, some}
use mathlib.Core.List.{List, [], ◌∷◌}
use lib.ListN.{length, take, drop}
use lib.Seq.{take_at}
use lib.Dec.{ltb}
use Rattle.laws.proofs.Tests.{true_of_not}
use Rattle.station.specs.declared.types.Preset.{Preset}
use Rattle.station.specs.declared.types.Head.{Head}
use Rattle.std.specs.Prelude.{Result}
use Rattle.station.specs.declared.types.Refusal as code
use Rattle.station.specs.Refusal.{Refusal, out_of_limits, too_short, try, first_of}
use Rattle.station.specs.Reading.{Reading}
use Rattle.station.specs.Types.{head_in, valid_record}
use Rattle.station.specs.WriteHead.{written, refused, answer_in, answer_of, output_of, write_causes}
use Rattle.station.specs.Entries.{entry_causes}
use Rattle.station.specs.Row.{mask_rows, rows_text}
use Rattle.station.specs.RowEntries.{RowsRead, rows_reading, rows_read, rows_accepted, WroteRows}
use Rattle.station.proofs.Refusal.{first_none}
use Rattle.station.proofs.check.ValidRecord.{valid_head}
use Rattle.station.proofs.rows.RowCauses.{rows_tried}
use Rattle.station.proofs.rows.RowsWritten.{rows_fit}
use Rattle.station.proofs.rows.RowsMeaning.{rows_round}

module _ (h : Head) (ps : List Preset) (out after : List ℕ) (w : Result ℕ code.Refusal) (k : ℕ) (wrote : WroteRows (length ps) h ps out w after) (answered : answer_in w ≡ written k) where
  abbrev cause : Option Refusal
  cause = first_of (entry_causes (length ps) h ps out)

  -- what was written: the record is one that some text yields, and the rows stand at the start of the output
  record Rows : Type 0 where
    ok : valid_record h ps ≡ true
    text : take k after ≡ rows_text h.busy

  rows_wrote : Rows
  rows_wrote = go cause refl
    where
      valid_record_lem : cause ≡ none → valid_record h ps ≡ true
      valid_record_lem e =
          let list = first_none too_short (ltb (length ps) 32) (write_causes h ps out) e in
          let output = first_none too_short (ltb (length out) 8192) (try out_of_limits (not (valid_record h ps)) ∷ []) list.1 in
          true_of_not (valid_record h ps) (first_none out_of_limits (not (valid_record h ps)) [] output.1).0

      go : (c : Option Refusal) → cause ≡ c → Rows
      go none e =
          let same : written k ≡ written (length (rows_text h.busy)) =
          sym answered ∙ wrote.answer ∙ ap (λ (c : Option Refusal). answer_of c (length (rows_text h.busy))) e in
          let size : length (rows_text h.busy) ≡ k = cc in
          record {
            ok = valid_record_lem e;
            text =
                ap (take k) (wrote.output ∙ ap (λ (c : Option Refusal). output_of c (rows_text h.busy) out) e)
                ∙ take_at (rows_text h.busy) (drop (length (rows_text h.busy)) out) k size;
          }
      go (some c) e =
          let same : written k ≡ refused 0 c = sym answered ∙ wrote.answer ∙ ap (λ (d : Option Refusal). answer_of d (length (rows_text h.busy))) e in
          cc

  -- the rows written, read into a head record of the same frame, are the busy cells of the first; slots, bridges and presets are the second's
  pub rows_written_then_read : (g : Head) (qs : List Preset) (r : RowsRead) → 32 ≤ length qs → valid_record g qs ≡ true → g.slots ≡ h.slots → g.bridges ≡ h.bridges
      → r ≡ rows_read (rows_reading (length qs) g qs (take k after)) g → r ≡ rows_accepted (length (mask_rows 1 h.busy)) g h.busy
  rows_written_then_read g qs r enough ok slots bridges e =
      let valid = valid_head h ps rows_wrote.ok in
      let short : length (rows_text h.busy) ≤ 32768 = omega (arith, rows_fit (head_in h ps) valid) in
      e
      ∙ ap (λ (t : List ℕ). rows_read (rows_reading (length qs) g qs t) g) rows_wrote.text
      ∙ sym (rows_tried (length qs) g qs (rows_text h.busy) short enough ok)
      ∙ ap (λ (x : Reading). rows_read x g) (rows_round (head_in h ps) (head_in g qs) valid (valid_head g qs ok) slots bridges)
