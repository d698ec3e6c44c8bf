-- Laws of a head's rows, run by run, as the writer's loops meet them.
--
-- In order: the rows of a bridge from one run of busy slots on (`row_step`); the rows of the bridges from one bridge on (`bridge_rows_step`); the answer and output of
-- writing rows of the first 32 records by value, by the cause (`rows_refused_lem`, `rows_written_lem`).
-- Assumes nothing.
use Prim.Native.Nat.{ℕ, suc, ◌-◌, ◌≤◌, ◌<◌}
use native.Mathlib.Nat.{le_refl}
use native.Mathlib.Omega.{arith}
use mathlib.Core.Path.{◌≡◌, refl, sym, ◌∙◌, ap}
use mathlib.Core.Bool.{true, false}
use mathlib.Core.Option.{Option, none, some}
use mathlib.Core.List.{List, ◌++◌}
use lib.ListN.{length, drop, get_or}
use lib.Seq.{drop-cons}
use Rattle.station.specs.declared.types.Preset.{Preset}
use Rattle.station.specs.declared.types.Head.{Head}
use Rattle.std.specs.Prelude.{Ok, Err}
use Rattle.station.specs.declared.types.Refusal as code
use Rattle.station.specs.Head.{has_bit}
use Rattle.station.specs.Refusal.{Refusal, first_of}
use Rattle.station.specs.Form.{Pairs}
use Rattle.station.specs.Writing.{stretches}
use Rattle.station.specs.method.Runs.{busy_from, free_from, stretches_from}
use Rattle.station.specs.Types.{head_in}
use Rattle.station.specs.Row.{row, print_row, stretch_rows, bridge_rows, mask_rows, bare, rows_text}
use Rattle.station.specs.Wrote.{Wrote}
use Rattle.station.specs.WriteHead.{cause_in, write_causes}
use Rattle.station.specs.Entries.{entry_causes}
use Rattle.station.specs.RowEntries.{WroteRows}
use Rattle.station.proofs.check.ValidRecord.{valid_head}
use Rattle.station.proofs.write.MaskRuns.{run_then, run_step}
use Rattle.station.proofs.write.HeadLines.{text_refused, text_written, none_valid}
use Rattle.station.proofs.entries.ListOfRecords.{entry_enough}
use Rattle.station.proofs.rows.RowsWritten.{bare_append, rows_fit}

-- the rows of a run and of those after it
text_run : (b f t : ℕ) (o : Option Pairs) → bare (bridge_rows b (some (run_then f t o))) ≡ print_row false false false (row b f t) ++ bare (bridge_rows b o)
unfolding bare stretch_rows
text_run b f t none = refl
text_run b f t (some p) = refl

-- From the busy slot i of bridge b on: the row of its run, which ends in slot t, and the rows from the next busy slot n on.
pub row_step : (b m i t n : ℕ) → i < 64 → has_bit m i ≡ true → t ≡ free_from (64 - i) m i → n ≡ busy_from (64 - t) m t
    → bare (bridge_rows b (stretches_from (64 - i) m i)) ≡ print_row false false false (row b (suc i) t) ++ bare (bridge_rows b (stretches_from (64 - n) m n))
row_step b m i t n h e to after =
    ap (λ (o : Option Pairs). bare (bridge_rows b o)) (run_step m i t n h e to after) ∙ text_run b (suc i) t (stretches_from (64 - n) m n)

-- the rows of the bridges from b on, counted from 0: those of b, and the others
pub bridge_rows_step : (b : ℕ) (busy : List ℕ) → b < length busy
    → bare (mask_rows (suc b) (drop b busy)) ≡ bare (bridge_rows (suc b) (stretches 64 1 (get_or busy b 0))) ++ bare (mask_rows (suc (suc b)) (drop (suc b) busy))
unfolding mask_rows
bridge_rows_step b busy h =
    rw (drop-cons busy b 0 h) (bare_append (bridge_rows (suc b) (stretches 64 1 (get_or busy b 0))) (mask_rows (suc (suc b)) (drop (suc b) busy)))

-- ---- the answer and output, by the cause that holds

module _ (h : Head) (ps : List Preset) (out : List ℕ) where
  -- with 32 records the causes are those of writing a head
  rows_cause : {c : Option Refusal} → c ≡ first_of (write_causes h ps out) → c ≡ first_of (entry_causes 32 h ps out)
  rows_cause e = e ∙ sym (entry_enough 32 h ps out (le_refl 32))

  pub rows_refused_lem : (r : code.Refusal) → cause_in (Err r) ≡ first_of (write_causes h ps out) → WroteRows 32 h ps out (Err r) out
  rows_refused_lem r e = let both = text_refused (first_of (entry_causes 32 h ps out)) r (rows_text h.busy) out (rows_cause e) in record { answer = both.0; output = both.1 }

  pub rows_written_lem : (n : ℕ) (after : List ℕ) → none ≡ first_of (write_causes h ps out) → Wrote out 0 (rows_text h.busy) after n → WroteRows 32 h ps out (Ok n) after
  rows_written_lem n after e w =
      let room = none_valid h ps out e in
      let fits : length (rows_text h.busy) ≤ length out = omega (arith, room.0, rows_fit (head_in h ps) (valid_head h ps room.1)) in
      let both = text_written (first_of (entry_causes 32 h ps out)) (rows_text h.busy) out after n (rows_cause e) fits w in
      record { answer = both.0; output = both.1 }
