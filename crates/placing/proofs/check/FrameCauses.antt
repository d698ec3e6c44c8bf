-- The causes as the code tries them, src/check.rt: a law for each answer, and what is known where none is met.
--
-- In order: the causes of a head record (`causes_none`), and of a running frame (`frame-..`), against those of the head that it stands for (`same_frame`, `frame_running`,
-- `running_frame`).
-- Assumes nothing.
use Prim.Native.Nat.{ℕ, ◌≤◌, ◌<◌}
use mathlib.Core.Path.{◌≡◌, sym, ◌∙◌}
use mathlib.Core.Bool.{true, false, not}
use mathlib.Core.Option.{Option, none, some}
use mathlib.Core.List.{List, [], ◌∷◌}
use lib.ListN.{length}
use lib.Dec.{ltb}
use Rattle.laws.proofs.Tests.{not_is_true, not_is_false, true_of_not}
use Rattle.laws.proofs.Comparisons.{ge_of, ltb_yes, ltb_no}
use Rattle.station.specs.Head.{Head}
use Rattle.station.specs.Refusal.{Refusal, out_of_limits, too_short, not_well_formed, try, first_of}
use Rattle.station.proofs.Theorems.{first_of_none, passed, first_none, append_none, append_left_none}
use Rattle.station.specs.Types.{head_in, valid_record}
use Rattle.station.specs.declared.types.Preset as record-of-preset
use Rattle.station.specs.declared.types.Head as record-of-head
use Rattle.placing.specs.State.{State, well_formed_frame}
use Rattle.placing.specs.Outcomes.{frame_causes}
use Rattle.placing.specs.Causes.{causes_of, frame_causes_of}
use Rattle.placing.specs.Claims.{Running}
use Rattle.placing.proofs.Causes.{met, record_causes, no_record_cause, running_of, of_running}
use Rattle.placing.proofs.HeadRecord.{record_valid}

-- ---- the causes of a head record

pub causes_none : (head : record-of-head.Head) (ps : List record-of-preset.Preset) (t : List ℕ) → 512 ≤ length t → valid_record head ps ≡ true
    → first_of (causes_of head ps t) ≡ none
causes_none head ps t l v =
    passed too_short (ltb (length t) 512) _ (ltb_no (length t) 512 l)
    ∙ passed out_of_limits (not (valid_record head ps)) [] (not_is_false _ v)
    ∙ first_of_none

-- ---- the causes of a running frame

module _ (head : record-of-head.Head) (ps : List record-of-preset.Preset) (st : State) where
  abbrev h : Head
  h = head_in head ps

  abbrev pub eleven : List (Option Refusal)
  eleven = try not_well_formed (not (well_formed_frame h st)) ∷ []

  pub frame_short : length st.table < 512 → some too_short ≡ first_of (frame_causes_of head ps st)
  frame_short l = sym (met too_short (ltb (length st.table) 512) _ (ltb_yes (length st.table) 512 l))

  pub frame_invalid : 512 ≤ length st.table → valid_record head ps ≡ false → some out_of_limits ≡ first_of (frame_causes_of head ps st)
  frame_invalid l v =
      sym (passed too_short (ltb (length st.table) 512) _ (ltb_no (length st.table) 512 l) ∙ met out_of_limits (not (valid_record head ps)) _ (not_is_true _ v))

  module _ (l : 512 ≤ length st.table) (v : valid_record head ps ≡ true) where
    frame_last : first_of (frame_causes_of head ps st) ≡ first_of eleven
    frame_last = append_none (causes_of head ps st.table) eleven (causes_none head ps st.table l v)

    pub frame_fault : well_formed_frame h st ≡ false → some not_well_formed ≡ first_of (frame_causes_of head ps st)
    frame_fault e = sym (frame_last ∙ met not_well_formed (not (well_formed_frame h st)) [] (not_is_true _ e))

    pub frame_passed : well_formed_frame h st ≡ true → none ≡ first_of (frame_causes_of head ps st)
    frame_passed e = sym (frame_last ∙ passed not_well_formed (not (well_formed_frame h st)) [] (not_is_false _ e) ∙ first_of_none)

  -- what is known where no cause is met
  pub frame_known : first_of (frame_causes_of head ps st) ≡ none → (512 ≤ length st.table) × (valid_record head ps ≡ true)
  frame_known e =
      let eight = first_none too_short (ltb (length st.table) 512) _ (append_left_none (causes_of head ps st.table) eleven e) in
      let two = first_none out_of_limits (not (valid_record head ps)) [] eight.1 in
      (ge_of (length st.table) 512 eight.0, true_of_not _ two.0)

  -- where the table and the head record meet no cause, the causes of the frame are those of the head
  pub same_frame : first_of (causes_of head ps st.table) ≡ none → first_of (frame_causes_of head ps st) ≡ first_of (frame_causes h st)
  same_frame e =
      let eight = first_none too_short (ltb (length st.table) 512) _ e in
      let two = first_none out_of_limits (not (valid_record head ps)) [] eight.1 in
      append_none (causes_of head ps st.table) eleven e
      ∙ sym (append_none (record_causes h st.table) eleven
      (no_record_cause h st.table (ge_of (length st.table) 512 eight.0) (record_valid head ps (true_of_not _ two.0))))

  -- a frame that meets none is a running one, and a running one meets none
  pub frame_running : first_of (frame_causes_of head ps st) ≡ none → (valid_record head ps ≡ true) × Running h st
  frame_running e = ((frame_known e).1, running_of h st (sym (same_frame (append_left_none (causes_of head ps st.table) eleven e)) ∙ e))

  pub running_frame : valid_record head ps ≡ true → Running h st → first_of (frame_causes_of head ps st) ≡ none
  running_frame v run = same_frame (causes_none head ps st.table run.long v) ∙ of_running h st run
