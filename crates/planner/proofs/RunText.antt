-- What `planner_run_text` answers and leaves, law by law.
--
-- In order: what a text comes to by the causes 10 and 8 of the frame and of the presets (`on-..`), and that one that ran met none of them (`on_ran`); a text that is refused by these
-- (`text_long`, `text_short`); what is left of the head and of the records by value, written back (`frame_left_lem`, `presets_left`) and read again
-- (`head_again`, `ran_left`); a text that is run (`text_run`, `text_handed`).
-- Assumes nothing.
use Prim.Native.Nat.{ℕ, ◌≤◌, ◌<◌}
use native.Mathlib.Omega.{arith}
use mathlib.Core.Path.{◌≡◌, refl, sym, ◌∙◌, ap, subst}
use mathlib.Core.Bool.{Bool}
use mathlib.Core.List.{List, map}
use lib.ListN.{length, drop, length-map, length-append, length-drop}
use lib.Dec.{ltb}
use mathlib.Core.Logic.{inl, inr}
use Rattle.std.specs.Prelude.{Result, Ok, Err}
use Rattle.station.specs.declared.types.Fault.{Fault}
use Rattle.station.specs.declared.types.Station.{Station}
use Rattle.placing.specs.declared.moment.Moment.{Moment}
use Rattle.laws.proofs.Tests.{Is, is, is_true, is_false}
use Rattle.laws.proofs.Comparisons.{lt_of, ge_of, ltb_yes, ltb_no}
use Rattle.station.specs.Head.{Head}
use Rattle.station.specs.Refusal.{Refusal, too_short, text_too_long, number_of, first_of}
use Rattle.station.specs.Types.{head_in}
use Rattle.station.specs.declared.types.Preset as record-of-preset
use Rattle.station.specs.declared.types.Head as record-of-head
use Rattle.station.specs.ReadHead.{head_record, record_of, records_over}
use Rattle.station.proofs.Theorems as heads
use Rattle.station.proofs.Theorems.{number_some}
use Rattle.placing.specs.Claims.{Running}
use Rattle.frame.specs.Text.{Whole, not_read, not_planned, ran}
use Rattle.frame.specs.Event.{Run}
use Rattle.frame.specs.TextDone as run
use Rattle.frame.specs.TextDone.{whole_with_output, End, end_in, end_of, head_after, presets_after, table_after, clock_after, hold_after, output_after, TextDone}
use Rattle.frame.proofs.Theorems.{beside_long, text_claim}
use Rattle.planner.specs.Layout.{records_in, bytes_over, frame_numbers, head_of_numbers, clock_of_numbers, hold_of_numbers, numbers_over}
use Rattle.planner.proofs.RoundTrip.{records_back, bytes_back, bytes_over_rest, length_records, head_back, clock_back_lem, hold_back, read_same}
use Rattle.planner.specs.Exports.{head_on, state_on, RunningOn, text_on, end_returned, value, frame_left, frame_after, records_after, TextLeaves, TextPromise, ShortOf, LentStation, number_in, count_in}

-- the end of a text as numbers
ended_number : (a : Result ℕ Fault) → number_in a ≡ (end_returned (end_in a)).number
ended_number (Ok n) = refl
ended_number (Err f) = refl

ended_count : (a : Result ℕ Fault) → count_in a ≡ value (end_returned (end_in a))
ended_count (Ok n) = refl
ended_count (Err f) = refl

unread : {c : Refusal} {h : Head} {m : ℕ} {g : List ℕ} {x : Run} → not_read 0 c ≡ ran h m g x → ⊥
unread q = let z : ◌≡◌ {A = ℕ} 0 1 = cc in omega arith

module _ (text f p t out : List ℕ) where
  on_long : 32768 < length text → text_on text f p t out ≡ not_read 0 text_too_long
  unfolding text_on first_of
  on_long l = rw (ltb_yes 32768 (length text) l, text_on) refl

  on_short_frame : length text ≤ 32768 → length f < frame_numbers → text_on text f p t out ≡ not_read 0 too_short
  unfolding text_on first_of
  on_short_frame l s = rw (ltb_no 32768 (length text) l, ltb_yes (length f) frame_numbers s, text_on) refl

  on_short_presets : length text ≤ 32768 → frame_numbers ≤ length f → length p < 128 → text_on text f p t out ≡ not_read 0 too_short
  unfolding text_on first_of
  on_short_presets l k s = rw (ltb_no 32768 (length text) l, ltb_no (length f) frame_numbers k, ltb_yes (length p) 128 s, text_on) refl

  on_long_enough : length text ≤ 32768 → frame_numbers ≤ length f → 128 ≤ length p → text_on text f p t out ≡ whole_with_output text t out
  unfolding text_on first_of
  on_long_enough l k s = rw (ltb_no 32768 (length text) l, ltb_no (length f) frame_numbers k, ltb_no (length p) 128 s, text_on) refl

  on_enough : frame_numbers ≤ length f → 128 ≤ length p → text_on text f p t out ≡ whole_with_output text t out
  on_enough k s = go (is (ltb 32768 (length text)))
    where
      go : Is (ltb 32768 (length text)) → text_on text f p t out ≡ whole_with_output text t out
      go (is_true l) = let m = lt_of 32768 (length text) l in on_long m ∙ sym (beside_long text t out m)
      go (is_false l) = on_long_enough (ge_of 32768 (length text) l) k s

  -- a text that ran has a frame and presets that are long enough
  pub on_ran : (h : Head) (m : ℕ) (g : List ℕ) (x : Run) → text_on text f p t out ≡ ran h m g x → (frame_numbers ≤ length f) × (128 ≤ length p)
  on_ran h m g x e = go (is (ltb 32768 (length text))) (is (ltb (length f) frame_numbers)) (is (ltb (length p) 128))
    where
      go : Is (ltb 32768 (length text)) → Is (ltb (length f) frame_numbers) → Is (ltb (length p) 128) → (frame_numbers ≤ length f) × (128 ≤ length p)
      go (is_true l) k s = absurd (unread (sym (on_long (lt_of 32768 (length text) l)) ∙ e))
      go (is_false l) (is_true k) s = absurd (unread (sym (on_short_frame (ge_of 32768 (length text) l) (lt_of (length f) frame_numbers k)) ∙ e))
      go (is_false l) (is_false k) (is_true s) = absurd (unread (sym (on_short_presets (ge_of 32768 (length text) l) (ge_of (length f) frame_numbers k) (lt_of (length p) 128 s)) ∙ e))
      go (is_false l) (is_false k) (is_false s) = (ge_of (length f) frame_numbers k, ge_of (length p) 128 s)

  -- what is answered and left, and what is claimed
  abbrev Done : List ℕ → List ℕ → List ℕ → List ℕ → ℕ → ℕ → Type 0
  Done f₁ p₁ t₁ out₁ n r = TextLeaves (text_on text f p t out) f p t out f₁ p₁ t₁ out₁ n r × TextPromise text f p t out f₁ p₁ t₁ r

  text_stopped : (c : Refusal) → text_on text f p t out ≡ not_read 0 c → Done f p t out 0 (number_of c)
  unfolding end_of frame_after records_after table_after output_after
  text_stopped c e = (
    subst (λ (w : Whole). TextLeaves w f p t out f p t out 0 (number_of c)) (sym e)
        (record { answer = refl; end = refl; frame = refl; presets = refl; table = refl; output = refl }),
    record { long = on_enough; claim = text_claim text t out; left = λ h m g x q. absurd (unread (sym e ∙ q)); running = λ z. absurd (number_some c z) },
  )

  pub text_long : 32768 < length text → Done f p t out 0 10
  text_long l = text_stopped text_too_long (on_long l)

  pub text_short : length text ≤ 32768 → ShortOf f p → Done f p t out 0 8
  text_short l (inl s) = text_stopped too_short (on_short_frame l s)
  text_short l (inr s) = text_stopped too_short (on_short_presets l s.0 s.1)

  -- what a text leaves of the frame and of the records by value, written back
  frame_left_lem : (w : Whole) → frame_left (end_of w out) (head_after w (head_of_numbers f)) (clock_after w (clock_of_numbers f)) (hold_after w (hold_of_numbers f)) f ≡ frame_after w f
  unfolding end_of head_after clock_after hold_after frame_after
  frame_left_lem (not_read n r) = read_same f
  frame_left_lem (not_planned h n r) = refl
  frame_left_lem (ran h n g r) = refl

  over_left : (h : Head) → bytes_over (records_over h.presets (records_in p)) p ≡ bytes_over (map record_of h.presets) p
  over_left h = let long : length (map record_of h.presets) ≡ length h.presets = length-map h.presets record_of in rw (sym long) (bytes_over_rest (map record_of h.presets) 32 p)

  presets_left : (w : Whole) → bytes_over (presets_after w (records_in p)) p ≡ records_after w p
  unfolding presets_after records_after
  presets_left (not_read n r) = bytes_back 32 p
  presets_left (not_planned h n r) = over_left h
  presets_left (ran h n g r) = over_left h

  -- a head and its records, written and read again
  head_again : (h : Head) (c : ℕ) (hold : Bool) {f₁ p₁ : List ℕ} → frame_numbers ≤ length f → 128 ≤ length p → length h.busy ≡ 8 → length h.presets ≤ 32
      → f₁ ≡ numbers_over (head_record h) c hold f → p₁ ≡ bytes_over (records_over h.presets (records_in p)) p
      → (head_in (head_of_numbers f₁) (records_in p₁) ≡ h) × (clock_of_numbers f₁ ≡ c) × (hold_of_numbers f₁ ≡ hold)
  head_again h c hold {f₁} {p₁} k s eight few a b =
      let all : length (records_over h.presets (records_in p)) ≡ 32 =
      omega (arith, few, length-append (map record_of h.presets) (drop (length h.presets) (records_in p)), length-map h.presets record_of, length-drop (length h.presets) (records_in p), length_records 32 p) in
      let back : records_in p₁ ≡ records_over h.presets (records_in p) =
      ap records_in b ∙ (rw all at (records_back (records_over h.presets (records_in p)) p (omega (arith, all, s)))) in (
        ap (λ (g : record-of-head.Head). head_in g (records_in p₁)) (ap head_of_numbers a ∙ head_back (head_record h) c hold f eight k)
            ∙ ap (head_in (head_record h)) back
            ∙ heads.head_back h (records_in p),
        ap clock_of_numbers a ∙ clock_back_lem (head_record h) c hold f eight k,
        ap hold_of_numbers a ∙ hold_back (head_record h) c hold f eight k,
      )

  module _ {f₁ p₁ t₁ out₁ : List ℕ} {x : run.TextRun} (k : frame_numbers ≤ length f) (s : 128 ≤ length p) (d : TextDone text (head_of_numbers f) (records_in p) t (clock_of_numbers f) (hold_of_numbers f) out t₁ out₁ x)
      (a : f₁ ≡ frame_left (end_in x.ended) x.head x.clock x.hold f) (b : p₁ ≡ bytes_over x.presets p) where
    ran_runs : (h : Head) (n : ℕ) (g : List ℕ) (r : Run) → whole_with_output text t out ≡ ran h n g r → Running h r.after
    ran_runs h n g r e = subst (λ (y : Run). Running h y.after) (sym ((text_claim text t out).events h n g r e)) ((text_claim text t out).demand3 h n g r e).running

    -- the head and the last state of a text that ran
    ran_left : (h : Head) (n : ℕ) (g : List ℕ) (r : Run) → whole_with_output text t out ≡ ran h n g r → (head_on f₁ p₁ ≡ h) × (state_on f₁ t₁ ≡ r.after)
    unfolding end_of head_after presets_after table_after clock_after hold_after
    ran_left h n g r e =
        let after = ran_runs h n g r e in
        let end : end_in x.ended ≡ end_of (ran h n g r) out = d.ended ∙ ap (λ (w : Whole). end_of w out) e in
        let head : x.head ≡ head_record h = d.head ∙ ap (λ (w : Whole). head_after w (head_of_numbers f)) e in
        let clock : x.clock ≡ r.after.clock = d.clock ∙ ap (λ (w : Whole). clock_after w (clock_of_numbers f)) e in
        let hold : x.hold ≡ r.after.hold = d.hold ∙ ap (λ (w : Whole). hold_after w (hold_of_numbers f)) e in
        let records : x.presets ≡ records_over h.presets (records_in p) = d.presets ∙ ap (λ (w : Whole). presets_after w (records_in p)) e in
        let table : t₁ ≡ r.after.table = d.table ∙ ap (λ (w : Whole). table_after w t) e in
        let again = head_again h r.after.clock r.after.hold k s after.valid.masks after.valid.number_of_presets
        (a
        ∙ ap (λ (y : End). frame_left y x.head x.clock x.hold f) end
        ∙ ap (λ (g : record-of-head.Head). numbers_over g x.clock x.hold f) head
        ∙ ap (λ (c : ℕ). numbers_over (head_record h) c x.hold f) clock
        ∙ ap (λ (b : Bool). numbers_over (head_record h) r.after.clock b f) hold)
        (b ∙ ap (λ (l : List record-of-preset.Preset). bytes_over l p) records) in
        (again.0, rw (again.1, again.2, table) refl)

    ran_running : (w : Whole) → whole_with_output text t out ≡ w → (end_returned (end_of w out)).number ≡ 0 → RunningOn f₁ p₁ t₁
    unfolding end_of
    ran_running (not_read n r) e z = absurd (number_some r z)
    ran_running (not_planned h n r) e z = absurd (number_some r z)
    ran_running (ran h n g r) e z = let same = ran_left h n g r e in rw (same.0, same.1) (ran_runs h n g r e)

    abbrev whole : Whole
    whole = whole_with_output text t out

    text_run : {n r : ℕ} → n ≡ value (end_returned (end_in x.ended)) → r ≡ (end_returned (end_in x.ended)).number → Done f₁ p₁ t₁ out₁ n r
    text_run {n} {r} e₁ e₂ = (
      subst (λ (w : Whole). TextLeaves w f p t out f₁ p₁ t₁ out₁ n r) (sym (on_enough k s)) (record {
        answer = e₂ ∙ ap (λ (x : End). (end_returned x).number) d.ended;
        end = e₁ ∙ ap (λ (x : End). value (end_returned x)) d.ended;
        frame =
            a
            ∙ ap (λ (y : End). frame_left y x.head x.clock x.hold f) d.ended
            ∙ ap (λ (g : record-of-head.Head). frame_left (end_of whole out) g x.clock x.hold f) d.head
            ∙ ap (λ (c : ℕ). frame_left (end_of whole out) (head_after whole (head_of_numbers f)) c x.hold f) d.clock
            ∙ ap (λ (b : Bool). frame_left (end_of whole out) (head_after whole (head_of_numbers f)) (clock_after whole (clock_of_numbers f)) b f) d.hold
            ∙ frame_left_lem whole;
        presets = b ∙ ap (λ (l : List record-of-preset.Preset). bytes_over l p) d.presets ∙ presets_left whole;
        table = d.table;
        output = d.output;
      }),
      record {
        long = on_enough;
        claim = text_claim text t out;
        left = λ h m g y q. ran_left h m g y (sym (on_enough k s) ∙ q);
        running = λ z. ran_running whole refl (sym (ap (λ (x : End). (end_returned x).number) d.ended) ∙ sym e₂ ∙ z);
      },
    )

  -- the same of what was read of the frame and of the presets
  pub text_handed : (st : Station) (m : Moment) (x : run.TextRun) {f₁ p₁ t₁ out₁ : List ℕ} {n r : ℕ} → LentStation f p st → m.clock ≡ clock_of_numbers f → m.hold ≡ hold_of_numbers f
      → TextDone text st.head st.presets t m.clock m.hold out t₁ out₁ x
      → f₁ ≡ frame_left (end_in x.ended) x.head x.clock x.hold f → p₁ ≡ bytes_over x.presets p → n ≡ count_in x.ended → r ≡ number_in x.ended → Done f₁ p₁ t₁ out₁ n r
  text_handed st m x lent e i d f₂ p₂ n r =
      text_run {x = x} lent.numbers lent.records (rw (lent.head, lent.list, e, i) at d) f₂ p₂ (n ∙ ended_count x.ended) (r ∙ ended_number x.ended)
