-- Events handed over one by one come to what the list comes to, so that demand 3 holds of the whole list.
--
-- In order: one call of an entry (`entry_step`, `call_step`); the list (`handed_run`), and the claim (`handed_over`); what `plan` and `run_text` leave is a start for such a list
-- (`plan_lets_pass`, `text_lets_pass`), and the lines of a text with what is handed over after it are one list (`text_then_handed`).
-- Assumes nothing.
use Prim.Native.Nat.{ℕ, ◌≤◌}
use native.Mathlib.Omega.{arith}
use mathlib.Core.Path.{◌≡◌, refl, sym, ◌∙◌, ap, ap₂, subst}
use mathlib.Core.Bool.{Bool, true, not}
use mathlib.Core.Option.{Option, none, some}
use mathlib.Core.List.{List, [], ◌∷◌, ◌++◌, map}
use lib.ListN.{length, take, drop, length-map, length-append, length-drop}
use lib.Dec.{ltb, leb}
use Rattle.std.specs.Prelude.{Result, Ok, Err}
use Rattle.laws.proofs.Tests.{Is, is, is_true, is_false, both, true_of_not}
use Rattle.laws.proofs.Comparisons.{lt_of, ge_of, ltb_no, leb_yes}
use Rattle.station.specs.Head.{Head, Job, valid}
use Rattle.station.specs.Refusal.{Refusal, out_of_limits, too_short, first_of}
use Rattle.station.specs.Types.{head_in, valid_record}
use Rattle.station.specs.declared.types.Preset as record-of-preset
use Rattle.station.specs.declared.types.Head as record-of-head
use Rattle.station.specs.declared.types.Refusal as cause
use Rattle.station.specs.declared.types.Refusal.TheVariants.{TooShort}
use Rattle.station.specs.ReadHead.{head_record, record_of, records_over}
use Rattle.station.proofs.Theorems.{first_none, passed, of_valid, head_back}
use Rattle.placing.specs.State.{State, state_of, with_table}
use Rattle.placing.specs.Claims.{Running}
use Rattle.placing.specs.Outcomes.{PlanAnswer, PlanOutcome, plan_of, CallOutcome, call_of}
use Rattle.placing.specs.PlanDone.{plan_meant, replied_in, PlanDone}
use Rattle.placing.specs.Causes.{causes_of, frame_causes_of, call_jobs}
use Rattle.station.specs.declared.types.Refusal as cause
use Rattle.placing.specs.CallDone.{call_answer_in, call_meant}
use Rattle.placing.specs.Entries.{PlanEntered, CallEntry}
use Rattle.placing.proofs.Theorems.{causes_none, frame_running, running_frame}
use Rattle.frame.specs.Types as result
use Rattle.frame.specs.Event.{Event, line, clock, call, Answer, answer_of, Outcome, event_of, Run, run_of}
use Rattle.frame.specs.Text.{Whole, ran, start_of, events_of}
use Rattle.frame.specs.TextDone.{whole_with_output, head_after, presets_after, table_after, clock_after, hold_after}
use Rattle.frame.specs.TextEntry.{whole_on_slice, TextAnswer, TextEntry}
use Rattle.frame.specs.Types.{answer_in}
use Rattle.frame.specs.EventEntry.{event_on_slice, EventEntry}
use Rattle.frame.specs.HandedOver.{LetPass, Handed, no_more, by_event, by_set_clock, by_call, HandedClaim}
use Rattle.frame.proofs.OneEvent.{event_call, call_leaves}
use Rattle.frame.proofs.Demands.{demand_3, planned_running, demand_3_planned, ran_granted}
use Rattle.frame.proofs.EventList.{followed_by, run_append}
use Rattle.frame.proofs.text.WholeText.{beside_ran}
use Rattle.frame.proofs.text.ListOfRecords as of-text
use Rattle.frame.proofs.event.EventAnswers.{meant_event}
use Rattle.frame.proofs.event.ListOfRecords.{listed_enough}

module _ (head : record-of-head.Head) (ps : List record-of-preset.Preset) where
  abbrev h : Head
  h = head_in head ps

  -- the answer a and the state next are what event e of the list comes to
  abbrev Step : State → Event → Answer → State → Type 0
  Step st e a next = (a ≡ (event_of h st e).answer) × (next ≡ (event_of h st e).after)

  abbrev Comes : State → List Event → List Answer → State → Type 0
  Comes st es answers end = (answers ≡ (run_of h st es).answers) × (end ≡ (run_of h st es).after)

  -- ---- one call of an entry

  entry_step : 32 ≤ length ps → valid_record head ps ≡ true → (st : State) (e : Event) {u : List ℕ} {r : result.Outcome} → Running h st → EventEntry head ps st e u r → Step st e (answer_in r.answer) (state_of u r.clock r.hold)
  entry_step long v st e run p =
      let o : event_on_slice (length ps) head ps st e ≡ event_of h st e =
      listed_enough (length ps) head ps st e long ∙ meant_event head ps st e (causes_none head ps st.table run.long v) in
      let left = ap (λ (x : Outcome). x.after) o in (
        p.done.answer ∙ ap (λ (x : Outcome). x.answer) o,
        rw (p.done.table, p.done.clock, p.done.hold) left,
      )

  call_step : 32 ≤ length ps → valid_record head ps ≡ true → (st : State) (jobs : List Job) {u : List ℕ} {r : Result ℕ cause.Refusal} → Running h st → CallEntry head ps jobs st u r → Step st (call jobs) (answer_of (call_answer_in r)) (state_of u st.clock st.hold)
  unfolding call_meant
  call_step long v st jobs run p =
      let d = p.done.done long in
      let none-met = causes_none head ps st.table run.long v in
      let o : call_meant head ps jobs st ≡ call_of h jobs st = rw (none-met, call_meant) refl in
      let as-event = event_call h st (call jobs) jobs refl in (
        ap answer_of (d.answer ∙ ap (λ (x : CallOutcome). x.answer) o) ∙ sym (ap (λ (x : Outcome). x.answer) as-event),
        ap (λ (t : List ℕ). with_table t st) (d.table ∙ ap (λ (x : CallOutcome). x.after.table) o)
            ∙ sym (call_leaves h jobs st)
            ∙ sym (ap (λ (x : Outcome). x.after) as-event),
      )

  -- ---- the list

  -- one event more
  comes_more : (st : State) (e : Event) (es : List Event) {next end : State} {a : Answer} {answers : List Answer} → Step st e a next → Comes next es answers end → Comes st (e ∷ es) (a ∷ answers) end
  unfolding run_of
  comes_more st e es {answers = answers} one rest = (
    ap (λ (x : Answer). x ∷ answers) one.0 ∙ ap (λ (l : List Answer). (event_of h st e).answer ∷ l) (rest.0 ∙ ap (λ (s : State). (run_of h s es).answers) one.1),
    rest.1 ∙ ap (λ (s : State). (run_of h s es).after) one.1,
  )

  handed_run : {st end : State} {es : List Event} {answers : List Answer} → 32 ≤ length ps → valid_record head ps ≡ true → Running h st → Handed head ps st es answers end
      → Comes st es answers end
  unfolding run_of
  handed_run long v run no_more = (refl, refl)
  handed_run long v run (by_event {st} {l = l} {es = es} p rest) = comes_more st (line l) es (entry_step long v st (line l) run p) (handed_run long v (p.kept run) rest)
  handed_run long v run (by_set_clock {st} {t = t} {es = es} p rest) = comes_more st (clock t) es (entry_step long v st (clock t) run p) (handed_run long v (p.kept run) rest)
  handed_run long v run (by_call {st} n js {es = es} p rest) = comes_more st (call (call_jobs n js)) es (call_step long v st (call_jobs n js) run p) (handed_run long v (p.kept run) rest)

-- The claim, for every list handed over from a start that 11 lets pass.
pub handed_over : {head : record-of-head.Head} {ps : List record-of-preset.Preset} {st end : State} {es : List Event} {answers : List Answer} → LetPass head ps st
    → Handed head ps st es answers end → HandedClaim (head_in head ps) st es answers end
handed_over {head} {ps} {st} {end} {es} {answers} start handed =
    let eight = first_none too_short (ltb (length ps) 32) (frame_causes_of head ps st) start in
    let passes = frame_running head ps st eight.1 in
    let comes = handed_run head ps (ge_of (length ps) 32 eight.0) passes.0 passes.1 handed in
    record { answered = comes.0; left = comes.1; demand3 = demand_3 (head_in head ps) st es passes.1 }

-- ---- what the list may start from

-- "It starts from an accepted head with its plan and the first clock": where `plan` granted, its contract being the premise.
pub plan_lets_pass : {head : record-of-head.Head} {ps : List record-of-preset.Preset} {t t₁ grants : List ℕ} {r : Result (List ℕ) cause.Refusal} → PlanEntered (length ps) head ps t t₁ r
    → r ≡ Ok grants → LetPass head ps (start_of (head_in head ps) t₁)
unfolding plan_meant
plan_lets_pass {head} {ps} {t} {t₁} {grants} {r} p e = go (is (ltb (length ps) 32))
  where
    h : Head
    h = head_in head ps

    -- what the plan comes to, by the causes of the head record
    made : (o : Option Refusal) → first_of (causes_of head ps t) ≡ o → PlanDone head ps t t₁ r → (valid_record head ps ≡ true) × Running h (start_of h t₁)
    made none q d =
        let meant : plan_meant head ps t ≡ plan_of h t = rw (q, plan_meant) refl in
        let granted : (plan_of h t).answer ≡ PlanAnswer.granted (take head.count grants) =
        ap (λ (o : PlanOutcome). o.answer) (sym meant) ∙ sym d.answer ∙ ap (replied_in head.count) e in
        let two = first_none out_of_limits (not (valid_record head ps)) [] (first_none too_short (ltb (length t) 512) _ q).1 in (
          true_of_not _ two.0,
          subst (λ (u : List ℕ). Running h (start_of h u)) (sym (d.table ∙ ap (λ (o : PlanOutcome). o.table) meant)) (planned_running h t (take head.count grants) granted),
        )
    made (some c) q d =
        let meant : plan_meant head ps t ≡ record { answer = PlanAnswer.refused 0 c; table = t } = rw (q, plan_meant) refl in
        let two-answers : PlanAnswer.granted (take head.count grants) ≡ PlanAnswer.refused 0 c =
        sym (ap (replied_in head.count) e) ∙ d.answer ∙ ap (λ (o : PlanOutcome). o.answer) meant in
        absurd (let z : ◌≡◌ {A = ℕ} 0 1 = cc in omega arith)

    go : Is (ltb (length ps) 32) → LetPass head ps (start_of h t₁)
    go (is_true l) =
        let short = (p.short (lt_of (length ps) 32 l)).0 in
        let two-answers : ◌≡◌ {A = Result (List ℕ) cause.Refusal} (Ok grants) (Err TooShort) = sym e ∙ short in
        absurd (let z : ◌≡◌ {A = ℕ} 0 1 = cc in omega arith)
    go (is_false l) =
        let long = ge_of (length ps) 32 l in
        let passes = made (first_of (causes_of head ps t)) refl (p.done long) in
        passed too_short (ltb (length ps) 32) _ (ltb_no (length ps) 32 long) ∙ running_frame head ps (start_of h t₁) passes.0 passes.1

-- A text that `run_text` ran, its contract being the first premise.
module _ {text : List ℕ} {head : record-of-head.Head} {ps : List record-of-preset.Preset} {t : List ℕ} {clock : ℕ} {hold : Bool} {out : List ℕ} {ps₁ : List record-of-preset.Preset}
    {t₁ out₁ : List ℕ} {r : TextAnswer} (p : TextEntry text head ps t clock hold out ps₁ t₁ out₁ r) {h : Head} {n : ℕ} {g : List ℕ} {x : Run}
    (e : whole_on_slice (length ps) text t out ≡ ran h n g x) where
  -- the list has 32 records or more, and the text came to the same beside the output
  enough : (32 ≤ length ps) × (whole_with_output text t out ≡ ran h n g x)
  enough = go (is (ltb (length ps) 32)) (is (ltb 32768 (length text)))
    where
      go : Is (ltb (length ps) 32) → Is (ltb 32768 (length text)) → (32 ≤ length ps) × (whole_with_output text t out ≡ ran h n g x)
      go (is_false l) s = let long = ge_of (length ps) 32 l in (long, sym (p.claim.other_list long) ∙ e)
      go (is_true l) (is_false s) =
          let q = sym (p.claim.short_list (ge_of 32768 (length text) s) (lt_of (length ps) 32 l)) ∙ e in
          absurd (let z : ◌≡◌ {A = ℕ} 0 1 = cc in omega arith)
      go (is_true l) (is_true s) =
          let q = sym (of-text.listed_long (length ps) text t out (lt_of 32768 (length text) s)) ∙ e in
          absurd (let z : ◌≡◌ {A = ℕ} 0 1 = cc in omega arith)

  -- what it leaves: its head with its records, and its last state, which is a running one
  head_kept : r.head ≡ head_record h
  unfolding head_after
  head_kept = p.done.head ∙ ap (λ (w : Whole). head_after w head) e

  records_kept : ps₁ ≡ records_over h.presets ps
  unfolding presets_after
  records_kept = p.done.presets ∙ ap (λ (w : Whole). presets_after w ps) e

  left_head : head_in r.head ps₁ ≡ h
  left_head = ap₂ head_in head_kept records_kept ∙ head_back h ps

  left_state : state_of t₁ r.clock r.hold ≡ x.after
  unfolding table_after clock_after hold_after
  left_state =
      ap (λ (u : List ℕ). state_of u r.clock r.hold) (p.done.table ∙ ap (λ (w : Whole). table_after w t) e)
      ∙ ap (λ (c : ℕ). state_of x.after.table c r.hold) (p.done.clock ∙ ap (λ (w : Whole). clock_after w clock) e)
      ∙ ap (state_of x.after.table x.after.clock) (p.done.hold ∙ ap (λ (w : Whole). hold_after w hold) e)

  its_run : x ≡ run_of h (start_of h (plan_of h t).table) (events_of text n)
  its_run = p.claim.claim.events h n g x enough.1

  left_running : Running h x.after
  left_running = subst (λ (y : Run). Running h y.after) (sym its_run) (p.claim.claim.demand3 h n g x enough.1).running

  pub text_lets_pass : LetPass r.head ps₁ (state_of t₁ r.clock r.hold)
  text_lets_pass =
      let few = left_running.valid.number_of_presets in
      let count = ap (λ (y : record-of-head.Head). y.count) head_kept in
      let size : length ps₁ ≡ length ps =
      omega (
        arith,
        ap length records_kept,
        length-append (map record_of h.presets) (drop (length h.presets) ps),
        length-map h.presets record_of,
        length-drop (length h.presets) ps,
        few,
        enough.0,
      ) in
      let run : Running (head_in r.head ps₁) (state_of t₁ r.clock r.hold) = rw (left_head, left_state) left_running in
      let small = leb_yes r.head.count 32 (omega (arith, count, few)) in
      passed too_short (ltb (length ps₁) 32) _ (ltb_no (length ps₁) 32 (omega (arith, size, enough.0)))
      ∙ running_frame r.head ps₁ (state_of t₁ r.clock r.hold)
      (both (leb r.head.count 32) (valid (head_in r.head ps₁)) small (of_valid (head_in r.head ps₁) run.valid)) run

  -- "one claim about the whole list": the text's lines after its head, and then what was handed over, from the plan's start on
  pub text_then_handed : {es : List Event} {answers : List Answer} {end : State} → Handed r.head ps₁ (state_of t₁ r.clock r.hold) es answers end
      → HandedClaim h (start_of h (plan_of h t).table) (events_of text n ++ es) (x.answers ++ answers) end
  text_then_handed {es} {answers} {end} handed =
      let start = start_of h (plan_of h t).table in
      let after = handed_over text_lets_pass handed in
      let whole : run_of h start (events_of text n ++ es) ≡ followed_by x (run_of h x.after es) =
      run_append h start (events_of text n) es ∙ ap (λ (y : Run). followed_by y (run_of h y.after es)) (sym its_run) in
      let same : run_of (head_in r.head ps₁) (state_of t₁ r.clock r.hold) es ≡ run_of h x.after es = ap₂ (λ (k : Head) (s : State). run_of k s es) left_head left_state in
      record {
        answered = ap (λ (l : List Answer). x.answers ++ l) (after.answered ∙ ap (λ (y : Run). y.answers) same) ∙ ap (λ (y : Run). y.answers) (sym whole);
        left = after.left ∙ ap (λ (y : Run). y.after) same ∙ ap (λ (y : Run). y.after) (sym whole);
        demand3 = demand_3_planned h t g (ran_granted text t h n g x (beside_ran text t out enough.1)) (events_of text n ++ es);
      }
