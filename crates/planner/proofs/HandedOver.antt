-- Lines handed over one by one to `planner_event` come to what the list comes to, so that demand 3 holds of the whole list.
--
-- In order: one line (`line_meant_lem`, `line_answer`, `line_frame`, `line_state`); the list (`lines_run_lem`), and the claim (`handed_on`); a text that ran leaves such a start (`ran_lets_pass`),
-- and so does a plan that was made (`plan_lets_pass_on`); a text and the lines handed over after it are one list (`text_then_lines`).
-- Assumes nothing.
use Prim.Native.Nat.{ℕ, zero, suc, ◌≤◌}
use native.Mathlib.Omega.{arith}
use mathlib.Core.Path.{◌≡◌, refl, sym, ◌∙◌, ap}
use mathlib.Core.Bool.{Bool, true}
use mathlib.Core.List.{List, [], ◌∷◌, ◌++◌, map}
use lib.ListN.{length-set, length, get_or}
use lib.Seq.{sets, length-sets}
use lib.Dec.{ltb, leb}
use Rattle.laws.specs.Sums.{bit}
use Rattle.laws.proofs.Tests.{both}
use Rattle.laws.proofs.Comparisons.{ge_of, ltb_no, leb_yes}
use Rattle.station.specs.Head.{Head, valid}
use Rattle.station.specs.Refusal.{too_short}
use Rattle.station.specs.Types.{head_in, valid_record}
use Rattle.station.specs.declared.types.Head as record-of-head
use Rattle.station.specs.ReadHead.{head_record, record_of}
use Rattle.station.proofs.Theorems.{passed, first_none, of_valid, number_some}
use Rattle.placing.specs.State.{State, state_of}
use Rattle.placing.specs.Valid.{first_clock}
use Rattle.placing.specs.Outcomes.{plan_of}
use Rattle.placing.specs.Causes.{frame_causes_of}
use Rattle.placing.proofs.Theorems.{causes_none, frame_running, running_frame}
use Rattle.frame.specs.Event.{line, Outcome, event_of, Run, run_of}
use Rattle.frame.specs.Text.{Whole, not_read, not_planned, ran, start_of, events_of}
use Rattle.frame.specs.TextDone.{end_of}
use Rattle.frame.proofs.Demands.{ran_granted}
use Rattle.frame.proofs.Theorems.{demand_3, planned_running, meant_event, followed_by, run_append, beside_ran}
use Rattle.planner.specs.Layout.{records_in, bytes_of, frame_numbers, clock_place, head_tie, tie_in_force, says_hold, head_of_numbers, clock_of_numbers, hold_of_numbers, head_over, tie_over, numbers_over, clock_over, started}
use Rattle.planner.proofs.RoundTrip.{head_back, run_others, run_length, run_head, run_clock, run_small, run_hold, started_head}
use Rattle.planner.proofs.PlanFrame.{plan_passes}
use Rattle.planner.proofs.RunText.{on_ran}
use Rattle.planner.proofs.EventLine.{on_enough}
use Rattle.planner.specs.Exports.{head_on, state_on, RunningOn, text_on, end_returned, frame_after, records_after, TextLeaves, TextPromise, event_on, EventLeaves, plan_on, PlanLeaves, PlanPromise}
use Rattle.planner.specs.HandedOver.{LetPassOn, Answered, answered_by, HandedOn, no_more, by_event, run_on, HandedOnClaim, AfterTextClaim}

module _ (p : List ℕ) (s : 128 ≤ length p) where
  -- what a frame must be for the next line
  abbrev Ready : List ℕ → List ℕ → Type 0
  Ready f t = (frame_numbers ≤ length f) × (valid_record (head_of_numbers f) (records_in p) ≡ true) × RunningOn f p t

  -- ---- one line

  module _ (f t l : List ℕ) (ready : Ready f t) where
    abbrev o : Outcome
    o = event_of (head_on f p) (state_on f t) (line l)

    line_meant_lem : event_on f p t l ≡ o
    line_meant_lem =
        on_enough f p t l ready.0 s
        ∙ meant_event (head_of_numbers f) (records_in p) (state_on f t) (line l) (causes_none (head_of_numbers f) (records_in p) t ready.2.long ready.1)

    module _ {f₁ t₁ : List ℕ} {n r : ℕ} (d : EventLeaves (event_on f p t l) f f₁ t₁ n r) where
      line_answer : ◌≡◌ {A = Answered} (record { answer = r; number = n }) (answered_by o.answer)
      line_answer =
          let a : answered_by (event_on f p t l).answer ≡ answered_by o.answer = ap (λ (x : Outcome). answered_by x.answer) line_meant_lem in
          ap (λ (k : ℕ). record { answer = k; number = n }) d.answer ∙ ap (λ (k : ℕ). record { answer = (answered_by (event_on f p t l).answer).answer; number = k }) d.number ∙ a

      line_frame : f₁ ≡ tie_over tie_in_force o.after.hold (clock_over o.after.clock f)
      line_frame = d.frame ∙ ap (λ (x : Outcome). tie_over tie_in_force x.after.hold (clock_over x.after.clock f)) line_meant_lem

      same_head : head_of_numbers f₁ ≡ head_of_numbers f
      same_head = ap head_of_numbers line_frame ∙ run_head o.after.clock o.after.hold f

      same_length : length f₁ ≡ length f
      same_length = ap length line_frame ∙ run_length o.after.clock o.after.hold f

      same_others : (i : ℕ) → (i ≡ clock_place → ⊥) → (i ≡ tie_in_force → ⊥) → get_or f₁ i 0 ≡ get_or f i 0
      same_others i a b = ap (λ (m : List ℕ). get_or m i 0) line_frame ∙ run_others o.after.clock o.after.hold f i a b

      small_order : get_or f tie_in_force 0 ≤ 1 → get_or f₁ tie_in_force 0 ≤ 1
      small_order h = omega (arith, ap (λ (m : List ℕ). get_or m tie_in_force 0) line_frame, run_small o.after.clock o.after.hold f h)

      line_state : state_on f₁ t₁ ≡ o.after
      line_state =
          ap (λ (u : List ℕ). state_of u (clock_of_numbers f₁) (hold_of_numbers f₁)) (d.table ∙ ap (λ (x : Outcome). x.after.table) line_meant_lem)
          ∙ ap (λ (c : ℕ). state_of o.after.table c (hold_of_numbers f₁)) (ap clock_of_numbers line_frame ∙ run_clock o.after.clock o.after.hold f ready.0)
          ∙ ap (state_of o.after.table o.after.clock) (ap hold_of_numbers line_frame ∙ run_hold o.after.clock o.after.hold f ready.0)

      line_ready : RunningOn f₁ p t₁ → Ready f₁ t₁
      line_ready run = (
        omega (arith, ready.0, same_length),
        ap (λ (h : record-of-head.Head). valid_record h (records_in p)) same_head ∙ ready.1,
        run,
      )

      -- the lines after it, on what it left
      rest_run : (ls : List (List ℕ)) → run_on f₁ p t₁ ls ≡ run_of (head_on f p) o.after (map line ls)
      rest_run ls =
          ap (λ (h : record-of-head.Head). run_of (head_in h (records_in p)) (state_on f₁ t₁) (map line ls)) same_head
          ∙ ap (λ (st : State). run_of (head_on f p) st (map line ls)) line_state

  -- ---- the list

  abbrev Comes : List ℕ → List ℕ → List (List ℕ) → List Answered → List ℕ → List ℕ → Type 0
  Comes f t ls answers last end =
      (answers ≡ map answered_by (run_on f p t ls).answers)
      × (state_on last end ≡ (run_on f p t ls).after)
      × (length last ≡ length f)
      × ((i : ℕ) → (i ≡ clock_place → ⊥) → (i ≡ tie_in_force → ⊥) → get_or last i 0 ≡ get_or f i 0)
      × (get_or f tie_in_force 0 ≤ 1 → get_or last tie_in_force 0 ≤ 1)

  lines_run_lem : {f t last end : List ℕ} {ls : List (List ℕ)} {answers : List Answered} → Ready f t → HandedOn p f t ls answers last end → Comes f t ls answers last end
  unfolding run_of
  lines_run_lem ready no_more = (refl, refl, refl, λ i a b. refl, λ h. h)
  lines_run_lem ready (by_event {frame} {t} {l} {ls = ls} {answers} d promise after) =
      let next = lines_run_lem (line_ready frame t l ready d (promise.kept ready.2)) after in
      let same = rest_run frame t l ready d ls in
      let h = head_on frame p in
      let x = event_of h (state_on frame t) (line l) in (
        ap (λ (a : Answered). a ∷ answers) (line_answer frame t l ready d)
            ∙ ap (λ (rest : List Answered). answered_by x.answer ∷ rest) (next.0 ∙ ap (λ (y : Run). map answered_by y.answers) same),
        next.1 ∙ ap (λ (y : Run). y.after) same,
        next.2 ∙ same_length frame t l ready d,
        λ i a b. next.3 i a b ∙ same_others frame t l ready d i a b,
        λ h. next.4 (small_order frame t l ready d h),
      )

-- a number that is 0 or 1 is what it says as a bit
small_bit : (n : ℕ) → n ≤ 1 → n ≡ bit (says_hold n)
small_bit zero h = refl
small_bit (suc zero) h = refl
small_bit (suc (suc n)) h = absurd (omega arith)

-- The claim, for every list of lines handed over from a start that 11 lets pass.
pub handed_on : (frame presets t : List ℕ) {last end : List ℕ} {ls : List (List ℕ)} {answers : List Answered} → LetPassOn frame presets t
    → HandedOn presets frame t ls answers last end → HandedOnClaim frame presets t ls answers last end
handed_on frame presets t {last = last} {ls = ls} start handed =
    let head = head_of_numbers frame in
    let own = frame_causes_of head (records_in presets) (state_on frame t) in
    let first = first_none too_short (ltb (length frame) frame_numbers) _ start in
    let second = first_none too_short (ltb (length presets) 128) own first.1 in
    let passes = frame_running head (records_in presets) (state_on frame t) second.1 in
    let comes = lines_run_lem presets (ge_of (length presets) 128 second.0) (ge_of (length frame) frame_numbers first.0, passes.0, passes.1) handed in
    record {
      answered = comes.0;
      left = comes.1;
      numbers = comes.2;
      others = comes.3;
      in_force = λ h. small_bit (get_or last tie_in_force 0) (comes.4 h) ∙ ap (λ (st : State). bit st.hold) comes.1;
      demand3 = demand_3 (head_on frame presets) (state_on frame t) (map line ls) passes.1;
    }

-- writing a frame leaves its length
frame_size : (hd : record-of-head.Head) (c : ℕ) (hold : Bool) (f : List ℕ) → length (numbers_over hd c hold f) ≡ length f
frame_size hd c hold f =
    length-sets (head_over hd c f) 13 (bit hd.hold ∷ bit hold ∷ 0 ∷ [])
    ∙ length-set (sets f 0 (hd.slots ∷ hd.bridges ∷ hd.count ∷ c ∷ hd.busy)) 12 hd.supply
    ∙ length-sets f 0 (hd.slots ∷ hd.bridges ∷ hd.count ∷ c ∷ hd.busy)

-- "It starts from an accepted head with its plan": a text that `planner_run_text` ran leaves such a start, its contract being the premises.
pub ran_lets_pass : (text f p t out : List ℕ) {f₁ p₁ t₁ out₁ : List ℕ} {n r : ℕ} → TextLeaves (text_on text f p t out) f p t out f₁ p₁ t₁ out₁ n r
    → TextPromise text f p t out f₁ p₁ t₁ r → r ≡ 0 → LetPassOn f₁ p₁ t₁
unfolding end_of frame_after records_after
ran_lets_pass text f p t out {f₁} {p₁} {t₁} d promise z = go (text_on text f p t out) refl (sym d.answer ∙ z)
  where
    go : (w : Whole) → text_on text f p t out ≡ w → (end_returned (end_of w out)).number ≡ 0 → LetPassOn f₁ p₁ t₁
    go (not_read m c) e q = absurd (number_some c q)
    go (not_planned h m c) e q = absurd (number_some c q)
    go (ran h m g x) e q =
        let long = on_ran text f p t out h m g x e in
        let whole = sym (promise.long long.0 long.1) ∙ e in
        let ok = (promise.claim.demand3 h m g x whole).running.valid in
        let frame = d.frame ∙ ap (λ (w : Whole). frame_after w f) e in
        let records = d.presets ∙ ap (λ (w : Whole). records_after w p) e in
        let head : head_of_numbers f₁ ≡ head_record h = ap head_of_numbers frame ∙ head_back (head_record h) x.after.clock x.after.hold f ok.masks long.0 in
        let count = ap (λ (y : record-of-head.Head). y.count) head in
        let few = leb_yes (head_of_numbers f₁).count 32 (omega (arith, count, ok.number_of_presets)) in
        let run = promise.running z in
        let size : length f₁ ≡ length f = ap length frame ∙ frame_size (head_record h) x.after.clock x.after.hold f in
        let bytes : length p₁ ≡ length p = ap length records ∙ length-sets p 0 (bytes_of (map record_of h.presets)) in
        passed too_short (ltb (length f₁) frame_numbers) _ (ltb_no (length f₁) frame_numbers (omega (arith, size, long.0)))
        ∙ passed too_short (ltb (length p₁) 128) _ (ltb_no (length p₁) 128 (omega (arith, bytes, long.1)))
        ∙ running_frame (head_of_numbers f₁) (records_in p₁) (state_on f₁ t₁) (both (leb (head_of_numbers f₁).count 32) (valid (head_on f₁ p₁)) few (of_valid (head_on f₁ p₁) run.valid)) run

-- and so does a plan that `planner_plan` made, with the first clock and the head's order of ties put in force
pub plan_lets_pass_on : (f p t g : List ℕ) {t₁ g₁ : List ℕ} {r : ℕ} → PlanLeaves (plan_on f p t g) g t₁ g₁ r → PlanPromise f p t t₁ r → r ≡ 0 → LetPassOn (started f) p t₁
plan_lets_pass_on f p t g {t₁} d promise z =
    let passes = plan_passes f p t g (sym d.answer ∙ z) in
    let size : length (started f) ≡ length f = length-set (clock_over first_clock f) tie_in_force (get_or f head_tie 0) ∙ length-set f clock_place first_clock in
    passed too_short (ltb (length (started f)) frame_numbers) _ (ltb_no (length (started f)) frame_numbers (omega (arith, size, passes.0)))
    ∙ passed too_short (ltb (length p) 128) _ (ltb_no (length p) 128 passes.1)
    ∙ running_frame (head_of_numbers (started f)) (records_in p) (state_on (started f) t₁)
    (ap (λ (h : record-of-head.Head). valid_record h (records_in p)) (started_head f) ∙ passes.2) (promise.running z)

map_both : {A B : Type 0} (f : A → B) (a b : List A) → map f (a ++ b) ≡ map f a ++ map f b
map_both f [] b = refl
map_both f (x ∷ a) b = ap (λ k. f x ∷ k) (map_both f a b)

-- A text that `planner_run_text` ran, and the lines handed over after it, are one list.
pub text_then_lines : (text f p t out : List ℕ) {f₁ p₁ t₁ out₁ last end : List ℕ} {n r : ℕ} {ls : List (List ℕ)} {answers : List Answered}
    → TextLeaves (text_on text f p t out) f p t out f₁ p₁ t₁ out₁ n r → TextPromise text f p t out f₁ p₁ t₁ r
    → (h : Head) (m : ℕ) (g : List ℕ) (x : Run) → text_on text f p t out ≡ ran h m g x → HandedOn p₁ f₁ t₁ ls answers last end
    → AfterTextClaim text t h m x ls answers last end
unfolding end_of
text_then_lines text f p t out {f₁} {p₁} {t₁} {ls = ls} {answers} d promise h m g x e handed =
    let long = on_ran text f p t out h m g x e in
    let whole = sym (promise.long long.0 long.1) ∙ e in
    let zero-returned = d.answer ∙ ap (λ (w : Whole). (end_returned (end_of w out)).number) e in
    let left = promise.left h m g x e in
    let after = handed_on f₁ p₁ t₁ (ran_lets_pass text f p t out d promise zero-returned) handed in
    let start = start_of h (plan_of h t).table in
    let its-run = promise.claim.events h m g x whole in
    let same : run_on f₁ p₁ t₁ ls ≡ run_of h x.after (map line ls) =
    ap (λ (k : Head). run_of k (state_on f₁ t₁) (map line ls)) left.0 ∙ ap (λ (st : State). run_of h st (map line ls)) left.1 in
    let all : run_of h start (events_of text m ++ map line ls) ≡ followed_by x (run_of h x.after (map line ls)) =
    run_append h start (events_of text m) (map line ls) ∙ ap (λ (y : Run). followed_by y (run_of h y.after (map line ls))) (sym its-run) in
    record {
      answered =
          ap (λ (l : List Answered). map answered_by x.answers ++ l) (after.answered ∙ ap (λ (y : Run). map answered_by y.answers) same)
          ∙ sym (map_both answered_by x.answers (run_of h x.after (map line ls)).answers)
          ∙ ap (λ (y : Run). map answered_by y.answers) (sym all);
      left = after.left ∙ ap (λ (y : Run). y.after) same ∙ ap (λ (y : Run). y.after) (sym all);
      demand3 = demand_3 h start (events_of text m ++ map line ls) (planned_running h t g (ran_granted text t h m g x (beside_ran text t out whole)));
    }
