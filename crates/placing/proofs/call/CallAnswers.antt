-- `call_by_value` and `call_by_counts`, law by law.
--
-- In order: the cells of a call's jobs (`cells_are`); the carrying out; the outcome where a cause of the frame is met (`frame_refused`), and on a running frame
-- a law for each answer (`counted_refused`, `counted_done`); the counts afterwards (`counted_after`); the frame afterwards (`call_running`, `done_running`). The causes of the frame
-- are in check/FrameCauses.antt, those of the call in counts/causes/CallCauses.antt.
-- Assumes nothing.
use Prim.Native.Nat.{ℕ, ◌+◌, ◌%◌, ◌≤◌, ◌<◌}
use native.Mathlib.Omega.{arith}
use mathlib.Core.Path.{◌≡◌, refl, sym, ◌∙◌, ap, subst}
use mathlib.Core.Bool.{true, false, not}
use mathlib.Core.Option.{Option, none, some}
use mathlib.Core.List.{List, [], ◌∷◌, ◌++◌}
use lib.ListN.{length, get_or, take, replicate}
use Rattle.laws.specs.Lists.{at}
use Rattle.laws.specs.method.Capacities.{AtLeast}
use Rattle.laws.proofs.Tests.{true_of_not}
use Rattle.laws.proofs.Stores.{zeros}
use Rattle.station.specs.Head.{Head, Job, Valid, has_bit}
use Rattle.station.specs.Refusal.{Refusal, call_not_feasible, try, first_of}
use Rattle.station.proofs.Theorems.{first_none, append_none, append_some, append_left_none}
use Rattle.station.specs.Types.{head_in, valid_record, refusal_in}
use Rattle.station.specs.declared.types.Job as record-of-job
use Rattle.station.specs.declared.types.Preset as record-of-preset
use Rattle.station.specs.declared.types.Head as record-of-head
use Rattle.station.specs.declared.types.Refusal as refusal
use Rattle.station.specs.declared.types.Refusal.TheVariants.{CallNotFeasible}
use Rattle.placing.specs.declared.search.Evicted.{Evicted}
use Rattle.std.specs.Prelude.{Result, Ok, Err}
use Rattle.placing.specs.Table.{WellFormed, cell, call_cell}
use Rattle.placing.specs.State.{State, state_of}
use Rattle.placing.specs.Valid.{job_at}
use Rattle.placing.specs.Plan.{tie_of}
use Rattle.placing.specs.Call.{lengths, call_fits, call_free, call_free_count}
use Rattle.placing.specs.Types.{jobs_in}
use Rattle.placing.specs.declared.counts.Counts.{Counts}
use Rattle.placing.specs.method.Jobs.{job_number}
use Rattle.placing.specs.method.Limits.{sizes_in_limits, motors_in}
use Rattle.placing.specs.method.Rule.{free_in, Fillable, placeable, placed_in, placed_within}
use Rattle.placing.specs.method.Search.{Evicting}
use Rattle.placing.specs.Outcomes.{cost, cost_of, frame_causes, jobs_outside, job_causes, call_causes, CallAnswer, CallOutcome, called_state, call_of}
use Rattle.placing.specs.Causes.{call_jobs, causes_of, frame_causes_of}
use Rattle.placing.specs.CallDone.{call_meant, CallDone}
use Rattle.placing.proofs.Causes.{of_running}
use Rattle.placing.proofs.check.FrameCauses.{causes_none, eleven, same_frame}
use Rattle.laws.proofs.Counts.{count_ext}
use Rattle.placing.proofs.FreeNumber.{call_free_least}
use Rattle.placing.proofs.CalledTable.{call_free_count_lem}
use Rattle.placing.proofs.MaskBits.{has_bit_mask}
use Rattle.placing.specs.method.Counts.{CountsOf, slot_free, MarkedBeside}
use Rattle.placing.proofs.counts.causes.CallCauses.{job_at_lem, inside_number, call_jobs_lem, cause_known}
use Rattle.placing.proofs.counts.LeftByEvent.{counts_taken}
use Rattle.placing.proofs.limits.Within.{in_limits}
use Rattle.placing.proofs.ClaimsHold.{call_claim_lem}
use Rattle.placing.proofs.HeadRecord.{record_valid}
use Rattle.placing.specs.Claims.{Running}
use Rattle.placing.proofs.rule.SlotsPlaced.{placed_within_lem}
use Rattle.placing.proofs.rule.PlacedFrame.{placed_called}
use Rattle.placing.specs.method.CallParts.{call_carried_out, CallCarriedOut}

-- ---- the cells of a call's jobs

pub cells_are : (js : List record-of-job.Job) (long : length js ≡ 8) (n : ℕ) (few : n ≤ 8) (e : jobs_outside (jobs_in n js) ≡ false) (cells : List ℕ)
    → ((i : ℕ) → i < 8 → get_or cells i 0 ≡ 1024 + job_number js i % 256) → (i : ℕ) → i < n → get_or cells i 0 ≡ call_cell (job_at (jobs_in n js) i).number
cells_are js long n few e cells h i l =
    h i (omega arith)
    ∙ (let small = inside_number js long n few e i l in omega (arith, ap (λ (j : Job). j.number) (job_at_lem js long n few i l)))

-- ---- the carrying out

module _ (h : Head) (jobs : List Job) (st : State) where
  abbrev not_feasible : CallOutcome
  not_feasible = record { answer = CallAnswer.refused 0 call_not_feasible; after = st }

  abbrev taken_by : CallOutcome
  taken_by = record { answer = CallAnswer.taken (cost_of h jobs st); after = called_state h jobs st }

  carried_no : call_fits h st.clock jobs (cell h st.table) ≡ false → call_carried_out h jobs st ≡ not_feasible
  unfolding call_carried_out
  carried_no e = rw e refl

  carried_yes : call_fits h st.clock jobs (cell h st.table) ≡ true → call_carried_out h jobs st ≡ taken_by
  unfolding call_carried_out
  carried_yes e = rw e refl

  pub carried_refused : call_fits h st.clock jobs (cell h st.table) ≡ false → CallCarriedOut h jobs st st.table (Err CallNotFeasible)
  carried_refused e =
      record {
        answer = sym (ap (λ (o : CallOutcome). o.answer) (carried_no e));
        table = sym (ap (λ (o : CallOutcome). o.after.table) (carried_no e));
      }

  -- what the search counts for each slot is what the rule fills there
  counts_are : (found : Evicted) → Evicting h st.clock jobs (cell h st.table) found → Valid h → WellFormed h (cell h st.table)
      → (s : ℕ) → s < h.slots → at found.offer.counts s ≡ call_free_count h st.clock jobs (cell h st.table) s
  counts_are found ev valid formed s l = ev.counts s l ∙ sym (call_free_count_lem h st.clock jobs (cell h st.table) valid formed s l)

  -- no more than are free
  pub call_fillable : (found : Evicted) → Evicting h st.clock jobs (cell h st.table) found → Valid h → WellFormed h (cell h st.table)
      → Fillable h.slots h.bridges found.offer.free found.offer.counts
  call_fillable found ev valid formed s l =
      omega (
        arith,
        counts_are found ev valid formed s l,
        call_free_least h st.clock jobs (cell h st.table) s,
        count_ext h.bridges (free_in found.offer.free s) (λ b. call_free h st.clock jobs (cell h st.table) s b)
            (λ b m. ap (λ (n : ℕ). has_bit n b) (ev.free s l) ∙ has_bit_mask h.bridges (λ a. call_free h st.clock jobs (cell h st.table) s a) b m),
      )

  pub carried_taken : (found : Evicted) → call_fits h st.clock jobs (cell h st.table) ≡ true → Evicting h st.clock jobs (cell h st.table) found → Valid h → WellFormed h (cell h st.table) → (needs : List ℕ) (k : ℕ) (late : List ℕ) {u : List ℕ}
      → placeable h.slots h.bridges needs k (length st.table) ≡ true
      → lengths jobs ≡ take k needs
      → ((i : ℕ) → i < length jobs → at late i ≡ call_cell (job_at jobs i).number)
      → u ≡ placed_within (tie_of st.hold) h.slots h.bridges found.offer.free found.offer.counts needs k (replicate 64 0) late late st.table
      → CallCarriedOut h jobs st u (Ok found.count)
  carried_taken found fits ev valid formed needs k late {u} limits en el eu =
      record {
        answer = ap (λ (n : ℕ). CallAnswer.taken (cost n)) ev.count ∙ sym (ap (λ (o : CallOutcome). o.answer) (carried_yes fits));
        table = eu
            ∙ placed_within_lem (tie_of st.hold) h.slots h.bridges found.offer.free found.offer.counts needs k (replicate 64 0) late late st.table limits
            ∙ ap (λ (c : List ℕ). placed_in (tie_of st.hold) h.slots h.bridges found.offer.free found.offer.counts c (replicate 64 0) late late st.table) (sym en)
            ∙ placed_called (tie_of st.hold) h st.clock jobs found.offer.free found.offer.counts (replicate 64 0) late late st.table ev.free (counts_are found ev valid formed) (λ i l. zeros 64 i) el
            ∙ sym (ap (λ (o : CallOutcome). o.after.table) (carried_yes fits));
      }

-- ---- the outcome

module _ (h : Head) (jobs : List Job) (st : State) where
  of_stopped : (r : Refusal) → first_of (frame_causes h st ++ call_causes h st.clock jobs (cell h st.table)) ≡ some r
      → call_of h jobs st ≡ record { answer = CallAnswer.refused 0 r; after = st }
  unfolding call_of
  of_stopped r e = rw (e, call_of) refl

  of_passed : first_of (frame_causes h st ++ call_causes h st.clock jobs (cell h st.table)) ≡ none → call_of h jobs st ≡ taken_by h jobs st
  unfolding call_of
  of_passed e = rw (e, call_of) refl

module _ (head : record-of-head.Head) (ps : List record-of-preset.Preset) (jobs : List Job) (st : State) where
  abbrev h'' : Head
  h'' = head_in head ps

  meant_stopped : (r : Refusal) → first_of (causes_of head ps st.table) ≡ some r → call_meant head ps jobs st ≡ record { answer = CallAnswer.refused 0 r; after = st }
  unfolding call_meant
  meant_stopped r e = rw (e, call_meant) refl

  meant_call : first_of (causes_of head ps st.table) ≡ none → call_meant head ps jobs st ≡ call_of h'' jobs st
  unfolding call_meant
  meant_call e = rw (e, call_meant) refl

  -- a cause of the frame is met
  call_stopped : (r : Refusal) → first_of (frame_causes_of head ps st) ≡ some r
      → call_meant head ps jobs st ≡ record { answer = CallAnswer.refused 0 r; after = st }
  call_stopped r e = go (first_of (causes_of head ps st.table)) refl
    where
      go : (o : Option Refusal) → first_of (causes_of head ps st.table) ≡ o → call_meant head ps jobs st ≡ record { answer = CallAnswer.refused 0 r; after = st }
      go none q =
          meant_call q
          ∙ of_stopped h'' jobs st r
          (append_some (frame_causes h'' st) (call_causes h'' st.clock jobs (cell h'' st.table)) r (sym (same_frame head ps st q) ∙ e))
      go (some p) q =
          let w : some p ≡ some r = sym (append_some (causes_of head ps st.table) (eleven head ps st) p q) ∙ e in
          meant_stopped r (q ∙ w)

  -- ---- a law for each answer

  refused_done : (q : refusal.Refusal) → call_meant head ps jobs st ≡ record { answer = CallAnswer.refused 0 (refusal_in q); after = st }
      → CallDone head ps jobs st st.table (Err q)
  refused_done q e =
      record { answer = sym (ap (λ (o : CallOutcome). o.answer) e); table = sym (ap (λ (o : CallOutcome). o.after.table) e) }

  -- a cause of the frame is met
  pub frame_refused : (q : refusal.Refusal) → some (refusal_in q) ≡ first_of (frame_causes_of head ps st) → CallDone head ps jobs st st.table (Err q)
  frame_refused q e = refused_done q (call_stopped (refusal_in q) (sym e))

  module _ (v : valid_record head ps ≡ true) (run : Running h'' st) where
    abbrev own : List (Option Refusal)
    own = call_causes h'' st.clock jobs (cell h'' st.table)

    only_own : first_of (frame_causes h'' st ++ own) ≡ first_of own
    only_own = append_none (frame_causes h'' st) own (of_running h'' st run)

    meant : call_meant head ps jobs st ≡ call_of h'' jobs st
    meant = meant_call (causes_none head ps st.table run.long v)

    -- a cause of the call is met
    pub counted_refused : (q : refusal.Refusal) → some (refusal_in q) ≡ first_of own → CallDone head ps jobs st st.table (Err q)
    counted_refused q e = refused_done q (meant ∙ of_stopped h'' jobs st (refusal_in q) (only_own ∙ sym e))

    -- none is, so that the call fits
    fits : first_of own ≡ none → call_fits h'' st.clock jobs (cell h'' st.table) ≡ true
    fits e =
        let before = append_left_none (job_causes h'' jobs (cell h'' st.table)) seven e in
        true_of_not _ (first_none call_not_feasible (not (call_fits h'' st.clock jobs (cell h'' st.table))) [] (sym (append_none (job_causes h'' jobs (cell h'' st.table)) seven before) ∙ e)).0
      where
        seven : List (Option Refusal)
        seven = try call_not_feasible (not (call_fits h'' st.clock jobs (cell h'' st.table))) ∷ []

    pub counted_done : {js : List Job} {u : List ℕ} {r : Result ℕ refusal.Refusal} → none ≡ first_of own → jobs ≡ js
        → CallCarriedOut h'' js st u r → CallDone head ps jobs st u r
    counted_done {js} {u} {r} e same d =
        let free = sym e in
        let o : call_meant head ps jobs st ≡ call_carried_out h'' js st =
        meant
        ∙ of_passed h'' jobs st (only_own ∙ free)
        ∙ sym (carried_yes h'' jobs st (fits free))
        ∙ ap (λ (l : List Job). call_carried_out h'' l st) same in
        record {
          answer = d.answer ∙ sym (ap (λ (x : CallOutcome). x.answer) o);
          table = d.table ∙ sym (ap (λ (x : CallOutcome). x.after.table) o);
        }

    -- the answer and the table of a call that none is met by
    counted_answer : none ≡ first_of own → (call_of h'' jobs st).answer ≡ CallAnswer.taken (cost_of h'' jobs st)
    counted_answer e = ap (λ (o : CallOutcome). o.answer) (of_passed h'' jobs st (only_own ∙ sym e))

    -- and it is not refused
    pub counted_taken : {u : List ℕ} {q : refusal.Refusal} → none ≡ first_of own → CallDone head ps jobs st u (Err q) → ⊥
    counted_taken e d = let both = sym (d.answer ∙ ap (λ (o : CallOutcome). o.answer) meant) ∙ refl in let taken = counted_answer e in cc

    counted_table : {u : List ℕ} {r : Result ℕ refusal.Refusal} → CallDone head ps jobs st u r → u ≡ (call_of h'' jobs st).after.table
    counted_table d = d.table ∙ ap (λ (o : CallOutcome). o.after.table) meant

-- ---- the counts afterwards

-- the numbers of the jobs were marked and counted, and the slots counted anew
pub counted_after : (head : record-of-head.Head) (ps : List record-of-preset.Preset) (js : List record-of-job.Job) (n : ℕ) (st : State) → length js ≡ 8
    → valid_record head ps ≡ true → Running (head_in head ps) st
    → none ≡ first_of (call_causes (head_in head ps) st.clock (call_jobs n js) (cell (head_in head ps) st.table))
    → {u : List ℕ} {r : Result ℕ refusal.Refusal} → CallDone head ps (call_jobs n js) st u r
    → {before after : Counts} → CountsOf (head_in head ps) st.clock (cell (head_in head ps) st.table) before
    → (length before.used ≡ 256 → n ≤ 8 → MarkedBeside (λ i. job_number js i % 256) before.used n after.used)
    → after.admitted ≡ before.admitted + n
    → (sizes_in_limits head.slots head.bridges 0 (length u) ≡ true → AtLeast after.at_least head.slots (slot_free u head.bridges (motors_in head) st.clock))
    → CountsOf (head_in head ps) st.clock (cell (head_in head ps) u) after
counted_after head ps js n st long v run e {u} d {after = after} was marks more counted =
    let h = head_in head ps in
    let valid = record_valid head ps v in
    let known = cause_known js long n h st.clock (cell h st.table) (sym e) in
    let same = call_jobs_lem js long n known.0 in
    let table : u ≡ (call_of h (jobs_in n js) st).after.table =
    counted_table head ps (call_jobs n js) st v run d ∙ ap (λ (l : List Job). (call_of h l st).after.table) same in
    let taken = ap (λ (l : List Job). (call_of h l st).answer) (sym same) ∙ counted_answer head ps (call_jobs n js) st v run e in
    let size : 512 ≤ length u = omega (arith, ap length table, (call_claim_lem h (jobs_in n js) st).past.long, run.long) in
    let free = counted (in_limits head.slots head.bridges 0 (length u) valid.slots_high valid.bridges_high (omega arith) size) in
    subst (λ (l : List ℕ). CountsOf h st.clock (cell h l) after) (sym table)
    (counts_taken h st js long n known.0 known.1 taken was (marks was.marks_long known.0) more
    (subst (λ (l : List ℕ). AtLeast after.at_least head.slots (slot_free l head.bridges (motors_in head) st.clock)) table free))

-- ---- the frame afterwards

-- A running frame is one after a call: what a call that is taken leaves is well-formed.
pub call_running : (h : Head) (jobs : List Job) (st : State) → Running h st → Running h (state_of (call_of h jobs st).after.table st.clock st.hold)
call_running h jobs st run = go (first_of (frame_causes h st ++ call_causes h st.clock jobs (cell h st.table))) refl
  where
    go : (o : Option Refusal) → first_of (frame_causes h st ++ call_causes h st.clock jobs (cell h st.table)) ≡ o
        → Running h (state_of (call_of h jobs st).after.table st.clock st.hold)
    go none e =
        let claim = call_claim_lem h jobs st in
        let taken = ap (λ (o : CallOutcome). o.answer) (of_passed h jobs st e) in
        record {
          long = omega (arith, run.long, claim.past.long);
          valid = run.valid;
          well_formed = record { cells = (claim.valid (cost_of h jobs st) taken).well_formed; clock = run.well_formed.clock };
        }
    go (some r) e = rw (of_stopped h jobs st r e) run

pub done_running : (head : record-of-head.Head) (ps : List record-of-preset.Preset) (jobs : List Job) (st : State) {u : List ℕ} {r : Result ℕ refusal.Refusal}
    → CallDone head ps jobs st u r → Running (head_in head ps) st → Running (head_in head ps) (state_of u st.clock st.hold)
done_running head ps jobs st {u} d run = go (first_of (causes_of head ps st.table)) refl
  where
    left_by_lem : (o : CallOutcome) → call_meant head ps jobs st ≡ o → Running (head_in head ps) (state_of o.after.table st.clock st.hold) → Running (head_in head ps) (state_of u st.clock st.hold)
    left_by_lem o e after =
        subst (λ (t : List ℕ). Running (head_in head ps) (state_of t st.clock st.hold)) (sym (d.table ∙ ap (λ (x : CallOutcome). x.after.table) e)) after

    go : (o : Option Refusal) → first_of (causes_of head ps st.table) ≡ o → Running (head_in head ps) (state_of u st.clock st.hold)
    go none q = left_by_lem (call_of (head_in head ps) jobs st) (meant_call head ps jobs st q) (call_running (head_in head ps) jobs st run)
    go (some r) q = left_by_lem (record { answer = CallAnswer.refused 0 r; after = st }) (meant_stopped head ps jobs st r q) run
