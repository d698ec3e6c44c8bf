-- The entries on the running frame, law by law.
--
-- In order: what is asked for on a frame that meets no cause (`asked_stopped`, `asked_carried`); a
-- clock, a law for each answer, and the counts that it leaves (`clock_counts`); an event line as it
-- was read, a law for what each asks (`line_clock`, `line_place`, `line_tie`, `line_fault`), and
-- that it is what the line asks for (`asked_read`); the causes of the frame (`frame_passes`); where
-- none is met, a line and a clock come to what the event does (`line_event_lem`, `line_done`,
-- `clock_done`); a law for each answer of an entry; the frame afterwards (`done_running`).
-- Assumes nothing.
use Prim.Native.Nat.{ℕ, zero, suc, ◌≤◌, ◌<◌}
use native.Mathlib.Omega.{arith}
use mathlib.Core.Path.{◌≡◌, refl, sym, ◌∙◌, ap}
use mathlib.Core.Bool.{Bool, true, false, not}
use mathlib.Core.Option.{Option, none, some}
use mathlib.Core.List.{List, [], ◌∷◌, ◌++◌}
use lib.ListN.{length}
use lib.Dec.{ltb, leb}
use Rattle.std.specs.Prelude.{Result, Ok, Err}
use Rattle.laws.specs.method.Capacities.{AtLeast}
use Rattle.laws.proofs.Tests.{Is, is, is_true, is_false, clash, both, left_of, right_of, not_is_true, not_is_false}
use Rattle.laws.proofs.Comparisons.{gt_of, le_of, ge_of, ltb_yes, ltb_no}
use Rattle.station.specs.Head.{Head, Job, within}
use Rattle.station.specs.Refusal.{Refusal, out_of_limits, clock_back, first_of}
use Rattle.station.specs.Form.{Form, frame_line, busy_line, preset_line, clock_line, call_line, tie_line, supply_line, jobs_of, form}
use Rattle.station.specs.Jobs.{padded, seen}
use Rattle.station.specs.Event.{job_in_limits, jobs_in_limits, call_in_limits, event_in}
use Rattle.station.specs.Types.{head_in, valid_record, refusal_in}
use Rattle.station.specs.declared.types.Preset as record-of-preset
use Rattle.station.specs.declared.types.Head as record-of-head
use Rattle.station.specs.declared.types.Refusal as refusal
use Rattle.station.specs.declared.types.Refusal.TheVariants.{OutOfLimits, ClockBack}
use Rattle.station.specs.declared.events.Event as read
use Rattle.station.specs.declared.events.Event.TheVariants as asks
use Rattle.station.specs.declared.types.Call.{Call}
use Rattle.station.proofs.Theorems.{passed, first_of_none, first_none, append_none, append_some, append_left_none}
use Rattle.station.proofs.Theorems.{within_high, of_within}
use Rattle.placing.specs.declared.counts.Counts.{Counts}
use Rattle.placing.specs.Table.{cell}
use Rattle.placing.specs.State.{State, state_of, with_table}
use Rattle.placing.specs.Valid.{clock_in, job_at}
use Rattle.placing.specs.method.Limits.{sizes_in_limits, motors_in}
use Rattle.placing.specs.Types.{jobs_in}
use Rattle.placing.specs.Outcomes.{frame_causes, jobs_outside, call_of}
use Rattle.placing.specs.Causes.{causes_of}
use Rattle.placing.specs.Causes.{cause_in, frame_causes_of, call_jobs}
use Rattle.placing.specs.CallDone.{call_answer_in, call_meant, CallDone}
use Rattle.placing.specs.Claims.{Running}
use Rattle.placing.proofs.Theorems.{met, jobs_inside, record_valid, eleven, frame_known, same_frame, in_limits}
use Rattle.placing.specs.method.Counts.{CountsOf, slot_free}
use Rattle.placing.proofs.Theorems.{clock_late, call_jobs_lem, counts_passed}
use Rattle.frame.specs.declared.types.Answer as reply
use Rattle.frame.specs.declared.types.Answer.TheVariants.{Now, Tie}
use Rattle.frame.specs.Types as result
use Rattle.frame.specs.Event.{Event, line, clock, call, Asked, set_clock, set_tie, place_jobs, fault, asked_by_form, asked, clock_now, refused, Outcome}
use Rattle.frame.specs.Event.{own_causes, carried_out, comes_to, event_of}
use Rattle.frame.specs.Types.{answer_in}
use Rattle.frame.specs.Event.{answer_of}
use Rattle.frame.specs.EventDone.{event_meant, Yields, EventDone}
use Rattle.frame.specs.method.EventParts.{clock_causes, clock_answer, clock_after, ClockDone, asked_in, line_outcome, line_meant}
use Rattle.frame.proofs.OneEvent.{outcome_of, event_call, call_leaves, event_running}

-- ---- what is asked for on a frame that meets no cause

abbrev stopped_by : Refusal → State → Outcome
stopped_by r st = record { answer = refused 0 r; after = st }

module _ (h : Head) (st : State) (a : Asked) (free : first_of (frame_causes h st) ≡ none) where
  own : first_of (frame_causes h st ++ own_causes h st a) ≡ first_of (own_causes h st a)
  own = append_none (frame_causes h st) (own_causes h st a) free

  pub asked_stopped : (r : Refusal) → first_of (own_causes h st a) ≡ some r → comes_to h st a ≡ stopped_by r st
  unfolding comes_to
  asked_stopped r e = let n = own ∙ e in rw (n, comes_to) refl

  pub asked_carried : first_of (own_causes h st a) ≡ none → comes_to h st a ≡ carried_out h st a
  unfolding comes_to
  asked_carried e = let n = own ∙ e in rw (n, comes_to) refl

-- a refusal leaves the table, the clock and the order of ties
refused_yields : {o : Outcome} (st : State) (q : refusal.Refusal) → o ≡ stopped_by (refusal_in q) st
    → Yields o st.table (record { answer = Err q; clock = st.clock; hold = st.hold })
refused_yields st q e =
    record {
      answer = sym (ap (λ (o : Outcome). o.answer) e);
      table = sym (ap (λ (o : Outcome). o.after.table) e);
      clock = sym (ap (λ (o : Outcome). o.after.clock) e);
      hold = sym (ap (λ (o : Outcome). o.after.hold) e);
    }

-- what one outcome yields, an equal one does
yields_same : {o p : Outcome} {u : List ℕ} {r : result.Outcome} → o ≡ p → Yields p u r → Yields o u r
yields_same e y =
    record {
      answer = y.answer ∙ sym (ap (λ (o : Outcome). o.answer) e);
      table = y.table ∙ sym (ap (λ (o : Outcome). o.after.table) e);
      clock = y.clock ∙ sym (ap (λ (o : Outcome). o.after.clock) e);
      hold = y.hold ∙ sym (ap (λ (o : Outcome). o.after.hold) e);
    }

-- ---- a clock

-- the causes of a clock are its own on any frame of so many slots
own_clock : (h : Head) (st : State) (t : ℕ) → own_causes h st (set_clock t) ≡ clock_causes h.slots st.clock t
unfolding own_causes
own_clock h st t = refl

module _ (slots c t : ℕ) where
  -- a t outside 0 to S + 1
  clock_outside : clock_in slots t ≡ false → first_of (clock_causes slots c t) ≡ some out_of_limits
  clock_outside e = met out_of_limits (not (clock_in slots t)) _ (not_is_true _ e)

  clock_above : suc slots < t → first_of (clock_causes slots c t) ≡ some out_of_limits
  clock_above l = clock_outside (clock_late slots t l)

  -- "a clock below the present one"
  clock_before : clock_in slots t ≡ true → t < c → first_of (clock_causes slots c t) ≡ some clock_back
  clock_before e l = passed out_of_limits (not (clock_in slots t)) _ (not_is_false _ e) ∙ met clock_back (ltb t c) [] (ltb_yes t c l)

  clock_after_lem : clock_in slots t ≡ true → c ≤ t → first_of (clock_causes slots c t) ≡ none
  clock_after_lem e l =
      passed out_of_limits (not (clock_in slots t)) _ (not_is_false _ e) ∙ passed clock_back (ltb t c) [] (ltb_no t c l) ∙ first_of_none

  -- the first cause is the answer, and the clock stays
  clock_stopped : (r : Refusal) → first_of (clock_causes slots c t) ≡ some r → (clock_answer slots c t ≡ refused 0 r) × (clock_after slots c t ≡ c)
  unfolding clock_answer clock_after
  clock_stopped r e = (rw (e, clock_answer) refl, rw (e, clock_after) refl)

  -- without one it is the new clock
  clock_moved : first_of (clock_causes slots c t) ≡ none → (clock_answer slots c t ≡ clock_now t) × (clock_after slots c t ≡ t)
  unfolding clock_answer clock_after
  clock_moved e = (rw (e, clock_answer) refl, rw (e, clock_after) refl)

  clock_refused : (hold : Bool) (q : refusal.Refusal) → first_of (clock_causes slots c t) ≡ some (refusal_in q) → ClockDone slots c hold t (record { answer = Err q; clock = c; hold = hold })
  clock_refused hold q e = let z = clock_stopped (refusal_in q) e in record { answer = sym z.0; clock = sym z.1; hold = refl }

  pub clock_out : (hold : Bool) → clock_in slots t ≡ false → ClockDone slots c hold t (record { answer = Err OutOfLimits; clock = c; hold = hold })
  clock_out hold e = clock_refused hold OutOfLimits (clock_outside e)

  module _ (hold : Bool) (inside : clock_in slots t ≡ true) where
    pub clock_below : t < c → ClockDone slots c hold t (record { answer = Err ClockBack; clock = c; hold = hold })
    clock_below l = clock_refused hold ClockBack (clock_before inside l)

    pub clock_set_lem : c ≤ t → ClockDone slots c hold t (record { answer = Ok (Now t); clock = t; hold = hold })
    clock_set_lem l = let z = clock_moved (clock_after_lem inside l) in record { answer = sym z.0; clock = sym z.1; hold = refl }

-- the clock that is left is not below the present one
clock_onward : (slots c t : ℕ) → c ≤ clock_after slots c t
clock_onward slots c t = go (first_of (clock_causes slots c t)) refl
  where
    go : (o : Option Refusal) → first_of (clock_causes slots c t) ≡ o → c ≤ clock_after slots c t
    go none e =
        let z = (clock_moved slots c t e).1 in
        let two = first_none out_of_limits (not (clock_in slots t)) _ e in
        let six = (first_none clock_back (ltb t c) [] two.1).0 in
        omega (arith, z, ge_of t c six)
    go (some r) e = let z = (clock_stopped slots c t r e).1 in omega (arith, z)

-- so the counts are those of the clock that is left, where its slots are taken off
pub clock_counts : (head : record-of-head.Head) (ps : List record-of-preset.Preset) (n : ℕ) (st : State) {r : result.Outcome} {before after : Counts}
    → ClockDone head.slots st.clock st.hold n r → valid_record head ps ≡ true → Running (head_in head ps) st → CountsOf (head_in head ps) st.clock (cell (head_in head ps) st.table) before
    → (after.used ≡ before.used) × (after.admitted ≡ before.admitted)
    → (sizes_in_limits head.slots head.bridges 0 (length st.table) ≡ true → st.clock ≤ r.clock
    → AtLeast before.at_least head.slots (slot_free st.table head.bridges (motors_in head) st.clock)
    → AtLeast after.at_least head.slots (slot_free st.table head.bridges (motors_in head) r.clock))
    → CountsOf (head_in head ps) r.clock (cell (head_in head ps) st.table) after
clock_counts head ps n st {r} d v run was kept passed =
    let valid = record_valid head ps v in
    counts_passed (head_in head ps) st.clock r.clock st.table was kept
    (passed (in_limits head.slots head.bridges 0 (length st.table) valid.slots_high valid.bridges_high (omega arith) run.long)
    (omega (arith, d.clock, clock_onward head.slots st.clock n)))

-- ---- an event line as it was read

module _ (head : record-of-head.Head) (ps : List record-of-preset.Preset) (st : State) where
  -- what was read of a line, and what that comes to
  line_yields : (l : List ℕ) {x y : Result read.Event refusal.Refusal} {u : List ℕ} {r : result.Outcome} → x ≡ event_in (form l) → x ≡ y
      → Yields (line_outcome head ps st (asked_in y)) u r → Yields (line_meant head ps st l) u r
  line_yields l e m d = yields_same (ap (λ (z : Result read.Event refusal.Refusal). line_outcome head ps st (asked_in z)) (sym e ∙ m)) d

  clock_yields : {n : ℕ} {r : result.Outcome} → ClockDone head.slots st.clock st.hold n r → Yields (line_outcome head ps st (set_clock n)) st.table r
  unfolding line_outcome
  clock_yields {n} {r} d = go (first_of (clock_causes head.slots st.clock n)) refl
    where
      go : (o : Option Refusal) → first_of (clock_causes head.slots st.clock n) ≡ o → Yields (line_outcome head ps st (set_clock n)) st.table r
      go none e =
          let z = clock_moved head.slots st.clock n e in
          rw (e, line_outcome) (record { answer = d.answer ∙ z.0; table = refl; clock = d.clock ∙ z.1; hold = d.hold })
      go (some q) e =
          let z = clock_stopped head.slots st.clock n q e in
          rw (e, line_outcome) (record { answer = d.answer ∙ z.0; table = refl; clock = d.clock ∙ z.1; hold = d.hold })

  pub line_clock : (l : List ℕ) {x : Result read.Event refusal.Refusal} {n : ℕ} {r : result.Outcome} → x ≡ event_in (form l) → x ≡ Ok (asks.Clock n)
      → ClockDone head.slots st.clock st.hold n r → Yields (line_meant head ps st l) st.table r
  line_clock l e m d = line_yields l e m (clock_yields d)

  -- a call leaves all but the table
  meant_leaves : (jobs : List Job) → (call_meant head ps jobs st).after ≡ with_table (call_meant head ps jobs st).after.table st
  unfolding call_meant
  meant_leaves jobs = go (first_of (causes_of head ps st.table)) refl
    where
      go : (o : Option Refusal) → first_of (causes_of head ps st.table) ≡ o → (call_meant head ps jobs st).after ≡ with_table (call_meant head ps jobs st).after.table st
      go none q = rw (q, call_meant) (call_leaves (head_in head ps) jobs st)
      go (some p) q = rw (q, call_meant) refl

  -- a call of the layer below, as an event
  pub line_place : (l : List ℕ) {x : Result read.Event refusal.Refusal} {k : Call} {u : List ℕ} {a : Result ℕ refusal.Refusal} {y : Result reply.Answer refusal.Refusal}
      → x ≡ event_in (form l) → x ≡ Ok (asks.Call k) → CallDone head ps (call_jobs k.count k.jobs) st u a → answer_in y ≡ answer_of (call_answer_in a)
      → Yields (line_meant head ps st l) u (record { answer = y; clock = st.clock; hold = st.hold })
  unfolding line_outcome
  line_place l {k = k} e m d s =
      let left = sym (meant_leaves (call_jobs k.count k.jobs)) in
      line_yields l e m
      (record { answer = s ∙ ap answer_of d.answer; table = d.table; clock = ap (λ (z : State). z.clock) left; hold = ap (λ (z : State). z.hold) left })

  pub line_tie : (l : List ℕ) {x : Result read.Event refusal.Refusal} {hold : Bool} → x ≡ event_in (form l) → x ≡ Ok (asks.Tie hold)
      → Yields (line_meant head ps st l) st.table (record { answer = Ok (Tie hold); clock = st.clock; hold = hold })
  unfolding line_outcome
  line_tie l e m = line_yields l e m (record { answer = refl; table = refl; clock = refl; hold = refl })

  pub line_fault : (l : List ℕ) {x : Result read.Event refusal.Refusal} {q : refusal.Refusal} → x ≡ event_in (form l) → x ≡ Err q
      → Yields (line_meant head ps st l) st.table (record { answer = Err q; clock = st.clock; hold = st.hold })
  unfolding line_outcome
  line_fault l {x} {q} e m = line_yields l e m (refused_yields st q refl)

-- ---- what was read of a line is what the line asks for, on a frame that meets no cause

-- jobs within their limits are read as they are
padded_back : (k : ℕ) (l : List Job) → length l ≤ k → jobs_in_limits l ≡ true → jobs_in (length l) (padded k l) ≡ l
unfolding jobs_in_limits
padded_back k [] h e = refl
padded_back zero (j ∷ l) h e = absurd (omega arith)
padded_back (suc k) (j ∷ l) h e =
    let one = left_of (job_in_limits j) (jobs_in_limits l) e in
    let number = within_high 1 255 j.number (left_of (within 1 255 j.number) (within 1 64 j.slots) one) in
    let size = within_high 1 64 j.slots (right_of (within 1 255 j.number) (within 1 64 j.slots) one) in
    let n : seen j.number ≡ j.number = omega arith in
    let s : seen j.slots ≡ j.slots = omega arith in
    rw (n, s, padded_back k l (omega arith) (right_of (job_in_limits j) (jobs_in_limits l) e)) refl

padded_length : (k : ℕ) (l : List Job) → length (padded k l) ≡ k
padded_length zero l = refl
padded_length (suc k) [] = ap suc (padded_length k [])
padded_length (suc k) (j ∷ l) = ap suc (padded_length k l)

jobs_read_lem : (l : List Job) → call_in_limits l ≡ true → call_jobs (length l) (padded 8 l) ≡ l
jobs_read_lem l e =
    let few = le_of (length l) 8 (left_of (leb (length l) 8) (jobs_in_limits l) e) in
    call_jobs_lem (padded 8 l) (padded_length 8 l) (length l) few ∙ padded_back 8 l few (right_of (leb (length l) 8) (jobs_in_limits l) e)

-- each job within its limits, then all
all_in_limits_lem : (l : List Job) → ((i : ℕ) → i < length l → (within 1 255 (job_at l i).number ≡ true) × (within 1 64 (job_at l i).slots ≡ true))
    → jobs_in_limits l ≡ true
unfolding jobs_in_limits
all_in_limits_lem [] f = refl
all_in_limits_lem (j ∷ l) f =
    let first = f 0 (omega arith) in
    both (job_in_limits j) (jobs_in_limits l) (both (within 1 255 j.number) (within 1 64 j.slots) first.0 first.1)
    (all_in_limits_lem l (λ i h. f (suc i) (omega arith)))

-- a call that is not within its limits is refused by 2
jobs_refused : (l : List Job) → call_in_limits l ≡ false → jobs_outside l ≡ true
jobs_refused l e = go (is (jobs_outside l))
  where
    go : Is (jobs_outside l) → jobs_outside l ≡ true
    go (is_true o) = o
    go (is_false o) =
        let p = jobs_inside l o in
        absurd (clash (sym (both (leb (length l) 8) (jobs_in_limits l) (right_of (leb 1 (length l)) (leb (length l) 8) (of_within 1 8 (length l) p.0 p.1)) (all_in_limits_lem l p.2)) ∙ e))

module _ (h : Head) (st : State) (free : first_of (frame_causes h st) ≡ none) where
  outside : (t : ℕ) → suc h.slots < t → first_of (own_causes h st (set_clock t)) ≡ some out_of_limits
  outside t l = ap first_of (own_clock h st t) ∙ clock_above h.slots st.clock t l

  -- a t above S + 1, whether t was read as it is or stopped at 65,535
  clock_seen : (t : ℕ) → h.slots ≤ 64 → comes_to h st (set_clock t) ≡ comes_to h st (set_clock (seen t))
  clock_seen t small = go (is (leb t 65535))
    where
      go : Is (leb t 65535) → comes_to h st (set_clock t) ≡ comes_to h st (set_clock (seen t))
      go (is_true e) =
          let l = le_of t 65535 e in
          let s : t ≡ seen t = omega arith in
          ap (λ (n : ℕ). comes_to h st (set_clock n)) s
      go (is_false e) =
          let l = gt_of t 65535 e in
          asked_stopped h st (set_clock t) free out_of_limits (outside t (omega arith))
          ∙ sym (asked_stopped h st (set_clock (seen t)) free out_of_limits (outside (seen t) (omega arith)))

  fault_own : (r : Refusal) → first_of (own_causes h st (fault r)) ≡ some r
  unfolding own_causes
  fault_own r = met r true [] refl

  place_outside : (jobs : List Job) → jobs_outside jobs ≡ true → first_of (own_causes h st (place_jobs jobs)) ≡ some out_of_limits
  unfolding own_causes
  place_outside jobs e = met out_of_limits (jobs_outside jobs) _ e

  -- what a line asks for is what was read of it
  asked_read : (f : Option Form) → h.slots ≤ 64 → comes_to h st (asked_by_form f) ≡ comes_to h st (asked_in (event_in f))
  asked_read none small = refl
  asked_read (some (frame_line s b)) small = refl
  asked_read (some (busy_line b p)) small = refl
  asked_read (some (preset_line p)) small = refl
  asked_read (some (clock_line t)) small = clock_seen t small
  asked_read (some (tie_line hold)) small = refl
  asked_read (some (supply_line k)) small = refl
  asked_read (some (call_line p)) small = go (is (call_in_limits (jobs_of p)))
    where
      go : Is (call_in_limits (jobs_of p)) → comes_to h st (place_jobs (jobs_of p)) ≡ comes_to h st (asked_in (event_in (some (call_line p))))
      go (is_true e) = rw e (ap (λ (jobs : List Job). comes_to h st (place_jobs jobs)) (sym (jobs_read_lem (jobs_of p) e)))
      go (is_false e) =
          rw e
          (asked_stopped h st (place_jobs (jobs_of p)) free out_of_limits (place_outside (jobs_of p) (jobs_refused (jobs_of p) e))
          ∙ sym (asked_stopped h st (fault out_of_limits) free out_of_limits (fault_own out_of_limits)))

-- ---- the causes of the frame

module _ (head : record-of-head.Head) (ps : List record-of-preset.Preset) (st : State) where
  record_passes : first_of (frame_causes_of head ps st) ≡ none → first_of (causes_of head ps st.table) ≡ none
  record_passes e = append_left_none (causes_of head ps st.table) (eleven head ps st) e

  frame_passes : first_of (frame_causes_of head ps st) ≡ none → first_of (frame_causes (head_in head ps) st) ≡ none
  frame_passes e = sym (same_frame head ps st (record_passes e)) ∙ e

  pub frame_free : {w : Result Unit refusal.Refusal} {u : Unit} → cause_in w ≡ first_of (frame_causes_of head ps st) → w ≡ Ok u → first_of (frame_causes_of head ps st) ≡ none
  frame_free e p = sym e ∙ ap cause_in p

-- ---- an event on a frame that meets no cause

module _ (head : record-of-head.Head) (ps : List record-of-preset.Preset) (st : State) (none-met : first_of (frame_causes_of head ps st) ≡ none) where
  abbrev h : Head
  h = head_in head ps

  free : first_of (frame_causes h st) ≡ none
  free = frame_passes head ps st none-met

  slots_small : h.slots ≤ 64
  slots_small = (record_valid head ps (frame_known head ps st none-met).1).slots_high

  -- a tie meets no cause of its own
  tie_own : (hold : Bool) → first_of (own_causes h st (set_tie hold)) ≡ none
  unfolding own_causes
  tie_own hold = first_of_none

  -- what is asked for comes to the same where the causes of the frame are tried before it
  outcome_asked : (a : Asked) → line_outcome head ps st a ≡ comes_to h st a
  unfolding line_outcome carried_out call_meant
  outcome_asked (set_clock n) = go (first_of (clock_causes head.slots st.clock n)) refl
    where
      go : (o : Option Refusal) → first_of (clock_causes head.slots st.clock n) ≡ o
          → line_outcome head ps st (set_clock n) ≡ comes_to h st (set_clock n)
      go none e =
          rw (e, line_outcome) (sym (asked_carried h st (set_clock n) free (ap first_of (own_clock h st n) ∙ e)))
      go (some r) e =
          rw (e, line_outcome) (sym (asked_stopped h st (set_clock n) free r (ap first_of (own_clock h st n) ∙ e)))
  outcome_asked (set_tie hold) = sym (asked_carried h st (set_tie hold) free (tie_own hold))
  outcome_asked (place_jobs jobs) =
      let same : call_meant head ps jobs st ≡ call_of h jobs st =
      (let z = record_passes head ps st none-met in rw (z, call_meant) refl) in
      ap outcome_of same ∙ sym (event_call h st (call jobs) jobs refl)
  outcome_asked (fault r) = sym (asked_stopped h st (fault r) free r (fault_own h st free r))

  -- an event line comes to what the event does
  pub line_event_lem : (l : List ℕ) → line_meant head ps st l ≡ event_of h st (line l)
  line_event_lem l = outcome_asked (asked_in (event_in (form l))) ∙ sym (asked_read h st free (form l) slots_small)

  pub line_done : (l : List ℕ) {u : List ℕ} {r : result.Outcome} → Yields (line_meant head ps st l) u r
      → Yields (event_of h st (line l)) u r
  line_done l y = yields_same (sym (line_event_lem l)) y

  -- and so does a clock that is handed over
  pub clock_done : (n : ℕ) {r : result.Outcome} → ClockDone head.slots st.clock st.hold n r → Yields (event_of h st (clock n)) st.table r
  clock_done n d = yields_same (sym (outcome_asked (set_clock n))) (clock_yields head ps st d)

-- ---- a law for each answer of an entry

module _ (head : record-of-head.Head) (ps : List record-of-preset.Preset) (st : State) (e : Event) where
  meant_stopped : (r : Refusal) → first_of (causes_of head ps st.table) ≡ some r → event_meant head ps st e ≡ stopped_by r st
  unfolding event_meant
  meant_stopped r q = rw (q, event_meant) refl

  pub meant_event : first_of (causes_of head ps st.table) ≡ none → event_meant head ps st e ≡ event_of (head_in head ps) st e
  unfolding event_meant
  meant_event q = rw (q, event_meant) refl

  event_stopped : (r : Refusal) → first_of (frame_causes (head_in head ps) st) ≡ some r → event_of (head_in head ps) st e ≡ stopped_by r st
  unfolding comes_to
  event_stopped r q =
      let f = append_some (frame_causes (head_in head ps) st) (own_causes (head_in head ps) st (asked e)) r q in
      rw (f, comes_to) refl

  -- a cause of the frame is met
  frame_stops : (r : Refusal) → first_of (frame_causes_of head ps st) ≡ some r → event_meant head ps st e ≡ stopped_by r st
  frame_stops r f = go (first_of (causes_of head ps st.table)) refl
    where
      go : (o : Option Refusal) → first_of (causes_of head ps st.table) ≡ o → event_meant head ps st e ≡ stopped_by r st
      go none q = meant_event q ∙ event_stopped r (sym (same_frame head ps st q) ∙ f)
      go (some p) q =
          let w : some p ≡ some r = sym (append_some (causes_of head ps st.table) (eleven head ps st) p q) ∙ f in
          meant_stopped r (q ∙ w)

  pub frame_refused : {w : Result Unit refusal.Refusal} (q : refusal.Refusal) → cause_in w ≡ first_of (frame_causes_of head ps st) → w ≡ Err q
      → EventDone head ps st e st.table (record { answer = Err q; clock = st.clock; hold = st.hold })
  frame_refused q f m = refused_yields st q (frame_stops (refusal_in q) (sym f ∙ ap cause_in m))

  -- none is
  pub event_done : {u : List ℕ} {r : result.Outcome} → first_of (frame_causes_of head ps st) ≡ none
      → Yields (event_of (head_in head ps) st e) u r → EventDone head ps st e u r
  event_done f y = yields_same (meant_event (record_passes head ps st f)) y

  -- ---- the frame afterwards

  yields_running : {o : Outcome} {u : List ℕ} {r : result.Outcome} → Yields o u r → Running (head_in head ps) o.after
      → Running (head_in head ps) (state_of u r.clock r.hold)
  yields_running y run = rw (y.table, y.clock, y.hold) run

  -- "any sound table and clock that 11 lets pass" is one afterwards
  pub done_running : {u : List ℕ} {r : result.Outcome} → EventDone head ps st e u r → Running (head_in head ps) st → Running (head_in head ps) (state_of u r.clock r.hold)
  done_running {u} {r} y run = go (first_of (causes_of head ps st.table)) refl
    where
      go : (o : Option Refusal) → first_of (causes_of head ps st.table) ≡ o → Running (head_in head ps) (state_of u r.clock r.hold)
      go none q = yields_running (yields_same (sym (meant_event q)) y) (event_running (head_in head ps) st e run)
      go (some p) q = yields_running (yields_same (sym (meant_stopped p q)) y) run
