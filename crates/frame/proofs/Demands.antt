-- The demands, proved for all texts, tables, starts and lists of events.
--
-- In order: demand 1; demand 2 and the one text of a head; demand 3 for any start that 11 lets pass, and from a plan's start.
-- Assumes nothing.
use Prim.Native.Nat.{ℕ, suc, ◌≤◌, ◌<◌}
use native.Mathlib.Omega.{arith}
use mathlib.Core.Path.{◌≡◌, refl, sym, ◌∙◌, ap, subst}
use mathlib.Core.Bool.{Bool}
use mathlib.Core.List.{List}
use lib.ListN.{length, take}
use lib.Dec.{ltb}
use Rattle.laws.proofs.Tests.{Is, is_true, is_false, is}
use Rattle.laws.proofs.Comparisons.{lt_of, ge_of}
use Rattle.station.specs.Head.{Head}
use Rattle.station.specs.Refusal.{first_of, mandatory_not_feasible}
use Rattle.station.specs.Form.{tie_line, print}
use Rattle.station.specs.Reading.{Reading, head_of}
use Rattle.station.proofs.Theorems.{read_means, read_valid, read_written, written_read, yielded}
use Rattle.placing.specs.State.{State, state_of, with_table}
use Rattle.placing.specs.Valid.{first_clock}
use Rattle.placing.specs.Plan.{tie_of, planned}
use Rattle.placing.specs.Outcomes.{PlanAnswer, plan_of}
use Rattle.placing.specs.Claims.{Running}
use Rattle.placing.proofs.Theorems.{cell_written, grants_rule}
use Rattle.placing.proofs.Theorems.{clock_is}
use Rattle.placing.proofs.Theorems.{plan_granted, plan_claim, plan_only_five, nine_counts_all, call_claim_lem}
use Rattle.frame.specs.Event.{Event, asked, tie_now, Run, run_of}
use Rattle.frame.specs.Text.{Whole, ran, start_of, events_of, whole_with_plan, whole_with_head, whole_of}
use Rattle.frame.specs.Demands.{state_at, event_at, answer_at, cells_at, Ends, too_long, too_short_lem, head_refused, is_not_planned, is_planned}
use Rattle.frame.specs.Listing.{answer_line}
use Rattle.frame.specs.Demands.{EventIs, Demand1, Demand2, OneText, last_tie, Between, Demand3}
use Rattle.frame.proofs.EventList.{answered, outcome_at, answer_at_lem, state_next, state_end, answers_take, between}
use Rattle.frame.proofs.OneEvent.{event_is, refused_no_line, refused_leaves, clock_leaves, taken_leaves, tie_leaves, now_asks, tie_asks, tie_line_lem, tie_said, event_never_eleven, seven_asks, event_running}
use Rattle.frame.proofs.KeptCells.{Kept, Still, run_kept, run_still, run_counted, run_clock, run_tie}
use Rattle.frame.proofs.ListedCalls.{running_at, call_claim, seven_at, took, rule_at, slots_at, valid_at, lost_at, reported_at, least_at}
use Rattle.frame.proofs.CallCells.{call_cells}

-- ---- demand 1

-- 10 and 8 come before the head is looked at
text_ends : (text t : List ℕ) → Ends text t (whole_of text t)
unfolding whole_of first_of whole_with_head whole_with_plan
text_ends text t = go (is (ltb 32768 (length text))) (is (ltb (length t) 512))
  where
    with_plan : (h : Head) (n : ℕ) → 512 ≤ length t → head_of text ≡ Reading.accepted h n → (a : PlanAnswer) → (plan_of h t).answer ≡ a
        → Ends text t (whole_with_plan text h n a (plan_of h t).table)
    with_plan h n long e (PlanAnswer.granted g) q =
        is_planned long (read_means text (Reading.accepted h n) e) q ((plan_claim h t).valid g q)
    with_plan h n long e (PlanAnswer.refused k r) q =
        let five : PlanAnswer.refused k r ≡ PlanAnswer.refused 0 mandatory_not_feasible = plan_only_five h t r long (read_valid text h n e) q in
        let only : r ≡ mandatory_not_feasible = cc in
        rw only (is_not_planned long (read_means text (Reading.accepted h n) e) ((plan_claim h t).five.0 (q ∙ five)).2)

    with_head : length text ≤ 32768 → 512 ≤ length t → (x : Reading) → head_of text ≡ x → Ends text t (whole_with_head text x t)
    with_head short long (Reading.accepted h n) e = with_plan h n long e (plan_of h t).answer refl
    with_head short long (Reading.refused n r) e = head_refused short long (read_means text (Reading.refused n r) e)

    go : Is (ltb 32768 (length text)) → Is (ltb (length t) 512) → Ends text t (whole_of text t)
    go (is_true e) f = rw (e, whole_of) (too_long (lt_of 32768 (length text) e))
    go (is_false e) (is_true f) = rw (e, f, whole_of) (too_short_lem (ge_of 32768 (length text) e) (lt_of (length t) 512 f))
    go (is_false e) (is_false f) = rw (e, f, whole_of) (with_head (ge_of 32768 (length text) e) (ge_of (length t) 512 f) (head_of text) refl)

-- a text that ran has its plan, and has run its lines from it
pub ran_granted : (text t : List ℕ) (h : Head) (n : ℕ) (g : List ℕ) (r : Run) → whole_of text t ≡ ran h n g r → (plan_of h t).answer ≡ PlanAnswer.granted g
ran_granted text t h n g r e = go (whole_of text t) (text_ends text t) e
  where
    go : (w : Whole) → Ends text t w → w ≡ ran h n g r → (plan_of h t).answer ≡ PlanAnswer.granted g
    go _ (too_long p) q = cc
    go _ (too_short_lem p s) q = cc
    go _ (head_refused p s m) q = cc
    go _ (is_not_planned p m s) q = cc
    go _ (is_planned p m a v) q = cc

pub ran_is : (text t : List ℕ) (h : Head) (n : ℕ) (g : List ℕ) (r : Run) → whole_of text t ≡ ran h n g r
    → r ≡ run_of h (start_of h (plan_of h t).table) (events_of text n)
ran_is text t h n g r e = go (whole_of text t) (text_ends text t) e
  where
    go : (w : Whole) → Ends text t w → w ≡ ran h n g r → r ≡ run_of h (start_of h (plan_of h t).table) (events_of text n)
    go _ (too_long p) q = cc
    go _ (too_short_lem p s) q = cc
    go _ (head_refused p s m) q = cc
    go _ (is_not_planned p m s) q = cc
    go _ (is_planned p m a v) q = cc

-- event j of a list, with the answer that the list gives it
event_at_lem : (h : Head) (st : State) (es : List Event) (j : ℕ) → j < length es
    → EventIs h (state_at h st es j) (event_at es j) (record { answer = answer_at h st es j; after = state_at h st es (suc j) })
event_at_lem h st es j l =
    subst (EventIs h (state_at h st es j) (event_at es j)) (sym (outcome_at h st es j l)) (event_is h (state_at h st es j) (event_at es j))

-- Demand 1, for every text and every table.
pub demand_1 : (text t : List ℕ) → Demand1 text t
demand_1 text t = record {
  ends = text_ends text t;
  later = λ h n g r e j l.
      rw (ran_is text t h n g r e) (event_at_lem h (start_of h (plan_of h t).table) (events_of text n) j l);
  left = λ h n g r e.
      rw (ran_is text t h n g r e) (
        answered h (start_of h (plan_of h t).table) (events_of text n),
        sym (state_end h (start_of h (plan_of h t).table) (events_of text n)),
      );
}

-- ---- demand 2

-- Demand 2, for every head record and every table.
pub demand_2 : (h : Head) (t : List ℕ) → Demand2 h t
demand_2 h t = record {
  grants = λ g q. let p = plan_granted h t g q in rw p.0 (grants_rule p.1);
  slots = (plan_claim h t).slots;
  cells = λ g q. rw (plan_granted h t g q).4 (cell_written h (planned (tie_of h.hold) h) t);
  call_slots = λ clock hold jobs. (call_claim_lem h jobs (state_of t clock hold)).slots;
  call_cells = λ clock hold jobs n q. (call_claim_lem h jobs (state_of t clock hold)).rule n q;
}

-- reading and writing a head are inverse
pub one_text : OneText
one_text = record { read_written = read_written; written_read = written_read; valid_is_yielded = yielded }

-- ---- demand 3

-- what stays from the start of any list to its end, stays between any two moments of one
kept_between : (h : Head) (st : State) (es : List Event) → Running h st
    → Between es (λ i j. Kept h (state_at h st es i).table (state_at h st es j).table)
kept_between h st es start = between h (Running h) (λ x y. Kept h x.table y.table) (event_running h) (run_kept h) st es start

-- "printed as it came"
tie_text : (n : ℕ) (hold : Bool) → answer_line n (tie_now hold) ≡ print (tie_line hold)
unfolding answer_line
tie_text n hold = refl

-- Demand 3, over any list of events from any start that 11 lets pass.
pub demand_3 : (h : Head) (st : State) (es : List Event) → Running h st → Demand3 h st es
demand_3 h st es start = record {
  answered = answered h st es;
  seven = seven_at h st es start;
  seven_is_a_call = λ j l q.
      let w = seven_asks h (state_at h st es j) (event_at es j) (running_at h st es start j) (sym (answer_at_lem h st es j l) ∙ q) in
      (w.0, record { inside = l; asks = w.1 });
  capacity = λ j jobs here. (call_claim h st es start j jobs here).capacity;
  excess = λ j jobs n here q. (call_claim h st es start j jobs here).excess n (took h st es start j jobs here n q);
  evicted = λ j jobs n here q. (call_claim h st es start j jobs here).evicted n (took h st es start j jobs here n q);
  frees = λ j jobs here. (call_claim h st es start j jobs here).frees;
  order = λ j jobs n here q. (call_claim h st es start j jobs here).order n (took h st es start j jobs here n q);
  rule = λ j jobs n here. rule_at h st es start j jobs here n;
  slots = λ j jobs n here. slots_at h st es start j jobs here n;
  valid = λ j jobs n here. valid_at h st es start j jobs here n;
  lost_cells = λ j jobs n here. lost_at h st es start j jobs here n;
  reported = λ j jobs n here. reported_at h st es start j jobs here n;
  least = λ j jobs n here. least_at h st es start j jobs here n;
  nine_counts_all = λ j l u. let r = running_at h st es start j in nine_counts_all h (cells_at h st es j) u r.valid r.well_formed.cells;
  any_order = λ j jobs n here q. (call_claim h st es start j jobs here).any_order n (took h st es start j jobs here n q);
  never_eleven = λ j l q.
      event_never_eleven h (state_at h st es j) (event_at es j) (running_at h st es start j) (sym (answer_at_lem h st es j l) ∙ q);
  running = subst (Running h) (state_end h st es) (running_at h st es start (length es));
  clock = run_clock h st es;
  clock_asked_lem = λ j t l q. now_asks h (state_at h st es j) (event_at es j) t (sym (answer_at_lem h st es j l) ∙ q);
  tie = run_tie h st es;
  tie_at = λ j. run_tie h st (take j es) ∙ ap (last_tie st.hold) (answers_take h st es j);
  tie_accepted = λ j hold l. (
    λ q. tie_asks h (state_at h st es j) (event_at es j) hold (sym (answer_at_lem h st es j l) ∙ q),
    λ q. answer_at_lem h st es j l ∙ tie_said h (state_at h st es j) (event_at es j) hold (running_at h st es start j) q,
  );
  tie_leaves = λ j hold l q.
      state_next h st es j l ∙ tie_leaves h (state_at h st es j) (event_at es j) hold (sym (answer_at_lem h st es j l) ∙ q);
  tie_printed = λ j n l hold i e q.
      tie_text n hold ∙ sym (tie_line_lem l hold (ap asked (sym e) ∙ tie_asks h (state_at h st es j) (event_at es j) hold (sym (answer_at_lem h st es j i) ∙ q)));
  no_line = λ j n r l q. refused_no_line h (state_at h st es j) (event_at es j) n r (sym (answer_at_lem h st es j l) ∙ q);
  refused_leaves = λ j r l q.
      state_next h st es j l ∙ refused_leaves h (state_at h st es j) (event_at es j) 0 r (sym (answer_at_lem h st es j l) ∙ q);
  clock_leaves = λ j t l q.
      state_next h st es j l ∙ clock_leaves h (state_at h st es j) (event_at es j) t (sym (answer_at_lem h st es j l) ∙ q);
  call_leaves = λ j n l q.
      state_next h st es j l
      ∙ taken_leaves h (state_at h st es j) (event_at es j) n (sym (answer_at_lem h st es j l) ∙ q)
      ∙ ap (λ (x : State). with_table x.table (state_at h st es j)) (sym (state_next h st es j l));
  fixed = (run_kept h st es start).fixed;
  fixed_between = λ i j l m. (kept_between h st es start i j l m).fixed;
  optional = (run_kept h st es start).optional;
  optional_between = λ i j l m. (kept_between h st es start i j l m).optional;
  still = λ i j l m. (between h (Running h) (Still h) (event_running h) (run_still h) st es start i j l m).cells;
  conserved = run_counted h st es;
  calls = call_cells h st es start;
  past = (run_kept h st es start).past;
}

-- From a plan's start: "an accepted head with its plan and the first clock".
pub planned_running : (h : Head) (t g : List ℕ) → (plan_of h t).answer ≡ PlanAnswer.granted g → Running h (start_of h (plan_of h t).table)
planned_running h t g q =
    let p = plan_granted h t g q in
    record {
      long = omega (arith, p.3, (plan_claim h t).past.long);
      valid = p.2;
      well_formed = record { cells = ((plan_claim h t).valid g q).well_formed; clock = clock_is h.slots first_clock (omega arith) };
    }

pub demand_3_planned : (h : Head) (t g : List ℕ) → (plan_of h t).answer ≡ PlanAnswer.granted g → (es : List Event)
    → Demand3 h (start_of h (plan_of h t).table) es
demand_3_planned h t g q es = demand_3 h (start_of h (plan_of h t).table) es (planned_running h t g q)
