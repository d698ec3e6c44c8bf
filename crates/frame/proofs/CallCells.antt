-- Call cells over events: they stay where they are, and each job of an accepted call keeps just those that the call gave it.
--
-- In order: what is kept of call cells (`KeptCalls`), of nothing done (`calls_same`), of two steps in turn (`calls_twice`), of one event (`event_calls`), of a list
-- (`run_calls`); the cells of a call's jobs after the whole list (`exact_at`, `later_at`); all of it (`call_cells`).
-- Assumes nothing.
use Prim.Native.Nat.{ℕ, suc, ◌<◌}
use native.Mathlib.Omega.{arith}
use mathlib.Core.Path.{◌≡◌, refl, sym, ◌∙◌, ap, subst}
use mathlib.Core.Bool.{true}
use mathlib.Core.List.{List}
use lib.ListN.{length, drop}
use lib.Dec.{eqb}
use Rattle.laws.proofs.Tests.{Is, is_true, is_false, is, clash, neither_right, test_ext}
use Rattle.laws.proofs.Comparisons.{lt_of, eq_of, ne_of, ltb_yes, eqb_yes}
use Rattle.station.specs.Head.{Head, Job}
use Rattle.placing.specs.Table.{Cells, cell, Each, kind_of, is_call, call_cell, holding, has_job, has_preset, WellFormed}
use Rattle.placing.specs.State.{State}
use Rattle.placing.specs.Valid.{ValidCall, Change, usable, job_at}
use Rattle.placing.specs.Outcomes.{Cost, cost_of, CallAnswer, call_of}
use Rattle.placing.specs.Claims.{Running}
use Rattle.placing.proofs.Theorems.{cells_pos, cells_ext, Good, has_job_of, changed_call, changed_new_call, new_usable}
use Rattle.placing.proofs.Theorems.{call_accepted, call_claim_lem}
use Rattle.frame.specs.Event.{Event, taken, Outcome, event_of, run_of}
use Rattle.frame.specs.Demands.{state_at, answer_at, EventIs, stopped, clock_set, tie_set, placed, CallAt, CallCells}
use Rattle.frame.proofs.EventList.{kept_over, run_rest, between}
use Rattle.frame.proofs.OneEvent.{event_is, call_taken, call_table, event_running}
use Rattle.frame.proofs.ListedCalls.{running_at, took, valid_at}

record KeptCalls (h : Head) (t u : List ℕ) : Type 0 where
  calls : Each h (λ s b. is_call (cell h t s b) ≡ true → cell h u s b ≡ cell h t s b)
  -- a job that has a cell gets no other
  no_more : (n : ℕ) → has_job h (cell h t) n ≡ true → Each h (λ s b. cell h u s b ≡ call_cell n → cell h t s b ≡ call_cell n)

calls_same : (h : Head) (t : List ℕ) → KeptCalls h t t
calls_same h t = record { calls = λ s b l m e. refl; no_more = λ n e s b l m q. q }

-- a cell that holds a job's number in a well-formed table is a call cell
call_cell_lem : (h : Head) (t : Cells) → WellFormed h t → (n : ℕ) → Each h (λ s b. t s b ≡ call_cell n → is_call (t s b) ≡ true)
call_cell_lem h t w n s b l m e = eqb_yes (kind_of (t s b)) 4 (omega (arith, w.kinds s b l m))

calls_twice : (h : Head) (t u v : List ℕ) → WellFormed h (cell h t) → KeptCalls h t u → KeptCalls h u v → KeptCalls h t v
calls_twice h t u v w a b = record {
  calls = λ s c l m e. let one = a.calls s c l m e in b.calls s c l m (ap is_call one ∙ e) ∙ one;
  no_more = λ n e s c l m q. a.no_more n e s c l m (b.no_more n (still n e) s c l m q);
}
  where
    still : (n : ℕ) → has_job h (cell h t) n ≡ true → has_job h (cell h u) n ≡ true
    still n e =
        go (cells_pos h (λ s b. eqb (cell h t s b) (call_cell n)) (lt_of 0 (holding h (cell h t) (call_cell n)) e))
      where
        go : (s b : ℕ) × (s < h.slots) × (b < h.bridges) × (eqb (cell h t s b) (call_cell n) ≡ true) → has_job h (cell h u) n ≡ true
        go (s, b, l, m, p) =
            let here = eq_of (cell h t s b) (call_cell n) p in
            has_job_of h (cell h u) n s b l m (a.calls s b l m (call_cell_lem h (cell h t) w n s b l m here) ∙ here)

-- ---- one event

-- an accepted call
module _ (h : Head) (jobs : List Job) (st : State) (n : Cost) (taken_is : (call_of h jobs st).answer ≡ CallAnswer.taken n) where
  abbrev u : List ℕ
  u = (call_of h jobs st).after.table

  changes : Each h (λ s b. Change st.clock jobs s (cell h st.table s b) (cell h u s b))
  changes = ((call_claim_lem h jobs st).valid n taken_is).changes

  good : Good h (cell h st.table) jobs
  good = (call_accepted h jobs st n taken_is).1

  call_calls : KeptCalls h st.table (call_of h jobs st).after.table
  call_calls = record {
    calls = changed_call h st.clock jobs (cell h st.table) (cell h u) good.high changes;
    no_more = λ k e s b l m q. old k e s b l m q (is (eqb (cell h u s b) (cell h st.table s b)));
  }
    where
      old : (k : ℕ) → has_job h (cell h st.table) k ≡ true → (s b : ℕ) → s < h.slots → b < h.bridges → cell h u s b ≡ call_cell k
          → Is (eqb (cell h u s b) (cell h st.table s b)) → cell h st.table s b ≡ call_cell k
      old k e s b l m q (is_true p) = sym (eq_of (cell h u s b) (cell h st.table s b) p) ∙ q
      old k e s b l m q (is_false p) =
          let f = changed_new_call h st.clock jobs (cell h st.table) (cell h u) good.high changes s b l m
          (call_cell_lem h (cell h u) ((call_claim_lem h jobs st).valid n taken_is).well_formed k s b l m q) (ne_of (cell h u s b) (cell h st.table s b) p) in
          let number : (job_at jobs f.0).number ≡ k = omega (arith, f.2) in
          absurd (clash (sym e ∙ ap (has_job h (cell h st.table)) (sym number)
          ∙ neither_right (has_preset h (job_at jobs f.0).number) (has_job h (cell h st.table) (job_at jobs f.0).number) (good.fresh f.0 f.1)))

event_calls : (h : Head) (st : State) (e : Event) → KeptCalls h st.table (event_of h st e).after.table
event_calls h st e = go (event_of h st e) (event_is h st e) refl
  where
    go : (o : Outcome) → EventIs h st e o → event_of h st e ≡ o → KeptCalls h st.table o.after.table
    go _ (stopped r f) q = calls_same h st.table
    go _ (clock_set t asks f) q = calls_same h st.table
    go _ (tie_set hold asks f) q = calls_same h st.table
    go _ (placed jobs asks f) q =
        let n = cost_of h jobs st in
        subst (KeptCalls h st.table) (sym (call_table h st e jobs asks) ∙ ap (λ (o : Outcome). o.after.table) q)
        (call_calls h jobs st n (call_taken h st e jobs asks n (ap (λ (o : Outcome). o.answer) q)))

-- ---- a list of events

run_calls : (h : Head) (st : State) (es : List Event) → Running h st → KeptCalls h st.table (run_of h st es).after.table
run_calls h st es run =
    kept_over h (Running h) (λ x y. KeptCalls h x.table y.table) (λ x p. calls_same h x.table)
    (λ x y z p q. calls_twice h x.table y.table z.table p.well_formed.cells) (event_running h) (λ x e p. event_calls h x e) st es run

-- ---- the cells of a call's jobs

module _ (h : Head) (st : State) (es : List Event) (start : Running h st) (j : ℕ) (jobs : List Job) (here : CallAt es j jobs) (n : Cost) (q : answer_at h st es j ≡ taken n) where
  -- the state that the call gets, and the table that it leaves
  abbrev before : State
  before = state_at h st es j

  abbrev left : List ℕ
  left = (state_at h st es (suc j)).table

  valid : ValidCall h before.clock jobs (cell h before.table) (cell h left)
  valid = valid_at h st es start j jobs here n q

  -- the jobs' cells after the whole list are those after the call
  kept_since : KeptCalls h left (run_of h st es).after.table
  kept_since =
      subst (λ (x : State). KeptCalls h left x.table) (run_rest h st es (suc j))
      (run_calls h (state_at h st es (suc j)) (drop (suc j) es) (running_at h st es start (suc j)))

  module _ (i : ℕ) (l : i < length jobs) where
    abbrev v : ℕ
    v = call_cell (job_at jobs i).number

    has : has_job h (cell h left) (job_at jobs i).number ≡ true
    has = ltb_yes 0 (holding h (cell h left) v) (omega (arith, valid.exact i l, (call_accepted h jobs before n (took h st es start j jobs here n q)).2 i l))

    then : Each h (λ s b. cell h left s b ≡ v → cell h (run_of h st es).after.table s b ≡ v)
    then s b m k e =
        kept_since.calls s b m k (call_cell_lem h (cell h left) valid.well_formed (job_at jobs i).number s b m k e) ∙ e

    exact_at : holding h (cell h (run_of h st es).after.table) v ≡ (job_at jobs i).slots
    exact_at =
        cells_ext h (λ s b. eqb (cell h (run_of h st es).after.table s b) v) (λ s b. eqb (cell h left s b) v)
        (λ s b m k. test_ext (eqb (cell h (run_of h st es).after.table s b) v) (eqb (cell h left s b) v)
        (λ e. eqb_yes _ v (kept_since.no_more (job_at jobs i).number has s b m k (eq_of _ v e)))
        (λ e. eqb_yes _ v (then s b m k (eq_of _ v e))))
        ∙ valid.exact i l

    later_at : Each h (λ s b. cell h (run_of h st es).after.table s b ≡ v → usable before.clock s ≡ true)
    later_at s b m k e =
        new_usable h before.clock jobs (cell h before.table) (cell h left) (call_accepted h jobs before n (took h st es start j jobs here n q)).1
        valid.changes i l s b m k (kept_since.no_more (job_at jobs i).number has s b m k e)

pub call_cells : (h : Head) (st : State) (es : List Event) → Running h st → CallCells h st es
call_cells h st es start = record {
  jobs_exact = λ j jobs n here. exact_at h st es start j jobs here n;
  jobs_later = λ j jobs n here. later_at h st es start j jobs here n;
  calls_between = λ i j l m.
      (between h (Running h) (λ x y. KeptCalls h x.table y.table) (event_running h) (run_calls h) st es start i j l m).calls;
  calls_stay = (run_calls h st es start).calls;
}
