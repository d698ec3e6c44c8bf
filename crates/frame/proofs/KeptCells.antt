-- What events leave as it was, one event and a whole list: busy and mandatory cells, all past the frame; optional cells only go, and as many as were reported.
-- (Call cells: CallCells.antt.)
--
-- In order: what is kept (`Kept`), of nothing done (`kept_same`), of two steps in turn (`kept_twice`), of one event (`event_kept`), of a list
-- (`run_kept`); the same of the cells in slots up to the clock (`run_still`); the optional cells counted (`run_counted`); a part of the state by the
-- answers alone (`run_through`), so the clock (`run_clock`) and the order of ties (`run_tie`).
-- Assumes nothing.
use Prim.Native.Nat.{ℕ, ◌+◌, ◌≤◌}
use native.Mathlib.Omega.{arith}
use mathlib.Core.Path.{◌≡◌, refl, sym, ◌∙◌, ap, subst}
use mathlib.Core.Bool.{true, false, ◌||◌}
use mathlib.Core.List.{List, [], ◌∷◌}
use Rattle.station.specs.Head.{Head, Job}
use Rattle.placing.specs.Table.{cell, Each, is_busy, is_mandatory, is_optional}
use Rattle.placing.specs.State.{State}
use Rattle.placing.specs.Valid.{Change, usable, optional_count}
use Rattle.placing.specs.Outcomes.{Cost, cost_of, CallAnswer, call_of}
use Rattle.placing.specs.Claims.{Running, SamePast}
use Rattle.placing.proofs.Theorems.{Good}
use Rattle.placing.proofs.Theorems.{usable_later, change_gone, changed_keeps_fixed, changed_kept_fixed, changed_optional, changed_optional_count}
use Rattle.placing.proofs.Theorems.{call_accepted, call_claim_lem}
use Rattle.frame.specs.Event.{Event, Answer, clock_now, tie_now, taken, refused, Outcome, event_of, run_of}
use Rattle.frame.specs.Demands.{EventIs, stopped, clock_set, tie_set, placed, SameFixed, through, clock_by, last_clock, tie_by, last_tie, total_taken}
use Rattle.frame.proofs.EventList.{kept_over}
use Rattle.frame.proofs.OneEvent.{event_is, clock_set_lem, call_taken, call_table, event_running}

pub record Kept (h : Head) (t u : List ℕ) : Type 0 where
  pub fixed : Each h (λ s b. SameFixed (cell h t s b) (cell h u s b))
  pub optional : Each h (λ s b. is_optional (cell h u s b) ≡ true → cell h u s b ≡ cell h t s b)
  pub past : SamePast h t u

pub kept_same : (h : Head) (t : List ℕ) → Kept h t t
kept_same h t = record {
  fixed = λ s b l m. record { from_first = λ e. refl; from_second = λ e. refl };
  optional = λ s b l m e. refl;
  past = record { long = refl; past = refl };
}

pub kept_twice : (h : Head) (t u v : List ℕ) → Kept h t u → Kept h u v → Kept h t v
kept_twice h t u v a b = record {
  fixed = λ s c l m. record {
    from_first = λ e.
        let one = (a.fixed s c l m).from_first e in
        (b.fixed s c l m).from_first (ap (λ (x : ℕ). is_busy x || is_mandatory x) one ∙ e) ∙ one;
    from_second = λ e.
        let two = (b.fixed s c l m).from_second e in
        two ∙ (a.fixed s c l m).from_second (ap (λ (x : ℕ). is_busy x || is_mandatory x) (sym two) ∙ e);
  };
  optional = λ s c l m e. let two = b.optional s c l m e in two ∙ a.optional s c l m (ap is_optional (sym two) ∙ e);
  past = record { long = b.past.long ∙ a.past.long; past = b.past.past ∙ a.past.past };
}

-- ---- one event

-- an accepted call
module _ (h : Head) (jobs : List Job) (st : State) (n : Cost) (took : (call_of h jobs st).answer ≡ CallAnswer.taken n) where
  abbrev u : List ℕ
  u = (call_of h jobs st).after.table

  changes : Each h (λ s b. Change st.clock jobs s (cell h st.table s b) (cell h u s b))
  changes = ((call_claim_lem h jobs st).valid n took).changes

  good : Good h (cell h st.table) jobs
  good = (call_accepted h jobs st n took).1

  call_kept : Kept h st.table (call_of h jobs st).after.table
  call_kept = record {
    fixed = λ s b l m. record {
      from_first = changed_keeps_fixed h st.clock jobs (cell h st.table) (cell h u) good.high changes s b l m;
      from_second = changed_kept_fixed h st.clock jobs (cell h st.table) (cell h u) good.high changes s b l m;
    };
    optional = changed_optional h st.clock jobs (cell h st.table) (cell h u) good.high changes;
    past = (call_claim_lem h jobs st).past;
  }

  call_counted : optional_count h (cell h st.table) ≡ optional_count h (cell h (call_of h jobs st).after.table) + n.count
  call_counted =
      omega (arith, changed_optional_count h st.clock jobs (cell h st.table) (cell h u) good.high changes, (call_claim_lem h jobs st).reported n took)

pub event_kept : (h : Head) (st : State) (e : Event) → Kept h st.table (event_of h st e).after.table
event_kept h st e = go (event_of h st e) (event_is h st e) refl
  where
    go : (o : Outcome) → EventIs h st e o → event_of h st e ≡ o → Kept h st.table o.after.table
    go _ (stopped r f) q = kept_same h st.table
    go _ (clock_set t asks f) q = kept_same h st.table
    go _ (tie_set hold asks f) q = kept_same h st.table
    go _ (placed jobs asks f) q =
        let n = cost_of h jobs st in
        subst (Kept h st.table) (sym (call_table h st e jobs asks) ∙ ap (λ (o : Outcome). o.after.table) q)
        (call_kept h jobs st n (call_taken h st e jobs asks n (ap (λ (o : Outcome). o.answer) q)))

-- ---- a list of events

pub run_kept : (h : Head) (st : State) (es : List Event) → Running h st → Kept h st.table (run_of h st es).after.table
run_kept h st es run =
    kept_over h (Running h) (λ x y. Kept h x.table y.table) (λ x p. kept_same h x.table)
    (λ x y z p q. kept_twice h x.table y.table z.table) (event_running h) (λ x e p. event_kept h x e) st es run

-- ---- slots up to the clock

-- from one state to a later one the clock does not fall, and every cell of a slot up to it stays
pub record Still (h : Head) (x y : State) : Type 0 where
  pub later : x.clock ≤ y.clock
  pub cells : Each h (λ s b. usable x.clock s ≡ false → cell h y.table s b ≡ cell h x.table s b)

still_same : (h : Head) (x : State) → Still h x x
still_same h x = record { later = omega arith; cells = λ s b l m e. refl }

still_twice : (h : Head) (x y z : State) → Still h x y → Still h y z → Still h x z
still_twice h x y z a b = record {
  later = omega (arith, a.later, b.later);
  cells = λ s c l m e.
      b.cells s c l m (usable_later x.clock y.clock s a.later e) ∙ a.cells s c l m e;
}

event_still : (h : Head) (st : State) (e : Event) → Still h st (event_of h st e).after
event_still h st e = go (event_of h st e) (event_is h st e) refl
  where
    go : (o : Outcome) → EventIs h st e o → event_of h st e ≡ o → Still h st o.after
    go _ (stopped r f) q = still_same h st
    go _ (clock_set t asks f) q = record { later = (clock_set_lem h st e t asks f).1; cells = λ s b l m g. refl }
    go _ (tie_set hold asks f) q = record { later = omega arith; cells = λ s b l m g. refl }
    go _ (placed jobs asks f) q =
        let n = cost_of h jobs st in
        let table = sym (call_table h st e jobs asks) ∙ ap (λ (o : Outcome). o.after.table) q in
        let took = call_taken h st e jobs asks n (ap (λ (o : Outcome). o.answer) q) in
        record {
          later = omega arith;
          cells = subst (λ (u : List ℕ). Each h (λ s b. usable st.clock s ≡ false → cell h u s b ≡ cell h st.table s b)) table
              (λ s b l m. change_gone st.clock jobs s (cell h st.table s b) (cell h (call_of h jobs st).after.table s b) (changes h jobs st n took s b l m));
        }

pub run_still : (h : Head) (st : State) (es : List Event) → Running h st → Still h st (run_of h st es).after
run_still h st es run =
    kept_over h (Running h) (Still h) (λ x p. still_same h x) (λ x y z p q. still_twice h x y z) (event_running h) (λ x e p. event_still h x e) st es run

-- ---- the optional cells, counted

total_taken_cons : (a : Answer) (answers : List Answer) → total_taken (a ∷ answers) ≡ total_taken (a ∷ []) + total_taken answers
unfolding total_taken
total_taken_cons (clock_now t) answers = omega arith
total_taken_cons (tie_now hold) answers = omega arith
total_taken_cons (taken n) answers = omega arith
total_taken_cons (refused _ r) answers = omega arith

-- before an event there are those after it and those reported
event_counted : (h : Head) (st : State) (e : Event)
    → optional_count h (cell h st.table) ≡ optional_count h (cell h (event_of h st e).after.table) + total_taken ((event_of h st e).answer ∷ [])
unfolding total_taken
event_counted h st e = go (event_of h st e) (event_is h st e) refl
  where
    go : (o : Outcome) → EventIs h st e o → event_of h st e ≡ o
        → optional_count h (cell h st.table) ≡ optional_count h (cell h o.after.table) + total_taken (o.answer ∷ [])
    go _ (stopped r f) q = omega arith
    go _ (clock_set t asks f) q = omega arith
    go _ (tie_set hold asks f) q = omega arith
    go _ (placed jobs asks f) q =
        let n = cost_of h jobs st in
        omega (
          arith,
          call_counted h jobs st n (call_taken h st e jobs asks n (ap (λ (o : Outcome). o.answer) q)),
          ap (λ (x : List ℕ). optional_count h (cell h x)) (sym (call_table h st e jobs asks) ∙ ap (λ (o : Outcome). o.after.table) q),
        )

pub run_counted : (h : Head) (st : State) (es : List Event)
    → optional_count h (cell h st.table) ≡ optional_count h (cell h (run_of h st es).after.table) + total_taken (run_of h st es).answers
unfolding run_of total_taken
run_counted h st [] = omega arith
run_counted h st (e ∷ es) =
    omega (
      arith,
      event_counted h st e,
      run_counted h (event_of h st e).after es,
      total_taken_cons (event_of h st e).answer (run_of h (event_of h st e).after es).answers,
    )

-- ---- the clock and the order of ties

-- a part of the state that each event changes by its answer alone, a list changes by its answers
run_through : {A : Type 0} (h : Head) (part : State → A) (by : A → Answer → A) → ((st : State) (e : Event) → part (event_of h st e).after ≡ by (part st) (event_of h st e).answer)
    → (st : State) (es : List Event) → part (run_of h st es).after ≡ through by (part st) (run_of h st es).answers
unfolding run_of through
run_through h part by one st [] = refl
run_through {A} h part by one st (e ∷ es) =
    run_through h part by one (event_of h st e).after es ∙ ap (λ (x : A). through by x (run_of h (event_of h st e).after es).answers) (one st e)

event_clock : (h : Head) (st : State) (e : Event) → (event_of h st e).after.clock ≡ clock_by st.clock (event_of h st e).answer
event_clock h st e = go (event_of h st e) (event_is h st e)
  where
    go : (o : Outcome) → EventIs h st e o → o.after.clock ≡ clock_by st.clock o.answer
    go _ (stopped r f) = refl
    go _ (clock_set t asks f) = refl
    go _ (tie_set hold asks f) = refl
    go _ (placed jobs asks f) = refl

pub run_clock : (h : Head) (st : State) (es : List Event) → (run_of h st es).after.clock ≡ last_clock st.clock (run_of h st es).answers
run_clock h = run_through h (λ st. st.clock) clock_by (event_clock h)

event_tie : (h : Head) (st : State) (e : Event) → (event_of h st e).after.hold ≡ tie_by st.hold (event_of h st e).answer
event_tie h st e = go (event_of h st e) (event_is h st e)
  where
    go : (o : Outcome) → EventIs h st e o → o.after.hold ≡ tie_by st.hold o.answer
    go _ (stopped r f) = refl
    go _ (clock_set t asks f) = refl
    go _ (tie_set hold asks f) = refl
    go _ (placed jobs asks f) = refl

pub run_tie : (h : Head) (st : State) (es : List Event) → (run_of h st es).after.hold ≡ last_tie st.hold (run_of h st es).answers
run_tie h = run_through h (λ st. st.hold) tie_by (event_tie h)
