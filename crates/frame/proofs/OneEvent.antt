-- One event on a running frame: what it can come to, and what it keeps.
--
-- In order: the cases of an event (`event_is`, `clock_set_lem`); what a refusal, a clock, a tie and a call leave (`refused_no_line`, `refused_leaves`, `clock_leaves`, `taken_leaves`,
-- `tie_leaves`); a call as an event is the call of the layer below (`event_call`), which leaves all but the table (`call_leaves`); who asked for an answer (`now_asks`, `tie_asks`), and the line
-- that asks for a tie (`asks_tie`, `tie_line_lem`); a tie is never refused (`tie_said`); the refusals that an event's own causes never give (`event_never_eleven`, `seven_asks`); the
-- frame is a running one afterwards (`event_running`).
-- Assumes nothing.
use Prim.Native.Nat.{ℕ, ◌≤◌, ◌<◌}
use native.Mathlib.Omega.{arith}
use mathlib.Core.Path.{◌≡◌, refl, sym, ◌∙◌, ap}
use mathlib.Core.Logic.{◌⊎◌, inl, inr, ◌↔◌}
use mathlib.Core.Bool.{Bool, true, not}
use mathlib.Core.Option.{Option, none, some}
use mathlib.Core.List.{List, [], ◌∷◌, ◌++◌}
use lib.Dec.{ltb, lit<}
use Rattle.laws.proofs.Tests.{clash, true_of_not}
use Rattle.laws.proofs.Comparisons.{ge_of}
use Rattle.station.specs.Head.{Head, Job}
use Rattle.station.specs.Refusal.{Refusal, number_of, no_form, out_of_limits, out_of_place, number_used, clock_back, call_not_feasible, too_many, not_well_formed}
use Rattle.station.specs.Refusal.{try, first_of}
use Rattle.station.specs.Form.{Form, frame_line, busy_line, preset_line, clock_line, call_line, tie_line, supply_line, print, form}
use Rattle.station.proofs.Theorems.{form_had, first_none, first_of_none, append_none, append_left_none, Never, end, skip, never_first}
use Rattle.placing.specs.Table.{cell}
use Rattle.placing.specs.Valid.{clock_in}
use Rattle.placing.specs.State.{State, with_table, with_clock, with_order}
use Rattle.placing.specs.Plan.{tie_of}
use Rattle.placing.specs.Call.{called, call_fits}
use Rattle.placing.specs.Outcomes.{Cost, cost_of, written, frame_causes, jobs_outside, jobs_used, jobs_too_many, call_causes, CallAnswer, CallOutcome, call_of}
use Rattle.placing.specs.Claims.{Running}
use Rattle.placing.proofs.Theorems.{of_running, call_claim_lem}
use Rattle.frame.specs.Event.{Event, line, clock, call, Asked, set_clock, set_tie, place_jobs, fault, asked, asked_by_form, clock_now, tie_now, taken, refused}
use Rattle.frame.specs.Event.{Outcome, own_causes, asked_causes, event_causes, carried_out, comes_to, event_of}
use Rattle.frame.specs.Event.{answer_of}
use Rattle.frame.specs.Demands.{EventIs, stopped, clock_set, tie_set, placed}

-- ---- the cases of an event

pub event_is : (h : Head) (st : State) (e : Event) → EventIs h st e (event_of h st e)
unfolding comes_to carried_out own_causes
event_is h st e = go (first_of (event_causes h st e)) refl
  where
    faulty : (r : Refusal) → first_of (try r true ∷ []) ≡ none → ⊥
    faulty r n = clash (first_none r true [] n).0

    done : (a : Asked) → asked e ≡ a → first_of (event_causes h st e) ≡ none → EventIs h st e (carried_out h st a)
    done (set_clock t) q n = clock_set t q n
    done (set_tie hold) q n = tie_set hold q n
    done (place_jobs jobs) q n = placed jobs q n
    done (fault r) q n =
        let tried : first_of (frame_causes h st ++ (some r ∷ [])) ≡ none =
        ap (λ (a : Asked). first_of (asked_causes h st a)) (sym q) ∙ n in
        let first = append_left_none (frame_causes h st) (some r ∷ []) tried in
        absurd (faulty r (sym (append_none (frame_causes h st) (some r ∷ []) first) ∙ tried))

    go : (o : Option Refusal) → first_of (event_causes h st e) ≡ o → EventIs h st e (event_of h st e)
    go none n = rw (n, comes_to) (done (asked e) refl n)
    go (some r) n = rw (n, comes_to) (stopped r n)

-- a clock for which no cause holds is one of the frame's, and not below the present one
pub clock_set_lem : (h : Head) (st : State) (e : Event) (t : ℕ) → asked e ≡ set_clock t → first_of (event_causes h st e) ≡ none
    → (clock_in h.slots t ≡ true) × (st.clock ≤ t)
unfolding own_causes
clock_set_lem h st e t asks f =
    let first = append_left_none (frame_causes h st) (own_causes h st (asked e)) f in
    let own : first_of (own_causes h st (set_clock t)) ≡ none =
    ap (λ (a : Asked). first_of (own_causes h st a)) (sym asks) ∙ sym (append_none (frame_causes h st) (own_causes h st (asked e)) first) ∙ f in
    let limits = first_none out_of_limits (not (clock_in h.slots t)) (try clock_back (ltb t st.clock) ∷ []) own in
    (true_of_not _ limits.0, ge_of t st.clock (first_none clock_back (ltb t st.clock) [] limits.1).0)

-- an event by itself has no line
pub refused_no_line : (h : Head) (st : State) (e : Event) (n : ℕ) (r : Refusal) → (event_of h st e).answer ≡ refused n r → n ≡ 0
refused_no_line h st e n r q = go (event_of h st e) (event_is h st e) q
  where
    go : (o : Outcome) → EventIs h st e o → o.answer ≡ refused n r → n ≡ 0
    go _ (stopped c f) p = cc
    go _ (clock_set t asks f) p = cc
    go _ (tie_set hold asks f) p = cc
    go _ (placed jobs asks f) p = cc

-- a refused event leaves all as it was, a clock all but the clock, a tie all but the order of ties, and a call that is taken all but the table
pub refused_leaves : (h : Head) (st : State) (e : Event) (n : ℕ) (r : Refusal) → (event_of h st e).answer ≡ refused n r → (event_of h st e).after ≡ st
refused_leaves h st e n r q = go (event_of h st e) (event_is h st e) q
  where
    go : (o : Outcome) → EventIs h st e o → o.answer ≡ refused n r → o.after ≡ st
    go _ (stopped c f) p = refl
    go _ (clock_set t f g) p = cc
    go _ (tie_set hold f g) p = cc
    go _ (placed jobs f g) p = cc

pub clock_leaves : (h : Head) (st : State) (e : Event) (t : ℕ) → (event_of h st e).answer ≡ clock_now t → (event_of h st e).after ≡ with_clock t st
clock_leaves h st e t q = go (event_of h st e) (event_is h st e) q
  where
    go : (o : Outcome) → EventIs h st e o → o.answer ≡ clock_now t → o.after ≡ with_clock t st
    go _ (stopped r f) p = cc
    go _ (clock_set c f g) p = let same : c ≡ t = cc in ap (λ (x : ℕ). with_clock x st) same
    go _ (tie_set hold f g) p = cc
    go _ (placed jobs f g) p = cc

pub taken_leaves : (h : Head) (st : State) (e : Event) (n : Cost) → (event_of h st e).answer ≡ taken n → (event_of h st e).after ≡ with_table (event_of h st e).after.table st
taken_leaves h st e n q = go (event_of h st e) (event_is h st e) q
  where
    go : (o : Outcome) → EventIs h st e o → o.answer ≡ taken n → o.after ≡ with_table o.after.table st
    go _ (stopped r f) p = cc
    go _ (clock_set t f g) p = cc
    go _ (tie_set hold f g) p = cc
    go _ (placed jobs f g) p = refl

pub tie_leaves : (h : Head) (st : State) (e : Event) (hold : Bool) → (event_of h st e).answer ≡ tie_now hold → (event_of h st e).after ≡ with_order hold st
tie_leaves h st e hold q = go (event_of h st e) (event_is h st e) q
  where
    go : (o : Outcome) → EventIs h st e o → o.answer ≡ tie_now hold → o.after ≡ with_order hold st
    go _ (stopped r f) p = cc
    go _ (clock_set t f g) p = cc
    go _ (tie_set next f g) p = let same : next ≡ hold = cc in ap (λ (x : Bool). with_order x st) same
    go _ (placed jobs f g) p = cc

-- ---- a call as an event

-- what a call of the layer below comes to as an event
abbrev pub outcome_of : CallOutcome → Outcome
outcome_of o = record { answer = answer_of o.answer; after = o.after }

-- an event that asks for a call comes to what `call_of` says
pub event_call : (h : Head) (st : State) (e : Event) (jobs : List Job) → asked e ≡ place_jobs jobs
    → event_of h st e ≡ outcome_of (call_of h jobs st)
unfolding comes_to carried_out own_causes call_of
event_call h st e jobs q = ap (comes_to h st) q ∙ go (first_of (asked_causes h st (place_jobs jobs))) refl
  where
    go : (o : Option Refusal) → first_of (asked_causes h st (place_jobs jobs)) ≡ o
        → comes_to h st (place_jobs jobs) ≡ outcome_of (call_of h jobs st)
    go none n = rw (n, comes_to, call_of) refl
    go (some r) n = rw (n, comes_to, call_of) refl

-- a call leaves all but the table
pub call_leaves : (h : Head) (jobs : List Job) (st : State) → (call_of h jobs st).after ≡ with_table (call_of h jobs st).after.table st
unfolding call_of
call_leaves h jobs st = go (first_of (frame_causes h st ++ call_causes h st.clock jobs (cell h st.table))) refl
  where
    go : (o : Option Refusal) → first_of (frame_causes h st ++ call_causes h st.clock jobs (cell h st.table)) ≡ o
        → (call_of h jobs st).after ≡ with_table (call_of h jobs st).after.table st
    go none n = rw (n, call_of) refl
    go (some r) n = rw (n, call_of) refl

answer_of_taken : (a : CallAnswer) (n : Cost) → answer_of a ≡ taken n → a ≡ CallAnswer.taken n
answer_of_taken (CallAnswer.taken m) n q = cc
answer_of_taken (CallAnswer.refused _ r) n q = cc

answer_of_refused : (a : CallAnswer) (r : Refusal) → answer_of a ≡ refused 0 r → a ≡ CallAnswer.refused 0 r
answer_of_refused (CallAnswer.taken m) r q = cc
answer_of_refused (CallAnswer.refused _ s) r q = cc

module _ (h : Head) (st : State) (e : Event) (jobs : List Job) (asks : asked e ≡ place_jobs jobs) where
  same_answer : (event_of h st e).answer ≡ answer_of (call_of h jobs st).answer
  same_answer = ap (λ (o : Outcome). o.answer) (event_call h st e jobs asks)

  pub call_taken : (n : Cost) → (event_of h st e).answer ≡ taken n → (call_of h jobs st).answer ≡ CallAnswer.taken n
  call_taken n q = answer_of_taken (call_of h jobs st).answer n (sym same_answer ∙ q)

  -- and a refusal is the call's
  pub call_refused : (r : Refusal) → ((event_of h st e).answer ≡ refused 0 r) ↔ ((call_of h jobs st).answer ≡ CallAnswer.refused 0 r)
  call_refused r = (
    λ q. answer_of_refused (call_of h jobs st).answer r (sym same_answer ∙ q),
    λ q. same_answer ∙ ap answer_of q,
  )

  pub call_table : (event_of h st e).after.table ≡ (call_of h jobs st).after.table
  call_table = ap (λ (o : Outcome). o.after.table) (event_call h st e jobs asks)

-- an answer of the clock is that of an event that asks for it
pub now_asks : (h : Head) (st : State) (e : Event) (t : ℕ) → (event_of h st e).answer ≡ clock_now t → asked e ≡ set_clock t
now_asks h st e t q = go (event_of h st e) (event_is h st e) q
  where
    go : (o : Outcome) → EventIs h st e o → o.answer ≡ clock_now t → asked e ≡ set_clock t
    go _ (stopped r f) p = cc
    go _ (clock_set c f g) p = let same : c ≡ t = cc in f ∙ ap set_clock same
    go _ (tie_set hold f g) p = cc
    go _ (placed jobs f g) p = cc

-- a line that asks for a tie has its form, and is the tie line printed
pub asks_tie : (o : Option Form) (hold : Bool) → asked_by_form o ≡ set_tie hold → o ≡ some (tie_line hold)
asks_tie none hold q = cc
asks_tie (some (frame_line s b)) hold q = cc
asks_tie (some (busy_line b p)) hold q = cc
asks_tie (some (preset_line p)) hold q = cc
asks_tie (some (clock_line t)) hold q = cc
asks_tie (some (call_line p)) hold q = cc
asks_tie (some (supply_line k)) hold q = cc
asks_tie (some (tie_line next)) hold q = let same : next ≡ hold = cc in ap (λ (b : Bool). some (tie_line b)) same

pub tie_line_lem : (l : List ℕ) (hold : Bool) → asked (line l) ≡ set_tie hold → l ≡ print (tie_line hold)
tie_line_lem l hold q = form_had l (tie_line hold) (asks_tie (form l) hold q)

-- an answer of the order of ties is that of an event that asks for it
pub tie_asks : (h : Head) (st : State) (e : Event) (hold : Bool) → (event_of h st e).answer ≡ tie_now hold → asked e ≡ set_tie hold
tie_asks h st e hold q = go (event_of h st e) (event_is h st e) q
  where
    go : (o : Outcome) → EventIs h st e o → o.answer ≡ tie_now hold → asked e ≡ set_tie hold
    go _ (stopped r f) p = cc
    go _ (clock_set t f g) p = cc
    go _ (tie_set next f g) p = let same : next ≡ hold = cc in f ∙ ap set_tie same
    go _ (placed jobs f g) p = cc

-- on a running frame a tie meets no cause
pub tie_said : (h : Head) (st : State) (e : Event) (hold : Bool) → Running h st → asked e ≡ set_tie hold → (event_of h st e).answer ≡ tie_now hold
unfolding comes_to carried_out own_causes
tie_said h st e hold run asks = ap (λ (a : Asked). (comes_to h st a).answer) asks ∙ said
  where
    met : first_of (asked_causes h st (set_tie hold)) ≡ none
    met = append_none (frame_causes h st) [] (of_running h st run) ∙ first_of_none

    said : (comes_to h st (set_tie hold)).answer ≡ tie_now hold
    said = rw (met, comes_to) refl

-- ---- refusals that an event's own causes never give

-- a line's fault is 1 or 3
line_fault : (o : Option Form) (r : Refusal) → asked_by_form o ≡ fault r → (r ≡ no_form) ⊎ (r ≡ out_of_place)
line_fault none r q = inl cc
line_fault (some (frame_line s b)) r q = inr cc
line_fault (some (busy_line b p)) r q = inr cc
line_fault (some (preset_line p)) r q = inr cc
line_fault (some (clock_line t)) r q = inl cc
line_fault (some (call_line p)) r q = inl cc
line_fault (some (tie_line hold)) r q = inl cc
line_fault (some (supply_line k)) r q = inr cc

fault_is : (e : Event) (r : Refusal) → asked e ≡ fault r → (r ≡ no_form) ⊎ (r ≡ out_of_place)
fault_is (line l) r q = line_fault (form l) r q
fault_is (clock t) r q = inl cc
fault_is (call jobs) r q = inl cc

-- a clock gives 2 or 6, a tie none, a faulty line 1 or 3
clock_never : (h : Head) (st : State) (t : ℕ) (q : Refusal) → 6 < number_of q → Never q (own_causes h st (set_clock t))
unfolding own_causes
clock_never h st t q above =
    skip out_of_limits (not (clock_in h.slots t)) (λ p. omega arith) (skip clock_back (ltb t st.clock) (λ p. omega arith) end)

tie_never : (h : Head) (st : State) (hold : Bool) (q : Refusal) → Never q (own_causes h st (set_tie hold))
unfolding own_causes
tie_never h st hold q = end

fault_never : (h : Head) (st : State) (e : Event) (r q : Refusal) → asked e ≡ fault r → 6 < number_of q → Never q (own_causes h st (fault r))
unfolding own_causes
fault_never h st e r q asks above = skip r true (λ p. go p (fault_is e r asks)) end
  where
    go : number_of r ≡ number_of q → (r ≡ no_form) ⊎ (r ≡ out_of_place) → ⊥
    go p (inl s) = omega (arith, ap number_of s)
    go p (inr s) = omega (arith, ap number_of s)

-- a call gives 2, 4, 9 or 7
place_never : (h : Head) (st : State) (jobs : List Job) (q : Refusal) → 9 < number_of q → Never q (own_causes h st (place_jobs jobs))
unfolding own_causes
place_never h st jobs q above =
    skip out_of_limits (jobs_outside jobs) (λ p. omega arith) (skip number_used (jobs_used h (cell h st.table) jobs) (λ p. omega arith)
    (skip too_many (jobs_too_many h (cell h st.table) jobs) (λ p. omega arith)
    (skip call_not_feasible (not (call_fits h st.clock jobs (cell h st.table))) (λ p. omega arith) end)))

-- on a running frame a refusal is one of the event's own causes
own_refusal : (h : Head) (st : State) (e : Event) (r : Refusal) → Running h st → (event_of h st e).answer ≡ refused 0 r
    → first_of (own_causes h st (asked e)) ≡ some r
own_refusal h st e r run q = go (event_of h st e) (event_is h st e) q
  where
    go : (o : Outcome) → EventIs h st e o → o.answer ≡ refused 0 r → first_of (own_causes h st (asked e)) ≡ some r
    go _ (stopped c f) p =
        let same : first_of (event_causes h st e) ≡ some r = cc in
        sym (append_none (frame_causes h st) (own_causes h st (asked e)) (of_running h st run)) ∙ same
    go _ (clock_set c f g) p = cc
    go _ (tie_set hold f g) p = cc
    go _ (placed jobs f g) p = cc

-- and never one that the causes of what was asked do not give
own_never : (h : Head) (st : State) (e : Event) {r : Refusal} (a : Asked) → asked e ≡ a → Never r (own_causes h st a)
    → first_of (own_causes h st (asked e)) ≡ some r → ⊥
own_never h st e a q n f = never_first n (ap (λ (x : Asked). first_of (own_causes h st x)) (sym q) ∙ f)

-- "11 was never met"
pub event_never_eleven : (h : Head) (st : State) (e : Event) → Running h st → (event_of h st e).answer ≡ refused 0 not_well_formed → ⊥
event_never_eleven h st e run q = go (asked e) refl (own_refusal h st e not_well_formed run q)
  where
    go : (a : Asked) → asked e ≡ a → first_of (own_causes h st (asked e)) ≡ some not_well_formed → ⊥
    go (set_clock t) s = own_never h st e (set_clock t) s (clock_never h st t not_well_formed (lit< tt))
    go (set_tie hold) s = own_never h st e (set_tie hold) s (tie_never h st hold not_well_formed)
    go (place_jobs jobs) s = own_never h st e (place_jobs jobs) s (place_never h st jobs not_well_formed (lit< tt))
    go (fault r) s = own_never h st e (fault r) s (fault_never h st e r not_well_formed s (lit< tt))

-- 7 is an answer to calls alone
pub seven_asks : (h : Head) (st : State) (e : Event) → Running h st → (event_of h st e).answer ≡ refused 0 call_not_feasible
    → (jobs : List Job) × (asked e ≡ place_jobs jobs)
seven_asks h st e run q = go (asked e) refl (own_refusal h st e call_not_feasible run q)
  where
    go : (a : Asked) → asked e ≡ a → first_of (own_causes h st (asked e)) ≡ some call_not_feasible → (jobs : List Job) × (asked e ≡ place_jobs jobs)
    go (set_clock t) s f = absurd (own_never h st e (set_clock t) s (clock_never h st t call_not_feasible (lit< tt)) f)
    go (set_tie hold) s f = absurd (own_never h st e (set_tie hold) s (tie_never h st hold call_not_feasible) f)
    go (place_jobs jobs) s f = (jobs, s)
    go (fault r) s f = absurd (own_never h st e (fault r) s (fault_never h st e r call_not_feasible s (lit< tt)) f)

-- ---- the frame afterwards

pub event_running : (h : Head) (st : State) (e : Event) → Running h st
    → Running h (event_of h st e).after
event_running h st e run = go (event_of h st e) (event_is h st e) refl
  where
    go : (o : Outcome) → EventIs h st e o → event_of h st e ≡ o → Running h o.after
    go _ (stopped r f) q = run
    go _ (clock_set t asks f) q =
        record {
          long = run.long;
          valid = run.valid;
          well_formed = record { cells = run.well_formed.cells; clock = (clock_set_lem h st e t asks f).0 };
        }
    go _ (tie_set hold asks f) q = record { long = run.long; valid = run.valid; well_formed = record { cells = run.well_formed.cells; clock = run.well_formed.clock } }
    go _ (placed jobs asks f) q =
        let took = call_taken h st e jobs asks (cost_of h jobs st) (ap (λ (o : Outcome). o.answer) q) in
        let same : written h (called (tie_of st.hold) h st.clock jobs (cell h st.table)) st.table ≡ (call_of h jobs st).after.table =
        sym (ap (λ (o : Outcome). o.after.table) q) ∙ call_table h st e jobs asks in
        let call_claim = call_claim_lem h jobs st in
        rw same (record {
          long = omega (arith, run.long, call_claim.past.long);
          valid = run.valid;
          well_formed = record { cells = (call_claim.valid (cost_of h jobs st) took).well_formed; clock = run.well_formed.clock };
        })
