-- What `planner_event` answers and leaves, law by law.
--
-- In order: what an event line comes to by the causes 8 of the frame and of the presets (`on-..`); one that is refused by these (`event_short`); a refusal changes nothing (`refused_keeps`); one that is handed on (`event_run`, `event_handed`).
-- Assumes nothing.
use Prim.Native.Nat.{ℕ, ◌≤◌, ◌<◌}
use native.Mathlib.Omega.{arith}
use mathlib.Core.Path.{◌≡◌, refl, sym, ◌∙◌, ap, subst}
use mathlib.Core.Bool.{Bool}
use mathlib.Core.Option.{Option, none, some}
use mathlib.Core.List.{List, [], ◌∷◌}
use mathlib.Core.Logic.{inl, inr}
use lib.ListN.{length}
use Rattle.laws.proofs.Comparisons.{ltb_yes, ltb_no}
use Rattle.station.specs.Head.{Head}
use Rattle.station.specs.Refusal.{Refusal, too_short, first_of}
use Rattle.station.specs.Types.{head_in}
use Rattle.station.specs.declared.types.Preset as record-of-preset
use Rattle.station.specs.declared.types.Head as record-of-head
use Rattle.station.specs.declared.types.Station.{Station}
use Rattle.placing.specs.declared.moment.Moment.{Moment}
use Rattle.placing.specs.State.{State, state_of}
use Rattle.placing.specs.Claims.{Running}
use Rattle.placing.specs.Causes.{causes_of}
use Rattle.frame.specs.Event.{Answer, Event, refused, Outcome}
use Rattle.frame.specs.Types.{answer_in}
use Rattle.frame.specs.Types as result
use Rattle.frame.specs.Demands.{EventIs, stopped, clock_set, tie_set, placed}
use Rattle.frame.proofs.Theorems.{event_is, demand_3, done_running}
use Rattle.frame.specs.EventDone.{event_meant, EventDone}
use Rattle.planner.specs.Layout.{records_in, frame_numbers, tie_in_force, head_of_numbers, clock_of_numbers, hold_of_numbers, tie_over, clock_over}
use Rattle.planner.proofs.RoundTrip.{run_head, run_clock, run_hold, run_same}
use Rattle.planner.specs.Exports.{head_on, state_on, RunningOn, ShortOf, LentStation, event_on, answer_returned, value, EventLeaves, EventPromise}

-- a refusal changes nothing
is_keeps : {h : Head} {st : State} {e : Event} {o : Outcome} → EventIs h st e o → 0 < (answer_returned o.answer).number → o.after ≡ st
is_keeps (stopped r q) l = refl
is_keeps (clock_set t q n) l = absurd (omega (arith, l))
is_keeps (tie_set hold q n) l = absurd (omega (arith, l))
is_keeps (placed jobs q n) l = absurd (omega (arith, l))

refused_keeps : (head : record-of-head.Head) (ps : List record-of-preset.Preset) (st : State) (e : Event) → 0 < (answer_returned (event_meant head ps st e).answer).number → (event_meant head ps st e).after ≡ st
unfolding event_meant
refused_keeps head ps st e l = go (first_of (causes_of head ps st.table)) refl
  where
    go : (c : Option Refusal) → first_of (causes_of head ps st.table) ≡ c → (event_meant head ps st e).after ≡ st
    go none q = rw (q, event_meant) (is_keeps (event_is (head_in head ps) st e) (rw (q, event_meant) at l))
    go (some r) q = rw (q, event_meant) refl

module _ (f p t l : List ℕ) where
  abbrev state : State
  state = state_on f t

  on_short_frame : length f < frame_numbers → event_on f p t l ≡ record { answer = refused 0 too_short; after = state }
  unfolding event_on first_of
  on_short_frame s = rw (ltb_yes (length f) frame_numbers s, event_on) refl

  on_short_presets : frame_numbers ≤ length f → length p < 128 → event_on f p t l ≡ record { answer = refused 0 too_short; after = state }
  unfolding event_on first_of
  on_short_presets k s = rw (ltb_no (length f) frame_numbers k, ltb_yes (length p) 128 s, event_on) refl

  pub on_enough : frame_numbers ≤ length f → 128 ≤ length p → event_on f p t l ≡ event_meant (head_of_numbers f) (records_in p) state (Event.line l)
  unfolding event_on first_of
  on_enough k s = rw (ltb_no (length f) frame_numbers k, ltb_no (length p) 128 s, event_on) refl

  -- what is answered and left, and what is claimed
  abbrev Done : List ℕ → List ℕ → ℕ → ℕ → Type 0
  Done f₁ t₁ n r = EventLeaves (event_on f p t l) f f₁ t₁ n r × EventPromise f p t l f₁ t₁ r

  event_stopped : event_on f p t l ≡ record { answer = refused 0 too_short; after = state } → Done f t 0 8
  event_stopped e = (
    subst (λ (o : Outcome). EventLeaves o f f t 0 8) (sym e) (record { answer = refl; number = refl; frame = sym (run_same f); table = refl }),
    record { unchanged = λ z. (refl, refl); kept = λ run. run; claim = demand_3 (head_on f p) state (Event.line l ∷ []) },
  )

  pub event_short : ShortOf f p → Done f t 0 8
  event_short (inl s) = event_stopped (on_short_frame s)
  event_short (inr s) = event_stopped (on_short_presets s.0 s.1)

  module _ {f₁ t₁ : List ℕ} {x : result.Outcome} (k : frame_numbers ≤ length f) (s : 128 ≤ length p) (d : EventDone (head_of_numbers f) (records_in p) state (Event.line l) t₁ x)
      (a : f₁ ≡ tie_over tie_in_force x.hold (clock_over x.clock f)) where
    -- the head of the frame is as it was, and its clock and its order of ties in force are the new ones
    frame_again : Running (head_on f p) (state_of t₁ x.clock x.hold) → RunningOn f₁ p t₁
    frame_again run =
        let head : head_of_numbers f₁ ≡ head_of_numbers f = ap head_of_numbers a ∙ run_head x.clock x.hold f in
        let clock : clock_of_numbers f₁ ≡ x.clock = ap clock_of_numbers a ∙ run_clock x.clock x.hold f k in
        let hold : hold_of_numbers f₁ ≡ x.hold = ap hold_of_numbers a ∙ run_hold x.clock x.hold f k in
        subst (λ (h : record-of-head.Head). Running (head_in h (records_in p)) (state_on f₁ t₁)) (sym head) (rw (clock, hold) run)

    abbrev meant : Outcome
    meant = event_meant (head_of_numbers f) (records_in p) state (Event.line l)

    frame_left_lem : f₁ ≡ tie_over tie_in_force meant.after.hold (clock_over meant.after.clock f)
    frame_left_lem =
        a
        ∙ ap (λ (b : Bool). tie_over tie_in_force b (clock_over x.clock f)) d.hold
        ∙ ap (λ (c : ℕ). tie_over tie_in_force meant.after.hold (clock_over c f)) d.clock

    same : {r : ℕ} → r ≡ (answer_returned (answer_in x.answer)).number → 0 < r → (f₁ ≡ f) × (t₁ ≡ t)
    same e z =
        let st : meant.after ≡ state =
        refused_keeps (head_of_numbers f) (records_in p) state (Event.line l) (omega (arith, z, e, ap (λ (x : Answer). (answer_returned x).number) d.answer)) in (
          frame_left_lem ∙ ap (λ (y : State). tie_over tie_in_force y.hold (clock_over y.clock f)) st ∙ run_same f,
          d.table ∙ ap (λ (y : State). y.table) st,
        )

    event_run : {n r : ℕ} → n ≡ value (answer_returned (answer_in x.answer)) → r ≡ (answer_returned (answer_in x.answer)).number → Done f₁ t₁ n r
    event_run {n} {r} e₁ e₂ = (
      subst (λ (o : Outcome). EventLeaves o f f₁ t₁ n r) (sym (on_enough k s)) (record {
        answer = e₂ ∙ ap (λ (x : Answer). (answer_returned x).number) d.answer;
        number = e₁ ∙ ap (λ (x : Answer). value (answer_returned x)) d.answer;
        frame = frame_left_lem;
        table = d.table;
      }),
      record { unchanged = same e₂; kept = λ run. frame_again (done_running (head_of_numbers f) (records_in p) state (Event.line l) d run); claim = demand_3 (head_on f p) state (Event.line l ∷ []) },
    )

  -- the same of what was read of the frame and of the presets
  pub event_handed : (st : Station) (m : Moment) (x : result.Outcome) {f₁ f₂ t₁ : List ℕ} {n r : ℕ} → LentStation f p st → m.clock ≡ clock_of_numbers f → m.hold ≡ hold_of_numbers f
      → EventDone st.head st.presets (state_of t m.clock m.hold) (Event.line l) t₁ x
      → f₂ ≡ clock_over x.clock f → f₁ ≡ tie_over tie_in_force x.hold f₂ → n ≡ value (answer_returned (answer_in x.answer)) → r ≡ (answer_returned (answer_in x.answer)).number → Done f₁ t₁ n r
  event_handed st m x lent e i d clocked tied n r =
      event_run {x = x} lent.numbers lent.records (rw (lent.head, lent.list, e, i) at d) (tied ∙ ap (tie_over tie_in_force x.hold) clocked) n r
