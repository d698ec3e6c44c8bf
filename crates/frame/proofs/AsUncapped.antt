-- Where the supply feeds every bridge, events, lists of them and whole texts come to what they came to without it, under whatever order of ties; and `(supply 8)` and no supply line give the
-- same.
--
-- In order: an event (`event_uncapped_lem`), a list of events (`run_uncapped_lem`); a whole text that is read, planned and run by what comes to the same (`whole_by_lem`), and one whose head has no cap (`text_uncapped`); `(supply 8)` and no line (`run_eight`).
-- Assumes nothing.
use Prim.Native.Nat.{ℕ, ◌≤◌}
use mathlib.Core.Path.{◌≡◌, refl, sym, ◌∙◌, ap, ap₂}
use mathlib.Core.Option.{Option, none, some}
use mathlib.Core.List.{List, [], ◌∷◌, ◌++◌}
use lib.ListN.{length}
use lib.Dec.{ltb}
use Rattle.station.specs.Limits.{most_bytes, most_bridges, least_cells}
use Rattle.station.specs.Head.{Head, with_supply}
use Rattle.station.specs.Refusal.{Refusal, too_short, text_too_long, try, first_of}
use Rattle.station.specs.Reading.{Reading, head_of}
use Rattle.placing.specs.Table.{cell}
use Rattle.placing.specs.State.{State}
use Rattle.placing.specs.Outcomes.{Cost, PlanAnswer, PlanOutcome, plan_of}
use Rattle.placing.specs.Uncapped.{Uncapped, plan_uncapped}
use Rattle.placing.proofs.Theorems.{no_line_uncapped, plan_uncapped_lem, cost_call, state_call, frame_causes_lem, call_causes_lem, fed_uncapped, frame_eight, causes_eight, cost_eight, state_eight}
use Rattle.frame.specs.Event.{Event, Asked, set_clock, set_tie, place_jobs, fault, asked, taken, Outcome, own_causes, carried_out, comes_to, event_of, more, run_of}
use Rattle.frame.specs.Text.{Whole, not_read, ran, start_of, events_of, whole_with_plan, whole_with_head, whole_of}
use Rattle.frame.specs.Uncapped.{decided, run_by, with_plan_by, with_head_by, whole_by, own_uncapped, carried_uncapped, event_uncapped, run_uncapped, whole_uncapped}

module _ (h : Head) (all : Uncapped h) where
  own_uncapped_lem : (st : State) (a : Asked) → own_causes h st a ≡ own_uncapped h st a
  unfolding own_causes own_uncapped
  own_uncapped_lem st (set_clock t) = refl
  own_uncapped_lem st (set_tie hold) = refl
  own_uncapped_lem st (place_jobs jobs) = call_causes_lem h all st.clock jobs (cell h st.table)
  own_uncapped_lem st (fault r) = refl

  carried_uncapped_lem : (st : State) (a : Asked) → carried_out h st a ≡ carried_uncapped h st a
  unfolding carried_out carried_uncapped
  carried_uncapped_lem st (set_clock t) = refl
  carried_uncapped_lem st (set_tie hold) = refl
  carried_uncapped_lem st (place_jobs jobs) = ap₂ (λ (n : Cost) (after : State). record { answer = taken n; after = after }) (cost_call h all jobs st) (state_call h all jobs st)
  carried_uncapped_lem st (fault r) = refl

  pub event_uncapped_lem : (st : State) (e : Event) → event_of h st e ≡ event_uncapped h st e
  unfolding comes_to event_uncapped
  event_uncapped_lem st e =
      ap₂ (decided st) (ap₂ (λ (x y : List (Option Refusal)). x ++ y) (frame_causes_lem h all st) (own_uncapped_lem st (asked e))) (carried_uncapped_lem st (asked e))

  pub run_uncapped_lem : (st : State) (es : List Event) → run_of h st es ≡ run_uncapped h st es
  unfolding run_of run_by
  run_uncapped_lem st [] = refl
  run_uncapped_lem st (e ∷ es) =
      ap (more (event_of h st e).answer) (run_uncapped_lem (event_of h st e).after es) ∙ ap (λ (o : Outcome). more o.answer (run_uncapped h o.after es)) (event_uncapped_lem st e)

-- What is seen of a whole text where another reading, plan, start and event come to the same: of each head that is read the plan, and from each table that it starts with what is seen of the events.
module _ {A : Type 0} (seen : Whole → A) (text t : List ℕ) (plan : Head → List ℕ → PlanOutcome) (start : Head → List ℕ → State) (one : Head → State → Event → Outcome) where
  abbrev Same : Head → ℕ → Type 0
  Same h n =
      (plan_of h t ≡ plan h t)
      × ((g u : List ℕ) → seen (ran h n g (run_of h (start_of h u) (events_of text n))) ≡ seen (ran h n g (run_by (one h) (start h u) (events_of text n))))

  after_plan : (h : Head) (n : ℕ) → Same h n → (a : PlanAnswer) (u : List ℕ) → seen (whole_with_plan text h n a u) ≡ seen (with_plan_by start one text h n a u)
  unfolding whole_with_plan with_plan_by
  after_plan h n s (PlanAnswer.granted g) u = s.1 g u
  after_plan h n s (PlanAnswer.refused _ r) u = refl

  after_head : (x : Reading) → ((h : Head) (n : ℕ) → x ≡ Reading.accepted h n → Same h n) → seen (whole_with_head text x t) ≡ seen (with_head_by plan start one text x t)
  unfolding whole_with_head with_head_by
  after_head (Reading.accepted h n) s =
      ap (λ (o : PlanOutcome). seen (whole_with_plan text h n o.answer o.table)) (s h n refl).0 ∙ after_plan h n (s h n refl) (plan h t).answer (plan h t).table
  after_head (Reading.refused n r) s = refl

  pub whole_by_lem : (read : List ℕ → Reading) → head_of text ≡ read text → ((h : Head) (n : ℕ) → head_of text ≡ Reading.accepted h n → Same h n)
      → seen (whole_of text t) ≡ seen (whole_by read plan start one text t)
  unfolding whole_of whole_by
  whole_by_lem read e s = go (first_of (try text_too_long (ltb most_bytes (length text)) ∷ try too_short (ltb (length t) least_cells) ∷ []))
    where
      go : (o : Option Refusal) → seen (elim o [ none ↦ whole_with_head text (head_of text) t | some r ↦ not_read 0 r ])
          ≡ seen (elim o [ none ↦ with_head_by plan start one text (read text) t | some r ↦ not_read 0 r ])
      go none = after_head (head_of text) s ∙ ap (λ (x : Reading). seen (with_head_by plan start one text x t)) e
      go (some r) = refl

-- a whole text whose head has no supply line, or one that feeds every bridge
pub text_uncapped : (text t : List ℕ) → ((h : Head) (n : ℕ) → head_of text ≡ Reading.accepted h n → Uncapped h) → whole_of text t ≡ whole_uncapped text t
text_uncapped text t p =
    whole_by_lem (λ w. w) text t plan_uncapped start_of event_uncapped head_of refl
    (λ h n e. (plan_uncapped_lem h (p h n e) t, λ g u. ap (ran h n g) (run_uncapped_lem h (p h n e) (start_of h u) (events_of text n))))

-- ---- `(supply 8)` and no supply line

module _ (h : Head) (few : h.bridges ≤ most_bridges) (none_there : h.supply ≡ 0) where
  own_eight : (st : State) (a : Asked) → own_uncapped (with_supply h 8) st a ≡ own_uncapped h st a
  unfolding own_uncapped
  own_eight st (set_clock t) = refl
  own_eight st (set_tie hold) = refl
  own_eight st (place_jobs jobs) = causes_eight h few none_there st.clock jobs (cell h st.table)
  own_eight st (fault r) = refl

  carried_eight : (st : State) (a : Asked) → carried_uncapped (with_supply h 8) st a ≡ carried_uncapped h st a
  unfolding carried_uncapped
  carried_eight st (set_clock t) = refl
  carried_eight st (set_tie hold) = refl
  carried_eight st (place_jobs jobs) =
      ap₂ (λ (n : Cost) (after : State). record { answer = taken n; after = after }) (cost_eight h few none_there jobs st) (state_eight h few none_there jobs st)
  carried_eight st (fault r) = refl

  event_eight : (st : State) (e : Event) → event_uncapped (with_supply h 8) st e ≡ event_uncapped h st e
  unfolding event_uncapped
  event_eight st e =
      ap₂ (decided st) (ap₂ (λ (x y : List (Option Refusal)). x ++ y) (frame_eight h few none_there st) (own_eight st (asked e))) (carried_eight st (asked e))

  run_both : (st : State) (es : List Event) → run_uncapped (with_supply h 8) st es ≡ run_uncapped h st es
  unfolding run_by
  run_both st [] = refl
  run_both st (e ∷ es) =
      ap (more (event_uncapped (with_supply h 8) st e).answer) (run_both (event_uncapped (with_supply h 8) st e).after es)
      ∙ ap (λ (o : Outcome). more o.answer (run_uncapped h o.after es)) (event_eight st e)

  -- every list of events from every table, clock and order of ties: the same answers, and the same left
  pub run_eight : (st : State) (es : List Event) → run_of (with_supply h 8) st es ≡ run_of h st es
  run_eight st es =
      run_uncapped_lem (with_supply h 8) (fed_uncapped h few none_there) st es ∙ run_both st es ∙ sym (run_uncapped_lem h (no_line_uncapped h none_there) st es)
