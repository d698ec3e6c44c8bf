-- A list of events, taken apart: what each event gets and answers, in terms of `event_of` alone.
--
-- In order: one answer for each event (`answered`); what event j comes to (`outcome_at`, `answer_at_lem`, `state_next`), and the whole list
-- (`state_end`), and its first events (`answers_take`); what each event keeps, of each state (`kept_at`) and of the whole list (`kept_over`); two lists one after the other (`run_append`), the list
-- from event j on (`run_rest`); what every list does, between any two moments of one (`run_between`, `between`).
-- Assumes nothing.
use Prim.Native.Nat.{ℕ, zero, suc, ◌≤◌, ◌<◌}
use native.Mathlib.Nat.{le_of_suc-le-suc, not-suc-le-zero}
use mathlib.Core.Path.{◌≡◌, refl, sym, ◌∙◌, ap, subst}
use mathlib.Core.List.{List, [], ◌∷◌, ◌++◌}
use lib.ListN.{length, take, drop}
use lib.Seq.{take-take}
use Rattle.station.specs.Head.{Head}
use Rattle.placing.specs.State.{State}
use Rattle.frame.specs.Event.{Event, Answer, Outcome, event_of, Run, more, run_of}
use Rattle.frame.specs.Demands.{state_at, event_at, answer_at, Between}

-- every event has one answer
pub answered : (h : Head) (st : State) (es : List Event) → length (run_of h st es).answers ≡ length es
unfolding run_of
answered h st [] = refl
answered h st (e ∷ es) = ap suc (answered h (event_of h st e).after es)

-- event j comes to what `event_of` says on the table and clock it gets: its answer, and what the next event gets
pub outcome_at : (h : Head) (st : State) (es : List Event) (j : ℕ) → j < length es
    → ◌≡◌ {A = Outcome} (record { answer = answer_at h st es j; after = state_at h st es (suc j) }) (event_of h (state_at h st es j) (event_at es j))
unfolding run_of
outcome_at h st [] j l = absurd (not-suc-le-zero l)
outcome_at h st (e ∷ es) zero l = refl
outcome_at h st (e ∷ es) (suc j) l = outcome_at h (event_of h st e).after es j (le_of_suc-le-suc l)

pub answer_at_lem : (h : Head) (st : State) (es : List Event) (j : ℕ) → j < length es
    → answer_at h st es j ≡ (event_of h (state_at h st es j) (event_at es j)).answer
answer_at_lem h st es j l = ap (λ (o : Outcome). o.answer) (outcome_at h st es j l)

pub state_next : (h : Head) (st : State) (es : List Event) (j : ℕ) → j < length es
    → state_at h st es (suc j) ≡ (event_of h (state_at h st es j) (event_at es j)).after
state_next h st es j l = ap (λ (o : Outcome). o.after) (outcome_at h st es j l)

-- what the whole list leaves
pub state_end : (h : Head) (st : State) (es : List Event) → state_at h st es (length es) ≡ (run_of h st es).after
unfolding run_of
state_end h st [] = refl
state_end h st (e ∷ es) = state_end h (event_of h st e).after es

-- the first events have the first answers
pub answers_take : (h : Head) (st : State) (es : List Event) (j : ℕ) → (run_of h st (take j es)).answers ≡ take j (run_of h st es).answers
unfolding run_of
answers_take h st [] zero = refl
answers_take h st [] (suc j) = refl
answers_take h st (e ∷ es) zero = refl
answers_take h st (e ∷ es) (suc j) = ap (λ (l : List Answer). (event_of h st e).answer ∷ l) (answers_take h (event_of h st e).after es j)

-- What each event keeps, each state of the list has.
pub kept_at : (h : Head) (P : State → Type 0) → ((st : State) (e : Event) → P st → P (event_of h st e).after)
    → (st : State) (es : List Event) → P st → (j : ℕ) → P (state_at h st es j)
unfolding run_of
kept_at h P keep st [] p zero = p
kept_at h P keep st [] p (suc j) = p
kept_at h P keep st (e ∷ es) p zero = p
kept_at h P keep st (e ∷ es) p (suc j) = kept_at h P keep (event_of h st e).after es (keep st e p) j

-- What each event does to what it gets, a list does too, if it holds of nothing done and of two steps in turn.
pub kept_over : (h : Head) (P : State → Type 0) (R : State → State → Type 0) → ((st : State) → P st → R st st)
    → ((st mid end : State) → P st → P mid → R st mid → R mid end → R st end)
    → ((st : State) (e : Event) → P st → P (event_of h st e).after) → ((st : State) (e : Event) → P st → R st (event_of h st e).after)
    → (st : State) (es : List Event) → P st → R st (run_of h st es).after
unfolding run_of
kept_over h P R none two keep one st [] p = none st p
kept_over h P R none two keep one st (e ∷ es) p =
    two st (event_of h st e).after (run_of h (event_of h st e).after es).after p (keep st e p) (one st e p)
    (kept_over h P R none two keep one (event_of h st e).after es (keep st e p))

-- Two lists one after the other are one list: the answers of the one and then those of the other, which meets what the first left.
abbrev pub followed_by : Run → Run → Run
followed_by r s = record { answers = r.answers ++ s.answers; after = s.after }

pub run_append : (h : Head) (st : State) (es fs : List Event) → run_of h st (es ++ fs) ≡ followed_by (run_of h st es) (run_of h (run_of h st es).after fs)
unfolding run_of
run_append h st [] fs = refl
run_append h st (e ∷ es) fs = ap (more (event_of h st e).answer) (run_append h (event_of h st e).after es fs)

-- the list from event j on leaves what the whole list leaves
pub run_rest : (h : Head) (st : State) (es : List Event) (j : ℕ) → (run_of h (state_at h st es j) (drop j es)).after ≡ (run_of h st es).after
unfolding run_of
run_rest h st [] zero = refl
run_rest h st [] (suc j) = refl
run_rest h st (e ∷ es) zero = refl
run_rest h st (e ∷ es) (suc j) = run_rest h (event_of h st e).after es j

-- the events between two moments of the list lead from the one state to the other
run_between : (h : Head) (st : State) (es : List Event) (i j : ℕ) → i ≤ j → (run_of h (state_at h st es i) (drop i (take j es))).after ≡ state_at h st es j
run_between h st es i j l =
    ap (λ (x : List Event). (run_of h (run_of h st x).after (drop i (take j es))).after) (sym (take-take i j es l)) ∙ run_rest h st (take j es) i

-- What every list of events does to what it gets, holds between any two moments of a list.
pub between : (h : Head) (P : State → Type 0) (R : State → State → Type 0) → ((st : State) (e : Event) → P st → P (event_of h st e).after)
    → ((st : State) (es : List Event) → P st → R st (run_of h st es).after)
    → (st : State) (es : List Event) → P st → Between es (λ i j. R (state_at h st es i) (state_at h st es j))
between h P R keep all st es p i j l m =
    subst (R (state_at h st es i)) (run_between h st es i j l) (all (state_at h st es i) (drop i (take j es)) (kept_at h P keep st es p i))
