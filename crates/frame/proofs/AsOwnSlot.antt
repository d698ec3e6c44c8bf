-- With every clock one higher, events come to what they came to when a call could use the clock's own slot; a text without a clock line has the listing that it had.
--
-- In order: the slots above the last one gone by are those from the clock on (`from_the_clock_on`); the clocks of a frame one higher (`clock_higher`); the causes of a frame and of an event, and what it is carried out to
-- (`frame_higher`, `own_higher`, `carried_higher`); an event (`event_one_higher`) leaves out the last clock (`event_not_last`); a list of events (`run_one_higher`); a list that asks for no clock
-- (`answers_same`, `run_without_clock`), and a whole text (`text_without_clock`); without ties and a supply an event and a list of them came to what they came to by document 01's rules (`event_document`, `run_document`), and a text
-- without these lines either has document 01's listing (`text_as_document_01`).
-- Assumes nothing.
use Prim.Native.Nat.{ℕ, zero, suc, ◌≤◌}
use native.Mathlib.Omega.{arith}
use mathlib.Core.Path.{◌≡◌, refl, sym, ◌∙◌, ap, ap₂}
use mathlib.Core.Bool.{Bool, false, not, ◌&&◌}
use mathlib.Core.Option.{Option, none, some}
use mathlib.Core.List.{List, [], ◌∷◌, ◌++◌, map}
use lib.ListN.{length, drop}
use lib.Dec.{ltb, leb}
use Rattle.laws.proofs.Tests.{test_ext, right_of, both}
use Rattle.laws.proofs.Comparisons.{lt_of, le_of, ltb_yes, leb_yes}
use Rattle.station.specs.Limits.{least_cells}
use Rattle.station.specs.Head.{Head, valid}
use Rattle.station.specs.Refusal.{Refusal, out_of_limits, clock_back, too_short, not_well_formed, try, first_of}
use Rattle.station.specs.Text.{lines}
use Rattle.station.specs.Form.{Form, frame_line, busy_line, preset_line, clock_line, call_line, tie_line, supply_line, form}
use Rattle.station.specs.Reading.{head_of}
use Rattle.placing.specs.Table.{Cells, cell, well_formed}
use Rattle.placing.specs.Valid.{clock_in, usable}
use Rattle.placing.specs.State.{State, with_table}
use Rattle.placing.specs.Outcomes.{written, Cost, plan_of, frame_causes}
use Rattle.placing.specs.Uncapped.{Uncapped}
use Rattle.placing.proofs.Theorems.{cost_call, state_call, sound_call, call_causes_lem}
use Rattle.frame.specs.Event.{Event, line, Asked, set_clock, set_tie, place_jobs, fault, asked_by_form, asked, Answer, taken, refused, Outcome, own_causes, carried_out, comes_to, event_of, more, Run, run_of}
use Rattle.frame.specs.Text.{ran, start_of, events_of, whole_of}
use Rattle.frame.specs.Listing.{listing_of}
use Rattle.frame.specs.Demands.{EventIs, stopped, clock_set, tie_set, placed, event_at}
use Rattle.frame.specs.Uncapped.{decided, run_by}
use Rattle.frame.specs.Before.{head_before, asked_before, plan_before, FiveForms, FiveAsked}
use Rattle.frame.specs.OwnSlot.{own_clock_in, own_start, last_gone, gone, today, document_one, whole_document_one, own_slot_frame, own_slot_causes, carried_own_slot, event_own_slot, run_own_slot, whole_own_slot, higher, higher_asked, higher_answer, higher_run, OneHigher, NoClockLine}
use Rattle.frame.proofs.OneEvent.{event_is}
use Rattle.frame.proofs.AsUncapped.{whole_by_lem}
use Rattle.frame.proofs.AsBefore.{head_before_lem, plain_head, no_tie, table_before, events_five, plan_as_before}

-- ---- slots and clocks

-- "A call uses slots from the clock on": slot s is the paper's slot s + 1
pub from_the_clock_on : (c s : ℕ) → 1 ≤ c → usable (last_gone c) s ≡ leb c (suc s)
unfolding last_gone
from_the_clock_on zero s l = absurd (omega (arith, l))
from_the_clock_on (suc c) s l = test_ext (ltb c (suc s)) (leb (suc c) (suc s)) (λ e. leb_yes (suc c) (suc s) (omega (arith, lt_of c (suc s) e))) (λ e. ltb_yes c (suc s) (omega (arith, le_of (suc c) (suc s) e)))

-- but for the last one, the clocks of a frame were those of today, one higher
clock_higher : (slots c : ℕ) → (c ≡ suc slots → ⊥) → own_clock_in slots (suc c) ≡ clock_in slots c
clock_higher slots c other =
    test_ext (own_clock_in slots (suc c)) (clock_in slots c)
    (λ e. both (leb 0 c) (leb c (suc slots)) (leb_yes 0 c (omega arith)) (leb_yes c (suc slots) (omega (arith, le_of (suc c) (suc slots) (right_of (leb 1 (suc c)) (leb (suc c) (suc slots)) e)))))
    (λ e. both (leb 1 (suc c)) (leb (suc c) (suc slots)) (leb_yes 1 (suc c) (omega arith)) (leb_yes (suc c) (suc slots) (omega (arith, le_of c (suc slots) (right_of (leb 0 c) (leb c (suc slots)) e), other))))

below_higher : (t c : ℕ) → ltb (suc t) (suc c) ≡ ltb t c
below_higher t c = test_ext (ltb (suc t) (suc c)) (ltb t c) (λ e. ltb_yes t c (omega (arith, lt_of (suc t) (suc c) e))) (λ e. ltb_yes (suc t) (suc c) (omega (arith, lt_of t c e)))

-- ---- an event

abbrev higher_outcome : Outcome → Outcome
higher_outcome o = record { answer = higher_answer o.answer; after = higher o.after }

module _ (h : Head) (st : State) (other : st.clock ≡ suc h.slots → ⊥) where
  frame_higher : own_slot_frame today h (higher st) ≡ frame_causes h st
  frame_higher =
      ap (λ (b : Bool). try too_short (ltb (length st.table) least_cells) ∷ try out_of_limits (not (valid h)) ∷ try not_well_formed (not (well_formed h (cell h st.table) && b)) ∷ [])
      (clock_higher h.slots st.clock other)

  own_higher : (a : Asked) → (a ≡ set_clock (suc h.slots) → ⊥) → own_slot_causes today h (higher st) (higher_asked a) ≡ own_causes h st a
  unfolding own_slot_causes own_causes last_gone
  own_higher (set_clock t) not_last =
      ap₂ (λ (b d : Bool). try out_of_limits (not b) ∷ try clock_back d ∷ []) (clock_higher h.slots t (λ e. not_last (ap set_clock e))) (below_higher t st.clock)
  own_higher (set_tie hold) not_last = refl
  own_higher (place_jobs jobs) not_last = refl
  own_higher (fault r) not_last = refl

  carried_higher : (a : Asked) → carried_own_slot today h (higher st) (higher_asked a) ≡ higher_outcome (carried_out h st a)
  unfolding carried_own_slot carried_out last_gone
  carried_higher (set_clock t) = refl
  carried_higher (set_tie hold) = refl
  carried_higher (place_jobs jobs) = refl
  carried_higher (fault r) = refl

  -- with the clock one higher, an event that asks for no last clock comes to what it came to
  pub event_one_higher : (e later : Event) → asked later ≡ higher_asked (asked e) → (asked e ≡ set_clock (suc h.slots) → ⊥) → event_own_slot today h (higher st) later ≡ higher_outcome (event_of h st e)
  unfolding event_own_slot comes_to
  event_one_higher e later asks not_last =
      ap (λ (a : Asked). decided (higher st) (own_slot_frame today h (higher st) ++ own_slot_causes today h (higher st) a) (carried_own_slot today h (higher st) a)) asks
      ∙ ap₂ (decided (higher st)) (ap₂ (λ (x y : List (Option Refusal)). x ++ y) frame_higher (own_higher (asked e) not_last)) (carried_higher (asked e))
      ∙ go (first_of (frame_causes h st ++ own_causes h st (asked e)))
    where
      go : (o : Option Refusal) → (elim o [ none ↦ higher_outcome (carried_out h st (asked e)) | some r ↦ record { answer = refused 0 r; after = higher st } ])
          ≡ higher_outcome (elim o [ none ↦ carried_out h st (asked e) | some r ↦ record { answer = refused 0 r; after = st } ])
      go none = refl
      go (some r) = refl

  -- and leaves no last clock
  event_not_last : (e : Event) → (asked e ≡ set_clock (suc h.slots) → ⊥) → (event_of h st e).after.clock ≡ suc h.slots → ⊥
  event_not_last e not_last = go (event_of h st e) (event_is h st e)
    where
      go : (o : Outcome) → EventIs h st e o → o.after.clock ≡ suc h.slots → ⊥
      go _ (stopped r f) q = other q
      go _ (clock_set t asks f) q = not_last (asks ∙ ap set_clock q)
      go _ (tie_set hold asks f) q = other q
      go _ (placed jobs asks f) q = other q

-- ---- a list of events

-- Every list of events with every clock one higher, from every table, order of ties and clock but the last one: the same answers, the clocks one higher, and the same left.
pub run_one_higher : (h : Head) (st : State) (es later : List Event) → (st.clock ≡ suc h.slots → ⊥) → OneHigher h.slots es later → run_own_slot h (higher st) later ≡ higher_run (run_of h st es)
unfolding run_of run_by
run_one_higher h st [] [] other p = refl
run_one_higher h st [] (l ∷ later) other p = absurd (let e = p.long in omega (arith, e))
run_one_higher h st (e ∷ es) [] other p = absurd (let q = p.long in omega (arith, q))
run_one_higher h st (e ∷ es) (l ∷ later) other p =
    ap (λ (o : Outcome). more o.answer (run_own_slot h o.after later)) (event_one_higher h st other e l (p.asks 0) (p.not_last 0))
    ∙ ap (more (higher_answer (event_of h st e).answer))
    (run_one_higher h (event_of h st e).after es later (event_not_last h st other e (p.not_last 0))
    (record { long = let q = p.long in omega (arith, q); asks = λ j. p.asks (suc j); not_last = λ j. p.not_last (suc j) }))

-- ---- without a clock line

-- a list of events that asks for no clock
abbrev NoClock : List Event → Type 0
NoClock es = (j t : ℕ) → asked (event_at es j) ≡ set_clock t → ⊥

asked_same : (a : Asked) → ((t : ℕ) → a ≡ set_clock t → ⊥) → a ≡ higher_asked a
asked_same (set_clock t) never = absurd (never t refl)
asked_same (set_tie hold) never = refl
asked_same (place_jobs jobs) never = refl
asked_same (fault r) never = refl

answer_same : (h : Head) (st : State) (e : Event) → ((t : ℕ) → asked e ≡ set_clock t → ⊥) → higher_answer (event_of h st e).answer ≡ (event_of h st e).answer
answer_same h st e never = go (event_of h st e) (event_is h st e)
  where
    go : (o : Outcome) → EventIs h st e o → higher_answer o.answer ≡ o.answer
    go _ (stopped r f) = refl
    go _ (clock_set t asks f) = absurd (never t asks)
    go _ (tie_set hold asks f) = refl
    go _ (placed jobs asks f) = refl

answers_same : (h : Head) (st : State) (es : List Event) → NoClock es → map higher_answer (run_of h st es).answers ≡ (run_of h st es).answers
unfolding run_of
answers_same h st [] never = refl
answers_same h st (e ∷ es) never = ap₂ (λ (a : Answer) (l : List Answer). a ∷ l) (answer_same h st e (never 0)) (answers_same h (event_of h st e).after es (λ j. never (suc j)))

-- Every list of events that asks for no clock: the same answers and the same left, but that the clock is one higher.
pub run_without_clock : (h : Head) (st : State) (es : List Event) → (st.clock ≡ suc h.slots → ⊥) → NoClock es
    → run_own_slot h (higher st) es ≡ record { answers = (run_of h st es).answers; after = higher (run_of h st es).after }
run_without_clock h st es other never =
    run_one_higher h st es es other (record { long = refl; asks = λ j. asked_same (asked (event_at es j)) (never j); not_last = λ j. never j (suc h.slots) })
    ∙ ap (λ (l : List Answer). record { answers = l; after = higher (run_of h st es).after }) (answers_same h st es never)

-- lines of a text without a clock line ask for none
asks_clock : (o : Option Form) (t : ℕ) → asked_by_form o ≡ set_clock t → o ≡ some (clock_line t)
asks_clock none t e = cc
asks_clock (some (frame_line s b)) t e = cc
asks_clock (some (busy_line b p)) t e = cc
asks_clock (some (preset_line p)) t e = cc
asks_clock (some (clock_line u)) t e = let same : u ≡ t = cc in ap (λ (x : ℕ). some (clock_line x)) same
asks_clock (some (call_line p)) t e = cc
asks_clock (some (tie_line hold)) t e = cc
asks_clock (some (supply_line k)) t e = cc

lines_ask : (ls : List (List ℕ)) → NoClockLine ls → NoClock (map line ls)
lines_ask [] never j t e = never j t (asks_clock (form []) t e)
lines_ask (l ∷ ls) never zero t e = never 0 t (asks_clock (form l) t e)
lines_ask (l ∷ ls) never (suc j) t e = lines_ask ls (λ i. never (suc i)) j t e

lines_after : (n : ℕ) (ls : List (List ℕ)) → NoClockLine ls → NoClockLine (drop n ls)
lines_after zero ls never = never
lines_after (suc n) [] never = never
lines_after (suc n) (l ∷ ls) never = lines_after n ls (λ j. never (suc j))

-- from the start of a plan the lines after the head are listed as they were
start_without_clock : (text : List ℕ) (n : ℕ) → NoClockLine (lines text) → (h : Head) (g u : List ℕ)
    → listing_of (ran h n g (run_of h (start_of h u) (events_of text n))) ≡ listing_of (ran h n g (run_own_slot h (own_start h u) (events_of text n)))
unfolding listing_of
start_without_clock text n never h g u =
    ap (λ (r : Run). listing_of (ran h n g r))
    (sym (run_without_clock h (start_of h u) (events_of text n) (λ q. omega (arith, q)) (lines_ask (drop n (lines text)) (lines_after n (lines text) never))))

-- every text without a clock line, with every table: its listing is what it was
pub text_without_clock : (text t : List ℕ) → NoClockLine (lines text) → listing_of (whole_of text t) ≡ listing_of (whole_own_slot text t)
text_without_clock text t never = whole_by_lem listing_of text t plan_of own_start (event_own_slot today) head_of refl (λ h n e. (refl, start_without_clock text n never h))

-- ---- without ties and a supply

-- On a frame whose supply feeds every bridge, under place, an event that asks for what it asked for came to the same by document 01's rules.
module _ (h : Head) (all : Uncapped h) (st : State) (place : st.hold ≡ false) (e : Event) (same : asked e ≡ asked_before e) where
  frame_document : own_slot_frame today h st ≡ own_slot_frame document_one h st
  frame_document =
      ap (λ (b : Bool). try too_short (ltb (length st.table) least_cells) ∷ try out_of_limits (not (valid h)) ∷ try not_well_formed (not (b && own_clock_in h.slots st.clock)) ∷ [])
      (sound_call h all (cell h st.table))

  own_document : (a : Asked) → own_slot_causes today h st a ≡ own_slot_causes document_one h st a
  unfolding own_slot_causes
  own_document (set_clock t) = refl
  own_document (set_tie hold) = refl
  own_document (place_jobs jobs) = call_causes_lem h all (gone st).clock jobs (cell h st.table)
  own_document (fault r) = refl

  carried_document : (a : Asked) → carried_own_slot today h st a ≡ carried_own_slot document_one h st a
  unfolding carried_own_slot
  carried_document (set_clock t) = refl
  carried_document (set_tie hold) = refl
  carried_document (place_jobs jobs) =
      ap₂ (λ (n : Cost) (u : List ℕ). record { answer = taken n; after = with_table u st }) (cost_call h all jobs (gone st))
      (ap (λ (x : State). x.table) (state_call h all jobs (gone st)) ∙ ap (λ (u : Cells). written h u st.table) (table_before h all (gone st) place e same jobs))
  carried_document (fault r) = refl

  event_document : event_own_slot today h st e ≡ event_own_slot document_one h st e
  unfolding event_own_slot
  event_document =
      ap₂ (decided st) (ap₂ (λ (x y : List (Option Refusal)). x ++ y) frame_document (own_document (asked e))) (carried_document (asked e))
      ∙ ap (λ (a : Asked). decided st (own_slot_frame document_one h st ++ own_slot_causes document_one h st a) (carried_own_slot document_one h st a)) same

  -- and kept place
  place_document : (event_own_slot today h st e).after.hold ≡ false
  unfolding event_own_slot carried_own_slot
  place_document = go (first_of (own_slot_frame today h st ++ own_slot_causes today h st (asked e))) (event_own_slot today h st e) refl
    where
      done : (a : Asked) → asked e ≡ a → (carried_own_slot today h st a).after.hold ≡ false
      done (set_clock t) q = place
      done (set_tie hold) q = absurd (no_tie e hold (sym same ∙ q))
      done (place_jobs jobs) q = place
      done (fault r) q = place

      go : (o : Option Refusal) (w : Outcome) → w ≡ (elim o [ none ↦ carried_own_slot today h st (asked e) | some r ↦ record { answer = refused 0 r; after = st } ]) → w.after.hold ≡ false
      go none w q = ap (λ (x : Outcome). x.after.hold) q ∙ done (asked e) refl
      go (some r) w q = ap (λ (x : Outcome). x.after.hold) q ∙ place

run_document : (h : Head) → Uncapped h → (st : State) (es : List Event) → FiveAsked es → st.hold ≡ false → run_own_slot h st es ≡ run_by (event_own_slot document_one h) st es
unfolding run_by
run_document h all st [] p place = refl
run_document h all st (e ∷ es) p place =
    ap (more (event_own_slot today h st e).answer) (run_document h all (event_own_slot today h st e).after es (λ j. p (suc j)) (place_document h all st place e (p 0)))
    ∙ ap (λ (o : Outcome). more o.answer (run_by (event_own_slot document_one h) o.after es)) (event_document h all st place e (p 0))

-- every text of which no line has the form of a clock line, a tie line or a supply line, with every table: its listing is that of document 01
pub text_as_document_01 : (text t : List ℕ) → FiveForms (lines text) → NoClockLine (lines text) → listing_of (whole_of text t) ≡ listing_of (whole_document_one text t)
text_as_document_01 text t p never =
    whole_by_lem listing_of text t plan_before own_start (event_own_slot document_one) head_before (head_before_lem text p)
    (λ h n e.
    let plain = plain_head text p h n e in (
      plan_as_before h plain.0 t plain.1,
      λ g u. start_without_clock text n never h g u
          ∙ ap (λ (r : Run). listing_of (ran h n g r)) (run_document h plain.0 (own_start h u) (events_of text n) (events_five text n p) plain.1),
    ))
