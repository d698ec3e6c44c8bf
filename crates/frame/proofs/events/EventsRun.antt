-- The lines of a text without a head as events on a lent frame, law by law.
--
-- In order: a refusal, a law for each cause (`events_long`, `events_few`, `events_short`,
-- `events_stopped`), and no cause: what the loop over the lines starts from (`events_start`) and
-- leaves (`events_ran`); the frame afterwards, a refusal that changes nothing, and the claim
-- (`events_claim`); a list of 32 records or more (`meant_enough`), and the first 32 by value are
-- those of the list (`events_entry`, `events_entered`); the entry (`entry_long`, `entry_few`, `entry_enough`).
-- Assumes nothing.
use Prim.Native.Nat.{ℕ, ◌≤◌, ◌<◌}
use native.Mathlib.Omega.{arith}
use mathlib.Core.Path.{◌≡◌, refl, sym, ◌∙◌, ap, subst}
use mathlib.Core.Bool.{Bool, true, false, not, ◌&&◌}
use mathlib.Core.Option.{Option, none, some}
use mathlib.Core.List.{List, [], ◌∷◌}
use lib.ListN.{length, take}
use lib.Dec.{ltb, leb}
use Rattle.std.specs.Prelude.{Result, Ok, Err}
use Rattle.laws.proofs.Comparisons.{le_of, ltb_yes, ltb_no, ge_of}
use Rattle.station.specs.Head.{Head, valid}
use Rattle.station.specs.Refusal.{Refusal, out_of_limits, too_short, not_well_formed, text_too_long, try, first_of}
use Rattle.station.specs.Types.{head_in, refusal_in}
use Rattle.station.specs.declared.output.Writer.{Writer}
use Rattle.station.specs.declared.types.Preset as record-of-preset
use Rattle.station.specs.declared.types.Head as record-of-head
use Rattle.station.specs.declared.types.Refusal as cause
use Rattle.station.specs.declared.types.Fault.{Fault}
use Rattle.station.specs.ReadHead.{fault}
use Rattle.station.specs.declared.types.Refusal.TheVariants.{TooShort, TextTooLong}
use Rattle.station.proofs.Theorems.{passed, head_list, writes_out, loaded_whole}
use Rattle.station.specs.Records.{loaded}
use Rattle.placing.specs.declared.moment.Moment.{Moment}
use Rattle.placing.specs.State.{State, state_of, well_formed_frame}
use Rattle.placing.specs.Causes.{cause_in, frame_causes_of}
use Rattle.placing.specs.Claims.{Running}
use Rattle.placing.proofs.Theorems.{met, frame_running}
use Rattle.frame.specs.Event.{run_of}
use Rattle.frame.specs.Demands.{state_at, event_at, EventIs}
use Rattle.frame.specs.TextDone.{listed, refused_at, end_in}
use Rattle.frame.specs.EventsDone.{all_events, events_causes, EventsOutcome, answers_written, events_meant, EventsAnswer, events_answer, EventsLeft, EventsClaim, EventsEntry}
use Rattle.frame.specs.method.TextLines.{LinesStart, RanLines}
use Rattle.frame.proofs.EventList.{outcome_at}
use Rattle.frame.proofs.OneEvent.{event_is}
use Rattle.frame.proofs.Demands.{demand_3}

-- what a refusal leaves
abbrev stopped_by : Refusal → State → List ℕ → EventsOutcome
stopped_by r st out = record { ended = refused_at 0 r; after = st; output = out }

module _ (n : ℕ) (head : record-of-head.Head) (ps : List record-of-preset.Preset) (st : State) (text out : List ℕ) where
  abbrev h : Head
  h = head_in head ps

  -- ---- the outcome by the first cause

  meant_stopped : (r : Refusal) → first_of (events_causes n head ps st text out) ≡ some r → events_meant n head ps st text out ≡ stopped_by r st out
  unfolding events_meant
  meant_stopped r e = rw (e, events_meant) refl

  meant_ran : first_of (events_causes n head ps st text out) ≡ none → events_meant n head ps st text out ≡ answers_written (run_of h st (all_events text)) out
  unfolding events_meant
  meant_ran e = rw (e, events_meant) refl

  -- ---- a law for each cause

  -- what is answered and left where the fault is f
  abbrev refused_by : Fault → EventsAnswer
  refused_by f = record { ended = Err f; clock = st.clock; hold = st.hold }

  refused_left : (c : cause.Refusal) {f : Fault} → first_of (events_causes n head ps st text out) ≡ some (refusal_in c) → f ≡ fault 0 c
      → EventsLeft (events_meant n head ps st text out) st.table out (refused_by f)
  refused_left c {f} e a =
      subst (λ (o : EventsOutcome). EventsLeft o st.table out (refused_by f)) (sym (meant_stopped (refusal_in c) e))
      (rw a (record { ended = refl; table = refl; clock = refl; hold = refl; output = refl }))

  pub events_long : {f : Fault} → 32768 < length text → f ≡ fault 0 TextTooLong → EventsLeft (events_meant n head ps st text out) st.table out (refused_by f)
  events_long l = refused_left TextTooLong (met text_too_long (ltb 32768 (length text)) _ (ltb_yes 32768 (length text) l))

  module _ (short : length text ≤ 32768) where
    after_ten : first_of (events_causes n head ps st text out) ≡ first_of (try too_short (ltb n 32) ∷ try too_short (ltb (length out) 8192) ∷ frame_causes_of head ps st)
    after_ten = passed text_too_long (ltb 32768 (length text)) _ (ltb_no 32768 (length text) short)

    pub events_few : {f : Fault} → n < 32 → f ≡ fault 0 TooShort → EventsLeft (events_meant n head ps st text out) st.table out (refused_by f)
    events_few l = refused_left TooShort (after_ten ∙ met too_short (ltb n 32) _ (ltb_yes n 32 l))

    module _ (long : 32 ≤ n) where
      after_list : first_of (events_causes n head ps st text out) ≡ first_of (try too_short (ltb (length out) 8192) ∷ frame_causes_of head ps st)
      after_list = after_ten ∙ passed too_short (ltb n 32) _ (ltb_no n 32 long)

      pub events_short : {f : Fault} → length out < 8192 → f ≡ fault 0 TooShort → EventsLeft (events_meant n head ps st text out) st.table out (refused_by f)
      events_short l = refused_left TooShort (after_list ∙ met too_short (ltb (length out) 8192) _ (ltb_yes (length out) 8192 l))

      module _ (room : 8192 ≤ length out) where
        after_output : first_of (events_causes n head ps st text out) ≡ first_of (frame_causes_of head ps st)
        after_output = after_list ∙ passed too_short (ltb (length out) 8192) _ (ltb_no (length out) 8192 room)

        pub events_stopped : {w : Result Unit cause.Refusal} (c : cause.Refusal) {f : Fault} → cause_in w ≡ first_of (frame_causes_of head ps st) → w ≡ Err c → f ≡ fault 0 c
            → EventsLeft (events_meant n head ps st text out) st.table out (refused_by f)
        events_stopped c e m = refused_left c (after_output ∙ sym e ∙ ap cause_in m)

        runs : first_of (frame_causes_of head ps st) ≡ none → events_meant n head ps st text out ≡ answers_written (run_of h st (all_events text)) out
        runs free = meant_ran (after_output ∙ free)

        -- ---- no cause

        pub events_ran : {w : Result Unit cause.Refusal} {v : Unit} {w₀ w₁ : Writer} {t₁ out₁ : List ℕ} {end : ℕ} {k : Moment} → cause_in w ≡ first_of (frame_causes_of head ps st) → w ≡ Ok v
            → w₀.out.now ≡ out → w₀.at ≡ 0 → RanLines h text 0 0 st w₀ t₁ k w₁ → out₁ ≡ w₁.out.now → end ≡ w₁.at → EventsLeft (events_meant n head ps st text out) t₁ out₁ (events_answer (Ok end) k)
        events_ran {t₁ = t₁} {out₁ = out₁} {end = end} {k = k} e m p q y r s =
            let written = writes_out y.output p q r s in
            subst (λ (o : EventsOutcome). EventsLeft o t₁ out₁ (events_answer (Ok end) k)) (sym (runs (sym e ∙ ap cause_in m)))
            (record { ended = ap listed written.position; table = y.table; clock = y.clock; hold = y.hold; output = written.output })

    pub events_start : {w : Result Unit cause.Refusal} {v : Unit} → cause_in w ≡ first_of (frame_causes_of head ps st) → w ≡ Ok v → LinesStart head ps text 0 0 st
    events_start e m =
        let passes = frame_running head ps st (sym e ∙ ap cause_in m) in
        record { valid = passes.0; running = passes.1; few = omega arith; inside = omega arith; short = short }

  -- ---- the claim

  module _ {t₁ out₁ : List ℕ} {r : EventsAnswer} (d : EventsLeft (events_meant n head ps st text out) t₁ out₁ r) where
    left_running : Running h st → Running h (state_of t₁ r.clock r.hold)
    left_running run = go (first_of (events_causes n head ps st text out)) refl
      where
        by_outcome : (o : EventsOutcome) → events_meant n head ps st text out ≡ o → Running h o.after → Running h (state_of t₁ r.clock r.hold)
        by_outcome o e after =
            let table = d.table ∙ ap (λ (x : EventsOutcome). x.after.table) e in
            let clock = d.clock ∙ ap (λ (x : EventsOutcome). x.after.clock) e in
            let hold = d.hold ∙ ap (λ (x : EventsOutcome). x.after.hold) e in
            rw (table, clock, hold) after

        go : (x : Option Refusal) → first_of (events_causes n head ps st text out) ≡ x → Running h (state_of t₁ r.clock r.hold)
        go none e = by_outcome (answers_written (run_of h st (all_events text)) out) (meant_ran e) (demand_3 h st (all_events text) run).running
        go (some c) e = by_outcome (stopped_by c st out) (meant_stopped c e) run

    left_unchanged : (k : ℕ) (c : Refusal) → end_in r.ended ≡ refused_at k c → state_of t₁ r.clock r.hold ≡ st
    left_unchanged k c q = go (first_of (events_causes n head ps st text out)) refl
      where
        by_outcome : (o : EventsOutcome) → events_meant n head ps st text out ≡ o → (o.ended ≡ refused_at k c → o.after ≡ st) → state_of t₁ r.clock r.hold ≡ st
        by_outcome o e same =
            let whole : EventsLeft o t₁ out₁ r = subst (λ (x : EventsOutcome). EventsLeft x t₁ out₁ r) e d in
            rw (whole.table, whole.clock, whole.hold)
            (ap (λ (x : State). state_of x.table x.clock x.hold) (same (sym whole.ended ∙ q)))

        go : (x : Option Refusal) → first_of (events_causes n head ps st text out) ≡ x → state_of t₁ r.clock r.hold ≡ st
        go none e = by_outcome (answers_written (run_of h st (all_events text)) out) (meant_ran e) (λ p. cc)
        go (some x) e = by_outcome (stopped_by x st out) (meant_stopped x e) (λ p. refl)

    pub events_claim : EventsClaim n head ps st text out t₁ r
    events_claim = record {
      unchanged = left_unchanged;
      runs = λ short long room free. runs short long room free;
      later = λ j l.
          subst (EventIs h (state_at h st (all_events text) j) (event_at (all_events text) j)) (sym (outcome_at h st (all_events text) j l))
          (event_is h (state_at h st (all_events text) j) (event_at (all_events text) j));
      kept = left_running;
      demand3 = demand_3 h st (all_events text);
    }

-- ---- the first 32 records by value

-- an outcome by the causes before 2, a count within 32 or not, and the head that the records stand
-- for
module _ (st : State) (f : Head → EventsOutcome) (g : Refusal → EventsOutcome) where
  abbrev outcome : Bool → Bool → Bool → Bool → Bool → Head → EventsOutcome
  outcome few short long room cells h =
      elim (first_of (try text_too_long long ∷ try too_short short ∷ try too_short room ∷ try too_short cells ∷ try out_of_limits (not (few && valid h)) ∷ try not_well_formed (not (well_formed_frame h st)) ∷ [])) [
        | none ↦ f h
        | some r ↦ g r
      ]

  same_outcome : (few short long room cells : Bool) (h k : Head) → (short ≡ false → few ≡ true → h ≡ k) → outcome few short long room cells h ≡ outcome few short long room cells k
  unfolding first_of
  same_outcome few true true room cells h k e = refl
  same_outcome few true false room cells h k e = refl
  same_outcome true false long room cells h k e = ap (outcome true false long room cells) (e refl refl)
  same_outcome false false true room cells h k e = refl
  same_outcome false false false true cells h k e = refl
  same_outcome false false false false true h k e = refl
  same_outcome false false false false false h k e = refl

-- a list that is long enough does not matter
module _ (n : ℕ) (head : record-of-head.Head) (ps : List record-of-preset.Preset) (st : State) (text out : List ℕ) where
  meant_enough : 32 ≤ n → events_meant n head ps st text out ≡ events_meant 32 head ps st text out
  unfolding events_meant
  meant_enough l = rw (ltb_no n 32 l, events_meant) refl

module _ (head : record-of-head.Head) (ps : List record-of-preset.Preset) (st : State) (text out : List ℕ) where
  meant_list : events_meant (length ps) head (take 32 ps) st text out ≡ events_meant (length ps) head ps st text out
  unfolding events_meant
  meant_list =
      same_outcome st (λ k. answers_written (run_of k st (all_events text)) out) (λ r. stopped_by r st out) (leb head.count 32) (ltb (length ps) 32) (ltb 32768 (length text)) (ltb (length out) 8192)
      (ltb (length st.table) 512) (head_in head (take 32 ps)) (head_in head ps) (λ s few. head_list head ps (le_of head.count 32 few))

  events_first : {t₁ out₁ : List ℕ} {r : EventsAnswer} → EventsLeft (events_meant (length ps) head (take 32 ps) st text out) t₁ out₁ r → EventsEntry head ps st text out t₁ out₁ r
  events_first {t₁} {out₁} {r} d =
      let done = subst (λ (o : EventsOutcome). EventsLeft o t₁ out₁ r) meant_list d in
      record { done = done; claim = events_claim (length ps) head ps st text out done }

  -- the same with zeros after a list that is too short, and by its length
  meant_loaded : events_meant (length ps) head (loaded ps) st text out ≡ events_meant (length ps) head (take 32 ps) st text out
  unfolding events_meant
  meant_loaded =
      same_outcome st (λ k. answers_written (run_of k st (all_events text)) out) (λ r. stopped_by r st out) (leb head.count 32) (ltb (length ps) 32) (ltb 32768 (length text)) (ltb (length out) 8192)
      (ltb (length st.table) 512) (head_in head (loaded ps)) (head_in head (take 32 ps)) (λ s few. ap (head_in head) (loaded_whole ps (ge_of (length ps) 32 s)))

  pub events_entry : {t₁ out₁ : List ℕ} {r : EventsAnswer} → EventsLeft (events_meant (length ps) head (loaded ps) st text out) t₁ out₁ r → EventsEntry head ps st text out t₁ out₁ r
  events_entry {t₁} {out₁} {r} d = events_first (subst (λ (o : EventsOutcome). EventsLeft o t₁ out₁ r) meant_loaded d)

  pub events_entered : {n : ℕ} {copied : List record-of-preset.Preset} {t₁ out₁ : List ℕ} {r : EventsAnswer} → n ≡ length ps → copied ≡ loaded ps
      → EventsLeft (events_meant n head copied st text out) t₁ out₁ r → EventsEntry head ps st text out t₁ out₁ r
  events_entered {n} {copied} {t₁} {out₁} {r} count load d =
      events_entry
      (subst (λ (qs : List record-of-preset.Preset). EventsLeft (events_meant (length ps) head qs st text out) t₁ out₁ r) load
      (subst (λ (k : ℕ). EventsLeft (events_meant k head copied st text out) t₁ out₁ r) count d))

  -- the entry: refused before the list is read, or run with the first 32 records by value
  pub entry_long : {f : Fault} → 32768 < length text → f ≡ fault 0 TextTooLong → EventsEntry head ps st text out st.table out (record { ended = Err f; clock = st.clock; hold = st.hold })
  entry_long l e = events_entry (events_long (length ps) head (loaded ps) st text out l e)

  pub entry_few : length text ≤ 32768 → length ps < 32 → EventsEntry head ps st text out st.table out (record { ended = Err (fault 0 TooShort); clock = st.clock; hold = st.hold })
  entry_few l k = events_entry (events_few (length ps) head (loaded ps) st text out l k refl)

  pub entry_enough : {copied : List record-of-preset.Preset} {t₁ out₁ : List ℕ} {r : EventsAnswer} → 32 ≤ length ps → copied ≡ take 32 ps
      → EventsLeft (events_meant 32 head copied st text out) t₁ out₁ r → EventsEntry head ps st text out t₁ out₁ r
  entry_enough {copied} {t₁} {out₁} {r} l same d =
      events_entered refl (same ∙ sym (loaded_whole ps l))
      (subst (λ (o : EventsOutcome). EventsLeft o t₁ out₁ r) (sym (meant_enough (length ps) head copied st text out l)) d)
