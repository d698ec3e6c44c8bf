-- An event where the preset records stand in a list, law by law.
--
-- In order: fewer than 32 records (`event_few`) and enough of them (`event_enough`); an event on
-- the first 32 records by value is one on the list (`event_list`); a refusal leaves what there was
-- (`meant_refused`, `event_unchanged`), and the frame afterwards (`event_running`); the entries
-- `set_clock` and `event` (`event_entry`, `event_entered`, `entry_few`, `entry_enough`).
-- Assumes nothing.
use Prim.Native.Nat.{ℕ, ◌≤◌, ◌<◌}
use mathlib.Core.Path.{◌≡◌, refl, sym, ◌∙◌, ap, subst}
use mathlib.Core.Bool.{false, not, ◌&&◌}
use mathlib.Core.Option.{Option, none, some}
use mathlib.Core.List.{List, [], ◌∷◌}
use lib.ListN.{length, take}
use lib.Dec.{ltb, leb}
use Rattle.std.specs.Prelude.{Err}
use Rattle.laws.proofs.Tests.{Is, is, is_true, is_false}
use Rattle.laws.proofs.Comparisons.{le_of, lt_of, ge_of, ltb_yes, ltb_no}
use Rattle.station.specs.Head as meant
use Rattle.station.specs.Refusal.{Refusal, out_of_limits, too_short, try, first_of}
use Rattle.station.specs.Types.{head_in}
use Rattle.station.specs.declared.types.Preset as record-of-preset
use Rattle.station.specs.declared.types.Head as record-of-head
use Rattle.station.specs.declared.types.Refusal.TheVariants.{TooShort}
use Rattle.station.proofs.Theorems.{head_list, loaded_whole}
use Rattle.station.specs.Records.{loaded}
use Rattle.placing.specs.State.{State, state_of}
use Rattle.placing.specs.Causes.{causes_of}
use Rattle.placing.specs.Claims.{Running}
use Rattle.frame.specs.Types as result
use Rattle.frame.specs.Event.{Event, refused, Outcome, event_of}
use Rattle.frame.specs.Types.{answer_in}
use Rattle.frame.specs.EventDone.{event_meant, Yields, EventDone}
use Rattle.frame.proofs.OneEvent.{refused_leaves}
use Rattle.frame.proofs.Demands.{demand_3}
use Rattle.frame.proofs.event.EventAnswers.{done_running}
use Rattle.frame.specs.EventEntry.{event_on_slice, EventOnSlice, EventEntry}

-- ---- by the number of records

module _ (n : ℕ) (head : record-of-head.Head) (ps : List record-of-preset.Preset) (st : State) (e : Event) where
  listed_few : n < 32 → event_on_slice n head ps st e ≡ record { answer = refused 0 too_short; after = st }
  unfolding event_on_slice first_of
  listed_few l = rw (ltb_yes n 32 l, event_on_slice) refl

  pub listed_enough : 32 ≤ n → event_on_slice n head ps st e ≡ event_meant head ps st e
  unfolding event_on_slice first_of
  listed_enough l = rw (ltb_no n 32 l, event_on_slice) refl

module _ (n : ℕ) (head : record-of-head.Head) (ps : List record-of-preset.Preset) (st : State) (e : Event) where
  event_few : n < 32 → EventOnSlice n head ps st e st.table (record { answer = Err TooShort; clock = st.clock; hold = st.hold })
  event_few l =
      subst (λ (o : Outcome). Yields o st.table (record { answer = Err TooShort; clock = st.clock; hold = st.hold })) (sym (listed_few n head ps st e l))
      (record { answer = refl; table = refl; clock = refl; hold = refl })

  event_enough : {u : List ℕ} {r : result.Outcome} → 32 ≤ n → EventDone head ps st e u r → EventOnSlice n head ps st e u r
  event_enough {u} {r} l d = subst (λ (o : Outcome). Yields o u r) (sym (listed_enough n head ps st e l)) d

-- ---- the first 32 records by value

module _ (head : record-of-head.Head) (st : State) (e : Event) where
  -- an event as the head says which the records stand for
  meant_head : (ps qs : List record-of-preset.Preset) → head_in head ps ≡ head_in head qs → event_meant head ps st e ≡ event_meant head qs st e
  unfolding event_meant
  meant_head ps qs same =
      ap (λ (h : meant.Head). elim (first_of (try too_short (ltb (length st.table) 512) ∷ try out_of_limits (not (leb head.count 32 && meant.valid h)) ∷ [])) [
        | none ↦ event_of h st e
        | some r ↦ record { answer = refused 0 r; after = st }
      ]) same

  -- a record that counts more than 32 presets is refused whatever they are
  meant_many : (ps qs : List record-of-preset.Preset) → leb head.count 32 ≡ false → event_meant head ps st e ≡ event_meant head qs st e
  unfolding event_meant first_of
  meant_many ps qs many = go (is (ltb (length st.table) 512))
    where
      go : Is (ltb (length st.table) 512) → event_meant head ps st e ≡ event_meant head qs st e
      go (is_true s) = rw (s, event_meant) refl
      go (is_false s) = rw (s, many, event_meant) refl

  meant_list : (ps : List record-of-preset.Preset) → 32 ≤ length ps → event_meant head (take 32 ps) st e ≡ event_meant head ps st e
  meant_list ps long = go (is (leb head.count 32))
    where
      go : Is (leb head.count 32) → event_meant head (take 32 ps) st e ≡ event_meant head ps st e
      go (is_true few) = meant_head (take 32 ps) ps (head_list head ps (le_of head.count 32 few))
      go (is_false many) = meant_many (take 32 ps) ps many

  -- a refusal of the head record, or of the event, leaves what there was
  meant_refused : (ps : List record-of-preset.Preset) (n : ℕ) (c : Refusal) → (event_meant head ps st e).answer ≡ refused n c → (event_meant head ps st e).after ≡ st
  unfolding event_meant
  meant_refused ps n c = go (first_of (causes_of head ps st.table)) refl
    where
      go : (o : Option Refusal) → first_of (causes_of head ps st.table) ≡ o → (event_meant head ps st e).answer ≡ refused n c → (event_meant head ps st e).after ≡ st
      go none q = rw (q, event_meant) (refused_leaves (head_in head ps) st e n c)
      go (some x) q = rw (q, event_meant) (λ p. refl)

module _ (head : record-of-head.Head) (ps : List record-of-preset.Preset) (st : State) (e : Event) where
  listed_list : event_on_slice (length ps) head (take 32 ps) st e ≡ event_on_slice (length ps) head ps st e
  listed_list = go (is (ltb (length ps) 32))
    where
      go : Is (ltb (length ps) 32) → event_on_slice (length ps) head (take 32 ps) st e ≡ event_on_slice (length ps) head ps st e
      go (is_true l) =
          let few = lt_of (length ps) 32 l in
          listed_few (length ps) head (take 32 ps) st e few ∙ sym (listed_few (length ps) head ps st e few)
      go (is_false l) =
          let long = ge_of (length ps) 32 l in
          listed_enough (length ps) head (take 32 ps) st e long
          ∙ meant_list head st e ps long
          ∙ sym (listed_enough (length ps) head ps st e long)

  listed_loaded : event_on_slice (length ps) head (loaded ps) st e ≡ event_on_slice (length ps) head (take 32 ps) st e
  listed_loaded = go (is (ltb (length ps) 32))
    where
      go : Is (ltb (length ps) 32) → event_on_slice (length ps) head (loaded ps) st e ≡ event_on_slice (length ps) head (take 32 ps) st e
      go (is_true l) =
          let few = lt_of (length ps) 32 l in
          listed_few (length ps) head (loaded ps) st e few ∙ sym (listed_few (length ps) head (take 32 ps) st e few)
      go (is_false l) = rw (loaded_whole ps (ge_of (length ps) 32 l)) refl

  listed_refused : (n : ℕ) (c : Refusal) → (event_on_slice (length ps) head ps st e).answer ≡ refused n c → (event_on_slice (length ps) head ps st e).after ≡ st
  listed_refused n c = go (is (ltb (length ps) 32))
    where
      go : Is (ltb (length ps) 32) → (event_on_slice (length ps) head ps st e).answer ≡ refused n c → (event_on_slice (length ps) head ps st e).after ≡ st
      go (is_true l) = subst (λ (o : Outcome). o.answer ≡ refused n c → o.after ≡ st) (sym (listed_few (length ps) head ps st e (lt_of (length ps) 32 l))) (λ q. refl)
      go (is_false l) =
          subst (λ (o : Outcome). o.answer ≡ refused n c → o.after ≡ st) (sym (listed_enough (length ps) head ps st e (ge_of (length ps) 32 l))) (meant_refused head st e ps n c)

  module _ {u : List ℕ} {r : result.Outcome} where
    event_list : EventOnSlice (length ps) head (take 32 ps) st e u r → EventOnSlice (length ps) head ps st e u r
    event_list d = subst (λ (o : Outcome). Yields o u r) listed_list d

    -- a frame that 11 lets pass is one afterwards
    event_running : EventOnSlice (length ps) head ps st e u r → Running (head_in head ps) st → Running (head_in head ps) (state_of u r.clock r.hold)
    event_running d run = go (is (ltb (length ps) 32))
      where
        go : Is (ltb (length ps) 32) → Running (head_in head ps) (state_of u r.clock r.hold)
        go (is_true l) =
            let y : Yields (record { answer = refused 0 too_short; after = st }) u r =
            subst (λ (o : Outcome). Yields o u r) (listed_few (length ps) head ps st e (lt_of (length ps) 32 l)) d in
            rw (y.clock, y.table, y.hold) run
        go (is_false l) =
            done_running head ps st e (subst (λ (o : Outcome). Yields o u r) (listed_enough (length ps) head ps st e (ge_of (length ps) 32 l)) d) run

    -- and a refusal leaves what there was
    event_unchanged : EventOnSlice (length ps) head ps st e u r → (n : ℕ) (c : Refusal) → answer_in r.answer ≡ refused n c → state_of u r.clock r.hold ≡ st
    event_unchanged d n c q =
        let same = listed_refused n c (sym d.answer ∙ q) in
        rw (d.table, d.clock, d.hold) (ap (λ (x : State). state_of x.table x.clock x.hold) same)

    event_first : EventOnSlice (length ps) head (take 32 ps) st e u r → EventEntry head ps st e u r
    event_first d =
        let done = event_list d in
        record { done = done; unchanged = event_unchanged done; kept = event_running done; claim = demand_3 (head_in head ps) st (e ∷ []) }

    -- the same with zeros after a list that is too short, and by its length
    pub event_entry : EventOnSlice (length ps) head (loaded ps) st e u r → EventEntry head ps st e u r
    event_entry d = event_first (subst (λ (o : Outcome). Yields o u r) listed_loaded d)

    pub event_entered : {n : ℕ} {copied : List record-of-preset.Preset} → n ≡ length ps → copied ≡ loaded ps → EventOnSlice n head copied st e u r → EventEntry head ps st e u r
    event_entered {n} {copied} count load d =
        event_entry
        (subst (λ (qs : List record-of-preset.Preset). EventOnSlice (length ps) head qs st e u r) load
        (subst (λ (k : ℕ). EventOnSlice k head copied st e u r) count d))

-- ---- the entries

module _ (head : record-of-head.Head) (ps : List record-of-preset.Preset) (st : State) (e : Event) where
  -- fewer than 32 records
  pub entry_few : length ps < 32 → EventEntry head ps st e st.table (record { answer = Err TooShort; clock = st.clock; hold = st.hold })
  entry_few l = event_entry head ps st e (event_few (length ps) head (loaded ps) st e l)

  -- with the first 32 of them by value
  pub entry_enough : {copied : List record-of-preset.Preset} {u : List ℕ} {r : result.Outcome} → 32 ≤ length ps → copied ≡ take 32 ps → EventDone head copied st e u r → EventEntry head ps st e u r
  entry_enough {copied} {u} {r} l same d = event_entered head ps st e refl (same ∙ sym (loaded_whole ps l)) (event_enough (length ps) head copied st e l d)
