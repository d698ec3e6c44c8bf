-- From the first 32 records to the list: what a plan or a call does over them, it does over the list.
--
-- In order: the first 32 records settle the outcome (`same_plan`, `same_call`); a refusal leaves what there was (`meant_refused`); the first 32 records agree with
-- the list in them; the contract of each entry from that of the entry over a station (`plan_entered`, `call_entry`), and of a list that is too short (`plan_short`, `call_entry_short`).
-- Assumes nothing.
use Prim.Native.Nat.{ℕ, ◌≤◌, ◌<◌}
use native.Mathlib.Omega.{arith}
use mathlib.Core.Path.{◌≡◌, refl, sym, ◌∙◌, ap, subst}
use Rattle.std.specs.Prelude.{Result, Err}
use Rattle.std.proofs.lemmas.Result.{IfOk-weaker}
use mathlib.Core.Bool.{Bool, true, false, not, ◌&&◌}
use mathlib.Core.Option.{Option, none, some}
use mathlib.Core.List.{List, [], ◌∷◌, map}
use lib.ListN.{length, take}
use lib.Seq.{take-take}
use lib.Dec.{ltb, leb}
use Rattle.laws.proofs.Comparisons.{le_of, lt_of, ge_of}
use Rattle.laws.proofs.Tests.{Is, is, is_true, is_false}
use Rattle.laws.specs.Lists.{at}
use Rattle.station.specs.Head as spec
use Rattle.station.specs.Head.{Job, valid}
use Rattle.station.specs.Refusal.{Refusal, out_of_limits, too_short, try, first_of}
use Rattle.station.specs.Types.{preset_in, head_in}
use Rattle.station.specs.declared.types.Preset.{Preset}
use Rattle.station.specs.declared.types.Head.{Head}
use Rattle.placing.specs.State.{State, state_of}
use Rattle.placing.specs.Outcomes.{PlanAnswer, PlanOutcome, plan_of, CallAnswer, CallOutcome, call_of}
use Rattle.station.specs.declared.types.Refusal as cause
use Rattle.station.specs.declared.types.Refusal.TheVariants.{TooShort}
use Rattle.placing.specs.PlanDone.{plan_meant, grants_in, PlanDone}
use Rattle.placing.specs.CallDone.{call_answer_in, call_meant, CallDone}
use Rattle.placing.specs.Entries.{PlanEntered, CallEntered, CallEntry}
use Rattle.placing.specs.Causes.{causes_of}
use Rattle.placing.specs.Claims.{Running}
use Rattle.placing.proofs.ClaimsHold.{call_refused, call_claim_lem}
use Rattle.placing.proofs.call.CallAnswers.{done_running}
use Rattle.placing.specs.Types.{filled}

-- ---- the first 32 records settle the outcome

-- an outcome by a table too short or not, a count within 32 or not, and the head that the records stand for
module _ {O : Type 0} (f : spec.Head → O) (g : Refusal → O) where
  abbrev outcome : Bool → Bool → spec.Head → O
  outcome short few h = elim (first_of (try too_short short ∷ try out_of_limits (not (few && valid h)) ∷ [])) [ none ↦ f h | some r ↦ g r ]

  same_outcome : (short few : Bool) (h k : spec.Head) → (few ≡ true → h ≡ k) → outcome short few h ≡ outcome short few k
  unfolding first_of
  same_outcome short true h k e = ap (outcome short true) (e refl)
  same_outcome true false h k e = refl
  same_outcome false false h k e = refl

module _ (head : Head) (ps qs : List Preset) (agree : take 32 ps ≡ take 32 qs) where
  -- where the head record counts no more than 32 presets, they are among the first 32 records
  same_head : leb head.count 32 ≡ true → head_in head ps ≡ head_in head qs
  same_head e =
      let few : head.count ≤ 32 = le_of head.count 32 e in
      ap (λ (l : List Preset). record { slots = head.slots; bridges = head.bridges; supply = head.supply; hold = head.hold; busy = head.busy; presets = map preset_in l })
      (sym (take-take head.count 32 ps few) ∙ ap (take head.count) agree ∙ take-take head.count 32 qs few)

  same_plan : (t : List ℕ) → plan_meant head ps t ≡ plan_meant head qs t
  unfolding plan_meant
  same_plan t = same_outcome (λ h. plan_of h t) (λ r. record { answer = PlanAnswer.refused 0 r; table = t }) (ltb (length t) 512) (leb head.count 32) (head_in head ps) (head_in head qs) same_head

  same_call : (jobs : List Job) (st : State) → call_meant head ps jobs st ≡ call_meant head qs jobs st
  unfolding call_meant
  same_call jobs st =
      same_outcome (λ h. call_of h jobs st) (λ r. record { answer = CallAnswer.refused 0 r; after = st }) (ltb (length st.table) 512) (leb head.count 32) (head_in head ps) (head_in head qs) same_head

-- a refusal of the head record, or of the call, leaves what there was
meant_refused : (head : Head) (ps : List Preset) (jobs : List Job) (st : State) (k : ℕ) (c : Refusal) → (call_meant head ps jobs st).answer ≡ CallAnswer.refused k c
    → (call_meant head ps jobs st).after ≡ st
unfolding call_meant
meant_refused head ps jobs st k c = go (first_of (causes_of head ps st.table)) refl
  where
    go : (o : Option Refusal) → first_of (causes_of head ps st.table) ≡ o → (call_meant head ps jobs st).answer ≡ CallAnswer.refused k c → (call_meant head ps jobs st).after ≡ st
    go none q = rw (q, call_meant) (call_refused (head_in head ps) jobs st k c)
    go (some x) q = rw (q, call_meant) (λ p. refl)

-- ---- the first 32 records of a list

first_agree : (ps : List Preset) {first : List Preset} → first ≡ take 32 ps → take 32 first ≡ take 32 ps
first_agree ps e = ap (take 32) e ∙ take-take 32 32 ps (omega arith)

-- ---- the contract of each entry

-- fewer than 32 records
pub plan_short : (head : Head) (ps : List Preset) (t : List ℕ) → length ps < 32 → PlanEntered (length ps) head ps t t (Err TooShort)
plan_short head ps t l = record { short = λ _. (refl, refl); done = λ m. absurd (omega (arith, l, m)) }

-- a list of 32 records or more
pub plan_entered : (head : Head) (ps : List Preset) {first : List Preset} → first ≡ take 32 ps → 32 ≤ length ps → {t u : List ℕ} {r : Result (List ℕ) cause.Refusal} → PlanDone head first t u r
    → PlanEntered (length ps) head ps t u r
plan_entered head ps {first} own long {t} {u} {r} d =
    let o = same_plan head first ps (first_agree ps own) t in
    record {
      short = λ l. absurd (omega (arith, long, l));
      done = λ l. record {
        answer = d.answer ∙ ap (λ (p : PlanOutcome). p.answer) o;
        grants = IfOk-weaker r _ _ (λ g q. q ∙ ap (λ (p : PlanOutcome). filled 32 (length (grants_in p.answer)) (at (grants_in p.answer))) o) d.grants;
        table = d.table ∙ ap (λ (p : PlanOutcome). p.table) o;
      };
    }

module _ (head : Head) (ps : List Preset) (jobs : List Job) (st : State) where
  module _ {u : List ℕ} {r : Result ℕ cause.Refusal} where
    -- a frame that 11 lets pass is one afterwards
    entered_running : CallEntered (length ps) head ps jobs st u r → Running (head_in head ps) st → Running (head_in head ps) (state_of u st.clock st.hold)
    entered_running e run = go (is (ltb (length ps) 32))
      where
        go : Is (ltb (length ps) 32) → Running (head_in head ps) (state_of u st.clock st.hold)
        go (is_true l) = subst (λ (t : List ℕ). Running (head_in head ps) (state_of t st.clock st.hold)) (sym (e.short (lt_of (length ps) 32 l)).1) run
        go (is_false l) = done_running head ps jobs st (e.done (ge_of (length ps) 32 l)) run

    -- and a refusal leaves the table
    entered_unchanged : CallEntered (length ps) head ps jobs st u r → (k : ℕ) (c : Refusal) → call_answer_in r ≡ CallAnswer.refused k c → u ≡ st.table
    entered_unchanged e k c q = go (is (ltb (length ps) 32))
      where
        go : Is (ltb (length ps) 32) → u ≡ st.table
        go (is_true l) = (e.short (lt_of (length ps) 32 l)).1
        go (is_false l) = let d = e.done (ge_of (length ps) 32 l) in d.table ∙ ap (λ (x : State). x.table) (meant_refused head ps jobs st k c (sym d.answer ∙ q))

    entry : CallEntered (length ps) head ps jobs st u r → CallEntry head ps jobs st u r
    entry done = record { done = done; unchanged = entered_unchanged done; kept = entered_running done; claim = call_claim_lem (head_in head ps) jobs st }

  pub call_entry_short : length ps < 32 → CallEntry head ps jobs st st.table (Err TooShort)
  call_entry_short l = entry (record { short = λ _. (refl, refl); done = λ m. absurd (omega (arith, l, m)) })

  pub call_entry : {first : List Preset} → first ≡ take 32 ps → 32 ≤ length ps → {u : List ℕ} {r : Result ℕ cause.Refusal} → CallDone head first jobs st u r → CallEntry head ps jobs st u r
  call_entry {first} own long d =
      let o = same_call head first ps (first_agree ps own) jobs st in
      entry
      (record {
        short = λ m. absurd (omega (arith, long, m));
        done = λ _. record { answer = d.answer ∙ ap (λ (p : CallOutcome). p.answer) o; table = d.table ∙ ap (λ (p : CallOutcome). p.after.table) o };
      })
