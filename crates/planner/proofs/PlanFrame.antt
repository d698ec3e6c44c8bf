-- What `planner_plan` answers and leaves, law by law.
--
-- In order: what a plan comes to by the causes 8 of the frame, of the presets and of the grants (`on-..`); a plan that is refused by these (`plan_short`, `plan_short_grants`, `plan_few_grants`), and that one that is made met none of them (`plan_passes`); a refusal changes nothing, and what is planned is a running frame (`plan_keeps`, `plan_runs`); a plan that is refused, and
-- one that is made (`plan_refused`, `plan_made`; `refused_handed`, `made_handed`).
-- Assumes nothing.
use Prim.Native.Nat.{ℕ, ◌≤◌, ◌<◌}
use native.Mathlib.Omega.{arith}
use mathlib.Core.Path.{◌≡◌, refl, sym, ◌∙◌, ap, subst}
use mathlib.Core.Bool.{true, not}
use mathlib.Core.Option.{Option, none, some}
use mathlib.Core.List.{List, []}
use lib.ListN.{length, take}
use lib.Seq.{sets}
use lib.Dec.{ltb}
use mathlib.Core.Logic.{inl, inr}
use Rattle.std.specs.Prelude.{Result, Ok, Err}
use Rattle.laws.specs.Lists.{at}
use Rattle.laws.proofs.Tests.{Is, is, is_true, is_false, true_of_not}
use Rattle.laws.proofs.Comparisons.{lt_of, ge_of, ltb_yes, ltb_no}
use Rattle.station.specs.Head.{Head}
use Rattle.station.specs.Refusal.{Refusal, out_of_limits, too_short, number_of, first_of}
use Rattle.station.specs.Types.{head_in, valid_record, refusal_in}
use Rattle.station.specs.declared.types.Preset as record-of-preset
use Rattle.station.specs.declared.types.Head as record-of-head
use Rattle.station.specs.declared.types.Refusal as cause
use Rattle.station.proofs.Theorems.{first_none, number_some}
use Rattle.placing.specs.Valid.{first_clock}
use Rattle.placing.specs.State.{state_of}
use Rattle.placing.specs.Claims.{Running}
use Rattle.placing.specs.Outcomes.{PlanAnswer, PlanOutcome, plan_causes, plan_of}
use Rattle.placing.proofs.Theorems.{plan_claim}
use Rattle.placing.specs.Causes.{causes_of}
use Rattle.station.specs.declared.types.Station.{Station}
use Rattle.placing.specs.PlanDone.{plan_meant, replied_in, grants_in, PlanDone}
use Rattle.frame.specs.Text.{start_of}
use Rattle.frame.proofs.Theorems.{planned_running}
use Rattle.planner.specs.Layout.{records_in, frame_numbers, head_of_numbers, hold_of_numbers, started}
use Rattle.planner.proofs.RoundTrip.{started_head, started_clock, started_hold}
use Rattle.planner.specs.Exports.{head_on, state_on, ShortOf, LentStation, plan_on, plan_returned, grants_after, PlanLeaves, PlanPromise}
use Rattle.placing.specs.Types.{filled}

-- a refused plan leaves the table
of_keeps : (h : Head) (t : List ℕ) → 0 < (plan_returned (plan_of h t).answer).number → (plan_of h t).table ≡ t
unfolding plan_of
of_keeps h t l = go (first_of (plan_causes h t)) refl
  where
    go : (c : Option Refusal) → first_of (plan_causes h t) ≡ c → (plan_of h t).table ≡ t
    go none q = let z : 0 < 0 = rw (q, plan_of) at l in absurd (omega (arith, z))
    go (some r) q = rw (q, plan_of) refl

-- and any other leaves that of a running frame with the first clock and the head's order of ties
of_runs : (h : Head) (t : List ℕ) (a : PlanAnswer) → (plan_of h t).answer ≡ a → (plan_returned a).number ≡ 0 → Running h (start_of h (plan_of h t).table)
of_runs h t (PlanAnswer.granted g) e z = planned_running h t g e
of_runs h t (PlanAnswer.refused _ r) e z = absurd (number_some r z)

module _ (head : record-of-head.Head) (ps : List record-of-preset.Preset) (t : List ℕ) where
  plan_keeps : 0 < (plan_returned (plan_meant head ps t).answer).number → (plan_meant head ps t).table ≡ t
  unfolding plan_meant
  plan_keeps l = go (first_of (causes_of head ps t)) refl
    where
      go : (c : Option Refusal) → first_of (causes_of head ps t) ≡ c → (plan_meant head ps t).table ≡ t
      go none q = rw (q, plan_meant) (of_keeps (head_in head ps) t (rw (q, plan_meant) at l))
      go (some r) q = rw (q, plan_meant) refl

  plan_runs : (plan_returned (plan_meant head ps t).answer).number ≡ 0 → Running (head_in head ps) (start_of (head_in head ps) (plan_meant head ps t).table)
  unfolding plan_meant
  plan_runs z = go (first_of (causes_of head ps t)) refl
    where
      go : (c : Option Refusal) → first_of (causes_of head ps t) ≡ c → Running (head_in head ps) (start_of (head_in head ps) (plan_meant head ps t).table)
      go none q = rw (q, plan_meant) (of_runs (head_in head ps) t (plan_of (head_in head ps) t).answer refl (rw (q, plan_meant) at z))
      go (some r) q = absurd (number_some r (rw (q, plan_meant) at z))

  -- it is made for a head record that some text yields
  plan_valid : (plan_returned (plan_meant head ps t).answer).number ≡ 0 → valid_record head ps ≡ true
  unfolding plan_meant
  plan_valid z = go (first_of (causes_of head ps t)) refl
    where
      go : (c : Option Refusal) → first_of (causes_of head ps t) ≡ c → valid_record head ps ≡ true
      go none q = true_of_not _ (first_none out_of_limits (not (valid_record head ps)) [] (first_none too_short (ltb (length t) 512) _ q).1).0
      go (some r) q = absurd (number_some r (rw (q, plan_meant) at z))

module _ (f p t g : List ℕ) where
  on_short_frame : length f < frame_numbers → plan_on f p t g ≡ record { answer = PlanAnswer.refused 0 too_short; table = t }
  unfolding plan_on first_of
  on_short_frame s = rw (ltb_yes (length f) frame_numbers s, plan_on) refl

  on_short_presets : frame_numbers ≤ length f → length p < 128 → plan_on f p t g ≡ record { answer = PlanAnswer.refused 0 too_short; table = t }
  unfolding plan_on first_of
  on_short_presets k s = rw (ltb_no (length f) frame_numbers k, ltb_yes (length p) 128 s, plan_on) refl

  on_short_grants : frame_numbers ≤ length f → 128 ≤ length p → length g < 32 → plan_on f p t g ≡ record { answer = PlanAnswer.refused 0 too_short; table = t }
  unfolding plan_on first_of
  on_short_grants k m s = rw (ltb_no (length f) frame_numbers k, ltb_no (length p) 128 m, ltb_yes (length g) 32 s, plan_on) refl

  on_enough : frame_numbers ≤ length f → 128 ≤ length p → 32 ≤ length g → plan_on f p t g ≡ plan_meant (head_of_numbers f) (records_in p) t
  unfolding plan_on first_of
  on_enough k m s = rw (ltb_no (length f) frame_numbers k, ltb_no (length p) 128 m, ltb_no (length g) 32 s, plan_on) refl

  -- a plan that is made has a frame and presets that pass
  pub plan_passes : (plan_returned (plan_on f p t g).answer).number ≡ 0 → (frame_numbers ≤ length f) × (128 ≤ length p)
      × (valid_record (head_of_numbers f) (records_in p) ≡ true)
  plan_passes z = go (is (ltb (length f) frame_numbers)) (is (ltb (length p) 128)) (is (ltb (length g) 32))
    where
      never : plan_on f p t g ≡ record { answer = PlanAnswer.refused 0 too_short; table = t } → ⊥
      never q = number_some too_short (sym (ap (λ (o : PlanOutcome). (plan_returned o.answer).number) q) ∙ z)

      go : Is (ltb (length f) frame_numbers) → Is (ltb (length p) 128) → Is (ltb (length g) 32)
          → (frame_numbers ≤ length f) × (128 ≤ length p) × (valid_record (head_of_numbers f) (records_in p) ≡ true)
      go (is_true a) b c = absurd (never (on_short_frame (lt_of (length f) frame_numbers a)))
      go (is_false a) (is_true b) c = absurd (never (on_short_presets (ge_of (length f) frame_numbers a) (lt_of (length p) 128 b)))
      go (is_false a) (is_false b) (is_true c) = absurd (never (on_short_grants (ge_of (length f) frame_numbers a) (ge_of (length p) 128 b) (lt_of (length g) 32 c)))
      go (is_false a) (is_false b) (is_false c) =
          let k = ge_of (length f) frame_numbers a in
          let m = ge_of (length p) 128 b in (
            k,
            m,
            plan_valid (head_of_numbers f) (records_in p) t (sym (ap (λ (o : PlanOutcome). (plan_returned o.answer).number) (on_enough k m (ge_of (length g) 32 c))) ∙ z),
          )

  -- what is answered and left, and what is claimed
  abbrev Done : List ℕ → List ℕ → ℕ → Type 0
  Done t₁ g₁ r = PlanLeaves (plan_on f p t g) g t₁ g₁ r × PlanPromise f p t t₁ r

  plan_stopped : plan_on f p t g ≡ record { answer = PlanAnswer.refused 0 too_short; table = t } → Done t g 8
  unfolding grants_after
  plan_stopped e = (
    subst (λ (o : PlanOutcome). PlanLeaves o g t g 8) (sym e) (record { answer = refl; grants = refl; table = refl }),
    record { unchanged = λ z. refl; claim = plan_claim (head_on f p) t; starts = λ z. absurd (number_some too_short z); running = λ z. absurd (number_some too_short z) },
  )

  pub plan_short : ShortOf f p → Done t g 8
  plan_short (inl s) = plan_stopped (on_short_frame s)
  plan_short (inr s) = plan_stopped (on_short_presets s.0 s.1)

  pub plan_short_grants : frame_numbers ≤ length f → 128 ≤ length p → length g < 32 → Done t g 8
  plan_short_grants k m s = plan_stopped (on_short_grants k m s)

  -- the same whatever the frame and the presets are
  pub plan_few_grants : length g < 32 → Done t g 8
  plan_few_grants s = go (is (ltb (length f) frame_numbers)) (is (ltb (length p) 128))
    where
      go : Is (ltb (length f) frame_numbers) → Is (ltb (length p) 128) → Done t g 8
      go (is_true a) b = plan_short (inl (lt_of (length f) frame_numbers a))
      go (is_false a) (is_true b) = plan_short (inr (ge_of (length f) frame_numbers a, lt_of (length p) 128 b))
      go (is_false a) (is_false b) = plan_short_grants (ge_of (length f) frame_numbers a) (ge_of (length p) 128 b) s

  module _ {t₁ : List ℕ} {x : Result (List ℕ) cause.Refusal} (k : frame_numbers ≤ length f) (m : 128 ≤ length p) (s : 32 ≤ length g) (d : PlanDone (head_of_numbers f) (records_in p) t t₁ x) where
    abbrev meant : PlanOutcome
    meant = plan_meant (head_of_numbers f) (records_in p) t

    started_on : (head_on (started f) p ≡ head_on f p) × (state_on (started f) t₁ ≡ start_of (head_on f p) t₁)
    started_on = (
      ap (λ (h : record-of-head.Head). head_in h (records_in p)) (started_head f),
      ap (λ (c : ℕ). state_of t₁ c (hold_of_numbers (started f))) (started_clock f k) ∙ ap (state_of t₁ first_clock) (started_hold f k),
    )

    plan_done : {g₁ : List ℕ} {r : ℕ} → r ≡ (plan_returned meant.answer).number → g₁ ≡ grants_after meant.answer g → Done t₁ g₁ r
    plan_done {g₁} {r} e b = (
      subst (λ (o : PlanOutcome). PlanLeaves o g t₁ g₁ r) (sym (on_enough k m s)) (record { answer = e; grants = b; table = d.table }),
      record {
        unchanged = λ z. d.table ∙ plan_keeps (head_of_numbers f) (records_in p) t (omega (arith, z, e));
        claim = plan_claim (head_on f p) t;
        starts = λ z. started_on;
        running = λ z.
            rw (started_on.0, started_on.1)
            (subst (λ (u : List ℕ). Running (head_on f p) (start_of (head_on f p) u)) (sym d.table) (plan_runs (head_of_numbers f) (records_in p) t (sym e ∙ z)));
      },
    )

    plan_refused : {c : cause.Refusal} {r : ℕ} → x ≡ Err c → r ≡ number_of (refusal_in c) → Done t₁ g r
    unfolding grants_after
    plan_refused {c} {r} q e =
        let is : meant.answer ≡ PlanAnswer.refused 0 (refusal_in c) = sym d.answer ∙ ap (replied_in (head_of_numbers f).count) q in
        plan_done (e ∙ sym (ap (λ (x : PlanAnswer). (plan_returned x).number) is)) (sym (ap (λ (a : PlanAnswer). grants_after a g) is))

    plan_made : {l g₁ : List ℕ} → x ≡ Ok l → g₁ ≡ sets g 0 l → Done t₁ g₁ 0
    unfolding grants_after
    plan_made {l} {g₁} q e =
        let is : meant.answer ≡ PlanAnswer.granted (take (head_of_numbers f).count l) = sym d.answer ∙ ap (replied_in (head_of_numbers f).count) q in
        let filled_up : l ≡ filled 32 (length (grants_in meant.answer)) (at (grants_in meant.answer)) = rw q at d.grants in
        plan_done (sym (ap (λ (x : PlanAnswer). (plan_returned x).number) is))
        (e
        ∙ ap (sets g 0) filled_up
        ∙ ap (λ (a : PlanAnswer). sets g 0 (filled 32 (length (grants_in a)) (at (grants_in a)))) is
        ∙ sym (ap (λ (a : PlanAnswer). grants_after a g) is))

  -- the same of what was read of the frame and of the presets
  module _ (st : Station) (x : Result (List ℕ) cause.Refusal) {t₁ : List ℕ} (lent : LentStation f p st) (s : 32 ≤ length g) (d : PlanDone st.head st.presets t t₁ x) where
    pub refused_handed : {c : cause.Refusal} {r : ℕ} → x ≡ Err c → r ≡ number_of (refusal_in c) → Done t₁ g r
    refused_handed = plan_refused lent.numbers lent.records s (rw (lent.head, lent.list) at d)

    pub made_handed : {l g₁ : List ℕ} → x ≡ Ok l → g₁ ≡ sets g 0 l → Done t₁ g₁ 0
    made_handed = plan_made lent.numbers lent.records s (rw (lent.head, lent.list) at d)
