-- `plan_by_value`, law by law.
--
-- In order: an array that is filled, as a list (`filled_list`); the table that the code
-- writes (`plan_written`); the outcome, case by case (`meant-..`, `plan-..`), and a law for each answer (`plan_refused`, `plan_done`).
-- Assumes nothing.
use Prim.Native.Nat.{ℕ, ◌+◌, ◌-◌, ◌*◌, ◌/◌, ◌%◌, ◌≤◌, ◌<◌}
use native.Mathlib.Omega.{arith}
use mathlib.Core.Path.{◌≡◌, refl, sym, ◌∙◌, ap, ap₂}
use mathlib.Core.Bool.{true, false, not}
use mathlib.Core.Option.{none, some}
use mathlib.Core.List.{List, [], ◌∷◌, ◌++◌}
use lib.ListN.{get_or, length, take, drop, replicate, length-drop, length-replicate, get_or-append, get_or-replicate}
use Rattle.std.proofs.lemmas.List.{length-append}
use Rattle.std.proofs.lemmas.Slice.{drop-append-drop}
use lib.Dec.{ltb}
use Rattle.laws.specs.Lists.{at, tabulate}
use Rattle.laws.proofs.Tests.{not_is_true, not_is_false}
use Rattle.laws.proofs.Comparisons.{ltb_yes, ltb_no}
use Rattle.laws.proofs.Lists.{length_tabulate, at_tabulate}
use Rattle.station.specs.Head.{Head, Preset, preset_at, has_bit}
use Rattle.station.specs.Refusal.{Refusal, out_of_limits, too_short, mandatory_not_feasible, try, first_of}
use Rattle.station.proofs.Theorems.{first_of_none, passed, append_none, cause_last}
use Rattle.station.specs.Types.{head_in, valid_record, refusal_in}
use Rattle.station.specs.declared.types.Preset as record-of-preset
use Rattle.station.specs.declared.types.Head as record-of-head
use Rattle.station.specs.declared.types.Refusal as cause
use Rattle.station.specs.declared.types.Refusal.TheVariants.{OutOfLimits, MandatoryNotFeasible, TooShort}
use Rattle.placing.specs.Table.{busy_cell, Each, cell, preset_count, mandatory_cell, optional_cell}
use Rattle.placing.specs.Plan.{plan_free_count, mandatories, plan_free, plan_fits, needs, grants, tie_of, planned}
use Rattle.placing.specs.method.Records.{record_at}
use Rattle.placing.specs.method.Grants.{free_masks, GrantedTo, GrantRefused, invalid, full}
use Rattle.laws.proofs.Counts.{count_ext}
use Rattle.placing.proofs.FreeNumber.{plan_free_is}
use Rattle.placing.proofs.MaskBits.{has_bit_mask}
use Rattle.placing.specs.method.Rule.{free_in, Fillable, placed_in, placed_within}
use Rattle.placing.specs.Outcomes.{PlanAnswer, PlanOutcome, plan_causes, plan_of, written}
use Rattle.placing.specs.Causes.{causes_of}
use Rattle.placing.specs.PlanDone.{plan_meant, PlanDone, grants_in}
use Rattle.placing.specs.declared.grants.Granted as answer
use Rattle.std.specs.Prelude.{Ok, Err}
use Rattle.placing.proofs.Causes.{met, record_causes, no_record_cause}
use Rattle.placing.proofs.check.FrameCauses.{causes_none}
use Rattle.placing.proofs.PlanTheorem.{at_mandatories}
use Rattle.placing.proofs.rule.SlotsPlaced.{is_placeable}
use Rattle.placing.proofs.rule.SlotsPlaced.{frame_within, placed_within_lem}
use Rattle.placing.proofs.WrittenTable.{place_below}
use Rattle.placing.proofs.rule.PlacedFrame.{placed_planned}
use Rattle.placing.proofs.HeadRecord.{count_high, record_valid, presets_count, preset_of_lem}
use Rattle.placing.proofs.grants.Computed.{free_at, granted_at, granted_needs, needs_length, needs_high}
use Rattle.placing.proofs.grants.Arrays.{filled_at, filled_ext, take_filled}
use Rattle.placing.specs.Types.{filled}

-- ---- an array that is filled, as a list

pub filled_list : (m n : ℕ) (f : ℕ → ℕ) → filled m n f ≡ filled m (length (tabulate n f)) (at (tabulate n f))
filled_list m n f =
    filled_ext m n f (at (tabulate n f)) (λ i l. sym (at_tabulate n f i l))
    ∙ ap (λ (k : ℕ). filled m k (at (tabulate n f))) (sym (length_tabulate n f))

-- ---- the table that the code writes

module _ (head : record-of-head.Head) (ps : List record-of-preset.Preset) (long : length ps ≡ 32) (v : valid_record head ps ≡ true)
    (r : answer.Granted) (g : GrantedTo (head_in head ps) r) where
  abbrev h : Head
  h = head_in head ps

  same : preset_count h ≡ head.count
  same = presets_count head ps (omega (arith, long, count_high head ps v))

  few : preset_count h ≤ 32
  few = omega (arith, same, count_high head ps v)

  -- what stands in an array filled from the preset records
  of_preset : (f : Preset → ℕ) (p : record-of-preset.Preset → ℕ) → ((i : ℕ) → i < head.count → p (record_at ps i) ≡ f (preset_at h i))
      → {l : List ℕ} → l ≡ filled 64 head.count (λ i. p (record_at ps i)) → (i : ℕ) → i < preset_count h → at l i ≡ f (preset_at h i)
  of_preset f p agree {l} e i m =
      let k : i < head.count = omega (arith, same) in
      ap (λ (q : List ℕ). at q i) e ∙ filled_at 64 head.count (λ j. p (record_at ps j)) i k (omega (arith, count_high head ps v)) ∙ agree i k

  -- no slot gets more presets than it has free bridges
  pub plan_fillable : (counts : List ℕ) {masks : List ℕ} → masks ≡ free_masks head.slots head.bridges head.busy → ((s : ℕ) → s < head.slots → get_or counts s 0 ≡ plan_free_count h s)
      → Fillable head.slots head.bridges masks counts
  plan_fillable counts {masks} em ec s l =
      omega (
        arith,
        ec s l,
        plan_free_is h s,
        count_ext head.bridges (free_in masks s) (λ b. plan_free h s b)
            (λ b m. ap (λ (q : List ℕ). has_bit (at q s) b) em ∙ ap (λ (n : ℕ). has_bit n b) (free_at head ps s (record_valid head ps v).slots_high l) ∙ has_bit_mask head.bridges (λ a. plan_free h s a) b m),
      )

  pub plan_written : (t counts : List ℕ) {u masks first early late : List ℕ} → 512 ≤ length t
      → u ≡ replicate (head.slots * head.bridges) busy_cell ++ drop (head.slots * head.bridges) t
      → masks ≡ free_masks head.slots head.bridges head.busy
      → ((s : ℕ) → s < head.slots → get_or counts s 0 ≡ plan_free_count h s)
      → first ≡ filled 64 head.count (λ i. (record_at ps i).mandatory)
      → early ≡ filled 64 head.count (λ i. 512 + (record_at ps i).number)
      → late ≡ filled 64 head.count (λ i. 768 + (record_at ps i).number)
      → placed_within (tie_of h.hold) head.slots head.bridges masks counts r.needs head.count first early late u ≡ written h (planned (tie_of h.hold) h) t
  unfolding written
  plan_written t counts {u} {masks} {first} {early} {late} enough eu em ec ef ee el =
      placed_within_lem (tie_of h.hold) head.slots head.bridges masks counts r.needs head.count first early late u
      (is_placeable head.slots head.bridges r.needs head.count (length u) (record_valid head ps v).slots_high (record_valid head ps v).bridges_high
      (omega (arith, count_high head ps v)) (omega (arith, enough, within, ap length eu, length-append (replicate (head.slots * head.bridges) busy_cell) (drop (head.slots * head.bridges) t), long_busy, length-drop (head.slots * head.bridges) t)) low)
      ∙ ap (λ (c : List ℕ). placed_in (tie_of h.hold) head.slots head.bridges masks counts c first early late u) needs_are
      ∙ placed_planned (tie_of h.hold) h masks counts first early late u (needs_length h r g few)
      (λ s l. ap (λ (q : List ℕ). at q s) em ∙ free_at head ps s (record_valid head ps v).slots_high l) ec
      (of_preset (λ (p : Preset). p.mandatory) (λ (p : record-of-preset.Preset). p.mandatory) (λ i l. ap (λ (p : Preset). p.mandatory) (sym (preset_of_lem head ps i l))) ef)
      (of_preset (λ (p : Preset). mandatory_cell p.number) (λ (p : record-of-preset.Preset). 512 + p.number) (λ i l. ap (λ (p : Preset). mandatory_cell p.number) (sym (preset_of_lem head ps i l))) ee)
      (of_preset (λ (p : Preset). optional_cell p.number) (λ (p : record-of-preset.Preset). 768 + p.number) (λ i l. ap (λ (p : Preset). optional_cell p.number) (sym (preset_of_lem head ps i l))) el)
      busy
      ∙ ap (λ (q : List ℕ). front ++ q) (ap (drop (head.slots * head.bridges)) eu ∙ drop-append-drop (head.slots * head.bridges) t (replicate (head.slots * head.bridges) busy_cell) (head.slots * head.bridges) (omega arith) long_busy)
    where
      within : head.slots * head.bridges ≤ 512
      within = frame_within head.slots head.bridges (record_valid head ps v).slots_high (record_valid head ps v).bridges_high

      long_busy : length (replicate (head.slots * head.bridges) busy_cell) ≡ head.slots * head.bridges
      long_busy = length-replicate (head.slots * head.bridges) busy_cell

      low : (i : ℕ) → i < head.count → at r.needs i ≤ 64
      low i l =
          let m : i < preset_count h = omega (arith, same) in
          omega (arith, granted_at h r g few i m, needs_high h g.fits i m, (record_valid head ps v).slots_high)

      needs_are : take head.count r.needs ≡ needs h
      needs_are = ap (λ (k : ℕ). take k r.needs) (sym same) ∙ granted_needs h r g few

      front : List ℕ
      front = tabulate (h.slots * h.bridges) (λ i. planned (tie_of h.hold) h (i / h.bridges) (i % h.bridges))

      busy : Each h (λ s b. plan_free h s b ≡ false → cell h u s b ≡ busy_cell)
      busy s b ls lb e =
          ap (λ (q : List ℕ). at q (s * head.bridges + b)) eu
          ∙ get_or-append (replicate (head.slots * head.bridges) busy_cell) (drop (head.slots * head.bridges) t) 0 (s * head.bridges + b) (omega (arith, inside, long_busy))
          ∙ get_or-replicate (head.slots * head.bridges) (s * head.bridges + b) busy_cell 0 inside
        where
          inside : s * head.bridges + b < head.slots * head.bridges
          inside = place_below head.slots head.bridges s b ls lb

  -- the array of the grants
  pub grants_are : {n m l : List ℕ} → n ≡ r.needs → m ≡ filled 64 head.count (λ i. (record_at ps i).mandatory)
      → l ≡ filled 32 head.count (λ i. at n i - at m i) → l ≡ filled 32 head.count (λ i. at (needs h) i - at (mandatories h) i)
  grants_are {n} {m} {l} en em el =
      el
      ∙ filled_ext 32 head.count (λ i. at n i - at m i) (λ i. at (needs h) i - at (mandatories h) i)
      (λ i k.
      let j : i < preset_count h = omega (arith, same) in
      ap₂ ◌-◌
      (ap (λ (q : List ℕ). at q i) en ∙ granted_at h r g few i j)
      (of_preset (λ (p : Preset). p.mandatory) (λ (p : record-of-preset.Preset). p.mandatory) (λ a b. ap (λ (p : Preset). p.mandatory) (sym (preset_of_lem head ps a b))) em i j
      ∙ sym (at_mandatories h i)))

  pub grants_done : {l : List ℕ} → l ≡ filled 32 head.count (λ i. at (needs h) i - at (mandatories h) i)
      → (take head.count l ≡ grants h) × (l ≡ filled 32 (length (grants h)) (at (grants h)))
  unfolding grants
  grants_done {l} e = (
    ap (take head.count) e ∙ take_filled 32 head.count f (count_high head ps v) ∙ ap (λ (k : ℕ). tabulate k f) (sym same),
    e ∙ ap (λ (k : ℕ). filled 32 k f) (sym same) ∙ filled_list 32 (preset_count h) f,
  )
    where
      f : ℕ → ℕ
      f i = at (needs h) i - at (mandatories h) i

-- ---- the outcome, case by case

abbrev refused_by : cause.Refusal → List ℕ → PlanOutcome
refused_by q t = record { answer = PlanAnswer.refused 0 (refusal_in q); table = t }

module _ (h : Head) (t : List ℕ) where
  plan_stopped : (r : Refusal) → first_of (plan_causes h t) ≡ some r → plan_of h t ≡ record { answer = PlanAnswer.refused 0 r; table = t }
  unfolding plan_of
  plan_stopped r e = rw (e, plan_of) refl

  plan_passed : first_of (plan_causes h t) ≡ none → plan_of h t ≡ record { answer = PlanAnswer.granted (grants h); table = written h (planned (tie_of h.hold) h) t }
  unfolding plan_of
  plan_passed e = rw (e, plan_of) refl

module _ (head : record-of-head.Head) (ps : List record-of-preset.Preset) (t : List ℕ) where
  abbrev h' : Head
  h' = head_in head ps

  meant_stopped : (r : Refusal) → first_of (causes_of head ps t) ≡ some r → plan_meant head ps t ≡ record { answer = PlanAnswer.refused 0 r; table = t }
  unfolding plan_meant
  meant_stopped r e = rw (e, plan_meant) refl

  meant_passed : first_of (causes_of head ps t) ≡ none → plan_meant head ps t ≡ plan_of h' t
  unfolding plan_meant
  meant_passed e = rw (e, plan_meant) refl

  pub meant_short : length t < 512 → plan_meant head ps t ≡ refused_by TooShort t
  meant_short l = meant_stopped too_short (met too_short (ltb (length t) 512) _ (ltb_yes (length t) 512 l))

  -- a table that is long enough
  module _ (l : 512 ≤ length t) where
    eight : ltb (length t) 512 ≡ false
    eight = ltb_no (length t) 512 l

    pub meant_invalid : valid_record head ps ≡ false → plan_meant head ps t ≡ refused_by OutOfLimits t
    meant_invalid v =
        meant_stopped out_of_limits (passed too_short (ltb (length t) 512) _ eight ∙ met out_of_limits (not (valid_record head ps)) [] (not_is_true _ v))

    -- and a head record that some text yields
    module _ (v : valid_record head ps ≡ true) where
      meant_plan : plan_meant head ps t ≡ plan_of h' t
      meant_plan = meant_passed (causes_none head ps t l v)

      before_five : first_of (record_causes h' t) ≡ none
      before_five = no_record_cause h' t l (record_valid head ps v)

      pub meant_full : plan_fits h' (mandatories h') ≡ false → plan_meant head ps t ≡ refused_by MandatoryNotFeasible t
      meant_full f =
          meant_plan
          ∙ plan_stopped h' t mandatory_not_feasible
          (cause_last (record_causes h' t) mandatory_not_feasible (not (plan_fits h' (mandatories h'))) before_five (not_is_true _ f))

      pub meant_granted : plan_fits h' (mandatories h') ≡ true
          → plan_meant head ps t ≡ record { answer = PlanAnswer.granted (grants h'); table = written h' (planned (tie_of h'.hold) h') t }
      meant_granted f =
          meant_plan
          ∙ plan_passed h' t
          (append_none (record_causes h' t) (try mandatory_not_feasible (not (plan_fits h' (mandatories h'))) ∷ []) before_five
          ∙ passed mandatory_not_feasible (not (plan_fits h' (mandatories h'))) [] (not_is_false _ f)
          ∙ first_of_none)

-- ---- a law for each answer

module _ (head : record-of-head.Head) (ps : List record-of-preset.Preset) (t : List ℕ) where
  pub plan_refused : {q : cause.Refusal} → plan_meant head ps t ≡ refused_by q t → PlanDone head ps t t (Err q)
  plan_refused e =
      record {
        answer = sym (ap (λ (o : PlanOutcome). o.answer) e);
        grants = tt;
        table = sym (ap (λ (o : PlanOutcome). o.table) e);
      }

  pub plan_not_granted : {q : cause.Refusal} → 512 ≤ length t → GrantRefused head ps q → PlanDone head ps t t (Err q)
  plan_not_granted l (invalid v) = plan_refused (meant_invalid head ps t l v)
  plan_not_granted l (full v f) = plan_refused (meant_full head ps t l v f)

  pub plan_done : {u g : List ℕ}
      → plan_meant head ps t
      ≡ record { answer = PlanAnswer.granted (grants (head_in head ps)); table = written (head_in head ps) (planned (tie_of (head_in head ps).hold) (head_in head ps)) t }
      → take head.count g ≡ grants (head_in head ps)
      → g ≡ filled 32 (length (grants (head_in head ps))) (at (grants (head_in head ps)))
      → u ≡ written (head_in head ps) (planned (tie_of (head_in head ps).hold) (head_in head ps)) t → PlanDone head ps t u (Ok g)
  plan_done {u} e q l w =
      record {
        answer = ap PlanAnswer.granted q ∙ sym (ap (λ (o : PlanOutcome). o.answer) e);
        grants = l ∙ sym (ap (λ (o : PlanOutcome). filled 32 (length (grants_in o.answer)) (at (grants_in o.answer))) e);
        table = w ∙ sym (ap (λ (o : PlanOutcome). o.table) e);
      }
