-- The plan theorem: the mandatory slots fit exactly if a valid plan exists; the table of the plan is one, it grants each preset what the rule says,
-- and no valid plan gives the first presets by rank more. All this for every order of ties.
--
-- In order: when needs fit; the needs of a well-formed table fit (`plan_fits_of_valid`); the stages of the grants; what the planned cells hold
-- and how many a preset has (`planned_valid`, `planned_optional`), who has a cell in each slot (`planned_rule`); best for every number of ranks (`planned_best`); document 01's rule of the
-- grants (`grants_rule`), which leaves no choice (`grants_only`).
-- Assumes nothing.
use Prim.Native.Nat.{ℕ, zero, suc, ◌+◌, ◌-◌, ◌≤◌, ◌<◌}
use native.Mathlib.Nat.{le_refl, lt_of_not-le}
use native.Mathlib.Omega.{arith}
use mathlib.Core.Path.{◌≡◌, refl, sym, ◌∙◌, ap, subst}
use mathlib.Core.Logic.{◌⊎◌, inl, inr, ◌↔◌}
use mathlib.Core.Bool.{Bool, true, false, not, ◌&&◌, ◌||◌, cond, and-true}
use mathlib.Core.List.{List}
use lib.ListN.{length, length-map, length-set, get_or-map}
use lib.Seq.{ext_get_or}
use lib.Dec.{ltb, eqb}
use Rattle.laws.specs.Sums.{bit, only, sum, count}
use Rattle.laws.specs.Lists.{at}
use Rattle.laws.specs.Placement.{Criterion, everywhere, capacity, Ties, TotalTies, tie_place, nobody, lrtf}
use Rattle.laws.specs.Grants.{granted, raised}
use Rattle.laws.proofs.Tests.{Is, is_true, is_false, is, clash, not-true, left_of, right_of, false_of_not, true_of_not, or_cases, fails_right}
use Rattle.laws.proofs.Comparisons.{lt_of, ge_of, eq_of, eqb_self, ne_of, ltb_no, eqb_yes, eqb_no}
use Rattle.laws.proofs.Sums.{sum_ext, sum_add, sum_two}
use Rattle.laws.proofs.Counts.{bit_le, count_ext, count_imp, count_none, bit_pos, count_some, count_split, count_or, count_once, count_le_bit}
use Rattle.laws.proofs.Lists.{length_tabulate, at_tabulate, tabulate_ext}
use Rattle.laws.proofs.Order.{position_below, position_injective, ascending_total, place_total}
use Rattle.laws.proofs.Placement.{criterion_less, criterion_of_placed, excess_of_criterion, broken_of_excess, criterion_of_excess, left_got, fits_placed}
use Rattle.laws.proofs.Placement.{placed_fits, lrtf_step, shown_rule}
use Rattle.laws.proofs.Cells.{count_below, count_first, cells_within, placed_of_cells}
use Rattle.laws.proofs.Grants.{at_raised, at_raised_other, Premises, granted_long, granted_fits, granted_later, granted_since, granted_most, granted_low}
use Rattle.laws.proofs.Grants.{granted_high, granted_best}
use Rattle.station.specs.Head.{Head, Preset, Valid, busy_at, preset_at, no_preset}
use Rattle.placing.specs.Table.{Cells, Each, WellFormed, holding, kind_of, number_in, busy_cell, mandatory_cell, optional_cell, call_cell, is_busy}
use Rattle.placing.specs.Table.{is_mandatory, is_optional, is_call, is_held, preset_count, number_at, has_preset, has_job, held_cells, motors}
use Rattle.placing.specs.Valid.{ValidPlan, optional_of}
use Rattle.placing.specs.Plan.{rank, mandatories, optionals, plan_free, plan_free_count, plan_fits, PlanFeasible, need_with, needs_with, GrantRule}
use Rattle.placing.specs.Plan.{needs, needs_from, grants, plan_cell, planned}
use Rattle.placing.specs.Claims.{cells_of_preset, PresetsRule}
use Rattle.placing.proofs.CountedCells.{cells_none, is_busy_no, number_in_mandatory, number_in_optional, has_preset_of, number_at_low, number_at_lt}
use Rattle.placing.proofs.CountedCells.{index_unique, kind_of_mandatory, kind_test}
use Rattle.placing.proofs.FreeNumber.{held_mandatory, held_optional, plan_free_is}
use Rattle.placing.proofs.Placing.{PlacedCell, kept, unused, written, placing_cases, placing_count, placing_job}

-- ---- when needs fit

module _ (h : Head) where
  -- `plan_fits` is the criterion
  pub plan_fits_is : (m : List ℕ) → length m ≡ preset_count h → (plan_fits h m ≡ true) ↔ Criterion (preset_count h) (at m) h.slots (plan_free_count h)
  plan_fits_is m long =
      subst (λ (k : ℕ). (plan_fits h m ≡ true) ↔ Criterion k (at m) h.slots (plan_free_count h)) long (
        (λ e. criterion_of_excess (length m) (at m) h.slots (plan_free_count h) (eq_of _ 0 e)),
        (λ f. eqb_yes _ 0 (excess_of_criterion (length m) (at m) h.slots (plan_free_count h) f)),
      )

  -- needs that do not fit have a selection that breaks it
  plan_fits_no : (m : List ℕ) → length m ≡ preset_count h → plan_fits h m ≡ false
      → (p : ℕ → Bool) × (capacity h.slots (plan_free_count h) (count (preset_count h) p) < sum (preset_count h) (λ i. only (p i) (at m i)))
  plan_fits_no m long e =
      subst (λ (k : ℕ). (p : ℕ → Bool) × (capacity h.slots (plan_free_count h) (count k p) < sum k (λ i. only (p i) (at m i)))) long
      (broken_of_excess (length m) (at m) h.slots (plan_free_count h) (ne_of _ 0 e))

  pub plan_fits_less : (m n : List ℕ) → length m ≡ preset_count h → length n ≡ preset_count h → ((i : ℕ) → i < preset_count h → at m i ≤ at n i)
      → plan_fits h n ≡ true → plan_fits h m ≡ true
  plan_fits_less m n lm ln less e =
      (plan_fits_is m lm).1 (criterion_less (preset_count h) (at m) (at n) h.slots (plan_free_count h) less ((plan_fits_is n ln).0 e))

  pub mandatories_long : length (mandatories h) ≡ preset_count h
  mandatories_long = length-map h.presets _

  pub at_mandatories : (i : ℕ) → at (mandatories h) i ≡ (preset_at h i).mandatory
  at_mandatories i = get_or-map (λ (p : Preset). p.mandatory) h.presets i no_preset

  pub at_optionals : (i : ℕ) → at (optionals h) i ≡ (preset_at h i).optional
  at_optionals i = get_or-map (λ (p : Preset). p.optional) h.presets i no_preset

  pub rank_below : (i : ℕ) → i < preset_count h → rank h i < preset_count h
  rank_below i l = position_below (ascending_total (λ j. (preset_at h j).priority)) (preset_count h) l

  pub rank_injective : (i j : ℕ) → i < preset_count h → j < preset_count h → rank h i ≡ rank h j → i ≡ j
  rank_injective = position_injective (ascending_total (λ j. (preset_at h j).priority)) (preset_count h)

-- ---- the needs of a well-formed table fit

-- the value of a cell of the preset of line i
abbrev PresetValue : Head → ℕ → ℕ → Type 0
PresetValue h i v = (v ≡ mandatory_cell (number_at h i)) ⊎ (v ≡ optional_cell (number_at h i))

module _ (h : Head) (valid : Valid h) (u : Cells) (w : WellFormed h u) where
  -- cell b of slot s is one of the preset of line i
  own : ℕ → ℕ → ℕ → Bool
  own i s b = eqb (u s b) (mandatory_cell (number_at h i)) || eqb (u s b) (optional_cell (number_at h i))

  own_cell : (i s b : ℕ) → own i s b ≡ true → PresetValue h i (u s b)
  unfolding own
  own_cell i s b e = go (or_cases _ _ e)
    where
      go : (eqb (u s b) (mandatory_cell (number_at h i)) ≡ true) ⊎ (eqb (u s b) (optional_cell (number_at h i)) ≡ true)
          → PresetValue h i (u s b)
      go (inl d) = inl (eq_of _ _ d)
      go (inr d) = inr (eq_of _ _ d)

  own_number : (i s b : ℕ) → i < preset_count h → own i s b ≡ true → number_in (u s b) ≡ number_at h i
  own_number i s b l e = go (own_cell i s b e)
    where
      go : PresetValue h i (u s b) → number_in (u s b) ≡ number_at h i
      go (inl d) = ap number_in d ∙ number_in_mandatory (number_at h i) (number_at_lt h valid i l)
      go (inr d) = ap number_in d ∙ number_in_optional (number_at h i) (number_at_lt h valid i l)

  own_free : (i s b : ℕ) → s < h.slots → b < h.bridges → own i s b ≡ true → plan_free h s b ≡ true
  own_free i s b l m e = ap not (sym (w.busy s b l m) ∙ eqb_no (u s b) busy_cell (λ d. go d (own_cell i s b e)))
    where
      go : u s b ≡ busy_cell → PresetValue h i (u s b) → ⊥
      go d (inl c) = omega arith
      go d (inr c) = omega arith

  own_row : (i s : ℕ) → i < preset_count h → s < h.slots → count h.bridges (λ b. own i s b) ≤ 1
  own_row i s l m =
      count_once h.bridges (λ b. own i s b)
      (λ a b r z d e. omega (
        arith,
        number_at_low h valid i l,
        own_number i s b l e,
        w.once s a b m r z (own_number i s a l d ∙ sym (own_number i s b l e)),
      ))

  own_single : (c : Bool) (s b : ℕ) → ((i : ℕ) → i < preset_count h → own i s b ≡ true → c ≡ true) → count (preset_count h) (λ i. own i s b) ≤ bit c
  own_single c s b =
      count_le_bit (preset_count h) (λ i. own i s b) c
      (λ i j r z d e. omega (arith, index_unique h valid i j (omega arith) z (sym (own_number i s b (omega arith) d) ∙ own_number j s b z e)))

  own_held : (i s b : ℕ) → i < preset_count h → own i s b ≡ true → is_held (u s b) ≡ true
  own_held i s b l e = go (own_cell i s b e)
    where
      go : PresetValue h i (u s b) → is_held (u s b) ≡ true
      go (inl d) = held_mandatory (u s b) (eqb_yes (kind_of (u s b)) 2 (ap kind_of d ∙ kind_of_mandatory (number_at h i) (number_at_lt h valid i l)))
      go (inr d) = held_optional (u s b) (ap is_optional d ∙ kind_test 3 3 (number_at h i) (number_at_lt h valid i l))

  -- the presets' cells of a slot are at most its free number: none is busy, and the supply feeds them all
  own_slot_lem : (s : ℕ) → s < h.slots → sum (preset_count h) (λ i. count h.bridges (λ b. own i s b)) ≤ plan_free_count h s
  own_slot_lem s l =
      omega (
        arith,
        cells_within (preset_count h) h.bridges (λ i b. own i s b) (λ b. plan_free h s b) (λ b m. own_single (plan_free h s b) s b (λ i r. own_free i s b l m)),
        cells_within (preset_count h) h.bridges (λ i b. own i s b) (λ b. is_held (u s b)) (λ b m. own_single (is_held (u s b)) s b (λ i r. own_held i s b r)),
        w.supplied s l,
        plan_free_is h s,
      )

  own_count : (i : ℕ) → i < preset_count h → sum h.slots (λ s. count h.bridges (λ b. own i s b)) ≡ (preset_at h i).mandatory + optional_of h u i
  unfolding own
  own_count i l =
      sum_ext h.slots (λ s. count h.bridges (λ b. own i s b)) (λ s. firsts s + rests s) slot
      ∙ sum_add h.slots firsts rests
      ∙ ap (λ (m : ℕ). m + optional_of h u i) (w.exact i l)
    where
      first : ℕ → ℕ → Bool
      first s b = eqb (u s b) (mandatory_cell (number_at h i))

      rest : ℕ → ℕ → Bool
      rest s b = eqb (u s b) (optional_cell (number_at h i))

      firsts : ℕ → ℕ
      firsts s = count h.bridges (λ b. first s b)

      rests : ℕ → ℕ
      rests s = count h.bridges (λ b. rest s b)

      apart : (s b : ℕ) → first s b ≡ true → rest s b ≡ false
      apart s b e = let c : u s b ≡ mandatory_cell (number_at h i) = eq_of _ _ e in eqb_no (u s b) (optional_cell (number_at h i)) (λ d. omega arith)

      slot : (s : ℕ) → s < h.slots → count h.bridges (λ b. own i s b) ≡ firsts s + rests s
      slot s m = count_or h.bridges (λ b. first s b) (λ b. rest s b) (λ b z. apart s b)

  -- what a table gives its presets obeys the criterion
  pub well_formed_criterion : Criterion (preset_count h) (λ i. (preset_at h i).mandatory + optional_of h u i) h.slots (plan_free_count h)
  well_formed_criterion =
      criterion_of_placed (placed_of_cells everywhere (preset_count h) h.slots h.bridges own (plan_free_count h)
      (λ i. (preset_at h i).mandatory + optional_of h u i) own_row own_slot_lem own_count (λ i s l m e. refl))

-- so the mandatory slots are refused only where no valid plan exists
pub plan_fits_of_valid : {h : Head} {u : Cells} → Valid h → ValidPlan h u → plan_fits h (mandatories h) ≡ true
plan_fits_of_valid {h} {u} valid p =
    (plan_fits_is h (mandatories h) (mandatories_long h)).1
    (criterion_less (preset_count h) (at (mandatories h)) (λ i. (preset_at h i).mandatory + optional_of h u i) h.slots (plan_free_count h)
    (λ i l. omega (arith, at_mandatories h i)) (well_formed_criterion h valid u p.well_formed))

-- ---- the stages of the grants

-- the needs after the first r ranks
abbrev pub stage : Head → ℕ → List ℕ
stage h r = granted (plan_fits h) (rank h) (optionals h) (mandatories h) r

-- what the laws of the grants ask for
premises : (h : Head) → plan_fits h (mandatories h) ≡ true
    → Premises (preset_count h) h.slots (plan_free_count h) (plan_fits h) (rank h) (mandatories h)
premises h start =
    record { fits_is = plan_fits_is h; fits_no = plan_fits_no h; injective = rank_injective h; long = mandatories_long h; start = start }

-- what is known of each stage
module _ (h : Head) (start : plan_fits h (mandatories h) ≡ true) where
  pub stage_long : (r : ℕ) → length (stage h r) ≡ preset_count h
  stage_long = granted_long (premises h start) (optionals h)

  pub stage_fits : (r : ℕ) → plan_fits h (stage h r) ≡ true
  stage_fits = granted_fits (premises h start) (optionals h)

  pub stage_later : (r i : ℕ) → r ≤ rank h i → at (stage h r) i ≡ at (mandatories h) i
  stage_later = granted_later (premises h start) (optionals h)

-- ---- the planned cells

-- the preset of line i has a cell in slot s; it is one of its first, the mandatory ones; what it then holds
abbrev had : Ties → Head → ℕ → ℕ → Bool
had ties h i s = lrtf ties nobody (needs h) (plan_free_count h) i s

abbrev early : Ties → Head → ℕ → ℕ → Bool
early ties h i s = ltb (count s (λ r. had ties h i r)) (preset_at h i).mandatory

abbrev preset_cell : Head → ℕ → Bool → ℕ
preset_cell h i e = cond e (mandatory_cell (number_at h i)) (optional_cell (number_at h i))

-- what a cell of the plan holds
data PlannedCell (ties : Ties) (h : Head) (s b w : ℕ) : Type 0 where
  busy : busy_at h s b ≡ true → w ≡ busy_cell → PlannedCell ties h s b w
  empty : busy_at h s b ≡ false → w ≡ 0 → PlannedCell ties h s b w
  preset : busy_at h s b ≡ false → (i : ℕ) → i < preset_count h → had ties h i s ≡ true → w ≡ preset_cell h i (early ties h i s) → PlannedCell ties h s b w

-- as many of its cells stand before slot s as its need has fallen
plan_cell_is : (ties : Ties) (h : Head) (i s : ℕ) → plan_cell ties h (needs h) i s ≡ preset_cell h i (early ties h i s)
plan_cell_is ties h i s =
    ap (λ (n : ℕ). preset_cell h i (ltb n (preset_at h i).mandatory)) (omega (arith, left_got ties nobody (needs h) (plan_free_count h) i s))

module _ (h : Head) (i : ℕ) where
  preset_cell_mandatory : (e : Bool) → eqb (preset_cell h i e) (mandatory_cell (number_at h i)) ≡ e
  preset_cell_mandatory true = eqb_self (mandatory_cell (number_at h i))
  preset_cell_mandatory false = eqb_no (optional_cell (number_at h i)) (mandatory_cell (number_at h i)) (λ q. omega arith)

  preset_cell_optional : (e : Bool) → eqb (preset_cell h i e) (optional_cell (number_at h i)) ≡ not e
  preset_cell_optional true = eqb_no (mandatory_cell (number_at h i)) (optional_cell (number_at h i)) (λ q. omega arith)
  preset_cell_optional false = eqb_self (optional_cell (number_at h i))

module _ (h : Head) (valid : Valid h) (i : ℕ) (l : i < preset_count h) where
  preset_cell_number : (e : Bool) → number_in (preset_cell h i e) ≡ number_at h i
  preset_cell_number true = number_in_mandatory (number_at h i) (number_at_lt h valid i l)
  preset_cell_number false = number_in_optional (number_at h i) (number_at_lt h valid i l)

  preset_cell_kind : (e : Bool) → (2 ≤ kind_of (preset_cell h i e)) × (kind_of (preset_cell h i e) ≤ 3)
  preset_cell_kind true = let n = number_at_lt h valid i l in (omega arith, omega arith)
  preset_cell_kind false = let n = number_at_lt h valid i l in (omega arith, omega arith)

module _ (h : Head) (valid : Valid h) (start : plan_fits h (mandatories h) ≡ true) where
  -- every preset has its need
  pub needs_long : length (needs h) ≡ preset_count h
  unfolding needs_from
  needs_long = granted_long (premises h start) (optionals h) (preset_count h)

-- the table of the plan, whatever the order of ties
module _ (ties : Ties) (o : TotalTies ties) (h : Head) (valid : Valid h) (start : plan_fits h (mandatories h) ≡ true) where
  planned_cases : (s b : ℕ) → PlannedCell ties h s b (planned ties h s b)
  unfolding planned
  planned_cases s b = go (placing_cases (length (needs h)) (plan_free h) (λ i r. had ties h i r) (plan_cell ties h (needs h)) (λ s b. busy_cell) s b)
    where
      go : {w : ℕ} → PlacedCell (length (needs h)) (plan_free h) (λ i r. had ties h i r) (plan_cell ties h (needs h)) (λ s b. busy_cell) s b w → PlannedCell ties h s b w
      go (kept e q) = busy (true_of_not (busy_at h s b) e) q
      go (unused e q) = empty (false_of_not (busy_at h s b) e) q
      go (written e i l d q) = preset (false_of_not (busy_at h s b) e) i (omega (arith, needs_long h valid start)) d (q ∙ plan_cell_is ties h i s)

  -- nothing but busy cells, empty ones and presets' cells
  planned_kind : (s b : ℕ) → kind_of (planned ties h s b) ≤ 3
  planned_kind s b = go (planned_cases s b)
    where
      go : {w : ℕ} → PlannedCell ties h s b w → kind_of w ≤ 3
      go (busy e q) = omega arith
      go (empty e q) = omega arith
      go (preset e i l d q) = omega (arith, (preset_cell_kind h valid i l (early ties h i s)).1)

  planned_plain : (s b : ℕ) → kind_of (planned ties h s b) ≤ 1 → number_in (planned ties h s b) ≡ 0
  planned_plain s b = go (planned_cases s b)
    where
      go : {w : ℕ} → PlannedCell ties h s b w → kind_of w ≤ 1 → number_in w ≡ 0
      go (busy e q) k = omega arith
      go (empty e q) k = omega arith
      go (preset e i l d q) k = absurd (omega (arith, (preset_cell_kind h valid i l (early ties h i s)).0, ap kind_of q))

  planned_busy : (s b : ℕ) → is_busy (planned ties h s b) ≡ busy_at h s b
  planned_busy s b = go (planned_cases s b)
    where
      go : {w : ℕ} → PlannedCell ties h s b w → is_busy w ≡ busy_at h s b
      go (busy e q) = eqb_yes _ busy_cell q ∙ sym e
      go (empty e q) = ap is_busy q ∙ sym e
      go {w} (preset e i l d q) = is_busy_no w (omega (arith, (preset_cell_kind h valid i l (early ties h i s)).0, ap kind_of q)) ∙ sym e

  planned_presets : (s b : ℕ) → (is_mandatory (planned ties h s b) || is_optional (planned ties h s b)) ≡ true → has_preset h (number_in (planned ties h s b)) ≡ true
  planned_presets s b = go (planned_cases s b)
    where
      go : {w : ℕ} → PlannedCell ties h s b w → (is_mandatory w || is_optional w) ≡ true → has_preset h (number_in w) ≡ true
      go (busy e q) k = absurd (clash (sym k ∙ ap (λ (v : ℕ). is_mandatory v || is_optional v) q))
      go (empty e q) k = absurd (clash (sym k ∙ ap (λ (v : ℕ). is_mandatory v || is_optional v) q))
      go (preset e i l d q) k = rw (q, preset_cell_number h valid i l (early ties h i s)) (has_preset_of h i l)

  planned_no_call : (s b : ℕ) → is_call (planned ties h s b) ≡ false
  planned_no_call s b = eqb_no (kind_of (planned ties h s b)) 4 (λ e. omega (arith, planned_kind s b))

  planned_no_job : (n : ℕ) → has_job h (planned ties h) n ≡ false
  planned_no_job n =
      ltb_no 0 (holding h (planned ties h) (call_cell n))
      (omega (
        arith,
        cells_none h (λ s b. eqb (planned ties h s b) (call_cell n))
            (λ s b l m. eqb_no (planned ties h s b) (call_cell n) (λ e. omega (arith, planned_kind s b))),
      ))

  -- the presets of a slot are no more than its free bridges, nor than the supply feeds
  planned_within : (s : ℕ) → count (length (needs h)) (λ i. had ties h i s) ≤ count h.bridges (λ b. plan_free h s b)
  planned_within s = omega (arith, (lrtf_step ties o nobody (needs h) (plan_free_count h) s).fits, plan_free_is h s)

  planned_supplied : (s : ℕ) → held_cells h (planned ties h) s ≤ motors h
  unfolding planned
  planned_supplied s =
      omega (
        arith,
        placing_count (length (needs h)) (plan_free h) (λ i r. had ties h i r) (plan_cell ties h (needs h)) (λ s b. busy_cell) s h.bridges (planned_within s) is_held refl,
        count_imp (length (needs h)) (λ i. had ties h i s && is_held (plan_cell ties h (needs h) i s)) (λ i. had ties h i s)
            (λ i l. left_of (had ties h i s) (is_held (plan_cell ties h (needs h) i s))),
        count_none h.bridges (λ b. not (plan_free h s b) && is_held busy_cell) (λ b m. fails_right (not (plan_free h s b)) (is_held busy_cell) refl),
        (lrtf_step ties o nobody (needs h) (plan_free_count h) s).fits,
        plan_free_is h s,
      )

  -- the cells of one preset in a slot, by a test that only cells with its number pass
  planned_count : (i s : ℕ) → i < preset_count h → (q : ℕ → Bool) → ((w : ℕ) → q w ≡ true → number_in w ≡ number_at h i)
      → count h.bridges (λ b. q (planned ties h s b)) ≡ bit (had ties h i s && q (preset_cell h i (early ties h i s)))
  unfolding planned
  planned_count i s l q only_own =
      placing_job (length (needs h)) (plan_free h) (λ j r. had ties h j r) (plan_cell ties h (needs h)) (λ s b. busy_cell) s h.bridges
      (planned_within s) q
      (plain 0 refl) i (omega (arith, needs_long h valid start)) (λ j m. others j (omega (arith, needs_long h valid start)))
      (λ b m e. plain busy_cell refl)
      ∙ ap (λ (w : ℕ). bit (had ties h i s && q w)) (plan_cell_is ties h i s)
    where
      plain : (w : ℕ) → number_in w ≡ 0 → q w ≡ false
      plain w z = not-true (q w) (λ e. omega (arith, only_own w e, number_at_low h valid i l))

      number : (j : ℕ) → j < preset_count h → number_in (plan_cell ties h (needs h) j s) ≡ number_at h j
      number j m = ap number_in (plan_cell_is ties h j s) ∙ preset_cell_number h valid j m (early ties h j s)

      others : (j : ℕ) → j < preset_count h → (j ≡ i → ⊥) → q (plan_cell ties h (needs h) j s) ≡ false
      others j m ne = not-true _ (λ e. ne (index_unique h valid j i m l (sym (number j m) ∙ only_own _ e)))

  planned_once : (s a b : ℕ) → a < b → b < h.bridges → number_in (planned ties h s a) ≡ number_in (planned ties h s b) → number_in (planned ties h s b) ≡ 0
  planned_once s a b l m same = go (planned_cases s b) same
    where
      two : (i : ℕ) → i < preset_count h → number_in (planned ties h s a) ≡ number_at h i → number_in (planned ties h s b) ≡ number_at h i → ⊥
      two i r p q =
          let n = number_at h i in
          omega (
            arith,
            planned_count i s r (λ w. eqb (number_in w) n) (λ w e. eq_of (number_in w) n e),
            bit_le (had ties h i s && eqb (number_in (preset_cell h i (early ties h i s))) n),
            sum_two h.bridges (λ c. bit (eqb (number_in (planned ties h s c)) n)) a b (omega arith) m (λ e. omega arith),
            ap bit (eqb_yes (number_in (planned ties h s a)) n p),
            ap bit (eqb_yes (number_in (planned ties h s b)) n q),
          )

      go : PlannedCell ties h s b (planned ties h s b) → number_in (planned ties h s a) ≡ number_in (planned ties h s b) → number_in (planned ties h s b) ≡ 0
      go (busy e q) z = omega (arith, ap number_in q)
      go (empty e q) z = omega (arith, ap number_in q)
      go (preset e i r d q) z =
          let n : number_in (planned ties h s b) ≡ number_at h i = ap number_in q ∙ preset_cell_number h valid i r (early ties h i s) in
          absurd (two i r (z ∙ n) n)

  module _ (i : ℕ) (l : i < preset_count h) where
    -- it has as many slots as it needs
    planned_slots : count h.slots (λ s. had ties h i s) ≡ at (needs h) i
    unfolding needs_from
    planned_slots =
        let fits = eq_of _ 0 (granted_fits (premises h start) (optionals h) (preset_count h)) in
        (fits_placed ties o nobody (needs h) h.slots (plan_free_count h) fits).exact i (omega (arith, needs_long h valid start))

    -- a cell value v with its number, t telling whether it is the mandatory one or the optional one
    module _ (v : ℕ) (t : Bool → Bool) (number : number_in v ≡ number_at h i) (test : (e : Bool) → eqb (preset_cell h i e) v ≡ t e) where
      slot_with : (s : ℕ) → count h.bridges (λ b. eqb (planned ties h s b) v) ≡ bit (had ties h i s && t (early ties h i s))
      slot_with s =
          planned_count i s l (λ w. eqb w v) (λ w e. ap number_in (eq_of w v e) ∙ number)
          ∙ ap (λ (e : Bool). bit (had ties h i s && e)) (test (early ties h i s))

      holding_with : holding h (planned ties h) v ≡ count h.slots (λ s. had ties h i s && t (early ties h i s))
      holding_with =
          sum_ext h.slots (λ s. count h.bridges (λ b. eqb (planned ties h s b) v)) (λ s. bit (had ties h i s && t (early ties h i s))) (λ s m. slot_with s)

      cell_with : (s b : ℕ) → b < h.bridges → planned ties h s b ≡ v → (had ties h i s && t (early ties h i s)) ≡ true
      cell_with s b m e =
          bit_pos _ (omega (arith, slot_with s, count_some h.bridges (λ a. eqb (planned ties h s a) v) b m (eqb_yes (planned ties h s b) v e)))

    planned_mandatory : holding h (planned ties h) (mandatory_cell (number_at h i)) ≡ (preset_at h i).mandatory
    unfolding needs_from
    planned_mandatory =
        omega (
          arith,
          holding_with (mandatory_cell (number_at h i)) (λ e. e) (preset_cell_number h valid i l true) (preset_cell_mandatory h i),
          count_first h.slots (λ s. had ties h i s) (preset_at h i).mandatory,
          planned_slots,
          granted_low (premises h start) (optionals h) (preset_count h) i,
          at_mandatories h i,
        )

    -- mandatory and optional slots together are its need
    planned_need : (preset_at h i).mandatory + optional_of h (planned ties h) i ≡ at (needs h) i
    planned_need =
        omega (
          arith,
          holding_with (mandatory_cell (number_at h i)) (λ e. e) (preset_cell_number h valid i l true) (preset_cell_mandatory h i),
          holding_with (optional_cell (number_at h i)) not (preset_cell_number h valid i l false) (preset_cell_optional h i),
          count_split h.slots (λ s. had ties h i s) (λ s. early ties h i s),
          planned_slots,
          planned_mandatory,
        )

    -- a mandatory cell has fewer than m of its preset's before it, an optional one at least m, and that number grows in time
    planned_first : (r s a b : ℕ) → a < h.bridges → b < h.bridges
        → planned ties h r a ≡ mandatory_cell (number_at h i) → planned ties h s b ≡ optional_cell (number_at h i) → r < s
    unfolding sum
    planned_first r s a b la lb p q =
        lt_of_not-le (λ z.
        omega (
          arith,
          count_below (suc r) (λ t. had ties h i t) s (omega arith),
          ap bit (left_of (had ties h i r) _ in_r),
          ap bit (left_of (had ties h i s) _ in_s),
          lt_of _ (preset_at h i).mandatory (right_of (had ties h i r) _ in_r),
          ge_of _ (preset_at h i).mandatory (false_of_not (early ties h i s) (right_of (had ties h i s) _ in_s)),
        ))
      where
        in_r : (had ties h i r && early ties h i r) ≡ true
        in_r = cell_with (mandatory_cell (number_at h i)) (λ e. e) (preset_cell_number h valid i l true) (preset_cell_mandatory h i) r a la p

        in_s : (had ties h i s && not (early ties h i s)) ≡ true
        in_s = cell_with (optional_cell (number_at h i)) not (preset_cell_number h valid i l false) (preset_cell_optional h i) s b lb q

-- the table of the plan is a valid plan
pub planned_valid : (ties : Ties) → TotalTies ties → {h : Head} → Valid h → plan_fits h (mandatories h) ≡ true → ValidPlan h (planned ties h)
unfolding needs_from
planned_valid ties o {h} valid start =
    record {
      well_formed = record {
        kinds = λ s b l m. omega (arith, planned_kind ties o h valid start s b);
        plain = λ s b l m. planned_plain ties o h valid start s b;
        busy = λ s b l m. planned_busy ties o h valid start s b;
        presets = λ s b l m. planned_presets ties o h valid start s b;
        calls = λ s b l m e. absurd (clash (sym e ∙ planned_no_call ties o h valid start s b));
        once = λ s a b l. planned_once ties o h valid start s a b;
        exact = planned_mandatory ties o h valid start;
        first = λ i l r s a b lr ls. planned_first ties o h valid start i l r s a b;
        most = λ i l.
            omega (
              arith,
              planned_need ties o h valid start i l,
              granted_high (premises h start) (optionals h) (preset_count h) i,
              at_mandatories h i,
              at_optionals h i,
            );
        jobs = omega (arith, count_none 256 (λ n. has_job h (planned ties h) n) (λ n l. planned_no_job ties o h valid start n));
        apart = λ n l e. absurd (clash (sym e ∙ planned_no_job ties o h valid start n));
        supplied = λ s l. planned_supplied ties o h valid start s;
      };
      no_calls = λ s b l m. planned_no_call ties o h valid start s b;
    }

pub at_grants : (h : Head) (i : ℕ) → i < preset_count h → at (grants h) i ≡ at (needs h) i - at (mandatories h) i
unfolding grants
at_grants h i l = at_tabulate (preset_count h) (λ j. at (needs h) j - at (mandatories h) j) i l

-- its grants are the optional cells of its presets
pub planned_optional : (ties : Ties) → TotalTies ties → {h : Head} → Valid h → plan_fits h (mandatories h) ≡ true → (i : ℕ) → i < preset_count h
    → optional_of h (planned ties h) i ≡ at (grants h) i
planned_optional ties o {h} valid start i l =
    omega (arith, planned_need ties o h valid start i l, at_grants h i l, at_mandatories h i)

-- in a table w with the same cells the presets of each slot are those that the rule chooses, by what the table itself shows
pub planned_rule : (ties : Ties) → TotalTies ties → {h : Head} → Valid h → plan_fits h (mandatories h) ≡ true → (w : Cells) → Each h (λ s b. planned ties h s b ≡ w s b)
    → (s : ℕ) → s < h.slots → PresetsRule ties h (grants h) w s
planned_rule ties o {h} valid start w equal s l =
    shown_rule ties o (needs h) (plan_free_count h) s (preset_count h) (λ i. (preset_at h i).mandatory + at (grants h) i)
    (cells_of_preset h w) (plan_free_count h s) (needs_long h valid start)
    (λ i k. omega (arith, planned_need ties o h valid start i k, planned_optional ties o valid start i k)) refl
    (λ i k r m. count_ext h.bridges (λ b. eqb (number_in (w r b)) (number_at h i)) (λ b. eqb (number_in (planned ties h r b)) (number_at h i))
    (λ b n. ap (λ (v : ℕ). eqb (number_in v) (number_at h i)) (sym (equal r b (omega arith) n)))
    ∙ planned_count ties o h valid start i r k (λ v. eqb (number_in v) (number_at h i)) (λ v e. eq_of (number_in v) (number_at h i) e)
    ∙ ap (λ (c : Bool). bit (had ties h i r && c))
    (eqb_yes (number_in (preset_cell h i (early ties h i r))) (number_at h i) (preset_cell_number h valid i k (early ties h i r)))
    ∙ ap bit (and-true (had ties h i r)))

-- for every r, every other valid plan has at most as many optional cells of the first r presets by rank
pub planned_best : (ties : Ties) → TotalTies ties → {h : Head} {u : Cells} → Valid h → plan_fits h (mandatories h) ≡ true → ValidPlan h u → (r : ℕ)
    → sum (preset_count h) (λ i. only (ltb (rank h i) r) (optional_of h u i))
    ≤ sum (preset_count h) (λ i. only (ltb (rank h i) r) (optional_of h (planned ties h) i))
unfolding needs_from
planned_best ties o {h} {u} valid start p r =
    omega (
      arith,
      granted_best (premises h start) (optionals h) r (r + preset_count h) (omega arith) given
          (well_formed_criterion h valid u p.well_formed)
          (λ i l. omega (arith, at_mandatories h i))
          (λ i l. omega (arith, p.well_formed.most i l, at_mandatories h i, at_optionals h i)),
      sum_ext (preset_count h) (λ i. first i (given i - at (mandatories h) i)) (λ i. first i (optional_of h u i))
          (λ i l. ap (first i) (omega (arith, at_mandatories h i))),
      sum_ext (preset_count h) (λ i. first i (at (stage h (r + preset_count h)) i - at (mandatories h) i)) (λ i. first i (optional_of h (planned ties h) i))
          (λ i l. ap (first i) (omega (
            arith,
            at_mandatories h i,
            planned_need ties o h valid start i l,
            granted_since (premises h start) (optionals h) (preset_count h) (r + preset_count h) i (rank_below h i l) (omega arith),
          ))),
    )
  where
    given : ℕ → ℕ
    given i = (preset_at h i).mandatory + optional_of h u i

    first : ℕ → ℕ → ℕ
    first i n = only (ltb (rank h i) r) n

-- ---- the rule of the grants

-- the rule with the test in the place of its meaning
record TestedRule (h : Head) (gs : List ℕ) : Type 0 where
  long : length gs ≡ preset_count h
  up_to : (i : ℕ) → i < preset_count h → at gs i ≤ (preset_at h i).optional
  fits : (i : ℕ) → i < preset_count h → plan_fits h (needs_with h (mandatories h) gs i (at gs i)) ≡ true
  most : (i : ℕ) → i < preset_count h → (g : ℕ) → g ≤ (preset_at h i).optional → plan_fits h (needs_with h (mandatories h) gs i g) ≡ true → g ≤ at gs i

-- the test says whether a placement exists
pub feasible_of : (h : Head) (c : List ℕ) → plan_fits h c ≡ true → PlanFeasible h c
feasible_of h c e = (lrtf tie_place nobody c (plan_free_count h), fits_placed tie_place place_total nobody c h.slots (plan_free_count h) (eq_of _ 0 e))

pub of_feasible : (h : Head) (c : List ℕ) → PlanFeasible h c → plan_fits h c ≡ true
of_feasible h c w = eqb_yes _ 0 (placed_fits w.1)

tested : {h : Head} {gs : List ℕ} → GrantRule h gs → TestedRule h gs
tested {h} {gs} x = record {
  long = x.long;
  up_to = x.up_to;
  fits = λ i l. of_feasible h (needs_with h (mandatories h) gs i (at gs i)) (x.fits i l);
  most = λ i l g z e. x.most i l g z (feasible_of h (needs_with h (mandatories h) gs i g) e);
}

meant : {h : Head} {gs : List ℕ} → TestedRule h gs → GrantRule h gs
meant {h} {gs} x = record {
  long = x.long;
  up_to = x.up_to;
  fits = λ i l. feasible_of h (needs_with h (mandatories h) gs i (at gs i)) (x.fits i l);
  most = λ i l g z w. x.most i l g z (of_feasible h (needs_with h (mandatories h) gs i g) w);
}

module _ (h : Head) (start : plan_fits h (mandatories h) ≡ true) (i : ℕ) (l : i < preset_count h) where
  -- the needs in the turn of the preset of line i
  abbrev turn_needs : ℕ → List ℕ
  turn_needs g = raised (stage h (rank h i)) i g

  turn_long : (g : ℕ) → length (turn_needs g) ≡ preset_count h
  turn_long g = length-set (stage h (rank h i)) i (at (stage h (rank h i)) i + g) ∙ granted_long (premises h start) (optionals h) (rank h i)

  needs_with_is : (g : ℕ) → needs_with h (mandatories h) (grants h) i g ≡ turn_needs g
  unfolding needs_from
  needs_with_is g = ext_get_or 0 (needs_with h (mandatories h) (grants h) i g) (turn_needs g) (length_tabulate (preset_count h) need ∙ sym (turn_long g)) each
    where
      need : ℕ → ℕ
      need = need_with h (mandatories h) (grants h) i g

      own : need i ≡ at (turn_needs g) i
      own =
          omega (
            arith,
            ap (λ (b : Bool). only b (at (grants h) i)) (ltb_no (rank h i) (rank h i) (le_refl (rank h i))),
            ap (λ (b : Bool). only b g) (eqb_self i),
            at_raised (stage h (rank h i)) i g (omega (arith, granted_long (premises h start) (optionals h) (rank h i))),
            granted_later (premises h start) (optionals h) (rank h i) i (le_refl (rank h i)),
          )

      other : (j : ℕ) → j < preset_count h → eqb j i ≡ false → Is (ltb (rank h j) (rank h i)) → need j ≡ at (turn_needs g) j
      other j m e (is_true d) =
          rw (e, d) (omega (
            arith,
            at_grants h j m,
            granted_low (premises h start) (optionals h) (rank h i) j,
            granted_since (premises h start) (optionals h) (rank h i) (preset_count h) j (lt_of (rank h j) (rank h i) d)
                (omega (arith, rank_below h i l)),
            at_raised_other (stage h (rank h i)) i g j (ne_of j i e),
          ))
      other j m e (is_false d) =
          rw (e, d) (omega (
            arith,
            granted_later (premises h start) (optionals h) (rank h i) j (ge_of (rank h j) (rank h i) d),
            at_raised_other (stage h (rank h i)) i g j (ne_of j i e),
          ))

      go : (j : ℕ) → j < preset_count h → Is (eqb j i) → need j ≡ at (turn_needs g) j
      go j m (is_true e) = rw (eq_of j i e) own
      go j m (is_false e) = other j m e (is (ltb (rank h j) (rank h i)))

      each : (j : ℕ) → j < length (needs_with h (mandatories h) (grants h) i g) → at (needs_with h (mandatories h) (grants h) i g) j ≡ at (turn_needs g) j
      each j m =
          let r : j < preset_count h = rw (length_tabulate (preset_count h) need) at m in
          at_tabulate (preset_count h) need j r ∙ go j r (is (eqb j i))

  -- where more fits, less fits
  turn_fits_less : (a b : ℕ) → a ≤ b → plan_fits h (turn_needs b) ≡ true → plan_fits h (turn_needs a) ≡ true
  turn_fits_less a b z = plan_fits_less h (turn_needs a) (turn_needs b) (turn_long a) (turn_long b) (λ j m. go j m (is (eqb j i)))
    where
      own : at (turn_needs a) i ≤ at (turn_needs b) i
      own =
          let r : i < length (stage h (rank h i)) = omega (arith, granted_long (premises h start) (optionals h) (rank h i)) in
          omega (arith, at_raised (stage h (rank h i)) i a r, at_raised (stage h (rank h i)) i b r)

      go : (j : ℕ) → j < preset_count h → Is (eqb j i) → at (turn_needs a) j ≤ at (turn_needs b) j
      go j m (is_true e) = rw (eq_of j i e) own
      go j m (is_false e) =
          omega (arith, at_raised_other (stage h (rank h i)) i a j (ne_of j i e), at_raised_other (stage h (rank h i)) i b j (ne_of j i e))

  -- in its turn the preset of line i gets what fits, and all of its optional slots unless one more does not fit
  turn_grant : (plan_fits h (turn_needs (at (grants h) i)) ≡ true)
      × ((at (grants h) i ≡ (preset_at h i).optional) ⊎ (plan_fits h (turn_needs (suc (at (grants h) i))) ≡ false))
  unfolding needs_from
  turn_grant =
      let w = granted_most (premises h start) (optionals h) (rank h i) i l refl in
      let settled = granted_since (premises h start) (optionals h) (suc (rank h i)) (preset_count h) i (le_refl (suc (rank h i))) (rank_below h i l) in
      let e : w.0 ≡ at (grants h) i = omega (arith, w.1, at_grants h i l, settled) in
      (rw e at w.2, (rw (e, at_optionals h i) at w.3))

  turn_most : (g : ℕ) → g ≤ (preset_at h i).optional → plan_fits h (turn_needs g) ≡ true → g ≤ at (grants h) i
  turn_most g z e = go turn_grant.1 (is (ltb (at (grants h) i) g))
    where
      go : (at (grants h) i ≡ (preset_at h i).optional) ⊎ (plan_fits h (turn_needs (suc (at (grants h) i))) ≡ false) → Is (ltb (at (grants h) i) g)
          → g ≤ at (grants h) i
      go (inl all) d = omega arith
      go (inr stop) (is_true d) = absurd (clash (sym (turn_fits_less (suc (at (grants h) i)) g (lt_of (at (grants h) i) g d) e) ∙ stop))
      go (inr stop) (is_false d) = ge_of (at (grants h) i) g d

tested_grants : {h : Head} → plan_fits h (mandatories h) ≡ true → TestedRule h (grants h)
unfolding needs_from grants
tested_grants {h} start =
    record {
      long = length_tabulate (preset_count h) (λ i. at (needs h) i - at (mandatories h) i);
      up_to = λ i l. omega (arith, at_grants h i l, granted_high (premises h start) (optionals h) (preset_count h) i, at_optionals h i);
      fits = λ i l. ap (plan_fits h) (needs_with_is h start i l (at (grants h) i)) ∙ (turn_grant h start i l).0;
      most = λ i l g z e. turn_most h start i l g z (ap (plan_fits h) (sym (needs_with_is h start i l g)) ∙ e);
    }

-- what a list that obeys the rule gives in one turn, another that agrees with it before that turn gives too
turn_le : {h : Head} {a b : List ℕ} → TestedRule h a → TestedRule h b → (i : ℕ) → i < preset_count h
    → ((j : ℕ) → j < preset_count h → rank h j < rank h i → at a j ≡ at b j) → at a i ≤ at b i
turn_le {h} {a} {b} x y i l agree = y.most i l (at a i) (x.up_to i l) (ap (plan_fits h) same ∙ x.fits i l)
  where
    term : (j : ℕ) → j < preset_count h → Is (ltb (rank h j) (rank h i)) → need_with h (mandatories h) b i (at a i) j ≡ need_with h (mandatories h) a i (at a i) j
    term j m (is_true e) = rw (agree j m (lt_of (rank h j) (rank h i) e))
    term j m (is_false e) = rw e

    same : needs_with h (mandatories h) b i (at a i) ≡ needs_with h (mandatories h) a i (at a i)
    same = tabulate_ext (preset_count h) (need_with h (mandatories h) b i (at a i)) (need_with h (mandatories h) a i (at a i)) (λ j m. term j m (is (ltb (rank h j) (rank h i))))

tested_only : {h : Head} {a b : List ℕ} → TestedRule h a → TestedRule h b → a ≡ b
tested_only {h} {a} {b} x y =
    ext_get_or 0 a b (x.long ∙ sym y.long) (λ i l. agree (suc (rank h i)) i (rw x.long at l) (le_refl (suc (rank h i))))
  where
    agree : (r i : ℕ) → i < preset_count h → rank h i < r → at a i ≡ at b i
    agree zero i l z = absurd (omega arith)
    agree (suc r) i l z =
        let before : (j : ℕ) → j < preset_count h → rank h j < rank h i → at a j ≡ at b j = λ j m v. agree r j m (omega arith) in
        omega (arith, turn_le x y i l before, turn_le y x i l (λ j m v. sym (before j m v)))

-- The grants of the plan obey document 01's rule, and no others do.
pub grants_rule : {h : Head} → plan_fits h (mandatories h) ≡ true → GrantRule h (grants h)
grants_rule start = meant (tested_grants start)

pub grants_only : {h : Head} {a b : List ℕ} → GrantRule h a → GrantRule h b → a ≡ b
grants_only x y = tested_only (tested x) (tested y)
