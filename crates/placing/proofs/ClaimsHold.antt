-- The claims about plan and call hold for all inputs: `plan_claim` and `call_claim_lem`, of the functions that the entries are held to.
--
-- In order: the plan (`plan_granted`, `plan_any_order`, `plan_any_answer`, `plan_claim`, `plan_only_five`); the call (`nine_counts_all`, `taken_any_order`, `call_any_answer`, `call_refused`,
-- `call_accepted`, `call_claim_lem`).
-- Assumes nothing.
use Prim.Native.Nat.{ℕ, ◌≤◌, ◌<◌}
use native.Mathlib.Omega.{arith}
use native.Mathlib.Nat.{le_trans}
use mathlib.Core.Path.{◌≡◌, refl, sym, ◌∙◌, ap, ap₂, subst}
use mathlib.Core.Logic.{◌⊎◌, inl, inr, ◌↔◌}
use mathlib.Core.Bool.{and_comm, Bool, true, false, not, ◌&&◌}
use mathlib.Core.Option.{Option, none, some}
use mathlib.Core.List.{List, [], ◌∷◌, ◌++◌}
use lib.ListN.{length}
use lib.Dec.{ltb, leb}
use Rattle.laws.specs.Sums.{only}
use Rattle.laws.specs.Lists.{at}
use Rattle.laws.specs.Placement.{Ties, TotalTies}
use Rattle.laws.specs.Eviction.{ones}
use Rattle.laws.proofs.Tests.{Is, is_true, is_false, is, clash, true_of_not, not_is_false, none_some, or_right, and_implied}
use Rattle.laws.proofs.Comparisons.{leb_yes}
use Rattle.laws.proofs.Sums.{sum_ext}
use Rattle.station.specs.Head.{Head, Job, Valid, with_tie, valid}
use Rattle.station.specs.Refusal.{Refusal, too_short, out_of_limits, not_well_formed, number_used, too_many, mandatory_not_feasible, call_not_feasible, try}
use Rattle.station.specs.Refusal.{first_of}
use Rattle.station.proofs.Theorems.{first_of_none, first_none, first_some, append_none, append_left_none, Never, end, skip, last_cause, cause_last}
use Rattle.station.proofs.Theorems.{within_low}
use Rattle.placing.specs.Table.{Cells, cell, cells, Each, preset_count, number_in, is_optional, is_mandatory, WellFormed}
use Rattle.placing.specs.State.{State, with_order, well_formed_frame}
use Rattle.placing.specs.Valid.{ValidPlan, ValidCall, job_at, lost, lost_up_to, optional_of, priority_of}
use Rattle.placing.specs.Plan.{plan_fits, mandatories, needs_from, grants, tie_of, planned, rank}
use Rattle.placing.specs.Call.{eviction_order, InEvictionOrder, in_set, evicted_set, call_fits, called}
use Rattle.placing.specs.Capacity.{GreatestExcess, longest_jobs, free_capacity}
use Rattle.placing.specs.Outcomes.{Cost, cost_of, written, PlanAnswer, PlanOutcome, plan_causes, plan_of, frame_causes, job_causes, jobs_outside}
use Rattle.placing.specs.Outcomes.{jobs_used, jobs_too_many, call_causes, CallAnswer, CallOutcome, called_state, call_of}
use Rattle.placing.specs.Claims.{Running, SamePast, PresetsRule, BestPlan, PlanClaim, LeastCall, CallClaim, JobsRule, before_seven, optional_of_first}
use Rattle.placing.proofs.CountedCells.{cells_ext, holding_ext, lost_was, preset_with, priority_of_is}
use Rattle.placing.proofs.WellFormed.{valid_plan_ext, valid_call_ext}
use Rattle.placing.proofs.WrittenTable.{frame_cells, cell_written, written_past}
use Rattle.placing.proofs.NewJobs.{Good}
use Rattle.placing.proofs.Causes.{record_causes, long_and_valid, no_record_cause, running_of, jobs_inside, good_of}
use Rattle.placing.proofs.Placing.{tie_total}
use Rattle.placing.proofs.PlanTheorem.{plan_fits_of_valid, planned_valid, planned_optional, planned_rule, planned_best}
use Rattle.placing.proofs.EvictionOrder.{order_is}
use Rattle.placing.proofs.LeastEviction.{valid_fits, fewest_upto, evicted_first_smallest}
use Rattle.placing.proofs.CalledTable.{set_frees, called_lost, called_count, called_upto, called_rule, called_valid}
use Rattle.placing.proofs.CallByNumbers.{evicts_excess}
use Rattle.placing.proofs.ByCapacity.{plan_by_capacity, greatest_excess, call_by_capacity}

-- ---- the plan

-- no cause holds
record PlanPasses (h : Head) (t : List ℕ) : Type 0 where
  long : 512 ≤ length t
  ok : Valid h
  fits : plan_fits h (mandatories h) ≡ true

-- 5 is tried last
abbrev try_five : Head → List (Option Refusal)
try_five h = try mandatory_not_feasible (not (plan_fits h (mandatories h))) ∷ []

plan_passes : (h : Head) (t : List ℕ) → first_of (plan_causes h t) ≡ none → PlanPasses h t
plan_passes h t e =
    let before = append_left_none (record_causes h t) (try_five h) e in
    let reached = long_and_valid h t before in
    let five = first_none mandatory_not_feasible (not (plan_fits h (mandatories h))) [] (sym (append_none (record_causes h t) (try_five h) before) ∙ e) in
    record { long = reached.0; ok = reached.1; fits = true_of_not _ five.0 }

-- the table that the rule makes with the head's own order of ties
abbrev own_plan : Head → Cells
own_plan h = planned (tie_of h.hold) h

-- the answer tells which of the two it was
data PlanIs (h : Head) (t : List ℕ) : PlanOutcome → Type 0 where
  done : first_of (plan_causes h t) ≡ none → PlanIs h t (record { answer = PlanAnswer.granted (grants h); table = written h (own_plan h) t })
  stopped : (r : Refusal) → first_of (plan_causes h t) ≡ some r → PlanIs h t (record { answer = PlanAnswer.refused 0 r; table = t })

plan_is : (h : Head) (t : List ℕ) → PlanIs h t (plan_of h t)
unfolding plan_of
plan_is h t = go (first_of (plan_causes h t)) refl
  where
    go : (o : Option Refusal) → first_of (plan_causes h t) ≡ o → PlanIs h t (plan_of h t)
    go none e = rw (e, plan_of) (done e)
    go (some r) e = rw (e, plan_of) (stopped r e)

refused_granted : {n : ℕ} {r : Refusal} {g : List ℕ} → PlanAnswer.refused n r ≡ PlanAnswer.granted g → ⊥
refused_granted e = let z : ◌≡◌ {A = ℕ} 0 1 = cc in omega arith

module _ (h : Head) (t : List ℕ) where
  -- the table that the plan leaves, and that its cells are the plan's
  abbrev plan_table : List ℕ
  plan_table = written h (own_plan h) t

  cell_planned : Each h (λ s b. own_plan h s b ≡ cell h plan_table s b)
  cell_planned s b l m = sym (cell_written h (own_plan h) t s b l m)

  optional_planned : (i : ℕ) → optional_of h (own_plan h) i ≡ optional_of h (cell h plan_table) i
  optional_planned i = holding_ext h (own_plan h) (cell h plan_table) cell_planned _

  five_never : Never mandatory_not_feasible (record_causes h t)
  five_never = skip too_short (ltb (length t) 512) (λ e. omega arith) (skip out_of_limits (not (valid h)) (λ e. omega arith) end)

  plan_valid : plan_fits h (mandatories h) ≡ true → Valid h → ValidPlan h (cell h plan_table)
  plan_valid p ok = valid_plan_ext h (own_plan h) (cell h plan_table) cell_planned (planned_valid (tie_of h.hold) (tie_total h.hold) ok p)

  five_only : (o : PlanOutcome) → PlanIs h t o → o.answer ≡ PlanAnswer.refused 0 mandatory_not_feasible
      → (512 ≤ length t) × Valid h × ((u : List ℕ) → ValidPlan h (cell h u) → ⊥)
  five_only _ (done e) q = absurd (refused_granted (sym q))
  five_only _ (stopped r e) q =
      let same : first_of (plan_causes h t) ≡ some mandatory_not_feasible = cc in
      let five = last_cause mandatory_not_feasible (not (plan_fits h (mandatories h))) five_never same in
      let reached = long_and_valid h t five.0 in
      (reached.0, reached.1, λ u w. clash (sym five.1 ∙ not_is_false _ (plan_fits_of_valid reached.1 w)))

  five_always : (o : PlanOutcome) → PlanIs h t o → 512 ≤ length t → Valid h → ((u : List ℕ) → ValidPlan h (cell h u) → ⊥)
      → o.answer ≡ PlanAnswer.refused 0 mandatory_not_feasible
  five_always _ (done e) long ok n = absurd (n plan_table (plan_valid (plan_passes h t e).fits ok))
  five_always _ (stopped r e) long ok n = go (is (plan_fits h (mandatories h)))
    where
      go : Is (plan_fits h (mandatories h)) → PlanAnswer.refused 0 r ≡ PlanAnswer.refused 0 mandatory_not_feasible
      go (is_true p) = absurd (n plan_table (plan_valid p ok))
      go (is_false p) =
          let five : first_of (plan_causes h t) ≡ some mandatory_not_feasible =
          cause_last (record_causes h t) mandatory_not_feasible (not (plan_fits h (mandatories h))) (no_record_cause h t long ok) (ap not p) in
          cc

  same_past : (o : PlanOutcome) → PlanIs h t o → SamePast h t o.table
  same_past _ (done e) = let p = plan_passes h t e in written_past h (own_plan h) t (le_trans (frame_cells h p.ok) p.long)
  same_past _ (stopped r e) = record { long = refl; past = refl }

-- what is known of a plan that is granted: its grants, its cells, its head
pub plan_granted : (h : Head) (t g : List ℕ) → (plan_of h t).answer ≡ PlanAnswer.granted g
    → (g ≡ grants h) × (plan_fits h (mandatories h) ≡ true) × Valid h × (512 ≤ length t) × ((plan_of h t).table ≡ written h (planned (tie_of h.hold) h) t)
plan_granted h t g = go (plan_of h t) (plan_is h t)
  where
    go : (o : PlanOutcome) → PlanIs h t o → o.answer ≡ PlanAnswer.granted g
        → (g ≡ grants h) × (plan_fits h (mandatories h) ≡ true) × Valid h × (512 ≤ length t) × (o.table ≡ written h (planned (tie_of h.hold) h) t)
    go _ (done e) q = let p = plan_passes h t e in ((cc), p.fits, p.ok, p.long, refl)
    go _ (stopped r e) q = absurd (refused_granted q)

-- the rule's table with any order of ties is a best plan, that of the head's own order among them
plan_any_order : (h : Head) (t g : List ℕ) → (plan_of h t).answer ≡ PlanAnswer.granted g → (ties : Ties) → TotalTies ties → BestPlan ties h g (planned ties h)
plan_any_order h t g q ties o =
    let p = plan_granted h t g q in
    record {
      slots = λ s l. subst (λ (x : List ℕ). PresetsRule ties h x (planned ties h) s) (sym p.0) (planned_rule ties o p.2 p.1 (planned ties h) (λ r b k m. refl) s l);
      valid = planned_valid ties o p.2 p.1;
      reported = λ i l. ap (λ (x : List ℕ). at x i) p.0 ∙ sym (planned_optional ties o p.2 p.1 i l);
      best = λ v w k. planned_best ties o p.2 p.1 w k;
    }

module _ (h : Head) (t g : List ℕ) (q : (plan_of h t).answer ≡ PlanAnswer.granted g) where
  own_best : BestPlan (tie_of h.hold) h g (own_plan h)
  own_best = plan_any_order h t g q (tie_of h.hold) (tie_total h.hold)

  plan_granted_valid : ValidPlan h (cell h (plan_of h t).table)
  plan_granted_valid = let p = plan_granted h t g q in rw p.4 (plan_valid h t p.1 p.2)

  plan_granted_slots : (s : ℕ) → s < h.slots → PresetsRule (tie_of h.hold) h g (cell h (plan_of h t).table) s
  plan_granted_slots s l =
      let p = plan_granted h t g q in
      subst (λ (x : List ℕ). PresetsRule (tie_of h.hold) h g (cell h x) s) (sym p.4)
      (subst (λ (x : List ℕ). PresetsRule (tie_of h.hold) h x (cell h (plan_table h t)) s) (sym p.0)
      (planned_rule (tie_of h.hold) (tie_total h.hold) p.2 p.1 (cell h (plan_table h t)) (cell_planned h t) s l))

  plan_granted_reported : (i : ℕ) → i < preset_count h → at g i ≡ optional_of h (cell h (plan_of h t).table) i
  plan_granted_reported i l =
      let p = plan_granted h t g q in
      rw p.4 (own_best.reported i l ∙ optional_planned h t i)

  plan_granted_best : (u : List ℕ) → ValidPlan h (cell h u) → (k : ℕ)
      → optional_of_first h (cell h u) k ≤ optional_of_first h (cell h (plan_of h t).table) k
  plan_granted_best u w k =
      let p = plan_granted h t g q in
      rw p.4 (omega (
        arith,
        sum_ext (preset_count h) (λ i. only (ltb (rank h i) k) (optional_of h (own_plan h) i))
            (λ i. only (ltb (rank h i) k) (optional_of h (cell h (plan_table h t)) i)) (λ i l. ap (only (ltb (rank h i) k)) (optional_planned h t i)),
        own_best.best u w k,
      ))

-- the answer, by the first cause that holds and by the grants
abbrev plan_reply : Option Refusal → List ℕ → PlanAnswer
plan_reply none g = PlanAnswer.granted g
plan_reply (some r) g = PlanAnswer.refused 0 r

plan_answer : (h : Head) (t : List ℕ) → (plan_of h t).answer ≡ plan_reply (first_of (plan_causes h t)) (grants h)
plan_answer h t = go (plan_of h t) (plan_is h t)
  where
    go : (o : PlanOutcome) → PlanIs h t o → o.answer ≡ plan_reply (first_of (plan_causes h t)) (grants h)
    go _ (done e) = ap (λ (c : Option Refusal). plan_reply c (grants h)) (sym e)
    go _ (stopped r e) = ap (λ (c : Option Refusal). plan_reply c (grants h)) (sym e)

-- the order of ties of a head: nothing that the answer goes by has to do with it
module _ (h : Head) (hold : Bool) where
  tie_causes : (t : List ℕ) → plan_causes (with_tie h hold) t ≡ plan_causes h t
  unfolding valid
  tie_causes t = refl

  tie_grants : grants (with_tie h hold) ≡ grants h
  unfolding grants needs_from
  tie_grants = refl

  plan_any_answer : (t : List ℕ) → (plan_of (with_tie h hold) t).answer ≡ (plan_of h t).answer
  plan_any_answer t =
      plan_answer (with_tie h hold) t
      ∙ ap₂ plan_reply (ap first_of (tie_causes t)) tie_grants
      ∙ sym (plan_answer h t)

-- The plan theorem: the claims about plan hold for every head record and every table.
pub plan_claim : (h : Head) (t : List ℕ) → PlanClaim h t
plan_claim h t = record {
  five = (five_only h t (plan_of h t) (plan_is h t), λ p. five_always h t (plan_of h t) (plan_is h t) p.0 p.1 p.2);
  valid = plan_granted_valid h t;
  slots = plan_granted_slots h t;
  reported = plan_granted_reported h t;
  best = plan_granted_best h t;
  capacity = plan_by_capacity h;
  any_order = plan_any_order h t;
  any_answer = λ hold. plan_any_answer h hold t;
  past = same_past h t (plan_of h t) (plan_is h t);
}

-- a head that some text yields, with a table long enough, is refused for 5 alone
pub plan_only_five : (h : Head) (t : List ℕ) {n : ℕ} (r : Refusal) → 512 ≤ length t → Valid h → (plan_of h t).answer ≡ PlanAnswer.refused n r
    → PlanAnswer.refused n r ≡ PlanAnswer.refused 0 mandatory_not_feasible
plan_only_five h t {n} r long ok = go (plan_of h t) (plan_is h t)
  where
    last : (r : Refusal) → ((not (plan_fits h (mandatories h)) ≡ true) × (r ≡ mandatory_not_feasible))
        ⊎ ((not (plan_fits h (mandatories h)) ≡ false) × (first_of [] ≡ some r)) → r ≡ mandatory_not_feasible
    last r (inl p) = p.1
    last r (inr p) = absurd (none_some (sym first_of_none ∙ p.1))

    go : (o : PlanOutcome) → PlanIs h t o → o.answer ≡ PlanAnswer.refused n r → PlanAnswer.refused n r ≡ PlanAnswer.refused 0 mandatory_not_feasible
    go _ (done e) q = absurd (refused_granted (sym q))
    go _ (stopped c e) q =
        let five = last c (first_some mandatory_not_feasible (not (plan_fits h (mandatories h))) []
        (sym (append_none (record_causes h t) (try_five h) (no_record_cause h t long ok)) ∙ e)) in
        sym q ∙ ap (PlanAnswer.refused 0) five

-- ---- the call

refused_taken : {r : Refusal} {n : Cost} → CallAnswer.refused 0 r ≡ CallAnswer.taken n → ⊥
refused_taken e = let z : ◌≡◌ {A = ℕ} 0 1 = cc in omega arith

-- "p = 9 counts all": no preset has a worse priority
pub nine_counts_all : (h : Head) (t u : Cells) → Valid h → WellFormed h t → lost_up_to h t u 9 ≡ cells h (λ s b. lost t u s b)
nine_counts_all h t u ok w =
    cells_ext h (λ s b. lost t u s b && leb (priority_of h (number_in (t s b))) 9) (λ s b. lost t u s b)
    (λ s b l m. and_comm (lost t u s b) (leb (priority_of h (number_in (t s b))) 9)
    ∙ and_implied (leb (priority_of h (number_in (t s b))) 9) (lost t u s b) (λ e. leb_yes (priority_of h (number_in (t s b))) 9 (low s b l m e)))
  where
    low : (s b : ℕ) → s < h.slots → b < h.bridges → lost t u s b ≡ true → priority_of h (number_in (t s b)) ≤ 9
    low s b l m e =
        let p = preset_with h (number_in (t s b)) (w.presets s b l m (or_right (is_mandatory (t s b)) (is_optional (t s b)) (lost_was t u s b e))) in
        omega (arith, ap (priority_of h) p.2, priority_of_is h ok p.0 p.1, (ok.limits p.0 p.1).priority)

-- the answer, by the first cause that holds and by the cost
abbrev call_reply : Option Refusal → Cost → CallAnswer
call_reply none n = CallAnswer.taken n
call_reply (some r) n = CallAnswer.refused 0 r

module _ (h : Head) (jobs : List Job) (st : State) where
  -- the causes of a call, in the listed order
  abbrev tried : List (Option Refusal)
  tried = frame_causes h st ++ call_causes h st.clock jobs (cell h st.table)

  -- the table that the rule makes with the order of ties in force; the one that the call leaves, its cells, and the whole outcome
  abbrev own_call : Cells
  own_call = called (tie_of st.hold) h st.clock jobs (cell h st.table)

  abbrev table_left : List ℕ
  table_left = written h own_call st.table

  abbrev cells_left : Cells
  cells_left = cell h table_left

  abbrev outcome : CallOutcome
  outcome = record { answer = CallAnswer.taken (cost_of h jobs st); after = called_state h jobs st }

  -- the answer tells whether a cause holds
  data CallIs : CallOutcome → Type 0 where
    placed : first_of tried ≡ none → CallIs outcome
    stopped : (r : Refusal) → first_of tried ≡ some r → CallIs (record { answer = CallAnswer.refused 0 r; after = st })

  call_is : CallIs (call_of h jobs st)
  unfolding call_of
  call_is = go (first_of tried) refl
    where
      go : (o : Option Refusal) → first_of tried ≡ o → CallIs (call_of h jobs st)
      go none e = rw (e, call_of) (placed e)
      go (some r) e = rw (e, call_of) (stopped r e)

  call_answer : (call_of h jobs st).answer ≡ call_reply (first_of tried) (cost_of h jobs st)
  call_answer = go (call_of h jobs st) call_is
    where
      go : (o : CallOutcome) → CallIs o → o.answer ≡ call_reply (first_of tried) (cost_of h jobs st)
      go _ (placed e) = ap (λ (c : Option Refusal). call_reply c (cost_of h jobs st)) (sym e)
      go _ (stopped r e) = ap (λ (c : Option Refusal). call_reply c (cost_of h jobs st)) (sym e)

  -- no cause before 7 holds, so none of the jobs' own
  jobs_pass : first_of (before_seven h jobs st) ≡ none → first_of (job_causes h jobs (cell h st.table)) ≡ none
  jobs_pass e =
      let frame = append_left_none (frame_causes h st) (job_causes h jobs (cell h st.table)) e in
      sym (append_none (frame_causes h st) (job_causes h jobs (cell h st.table)) frame) ∙ e

  passes : first_of (before_seven h jobs st) ≡ none → Running h st × Good h (cell h st.table) jobs
  passes e = (running_of h st (append_left_none (frame_causes h st) (job_causes h jobs (cell h st.table)) e), good_of h jobs (cell h st.table) (jobs_pass e))

  -- 7 is tried last
  abbrev try_seven : List (Option Refusal)
  try_seven = try call_not_feasible (not (call_fits h st.clock jobs (cell h st.table))) ∷ []

  seven_never : Never call_not_feasible (before_seven h jobs st)
  seven_never =
      skip too_short (ltb (length st.table) 512) (λ e. omega arith) (skip out_of_limits (not (valid h)) (λ e. omega arith)
      (skip not_well_formed (not (well_formed_frame h st)) (λ e. omega arith) (skip out_of_limits (jobs_outside jobs) (λ e. omega arith)
      (skip number_used (jobs_used h (cell h st.table) jobs) (λ e. omega arith) (skip too_many (jobs_too_many h (cell h st.table) jobs) (λ e. omega arith) end)))))

  placed_passes : first_of tried ≡ none → (first_of (before_seven h jobs st) ≡ none) × (call_fits h st.clock jobs (cell h st.table) ≡ true)
  placed_passes e =
      let before = append_left_none (before_seven h jobs st) try_seven e in
      let last = sym (append_none (before_seven h jobs st) try_seven before) ∙ e in
      (before, true_of_not _ (first_none call_not_feasible (not (call_fits h st.clock jobs (cell h st.table))) [] last).0)

  cell_called : Each h (λ s b. own_call s b ≡ cells_left s b)
  cell_called s b l m = sym (cell_written h own_call st.table s b l m)

  cells_left_valid : Running h st → Good h (cell h st.table) jobs → call_fits h st.clock jobs (cell h st.table) ≡ true → ValidCall h st.clock jobs (cell h st.table) cells_left
  cells_left_valid r g f =
      valid_call_ext h st.clock jobs (cell h st.table) (cell h st.table) own_call cells_left (λ s b l m. refl) cell_called
      (called_valid (tie_of st.hold) (tie_total st.hold) h st.clock jobs (cell h st.table) r.valid r.well_formed.cells g f)

  cells_left_lost : (s b : ℕ) → s < h.slots → b < h.bridges → lost (cell h st.table) own_call s b ≡ lost (cell h st.table) cells_left s b
  cells_left_lost s b l m = ap (λ (v : ℕ). is_optional (cell h st.table s b) && not (is_optional v)) (cell_called s b l m)

  call_seven : (o : CallOutcome) → CallIs o → (o.answer ≡ CallAnswer.refused 0 call_not_feasible)
      ↔ ((first_of (before_seven h jobs st) ≡ none) × ((u : List ℕ) → ValidCall h st.clock jobs (cell h st.table) (cell h u) → ⊥))
  call_seven _ (placed e) = (
    λ q. absurd (refused_taken (sym q)),
    λ n. let f = placed_passes e in let p = passes f.0 in absurd (n.1 table_left (cells_left_valid p.0 p.1 f.1)),
  )
  call_seven _ (stopped r e) = (only, always)
    where
      only : CallAnswer.refused 0 r ≡ CallAnswer.refused 0 call_not_feasible
          → (first_of (before_seven h jobs st) ≡ none) × ((u : List ℕ) → ValidCall h st.clock jobs (cell h st.table) (cell h u) → ⊥)
      only q =
          let same : first_of tried ≡ some call_not_feasible = cc in
          let w = last_cause call_not_feasible (not (call_fits h st.clock jobs (cell h st.table))) seven_never same in
          let p = passes w.0 in (
            w.0,
            λ u v.
                clash (sym w.1 ∙ not_is_false _ (valid_fits h st.clock jobs (cell h st.table) (cell h u) p.0.valid p.0.well_formed.cells p.1 v)),
          )

      always : (first_of (before_seven h jobs st) ≡ none) × ((u : List ℕ) → ValidCall h st.clock jobs (cell h st.table) (cell h u) → ⊥)
          → CallAnswer.refused 0 r ≡ CallAnswer.refused 0 call_not_feasible
      always n = go (is (call_fits h st.clock jobs (cell h st.table)))
        where
          go : Is (call_fits h st.clock jobs (cell h st.table)) → CallAnswer.refused 0 r ≡ CallAnswer.refused 0 call_not_feasible
          go (is_true f) = let p = passes n.0 in absurd (n.1 table_left (cells_left_valid p.0 p.1 f))
          go (is_false f) =
              let seven : first_of tried ≡ some call_not_feasible =
              cause_last (before_seven h jobs st) call_not_feasible (not (call_fits h st.clock jobs (cell h st.table))) n.0 (ap not f) in
              cc

  call_past : (o : CallOutcome) → CallIs o → SamePast h st.table o.after.table
  call_past _ (placed e) =
      let p = passes (placed_passes e).0 in
      written_past h own_call st.table (le_trans (frame_cells h p.0.valid) p.0.long)
  call_past _ (stopped r e) = record { long = refl; past = refl }

  -- an accepted call: no cause holds, and the outcome is that of the rule
  taken_is : (n : Cost) → (call_of h jobs st).answer ≡ CallAnswer.taken n → (first_of tried ≡ none) × (call_of h jobs st ≡ outcome)
  taken_is n = go (call_of h jobs st) call_is
    where
      go : (o : CallOutcome) → CallIs o → o.answer ≡ CallAnswer.taken n → (first_of tried ≡ none) × (o ≡ outcome)
      go _ (placed e) q = (e, refl)
      go _ (stopped r e) q = absurd (refused_taken q)

  module _ (n : Cost) (q : (call_of h jobs st).answer ≡ CallAnswer.taken n) where
    -- what it was tried for
    taken_passes : Running h st × Good h (cell h st.table) jobs
    taken_passes = passes (placed_passes (taken_is n q).0).0

    taken_lengths : (i : ℕ) → i < length jobs → 1 ≤ (job_at jobs i).slots
    taken_lengths i l =
        let inside = (first_none out_of_limits (jobs_outside jobs) _ (jobs_pass (placed_passes (taken_is n q).0).0)).0 in
        within_low 1 64 (job_at jobs i).slots ((jobs_inside jobs inside).2 i l).1

    taken_fits : call_fits h st.clock jobs (cell h st.table) ≡ true
    taken_fits = (placed_passes (taken_is n q).0).1

    taken_table : (call_of h jobs st).after.table ≡ table_left
    taken_table = ap (λ (o : CallOutcome). o.after.table) (taken_is n q).1

    taken_count : n.count ≡ ones (evicted_set h st.clock jobs (cell h st.table))
    taken_count =
        let o = (taken_is n q).1 in
        let same : n ≡ cost_of h jobs st = cc in
        ap (λ (c : Cost). c.count) same

    -- the rule's table with any order of ties leaves a valid table that loses least, that of the order in force among them
    taken_any_order : (ties : Ties) → TotalTies ties → LeastCall ties h st.clock jobs n (cell h st.table) (called ties h st.clock jobs (cell h st.table))
    taken_any_order ties o =
        let t = cell h st.table in
        let r = taken_passes.0 in
        let good = taken_passes.1 in
        record {
          slots = called_rule ties o h st.clock jobs t r.valid r.well_formed.cells good (called ties h st.clock jobs t) (λ s b l m. refl);
          valid = called_valid ties o h st.clock jobs t r.valid r.well_formed.cells good taken_fits;
          lost_cells = called_lost ties o h st.clock jobs t r.valid r.well_formed.cells good;
          reported = taken_count ∙ sym (called_count ties o h st.clock jobs t r.valid r.well_formed.cells good);
          least = λ v w p.
              omega (
                arith,
                called_upto ties o h st.clock jobs t r.valid r.well_formed.cells good p,
                fewest_upto h st.clock jobs t (cell h v) r.valid r.well_formed.cells good w p,
              );
        }

    own_least : LeastCall (tie_of st.hold) h st.clock jobs n (cell h st.table) own_call
    own_least = taken_any_order (tie_of st.hold) (tie_total st.hold)

    taken_valid : ValidCall h st.clock jobs (cell h st.table) (cell h (call_of h jobs st).after.table)
    taken_valid = rw taken_table (cells_left_valid taken_passes.0 taken_passes.1 taken_fits)

    taken_rule : Each h (λ s b. cell h (call_of h jobs st).after.table s b ≡ own_call s b)
    taken_rule = rw taken_table (cell_written h own_call st.table)

    taken_slots : (s : ℕ) → s < h.slots → JobsRule (tie_of st.hold) h st.clock jobs (cell h st.table) (cell h (call_of h jobs st).after.table) s
    taken_slots s l =
        subst (λ (x : List ℕ). JobsRule (tie_of st.hold) h st.clock jobs (cell h st.table) (cell h x) s) (sym taken_table)
        (called_rule (tie_of st.hold) (tie_total st.hold) h st.clock jobs (cell h st.table) taken_passes.0.valid taken_passes.0.well_formed.cells taken_passes.1 cells_left cell_called s l)

    taken_order : InEvictionOrder h st.clock (cell h st.table) (eviction_order h st.clock (cell h st.table))
    taken_order = order_is h st.clock (cell h st.table) taken_passes.0.valid taken_passes.0.well_formed.cells

    taken_lost : Each h (λ s b. lost (cell h st.table) (cell h (call_of h jobs st).after.table) s b
        ≡ in_set (eviction_order h st.clock (cell h st.table)) (evicted_set h st.clock jobs (cell h st.table)) s b)
    taken_lost s b l m =
        rw taken_table (sym (cells_left_lost s b l m) ∙ own_least.lost_cells s b l m)

    taken_reported : n.count ≡ cells h (λ s b. lost (cell h st.table) (cell h (call_of h jobs st).after.table) s b)
    taken_reported =
        rw taken_table
        (own_least.reported
        ∙ cells_ext h (λ s b. lost (cell h st.table) own_call s b) (λ s b. lost (cell h st.table) cells_left s b) cells_left_lost)

    taken_excess : GreatestExcess (longest_jobs jobs) (free_capacity h st.clock (cell h st.table)) n.count
    taken_excess =
        rw (taken_count ∙ evicts_excess h st.clock jobs (cell h st.table) taken_passes.0.valid taken_passes.0.well_formed.cells taken_fits)
        (greatest_excess h st.clock jobs (cell h st.table))

    taken_least : (u : List ℕ) → ValidCall h st.clock jobs (cell h st.table) (cell h u) → (p : ℕ)
        → lost_up_to h (cell h st.table) (cell h (call_of h jobs st).after.table) p ≤ lost_up_to h (cell h st.table) (cell h u) p
    taken_least u v p =
        let better : ℕ → ℕ → Bool = λ s b. leb (priority_of h (number_in (cell h st.table s b))) p in
        rw taken_table (omega (
          arith,
          cells_ext h (λ s b. lost (cell h st.table) own_call s b && better s b) (λ s b. lost (cell h st.table) cells_left s b && better s b)
              (λ s b l m. ap (λ (c : Bool). c && better s b) (cells_left_lost s b l m)),
          own_least.least u v p,
        ))

-- the order of ties in force: nothing that the answer goes by has to do with it
call_any_answer : (h : Head) (jobs : List Job) (st : State) (hold : Bool) → (call_of h jobs (with_order hold st)).answer ≡ (call_of h jobs st).answer
call_any_answer h jobs st hold = call_answer h jobs (with_order hold st) ∙ sym (call_answer h jobs st)

-- a refused call leaves what there was
pub call_refused : (h : Head) (jobs : List Job) (st : State) (n : ℕ) (c : Refusal) → (call_of h jobs st).answer ≡ CallAnswer.refused n c → (call_of h jobs st).after ≡ st
call_refused h jobs st n c = go (call_of h jobs st) (call_is h jobs st)
  where
    go : (o : CallOutcome) → CallIs h jobs st o → o.answer ≡ CallAnswer.refused n c → o.after ≡ st
    go _ (placed e) q = absurd (let z : ◌≡◌ {A = ℕ} 0 1 = cc in omega arith)
    go _ (stopped r e) q = refl

-- what is known of an accepted call: its frame is a running one, its jobs have passed their causes, and each needs a slot
pub call_accepted : (h : Head) (jobs : List Job) (st : State) (n : Cost) → (call_of h jobs st).answer ≡ CallAnswer.taken n
    → Running h st × Good h (cell h st.table) jobs × ((i : ℕ) → i < length jobs → 1 ≤ (job_at jobs i).slots)
call_accepted h jobs st n q =
    ((taken_passes h jobs st n q).0, (taken_passes h jobs st n q).1, taken_lengths h jobs st n q)

-- The call theorem: the claims about call hold for every head record, list of jobs and state.
pub call_claim_lem : (h : Head) (jobs : List Job) (st : State) → CallClaim h jobs st
call_claim_lem h jobs st = record {
  seven = call_seven h jobs st (call_of h jobs st) (call_is h jobs st);
  valid = taken_valid h jobs st;
  rule = taken_rule h jobs st;
  slots = taken_slots h jobs st;
  order = taken_order h jobs st;
  evicted = λ n q. evicted_first_smallest h st.clock jobs (cell h st.table) (taken_fits h jobs st n q);
  frees = λ e. let r = (passes h jobs st e).0 in set_frees h st.clock (cell h st.table) r.valid r.well_formed.cells;
  lost_cells = taken_lost h jobs st;
  reported = taken_reported h jobs st;
  least = taken_least h jobs st;
  nine = λ n q u. let r = (taken_passes h jobs st n q).0 in nine_counts_all h (cell h st.table) (cell h u) r.valid r.well_formed.cells;
  capacity = λ e.
      let p = passes h jobs st e in
      call_by_capacity h st.clock jobs (cell h st.table) p.0.valid p.0.well_formed.cells p.1;
  excess = taken_excess h jobs st;
  any_order = taken_any_order h jobs st;
  any_answer = call_any_answer h jobs st;
  past = call_past h jobs st (call_of h jobs st) (call_is h jobs st);
}
