-- Small frames computed and proved: what the definitions of this layer say of them, and of the frame with free 3, 1, 1, 1 what holds of every
-- placement.
--
-- In order: what computes; a plan's ties and bridges (`three_planned`); rank, line, call and bridge where the numbers do not ascend (`granted_by_rank`, `planned_by_line`,
-- `called_by_place`); the two orders of ties (`held-..`, `calls_by_order`); the clock: the slots above it, its range, its own slot (`clock-..`); the worst priority is evicted
-- (`worst_evicted`); what every valid placement of a call that is taken loses (`must_go`, `goes`); free 3, 1, 1, 1: no placement in the empty cells
-- (`no_empty_placement`), one cell must go and one goes (`one_must_go`, `one_goes`); the room for r at both edges (`capacity_3111`, `capacity_clock`, `longest_first`,
-- `plan_capacity_lem`, `no_plan_3111`, `plan_3121`). Then what holds the definitions to document 01 from two sides, each a list of cases and one fact: each clause of a sound table broken
-- alone (`sound_broken`, `sound_broken_edges`); the limits of a call and of the lent table and clock at both edges, and the causes of plan and call two at a time in the listed order (`plans_answered`,
-- `calls_answered`, `calls_answered_edges`); the records of a head and of a list at their edges (`records_answered`, `plan_list`, `call_list`); the order of loss (`losses`). (The starred frames of document
-- 01, as texts, are in the frame crate's proofs/Starred.antt.)
-- Assumes nothing.
use Prim.Native.Nat.{ℕ, zero, suc, ◌+◌, ◌≤◌}
use native.Mathlib.Omega.{arith}
use mathlib.Core.Path.{◌≡◌, refl, sym}
use mathlib.Core.Bool.{Bool, true, false}
use mathlib.Core.List.{List, [], ◌∷◌, ◌++◌, map}
use lib.ListN.{take, replicate}
use Rattle.laws.specs.Sums.{sum, greatest, every}
use Rattle.laws.specs.Lists.{at, tabulate}
use Rattle.laws.specs.Placement.{Ties, tie_place, tie_hold, served, at_slot, Placed, everywhere, excess}
use Rattle.laws.specs.Grants.{granted, turn, most}
use Rattle.laws.specs.Eviction.{added, searched, ones}
use Rattle.laws.proofs.Placement.{placed_fits}
use Rattle.laws.proofs.Excess.{excess_none}
use Rattle.station.specs.Head.{Head, Preset, Job, with_supply, with_tie, valid, has_number, all_in_limits, all_distinct, masks_in}
use Rattle.station.specs.Refusal.{Refusal, first_of, out_of_limits, number_used, mandatory_not_feasible, call_not_feasible, too_short, too_many, not_well_formed}
use Rattle.station.proofs.Theorems.{valid_of}
use Rattle.station.specs.declared.types.Preset as record-of-preset
use Rattle.station.specs.declared.types.Head as record-of-head
use Rattle.station.specs.declared.types.Job as record-of-job
use Rattle.station.specs.declared.types.Refusal as cause
use Rattle.station.specs.declared.types.Refusal.TheVariants.{TooShort}
use Rattle.std.specs.Prelude.{Result, Err}
use Rattle.placing.specs.Table.{cell, cells, laid_out, well_formed}
use Rattle.placing.specs.State.{State, state_of}
use Rattle.placing.specs.Valid.{ValidPlan, first_clock, clock_in, usable, ValidCall, lost}
use Rattle.placing.specs.Plan.{plan_free_count, grants, planned, placing, needs_from}
use Rattle.placing.specs.Call.{free_number_from, called, evicted_set, eviction_order, downward, in_set, call_fits}
use Rattle.placing.specs.Capacity.{longest_jobs, free_capacity, call_capacity, largest_mandatory, plan_capacity}
use Rattle.placing.specs.Outcomes.{cost, written, plan_of, CallAnswer, CallOutcome, PlanAnswer, PlanOutcome, call_of}
use Rattle.placing.specs.Causes.{call_jobs}
use Rattle.placing.specs.PlanDone.{PlanDone, plan_meant}
use Rattle.placing.specs.CallDone.{CallDone, call_meant}
use Rattle.placing.specs.Entries.{plan_too_short, PlanEntered, CallEntered}
use Rattle.placing.proofs.ByCapacity.{plan_by_capacity}
use Rattle.placing.proofs.ClaimsHold.{call_claim_lem}

-- ---- what computes: `unfolding plans` opens all that a plan needs, `unfolding calls` all that a call needs

unfoldable pub plans : Head → List ℕ → PlanOutcome
unfolding
    sum greatest tabulate served at_slot granted turn most valid has_number all_in_limits all_distinct masks_in first_of
    needs_from grants planned placing written plan_of
plans h t = plan_of h t

unfoldable pub calls : Head → List Job → State → CallOutcome
unfolding
    sum greatest every tabulate served at_slot added searched ones valid has_number all_in_limits all_distinct masks_in first_of
    laid_out well_formed placing called evicted_set eviction_order downward in_set call_fits written call_of
calls h jobs st = call_of h jobs st

-- ---- presets and jobs

abbrev pub no_busy : List ℕ
no_busy = replicate 8 0

abbrev pub preset : ℕ → ℕ → ℕ → ℕ → Preset
preset n p m o = record { number = n; priority = p; mandatory = m; optional = o }

abbrev pub job : ℕ → ℕ → Job
job n c = record { number = n; slots = c }

-- a head without a supply line, with the order of ties by place
abbrev pub head_of : ℕ → ℕ → List ℕ → List Preset → Head
head_of s b busy presets = record { slots = s; bridges = b; supply = 0; hold = false; busy = busy; presets = presets }

-- ---- the plan's ties and bridges: S 3, B 2, three presets of m 2

abbrev three_presets : Head
three_presets = head_of 3 2 no_busy (preset 1 0 2 0 ∷ preset 2 0 2 0 ∷ preset 3 0 2 0 ∷ [])

-- slot 1 holds presets 1 2, slot 2 holds 1 3, slot 3 holds 2 3
pub three_planned : take 6 (plan_of three_presets (replicate 512 0)).table ≡ 513 ∷ 514 ∷ 513 ∷ 515 ∷ 514 ∷ 515 ∷ []
unfolding plans
three_planned = refl

-- ---- the orders of ties

-- the cells of the frame that the rule leaves with an order of ties
abbrev planned_by : Ties → Head → List ℕ
planned_by ties h = written h (planned ties h) []

-- ---- rank, line, call and bridge, of numbers that do not ascend: 20, 10, 255

-- "Rank: better priority first, then the earlier line": one cell, for which three presets compete. The best priority has it in the last line; of one priority the first line has it, and
-- neither the smallest number nor the greatest.
abbrev competing : ℕ → ℕ → ℕ → Head
competing p q r = head_of 1 1 no_busy (preset 20 p 0 1 ∷ preset 10 q 0 1 ∷ preset 255 r 0 1 ∷ [])

pub granted_by_rank : map (λ h. (plan_of h (replicate 512 0)).answer) (competing 9 5 0 ∷ competing 5 5 5 ∷ [])
    ≡ PlanAnswer.granted (0 ∷ 0 ∷ 1 ∷ []) ∷ PlanAnswer.granted (1 ∷ 0 ∷ 0 ∷ []) ∷ []
unfolding plans
granted_by_rank = refl

-- "Equal ones: the earlier line first", by either order of ties where nobody has a cell just before; and "The chosen, in file order, take the free bridges in ascending order", whoever has
-- the most to get.
abbrev in_lines : ℕ → ℕ → ℕ → ℕ → Head
in_lines bridges a b c = head_of 3 bridges no_busy (preset 20 0 a 0 ∷ preset 10 0 b 0 ∷ preset 255 0 c 0 ∷ [])

pub planned_by_line : (map (λ ties. planned_by ties (in_lines 1 1 1 1)) (tie_place ∷ tie_hold ∷ []) ≡ replicate 2 (532 ∷ 522 ∷ 767 ∷ []))
    × (planned_by tie_place (in_lines 3 1 2 3) ≡ 532 ∷ 522 ∷ 767 ∷ 522 ∷ 767 ∷ 0 ∷ 767 ∷ 0 ∷ 0 ∷ [])
unfolding plans
planned_by_line = (refl, refl)

-- The same of a call's jobs, "in the call's order".
abbrev in_call : ℕ → ℕ → ℕ → ℕ → Bool → List ℕ
in_call bridges a b c hold =
    (call_of (head_of 3 bridges no_busy []) (job 20 a ∷ job 10 b ∷ job 255 c ∷ []) (state_of (replicate 512 0) first_clock hold)).after.table

pub called_by_place : (map (λ hold. take 3 (in_call 1 1 1 1 hold)) (false ∷ true ∷ []) ≡ replicate 2 (1044 ∷ 1034 ∷ 1279 ∷ []))
    × (take 9 (in_call 3 1 2 3 false) ≡ 1044 ∷ 1034 ∷ 1279 ∷ 1034 ∷ 1279 ∷ 0 ∷ 1279 ∷ 0 ∷ 0 ∷ [])
unfolding calls
called_by_place = (refl, refl)

-- ---- who holds

-- m 1 in the first line and m 2 in the second
abbrev one_and_two : List Preset
one_and_two = preset 1 0 1 0 ∷ preset 2 0 2 0 ∷ []

-- "those with a cell in the slot just before come first": the second line stays in slot 2; by place the first line goes first
pub held_on : (planned_by tie_hold (head_of 3 1 no_busy one_and_two) ≡ 514 ∷ 514 ∷ 513 ∷ []) × (planned_by tie_place (head_of 3 1 no_busy one_and_two) ≡ 514 ∷ 513 ∷ 514 ∷ [])
unfolding plans
held_on = (refl, refl)

-- a plan goes by the order of its head
pub held_by_head : (take 3 (plan_of (with_tie (head_of 3 1 no_busy one_and_two) true) (replicate 512 0)).table ≡ 514 ∷ 514 ∷ 513 ∷ [])
    × (take 3 (plan_of (with_tie (head_of 3 1 no_busy one_and_two) false) (replicate 512 0)).table ≡ 514 ∷ 513 ∷ 514 ∷ [])
unfolding plans
held_by_head = (refl, refl)

-- in the slot just before, and in no earlier one: where slot 2 is busy, nobody has a cell just before slot 3
pub held_just_before : planned_by tie_hold (head_of 4 1 (2 ∷ replicate 7 0) one_and_two) ≡ 514 ∷ 256 ∷ 513 ∷ 514 ∷ []
unfolding plans
held_just_before = refl

-- on any bridge: four presets of m 2 on two bridges, where the third and the fourth stay
pub held_in_pairs : planned_by tie_hold (head_of 4 2 no_busy (preset 1 0 2 0 ∷ preset 2 0 2 0 ∷ preset 3 0 2 0 ∷ preset 4 0 2 0 ∷ []))
    ≡ 513 ∷ 514 ∷ 515 ∷ 516 ∷ 515 ∷ 516 ∷ 513 ∷ 514 ∷ []
unfolding plans
held_in_pairs = refl

-- the order of ties says who is chosen, and not on which bridge: "The chosen, in file order, take the free bridges in ascending order."
pub held_bridges : planned_by tie_hold (head_of 2 2 (0 ∷ 1 ∷ replicate 6 0) one_and_two) ≡ 514 ∷ 256 ∷ 513 ∷ 514 ∷ []
unfolding plans
held_bridges = refl

-- a refinement cell holds as a required one does: 10, which has no other cells, stays in slot 2
pub held_by_refinement : planned_by tie_hold (head_of 3 1 no_busy (preset 20 0 1 0 ∷ preset 10 0 0 2 ∷ [])) ≡ 778 ∷ 778 ∷ 532 ∷ []
unfolding plans
held_by_refinement = refl

-- The order that is in force where a call comes: by hold c2 c2 c1, and a later call by place leaves those and places c4 c3 c4.
abbrev called_by_hold : List ℕ
called_by_hold = (call_of (head_of 6 1 no_busy []) (job 1 1 ∷ job 2 2 ∷ []) (state_of (replicate 512 0) first_clock true)).after.table

pub calls_by_order : (take 6 called_by_hold ≡ 1026 ∷ 1026 ∷ 1025 ∷ 0 ∷ 0 ∷ 0 ∷ [])
    × (take 6 (call_of (head_of 6 1 no_busy []) (job 3 1 ∷ job 4 2 ∷ []) (state_of called_by_hold first_clock false)).after.table ≡ 1026 ∷ 1026 ∷ 1025 ∷ 1028 ∷ 1027 ∷ 1028 ∷ [])
unfolding calls
calls_by_order = (refl, refl)

-- ---- the clock (document 02, 2026-05): "A call uses slots above the clock"

-- slots 1 to 4 at the clocks 0 to 5: at 0 all may be used, at 3 slot 4 alone, at 4 and 5 none
pub clock_usable : map (λ clock. map (usable clock) (0 ∷ 1 ∷ 2 ∷ 3 ∷ [])) (0 ∷ 1 ∷ 3 ∷ 4 ∷ 5 ∷ [])
    ≡ (true ∷ true ∷ true ∷ true ∷ []) ∷ (false ∷ true ∷ true ∷ true ∷ []) ∷ (false ∷ false ∷ false ∷ true ∷ []) ∷ replicate 4 false ∷ replicate 4 false ∷ []
clock_usable = refl

-- "2 and 11 take 0 to S + 1 as the clock's range"
pub clock_range : map (clock_in 4) (0 ∷ 1 ∷ 4 ∷ 5 ∷ 6 ∷ []) ≡ true ∷ true ∷ true ∷ true ∷ false ∷ []
clock_range = refl

-- A frame of two slots and one bridge: a job of two slots at 0, and none at 1; there a job of one slot has slot 2, and at 2 and 3 none has a place.
abbrev two_slots : Head
two_slots = head_of 2 1 no_busy []

abbrev clock_call : ℕ → ℕ → CallAnswer
clock_call clock c = (call_of two_slots (job 5 c ∷ []) (state_of (replicate 512 0) clock false)).answer

pub clock_slots : (map (λ clock. clock_call clock 2) (0 ∷ 1 ∷ []) ≡ CallAnswer.taken (cost 0) ∷ CallAnswer.refused 0 call_not_feasible ∷ [])
    × (map (λ clock. clock_call clock 1) (1 ∷ 2 ∷ 3 ∷ 4 ∷ [])
    ≡ CallAnswer.taken (cost 0) ∷ CallAnswer.refused 0 call_not_feasible ∷ CallAnswer.refused 0 call_not_feasible ∷ CallAnswer.refused 0 not_well_formed ∷ [])
    × (take 2 (call_of two_slots (job 5 1 ∷ []) (state_of (replicate 512 0) 1 false)).after.table ≡ 0 ∷ 1029 ∷ [])
unfolding calls
clock_slots = (refl, refl, refl)

-- `o1 0 | o1 -` at clock 1: the empty cell stands in the clock's own slot, so the refinement above it goes; at clock 0 nothing is lost.
abbrev own_slot : Head
own_slot = head_of 2 2 (0 ∷ 2 ∷ replicate 6 0) (preset 1 0 0 2 ∷ [])

abbrev own_table : List ℕ
own_table = 769 ∷ 0 ∷ 769 ∷ 256 ∷ replicate 508 0

pub clock_costs : (map (λ clock. (call_of own_slot (job 9 1 ∷ []) (state_of own_table clock false)).answer) (0 ∷ 1 ∷ []) ≡ CallAnswer.taken (cost 0) ∷ CallAnswer.taken (cost 1) ∷ [])
    × (take 4 (call_of own_slot (job 9 1 ∷ []) (state_of own_table 1 false)).after.table ≡ 769 ∷ 0 ∷ 1033 ∷ 256 ∷ [])
unfolding calls
clock_costs = (refl, refl)

-- A call cell in the clock's own slot or below it is no fault of soundness, and its number is used: `c5 | c6 | 0` at the clocks 0 to 2.
abbrev three_slots : Head
three_slots = head_of 3 1 no_busy []

pub clock_gone : (map (λ clock. (call_of three_slots (job 7 1 ∷ []) (state_of (1029 ∷ 1030 ∷ replicate 510 0) clock false)).answer) (0 ∷ 1 ∷ 2 ∷ []) ≡ replicate 3 (CallAnswer.taken (cost 0)))
    × ((call_of three_slots (job 5 1 ∷ []) (state_of (1029 ∷ 1030 ∷ replicate 510 0) 2 false)).answer ≡ CallAnswer.refused 0 number_used)
unfolding calls
clock_gone = (refl, refl)

-- ---- priorities 0 and 9 hold the last slot, all else being busy: a one-slot call takes the 9's

abbrev last_slot : Head
last_slot = head_of 2 2 (1 ∷ 1 ∷ replicate 6 0) (preset 1 0 0 1 ∷ preset 2 9 0 1 ∷ [])

pub worst_evicted : take 4 (call_of last_slot (job 7 1 ∷ []) (state_of (256 ∷ 256 ∷ 769 ∷ 770 ∷ replicate 508 0) first_clock false)).after.table ≡ 256 ∷ 256 ∷ 769 ∷ 1031 ∷ []
unfolding calls
worst_evicted = refl

-- ---- a call that is taken, with n cells lost

module _ (h : Head) (clock : ℕ) (hold : Bool) (jobs : List Job) (t : List ℕ) (n : ℕ) (taken : (call_of h jobs (state_of t clock hold)).answer ≡ CallAnswer.taken (cost n)) where
  -- every valid placement loses n cells or more
  pub must_go : (u : List ℕ) → ValidCall h clock jobs (cell h t) (cell h u) → n ≤ cells h (λ s b. lost (cell h t) (cell h u) s b)
  must_go u v =
      let c = call_claim_lem h jobs (state_of t clock hold) in
      omega (
        arith,
        c.reported (cost n) taken,
        c.nine (cost n) taken (call_of h jobs (state_of t clock hold)).after.table,
        c.nine (cost n) taken u,
        c.least (cost n) taken u v 9,
      )

  -- and there is one that loses n
  pub goes : (u : List ℕ) × ValidCall h clock jobs (cell h t) (cell h u) × (cells h (λ s b. lost (cell h t) (cell h u) s b) ≡ n)
  goes = let c = call_claim_lem h jobs (state_of t clock hold) in ((call_of h jobs (state_of t clock hold)).after.table, c.valid (cost n) taken, sym (c.reported (cost n) taken))

-- ---- free 3, 1, 1, 1 and one optional cell in slot 2, a call of 3 and 3

abbrev frame3111 : Head
frame3111 = head_of 4 4 (0 ∷ 12 ∷ 14 ∷ 14 ∷ replicate 4 0) (preset 1 0 1 1 ∷ [])

-- its plan: a mandatory cell in slot 1, an optional cell in slot 2
abbrev table3111 : List ℕ
table3111 = 513 ∷ 0 ∷ 0 ∷ 0 ∷ 769 ∷ 0 ∷ 256 ∷ 256 ∷ 0 ∷ 256 ∷ 256 ∷ 256 ∷ 0 ∷ 256 ∷ 256 ∷ 256 ∷ replicate 496 0

abbrev three_and_three : List Job
three_and_three = job 5 3 ∷ job 6 3 ∷ []

pub planned_3111 : (plan_of frame3111 (replicate 512 0)).table ≡ table3111
unfolding plans
planned_3111 = refl

-- the empty cells are 3, 1, 1, 1
pub free_3111 : tabulate 4 (free_number_from frame3111 first_clock (cell frame3111 table3111)) ≡ 3 ∷ 1 ∷ 1 ∷ 1 ∷ []
unfolding tabulate sum
free_3111 = refl

-- No placement in the empty cells alone exists.
pub no_empty_placement : (a : ℕ → ℕ → Bool) → Placed everywhere 2 (at (3 ∷ 3 ∷ [])) 4 (free_number_from frame3111 first_clock (cell frame3111 table3111)) a → ⊥
unfolding sum greatest
no_empty_placement a p =
    let z : excess 2 (at (3 ∷ 3 ∷ [])) 4 (free_number_from frame3111 first_clock (cell frame3111 table3111)) ≡ 0 = placed_fits p in
    omega arith

takes_one : (call_of frame3111 three_and_three (state_of table3111 first_clock false)).answer ≡ CallAnswer.taken (cost 1)
unfolding calls
takes_one = refl

-- Exactly one cell must go: every valid placement loses one or more, and the one that the call leaves loses one.
pub one_must_go : (u : List ℕ) → ValidCall frame3111 first_clock three_and_three (cell frame3111 table3111) (cell frame3111 u)
    → 1 ≤ cells frame3111 (λ s b. lost (cell frame3111 table3111) (cell frame3111 u) s b)
one_must_go = must_go frame3111 first_clock false three_and_three table3111 1 takes_one

pub one_goes : (u : List ℕ) × ValidCall frame3111 first_clock three_and_three (cell frame3111 table3111) (cell frame3111 u)
    × (cells frame3111 (λ s b. lost (cell frame3111 table3111) (cell frame3111 u) s b) ≡ 1)
one_goes = goes frame3111 first_clock false three_and_three table3111 1 takes_one

-- ---- the room for r, and the r largest needs, for r = 0 to 3

-- docs/CALLS.md, the worked frame: of its empty cells, and with the optional cell; the two jobs exceed the first at 2, and nowhere the other
pub capacity_3111 : (tabulate 4 (longest_jobs three_and_three) ≡ 0 ∷ 3 ∷ 6 ∷ 6 ∷ [])
    × (tabulate 4 (free_capacity frame3111 first_clock (cell frame3111 table3111)) ≡ 0 ∷ 4 ∷ 5 ∷ 6 ∷ [])
    × (tabulate 4 (call_capacity frame3111 first_clock (cell frame3111 table3111)) ≡ 0 ∷ 4 ∷ 6 ∷ 7 ∷ [])
unfolding tabulate sum
capacity_3111 = (refl, refl, refl)

-- slot 1 has no room where the clock is in it, slot 2 has; the longest job first, wherever it stands in the call
pub capacity_clock : (tabulate 4 (call_capacity frame3111 1 (cell frame3111 table3111)) ≡ 0 ∷ 3 ∷ 4 ∷ 4 ∷ [])
    × (tabulate 4 (free_capacity frame3111 1 (cell frame3111 table3111)) ≡ 0 ∷ 3 ∷ 3 ∷ 3 ∷ [])
unfolding tabulate sum
capacity_clock = (refl, refl)

pub longest_first : tabulate 4 (longest_jobs (job 5 1 ∷ job 6 3 ∷ job 7 2 ∷ [])) ≡ 0 ∷ 3 ∷ 5 ∷ 6 ∷ []
unfolding tabulate sum
longest_first = refl

-- Free 3, 1, 1, 1, and 3, 1, 2, 1, with m 3 and 3: the first has no valid plan, since the room for 2 is 5; the other has one.
abbrev plan3111 : Head
plan3111 = head_of 4 3 (0 ∷ 14 ∷ 14 ∷ replicate 5 0) (preset 1 0 3 0 ∷ preset 2 0 3 0 ∷ [])

abbrev plan3121 : Head
plan3121 = head_of 4 3 (0 ∷ 10 ∷ 14 ∷ replicate 5 0) (preset 1 0 3 0 ∷ preset 2 0 3 0 ∷ [])

pub plan_capacity_lem : (tabulate 4 (largest_mandatory plan3111) ≡ 0 ∷ 3 ∷ 6 ∷ 6 ∷ [])
    × (tabulate 4 (plan_capacity plan3111) ≡ 0 ∷ 4 ∷ 5 ∷ 6 ∷ [])
    × (tabulate 4 (plan_capacity plan3121) ≡ 0 ∷ 4 ∷ 6 ∷ 7 ∷ [])
unfolding tabulate sum
plan_capacity_lem = (refl, refl, refl)

pub no_plan_3111 : (u : List ℕ) → ValidPlan plan3111 (cell plan3111 u) → ⊥
unfolding plans
no_plan_3111 u v =
    let six : largest_mandatory plan3111 2 ≤ plan_capacity plan3111 2 = (plan_by_capacity plan3111 (valid_of plan3111 refl)).fits.0 (u, v) 2 in
    omega arith

pub plan_3121 : (u : List ℕ) × ValidPlan plan3121 (cell plan3121 u)
unfolding plans
plan_3121 = (plan_by_capacity plan3121 (valid_of plan3121 refl)).fits.1 ((excess_none 2 (at (3 ∷ 3 ∷ [])) 4 (plan_free_count plan3121)).0 refl)

-- ---- held from two sides: the tables, heads and jobs of the cases below

-- a lent table of 512 cells that begins so
abbrev pub lent : List ℕ → List ℕ
lent l = take 512 (l ++ replicate 512 0)

-- k call cells, numbered n + 1 to n + k
unfoldable pub job_cells : ℕ → ℕ → List ℕ
job_cells zero n = []
job_cells (suc k) n = (1025 + n) ∷ job_cells k (suc n)

-- k jobs of one slot, numbered n + 1 to n + k
unfoldable pub jobs_from : ℕ → ℕ → List Job
jobs_from zero n = []
jobs_from (suc k) n = job (suc n) 1 ∷ jobs_from k (suc n)

-- a frame with nothing busy and no presets; the same with one slot and one bridge, and presets
abbrev bare : ℕ → ℕ → Head
bare s b = head_of s b no_busy []

abbrev holds : List Preset → Head
holds ps = head_of 1 1 no_busy ps

-- ---- "A sound table has only the five kinds, ..": each clause broken alone

-- Bridge 2 is busy in slot 2; preset 1 has m 1 and o 2, preset 2 has m 0 and o 1.
abbrev four_slots : Head
four_slots = head_of 4 2 (0 ∷ 2 ∷ replicate 6 0) (preset 1 0 1 2 ∷ preset 2 0 0 1 ∷ [])

-- slot 1: m1 o2; slot 2: o1 -; slot 3: o1 c9; slot 4: c9 0
abbrev sound_table : List ℕ
sound_table = 513 ∷ 770 ∷ 769 ∷ 256 ∷ 769 ∷ 1033 ∷ 1033 ∷ 0 ∷ []

-- the same with v in the last cell
abbrev ends_in : ℕ → List ℕ
ends_in v = 513 ∷ 770 ∷ 769 ∷ 256 ∷ 769 ∷ 1033 ∷ 1033 ∷ v ∷ []

abbrev broken_tables : List (List ℕ)
broken_tables =
    -- "only the five kinds": kind 5
    ends_in 1280
    ∷ ends_in 1287
    -- "0 empty, 1 busy (both with number 0)"
    ∷ ends_in 7
    ∷ ends_in 263
    -- "busy cells just as the head says": one too many; one that lacks
    ∷ ends_in 256
    ∷ (513 ∷ 770 ∷ 769 ∷ 0 ∷ 769 ∷ 1033 ∷ 1033 ∷ 0 ∷ [])
    -- "in required and refinement cells only numbers of the head's presets"
    ∷ ends_in 519
    ∷ ends_in 775
    ∷ ends_in 512
    ∷ ends_in 768
    -- "in call cells only 1 to 255"
    ∷ ends_in 1024
    -- "no number twice in a slot": a job's; a preset's
    ∷ ends_in 1033
    ∷ (513 ∷ 770 ∷ 0 ∷ 256 ∷ 769 ∷ 769 ∷ 1033 ∷ 0 ∷ [])
    -- "exactly m required cells of each preset": too few; too many
    ∷ (0 ∷ 770 ∷ 0 ∷ 256 ∷ 0 ∷ 1033 ∷ 1033 ∷ 0 ∷ [])
    ∷ (513 ∷ 770 ∷ 513 ∷ 256 ∷ 0 ∷ 1033 ∷ 1033 ∷ 0 ∷ [])
    -- "all in slots before its refinement cells"
    ∷ (0 ∷ 770 ∷ 769 ∷ 256 ∷ 513 ∷ 1033 ∷ 1033 ∷ 0 ∷ [])
    -- "at most o refinement cells of each preset"
    ∷ ends_in 770
    -- "none of them a preset's"
    ∷ ends_in 1025
    ∷ []

-- A call on a sound table is taken, and on each of the others refused for 11; "at most 64 job numbers" is in `calls_answered`.
pub sound_broken : map (λ t. (call_of four_slots (job 20 1 ∷ []) (state_of (lent t) 1 false)).answer) (sound_table ∷ broken_tables)
    ≡ CallAnswer.taken (cost 0) ∷ replicate 18 (CallAnswer.refused 0 not_well_formed)
unfolding calls
sound_broken = refl

-- the kinds past the five at their edges: kind 6 and the last one
abbrev broken_edges : List (List ℕ)
broken_edges = ends_in 1536 ∷ ends_in 65535 ∷ []

pub sound_broken_edges : map (λ t. (call_of four_slots (job 20 1 ∷ []) (state_of (lent t) 1 false)).answer) broken_edges ≡ replicate 2 (CallAnswer.refused 0 not_well_formed)
unfolding calls
sound_broken_edges = refl

-- ---- a plan: the limits of a head record and of the lent table, and the causes two at a time, in the order 8, 2, 5

record PlanCase : Type 0 where
  head : Head
  cells_lent : ℕ
  said : PlanAnswer

abbrev grants_all : Head → ℕ → List ℕ → PlanCase
grants_all h n g = record { head = h; cells_lent = n; said = PlanAnswer.granted g }

abbrev stops_plan : Head → ℕ → Refusal → PlanCase
stops_plan h n r = record { head = h; cells_lent = n; said = PlanAnswer.refused 0 r }

abbrev plan_cases : List PlanCase
plan_cases =
    -- "lent table below 512 cells .. the frame's size regardless"
    grants_all (bare 1 1) 512 []
    ∷ stops_plan (bare 1 1) 511 too_short
    -- S from 1 to 64, B from 1 to 8
    ∷ stops_plan (bare 0 1) 512 out_of_limits
    ∷ grants_all (bare 64 1) 512 []
    ∷ stops_plan (bare 65 1) 512 out_of_limits
    ∷ stops_plan (bare 1 0) 512 out_of_limits
    ∷ grants_all (bare 1 8) 512 []
    ∷ stops_plan (bare 1 9) 512 out_of_limits
    -- "`(supply k)`, k from 1 to 8", above B too
    ∷ grants_all (with_supply (bare 1 1) 8) 512 []
    ∷ stops_plan (with_supply (bare 1 1) 9) 512 out_of_limits
    -- busy cells inside the frame only
    ∷ grants_all (head_of 1 1 (1 ∷ replicate 7 0) []) 512 []
    ∷ stops_plan (head_of 1 1 (2 ∷ replicate 7 0) []) 512 out_of_limits
    ∷ stops_plan (head_of 1 1 (0 ∷ 1 ∷ replicate 6 0) []) 512 out_of_limits
    -- a preset's number from 1 to 255, its priority from 0 to 9, m and o from 0 to 64, and no number twice
    ∷ stops_plan (holds (preset 0 0 0 0 ∷ [])) 512 out_of_limits
    ∷ grants_all (holds (preset 1 0 0 0 ∷ [])) 512 (0 ∷ [])
    ∷ grants_all (holds (preset 255 9 0 64 ∷ [])) 512 (1 ∷ [])
    ∷ stops_plan (holds (preset 256 0 0 0 ∷ [])) 512 out_of_limits
    ∷ stops_plan (holds (preset 1 10 0 0 ∷ [])) 512 out_of_limits
    ∷ stops_plan (holds (preset 1 0 64 0 ∷ [])) 512 mandatory_not_feasible
    ∷ stops_plan (holds (preset 1 0 65 0 ∷ [])) 512 out_of_limits
    ∷ stops_plan (holds (preset 1 0 0 65 ∷ [])) 512 out_of_limits
    ∷ stops_plan (holds (preset 1 0 0 0 ∷ preset 1 0 0 0 ∷ [])) 512 out_of_limits
    -- 8 before 2 and before 5, 2 before 5
    ∷ stops_plan (bare 0 1) 511 too_short
    ∷ stops_plan (holds (preset 1 0 2 0 ∷ [])) 511 too_short
    ∷ stops_plan (holds (preset 1 0 2 0 ∷ preset 1 0 0 0 ∷ [])) 512 out_of_limits
    ∷ []

pub plans_answered : map (λ c. (plan_of c.head (replicate c.cells_lent 0)).answer) plan_cases ≡ map (λ c. c.said) plan_cases
unfolding plans
plans_answered = refl

-- ---- a call: its limits, those of the lent table and clock, and the causes two at a time, in the order 8, 2 of the head record, 11, 2, 4, 9, 7

record CallCase : Type 0 where
  head : Head
  clock : ℕ
  jobs : List Job
  table : List ℕ
  said : CallAnswer

abbrev takes : Head → ℕ → List Job → List ℕ → CallCase
takes h clock jobs t = record { head = h; clock = clock; jobs = jobs; table = t; said = CallAnswer.taken (cost 0) }

abbrev stops : Refusal → Head → ℕ → List Job → List ℕ → CallCase
stops r h clock jobs t = record { head = h; clock = clock; jobs = jobs; table = t; said = CallAnswer.refused 0 r }

abbrev call_cases : List CallCase
call_cases =
    -- "lent table below 512 cells"
    takes (bare 1 1) first_clock (job 5 1 ∷ []) (replicate 512 0)
    ∷ stops too_short (bare 1 1) first_clock (job 5 1 ∷ []) (replicate 511 0)
    -- the clock "0 to S + 1"; from S on no slot is left
    ∷ takes (bare 1 1) 0 (job 5 1 ∷ []) (lent [])
    ∷ stops call_not_feasible (bare 1 1) 1 (job 5 1 ∷ []) (lent [])
    ∷ stops call_not_feasible (bare 1 1) 2 (job 5 1 ∷ []) (lent [])
    ∷ stops not_well_formed (bare 1 1) 3 (job 5 1 ∷ []) (lent [])
    -- "jobs in a call" from 1 to 8: "a ninth job in a call, or no job outside a text"
    ∷ stops out_of_limits (bare 1 8) first_clock [] (lent [])
    ∷ takes (bare 1 8) first_clock (jobs_from 8 0) (lent [])
    ∷ stops out_of_limits (bare 1 8) first_clock (jobs_from 9 0) (lent [])
    -- a job's number from 1 to 255
    ∷ stops out_of_limits (bare 1 1) first_clock (job 0 1 ∷ []) (lent [])
    ∷ takes (bare 1 1) first_clock (job 1 1 ∷ []) (lent [])
    ∷ takes (bare 1 1) first_clock (job 255 1 ∷ []) (lent [])
    ∷ stops out_of_limits (bare 1 1) first_clock (job 256 1 ∷ []) (lent [])
    -- c from 1 to 64; it may exceed S
    ∷ stops out_of_limits (bare 1 1) first_clock (job 5 0 ∷ []) (lent [])
    ∷ stops call_not_feasible (bare 1 1) first_clock (job 5 64 ∷ []) (lent [])
    ∷ stops out_of_limits (bare 1 1) first_clock (job 5 65 ∷ []) (lent [])
    -- "a number already used, or twice in a call": a preset's, a job's, a job's of the same call
    ∷ stops number_used four_slots first_clock (job 1 1 ∷ []) (lent sound_table)
    ∷ stops number_used four_slots first_clock (job 9 1 ∷ []) (lent sound_table)
    ∷ stops number_used (bare 2 1) first_clock (job 5 1 ∷ job 5 1 ∷ []) (lent [])
    -- "jobs in a frame" from 0 to 64: the 64th job is taken, the 65th is 9; a table with 65 job numbers is not sound
    ∷ takes (bare 8 8) first_clock (job 64 1 ∷ []) (lent (job_cells 63 0))
    ∷ stops too_many (bare 8 8) first_clock (job 64 1 ∷ job 65 1 ∷ []) (lent (job_cells 63 0))
    ∷ stops not_well_formed (bare 13 5) first_clock (job 200 1 ∷ []) (lent (job_cells 65 0))
    -- 8 before the head record's 2 and before 11, that 2 before 11, both before the call's own
    ∷ stops too_short (bare 0 1) first_clock (job 5 1 ∷ []) (replicate 511 0)
    ∷ stops too_short (bare 1 1) 3 (job 5 1 ∷ []) (replicate 511 0)
    ∷ stops out_of_limits (bare 1 9) 12 (job 5 1 ∷ []) (lent (7 ∷ []))
    ∷ stops out_of_limits (bare 0 1) first_clock [] (lent [])
    ∷ stops not_well_formed (bare 1 1) 3 [] (lent [])
    ∷ stops not_well_formed (bare 1 1) first_clock (job 5 1 ∷ job 5 1 ∷ []) (lent (7 ∷ []))
    -- 2 before 4, before 9 and before 7
    ∷ stops out_of_limits (bare 1 1) first_clock (job 5 1 ∷ job 5 65 ∷ []) (lent [])
    ∷ stops out_of_limits (bare 8 8) first_clock (job 65 0 ∷ []) (lent (job_cells 64 0))
    ∷ stops out_of_limits (bare 1 1) first_clock (job 5 64 ∷ job 6 0 ∷ []) (lent [])
    -- 4 before 9 and before 7
    ∷ stops number_used (bare 8 8) first_clock (job 64 1 ∷ []) (lent (job_cells 64 0))
    ∷ stops number_used (bare 1 1) first_clock (job 5 64 ∷ job 5 64 ∷ []) (lent [])
    -- 9 before 7: no cell is left
    ∷ stops too_many (bare 8 8) first_clock (job 65 1 ∷ []) (lent (job_cells 64 0))
    ∷ []

pub calls_answered : map (λ c. (call_of c.head c.jobs (state_of c.table c.clock false)).answer) call_cases ≡ map (λ c. c.said) call_cases
unfolding calls job_cells jobs_from
calls_answered = refl

-- a preset with m 2 and o 1, and a slot to spare
abbrev two_required : Head
two_required = head_of 4 1 no_busy (preset 20 0 2 1 ∷ [])

abbrev call_edges : List CallCase
call_edges =
    -- 255 is one of the job numbers that are counted: 65 of them are not sound, and beside 64 of them a 65th job is 9
    stops not_well_formed (bare 13 5) first_clock (job 200 1 ∷ []) (lent (1279 ∷ job_cells 64 0))
    ∷ stops too_many (bare 8 8) first_clock (job 65 1 ∷ []) (lent (1279 ∷ job_cells 63 0))
    -- 255 is used, and kept apart from presets, as every number is
    ∷ stops number_used (holds (preset 255 0 0 0 ∷ [])) first_clock (job 255 1 ∷ []) (lent [])
    ∷ stops number_used (bare 2 1) first_clock (job 255 1 ∷ []) (lent (1279 ∷ []))
    ∷ stops not_well_formed (holds (preset 255 0 0 0 ∷ [])) first_clock (job 10 1 ∷ []) (lent (1279 ∷ []))
    -- "exactly m" where m is 0, "at most o" where o is 0: none
    ∷ takes (holds (preset 20 0 0 0 ∷ [])) first_clock (job 10 1 ∷ []) (lent [])
    ∷ stops not_well_formed (holds (preset 20 0 0 0 ∷ [])) first_clock (job 10 1 ∷ []) (lent (532 ∷ []))
    ∷ stops not_well_formed (holds (preset 20 0 0 0 ∷ [])) first_clock (job 10 1 ∷ []) (lent (788 ∷ []))
    -- "all in slots before its refinement cells": none between two required ones
    ∷ takes two_required first_clock (job 10 1 ∷ []) (lent (532 ∷ 532 ∷ 788 ∷ []))
    ∷ stops not_well_formed two_required first_clock (job 10 1 ∷ []) (lent (532 ∷ 788 ∷ 532 ∷ []))
    ∷ []

pub calls_answered_edges : map (λ c. (call_of c.head c.jobs (state_of c.table c.clock false)).answer) call_edges ≡ map (λ c. c.said) call_edges
unfolding calls job_cells
calls_answered_edges = refl

-- ---- the head record and the list: "presets" from 0 to 32, and "preset list below 32 records"

-- a head record that counts so many presets, and n records with the numbers n down to 1
abbrev counting : ℕ → record-of-head.Head
counting n = record { slots = 1; bridges = 1; supply = 0; hold = false; busy = no_busy; count = n }

unfoldable pub records_to : ℕ → List record-of-preset.Preset
records_to zero = []
records_to (suc n) = record { number = suc n; priority = 0; mandatory = 0; optional = 0 } ∷ records_to n

-- nine job records with the numbers 9 down to 1
unfoldable pub job_records_to : ℕ → List record-of-job.Job
job_records_to zero = []
job_records_to (suc n) = record { number = 100 + n; slots = 1 } ∷ job_records_to n

-- A record that counts 32 presets has a plan; one that counts 33 is one "that no text yields", after 8 and before a call's own 2, 4 and 7; a ninth job record is no job.
pub records_answered : ((plan_meant (counting 32) (records_to 32) (lent [])).answer ≡ PlanAnswer.granted (replicate 32 0))
    × ((plan_meant (counting 33) (records_to 33) (lent [])).answer ≡ PlanAnswer.refused 0 out_of_limits)
    × ((plan_meant (counting 33) (records_to 33) (replicate 511 0)).answer ≡ PlanAnswer.refused 0 too_short)
    × ((call_meant (counting 33) (records_to 33) (job 40 2 ∷ []) (state_of (lent (7 ∷ [])) 3 false)).answer ≡ CallAnswer.refused 0 out_of_limits)
    × ((call_meant (counting 33) (records_to 33) [] (state_of (replicate 511 0) first_clock false)).answer ≡ CallAnswer.refused 0 too_short)
    × ((call_meant (counting 0) [] (call_jobs 8 (job_records_to 8)) (state_of (lent []) first_clock false)).answer ≡ CallAnswer.refused 0 call_not_feasible)
    × ((call_meant (counting 0) [] (call_jobs 9 (job_records_to 8)) (state_of (lent []) first_clock false)).answer ≡ CallAnswer.refused 0 out_of_limits)
unfolding plan_meant call_meant plans calls records_to job_records_to call_jobs
records_answered = (refl, refl, refl, refl, refl, refl, refl)

-- A list of 31 records is 8, whatever else is at fault; one of 32 is as the records say.
pub plan_list : (head : record-of-head.Head) (ps : List record-of-preset.Preset) (t u : List ℕ) (r : Result (List ℕ) cause.Refusal)
    → (PlanEntered 31 head ps t u r → (r ≡ plan_too_short) × (u ≡ t)) × (PlanEntered 32 head ps t u r → PlanDone head ps t u r)
plan_list head ps t u r = (λ e. e.short (omega arith), λ e. e.done (omega arith))

pub call_list : (head : record-of-head.Head) (ps : List record-of-preset.Preset) (jobs : List Job) (st : State) (u : List ℕ) (r : Result ℕ cause.Refusal)
    → (CallEntered 31 head ps jobs st u r → (r ≡ Err TooShort) × (u ≡ st.table))
    × (CallEntered 32 head ps jobs st u r → CallDone head ps jobs st u r)
call_list head ps jobs st u r = (λ e. e.short (omega arith), λ e. e.done (omega arith))

-- ---- "The order of loss: worst rank first; for one preset the latest slot first."

record LossCase : Type 0 where
  head : Head
  before : List ℕ
  after : List ℕ

abbrev leaves : Head → List ℕ → List ℕ → LossCase
leaves h t u = record { head = h; before = t; after = u }

abbrev loss_cases : List LossCase
loss_cases =
    -- one preset in two slots: the latest slot goes
    leaves (head_of 2 1 no_busy (preset 1 0 0 2 ∷ [])) (769 ∷ 769 ∷ []) (769 ∷ 1029 ∷ [])
    -- two presets of one priority: the later line is the worse one, though its cell stands in the earlier slot, and on either bridge
    ∷ leaves (head_of 2 1 no_busy (preset 1 0 0 1 ∷ preset 2 0 0 1 ∷ [])) (770 ∷ 769 ∷ []) (1029 ∷ 769 ∷ [])
    ∷ leaves (head_of 1 2 no_busy (preset 1 0 0 1 ∷ preset 2 0 0 1 ∷ [])) (769 ∷ 770 ∷ []) (769 ∷ 1029 ∷ [])
    ∷ leaves (head_of 1 2 no_busy (preset 1 0 0 1 ∷ preset 2 0 0 1 ∷ [])) (770 ∷ 769 ∷ []) (1029 ∷ 769 ∷ [])
    -- not by the number: the later line has the smaller one
    ∷ leaves (head_of 2 1 no_busy (preset 2 0 0 1 ∷ preset 1 0 0 1 ∷ [])) (769 ∷ 770 ∷ []) (1029 ∷ 770 ∷ [])
    -- the worse priority goes before the later line and before the later slot
    ∷ leaves (head_of 2 1 no_busy (preset 1 1 0 1 ∷ preset 2 0 0 1 ∷ [])) (769 ∷ 770 ∷ []) (1029 ∷ 770 ∷ [])
    ∷ []

-- A one-slot call takes the cell that document 01 says.
pub losses : map (λ c. (call_of c.head (job 5 1 ∷ []) (state_of (lent c.before) first_clock false)).after.table) loss_cases ≡ map (λ c. lent c.after) loss_cases
unfolding calls
losses = refl
