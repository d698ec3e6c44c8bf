-- Small frames under a supply that feeds only so many motors, computed: what the definitions of this layer say of them. Document 02, 2026-03.
--
-- In order: the free number of a slot (`free_numbers`), the room for r (`capacity_supplied`), and the table that it is read from (`entries_supplied`); a sound table obeys the cap (`sound_supplied`); plans (`plans_supplied`); calls by what a plan leaves
-- and by earlier calls (`calls_supplied`); lent tables: a lost cell may end empty (`lost_may_end_empty`), and calls one after the other (`three_calls`).
-- Assumes nothing.
use Prim.Native.Nat.{ℕ}
use mathlib.Core.Path.{◌≡◌, refl}
use mathlib.Core.Bool.{true, false}
use mathlib.Core.List.{List, [], ◌∷◌, map}
use lib.ListN.{take, replicate}
use Rattle.laws.specs.Sums.{sum}
use Rattle.laws.specs.Lists.{tabulate}
use Rattle.laws.specs.method.Capacities.{AtLeast}
use Rattle.laws.proofs.Capacities.{at_least_of}
use Rattle.station.specs.Head.{Head, Job, Preset, with_supply}
use Rattle.station.specs.Refusal.{call_not_feasible, mandatory_not_feasible, not_well_formed}
use Rattle.placing.specs.Table.{cell, free_number}
use Rattle.placing.specs.State.{state_of}
use Rattle.placing.specs.Valid.{first_clock, lost}
use Rattle.placing.specs.Plan.{plan_free_count}
use Rattle.placing.specs.Call.{usable_count}
use Rattle.placing.specs.Capacity.{plan_capacity, call_capacity, free_capacity}
use Rattle.placing.specs.Outcomes.{cost, CallAnswer, PlanAnswer, plan_of, call_of}
use Rattle.placing.proofs.Examples.{plans, calls, no_busy, preset, job, head_of, lent}

-- a frame of so many slots and bridges whose supply feeds k motors
abbrev fed : ℕ → ℕ → ℕ → List Preset → Head
fed s b k ps = with_supply (head_of s b no_busy ps) k

-- ---- the free number

-- One slot of four bridges: a held cell, a busy one and two empty ones; without a supply line, and with k = 1, 2, 3 and 8. A preset's required cell, its refinement cell and a call's cell draw
-- one motor each, a busy cell none: "the smaller of the empty cells and k less the cells held".
abbrev numbers_with : ℕ → List ℕ
numbers_with v = map (λ k. free_number (fed 1 4 k []) (cell (fed 1 4 k []) (v ∷ 256 ∷ 0 ∷ 0 ∷ [])) 0) (0 ∷ 1 ∷ 2 ∷ 3 ∷ 8 ∷ [])

pub free_numbers : map numbers_with (513 ∷ 769 ∷ 1031 ∷ []) ≡ replicate 3 (2 ∷ 0 ∷ 1 ∷ 2 ∷ 2 ∷ [])
unfolding sum
free_numbers = refl

-- The room for 0 to 4, of four empty cells under a supply of 2, for a plan and for a call; and of `m1 o1 0 0` under a supply of 3 in the cells that a call may use and in the empty ones.
pub capacity_supplied : (tabulate 5 (plan_capacity (fed 1 4 2 [])) ≡ 0 ∷ 1 ∷ 2 ∷ 2 ∷ 2 ∷ [])
    × (tabulate 5 (free_capacity (fed 1 4 2 []) first_clock (cell (fed 1 4 2 []) (lent []))) ≡ 0 ∷ 1 ∷ 2 ∷ 2 ∷ 2 ∷ [])
    × (tabulate 5 (call_capacity (fed 1 4 3 []) first_clock (cell (fed 1 4 3 []) (lent (513 ∷ 770 ∷ [])))) ≡ 0 ∷ 1 ∷ 2 ∷ 2 ∷ 2 ∷ [])
    × (tabulate 5 (free_capacity (fed 1 4 3 []) first_clock (cell (fed 1 4 3 []) (lent (513 ∷ 770 ∷ [])))) ≡ 0 ∷ 1 ∷ 1 ∷ 1 ∷ 1 ∷ [])
unfolding tabulate sum
capacity_supplied = (refl, refl, refl, refl)

-- So four empty cells under a supply of 2 count in the entries 1 and 2 of the table of slots only; and the clock's own slot counts in none, for a plan it does.
pub entries_supplied : AtLeast (2 ∷ 2 ∷ 0 ∷ 0 ∷ 0 ∷ 0 ∷ 0 ∷ 0 ∷ []) 2 (plan_free_count (fed 2 4 2 []))
    × AtLeast (1 ∷ 1 ∷ 0 ∷ 0 ∷ 0 ∷ 0 ∷ 0 ∷ 0 ∷ []) 2 (usable_count (fed 2 4 2 []) 1 (cell (fed 2 4 2 []) (lent [])))
unfolding tabulate sum
entries_supplied = (at_least_of 2 (plan_free_count (fed 2 4 2 [])), at_least_of 2 (usable_count (fed 2 4 2 []) 1 (cell (fed 2 4 2 []) (lent []))))

-- ---- a sound table

-- `c7 o1` in slot 1 and nothing in slot 2: under a supply of 2 a call finds a place, under one of 1 the table is not sound, and not either where the clock is in the slot or past it; without a supply
-- line, and with one above B, it is.
abbrev two_held : ℕ → Head
two_held k = fed 2 2 k (preset 1 0 0 1 ∷ [])

pub sound_supplied : (map (λ k. (call_of (two_held k) (job 9 1 ∷ []) (state_of (lent (1031 ∷ 769 ∷ [])) 1 false)).answer) (0 ∷ 1 ∷ 2 ∷ 8 ∷ [])
    ≡ CallAnswer.taken (cost 0) ∷ CallAnswer.refused 0 not_well_formed ∷ CallAnswer.taken (cost 0) ∷ CallAnswer.taken (cost 0) ∷ [])
    × (map (λ k. (call_of (two_held k) (job 9 1 ∷ []) (state_of (lent (1031 ∷ 769 ∷ [])) first_clock false)).answer) (1 ∷ 2 ∷ []) ≡ CallAnswer.refused 0 not_well_formed ∷ CallAnswer.taken (cost 0) ∷ [])
    × (map (λ k. (call_of (two_held k) (job 9 1 ∷ []) (state_of (lent (0 ∷ 0 ∷ 1031 ∷ 769 ∷ [])) first_clock false)).answer) (1 ∷ 2 ∷ []) ≡ CallAnswer.refused 0 not_well_formed ∷ CallAnswer.taken (cost 0) ∷ [])
unfolding calls
sound_supplied = (refl, refl, refl)

-- ---- plans

-- Bridge 1 busy and a supply of 1: `- m1 0`. Three required slots under a supply of 2: `m1 m2 0 | m3 0 0`. Two in one slot under a supply of 1: 5. A refinement slot for which no motor is left is not
-- granted.
pub plans_supplied : (take 3 (plan_of (with_supply (head_of 1 3 (1 ∷ replicate 7 0) (preset 1 0 1 0 ∷ [])) 1) (lent [])).table ≡ 256 ∷ 513 ∷ 0 ∷ [])
    × (take 6 (plan_of (fed 2 3 2 (preset 1 0 1 0 ∷ preset 2 0 1 0 ∷ preset 3 0 1 0 ∷ [])) (lent [])).table ≡ 513 ∷ 514 ∷ 0 ∷ 515 ∷ 0 ∷ 0 ∷ [])
    × ((plan_of (fed 1 2 1 (preset 1 0 1 0 ∷ preset 2 0 1 0 ∷ [])) (lent [])).answer ≡ PlanAnswer.refused 0 mandatory_not_feasible)
    × ((plan_of (fed 1 3 2 (preset 1 0 1 0 ∷ preset 2 0 0 1 ∷ preset 3 0 0 1 ∷ [])) (lent [])).answer ≡ PlanAnswer.granted (0 ∷ 1 ∷ 0 ∷ []))
unfolding plans
plans_supplied = (refl, refl, refl, refl)

-- ---- calls

abbrev after : Head → List Job → List ℕ → List ℕ
after h jobs t = (call_of h jobs (state_of t first_clock false)).after.table

abbrev answer : Head → List Job → List ℕ → CallAnswer
answer h jobs t = (call_of h jobs (state_of t first_clock false)).answer

-- `m1 m2 0 0` under a supply of 3: one job finds a place without loss, two do not.
abbrev three_motors : Head
three_motors = fed 1 4 3 (preset 1 0 1 0 ∷ preset 2 0 1 0 ∷ [])

-- `m1 o2 0` under a supply of 2: the refinement cell goes, and the job takes its place.
abbrev two_motors : Head
two_motors = fed 1 3 2 (preset 1 0 1 0 ∷ preset 2 0 0 1 ∷ [])

-- Three bridges without presets under a supply of 2: earlier calls hold their motors.
abbrev no_presets : Head
no_presets = fed 1 3 2 []

pub calls_supplied : (answer three_motors (job 9 1 ∷ []) (lent (513 ∷ 514 ∷ [])) ≡ CallAnswer.taken (cost 0))
    × (answer three_motors (job 9 1 ∷ job 8 1 ∷ []) (lent (513 ∷ 514 ∷ [])) ≡ CallAnswer.refused 0 call_not_feasible)
    × (answer two_motors (job 9 1 ∷ []) (lent (513 ∷ 770 ∷ [])) ≡ CallAnswer.taken (cost 1))
    × (take 3 (after two_motors (job 9 1 ∷ []) (lent (513 ∷ 770 ∷ []))) ≡ 513 ∷ 1033 ∷ 0 ∷ [])
    × (answer no_presets (job 7 1 ∷ job 8 1 ∷ []) (lent []) ≡ CallAnswer.taken (cost 0))
    × (answer no_presets (job 9 1 ∷ []) (after no_presets (job 7 1 ∷ job 8 1 ∷ []) (lent [])) ≡ CallAnswer.refused 0 call_not_feasible)
unfolding calls
calls_supplied = (refl, refl, refl, refl, refl, refl)

-- ---- lent tables

-- "under a cap it may end empty while a job takes another bridge of its slot": `0 o1` under a supply of 1. The call loses o1, its job takes bridge 1, and bridge 2, which was lost, is empty.
abbrev one_motor : Head
one_motor = fed 1 2 1 (preset 1 0 0 1 ∷ [])

pub lost_may_end_empty : (answer one_motor (job 9 1 ∷ []) (lent (0 ∷ 769 ∷ [])) ≡ CallAnswer.taken (cost 1))
    × (take 2 (after one_motor (job 9 1 ∷ []) (lent (0 ∷ 769 ∷ []))) ≡ 1033 ∷ 0 ∷ [])
    × (lost (cell one_motor (lent (0 ∷ 769 ∷ []))) (cell one_motor (after one_motor (job 9 1 ∷ []) (lent (0 ∷ 769 ∷ [])))) 0 1 ≡ true)
unfolding calls
lost_may_end_empty = (refl, refl, refl)

-- `0 0 o1 | c7 c8 0` under a supply of 2: three calls of one slot each. The first finds a motor, the second takes that of o1, and the third finds none.
abbrev six_cells : Head
six_cells = fed 2 3 2 (preset 1 0 0 2 ∷ [])

abbrev first : List ℕ
first = after six_cells (job 9 1 ∷ []) (lent (0 ∷ 0 ∷ 769 ∷ 1031 ∷ 1032 ∷ 0 ∷ []))

abbrev second : List ℕ
second = after six_cells (job 10 1 ∷ []) first

pub three_calls : (answer six_cells (job 9 1 ∷ []) (lent (0 ∷ 0 ∷ 769 ∷ 1031 ∷ 1032 ∷ 0 ∷ [])) ≡ CallAnswer.taken (cost 0))
    × (answer six_cells (job 10 1 ∷ []) first ≡ CallAnswer.taken (cost 1))
    × (take 6 second ≡ 1033 ∷ 1034 ∷ 0 ∷ 1031 ∷ 1032 ∷ 0 ∷ [])
    × (answer six_cells (job 11 1 ∷ []) second ≡ CallAnswer.refused 0 call_not_feasible)
unfolding calls
three_calls = (refl, refl, refl, refl)
