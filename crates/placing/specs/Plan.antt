-- The plan: rank, grants, and where the presets go. Document 01, "What is granted, and where it goes"; document 02, 2026-02 and 2026-03.
-- Assumes nothing.
use Rattle.std.specs.Prelude.{ℕ, ◌+◌, ◌-◌, ◌≤◌, ◌<◌, ◌≡◌, Bool, true, false, not, cond, List, map, length, ltb, eqb}
use Rattle.laws.specs.Sums.{only, position, ascending}
use Rattle.laws.specs.Lists.{at, tabulate}
use Rattle.laws.specs.Placement.{Placed, everywhere, Ties, tie_place, tie_hold, nobody, left, lrtf, excess}
use Rattle.laws.specs.Cells.{slot_cell}
use Rattle.laws.specs.Grants.{granted}
use Rattle.station.specs.Head.{Head, Preset, busy_at, preset_at}
use Rattle.placing.specs.Table.{Cells, preset_count, number_at, mandatory_cell, optional_cell, busy_cell, free_number, bare_table}

-- The table after k jobs got their cells among the free cells f, where `a i s` says that job i has one in slot s: "The chosen, in file order, take the free bridges in ascending
-- order." A free cell that nobody takes is empty, and one that is not free keeps what stands there. `v i s` is what job i writes in slot s. Who has a cell in which slot is
-- for the caller to say; by the rule it is `lrtf`, which chooses no more of them than the free number says, so that under a cap free cells may be left over.
unfoldable pub placing : ℕ → (ℕ → ℕ → Bool) → (ℕ → ℕ → Bool) → (ℕ → ℕ → ℕ) → Cells → Cells
placing k f a v t s b = slot_cell k (λ i. a i s) (λ d. f s d) (λ i. v i s) (λ d. t s d) b

-- "Rank: better priority first, then the earlier line." How many presets come before the one of line i.
abbrev pub rank : Head → ℕ → ℕ
rank h i = position (preset_count h) (ascending (λ j. (preset_at h j).priority)) i

abbrev pub mandatories : Head → List ℕ
mandatories h = map (λ (p : Preset). p.mandatory) h.presets

abbrev pub optionals : Head → List ℕ
optionals h = map (λ (p : Preset). p.optional) h.presets

-- the bridges that a plan may use: those that are not busy
abbrev pub plan_free : Head → ℕ → ℕ → Bool
plan_free h s b = not (busy_at h s b)

-- how many of them it may fill in a slot: the free number of the table with nothing placed
abbrev pub plan_free_count : Head → ℕ → ℕ
plan_free_count h = free_number h (bare_table h)

-- whether presets with these needs fit: "for every r, the r largest needs together do not exceed" the capacity for r
abbrev pub plan_fits : Head → List ℕ → Bool
plan_fits h c = eqb (excess (length c) (at c) h.slots (plan_free_count h)) 0

-- the meaning of that: a placement of the needs c exists
abbrev pub PlanFeasible : Head → List ℕ → Type 0
PlanFeasible h c = (a : ℕ → ℕ → Bool) × Placed everywhere (length c) (at c) h.slots (plan_free_count h) a

-- What line j needs where line i gets g: what it starts from, its grant if it comes before line i in rank, and g if it is line i. A plan starts from the mandatory slots.
abbrev pub need_with : Head → List ℕ → List ℕ → ℕ → ℕ → ℕ → ℕ
need_with h start gs i g j = at start j + only (ltb (rank h j) (rank h i)) (at gs j) + only (eqb j i) g

-- "all required slots and the grants before it", and g
abbrev pub needs_with : Head → List ℕ → List ℕ → ℕ → ℕ → List ℕ
needs_with h start gs i g = tabulate (preset_count h) (need_with h start gs i g)

-- "Grants: in rank order each preset gets as much refinement, up to o, as still lets all required slots and the grants before it fit."
pub record GrantRule (h : Head) (gs : List ℕ) : Type 0 where
  pub long : length gs ≡ preset_count h
  pub up_to : (i : ℕ) → i < preset_count h → at gs i ≤ (preset_at h i).optional
  pub fits : (i : ℕ) → i < preset_count h → PlanFeasible h (needs_with h (mandatories h) gs i (at gs i))
  pub most : (i : ℕ) → i < preset_count h → (g : ℕ) → g ≤ (preset_at h i).optional → PlanFeasible h (needs_with h (mandatories h) gs i g) → g ≤ at gs i

-- what each preset gets in all, in file order: what it starts from, and its grant
unfoldable pub needs_from : Head → List ℕ → List ℕ
needs_from h start = granted (plan_fits h) (rank h) (optionals h) start (preset_count h)

-- in a plan: its mandatory slots and its grant
abbrev pub needs : Head → List ℕ
needs h = needs_from h (mandatories h)

-- the grants, found so; that they obey the rule above is proved
unfoldable pub grants : Head → List ℕ
grants h = tabulate (preset_count h) (λ i. at (needs h) i - at (mandatories h) i)

-- the order of ties: "`(tie hold)` changes the order of equal remaining times", "`(tie place)` brings back the old order"
abbrev pub tie_of : Bool → Ties
tie_of true = tie_hold
tie_of false = tie_place

-- "A preset's first m cells in time are required, the rest refinement."
abbrev pub plan_cell : Ties → Head → List ℕ → ℕ → ℕ → ℕ
plan_cell ties h c i s =
    cond
    (ltb (at c i - at (left ties nobody c (plan_free_count h) s) i) (preset_at h i).mandatory)
    (mandatory_cell (number_at h i))
    (optional_cell (number_at h i))

-- The table of the plan under an order of ties: "Placing, slot by slot from the first: as many presets as there are free bridges, those with the most slots still to get, never one
-- with none left", where since 2026-03 the free number says how many. Before its first slot nobody has a cell.
unfoldable pub planned : Ties → Head → Cells
unfolding placing
planned ties h =
    placing (length (needs h)) (plan_free h) (λ i s. lrtf ties nobody (needs h) (plan_free_count h) i s) (plan_cell ties h (needs h)) (λ s b. busy_cell)
