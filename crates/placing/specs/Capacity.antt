-- When needs fit, and what a call loses, by counting: the room for r. Document 01, "What is granted, and where it goes"; document 02, 2026-03. These are facts about placements, "the meaning of "fits" is that
-- a valid placement exists", and so they speak of the valid tables of Valid.antt; that they hold for all frames, clocks and calls is proved (proofs/ByCapacity.antt). docs/CALLS.md gives
-- them to the reader of the manual.
-- Assumes nothing.
use Rattle.std.specs.Prelude.{ℕ, ◌+◌, ◌≤◌, ◌≡◌, ◌↔◌, List, length}
use Rattle.laws.specs.Lists.{at}
use Rattle.laws.specs.Placement.{capacity, largest}
use Rattle.station.specs.Head.{Head, Job}
use Rattle.placing.specs.Table.{Cells, cell, cells}
use Rattle.placing.specs.Valid.{ValidPlan, ValidCall, lost}
use Rattle.placing.specs.Plan.{mandatories, plan_free_count}
use Rattle.placing.specs.Call.{lengths, free_number_from, usable_count}

-- "Room for r: the sum over the slots of the smaller of r and the number of free bridges", by the free number: for a plan; for a call in the cells that it may use, the empty and the
-- refinement cells of slots above the clock; and in those of them that are empty, that is without loss.
abbrev pub plan_capacity : Head → ℕ → ℕ
plan_capacity h r = capacity h.slots (plan_free_count h) r

abbrev pub call_capacity : Head → ℕ → Cells → ℕ → ℕ
call_capacity h clock t r = capacity h.slots (usable_count h clock t) r

abbrev pub free_capacity : Head → ℕ → Cells → ℕ → ℕ
free_capacity h clock t r = capacity h.slots (free_number_from h clock t) r

-- "the r largest needs together": of a plan's required slots, and of a call's jobs
abbrev pub largest_mandatory : Head → ℕ → ℕ
largest_mandatory h r = largest (length (mandatories h)) (at (mandatories h)) r

abbrev pub longest_jobs : List Job → ℕ → ℕ
longest_jobs jobs r = largest (length (lengths jobs)) (at (lengths jobs)) r

-- e is the greatest of the numbers by which `need r`, for some r, exceeds `limit r`: none exceeds it by more, and one by just e. (For r = 0 the needs and the room are both 0, so that e is 0 where
-- no r exceeds it.)
pub record GreatestExcess (need limit : ℕ → ℕ) (e : ℕ) : Type 0 where
  pub bounds : (r : ℕ) → need r ≤ limit r + e
  pub reached : (r : ℕ) × (need r ≡ limit r + e)

-- "Needs fit exactly if, for every r, the r largest needs together do not exceed it": the required slots of a plan.
pub record PlanByCapacity (h : Head) : Type 0 where
  pub fits : ((u : List ℕ) × ValidPlan h (cell h u)) ↔ ((r : ℕ) → largest_mandatory h r ≤ plan_capacity h r)

-- The same for the jobs of a call, on the table t at a clock; and what it loses: every valid placement at least what for any r the r longest jobs exceed the room for r without loss by,
-- and where one exists, one of them no more than that at the worst r.
pub record CallByCapacity (h : Head) (clock : ℕ) (jobs : List Job) (t : Cells) : Type 0 where
  pub fits : ((u : List ℕ) × ValidCall h clock jobs t (cell h u)) ↔ ((r : ℕ) → longest_jobs jobs r ≤ call_capacity h clock t r)
  pub loses : (u : List ℕ) → ValidCall h clock jobs t (cell h u)
      → (r : ℕ) → longest_jobs jobs r ≤ free_capacity h clock t r + cells h (λ s b. lost t (cell h u) s b)
  pub no_more : ((r : ℕ) → longest_jobs jobs r ≤ call_capacity h clock t r)
      → (u : List ℕ) × ValidCall h clock jobs t (cell h u) × GreatestExcess (longest_jobs jobs) (free_capacity h clock t) (cells h (λ s b. lost t (cell h u) s b))
