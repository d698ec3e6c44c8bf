-- Valid placements: the meaning of "fits", with the clock and the slots that a call may use. Document 01, "The station text", "What is granted, and where it goes" and
-- "What demand 3 speaks of"; document 02, 2026-05.
-- Assumes nothing.
use Rattle.std.specs.Prelude.{ℕ, suc, ◌<◌, ◌≡◌, Bool, true, false, not, ◌&&◌, ◌||◌, List, length, get_or, ltb, leb, eqb}
use Rattle.laws.specs.Sums.{sum, only}
use Rattle.station.specs.Head.{Head, Job, preset_at, within}
use Rattle.placing.specs.Table.{Cells, Each, WellFormed, cells, holding, is_call, is_optional, is_empty, empty_cell, call_cell, optional_cell, number_at, preset_count, number_in}

-- "Valid for a plan: a sound table without call cells."
pub record ValidPlan (h : Head) (t : Cells) : Type 0 where
  pub well_formed : WellFormed h t
  pub no_calls : Each h (λ s b. is_call (t s b) ≡ false)

-- "Clock t means that slot t is about to begin"; 2026-05: "`(clock 0)` becomes legal, with 0 the start; 2 and 11 take 0 to S + 1 as the clock's range". The first clock, and the clocks of
-- a frame of so many slots.
abbrev pub first_clock : ℕ
first_clock = 0

abbrev pub clock_in : ℕ → ℕ → Bool
clock_in slots c = within first_clock (suc slots) c

-- 2026-05: "A call uses slots above the clock." Slot s is the paper's slot s + 1.
abbrev pub usable : ℕ → ℕ → Bool
usable clock s = ltb clock (suc s)

-- what stands past the last job: no job at all
abbrev pub no_job : Job
no_job = record { number = 0; slots = 0 }

abbrev pub job_at : List Job → ℕ → Job
job_at jobs i = get_or jobs i no_job

-- How a call may change a cell from v to w: not at all; in a slot above the clock, a job fills what was empty or refinement; and "any other changed
-- cell is refinement made empty".
pub data Change (clock : ℕ) (jobs : List Job) (s v w : ℕ) : Type 0 where
  same : w ≡ v → Change clock jobs s v w
  filled : usable clock s ≡ true → (is_empty v || is_optional v) ≡ true → (i : ℕ) → i < length jobs → w ≡ call_cell (job_at jobs i).number → Change clock jobs s v w
  evicted : usable clock s ≡ true → is_optional v ≡ true → w ≡ empty_cell → Change clock jobs s v w

-- "Valid for a call: a sound table that differs from the one before only in slots" above the clock (2026-05), "where each job fills c cells that were empty or
-- refinement, and any other changed cell is refinement made empty." (The jobs' numbers are new, so the cells of a job in u are those that it fills.)
pub record ValidCall (h : Head) (clock : ℕ) (jobs : List Job) (t u : Cells) : Type 0 where
  pub well_formed : WellFormed h u
  pub changes : Each h (λ s b. Change clock jobs s (t s b) (u s b))
  pub exact : (i : ℕ) → i < length jobs → holding h u (call_cell (job_at jobs i).number) ≡ (job_at jobs i).slots

-- "A cell is lost in such a table if it was refinement just before the call and is so no more."
abbrev pub lost : Cells → Cells → ℕ → ℕ → Bool
lost t u s b = is_optional (t s b) && not (is_optional (u s b))

-- the priority of the preset that has the number
abbrev pub priority_of : Head → ℕ → ℕ
priority_of h n = sum (preset_count h) (λ i. only (eqb (number_at h i) n) (preset_at h i).priority)

-- the lost cells of presets with priority p or better
abbrev pub lost_up_to : Head → Cells → Cells → ℕ → ℕ
lost_up_to h t u p = cells h (λ s b. lost t u s b && leb (priority_of h (number_in (t s b))) p)

-- the refinement cells of the table, and those of the preset of line i
abbrev pub optional_count : Head → Cells → ℕ
optional_count h t = cells h (λ s b. is_optional (t s b))

abbrev pub optional_of : Head → Cells → ℕ → ℕ
optional_of h t i = holding h t (optional_cell (number_at h i))
