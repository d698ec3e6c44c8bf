-- What a call's own causes are decided by, counted for a table and a clock. Document 01, "Causes" and "What is granted, and where it goes".
--
-- In order: the counts (`CountsOf`), and what they decide (`OwnCause`, `FitBeside`, `CountedCause`); the parts that the code counts by: numbers that are marked, and the cells of a
-- slot that a call may use.
-- Assumes nothing.
use Rattle.std.specs.Prelude.{ℕ, ◌+◌, ◌-◌, ◌*◌, ◌≤◌, ◌<◌, min, ◌≡◌, Bool, not, ◌&&◌, ◌||◌, List, Result, length, ltb, eqb}
use Rattle.laws.specs.Sums.{sum, count, only}
use Rattle.laws.specs.Placement.{excess}
use Rattle.laws.specs.method.Capacities.{AtLeast}
use Rattle.station.specs.Limits.{most_bridges}
use Rattle.station.specs.Head.{Head, Job, Valid}
use Rattle.station.specs.Refusal.{first_of}
use Rattle.placing.specs.Table.{cell_at, Cells, WellFormed, is_empty, is_optional, is_held, call_cell, is_used, job_count}
use Rattle.placing.specs.Valid.{usable, job_at}
use Rattle.placing.specs.Call.{usable_count, call_fits}
use Rattle.placing.specs.Outcomes.{job_causes, call_causes}
use Rattle.placing.specs.Causes.{cause_in}
use Rattle.station.specs.declared.types.Refusal as cause
use Rattle.placing.specs.declared.counts.Counts.{Counts}
use Rattle.placing.specs.method.Jobs.{marked}
use Rattle.placing.specs.method.Grants.{Sums}

-- The counts are those of the head h, the clock and the cells t: "A number is used if a preset of the head or a call cell has it"; the job numbers of the table; and how many
-- slots have at least one, two, up to eight cells that a call may fill.
pub record CountsOf (h : Head) (clock : ℕ) (t : Cells) (c : Counts) : Type 0 where
  pub marks_long : length c.used ≡ 256
  pub used : (n : ℕ) → n < 256 → marked c.used n ≡ is_used h t n
  pub jobs : c.admitted ≡ job_count h t
  pub entries : AtLeast c.at_least h.slots (usable_count h clock t)

-- What `own_cause` answers: for every table that has these used numbers and so many job numbers, the first of the causes 2, 4, 9 of the jobs.
abbrev pub OwnCause : Counts → List Job → Result Unit cause.Refusal → Type 0
OwnCause c jobs r =
    (h : Head) (t : Cells) → ((n : ℕ) → n < 256 → marked c.used n ≡ is_used h t n) → c.admitted ≡ job_count h t → cause_in r ≡ first_of (job_causes h jobs t)

-- What is unfinished beside some jobs: the first k of the needs c, the others being the jobs'. The sums of the r largest and the total are those of the k alone.
pub record Unfinished (k : ℕ) (c : ℕ → ℕ) (jobs : List Job) (sums : List ℕ) (total : ℕ) : Type 0 where
  pub largest : Sums (k + length jobs) (λ i. only (ltb i k) (c i)) sums
  pub all : total ≡ sum k c
  pub others : (i : ℕ) → i < length jobs → c (k + i) ≡ (job_at jobs i).slots

-- What `fits_by_counts` answers: whether the jobs and what is unfinished fit together into any slots of which xs has how many have at least so many free cells.
abbrev pub FitBeside : List ℕ → ℕ → List ℕ → List Job → Bool → Type 0
FitBeside sums total xs jobs r =
    (k : ℕ) (c : ℕ → ℕ) → Unfinished k c jobs sums total → (n : ℕ) (x : ℕ → ℕ) → ((s : ℕ) → s < n → x s ≤ most_bridges)
    → AtLeast xs n x → r ≡ eqb (excess (k + length jobs) c n x) 0

-- What `cause_by_counts` answers: on every well-formed table of which these are the counts, the first of the causes of the call itself.
abbrev pub CountedCause : Counts → List Job → Result Unit cause.Refusal → Type 0
CountedCause c jobs r =
    (h : Head) (clock : ℕ) (t : Cells) → Valid h → WellFormed h t → CountsOf h clock t c → cause_in r ≡ first_of (call_causes h clock jobs t)

-- whether the jobs fit, likewise, by these slots alone
abbrev pub CountedFit : List ℕ → List Job → Bool → Type 0
CountedFit xs jobs r =
    (h : Head) (clock : ℕ) (t : Cells) → Valid h → WellFormed h t → AtLeast xs h.slots (usable_count h clock t) → r ≡ call_fits h clock jobs t

-- ---- numbers that are marked

-- the numbers of the call cells among the first i cells of a table are marked, and no others
pub record Marked (t : List ℕ) (i : ℕ) (used : List Bool) : Type 0 where
  pub long : length used ≡ 256
  pub which : (n : ℕ) → n < 256 → marked used n ≡ ltb 0 (count i (λ j. eqb (cell_at t j) (call_cell n)))

-- what one cell v marks: its number, if it is a call cell
pub record Marks (v : ℕ) (before after : List Bool) (r : ℕ) : Type 0 where
  pub long : length after ≡ length before
  pub which : (n : ℕ) → n < 256 → marked after n ≡ (marked before n || eqb v (call_cell n))
  pub more : count 256 (marked after) ≡ count 256 (marked before) + r
  pub one : r ≤ 1

-- the numbers f 0, .., f (i - 1) are marked beside those that were
pub record MarkedBeside (f : ℕ → ℕ) (before : List Bool) (i : ℕ) (after : List Bool) : Type 0 where
  pub long : length after ≡ 256
  pub which : (n : ℕ) → n < 256 → marked after n ≡ (ltb 0 (count i (λ j. eqb (f j) n)) || marked before n)

-- ---- cells that a call may use

-- the cells that a call may evict, as the code tells them: `is_evictable` of the head whose cell it is
abbrev pub evictable_cell : ℕ → Bool
evictable_cell v = is_optional v

-- "It may use empty cells and refinement cells"
abbrev pub free_cell : ℕ → Bool
free_cell v = is_empty v || evictable_cell v

-- and the cells that stay held whatever it evicts
abbrev pub staying_cell : ℕ → Bool
staying_cell v = is_held v && not (evictable_cell v)

-- how many of the n cells from a place of the table on it may fill: the smaller of those that it may use and the motors that those leave which stay
unfoldable pub usable_in : List ℕ → ℕ → ℕ → ℕ → ℕ
usable_in t from n motors = min (count n (λ b. free_cell (cell_at t (from + b)))) (motors - count n (λ b. staying_cell (cell_at t (from + b))))

-- and of a slot; "A call uses slots above the clock."
unfoldable pub slot_free : List ℕ → ℕ → ℕ → ℕ → ℕ → ℕ
slot_free t bridges motors clock s = only (usable clock s) (usable_in t (s * bridges) bridges motors)
