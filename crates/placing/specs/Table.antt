-- The table: its cells, the free number of a slot, and when it is well-formed (document 01: a sound table). Document 01, "The table"; document 02, 2026-03.
-- Slots and bridges are counted from 0: `cell h t s b` is the paper's slot s + 1, bridge b + 1.
-- Assumes nothing.
use Rattle.std.specs.Prelude.{ℕ, ◌+◌, ◌-◌, ◌*◌, ◌/◌, ◌%◌, ◌≤◌, ◌<◌, min, ◌≡◌, Bool, true, false, not, cond, ◌&&◌, ◌||◌, List, length, get_or, ltb, leb, eqb}
use Rattle.std.specs.Bool.{beq}
use Rattle.laws.specs.Sums.{sum, count, every}
use Rattle.station.specs.Limits.{most_frame_jobs}
use Rattle.station.specs.Head.{Head, busy_at, preset_at}

-- the cells of a lent list, one after the other
abbrev pub cell_at : List ℕ → ℕ → ℕ
cell_at t i = get_or t i 0

-- A table as a function of slot and bridge, and the cells of a lent list: "slot by slot and in each slot bridge by bridge".
abbrev pub Cells : Type 0
Cells = ℕ → ℕ → ℕ

abbrev pub cell : Head → List ℕ → Cells
cell h t s b = cell_at t (s * h.bridges + b)

-- "A cell is kind × 256 + number. Kinds: 0 empty, 1 busy (both with number 0), 2 required, 3 refinement, 4 call."
abbrev pub kind_of : ℕ → ℕ
kind_of v = v / 256

abbrev pub number_in : ℕ → ℕ
number_in v = v % 256

abbrev pub empty_cell : ℕ
empty_cell = 0

abbrev pub busy_cell : ℕ
busy_cell = 256

abbrev pub mandatory_cell : ℕ → ℕ
mandatory_cell n = 512 + n

abbrev pub optional_cell : ℕ → ℕ
optional_cell n = 768 + n

abbrev pub call_cell : ℕ → ℕ
call_cell n = 1024 + n

abbrev pub is_empty : ℕ → Bool
is_empty v = eqb v empty_cell

abbrev pub is_busy : ℕ → Bool
is_busy v = eqb v busy_cell

abbrev pub is_mandatory : ℕ → Bool
is_mandatory v = eqb (kind_of v) 2

abbrev pub is_optional : ℕ → Bool
is_optional v = eqb (kind_of v) 3

abbrev pub is_call : ℕ → Bool
is_call v = eqb (kind_of v) 4

-- what holds of every cell of the frame, and how many of its cells pass a test
abbrev pub Each : Head → (ℕ → ℕ → Type 0) → Type 0
Each h P = (s b : ℕ) → s < h.slots → b < h.bridges → P s b

abbrev pub cells : Head → (ℕ → ℕ → Bool) → ℕ
cells h p = sum h.slots (λ s. count h.bridges (λ b. p s b))

-- the number of presets, and the number of the preset of line i
abbrev pub preset_count : Head → ℕ
preset_count h = length h.presets

abbrev pub number_at : Head → ℕ → ℕ
number_at h i = (preset_at h i).number

-- the cells of the frame that hold just v
abbrev pub holding : Head → Cells → ℕ → ℕ
holding h t v = cells h (λ s b. eqb (t s b) v)

-- a preset of the head has the number; a call cell has the number
abbrev pub has_preset : Head → ℕ → Bool
has_preset h n = ltb 0 (count (preset_count h) (λ i. eqb (number_at h i) n))

abbrev pub has_job : Head → Cells → ℕ → Bool
has_job h t n = ltb 0 (holding h t (call_cell n))

-- "A number is used if a preset of the head or a call cell has it."
abbrev pub is_used : Head → Cells → ℕ → Bool
is_used h t n = has_preset h n || has_job h t n

-- how many job numbers the table has
abbrev pub job_count : Head → Cells → ℕ
job_count h t = count 256 (λ n. has_job h t n)

-- ---- the free number

-- a cell that a preset or a call holds: kinds 2, 3 and 4. A busy cell draws nothing.
abbrev pub is_held : ℕ → Bool
is_held v = is_mandatory v || is_optional v || is_call v

-- how many cells of slot s are empty, and how many are "held by presets and calls"
abbrev pub empty_cells : Head → Cells → ℕ → ℕ
empty_cells h t s = count h.bridges (λ b. is_empty (t s b))

abbrev pub held_cells : Head → Cells → ℕ → ℕ
held_cells h t s = count h.bridges (λ b. is_held (t s b))

-- how many motors the supply feeds in a slot: the k of `(supply k)`; "without it there is no cap", that is one motor for each bridge
abbrev pub motors : Head → ℕ
motors h = cond (eqb h.supply 0) h.bridges h.supply

-- "In a slot, the free number becomes the smaller of the empty cells and k less the cells held by presets and calls." It is asked of any cells.
abbrev pub free_number : Head → Cells → ℕ → ℕ
free_number h t s = min (empty_cells h t s) (motors h - held_cells h t s)

-- the table with nothing placed
abbrev pub bare_table : Head → Cells
bare_table h s b = cond (busy_at h s b) busy_cell empty_cell

-- a table with the cells of a test made empty
abbrev pub cleared : (ℕ → ℕ → Bool) → Cells → Cells
cleared f t s b = cond (f s b) empty_cell (t s b)

-- ---- well-formed tables

-- "A sound table has only the five kinds, busy cells just as the head says, in required and refinement cells only numbers of the head's
-- presets, in call cells only 1 to 255, no number twice in a slot, exactly m required cells of each preset, all in slots before its
-- refinement cells, at most o refinement cells of each preset, and at most 64 job numbers, none of them a preset's." Under a cap, "Valid placements from then on obey the cap, and a sound
-- table does too": presets and calls hold no more cells of a slot than the supply feeds motors.
pub record WellFormed (h : Head) (t : Cells) : Type 0 where
  pub kinds : Each h (λ s b. kind_of (t s b) ≤ 4)
  pub plain : Each h (λ s b. kind_of (t s b) ≤ 1 → number_in (t s b) ≡ 0)
  pub busy : Each h (λ s b. is_busy (t s b) ≡ busy_at h s b)
  pub presets : Each h (λ s b. (is_mandatory (t s b) || is_optional (t s b)) ≡ true → has_preset h (number_in (t s b)) ≡ true)
  pub calls : Each h (λ s b. is_call (t s b) ≡ true → 1 ≤ number_in (t s b))
  pub once : (s a b : ℕ) → s < h.slots → a < b → b < h.bridges → number_in (t s a) ≡ number_in (t s b) → number_in (t s b) ≡ 0
  pub exact : (i : ℕ) → i < preset_count h → holding h t (mandatory_cell (number_at h i)) ≡ (preset_at h i).mandatory
  pub first : (i : ℕ) → i < preset_count h → (r s a b : ℕ) → r < h.slots → s < h.slots → a < h.bridges → b < h.bridges
      → t r a ≡ mandatory_cell (number_at h i) → t s b ≡ optional_cell (number_at h i) → r < s
  pub most : (i : ℕ) → i < preset_count h → holding h t (optional_cell (number_at h i)) ≤ (preset_at h i).optional
  pub jobs : job_count h t ≤ most_frame_jobs
  pub apart : (n : ℕ) → n < 256 → has_job h t n ≡ true → has_preset h n ≡ false
  pub supplied : (s : ℕ) → s < h.slots → held_cells h t s ≤ motors h

-- The same as a test, clause by clause. `first` is tested by counts: before a refinement cell of a preset stand all of its m required ones.
abbrev pub each_cell : Head → (ℕ → ℕ → Bool) → Bool
each_cell h p = every h.slots (λ s. every h.bridges (λ b. p s b))

abbrev pub once_in : Head → Cells → ℕ → Bool
once_in h t s = every h.bridges (λ b. every b (λ a. not (eqb (number_in (t s a)) (number_in (t s b))) || eqb (number_in (t s b)) 0))

abbrev pub mandatory_below : Head → Cells → ℕ → ℕ → ℕ
mandatory_below h t n s = sum s (λ r. count h.bridges (λ b. eqb (t r b) (mandatory_cell n)))

unfoldable pub laid_out : Head → Cells → Bool
laid_out h t =
    each_cell h (λ s b. leb (kind_of (t s b)) 4)
    && each_cell h (λ s b. not (leb (kind_of (t s b)) 1) || eqb (number_in (t s b)) 0)
    && each_cell h (λ s b. beq (is_busy (t s b)) (busy_at h s b))
    && each_cell h (λ s b. not (is_mandatory (t s b) || is_optional (t s b)) || has_preset h (number_in (t s b)))
    && each_cell h (λ s b. not (is_call (t s b)) || leb 1 (number_in (t s b)))
    && every h.slots (λ s. once_in h t s)
    && every (preset_count h) (λ i. eqb (holding h t (mandatory_cell (number_at h i))) (preset_at h i).mandatory)
    && every (preset_count h) (λ i. each_cell h (λ s b. not (eqb (t s b) (optional_cell (number_at h i)))
    || eqb (mandatory_below h t (number_at h i) s) (preset_at h i).mandatory))
    && every (preset_count h) (λ i. leb (holding h t (optional_cell (number_at h i))) (preset_at h i).optional)
    && leb (job_count h t) most_frame_jobs
    && every 256 (λ n. not (has_job h t n) || not (has_preset h n))

-- these are document 01's clauses; with that of the cap:
unfoldable pub well_formed : Head → Cells → Bool
well_formed h t = laid_out h t && every h.slots (λ s. leb (held_cells h t s) (motors h))
