-- A call: which refinement cells it evicts and where its jobs go. Document 01, "What is granted, and where it goes"; document 02, 2026-02, 2026-03 and 2026-05.
-- Assumes nothing.
use Rattle.std.specs.Prelude.{ℕ, zero, suc, ◌+◌, ◌<◌, ◌≡◌, ◌⊎◌, Bool, false, cond, ◌&&◌, ◌||◌, List, [], ◌∷◌, ◌++◌, map, length, get_or, eqb}
use Rattle.laws.specs.Sums.{bit, sum, only}
use Rattle.laws.specs.Lists.{at}
use Rattle.laws.specs.Placement.{Ties, nobody, excess, lrtf}
use Rattle.laws.specs.Eviction.{added, searched}
use Rattle.station.specs.Head.{Head, Job}
use Rattle.placing.specs.Table.{Cells, Each, cells, preset_count, number_at, number_in, is_empty, is_optional, call_cell, free_number, cleared}
use Rattle.placing.specs.Valid.{usable, job_at}
use Rattle.placing.specs.Plan.{rank, placing}

-- a cell by its place
pub record CellPlace : Type 0 where
  pub slot : ℕ
  pub bridge : ℕ

-- f (n - 1), .., f 0, joined
unfoldable pub downward : ℕ → (ℕ → List CellPlace) → List CellPlace
downward zero f = []
downward (suc n) f = f n ++ downward n f

-- the rank of the preset that has the number
abbrev pub rank_of : Head → ℕ → ℕ
rank_of h n = sum (preset_count h) (λ i. only (eqb (number_at h i) n) (rank h i))

-- "It may use empty cells and refinement cells, the latter being lost to their preset": which cells a call may evict, by what they hold.
abbrev pub is_evictable : Head → ℕ → Bool
is_evictable h v = is_optional v

-- those in slots above the clock
abbrev pub evictable : Head → ℕ → Cells → ℕ → ℕ → Bool
evictable h clock t s b = usable clock s && is_evictable h (t s b)

-- "The order of loss: worst rank first; for one preset the latest slot first." (A preset has one cell in a slot.)
unfoldable pub eviction_order : Head → ℕ → Cells → List CellPlace
eviction_order h clock t =
    downward (preset_count h) (λ r. downward h.slots (λ s. downward h.bridges (λ b.
    cond (evictable h clock t s b && eqb (rank_of h (number_in (t s b))) r) (record { slot = s; bridge = b } ∷ []) [])))

-- what stands past the last place, and the rank of the preset whose cell stands at a place
abbrev pub no_place : CellPlace
no_place = record { slot = 0; bridge = 0 }

abbrev pub rank_at : Head → Cells → CellPlace → ℕ
rank_at h t z = rank_of h (number_in (t z.slot z.bridge))

-- The cell at y goes before the one at z: "worst rank first; for one preset the latest slot first". (Two presets never have one rank.)
abbrev pub EvictedBefore : Head → Cells → CellPlace → CellPlace → Type 0
EvictedBefore h t y z = (rank_at h t z < rank_at h t y) ⊎ ((rank_at h t z ≡ rank_at h t y) × (z.slot < y.slot))

-- how often a cell stands in a list of places
unfoldable pub occurs : List CellPlace → ℕ → ℕ → ℕ
occurs [] s b = 0
occurs (z ∷ zs) s b = bit (eqb z.slot s && eqb z.bridge b) + occurs zs s b

-- A list of places is the order of loss: of any two, the earlier one goes before the other; and it has each evictable cell once, and no other.
pub record InEvictionOrder (h : Head) (clock : ℕ) (t : Cells) (zs : List CellPlace) : Type 0 where
  pub descends : (i j : ℕ) → i < j → j < length zs → EvictedBefore h t (get_or zs i no_place) (get_or zs j no_place)
  pub once : Each h (λ s b. occurs zs s b ≡ bit (evictable h clock t s b))
  pub many : length zs ≡ cells h (λ s b. evictable h clock t s b)

abbrev pub slots_of : List CellPlace → List ℕ
slots_of zs = map (λ (z : CellPlace). z.slot) zs

-- the set d of the places zs, as a test of cells
unfoldable pub in_set : List CellPlace → List Bool → ℕ → ℕ → Bool
in_set [] d s b = false
in_set (z ∷ zs) [] s b = false
in_set (z ∷ zs) (c ∷ d) s b = (c && eqb z.slot s && eqb z.bridge b) || in_set zs d s b

-- the cells that a call may use without loss: empty ones in slots above the clock
abbrev pub empty_free : ℕ → Cells → ℕ → ℕ → Bool
empty_free clock t s b = usable clock s && is_empty (t s b)

-- how many of them it may fill in a slot: the free number of the slot, none in one up to the clock
abbrev pub free_number_from : Head → ℕ → Cells → ℕ → ℕ
free_number_from h clock t s = only (usable clock s) (free_number h t s)

-- and how many where all that it may evict is lost: "It may use empty cells and refinement cells"
abbrev pub usable_count : Head → ℕ → Cells → ℕ → ℕ
usable_count h clock t = free_number_from h clock (cleared (evictable h clock t) t)

abbrev pub lengths : List Job → List ℕ
lengths jobs = map (λ (j : Job). j.slots) jobs

-- the shortage: by how much the jobs exceed the free cells x
abbrev pub call_short : Head → List Job → (ℕ → ℕ) → ℕ
call_short h jobs x = excess (length (lengths jobs)) (at (lengths jobs)) h.slots x

-- The evicted set, found by walking the refinement cells in eviction order and taking each one that helps. That it is document 01's, "of the smallest
-- sets with which the call fits .. the one whose list comes first", is proved.
unfoldable pub evicted_set : Head → ℕ → List Job → Cells → List Bool
evicted_set h clock jobs t = searched (call_short h jobs) (free_number_from h clock t) (slots_of (eviction_order h clock t))

-- whether the call fits with the evicted set
unfoldable pub call_fits : Head → ℕ → List Job → Cells → Bool
call_fits h clock jobs t =
    eqb (call_short h jobs (added (free_number_from h clock t) (slots_of (eviction_order h clock t)) (evicted_set h clock jobs t))) 0

-- the cells that the jobs may use: empty ones and evicted ones
abbrev pub call_free : Head → ℕ → List Job → Cells → ℕ → ℕ → Bool
call_free h clock jobs t s b = empty_free clock t s b || in_set (eviction_order h clock t) (evicted_set h clock jobs t) s b

-- how many of them they fill in a slot at the most: its free number with the evicted cells empty. "A lost cell frees one motor, so under a cap it may end empty while a job takes another
-- bridge of its slot."
abbrev pub call_free_count : Head → ℕ → List Job → Cells → ℕ → ℕ
call_free_count h clock jobs t = free_number_from h clock (cleared (in_set (eviction_order h clock t) (evicted_set h clock jobs t)) t)

-- "Jobs are then placed by the rule above over the empty and lost cells, in the call's order", under an order of ties. The jobs are new: nobody has a cell before.
unfoldable pub called : Ties → Head → ℕ → List Job → Cells → Cells
unfolding placing
called ties h clock jobs t =
    placing (length (lengths jobs)) (call_free h clock jobs t) (λ i s. lrtf ties nobody (lengths jobs) (call_free_count h clock jobs t) i s)
    (λ i s. call_cell (job_at jobs i).number) t
