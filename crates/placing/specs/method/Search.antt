-- The eviction search as the code goes through it: what it keeps, and what the walk over the
-- refinement cells makes of that. That this is document 01's rule, "of the smallest sets with which
-- the call fits .. the one whose list comes first", is proved of `evicted_set` of specs/Call.antt,
-- with which it agrees.
-- Assumes nothing.
use Rattle.std.specs.Prelude.{ℕ, ◌+◌, ◌*◌, ◌-◌, ◌^◌, ◌/◌, ◌%◌, ◌≤◌, ◌<◌, min, ◌≡◌, Bool, true, false, cond, ◌&&◌, List, [], ◌∷◌, ◌++◌, length, get_or, set, take, replicate, ltb, leb, eqb, Option, Some, None, Result, Ok, Err}
use Rattle.std.specs.Int.Bits.{bit_or}
use Rattle.std.specs.Int.Count as digits
use Rattle.laws.specs.Sums.{sum, only, count}
use Rattle.laws.specs.Lists.{at}
use Rattle.laws.specs.Placement.{capacity}
use Rattle.laws.specs.method.Capacities.{AtLeast, excess_over}
use Rattle.laws.specs.Eviction.{put, added, ones}
use Rattle.station.specs.Limits.{most_slots, most_bridges, most_presets, least_cells}
use Rattle.station.specs.Head.{Head, Job}
use Rattle.station.specs.declared.types.Preset as record-of-preset
use Rattle.station.specs.declared.types.Head as record-of-head
use Rattle.station.specs.Types.{head_in}
use Rattle.placing.specs.declared.search.Search.{Search}
use Rattle.placing.specs.declared.search.links.Links.{Links}
use Rattle.placing.specs.declared.search.Evicted.{Evicted}
use Rattle.placing.specs.declared.search.Demand.{Demand}
use Rattle.placing.specs.method.Limits.{most_placed, sizes_in_limits}
use Rattle.placing.specs.Table.{cell_at, Cells, cell, is_empty, is_held, number_in}
use Rattle.placing.specs.Valid.{usable}
use Rattle.placing.specs.method.Mask.{bridge_mask}
use Rattle.placing.specs.method.Counts.{evictable_cell}
use Rattle.placing.specs.Call.{CellPlace, downward, eviction_order, slots_of, free_number_from, lengths, evicted_set, call_fits, call_free}

-- what the first n of some lines have in all at the value m: w i for each line i whose value v i is
-- m
unfoldable pub total_at : (ℕ → ℕ) → (ℕ → ℕ) → ℕ → ℕ → ℕ
total_at v w n m = sum n (λ i. only (eqb (v i) m) (w i))

-- the empty cells among the bridges from a place of the table on
abbrev pub empty_in : List ℕ → ℕ → ℕ → Bool
empty_in t from b = is_empty (cell_at t (from + b))

-- their mask
unfoldable pub empty_mask : List ℕ → ℕ → ℕ → ℕ
empty_mask t from n = bridge_mask n (empty_in t from)

-- how many cells of these bridges presets and calls hold
unfoldable pub held_from : List ℕ → ℕ → ℕ → ℕ
held_from t from n = count n (λ b. is_held (cell_at t (from + b)))

-- The first slot that a call may use, counted from 0 as all slots are here: slot clock + 1 of the
-- paper, "above the clock".
abbrev pub first_slot : ℕ → ℕ
first_slot clock = clock

-- The mask of the empty cells of a slot, where nothing up to the clock is free: "A call uses slots
-- above the clock."
unfoldable pub slot_mask : List ℕ → ℕ → ℕ → ℕ → ℕ
slot_mask t bridges clock s = only (usable clock s) (empty_mask t (s * bridges) bridges)

-- The free number of a slot for a call, from these: the smaller of the empty cells and the motors
-- that are left.
abbrev pub slot_number : List ℕ → ℕ → ℕ → ℕ → ℕ → ℕ
slot_number t bridges motors clock s = min (digits.ones (slot_mask t bridges clock s)) (motors - held_from t (s * bridges) bridges)

-- By how much what the jobs demand exceeds the capacities of the free cells x at the worst. Where
-- the sums are those of the r longest jobs, the total that of all, and no slot has more than 8 free
-- cells, this is their `excess`.
abbrev pub short_for : Demand → (ℕ → ℕ) → ℕ
short_for d x = excess_over (at d.sums.largest) d.sums.total (capacity d.slots x)

-- What the search has at a point of its walk: for each slot the mask of the bridges that the jobs
-- may use and its free number, and how many cells are evicted so far.
pub record Kept : Type 0 where
  pub free : List ℕ
  pub counts : List ℕ
  pub evicted : ℕ

-- with one more cell
abbrev pub with_cell : CellPlace → Kept → Kept
with_cell z k =
    record {
      free = set k.free z.slot (bit_or (get_or k.free z.slot 0) (2 ^ z.bridge));
      counts = set k.counts z.slot (get_or k.counts z.slot 0 + 1);
      evicted = k.evicted + 1;
    }

-- one cell of the walk: it is evicted if that lowers the shortage
unfoldable pub stepped : ((ℕ → ℕ) → ℕ) → CellPlace → Kept → Kept
stepped short z k = cond (ltb (short (put (at k.counts) z.slot)) (short (at k.counts))) (with_cell z k) k

-- the walk over a list of cells, one after the other
unfoldable pub walked : ((ℕ → ℕ) → ℕ) → List CellPlace → Kept → Kept
walked short [] k = k
walked short (z ∷ zs) k = walked short zs (stepped short z k)

-- what a search of the code keeps
abbrev pub kept_in : Search → Kept
kept_in s = record { free = s.offer.free; counts = s.offer.counts; evicted = s.evicted }

-- The numbers that the search keeps beside that are right, before and after each cell that is
-- tried: "It is shown to hold that count at each trial". The last bound keeps a sum from
-- overflowing: a cell is taken only where the shortage falls.
pub record Stands (d : Demand) (s : Search) : Type 0 where
  pub few_slots : d.slots ≤ most_slots
  pub free_long : length s.offer.free ≡ most_slots
  pub counts_long : length s.offer.counts ≡ most_slots
  pub table : AtLeast s.entries d.slots (at s.offer.counts)
  pub short : s.short ≡ short_for d (at s.offer.counts)
  pub few : s.evicted + s.short ≤ 255 * most_placed

-- what a part of the walk answers: the numbers stand, and what is kept is what the walk over zs
-- makes of what was kept
pub record Walked (d : Demand) (zs : List CellPlace) (s r : Search) : Type 0 where
  pub stands : Stands d r
  pub kept : kept_in r ≡ walked (short_for d) zs (kept_in s)

-- what the search has before its walk: the empty cells above the clock, and the free numbers
pub record Starts (t : List ℕ) (bridges motors clock : ℕ) (d : Demand) (s : Search) : Type 0 where
  pub stands : Stands d s
  pub free : (z : ℕ) → get_or s.offer.free z 0 ≡ only (ltb z d.slots) (slot_mask t bridges clock z)
  pub counts : (z : ℕ) → get_or s.offer.counts z 0 ≡ only (ltb z d.slots) (slot_number t bridges motors clock z)
  pub none : s.evicted ≡ 0

-- ---- The eviction order over a list of cells, with the ranks by number in a list: `eviction_order`, part by part. "The order of loss: worst rank
-- first; for one preset the latest slot first."

-- a cell that a call may evict, of the preset that has the rank
abbrev pub of_rank : List ℕ → ℕ → ℕ → Bool
of_rank ranks rank v = evictable_cell v && eqb (get_or ranks (number_in v) 0) rank

-- the cells of one rank in a slot, among its first n bridges
unfoldable pub places_in : List ℕ → ℕ → List ℕ → ℕ → ℕ → ℕ → List CellPlace
places_in t bridges ranks rank slot n =
    downward n (λ b. cond (of_rank ranks rank (cell_at t (slot * bridges + b))) (record { slot = slot; bridge = b } ∷ []) [])

-- the cells of one rank in the first n slots, above the clock
unfoldable pub places_from : List ℕ → ℕ → ℕ → List ℕ → ℕ → ℕ → List CellPlace
places_from t bridges clock ranks rank n =
    downward n (λ s. cond (usable clock s) (places_in t bridges ranks rank s bridges) [])

-- the cells of the first n ranks
unfoldable pub places_of : List ℕ → ℕ → ℕ → ℕ → List ℕ → ℕ → List CellPlace
places_of t bridges slots clock ranks n = downward n (λ r. places_from t bridges clock ranks r slots)

-- ---- The refinement cells as chains, one for each rank.

-- the cell at a place of the chains, of which a slot has eight
abbrev pub place_at : ℕ → CellPlace
place_at c = record { slot = c / most_bridges; bridge = c % most_bridges }

-- The cells zs are a chain from a place on: it is the first one's, and at a cell's place `next` has
-- the place of the cell after it; none ends the chain.
unfoldable pub Chain : List (Option ℕ) → Option ℕ → List CellPlace → Type 0
Chain next None [] = Unit {0}
Chain next None (z ∷ zs) = ⊥
Chain next (Some c) [] = ⊥
Chain next (Some c) (z ∷ zs) = (z ≡ place_at c) × Chain next (get_or next c None) zs

-- for each rank the cells `of` it are a chain
abbrev pub Chains : Links → (ℕ → List CellPlace) → Type 0
Chains links of = (r : ℕ) → r < most_presets → Chain links.next (get_or links.first r None) (of r)

-- the cells of each rank with one cell of a rank before them
abbrev pub preceded : ℕ → ℕ → (ℕ → List CellPlace) → ℕ → List CellPlace
preceded rank place of r = cond (eqb rank r) (place_at place ∷ []) [] ++ of r

-- one more than a place, 0 for none
abbrev pub past_place : Option ℕ → ℕ
past_place None = 0
past_place (Some c) = c + 1

-- the chains go down, from below a place
pub record Linked (links : Links) (bound : ℕ) : Type 0 where
  pub first_long : length links.first ≡ most_presets
  pub next_long : length links.next ≡ least_cells
  pub below : (r : ℕ) → past_place (get_or links.first r None) ≤ bound
  pub down : (c : ℕ) → past_place (get_or links.next c None) ≤ c

-- ---- the answer

-- What the search finds for the head h, the clock, the jobs and the cells t: "the number of lost
-- cells"; and for each slot the mask of the bridges that it may use, as "jobs are then placed ..
-- over the empty and lost cells", 0 past the frame, and how many of them are filled at the most:
-- the free number and one for each lost cell. Where the call does not fit, these are the cells that
-- lower the shortage.
pub record Evicting (h : Head) (clock : ℕ) (jobs : List Job) (t : Cells) (r : Evicted) : Type 0 where
  pub count : r.count ≡ ones (evicted_set h clock jobs t)
  pub free : (s : ℕ) → s < h.slots → get_or r.offer.free s 0 ≡ bridge_mask h.bridges (λ b. call_free h clock jobs t s b)
  pub past : (s : ℕ) → h.slots ≤ s → get_or r.offer.free s 0 ≡ 0
  pub counts : (s : ℕ) → s < h.slots → get_or r.offer.counts s 0 ≡ added (free_number_from h clock t) (slots_of (eviction_order h clock t)) (evicted_set h clock jobs t) s

-- what it answers: this, and whether the call fits
abbrev pub Evicts : Head → ℕ → List Job → Cells → Result Evicted Evicted → Type 0
Evicts h clock jobs t (Ok r) = (call_fits h clock jobs t ≡ true) × Evicting h clock jobs t r
Evicts h clock jobs t (Err r) = (call_fits h clock jobs t ≡ false) × Evicting h clock jobs t r

-- What the search can look at: a frame, presets and a lent table within the limits, and no more
-- jobs than are placed at a time.
abbrev pub searchable : record-of-head.Head → ℕ → ℕ → Bool
searchable head k cells = leb k most_placed && sizes_in_limits head.slots head.bridges head.count cells

-- the answer where it cannot: the call does not fit
abbrev pub unfit : Evicted
unfit = record { count = 0; offer = record { free = replicate most_slots 0; counts = replicate most_slots 0 } }

-- What `evict` answers for a head record, its preset records, the first k needs and a lent table:
-- for all jobs of these lengths what the search finds, or that the call does not fit where the
-- search cannot look at the frame. A head record that some text yields is within the limits.
pub record Searched (head : record-of-head.Head) (ps : List record-of-preset.Preset) (clock : ℕ) (needs : List ℕ) (k : ℕ) (t : List ℕ) (r : Result Evicted Evicted) : Type 0 where
  pub found : searchable head k (length t) ≡ true → (jobs : List Job) → lengths jobs ≡ take k needs
      → Evicts (head_in head ps) clock jobs (cell (head_in head ps) t) r
  pub stopped : searchable head k (length t) ≡ false → r ≡ Err unfit
