-- What the code's contracts cite: the placing rule over the arrays that the code keeps.
-- Assumes nothing.
use Rattle.std.specs.Prelude.{ℕ, ◌+◌, ◌-◌, ◌*◌, ◌/◌, ◌%◌, ◌≤◌, ◌<◌, ◌≡◌, Bool, true, ◌&&◌, cond, List, ◌++◌, length, take, drop, ltb, leb, eqb}
use Rattle.std.specs.Int.Bits.{bit_and, bit_xor}
use Rattle.laws.specs.Sums.{bit, count, every}
use Rattle.laws.specs.Lists.{at, tabulate}
use Rattle.laws.specs.Placement.{Ties, tie_hold, nobody, chosen, left, lrtf}
use Rattle.station.specs.Limits.{most_length}
use Rattle.station.specs.Head.{has_bit}
use Rattle.placing.specs.method.Limits.{most_placed, level_count, sizes_in_limits}
use Rattle.station.specs.declared.types.Head as record-of-head
use Rattle.placing.specs.declared.rule.Offer as offer
use Rattle.placing.specs.declared.rule.Work as work
use Rattle.placing.specs.Table.{Cells}
use Rattle.placing.specs.Plan.{placing}

-- the mask a without those of b
abbrev pub without : ℕ → ℕ → ℕ
without a b = bit_xor a (bit_and a b)

-- the first d of those that pass a test: of jobs that need the same, "the earlier line first"
abbrev pub first_few : (ℕ → Bool) → ℕ → ℕ → Bool
first_few f d i = f i && ltb (count i f) d

-- the first d of those that pass a test, where those of p go before the others: "those with a cell in the slot just before come first, then file or call order"
abbrev pub first_held : (ℕ → Bool) → (ℕ → Bool) → ℕ → ℕ → Bool
first_held p f d i = f i && ltb (count most_placed (λ j. f j && tie_hold 0 p j i)) d

-- The jobs by levels, a mask a level: job i stands in level l if it still needs l slots. Jobs that need none stand nowhere.
-- "those with the most slots still to get, never one with none left": whoever goes down the levels meets the jobs in that order.
abbrev pub Levelled : List ℕ → (ℕ → ℕ) → Type 0
Levelled t c = (l i : ℕ) → 0 < l → l < level_count → i < most_placed → has_bit (at t l) i ≡ eqb (c i) l

-- One slot with d cells to fill: the mask r has the jobs that get one, of those with the needs c, where of equal ones those of p go first; each of them stands one level lower in t.
-- "as many presets as there are free bridges, those with the most slots still to get, never one with none left".
pub record Served (t : List ℕ) (c : ℕ → ℕ) (p : ℕ → Bool) (d r : ℕ) : Type 0 where
  pub picks : (i : ℕ) → i < most_placed → has_bit r i ≡ chosen (tie_hold 0 p) most_placed c d i
  pub levels : Levelled t (λ i. c i - bit (has_bit r i))

-- What a job writes that needs `need` slots in all and `rest` of them still: `early` in its first `first` slots, `late` in the others.
-- "A preset's first m cells in time are required, the rest refinement."
abbrev pub job_cell : ℕ → ℕ → ℕ → ℕ → ℕ → ℕ
job_cell need rest first early late = cond (ltb (need - rest) first) early late

-- what job i writes, where arrays say how many of its first slots are still due and what it writes there and after them
abbrev pub due_cells : List ℕ → List ℕ → List ℕ → ℕ → ℕ
due_cells due early late i = cond (ltb 0 (at due i)) (at early i) (at late i)

-- u is the row t with its n cells written: cell b of them is w b.
pub record RowWritten (t u : List ℕ) (n : ℕ) (w : ℕ → ℕ) : Type 0 where
  pub long : length u ≡ length t
  pub inside : (b : ℕ) → b < n → at u b ≡ w b

-- what cell b of a slot holds after its free cells were made empty: any other cell what it held
abbrev pub emptied : (ℕ → Bool) → (ℕ → ℕ) → ℕ → ℕ
emptied f t b = cond (f b) 0 (t b)

-- the free ones of the n cells of a row are empty
abbrev pub EmptyRow : List ℕ → ℕ → (ℕ → Bool) → Type 0
EmptyRow t n f = (b : ℕ) → b < n → f b ≡ true → at t b ≡ 0

-- the free bridges that a list of masks gives, one mask a slot
abbrev pub free_in : List ℕ → ℕ → ℕ → Bool
free_in masks s b = has_bit (at masks s) b

-- what job i writes in slot s, where the jobs with the needs c go by LRTF into the free cells x
abbrev pub cell_in : Ties → List ℕ → (ℕ → ℕ) → List ℕ → List ℕ → List ℕ → ℕ → ℕ → ℕ
cell_in ties c x first early late i s = job_cell (at c i) (at (left ties nobody c x s) i) (at first i) (at early i) (at late i)

-- the cells of a lent table of so many bridges
abbrev pub cells_in : ℕ → List ℕ → Cells
cells_in bridges t s b = at t (s * bridges + b)

-- from slot `clean` on the free cells of the frame are empty
abbrev pub CleanFrom : ℕ → ℕ → ℕ → List ℕ → List ℕ → Type 0
CleanFrom clean slots bridges masks t = (s b : ℕ) → clean ≤ s → s < slots → b < bridges → free_in masks s b ≡ true → cells_in bridges t s b ≡ 0

-- no slot of the frame is given more jobs than it has free cells
abbrev pub Fillable : ℕ → ℕ → List ℕ → List ℕ → Type 0
Fillable slots bridges masks counts = (s : ℕ) → s < slots → at counts s ≤ count bridges (free_in masks s)

-- The lent table after jobs were placed: by the rule in the cells of the frame, in slot s at most `counts` of them, and "Cells past S × B are never changed".
unfoldable pub placed_in : Ties → ℕ → ℕ → List ℕ → List ℕ → List ℕ → List ℕ → List ℕ → List ℕ → List ℕ → List ℕ
placed_in ties slots bridges masks counts c first early late t =
    tabulate (slots * bridges) (λ i.
    placing (length c) (free_in masks) (λ j s. lrtf ties nobody c (at counts) j s) (cell_in ties c (at counts) first early late)
    (cells_in bridges t) (i / bridges) (i % bridges))
    ++ drop (slots * bridges) t

-- What `place` can look at: as many jobs as are placed at a time, none of which needs more slots than the longest job, and a frame and a lent table within the limits.
unfoldable pub placeable : ℕ → ℕ → List ℕ → ℕ → ℕ → Bool
placeable slots bridges needs k cells = leb k most_placed && every k (λ i. leb (at needs i) most_length) && sizes_in_limits slots bridges 0 cells

-- The lent table after `place`, for the first k needs of an array: beyond the limits it is as it was.
unfoldable pub placed_within : Ties → ℕ → ℕ → List ℕ → List ℕ → List ℕ → ℕ → List ℕ → List ℕ → List ℕ → List ℕ → List ℕ
placed_within ties slots bridges masks counts needs k first early late t =
    cond (placeable slots bridges needs k (length t)) (placed_in ties slots bridges masks counts (take k needs) first early late t) t

-- the same by the records of the code: the head, where jobs may go, and what is placed
abbrev pub placed_by : Ties → record-of-head.Head → offer.Offer → work.Work → List ℕ → List ℕ
placed_by ties head o w t = placed_within ties head.slots head.bridges o.free o.counts w.needs w.count w.first w.early w.late t
