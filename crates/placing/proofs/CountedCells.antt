-- Laws of counted cells, of the numbers that cells are, and of the presets' lines.
--
-- In order: sums over cells (`area`); counting cells of any number of slots and bridges (`grid`), then of a head's frame (`cells`, `holding`); a
-- cell's kind and number, the kind tests, and a cell from its kind and number; lost cells; cells that a call may evict; a preset by its number, the line of a number, what a sum
-- over the lines with one number is.
-- Assumes nothing.
use Prim.Native.Nat.{ℕ, ◌+◌, ◌*◌, ◌≤◌, ◌<◌}
use native.Mathlib.Omega.{arith}
use mathlib.Core.Path.{◌≡◌, refl, ◌∙◌, ap}
use mathlib.Core.Bool.{Bool, true, false, not, ◌&&◌}
use lib.Dec.{eqb}
use Rattle.laws.specs.Sums.{bit, only, sum, count}
use Rattle.laws.proofs.Tests.{both, left_of, right_of, not_is_true, false_of_not}
use Rattle.laws.proofs.Comparisons.{lt_of, eq_of, eqb_self, ltb_yes, eqb_no}
use Rattle.laws.proofs.Every.{injective_below}
use Rattle.laws.proofs.Sums.{sum_ext, sum_le, sum_zero, term_le, sum_add, sum_point, sum_pos}
use Rattle.laws.proofs.Counts.{count_imp, count_none, count_pos, count_some, count_split}
use Rattle.station.specs.Head.{Head, Valid, preset_at}
use Rattle.placing.specs.Table.{Cells, Each, cells, holding, kind_of, number_in, mandatory_cell, optional_cell, call_cell, is_busy}
use Rattle.placing.specs.Table.{is_optional, is_call, preset_count, number_at, has_preset}
use Rattle.placing.specs.Valid.{lost, priority_of}
use Rattle.placing.specs.Plan.{rank}
use Rattle.placing.specs.Call.{rank_of, is_evictable}

-- ---- counting cells

-- the sum over the cells of S slots and B bridges
abbrev pub area : ℕ → ℕ → (ℕ → ℕ → ℕ) → ℕ
area S B f = sum S (λ s. sum B (λ b. f s b))

pub area_ext : (S B : ℕ) (f g : ℕ → ℕ → ℕ) → ((s b : ℕ) → s < S → b < B → f s b ≡ g s b) → area S B f ≡ area S B g
area_ext S B f g h = sum_ext S (λ s. sum B (λ b. f s b)) (λ s. sum B (λ b. g s b)) (λ s l. sum_ext B (λ b. f s b) (λ b. g s b) (λ b m. h s b l m))

pub area_add : (S B : ℕ) (f g : ℕ → ℕ → ℕ) → area S B (λ s b. f s b + g s b) ≡ area S B f + area S B g
area_add S B f g =
    sum_ext S (λ s. sum B (λ b. f s b + g s b)) (λ s. sum B (λ b. f s b) + sum B (λ b. g s b)) (λ s l. sum_add B (λ b. f s b) (λ b. g s b))
    ∙ sum_add S (λ s. sum B (λ b. f s b)) (λ s. sum B (λ b. g s b))

pub area_zero : (S B : ℕ) → area S B (λ s b. 0) ≡ 0
area_zero S B = sum_zero S (λ s. sum B (λ b. 0)) (λ s l. sum_zero B (λ b. 0) (λ b m. refl))

-- how many cells of S slots and B bridges pass a test; `cells h` is `grid h.slots h.bridges`
abbrev pub grid : ℕ → ℕ → (ℕ → ℕ → Bool) → ℕ
grid S B p = sum S (λ s. count B (λ b. p s b))

module _ (S B : ℕ) (p : ℕ → ℕ → Bool) where
  pub grid_none : ((s b : ℕ) → s < S → b < B → p s b ≡ false) → grid S B p ≡ 0
  grid_none h = sum_zero S (λ s. count B (λ b. p s b)) (λ s l. count_none B (λ b. p s b) (λ b m. h s b l m))

  pub grid_pos : 0 < grid S B p → (s b : ℕ) × (s < S) × (b < B) × (p s b ≡ true)
  grid_pos h =
      let w = sum_pos S (λ s. count B (λ b. p s b)) h in
      let v = count_pos B (λ b. p w.0 b) w.2 in
      (w.0, v.0, w.1, v.1, v.2)

  pub grid_some : (s b : ℕ) → s < S → b < B → p s b ≡ true → 0 < grid S B p
  grid_some s b l m e = omega (arith, term_le S (λ r. count B (λ a. p r a)) s l, count_some B (λ a. p s a) b m e)

module _ (S B : ℕ) (p q : ℕ → ℕ → Bool) where
  pub grid_ext : ((s b : ℕ) → s < S → b < B → p s b ≡ q s b) → grid S B p ≡ grid S B q
  grid_ext h = area_ext S B (λ s b. bit (p s b)) (λ s b. bit (q s b)) (λ s b l m. ap bit (h s b l m))

  pub grid_imp : ((s b : ℕ) → s < S → b < B → p s b ≡ true → q s b ≡ true) → grid S B p ≤ grid S B q
  grid_imp h =
      sum_le S (λ s. count B (λ b. p s b)) (λ s. count B (λ b. q s b)) (λ s l. count_imp B (λ b. p s b) (λ b. q s b) (λ b m. h s b l m))

  pub grid_split : grid S B p ≡ grid S B (λ s b. p s b && q s b) + grid S B (λ s b. p s b && not (q s b))
  grid_split =
      sum_ext S (λ s. count B (λ b. p s b)) (λ s. count B (λ b. p s b && q s b) + count B (λ b. p s b && not (q s b)))
      (λ s l. count_split B (λ b. p s b) (λ b. q s b))
      ∙ sum_add S (λ s. count B (λ b. p s b && q s b)) (λ s. count B (λ b. p s b && not (q s b)))

-- the same of a head's frame
module _ (h : Head) (p : ℕ → ℕ → Bool) where
  pub cells_none : Each h (λ s b. p s b ≡ false) → cells h p ≡ 0
  cells_none = grid_none h.slots h.bridges p

  pub cells_pos : 0 < cells h p → (s b : ℕ) × (s < h.slots) × (b < h.bridges) × (p s b ≡ true)
  cells_pos = grid_pos h.slots h.bridges p

  pub cells_some : (s b : ℕ) → s < h.slots → b < h.bridges → p s b ≡ true → 0 < cells h p
  cells_some = grid_some h.slots h.bridges p

module _ (h : Head) (p q : ℕ → ℕ → Bool) where
  pub cells_ext : Each h (λ s b. p s b ≡ q s b) → cells h p ≡ cells h q
  cells_ext = grid_ext h.slots h.bridges p q

  pub cells_imp : Each h (λ s b. p s b ≡ true → q s b ≡ true) → cells h p ≤ cells h q
  cells_imp = grid_imp h.slots h.bridges p q

  pub cells_split : cells h p ≡ cells h (λ s b. p s b && q s b) + cells h (λ s b. p s b && not (q s b))
  cells_split = grid_split h.slots h.bridges p q

pub holding_ext : (h : Head) (t u : Cells) → Each h (λ s b. t s b ≡ u s b) → (v : ℕ) → holding h t v ≡ holding h u v
holding_ext h t u e v = cells_ext h (λ s b. eqb (t s b) v) (λ s b. eqb (u s b) v) (λ s b l m. ap (λ (w : ℕ). eqb w v) (e s b l m))

-- ---- kind and number

pub number_in_lt : (v : ℕ) → number_in v < 256
number_in_lt v = omega arith

-- a cell of kind k with number n, and the test for kind j of it
pub kind_of_cell : (k n : ℕ) → n < 256 → kind_of (k * 256 + n) ≡ k
kind_of_cell k n h = omega arith

pub number_in_cell : (k n : ℕ) → n < 256 → number_in (k * 256 + n) ≡ n
number_in_cell k n h = omega arith

pub kind_test : (j k n : ℕ) → n < 256 → eqb (kind_of (k * 256 + n)) j ≡ eqb k j
kind_test j k n h = ap (λ (i : ℕ). eqb i j) (kind_of_cell k n h)

-- a cell is its kind and its number
pub cell_of_kind : (k v : ℕ) → kind_of v ≡ k → v ≡ k * 256 + number_in v
cell_of_kind k v h = omega arith

-- a cell of kind 2 or more is not busy
pub is_busy_no : (v : ℕ) → 2 ≤ kind_of v → is_busy v ≡ false
is_busy_no v h = eqb_no v 256 (λ e. omega arith)

module _ (n : ℕ) (h : n < 256) where
  pub kind_of_mandatory : kind_of (mandatory_cell n) ≡ 2
  kind_of_mandatory = kind_of_cell 2 n h

  pub kind_of_call : kind_of (call_cell n) ≡ 4
  kind_of_call = kind_of_cell 4 n h

  pub number_in_mandatory : number_in (mandatory_cell n) ≡ n
  number_in_mandatory = number_in_cell 2 n h

  pub number_in_optional : number_in (optional_cell n) ≡ n
  number_in_optional = number_in_cell 3 n h

  pub number_in_call : number_in (call_cell n) ≡ n
  number_in_call = number_in_cell 4 n h

  pub is_optional_call : is_optional (call_cell n) ≡ false
  is_optional_call = kind_test 3 4 n h

  pub is_call_call : is_call (call_cell n) ≡ true
  is_call_call = kind_test 4 4 n h

pub mandatory_of : (v : ℕ) → kind_of v ≡ 2 → v ≡ mandatory_cell (number_in v)
mandatory_of = cell_of_kind 2

pub call_of_lem : (v : ℕ) → kind_of v ≡ 4 → v ≡ call_cell (number_in v)
call_of_lem = cell_of_kind 4

-- ---- lost cells

-- a lost cell was optional and is not any more
module _ (t u : Cells) (s b : ℕ) where
  pub lost_was : lost t u s b ≡ true → is_optional (t s b) ≡ true
  lost_was = left_of (is_optional (t s b)) (not (is_optional (u s b)))

  pub lost_now : lost t u s b ≡ true → is_optional (u s b) ≡ false
  lost_now e = false_of_not (is_optional (u s b)) (right_of (is_optional (t s b)) (not (is_optional (u s b))) e)

  pub is_lost : is_optional (t s b) ≡ true → is_optional (u s b) ≡ false → lost t u s b ≡ true
  is_lost p q = both (is_optional (t s b)) (not (is_optional (u s b))) p (not_is_true (is_optional (u s b)) q)

-- ---- cells that a call may evict

-- they are the optional ones
pub evictable_optional : (h : Head) (v : ℕ) → is_evictable h v ≡ true → is_optional v ≡ true
evictable_optional h v e = e

pub optional_evictable : (h : Head) (v : ℕ) → is_optional v ≡ true → is_evictable h v ≡ true
optional_evictable h v e = e

-- ---- the presets' lines

pub has_preset_of : (h : Head) (i : ℕ) → i < preset_count h → has_preset h (number_at h i) ≡ true
has_preset_of h i l =
    ltb_yes 0 (count (preset_count h) (λ j. eqb (number_at h j) (number_at h i)))
    (count_some (preset_count h) (λ j. eqb (number_at h j) (number_at h i)) i l (eqb_self (number_at h i)))

pub preset_with : (h : Head) (n : ℕ) → has_preset h n ≡ true → (i : ℕ) × (i < preset_count h) × (number_at h i ≡ n)
preset_with h n e =
    let w = count_pos (preset_count h) (λ i. eqb (number_at h i) n) (lt_of 0 (count (preset_count h) (λ i. eqb (number_at h i) n)) e) in
    (w.0, w.1, eq_of (number_at h w.0) n w.2)

module _ (h : Head) (valid : Valid h) where
  -- a preset's number is one that a cell can hold
  pub number_at_low : (i : ℕ) → i < preset_count h → 1 ≤ number_at h i
  number_at_low i l = (valid.limits i l).number_low

  pub number_at_lt : (i : ℕ) → i < preset_count h → number_at h i < 256
  number_at_lt i l = omega (arith, (valid.limits i l).number_high)

  -- two lines with one number are one line
  pub index_unique : (i j : ℕ) → i < preset_count h → j < preset_count h → number_at h i ≡ number_at h j → i ≡ j
  index_unique = injective_below (preset_count h) (number_at h) valid.distinct

  -- a sum over the lines with one number has one term
  pub sum_with_number : (f : ℕ → ℕ) (i : ℕ) → i < preset_count h → sum (preset_count h) (λ j. only (eqb (number_at h j) (number_at h i)) (f j)) ≡ f i
  sum_with_number f i l =
      sum_point (preset_count h) (λ j. only (eqb (number_at h j) (number_at h i)) (f j)) i l
      (λ j m ne. ap (λ (b : Bool). only b (f j)) (eqb_no (number_at h j) (number_at h i) (λ e. ne (index_unique j i m l e))))
      ∙ ap (λ (b : Bool). only b (f i)) (eqb_self (number_at h i))

  pub priority_of_is : (i : ℕ) → i < preset_count h → priority_of h (number_at h i) ≡ (preset_at h i).priority
  priority_of_is = sum_with_number (λ j. (preset_at h j).priority)

  pub rank_of_is : (i : ℕ) → i < preset_count h → rank_of h (number_at h i) ≡ rank h i
  rank_of_is = sum_with_number (rank h)
