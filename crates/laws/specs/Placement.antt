-- Jobs and slots as numbers: job i of k needs `c i` different slots, slot s of n has `x s` free
-- cells, and `w i s` says that job i may use slot s. The meaning is `Placed`: which job stands in
-- which slot. `Criterion`, `excess` and `chosen` are the methods; proofs/ shows that they compute
-- the meaning. The order of ties is document 02's, 2026-02. Nothing here knows of tables or of
-- text. Assumes nothing.
use Rattle.std.specs.Prelude.{ℕ, zero, suc, ◌+◌, ◌-◌, ◌≤◌, ◌<◌, min, ◌≡◌, ◌⊎◌, Bool, true, false, ◌&&◌, ◌||◌, List, [], length, ltb}
use Rattle.laws.specs.Sums.{bit, only, sum, count, greatest, position, Total}
use Rattle.laws.specs.Lists.{at, tabulate}

-- every job may use every slot: so it is with presets and, as long as calls have no windows, with
-- jobs
abbrev pub everywhere : ℕ → ℕ → Bool
everywhere i s = true

-- A placement: `a i s` says that job i has a cell in slot s. A job has as many slots as it needs,
-- at most one cell in each, and only slots that it may use; a slot holds no more jobs than it has
-- free cells.
pub record Placed (w : ℕ → ℕ → Bool) (k : ℕ) (c : ℕ → ℕ) (n : ℕ) (x : ℕ → ℕ) (a : ℕ → ℕ → Bool) : Type 0 where
  pub exact : (i : ℕ) → i < k → count n (λ s. a i s) ≡ c i
  pub within : (s : ℕ) → s < n → count k (λ i. a i s) ≤ x s
  pub allowed : (i s : ℕ) → i < k → s < n → a i s ≡ true → w i s ≡ true

-- The capacity for r (document 01: the room for r): the sum over the slots of the smaller of r and
-- the free cells.
abbrev pub capacity : ℕ → (ℕ → ℕ) → ℕ → ℕ
capacity n x r = sum n (λ s. min r (x s))

-- Every selection of jobs needs no more than the capacity for its size. The selection of the r
-- largest needs is one of them.
abbrev pub Criterion : ℕ → (ℕ → ℕ) → ℕ → (ℕ → ℕ) → Type 0
Criterion k c n x = (p : ℕ → Bool) → sum k (λ i. only (p i) (c i)) ≤ capacity n x (count k p)

-- ---- ties

-- An order of ties: in slot s, where p are those that have a cell in the slot just before, job j
-- goes before job i of as many slots still to get.
abbrev pub Ties : Type 0
Ties = ℕ → (ℕ → Bool) → ℕ → ℕ → Bool

-- "Optimality is shown for every order of ties": for each slot and set it is a strict total order.
-- An order of the jobs at hand alone is one of these, with all other numbers put behind; and since
-- the slot is asked too, so is one that goes by what was chosen in earlier slots.
abbrev pub TotalTies : Ties → Type 0
TotalTies ties = (s : ℕ) (p : ℕ → Bool) → Total (ties s p)

-- "`(tie place)` brings back the old order": "Equal ones: the earlier line first"
abbrev pub tie_place : Ties
tie_place s p j i = ltb j i

-- "those with a cell in the slot just before come first, then file or call order"
abbrev pub tie_hold : Ties
tie_hold s p j i = ltb (bit (p i)) (bit (p j) + bit (ltb j i))

-- those of the first k jobs with a cell in the slot just before slot s, where `a i s` says that job
-- i has one in slot s: in slot s - 1 exactly, and before the first slot nobody
abbrev pub holders : ℕ → (ℕ → ℕ → Bool) → ℕ → ℕ → Bool
holders k a zero i = false
holders k a (suc s) i = ltb i k && a i s

-- nobody stands anywhere before the rule begins
abbrev pub nobody : ℕ → ℕ → Bool
nobody i s = false

-- ---- the rule

-- Job j goes first, before job i: it needs more, or as much and the order of ties r puts it first.
-- Document 01: "those with the most slots still to get".
abbrev pub goes_first : (ℕ → ℕ → Bool) → (ℕ → ℕ) → ℕ → ℕ → Bool
goes_first r c j i = ltb (c i) (c j + bit (r j i))

-- One slot with d free cells: job i gets a cell in it. Document 01: "as many presets as there are
-- free bridges, those with the most slots still to get, never one with none left".
abbrev pub chosen : (ℕ → ℕ → Bool) → ℕ → (ℕ → ℕ) → ℕ → ℕ → Bool
chosen r k c d i = ltb 0 (c i) && ltb (position k (goes_first r c) i) d

-- The same as the papers word it, for a slot with d free cells, needs c, the order of ties r and
-- the set D of those that get a cell.
pub record SlotRule (r : ℕ → ℕ → Bool) (k : ℕ) (c : ℕ → ℕ) (d : ℕ) (D : ℕ → Bool) : Type 0 where
  -- "as many presets as there are free bridges", or all that still need a slot
  pub many : count k D ≡ min d (count k (λ i. ltb 0 (c i)))
  -- "those with the most slots still to get"; equal needs: whom the order puts first
  pub most : (i j : ℕ) → i < k → j < k → D j ≡ true → D i ≡ false → 0 < c i → (c i < c j) ⊎ ((c i ≡ c j) × (r j i ≡ true))
  -- "never one with none left"
  pub needed : (i : ℕ) → i < k → D i ≡ true → 0 < c i

-- How far the rule has come before a slot: what each job still needs, and 1 for each that has a
-- cell in the slot just before, 0 for the others. Lists, so that they compute.
pub record AtSlot : Type 0 where
  pub needs : List ℕ
  pub held : List ℕ

-- those that have a cell in the slot just before
abbrev pub holds : AtSlot → ℕ → Bool
holds r i = ltb 0 (at r.held i)

-- whom the rule chooses in slot s with d free cells
abbrev pub chosen_at : Ties → ℕ → ℕ → AtSlot → ℕ → Bool
chosen_at ties d s r i = chosen (ties s (holds r)) (length r.needs) (at r.needs) d i

-- Slot s went by: each chosen job needs one slot less; those chosen, or standing there already,
-- have a cell in it.
unfoldable pub served : Ties → (ℕ → ℕ → Bool) → ℕ → ℕ → AtSlot → AtSlot
served ties standing d s r = record {
  needs = tabulate (length r.needs) (λ i. at r.needs i - bit (chosen_at ties d s r i));
  held = tabulate (length r.needs) (λ i. bit (standing i s || chosen_at ties d s r i));
}

-- What the rule has before slot s where each slot before it went by the rule (largest remaining
-- time first, LRTF), for jobs with the needs c, x s free cells in slot s, and those of whom
-- `standing i s` says that they have a cell in slot s already.
unfoldable pub at_slot : Ties → (ℕ → ℕ → Bool) → List ℕ → (ℕ → ℕ) → ℕ → AtSlot
at_slot ties standing c x zero = record { needs = c; held = [] }
at_slot ties standing c x (suc s) = served ties standing (x s) s (at_slot ties standing c x s)

-- the needs that are left before slot s
abbrev pub left : Ties → (ℕ → ℕ → Bool) → List ℕ → (ℕ → ℕ) → ℕ → List ℕ
left ties standing c x s = (at_slot ties standing c x s).needs

-- the placement that LRTF makes
abbrev pub lrtf : Ties → (ℕ → ℕ → Bool) → List ℕ → (ℕ → ℕ) → ℕ → ℕ → Bool
lrtf ties standing c x i s = chosen_at ties (x s) s (at_slot ties standing c x s) i

-- ---- the r largest needs

-- Job j comes before job i by its need: it needs more, or as much and is the earlier one, whatever
-- the order of ties.
abbrev pub before : (ℕ → ℕ) → ℕ → ℕ → Bool
before c j i = ltb (c i) (c j + bit (ltb j i))

-- the sum of the r largest needs
abbrev pub largest : ℕ → (ℕ → ℕ) → ℕ → ℕ
largest k c r = sum k (λ i. only (ltb (position k (before c) i) r) (c i))

-- By how much the r largest needs exceed the capacity for r, at the worst r: 0 exactly if the needs
-- fit.
abbrev pub excess : ℕ → (ℕ → ℕ) → ℕ → (ℕ → ℕ) → ℕ
excess k c n x = greatest k (λ r. largest k c r - capacity n x r)
