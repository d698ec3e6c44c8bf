-- The free number of a slot: the smaller of its empty cells and the motors that are left.
--
-- In order: "A lost cell frees one motor", as a law of numbers (`freed_number`) and of cells that are made empty (`cleared_empty`, `cleared_held`, `cleared_free`); a slot's free number
-- by its own cells alone (`free_number_ext`); of the slots that a call may use (`freed_from`, `from_ext`, `free_from_few`); what a plan may fill (`plan_free_is`), and what a call may
-- (`call_free_least`, `call_free_motors`).
-- Assumes nothing.
use Prim.Native.Nat.{ℕ, ◌+◌, ◌-◌, ◌≤◌, ◌<◌, min}
use native.Mathlib.Omega.{arith}
use mathlib.Core.Path.{◌≡◌, refl, sym, ◌∙◌, ap, ap₂}
use mathlib.Core.Logic.{inl, inr, ◌⊎◌}
use mathlib.Core.Bool.{Bool, true, false, not, ◌&&◌, ◌||◌, cond, and-true, and-false, or-true, or-false}
use mathlib.Core.List.{List}
use lib.Dec.{ltb}
use Rattle.laws.specs.Sums.{count, only}
use Rattle.laws.proofs.Tests.{Is, is_true, is_false, is, clash, not-true, test_ext, left_of, right_of, or_cases, or_left, or_right, and_implied}
use Rattle.laws.proofs.Comparisons.{lt_of, ge_of, eq_of, ltb_yes, eqb_yes}
use Rattle.laws.proofs.Sums.{only_le_self}
use Rattle.laws.proofs.Counts.{count_le, count_ext, count_imp, count_none, count_split, count_or}
use Rattle.station.specs.Head.{Head, Job, busy_at}
use Rattle.placing.specs.Table.{Cells, kind_of, is_empty, is_mandatory, is_optional, is_call, is_held, empty_cells, held_cells, motors, free_number, bare_table, cleared}
use Rattle.placing.specs.Valid.{usable}
use Rattle.placing.specs.Plan.{plan_free, plan_free_count}
use Rattle.placing.specs.Call.{evictable, eviction_order, in_set, free_number_from, evicted_set, call_free, call_free_count}

-- ---- one motor for each lost cell

-- e empty cells, k motors, and l of the held cells made empty: each gives one more. Where more is held than there are motors this is false: with e = 1, l = 1, held = 2, k = 1 it would be
-- 0 + 1 for min 2 0.
pub freed_number : (e l held k : ℕ) → l ≤ held → held ≤ k → min (e + l) (k - (held - l)) ≡ min e (k - held) + l
freed_number e l held k a b = omega arith

-- the kinds of held cells
pub held_kind : (v : ℕ) → is_held v ≡ true → (2 ≤ kind_of v) × (kind_of v ≤ 4)
held_kind v e = go (or_cases (is_mandatory v || is_optional v) (is_call v) e)
  where
    preset : (is_mandatory v ≡ true) ⊎ (is_optional v ≡ true) → (2 ≤ kind_of v) × (kind_of v ≤ 4)
    preset (inl p) = let k = eq_of (kind_of v) 2 p in (omega (arith, k), omega (arith, k))
    preset (inr p) = let k = eq_of (kind_of v) 3 p in (omega (arith, k), omega (arith, k))

    go : ((is_mandatory v || is_optional v) ≡ true) ⊎ (is_call v ≡ true) → (2 ≤ kind_of v) × (kind_of v ≤ 4)
    go (inl p) = preset (or_cases (is_mandatory v) (is_optional v) p)
    go (inr p) = let k = eq_of (kind_of v) 4 p in (omega (arith, k), omega (arith, k))

pub held_mandatory : (v : ℕ) → is_mandatory v ≡ true → is_held v ≡ true
held_mandatory v e = or_left (is_mandatory v || is_optional v) (is_call v) (or_left (is_mandatory v) (is_optional v) e)

pub held_optional : (v : ℕ) → is_optional v ≡ true → is_held v ≡ true
held_optional v e = or_left (is_mandatory v || is_optional v) (is_call v) (or_right (is_mandatory v) (is_optional v) e)

pub held_call : (v : ℕ) → is_call v ≡ true → is_held v ≡ true
held_call v e = or_right (is_mandatory v || is_optional v) (is_call v) e

-- the held cells are the values from the first mandatory cell up to the last call cell
pub unheld_low : (v : ℕ) → v < 512 → is_held v ≡ false
unheld_low v l = not-true (is_held v) (λ e. omega (arith, (held_kind v e).0))

pub held_test : (v : ℕ) → 512 ≤ v → ltb v 1280 ≡ is_held v
held_test v l = test_ext (ltb v 1280) (is_held v) (λ e. go (lt_of v 1280 e) (is (ltb v 768)) (is (ltb v 1024))) (λ e. ltb_yes v 1280 (omega (arith, (held_kind v e).1)))
  where
    go : v < 1280 → Is (ltb v 768) → Is (ltb v 1024) → is_held v ≡ true
    go m (is_true p) q = held_mandatory v (eqb_yes (kind_of v) 2 (omega (arith, lt_of v 768 p)))
    go m (is_false p) (is_true q) = held_optional v (eqb_yes (kind_of v) 3 (omega (arith, ge_of v 768 p, lt_of v 1024 q)))
    go m (is_false p) (is_false q) = held_call v (eqb_yes (kind_of v) 4 (omega (arith, ge_of v 1024 q)))

-- an empty cell is not held
pub empty_unheld : (v : ℕ) → is_empty v ≡ true → is_held v ≡ false
empty_unheld v e = ap is_held (eq_of v 0 e)

module _ (h : Head) (f : ℕ → ℕ → Bool) (t : Cells) (s : ℕ) where
  pub cleared_empty : (b : ℕ) → is_empty (cleared f t s b) ≡ (is_empty (t s b) || f s b)
  cleared_empty b = go (f s b)
    where
      go : (c : Bool) → is_empty (cond c 0 (t s b)) ≡ (is_empty (t s b) || c)
      go true = sym (or-true (is_empty (t s b)))
      go false = sym (or-false (is_empty (t s b)))

  pub cleared_held : (b : ℕ) → is_held (cleared f t s b) ≡ (is_held (t s b) && not (f s b))
  cleared_held b = go (f s b)
    where
      go : (c : Bool) → is_held (cond c 0 (t s b)) ≡ (is_held (t s b) && not c)
      go true = sym (and-false (is_held (t s b)))
      go false = sym (and-true (is_held (t s b)))

  -- fewer cells are held
  pub cleared_held_le : held_cells h (cleared f t) s ≤ held_cells h t s
  cleared_held_le =
      count_imp h.bridges (λ b. is_held (cleared f t s b)) (λ b. is_held (t s b)) (λ b m e. left_of (is_held (t s b)) (not (f s b)) (sym (cleared_held b) ∙ e))

  -- held cells made empty raise the free number by one each, where no more cells are held than the supply feeds
  pub cleared_free : ((b : ℕ) → b < h.bridges → f s b ≡ true → is_held (t s b) ≡ true) → held_cells h t s ≤ motors h
      → free_number h (cleared f t) s ≡ free_number h t s + count h.bridges (λ b. f s b)
  cleared_free were fed =
      ap₂ (λ (x y : ℕ). min x (motors h - y)) more (omega (arith, fewer))
      ∙ freed_number (empty_cells h t s) (count h.bridges (λ b. f s b)) (held_cells h t s) (motors h) (omega (arith, fewer)) fed
    where
      more : empty_cells h (cleared f t) s ≡ empty_cells h t s + count h.bridges (λ b. f s b)
      more =
          count_ext h.bridges (λ b. is_empty (cleared f t s b)) (λ b. is_empty (t s b) || f s b) (λ b m. cleared_empty b)
          ∙ count_or h.bridges (λ b. is_empty (t s b)) (λ b. f s b) (λ b m e. not-true (f s b) (λ d. clash (sym (were b m d) ∙ empty_unheld (t s b) e)))

      fewer : held_cells h t s ≡ count h.bridges (λ b. f s b) + held_cells h (cleared f t) s
      fewer =
          count_split h.bridges (λ b. is_held (t s b)) (λ b. f s b)
          ∙ ap₂ (λ (x y : ℕ). x + y)
          (count_ext h.bridges (λ b. is_held (t s b) && f s b) (λ b. f s b) (λ b m. and_implied (is_held (t s b)) (f s b) (were b m)))
          (count_ext h.bridges (λ b. is_held (t s b) && not (f s b)) (λ b. is_held (cleared f t s b)) (λ b m. sym (cleared_held b)))

-- the free number is that of the slot's own cells
pub free_number_ext : (h : Head) (t u : Cells) (s : ℕ) → ((b : ℕ) → b < h.bridges → t s b ≡ u s b) → free_number h t s ≡ free_number h u s
free_number_ext h t u s e =
    ap₂ (λ (x y : ℕ). min x (motors h - y))
    (count_ext h.bridges (λ b. is_empty (t s b)) (λ b. is_empty (u s b)) (λ b m. ap is_empty (e b m)))
    (count_ext h.bridges (λ b. is_held (t s b)) (λ b. is_held (u s b)) (λ b m. ap is_held (e b m)))

-- ---- the slots that a call may use

module _ (h : Head) (clock : ℕ) (t : Cells) (s : ℕ) where
  -- refinement cells of such slots, each of which adds one to what is free, in a sound table
  pub freed_from : (f : ℕ → ℕ → Bool) → ((b : ℕ) → b < h.bridges → f s b ≡ true → evictable h clock t s b ≡ true) → held_cells h t s ≤ motors h
      → free_number_from h clock (cleared f t) s ≡ free_number_from h clock t s + count h.bridges (λ b. f s b)
  freed_from f were fed = go (is (usable clock s))
    where
      go : Is (usable clock s) → only (usable clock s) (free_number h (cleared f t) s) ≡ only (usable clock s) (free_number h t s) + count h.bridges (λ b. f s b)
      go (is_true e) = rw e (cleared_free h f t s (λ b m d. held_optional (t s b) (right_of (usable clock s) (is_optional (t s b)) (were b m d))) fed)
      go (is_false e) =
          rw e (omega (
            arith,
            count_none h.bridges (λ b. f s b) (λ b m. not-true (f s b) (λ d. clash (sym (left_of (usable clock s) (is_optional (t s b)) (were b m d)) ∙ e))),
          ))

  pub from_ext : (f g : ℕ → ℕ → Bool) → ((b : ℕ) → b < h.bridges → f s b ≡ g s b) → free_number_from h clock (cleared f t) s ≡ free_number_from h clock (cleared g t) s
  from_ext f g e =
      ap (only (usable clock s)) (free_number_ext h (cleared f t) (cleared g t) s (λ b m. ap (λ (c : Bool). cond c 0 (t s b)) (e b m)))

  -- no slot has more free cells than bridges
  pub free_from_few : free_number_from h clock t s ≤ h.bridges
  free_from_few = omega (arith, only_le_self (usable clock s) (free_number h t s), count_le h.bridges (λ b. is_empty (t s b)))

-- ---- a plan

-- a plan fills as many cells of a slot as are not busy and the supply feeds
pub plan_free_is : (h : Head) (s : ℕ) → plan_free_count h s ≡ min (count h.bridges (λ b. plan_free h s b)) (motors h)
plan_free_is h s =
    omega (
      arith,
      count_ext h.bridges (λ b. is_empty (bare_table h s b)) (λ b. plan_free h s b) (λ b m. is_free (busy_at h s b)),
      count_none h.bridges (λ b. is_held (bare_table h s b)) (λ b m. is_bare (busy_at h s b)),
    )
  where
    is_free : (c : Bool) → is_empty (cond c 256 0) ≡ not c
    is_free true = refl
    is_free false = refl

    is_bare : (c : Bool) → is_held (cond c 256 0) ≡ false
    is_bare true = refl
    is_bare false = refl

-- ---- a call

-- what is left of a table without the cells that a call evicts
abbrev pub unevicted : Head → ℕ → List Job → Cells → Cells
unevicted h clock jobs t = cleared (in_set (eviction_order h clock t) (evicted_set h clock jobs t)) t

module _ (h : Head) (clock : ℕ) (jobs : List Job) (t : Cells) (s : ℕ) where
  abbrev left : Cells
  left = unevicted h clock jobs t

  -- its jobs fill no more cells of a slot than are empty or evicted
  pub call_free_least : call_free_count h clock jobs t s ≤ count h.bridges (λ b. call_free h clock jobs t s b)
  call_free_least = go (is (usable clock s))
    where
      free : usable clock s ≡ true → (b : ℕ) → is_empty (left s b) ≡ true → call_free h clock jobs t s b ≡ true
      free e b d = rw e (sym (cleared_empty h (in_set (eviction_order h clock t) (evicted_set h clock jobs t)) t s b) ∙ d)

      go : Is (usable clock s) → call_free_count h clock jobs t s ≤ count h.bridges (λ b. call_free h clock jobs t s b)
      go (is_true e) =
          omega (
            arith,
            ap (λ (c : Bool). only c (free_number h left s)) e,
            count_imp h.bridges (λ b. is_empty (left s b)) (λ b. call_free h clock jobs t s b) (λ b m. free e b),
          )
      go (is_false e) = omega (arith, ap (λ (c : Bool). only c (free_number h left s)) e)

  -- and no more than the supply feeds beside the cells that are left
  pub call_free_motors : held_cells h t s ≤ motors h → call_free_count h clock jobs t s + held_cells h left s ≤ motors h
  call_free_motors fed = go (usable clock s)
    where
      fewer : held_cells h left s ≤ held_cells h t s
      fewer = cleared_held_le h (in_set (eviction_order h clock t) (evicted_set h clock jobs t)) t s

      go : (c : Bool) → only c (free_number h left s) + held_cells h left s ≤ motors h
      go true = omega (arith, fewer, fed)
      go false = omega (arith, fewer, fed)
