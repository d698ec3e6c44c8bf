-- The eviction order as a set of cells.
--
-- In order: what every place of a walk has, and every two of them (`all_downward`, `pairwise_downward`); weights of places (`weight_downward`); sets
-- of places and their weights; the set of a test (`those`, `length_those`); rank and priority of a preset's number (`rank_of_lt`,
-- `rank_of_injective`, `priority_of_le`).
-- Then the eviction order: a set's cells are evictable (`in_set_evictable`), and no more of a slot than it has bridges (`added_few`) or the call may use (`added_usable`); each evictable cell stands in it once
-- (`weight_order`, `order_once`); it is document 01's order (`order_is`); a set as its cells (`set_weight_lem`, `set_size`, `set_in_slot`); the set of a test (`in_those`); the marks of a
-- priority (`marked_cells`, `order_rising`).
-- Assumes nothing.
use Prim.Native.Nat.{ℕ, zero, suc, ◌+◌, ◌≤◌, ◌<◌}
use native.Mathlib.Nat.{le_refl}
use native.Mathlib.Omega.{arith}
use mathlib.Core.Path.{◌≡◌, refl, sym, ◌∙◌, ap, subst}
use mathlib.Core.Logic.{◌⊎◌, inl, inr}
use mathlib.Core.Bool.{Bool, true, false, cond, ◌&&◌, ◌||◌, and-false}
use mathlib.Core.List.{List, [], ◌∷◌, ◌++◌, map}
use lib.ListN.{length, replicate}
use lib.Dec.{ltb, leb, eqb}
use Rattle.laws.specs.Sums.{bit, only, sum, count, Total, ascending}
use Rattle.laws.specs.Eviction.{added, ones, evicted_in, marked, Rising, high, low}
use Rattle.laws.proofs.Tests.{Is, is_true, is_false, is, clash, test_ext, both, left_of, right_of, or_left, or_right, or_cases}
use Rattle.laws.proofs.Comparisons.{lt_of, ge_of, le_of, eq_of, eqb_self, leb_yes, eqb_no, eqb_comm}
use Rattle.laws.proofs.Sums.{only_or, only_le_self, sum_ext, sum_le, sum_zero, sum_swap, sum_point, sum_only_eqb, sum_only_eqb_le}
use Rattle.laws.proofs.Counts.{bit_le, only_bit, only_bit_comm, count_le, count_or}
use Rattle.laws.proofs.Lists.{All, none, more, Pairwise, empty, first, all_imp, all_append, pairwise_imp, pairwise_append, pairwise_at}
use Rattle.laws.proofs.Order.{order_of_position, position_below, position_injective, ascending_total}
use Rattle.laws.proofs.Eviction.{added_at}
use Rattle.station.specs.Head.{Head, Valid, preset_at}
use Rattle.placing.specs.Table.{Cells, WellFormed, cells, preset_count, number_at, number_in, has_preset, is_empty, is_mandatory, is_optional, held_cells, motors, free_number}
use Rattle.placing.specs.Valid.{usable, priority_of}
use Rattle.placing.specs.Plan.{rank}
use Rattle.placing.specs.Call.{CellPlace, no_place, downward, rank_of, rank_at, is_evictable, evictable, eviction_order, EvictedBefore, occurs, InEvictionOrder}
use Rattle.placing.specs.Call.{slots_of, in_set, free_number_from, usable_count}
use Rattle.placing.proofs.CountedCells.{area, area_ext, area_add, area_zero, preset_with, number_at_low, priority_of_is, rank_of_is, evictable_optional}
use Rattle.placing.proofs.FreeNumber.{freed_from}

-- ---- walks down

all_downward : {P : CellPlace → Type 0} (n : ℕ) (f : ℕ → List CellPlace) → ((i : ℕ) → i < n → All P (f i)) → All P (downward n f)
unfolding downward
all_downward zero f h = none
all_downward (suc n) f h = all_append (h n (le_refl (suc n))) (all_downward n f (λ i l. h i (omega arith)))

-- a walk down: each part is in order, and what the parts have tells their places apart
pairwise_downward : {R : CellPlace → CellPlace → Type 0} (Q : ℕ → CellPlace → Type 0) (n : ℕ) (f : ℕ → List CellPlace)
    → ((i : ℕ) → i < n → Pairwise R (f i))
    → ((i : ℕ) → i < n → All (Q i) (f i))
    → ((i j : ℕ) → j < i → i < n → (y z : CellPlace) → Q i y → Q j z → R y z)
    → Pairwise R (downward n f)
unfolding downward
pairwise_downward Q zero f p a c = empty
pairwise_downward Q (suc n) f p a c =
    pairwise_append
    (p n (le_refl (suc n)))
    (pairwise_downward Q n f (λ i l. p i (omega arith)) (λ i l. a i (omega arith)) (λ i j m l. c i j m (omega arith)))
    (all_imp (λ y q. all_downward n f (λ j l. all_imp (λ z. c n j l (le_refl (suc n)) y z q) (a j (omega arith)))) (a n (le_refl (suc n))))

-- ---- weights

-- the sum over the places of w at the place
unfoldable pub weight : (ℕ → ℕ → ℕ) → List CellPlace → ℕ
weight w [] = 0
weight w (z ∷ zs) = w z.slot z.bridge + weight w zs

-- the test for one cell
abbrev pub at_cell : ℕ → ℕ → ℕ → ℕ → Bool
at_cell s b r a = eqb s r && eqb b a

length_weight : (zs : List CellPlace) → length zs ≡ weight (λ s b. 1) zs
unfolding weight
length_weight [] = refl
length_weight (z ∷ zs) = omega (arith, length_weight zs)

occurs_weight : (zs : List CellPlace) (s b : ℕ) → occurs zs s b ≡ weight (λ r a. bit (at_cell r a s b)) zs
unfolding weight occurs
occurs_weight [] s b = refl
occurs_weight (z ∷ zs) s b = ap (λ (n : ℕ). bit (at_cell z.slot z.bridge s b) + n) (occurs_weight zs s b)

at_cell_comm : (s b r a : ℕ) → at_cell s b r a ≡ at_cell r a s b
at_cell_comm s b r a = rw (eqb_comm s r, eqb_comm b a)

-- what is 0 but in one cell
area_point : (S B : ℕ) (c : Bool) (f : ℕ → ℕ → ℕ) (s b : ℕ) → s < S → b < B → area S B (λ r a. only (c && at_cell s b r a) (f r a)) ≡ only c (f s b)
area_point S B false f s b l m = area_zero S B
area_point S B true f s b l m =
    sum_point S (λ r. sum B (λ a. only (at_cell s b r a) (f r a))) s l
    (λ r lr ne. sum_zero B (λ a. only (at_cell s b r a) (f r a)) (λ a la. rw (eqb_no s r (λ e. ne (sym e)))))
    ∙ sum_point B (λ a. only (at_cell s b s a) (f s a)) b m (λ a la ne. rw (eqb_self s, eqb_no b a (λ e. ne (sym e))))
    ∙ rw (eqb_self s, eqb_self b)

weight_append : (w : ℕ → ℕ → ℕ) (xs ys : List CellPlace) → weight w (xs ++ ys) ≡ weight w xs + weight w ys
unfolding weight
weight_append w [] ys = omega arith
weight_append w (x ∷ xs) ys = omega (arith, weight_append w xs ys)

pub weight_downward : (w : ℕ → ℕ → ℕ) (n : ℕ) (f : ℕ → List CellPlace) → weight w (downward n f) ≡ sum n (λ i. weight w (f i))
unfolding weight downward sum
weight_downward w zero f = refl
weight_downward w (suc n) f = omega (arith, weight_append w (f n) (downward n f), weight_downward w n f)

weight_one : (w : ℕ → ℕ → ℕ) (c : Bool) (z : CellPlace) → weight w (cond c (z ∷ []) []) ≡ only c (w z.slot z.bridge)
unfolding weight
weight_one w true z = omega arith
weight_one w false z = refl

-- the cells that pass a test and stand in one slot
sum_in_slot : (S B : ℕ) (q : ℕ → ℕ → Bool) (s : ℕ) → s < S → area S B (λ r b. only (q r b) (bit (eqb s r))) ≡ count B (λ b. q s b)
sum_in_slot S B q s l =
    sum_point S (λ r. sum B (part r)) s l (λ r k ne. sum_zero B (part r) (λ b m. turned r b ∙ rw (eqb_no s r (λ e. ne (sym e)))))
    ∙ sum_ext B (part s) (λ b. bit (q s b)) (λ b m. turned s b ∙ rw (eqb_self s))
  where
    part : ℕ → ℕ → ℕ
    part r b = only (q r b) (bit (eqb s r))

    turned : (r b : ℕ) → part r b ≡ only (eqb s r) (bit (q r b))
    turned r b = only_bit_comm (q r b) (eqb s r)

-- ---- sets of places

-- the sum over the places of the set d
unfoldable pub set_weight : (ℕ → ℕ → ℕ) → List CellPlace → List Bool → ℕ
set_weight w [] d = 0
set_weight w (z ∷ zs) [] = 0
set_weight w (z ∷ zs) (c ∷ d) = only c (w z.slot z.bridge) + set_weight w zs d

-- at most that over all places
set_weight_le : (w : ℕ → ℕ → ℕ) (zs : List CellPlace) (d : List Bool) → set_weight w zs d ≤ weight w zs
unfolding set_weight weight
set_weight_le w [] d = omega arith
set_weight_le w (z ∷ zs) [] = omega arith
set_weight_le w (z ∷ zs) (c ∷ d) = omega (arith, set_weight_le w zs d, only_le_self c (w z.slot z.bridge))

-- the place is the cell
abbrev is_at : CellPlace → ℕ → ℕ → Bool
is_at z s b = at_cell z.slot z.bridge s b

in_set_cons : (z : CellPlace) (zs : List CellPlace) (c : Bool) (d : List Bool) (s b : ℕ)
    → in_set (z ∷ zs) (c ∷ d) s b ≡ ((c && is_at z s b) || in_set zs d s b)
unfolding in_set
in_set_cons z zs true d s b = refl
in_set_cons z zs false d s b = refl

-- what holds of a place holds of the cell that it is
same_cell : (P : ℕ → ℕ → Type 0) (z : CellPlace) (s b : ℕ) → is_at z s b ≡ true → P z.slot z.bridge → P s b
same_cell P z s b e p =
    subst (λ (i : ℕ). P i b) (eq_of z.slot s (left_of (eqb z.slot s) (eqb z.bridge b) e))
    (subst (λ (j : ℕ). P z.slot j) (eq_of z.bridge b (right_of (eqb z.slot s) (eqb z.bridge b) e)) p)

-- a cell of the set is at the first place, which is then in the set, or in the rest
in_set_cases : (z : CellPlace) (zs : List CellPlace) (c : Bool) (d : List Bool) (s b : ℕ) → in_set (z ∷ zs) (c ∷ d) s b ≡ true
    → ((c ≡ true) × (is_at z s b ≡ true)) ⊎ (in_set zs d s b ≡ true)
in_set_cases z zs c d s b e = go (or_cases (c && is_at z s b) (in_set zs d s b) (sym (in_set_cons z zs c d s b) ∙ e))
  where
    go : ((c && is_at z s b) ≡ true) ⊎ (in_set zs d s b ≡ true)
        → ((c ≡ true) × (is_at z s b ≡ true)) ⊎ (in_set zs d s b ≡ true)
    go (inl u) = inl (left_of c (is_at z s b) u, right_of c (is_at z s b) u)
    go (inr u) = inr u

-- a cell of the set has what every place has
in_set_all : (P : ℕ → ℕ → Type 0) {zs : List CellPlace} → All (λ z. P z.slot z.bridge) zs → (d : List Bool) (s b : ℕ) → in_set zs d s b ≡ true → P s b
unfolding in_set
in_set_all P none d s b e = absurd (clash (sym e))
in_set_all P (more p a) [] s b e = absurd (clash (sym e))
in_set_all P (more {a = z} {l = zs} p a) (c ∷ d) s b e = go (in_set_all P a d s b) (in_set_cases z zs c d s b e)
  where
    go : (in_set zs d s b ≡ true → P s b) → ((c ≡ true) × (is_at z s b ≡ true)) ⊎ (in_set zs d s b ≡ true) → P s b
    go ih (inl u) = same_cell P z s b u.1 p
    go ih (inr u) = ih u

-- two places are not one cell; a place is in the frame
abbrev Apart : CellPlace → CellPlace → Type 0
Apart y z = (y.slot ≡ z.slot) → (y.bridge ≡ z.bridge) → ⊥

abbrev pub Within : ℕ → ℕ → CellPlace → Type 0
Within S B z = (z.slot < S) × (z.bridge < B)

-- where no place stands twice and all stand in the frame, a set's weight is the sum over its cells
set_weight_area : (S B : ℕ) (w : ℕ → ℕ → ℕ) {zs : List CellPlace} → All (Within S B) zs → Pairwise Apart zs → (d : List Bool)
    → set_weight w zs d ≡ area S B (λ s b. only (in_set zs d s b) (w s b))
unfolding set_weight in_set
set_weight_area S B w none empty d = sym (area_zero S B)
set_weight_area S B w (more f a) (first p q) [] = sym (area_zero S B)
set_weight_area S B w (more {a = z} {l = zs} f a) (first p q) (c ∷ d) =
    omega (
      arith,
      set_weight_area S B w a q d,
      area_point S B c w z.slot z.bridge f.0 f.1,
      area_add S B (λ s b. only (c && is_at z s b) (w s b)) (λ s b. only (in_set zs d s b) (w s b)),
      area_ext S B (λ s b. only (in_set (z ∷ zs) (c ∷ d) s b) (w s b))
          (λ s b. only (c && is_at z s b) (w s b) + only (in_set zs d s b) (w s b)) (λ s b l m. term s b),
    )
  where
    other : (s b : ℕ) → (c && is_at z s b) ≡ true → in_set zs d s b ≡ true → ⊥
    other s b e =
        same_cell (λ r a. in_set zs d r a ≡ true → ⊥) z s b (right_of c (is_at z s b) e)
        (λ i. in_set_all (λ r a. (z.slot ≡ r) → (z.bridge ≡ a) → ⊥) p d z.slot z.bridge i refl refl)

    term : (s b : ℕ)
        → only (in_set (z ∷ zs) (c ∷ d) s b) (w s b) ≡ only (c && is_at z s b) (w s b) + only (in_set zs d s b) (w s b)
    term s b =
        ap (λ (x : Bool). only x (w s b)) (in_set_cons z zs c d s b)
        ∙ only_or (c && is_at z s b) (in_set zs d s b) (w s b) (other s b)

-- the size of a set, and how many of its cells stand in a slot
ones_weight : (zs : List CellPlace) (d : List Bool) → length d ≡ length zs → ones d ≡ set_weight (λ s b. 1) zs d
unfolding ones set_weight
ones_weight [] [] l = refl
ones_weight [] (c ∷ d) l = absurd (omega arith)
ones_weight (z ∷ zs) [] l = refl
ones_weight (z ∷ zs) (true ∷ d) l = omega (arith, ones_weight zs d (omega arith))
ones_weight (z ∷ zs) (false ∷ d) l = omega (arith, ones_weight zs d (omega arith))

evicted_in_weight : (zs : List CellPlace) (d : List Bool) (s : ℕ) → evicted_in (slots_of zs) d s ≡ set_weight (λ r b. bit (eqb s r)) zs d
unfolding evicted_in set_weight
evicted_in_weight [] d s = refl
evicted_in_weight (z ∷ zs) [] s = refl
evicted_in_weight (z ∷ zs) (c ∷ d) s = omega (arith, evicted_in_weight zs d s)

-- ---- the set of a test

unfoldable pub those : (ℕ → ℕ → Bool) → List CellPlace → List Bool
those q zs = map (λ (z : CellPlace). q z.slot z.bridge) zs

pub length_those : (q : ℕ → ℕ → Bool) (zs : List CellPlace) → length (those q zs) ≡ length zs
unfolding those
length_those q zs = lib.ListN.length-map zs (λ (z : CellPlace). q z.slot z.bridge)

-- its cells pass the test
those_pass : (q : ℕ → ℕ → Bool) (zs : List CellPlace) (s b : ℕ) → in_set zs (those q zs) s b ≡ true → q s b ≡ true
unfolding in_set those
those_pass q [] s b e = absurd (clash (sym e))
those_pass q (z ∷ zs) s b e = go (those_pass q zs s b) (in_set_cases z zs (q z.slot z.bridge) (those q zs) s b e)
  where
    go : (in_set zs (those q zs) s b ≡ true → q s b ≡ true)
        → ((q z.slot z.bridge ≡ true) × (is_at z s b ≡ true)) ⊎ (in_set zs (those q zs) s b ≡ true)
        → q s b ≡ true
    go ih (inl u) = same_cell (λ r a. q r a ≡ true) z s b u.1 u.0
    go ih (inr u) = ih u

-- and a place that passes it is among them
those_has : (q : ℕ → ℕ → Bool) (zs : List CellPlace) (s b : ℕ) → q s b ≡ true → 0 < weight (λ r a. bit (at_cell r a s b)) zs
    → in_set zs (those q zs) s b ≡ true
unfolding in_set those weight
those_has q [] s b e h = absurd (omega arith)
those_has q (z ∷ zs) s b e h =
    in_set_cons z zs (q z.slot z.bridge) (those q zs) s b ∙ go (those_has q zs s b e) (is (is_at z s b))
  where
    here : Bool
    here = q z.slot z.bridge && is_at z s b

    go : (0 < weight (λ r a. bit (at_cell r a s b)) zs → in_set zs (those q zs) s b ≡ true) → Is (is_at z s b)
        → (here || in_set zs (those q zs) s b) ≡ true
    go ih (is_true u) =
        or_left here (in_set zs (those q zs) s b)
        (both (q z.slot z.bridge) (is_at z s b) (same_cell (λ r a. q r a ≡ true → q z.slot z.bridge ≡ true) z s b u (λ f. f) e) u)
    go ih (is_false u) = or_right here (in_set zs (those q zs) s b) (ih (omega (arith, ap bit u)))

-- the marked cells of a set
marked_weight : (q : ℕ → ℕ → Bool) (zs : List CellPlace) (d : List Bool) → marked (those q zs) d ≡ set_weight (λ s b. bit (q s b)) zs d
unfolding marked those set_weight
marked_weight q [] d = refl
marked_weight q (z ∷ zs) [] = refl
marked_weight q (z ∷ zs) (c ∷ d) = omega (arith, marked_weight q zs d, only_bit_comm (q z.slot z.bridge) c)

-- a test that all pass marks all, and one that holds of all after a place that passes it marks the last ones
those_all : (q : ℕ → ℕ → Bool) {zs : List CellPlace} → All (λ z. q z.slot z.bridge ≡ true) zs → those q zs ≡ replicate (length zs) true
unfolding those
those_all q none = refl
those_all q (more {a = z} {l = zs} p a) = rw (p, those_all q a)

those_rising : (q : ℕ → ℕ → Bool) {zs : List CellPlace}
    → Pairwise (λ y z. q y.slot y.bridge ≡ true → q z.slot z.bridge ≡ true) zs → Rising (those q zs)
unfolding those
those_rising q empty = high 0
those_rising q (first {a = z} {l = zs} a p) = go (those_rising q p) (is (q z.slot z.bridge))
  where
    go : Rising (those q zs) → Is (q z.slot z.bridge) → Rising (q z.slot z.bridge ∷ those q zs)
    go ih (is_true e) = rw (e, those_all q (all_imp (λ y f. f e) a)) (high (suc (length zs)))
    go ih (is_false e) = rw e (low ih)

-- ---- rank and priority of a preset's number

module _ (h : Head) (valid : Valid h) where
  -- a number that some preset has
  abbrev Named : ℕ → Type 0
  Named n = (i : ℕ) × (i < preset_count h) × (number_at h i ≡ n)

  by_priority : Total (ascending (λ j. (preset_at h j).priority))
  by_priority = ascending_total (λ j. (preset_at h j).priority)

  rank_of_lem : (n : ℕ) (w : Named n) → rank_of h n ≡ rank h w.0
  rank_of_lem n w = ap (rank_of h) (sym w.2) ∙ rank_of_is h valid w.0 w.1

  pub rank_of_lt : (n : ℕ) → has_preset h n ≡ true → rank_of h n < preset_count h
  rank_of_lt n e = go (preset_with h n e)
    where
      go : Named n → rank_of h n < preset_count h
      go w = rw (rank_of_lem n w) (position_below by_priority (preset_count h) w.1)

  pub rank_of_injective : (m n : ℕ) → has_preset h m ≡ true → has_preset h n ≡ true → rank_of h m ≡ rank_of h n → m ≡ n
  rank_of_injective m n e f q = go (preset_with h m e) (preset_with h n f)
    where
      go : Named m → Named n → m ≡ n
      go v w =
          sym v.2
          ∙ ap (number_at h)
          (position_injective by_priority (preset_count h) v.0 w.0 v.1 w.1 (sym (rank_of_lem m v) ∙ q ∙ rank_of_lem n w))
          ∙ w.2

  -- a better rank has no worse a priority
  pub priority_of_le : (m n : ℕ) → has_preset h m ≡ true → has_preset h n ≡ true → rank_of h m ≤ rank_of h n → priority_of h m ≤ priority_of h n
  priority_of_le m n e f l = go (preset_with h m e) (preset_with h n f) (is (ltb (rank_of h m) (rank_of h n)))
    where
      priority_of_lem : (k : ℕ) (w : Named k) → priority_of h k ≡ (preset_at h w.0).priority
      priority_of_lem k w = ap (priority_of h) (sym w.2) ∙ priority_of_is h valid w.0 w.1

      go : Named m → Named n → Is (ltb (rank_of h m) (rank_of h n)) → priority_of h m ≤ priority_of h n
      go v w (is_true b) =
          let before : rank h v.0 < rank h w.0 = omega (arith, rank_of_lem m v, rank_of_lem n w, lt_of (rank_of h m) (rank_of h n) b) in
          omega (
            arith,
            priority_of_lem m v,
            priority_of_lem n w,
            bit_le (ltb v.0 w.0),
            lt_of (preset_at h v.0).priority ((preset_at h w.0).priority + bit (ltb v.0 w.0))
                (order_of_position by_priority (preset_count h) w.0 v.0 before),
          )
      go v w (is_false b) =
          let same : rank_of h m ≡ rank_of h n = omega (arith, ge_of (rank_of h m) (rank_of h n) b) in
          omega (arith, ap (priority_of h) (rank_of_injective m n e f same))

-- ---- the eviction order

-- a cell of the frame that the call may evict
pub record Listed (h : Head) (clock : ℕ) (t : Cells) (s b : ℕ) : Type 0 where
  pub slot_in : s < h.slots
  pub bridge_in : b < h.bridges
  pub evicts : evictable h clock t s b ≡ true

all_one : {P : CellPlace → Type 0} (c : Bool) (z : CellPlace) → (c ≡ true → P z) → All P (cond c (z ∷ []) [])
all_one true z f = more (f refl) none
all_one false z f = none

pairwise_one : {R : CellPlace → CellPlace → Type 0} (c : Bool) (z : CellPlace) → Pairwise R (cond c (z ∷ []) [])
pairwise_one true z = first none empty
pairwise_one false z = empty

module _ (h : Head) (clock : ℕ) (t : Cells) where
  abbrev order : List CellPlace
  order = eviction_order h clock t

  -- The rank of the preset that stands in a cell; whether the cell is one of rank r; then it is listed among those of rank r.
  abbrev rank_in : ℕ → ℕ → ℕ
  rank_in s b = rank_of h (number_in (t s b))

  abbrev has_rank : ℕ → ℕ → ℕ → Bool
  has_rank r s b = evictable h clock t s b && eqb (rank_in s b) r

  abbrev one : ℕ → ℕ → ℕ → List CellPlace
  one r s b = cond (has_rank r s b) (record { slot = s; bridge = b } ∷ []) []

  abbrev in_slot : ℕ → ℕ → List CellPlace
  in_slot r s = downward h.bridges (one r s)

  abbrev of_rank : ℕ → List CellPlace
  of_rank r = downward h.slots (in_slot r)

  listed : (r s b : ℕ) → s < h.slots → b < h.bridges → has_rank r s b ≡ true → Listed h clock t s b
  listed r s b l m e = record { slot_in = l; bridge_in = m; evicts = left_of (evictable h clock t s b) (eqb (rank_in s b) r) e }

  ranked : (r s b : ℕ) → has_rank r s b ≡ true → rank_in s b ≡ r
  ranked r s b e = eq_of (rank_in s b) r (right_of (evictable h clock t s b) (eqb (rank_in s b) r) e)

  -- what every cell has that is listed in a slot, every place has
  all_in_slot : {P : CellPlace → Type 0} (r s : ℕ)
      → ((b : ℕ) → b < h.bridges → has_rank r s b ≡ true → P (record { slot = s; bridge = b })) → All P (in_slot r s)
  all_in_slot r s f = all_downward h.bridges (one r s) (λ b m. all_one (has_rank r s b) (record { slot = s; bridge = b }) (f b m))

  pub order_listed : All (λ z. Listed h clock t z.slot z.bridge) order
  unfolding eviction_order
  order_listed =
      all_downward (preset_count h) of_rank (λ r k. all_downward h.slots (in_slot r) (λ s l. all_in_slot r s (λ b m. listed r s b l m)))

  -- a set's cells are evictable ones of the frame
  pub in_set_evictable : (d : List Bool) (s b : ℕ) → in_set order d s b ≡ true → (evictable h clock t s b ≡ true) × (s < h.slots) × (b < h.bridges)
  in_set_evictable d s b e =
      let l : Listed h clock t s b = in_set_all (Listed h clock t) order_listed d s b e in
      (l.evicts, l.slot_in, l.bridge_in)

  -- a cell stands in the order once for each rank that it has
  weight_ranks : (w : ℕ → ℕ → ℕ) → weight w order ≡ sum h.slots (λ s. sum h.bridges (λ b. sum (preset_count h) (λ r. only (has_rank r s b) (w s b))))
  unfolding eviction_order
  weight_ranks w =
      weight_downward w (preset_count h) of_rank
      ∙ sum_ext (preset_count h) (λ r. weight w (of_rank r)) (λ r. sum h.slots (λ s. sum h.bridges (part r s))) (λ r k. of_rank_lem r)
      ∙ sum_swap (preset_count h) h.slots (λ r s. sum h.bridges (part r s))
      ∙ sum_ext h.slots (λ s. sum (preset_count h) (λ r. sum h.bridges (part r s))) (λ s. sum h.bridges (λ b. sum (preset_count h) (λ r. part r s b)))
      (λ s l. sum_swap (preset_count h) h.bridges (λ r b. part r s b))
    where
      part : ℕ → ℕ → ℕ → ℕ
      part r s b = only (has_rank r s b) (w s b)

      of_rank_lem : (r : ℕ) → weight w (of_rank r) ≡ sum h.slots (λ s. sum h.bridges (part r s))
      of_rank_lem r =
          weight_downward w h.slots (in_slot r)
          ∙ sum_ext h.slots (λ s. weight w (in_slot r s)) (λ s. sum h.bridges (part r s)) (λ s l.
          weight_downward w h.bridges (one r s)
          ∙ sum_ext h.bridges (λ b. weight w (one r s b)) (part r s) (λ b m.
          weight_one w (has_rank r s b) (record { slot = s; bridge = b })))

  -- so no set adds more cells to a slot than it has evictable ones, whatever the table holds
  added_evictable : (x : ℕ → ℕ) (d : List Bool) (s : ℕ) → s < h.slots → added x (slots_of order) d s ≤ x s + count h.bridges (λ b. evictable h clock t s b)
  added_evictable x d s l =
      omega (
        arith,
        added_at x (slots_of order) d s,
        evicted_in_weight order d s,
        set_weight_le here order d,
        weight_ranks here,
        sum_le h.slots (λ r. sum h.bridges (ranks r)) (λ r. sum h.bridges (part r)) (λ r k.
            sum_le h.bridges (ranks r) (part r) (λ b m. sum_only_eqb_le (preset_count h) (rank_in r b) (here r b) (evictable h clock t r b))),
        in_one,
      )
    where
      here : ℕ → ℕ → ℕ
      here r b = bit (eqb s r)

      ranks : ℕ → ℕ → ℕ
      ranks r b = sum (preset_count h) (λ q. only (has_rank q r b) (here r b))

      part : ℕ → ℕ → ℕ
      part r b = only (evictable h clock t r b) (here r b)

      in_one : sum h.slots (λ r. sum h.bridges (part r)) ≡ count h.bridges (λ b. evictable h clock t s b)
      in_one = sum_in_slot h.slots h.bridges (evictable h clock t) s l

  -- nor more in all than it has bridges
  pub added_few : (d : List Bool) (s : ℕ) → s < h.slots → added (free_number_from h clock t) (slots_of order) d s ≤ h.bridges
  added_few d s l =
      omega (
        arith,
        added_evictable (free_number_from h clock t) d s l,
        only_le_self (usable clock s) (free_number h t s),
        count_or h.bridges (λ b. is_empty (t s b)) (λ b. evictable h clock t s b) (λ b m. empty_apart b),
        count_le h.bridges (λ b. is_empty (t s b) || evictable h clock t s b),
      )
    where
      -- an empty cell is none that may be evicted
      empty_apart : (b : ℕ) → is_empty (t s b) ≡ true → evictable h clock t s b ≡ false
      empty_apart b e = ap (λ (v : ℕ). usable clock s && is_evictable h v) (eq_of (t s b) 0 e) ∙ and-false (usable clock s)

  -- with any set of the order a slot has no more free cells than the call may use there, where no more cells are held than the supply feeds
  pub added_usable : (d : List Bool) (s : ℕ) → s < h.slots → held_cells h t s ≤ motors h → added (free_number_from h clock t) (slots_of order) d s ≤ usable_count h clock t s
  added_usable d s l fed = omega (arith, added_evictable (free_number_from h clock t) d s l, freed_from h clock t s (evictable h clock t) (λ b m e. e) fed)

  module _ (valid : Valid h) (formed : WellFormed h t) where
    listed_preset : (s b : ℕ) → Listed h clock t s b → has_preset h (number_in (t s b)) ≡ true
    listed_preset s b l =
        formed.presets s b l.slot_in l.bridge_in
        (or_right (is_mandatory (t s b)) (is_optional (t s b)) (evictable_optional h (t s b) (right_of (usable clock s) (is_evictable h (t s b)) l.evicts)))

    -- a preset has one cell in a slot
    one_in_slot : (s a b : ℕ) → a < b → Listed h clock t s a → Listed h clock t s b → rank_in s a ≡ rank_in s b → ⊥
    one_in_slot s a b l u v e = go (preset_with h (number_in (t s b)) (listed_preset s b v))
      where
        no_number : number_in (t s b) ≡ 0
        no_number =
            formed.once s a b u.slot_in l v.bridge_in
            (rank_of_injective h valid (number_in (t s a)) (number_in (t s b)) (listed_preset s a u) (listed_preset s b v) e)

        go : ((i : ℕ) × (i < preset_count h) × (number_at h i ≡ number_in (t s b))) → ⊥
        go w = omega (arith, no_number, w.2, number_at_low h valid w.0 w.1)

    order_pairwise : Pairwise (EvictedBefore h t) order
    unfolding eviction_order
    order_pairwise =
        pairwise_downward (λ r z. rank_at h t z ≡ r) (preset_count h) of_rank
        (λ r k. of_rank_lem r)
        (λ r k. all_downward h.slots (in_slot r) (λ s l. all_in_slot r s (λ b m. ranked r s b)))
        (λ i j m l y z p q. inl (omega arith))
      where
        in_slot_lem : (r s : ℕ) → s < h.slots → Pairwise (EvictedBefore h t) (in_slot r s)
        in_slot_lem r s l =
            pairwise_downward (λ b z. Listed h clock t s b × (rank_in s b ≡ r)) h.bridges (one r s)
            (λ b m. pairwise_one (has_rank r s b) (record { slot = s; bridge = b }))
            (λ b m. all_one (has_rank r s b) (record { slot = s; bridge = b }) (λ e. (listed r s b l m e, ranked r s b e)))
            (λ i j k m y z p q. absurd (one_in_slot s j i k q.0 p.0 (q.1 ∙ sym p.1)))

        of_rank_lem : (r : ℕ) → Pairwise (EvictedBefore h t) (of_rank r)
        of_rank_lem r =
            pairwise_downward (λ s z. (z.slot ≡ s) × (rank_at h t z ≡ r)) h.slots (in_slot r)
            (in_slot_lem r)
            (λ s l. all_in_slot r s (λ b m e. (refl, ranked r s b e)))
            (λ i j m l y z p q. inr (q.1 ∙ sym p.1, omega arith))

    -- each evictable cell stands in the order exactly once: said for every weight, and of one cell
    pub weight_order : (w : ℕ → ℕ → ℕ) → weight w order ≡ sum h.slots (λ s. sum h.bridges (λ b. only (evictable h clock t s b) (w s b)))
    weight_order w =
        weight_ranks w
        ∙ area_ext h.slots h.bridges (λ s b. sum (preset_count h) (λ r. only (has_rank r s b) (w s b))) (λ s b. only (evictable h clock t s b) (w s b))
        (λ s b l m. sum_only_eqb (preset_count h) (rank_in s b) (w s b) (evictable h clock t s b) (below s b l m))
      where
        below : (s b : ℕ) → s < h.slots → b < h.bridges → evictable h clock t s b ≡ true → rank_in s b < preset_count h
        below s b l m e = rank_of_lt h valid (number_in (t s b)) (listed_preset s b (record { slot_in = l; bridge_in = m; evicts = e }))

    pub order_once : (s b : ℕ) → s < h.slots → b < h.bridges → weight (λ r a. bit (at_cell r a s b)) order ≡ bit (evictable h clock t s b)
    order_once s b l m =
        weight_order (λ r a. bit (at_cell r a s b))
        ∙ area_ext h.slots h.bridges (λ r a. only (evictable h clock t r a) (bit (at_cell r a s b)))
        (λ r a. only (true && at_cell s b r a) (bit (evictable h clock t r a)))
        (λ r a u v. only_bit_comm (evictable h clock t r a) (at_cell r a s b) ∙ rw (at_cell_comm r a s b))
        ∙ area_point h.slots h.bridges true (λ r a. bit (evictable h clock t r a)) s b l m

    -- the order is document 01's: worst rank first, for one preset the latest slot first, each evictable cell once
    pub order_is : InEvictionOrder h clock t order
    order_is = record {
      descends = pairwise_at no_place order_pairwise;
      once = λ s b l m. occurs_weight order s b ∙ order_once s b l m;
      many = length_weight order
          ∙ weight_order (λ s b. 1)
          ∙ area_ext h.slots h.bridges (λ s b. only (evictable h clock t s b) 1) (λ s b. bit (evictable h clock t s b))
          (λ s b u v. only_bit_comm (evictable h clock t s b) true);
    }

    -- a set's weight is the sum over its cells; so are its size and what it adds to the free cells of a slot
    pub set_weight_lem : (w : ℕ → ℕ → ℕ) (d : List Bool)
        → set_weight w order d ≡ sum h.slots (λ s. sum h.bridges (λ b. only (in_set order d s b) (w s b)))
    set_weight_lem w d =
        set_weight_area h.slots h.bridges w (all_imp (λ z l. (l.slot_in, l.bridge_in)) order_listed)
        (pairwise_imp (λ y z u v. differ y z) order_listed order_pairwise) d
      where
        differ : (y z : CellPlace) → EvictedBefore h t y z → y.slot ≡ z.slot → y.bridge ≡ z.bridge → ⊥
        differ y z (inl e) p q = omega (arith, ap (λ (s : ℕ). rank_in s y.bridge) p, ap (λ (b : ℕ). rank_in z.slot b) q)
        differ y z (inr e) p q = omega arith

    pub set_size : (d : List Bool) → length d ≡ length order → ones d ≡ cells h (λ s b. in_set order d s b)
    set_size d l =
        ones_weight order d l
        ∙ set_weight_lem (λ s b. 1) d
        ∙ area_ext h.slots h.bridges (λ s b. only (in_set order d s b) 1) (λ s b. bit (in_set order d s b))
        (λ s b u v. only_bit_comm (in_set order d s b) true)

    pub set_in_slot : (x : ℕ → ℕ) (d : List Bool) (s : ℕ) → s < h.slots
        → added x (slots_of order) d s ≡ x s + count h.bridges (λ b. in_set order d s b)
    set_in_slot x d s l =
        added_at x (slots_of order) d s
        ∙ ap (λ (n : ℕ). x s + n)
        (evicted_in_weight order d s
        ∙ set_weight_lem (λ r b. bit (eqb s r)) d
        ∙ sum_in_slot h.slots h.bridges (in_set order d) s l)

    -- the set of a test has the evictable cells that pass it
    pub in_those : (q : ℕ → ℕ → Bool) (s b : ℕ) → s < h.slots → b < h.bridges → in_set order (those q order) s b ≡ (evictable h clock t s b && q s b)
    in_those q s b l m =
        test_ext (in_set order (those q order) s b) (evictable h clock t s b && q s b)
        (λ e. both (evictable h clock t s b) (q s b) (in_set_evictable (those q order) s b e).0 (those_pass q order s b e))
        (λ e. those_has q order s b (right_of (evictable h clock t s b) (q s b) e)
        (omega (arith, order_once s b l m, ap bit (left_of (evictable h clock t s b) (q s b) e))))

    -- how many cells of a set pass a test
    pub marked_cells : (q : ℕ → ℕ → Bool) (d : List Bool) → marked (those q order) d ≡ cells h (λ s b. in_set order d s b && q s b)
    marked_cells q d =
        marked_weight q order d
        ∙ set_weight_lem (λ s b. bit (q s b)) d
        ∙ area_ext h.slots h.bridges (λ s b. only (in_set order d s b) (bit (q s b))) (λ s b. bit (in_set order d s b && q s b))
        (λ s b u v. only_bit (in_set order d s b) (q s b))

    -- the cells of priority p or better stand last
    pub order_rising : (p : ℕ) → Rising (those (λ s b. leb (priority_of h (number_in (t s b))) p) order)
    order_rising p = those_rising (λ s b. leb (priority_in s b) p) (pairwise_imp after order_listed order_pairwise)
      where
        priority_in : ℕ → ℕ → ℕ
        priority_in s b = priority_of h (number_in (t s b))

        no_worse : (y z : CellPlace) → EvictedBefore h t y z → rank_at h t z ≤ rank_at h t y
        no_worse y z (inl e) = omega arith
        no_worse y z (inr e) = omega arith

        after : (y z : CellPlace) → Listed h clock t y.slot y.bridge → Listed h clock t z.slot z.bridge → EvictedBefore h t y z
            → leb (priority_in y.slot y.bridge) p ≡ true → leb (priority_in z.slot z.bridge) p ≡ true
        after y z u v e o =
            leb_yes (priority_in z.slot z.bridge) p
            (omega (
              arith,
              priority_of_le h valid (number_in (t z.slot z.bridge)) (number_in (t y.slot y.bridge))
                  (listed_preset z.slot z.bridge v) (listed_preset y.slot y.bridge u) (no_worse y z e),
              le_of (priority_in y.slot y.bridge) p o,
            ))
