-- What `placed_in` says of a head's frame: with the masks of the free bridges it is the table that `written` and `placing` define.
--
-- In order, for every order of ties: the table that `placing` gives goes only by the slots and bridges of the frame (`placing_ext`); a
-- table of masks (`placed_written`), of a plan and of a call (`placed_planned`, `placed_called`).
-- Assumes nothing.
use Prim.Native.Nat.{ℕ, ◌-◌, ◌*◌, ◌/◌, ◌%◌, ◌<◌, zero-le}
use native.Mathlib.Omega.{arith}
use mathlib.Core.Path.{◌≡◌, refl, ◌∙◌, ap, ap₂}
use mathlib.Core.Bool.{Bool, false, ◌&&◌, cond}
use mathlib.Core.List.{List, ◌++◌}
use lib.ListN.{length, drop, length-map}
use lib.Dec.{eqb}
use Rattle.laws.specs.Sums.{only, sum}
use Rattle.laws.specs.Lists.{at}
use Rattle.laws.specs.Placement.{Ties, nobody, AtSlot, left, lrtf}
use Rattle.laws.specs.Cells.{takes}
use Rattle.laws.proofs.Tests.{Is, is_true, is_false, is}
use Rattle.laws.proofs.Comparisons.{ltb_no}
use Rattle.laws.proofs.Sums.{sum_ext}
use Rattle.laws.proofs.Counts.{count_ext}
use Rattle.laws.proofs.Lists.{tabulate_ext}
use Rattle.laws.proofs.Placement.{at_slot_ext, lrtf_ext}
use Rattle.station.specs.Head.{Head, Job, preset_at, has_bit}
use Rattle.placing.specs.Table.{Cells, Each, cell, preset_count, number_at, mandatory_cell, optional_cell, busy_cell, call_cell}
use Rattle.placing.specs.Valid.{job_at}
use Rattle.placing.specs.Plan.{placing, plan_free, plan_free_count, plan_cell, needs, planned}
use Rattle.placing.specs.Call.{call_free, lengths, called, call_free_count}
use Rattle.placing.specs.Outcomes.{written}
use Rattle.placing.specs.method.Mask.{bridge_mask}
use Rattle.placing.specs.method.Rule.{job_cell, free_in, cell_in, placed_in}
use Rattle.placing.proofs.MaskBits.{has_bit_mask}
use Rattle.placing.proofs.rule.SlotsPlaced.{place_of}

-- Of n slots and B bridges: free bridges, who has a cell in which slot, what the jobs write, and what the bridges that are not free hold.
module _ (n B k : ℕ) (f g a a' : ℕ → ℕ → Bool) (v w : ℕ → ℕ → ℕ) (t u : Cells)
    (free : (s b : ℕ) → s < n → b < B → f s b ≡ g s b)
    (has : (i s : ℕ) → s < n → a i s ≡ a' i s)
    (writes : (i s : ℕ) → i < k → s < n → v i s ≡ w i s)
    (holds : (s b : ℕ) → s < n → b < B → g s b ≡ false → t s b ≡ u s b) where
  pub placing_ext : (s b : ℕ) → s < n → b < B → placing k f a v t s b ≡ placing k g a' w u s b
  unfolding placing
  placing_ext s b l m = ap (λ (x : Bool). cond x (sum k taken_by_f) (t s b)) (free s b l m) ∙ go (is (g s b))
    where
      taken_by_f : ℕ → ℕ
      taken_by_f i = only (takes (λ j. a j s) (λ d. f s d) i b) (v i s)

      taken_by_g : ℕ → ℕ
      taken_by_g i = only (takes (λ j. a' j s) (λ d. g s d) i b) (w i s)

      one : (i : ℕ) → i < k → taken_by_f i ≡ taken_by_g i
      one i h =
          ap₂ only
          (ap₂ (λ (x : Bool) (y : Bool). x && y)
          (ap₂ (λ (x : Bool) (y : Bool). x && y) (free s b l m) (has i s l))
          (ap₂ eqb (count_ext i (λ j. a j s) (λ j. a' j s) (λ j q. has j s l))
          (count_ext b (λ d. f s d) (λ d. g s d) (λ d q. free s d l (omega arith)))))
          (writes i s h l)

      go : Is (g s b) → cond (g s b) (sum k taken_by_f) (t s b) ≡ cond (g s b) (sum k taken_by_g) (u s b)
      go (is_true e) = rw e (sum_ext k taken_by_f taken_by_g one)
      go (is_false e) = rw e (holds s b l m e)

-- The table that `place` leaves, of a head's frame, where the masks are those of the free bridges f and x s of them are filled in slot s at the most: job i writes v i s in slot s, and where
-- a bridge is not free the lent table holds what u does.
pub placed_written : (ties : Ties) (h : Head) (masks counts c first early late t : List ℕ) (f : ℕ → ℕ → Bool) (x : ℕ → ℕ) (v : ℕ → ℕ → ℕ) (u : Cells)
    → ((s : ℕ) → s < h.slots → at masks s ≡ bridge_mask h.bridges (λ b. f s b))
    → ((s : ℕ) → s < h.slots → at counts s ≡ x s)
    → ((i s : ℕ) → i < length c → s < h.slots → cell_in ties c x first early late i s ≡ v i s)
    → Each h (λ s b. f s b ≡ false → cell h t s b ≡ u s b)
    → placed_in ties h.slots h.bridges masks counts c first early late t ≡ written h (placing (length c) f (λ i s. lrtf ties nobody c x i s) v u) t
unfolding placed_in written
placed_written ties h masks counts c first early late t f x v u masked counted writes holds =
    ap (λ (l : List ℕ). l ++ drop (h.slots * B) t) (tabulate_ext (h.slots * B) _ _ one)
  where
    B : ℕ
    B = h.bridges

    free : (s b : ℕ) → s < h.slots → b < B → free_in masks s b ≡ f s b
    free s b l m = ap (λ (n : ℕ). has_bit n b) (masked s l) ∙ has_bit_mask B (λ a. f s a) b m

    wrote : (i s : ℕ) → i < length c → s < h.slots → cell_in ties c (at counts) first early late i s ≡ v i s
    wrote i s j l =
        ap (λ (r : AtSlot). job_cell (at c i) (at r.needs i) (at first i) (at early i) (at late i))
        (at_slot_ext ties nobody c h.slots (at counts) x counted s (omega arith))
        ∙ writes i s j l

    one : (i : ℕ) → i < h.slots * B
        → placing (length c) (free_in masks) (λ j s. lrtf ties nobody c (at counts) j s) (cell_in ties c (at counts) first early late) (cell h t) (i / B) (i % B)
        ≡ placing (length c) f (λ j s. lrtf ties nobody c x j s) v u (i / B) (i % B)
    one i l =
        let p = place_of h.slots B i l in
        placing_ext h.slots B (length c) (free_in masks) f (λ j s. lrtf ties nobody c (at counts) j s) (λ j s. lrtf ties nobody c x j s)
        (cell_in ties c (at counts) first early late) v (cell h t) u free
        (lrtf_ext ties nobody c h.slots (at counts) x counted) wrote holds
        (i / B) (i % B) p.0 p.1

-- the table of a plan, where busy cells stand in the lent table already
pub placed_planned : (ties : Ties) (h : Head) (masks counts first early late t : List ℕ) → length (needs h) ≡ preset_count h
    → ((s : ℕ) → s < h.slots → at masks s ≡ bridge_mask h.bridges (λ b. plan_free h s b))
    → ((s : ℕ) → s < h.slots → at counts s ≡ plan_free_count h s)
    → ((i : ℕ) → i < preset_count h → at first i ≡ (preset_at h i).mandatory)
    → ((i : ℕ) → i < preset_count h → at early i ≡ mandatory_cell (number_at h i))
    → ((i : ℕ) → i < preset_count h → at late i ≡ optional_cell (number_at h i))
    → Each h (λ s b. plan_free h s b ≡ false → cell h t s b ≡ busy_cell)
    → placed_in ties h.slots h.bridges masks counts (needs h) first early late t ≡ written h (planned ties h) t
unfolding planned
placed_planned ties h masks counts first early late t long masked counted mandatory early-cell late-cell busy =
    placed_written ties h masks counts (needs h) first early late t (plan_free h) (plan_free_count h) (plan_cell ties h (needs h)) (λ s b. busy_cell) masked counted writes busy
  where
    writes : (i s : ℕ) → i < length (needs h) → s < h.slots → cell_in ties (needs h) (plan_free_count h) first early late i s ≡ plan_cell ties h (needs h) i s
    writes i s l m =
        let j : i < preset_count h = omega (arith, long) in
        rw (mandatory i j, early-cell i j, late-cell i j) refl

-- the table of a call
pub placed_called : (ties : Ties) (h : Head) (clock : ℕ) (jobs : List Job) (masks counts first early late t : List ℕ)
    → ((s : ℕ) → s < h.slots → at masks s ≡ bridge_mask h.bridges (λ b. call_free h clock jobs (cell h t) s b))
    → ((s : ℕ) → s < h.slots → at counts s ≡ call_free_count h clock jobs (cell h t) s)
    → ((i : ℕ) → i < length jobs → at first i ≡ 0)
    → ((i : ℕ) → i < length jobs → at late i ≡ call_cell (job_at jobs i).number)
    → placed_in ties h.slots h.bridges masks counts (lengths jobs) first early late t ≡ written h (called ties h clock jobs (cell h t)) t
unfolding called
placed_called ties h clock jobs masks counts first early late t masked counted never late-cell =
    placed_written ties h masks counts (lengths jobs) first early late t (call_free h clock jobs (cell h t)) x (λ i s. call_cell (job_at jobs i).number) (cell h t)
    masked counted writes (λ s b l m e. refl)
  where
    x : ℕ → ℕ
    x = call_free_count h clock jobs (cell h t)

    writes : (i s : ℕ) → i < length (lengths jobs) → s < h.slots
        → cell_in ties (lengths jobs) x first early late i s ≡ call_cell (job_at jobs i).number
    writes i s l m =
        let j : i < length jobs = omega (arith, length-map jobs (λ (k : Job). k.slots)) in
        rw (never i j, ltb_no (at (lengths jobs) i - at (left ties nobody (lengths jobs) x s) i) 0 zero-le) (late-cell i j)
