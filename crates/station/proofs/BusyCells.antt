-- The busy cells of a head are those that its lines say: "bridge b is taken from slot f to slot t, both included".
--
-- In order: slots in a stretch; the slots of a mask's stretches are its ones (`stretches_has_bit`, `has_bit_mask`); `busy_cells`, of a whole head.
-- Assumes nothing.
use Prim.Native.Nat.{ℕ, zero, suc, ◌+◌, ◌*◌, ◌/◌, ◌%◌, ◌^◌, ◌≤◌, ◌<◌}
use native.Mathlib.Nat.{pow-suc, le_refl, div-one, add-zero}
use native.Mathlib.Numerals.{one-add}
use native.Mathlib.Omega.{arith}
use mathlib.Core.Path.{◌≡◌, refl, sym, ◌∙◌, ap}
use mathlib.Core.Bool.{Bool, true, false, cond, ◌&&◌, ◌||◌, and-false, or-false, or_assoc}
use mathlib.Core.Option.{Option, none, some}
use mathlib.Core.List.{List, [], ◌∷◌, ◌++◌, map}
use lib.ListN.{get_or}
use lib.Dec.{eqb, leb}
use lib.Pow.{pow_mono, shr-shr}
use Rattle.laws.proofs.Tests.{Is, is_true, is_false, is}
use Rattle.laws.proofs.Comparisons.{le_of, gt_of, eq_of, ne_of, leb_yes, leb_no, eqb_yes, eqb_no}
use Rattle.station.specs.Head.{Head, Preset, Valid, has_bit, busy_at, within}
use Rattle.station.specs.Form.{Pairs, last, next, Form, preset_line}
use Rattle.station.specs.Writing.{mask_of, ordered, first_slot, started_at, with_slot, stretches, busy_line_of, busy_lines, supply_lines, tie_lines, forms_of}
use Rattle.station.specs.Writing.{covers, line_takes, lines_take}
use Rattle.station.proofs.Stretches.{first_stretch, rest_ordered, last_stretch, stretches_zero, Runs, runs, stretches_runs, stretches_mask, mask_lt}

-- ---- slots in a stretch

within_below : (lo hi n : ℕ) → n < lo → within lo hi n ≡ false
within_below lo hi n h = rw (leb_no lo n h) refl

-- one slot more in front
within_more : (s t x : ℕ) → s ≤ t → within s t x ≡ (eqb x s || within (suc s) t x)
within_more s t x h = go (is (eqb x s)) (is (leb (suc s) x))
  where
    go : Is (eqb x s) → Is (leb (suc s) x) → within s t x ≡ (eqb x s || within (suc s) t x)
    go (is_true e) u =
        let at : x ≡ s = eq_of x s e in
        rw (e, leb_yes s x (omega arith), leb_yes x t (omega arith)) refl
    go (is_false e) (is_true u) = let l = le_of (suc s) x u in rw (e, u, leb_yes s x (omega arith)) refl
    go (is_false e) (is_false u) =
        let other : x ≡ s → ⊥ = ne_of x s e in
        let l = gt_of (suc s) x u in
        rw (e, u, leb_no s x (omega arith)) refl

within_one : (s x : ℕ) → within s s x ≡ (eqb x s || false)
within_one s x = within_more s s x (le_refl s) ∙ ap (λ (b : Bool). eqb x s || b) (none_left (is (leb (suc s) x)))
  where
    none_left : Is (leb (suc s) x) → within (suc s) s x ≡ false
    none_left (is_true u) = let l = le_of (suc s) x u in rw (u, leb_no x s (omega arith)) refl
    none_left (is_false u) = rw u refl

covers_below : (lo hi : ℕ) (p : Pairs) (x : ℕ) → ordered lo hi p ≡ true → x < lo → covers p x ≡ false
unfolding covers
covers_below lo hi (last f t) x o h = let a = last_stretch lo hi f t o in within_below f t x (omega arith)
covers_below lo hi (next f t p) x o h =
    let a = first_stretch lo hi f t p o in
    rw (within_below f t x (omega arith)) (covers_below (t + 2) hi p x (rest_ordered lo hi f t p o) (omega arith))

-- ---- the slots of a mask's stretches are its ones

-- slot x lies in one of the stretches, if there are any
abbrev pub some_covers : Option Pairs → ℕ → Bool
some_covers none x = false
some_covers (some p) x = covers p x

covers_started : (s hi : ℕ) (p : Pairs) (x : ℕ) → first_slot p ≡ suc s → ordered (suc s) hi p ≡ true
    → covers (started_at s p) x ≡ (eqb x s || covers p x)
unfolding covers
covers_started s hi (last f t) x at o =
    let a = last_stretch (suc s) hi f t o in
    rw at (within_more s t x (omega arith))
covers_started s hi (next f t p) x at o =
    let a = first_stretch (suc s) hi f t p o in
    rw at (ap (λ (b : Bool). b || covers p x) (within_more s t x (omega arith)) ∙ or_assoc (eqb x s) (within (suc s) t x) (covers p x))

covers_alone : (s : ℕ) (p : Pairs) (x : ℕ) → covers (next s s p) x ≡ (eqb x s || covers p x)
unfolding covers
covers_alone s p x = ap (λ (b : Bool). b || covers p x) (within_one s x ∙ or-false (eqb x s))

covers_with : (s hi m x : ℕ) (o : Option Pairs) → Runs (suc s) hi m o → covers (with_slot s o) x ≡ (eqb x s || some_covers o x)
covers_with s hi m x none r = unfold covers in (within_one s x)
covers_with s hi m x (some p) (runs o e) = go (is (eqb (first_slot p) (suc s)))
  where
    go : Is (eqb (first_slot p) (suc s)) → covers (with_slot s (some p)) x ≡ (eqb x s || covers p x)
    go (is_true q) = rw q (covers_started s hi p x (eq_of (first_slot p) (suc s) q) o)
    go (is_false q) = rw q (covers_alone s p x)

none_below : (s hi m : ℕ) (o : Option Pairs) → Runs (suc s) hi m o → some_covers o s ≡ false
none_below s hi m none r = refl
none_below s hi m (some p) (runs o e) = covers_below (suc s) hi p s o (le_refl (suc s))

pub has_bit_suc : (m i : ℕ) → has_bit m (suc i) ≡ has_bit (m / 2) i
has_bit_suc m i = let e : m / 2 / 2 ^ i ≡ m / 2 ^ suc i = shr-shr m 1 i ∙ ap (λ (k : ℕ). m / 2 ^ k) (one-add i) in rw e refl

pub has_bit_zero : (m : ℕ) → has_bit m 0 ≡ eqb (m % 2) 1
has_bit_zero m = ap (λ (k : ℕ). eqb (k % 2) 1) (div-one m)

-- one slot in front of what is known
taken_step : (k s m i : ℕ) (o : Option Pairs) → Runs (suc s) (s + k) (m / 2) o → ((j : ℕ) → j < k → some_covers o (suc s + j) ≡ has_bit (m / 2) j)
    → i < suc k → Is (eqb (m % 2) 1) → some_covers (cond (eqb (m % 2) 1) (some (with_slot s o)) o) (s + i) ≡ has_bit m i
taken_step k s m zero o r ih l (is_true e) =
    rw e
    (covers_with s (s + k) (m / 2) (s + 0) o r
    ∙ ap (λ (b : Bool). b || some_covers o (s + 0)) (eqb_yes (s + 0) s (omega arith))
    ∙ sym (has_bit_zero m ∙ e))
taken_step k s m zero o r ih l (is_false e) =
    rw e (ap (some_covers o) (add-zero s) ∙ none_below s (s + k) (m / 2) o r ∙ sym (has_bit_zero m ∙ e))
taken_step k s m (suc i) o r ih l (is_true e) =
    let at : s + suc i ≡ suc s + i = omega arith in
    rw e
    (covers_with s (s + k) (m / 2) (s + suc i) o r
    ∙ ap (λ (b : Bool). b || some_covers o (s + suc i)) (eqb_no (s + suc i) s (λ q. omega arith))
    ∙ ap (some_covers o) at ∙ ih i (omega arith) ∙ sym (has_bit_suc m i))
taken_step k s m (suc i) o r ih l (is_false e) =
    let at : s + suc i ≡ suc s + i = omega arith in
    rw e (ap (some_covers o) at ∙ ih i (omega arith) ∙ sym (has_bit_suc m i))

-- slot s + i lies in one of the stretches exactly if bit i of the mask is 1
pub stretches_has_bit : (k s m i : ℕ) → m < 2 ^ k → i < k → some_covers (stretches k s m) (s + i) ≡ has_bit m i
unfolding stretches
stretches_has_bit zero s m i h l = absurd (omega arith)
stretches_has_bit (suc k) s m i h l =
    let b : m / 2 < 2 ^ k = (let p : 2 ^ suc k ≡ 2 ^ k * 2 = pow-suc 2 k in omega arith) in
    taken_step k s m i (stretches k (suc s) (m / 2)) (stretches_runs k (suc s) k (m / 2) (s + k) b b (omega arith))
    (λ j n. stretches_has_bit k (suc s) (m / 2) j b n) l (is (eqb (m % 2) 1))

-- the mask of stretches in order has its ones in them
pub has_bit_mask : (hi : ℕ) (p : Pairs) (s : ℕ) → hi ≤ 64 → ordered 1 hi p ≡ true → s < 64 → has_bit (mask_of p) s ≡ covers p (suc s)
has_bit_mask hi p s h o l =
    let m : 2 ^ hi ≤ 2 ^ 64 = pow_mono h in
    let b : mask_of p < 2 ^ hi = mask_lt hi p o in
    sym (stretches_has_bit 64 1 (mask_of p) s (omega arith) l)
    ∙ ap (λ (x : Option Pairs). some_covers x (1 + s)) (stretches_mask hi p h o) ∙ ap (covers p) (one-add s)

-- ---- of a whole head

lines_take_append : (a c : List Form) (b x : ℕ) → lines_take (a ++ c) b x ≡ (lines_take a b x || lines_take c b x)
unfolding lines_take
lines_take_append [] c b x = refl
lines_take_append (f ∷ a) c b x =
    ap (λ (k : Bool). line_takes f b x || k) (lines_take_append a c b x) ∙ sym (or_assoc (line_takes f b x) (lines_take a b x) (lines_take c b x))

presets_take : (ps : List Preset) (b x : ℕ) → lines_take (map preset_line ps) b x ≡ false
unfolding lines_take
presets_take [] b x = refl
presets_take (p ∷ ps) b x = presets_take ps b x

one_takes : (c : ℕ) (o : Option Pairs) (b x : ℕ) → lines_take (busy_line_of c o) b x ≡ (eqb c b && some_covers o x)
unfolding lines_take
one_takes c none b x = sym (and-false (eqb c b))
one_takes c (some p) b x = or-false (eqb c b && covers p x)

-- the busy lines of later bridges
later_takes : (c : ℕ) (ms : List ℕ) (b x : ℕ) → b < c → lines_take (busy_lines c ms) b x ≡ false
unfolding busy_lines
later_takes c [] b x h = unfold lines_take in refl
later_takes c (m ∷ ms) b x h =
    lines_take_append (busy_line_of c (stretches 64 1 m)) (busy_lines (suc c) ms) b x
    ∙ (rw (one_takes c (stretches 64 1 m) b x, eqb_no c b (λ q. omega arith)) (later_takes (suc c) ms b x (omega arith)))

busy_lines_take : (c : ℕ) (ms : List ℕ) (b x : ℕ) → lines_take (busy_lines c ms) (c + b) x ≡ some_covers (stretches 64 1 (get_or ms b 0)) x
unfolding busy_lines
busy_lines_take c [] b x = unfold lines_take in (ap (λ (o : Option Pairs). some_covers o x) (sym (stretches_zero 64 1)))
busy_lines_take c (m ∷ ms) zero x =
    lines_take_append (busy_line_of c (stretches 64 1 m)) (busy_lines (suc c) ms) (c + 0) x
    ∙ (rw (one_takes c (stretches 64 1 m) (c + 0) x, eqb_yes c (c + 0) (omega arith), later_takes (suc c) ms (c + 0) x (omega arith))
    (or-false (some_covers (stretches 64 1 m) x)))
busy_lines_take c (m ∷ ms) (suc b) x =
    let at : c + suc b ≡ suc c + b = omega arith in
    lines_take_append (busy_line_of c (stretches 64 1 m)) (busy_lines (suc c) ms) (c + suc b) x
    ∙ (rw (one_takes c (stretches 64 1 m) (c + suc b) x, eqb_no c (c + suc b) (λ q. omega arith), at) (busy_lines_take (suc c) ms b x))

-- a supply line and a tie line say nothing of cells
supply_takes : (k : ℕ) (fs : List Form) (b x : ℕ) → lines_take (supply_lines k ++ fs) b x ≡ lines_take fs b x
unfolding lines_take
supply_takes zero fs b x = refl
supply_takes (suc k) fs b x = refl

tie_takes : (hold : Bool) (fs : List Form) (b x : ℕ) → lines_take (tie_lines hold ++ fs) b x ≡ lines_take fs b x
unfolding lines_take
tie_takes true fs b x = refl
tie_takes false fs b x = refl

-- the busy cells of a valid head are those that its lines say, slot and bridge counted from 1 there
pub busy_cells : (h : Head) → Valid h → (s b : ℕ) → s < 64 → busy_at h s b ≡ lines_take (forms_of h) (suc b) (suc s)
unfolding forms_of lines_take
busy_cells h v s b l =
    let top : 2 ^ h.slots ≤ 2 ^ 64 = pow_mono v.slots_high in
    let m : ℕ = get_or h.busy b 0 in
    let below : m < 2 ^ h.slots = v.in_frame_lem b in
    sym (stretches_has_bit 64 1 m s (omega arith) l)
    ∙ sym (busy_lines_take 1 h.busy b (1 + s))
    ∙ (rw (one-add b, one-add s)
    (sym (supply_takes h.supply (tie_lines h.hold ++ (busy_lines 1 h.busy ++ map preset_line h.presets)) (suc b) (suc s)
    ∙ tie_takes h.hold (busy_lines 1 h.busy ++ map preset_line h.presets) (suc b) (suc s)
    ∙ lines_take_append (busy_lines 1 h.busy) (map preset_line h.presets) (suc b) (suc s)
    ∙ ap (λ (k : Bool). lines_take (busy_lines 1 h.busy) (suc b) (suc s) || k) (presets_take h.presets (suc b) (suc s))
    ∙ or-false (lines_take (busy_lines 1 h.busy) (suc b) (suc s)))))
