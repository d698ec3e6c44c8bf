-- A head record that some text yields: the test `valid` and the meaning `Valid` agree.
--
-- In order: the limits of a preset (`within_low`, `within_high`, `of_within`, `limits_of`, `of_limits`); masks (`of_masks`); numbers that are used
-- (`unused`); the parts of the test (`parts`, `of_parts`, `valid_parts`, `parts_valid`); `valid_of` and `of_valid`.
-- Assumes nothing.
use Prim.Native.Nat.{ℕ, zero, suc, ◌^◌, ◌≤◌, ◌<◌}
use native.Mathlib.Omega.{arith}
use mathlib.Core.Path.{◌≡◌, refl}
use mathlib.Core.Bool.{Bool, true, false, not}
use mathlib.Core.List.{List, [], ◌∷◌}
use lib.ListN.{length, get_or}
use lib.Dec.{eqb, ltb, leb}
use lib.Pow.{pow_pos}
use Rattle.laws.proofs.Tests.{both, left_of, right_of, false_of_not, neither_left, neither_right, conjunction_at}
use Rattle.laws.proofs.Comparisons.{lt_of, le_of, eq_of, ne_of, ltb_yes, leb_yes, eqb_yes, eqb_no}
use Rattle.station.specs.Limits.{worst_priority}
use Rattle.station.specs.Head.{Preset, Head, no_preset, InLimits, Valid, within, preset_in_limits, has_number, all_in_limits, all_distinct, masks_in, valid}

-- ---- the limits of a preset

pub within_low : (lo hi n : ℕ) → within lo hi n ≡ true → lo ≤ n
within_low lo hi n e = le_of lo n (left_of (leb lo n) (leb n hi) e)

pub within_high : (lo hi n : ℕ) → within lo hi n ≡ true → n ≤ hi
within_high lo hi n e = le_of n hi (right_of (leb lo n) (leb n hi) e)

pub of_within : (lo hi n : ℕ) → lo ≤ n → n ≤ hi → within lo hi n ≡ true
of_within lo hi n l h = both (leb lo n) (leb n hi) (leb_yes lo n l) (leb_yes n hi h)

pub limits_of : (p : Preset) → preset_in_limits p ≡ true → InLimits p
limits_of p e =
    let part =
    conjunction_at (within 1 255 p.number ∷ leb p.priority worst_priority ∷ leb p.mandatory 64 ∷ leb p.optional 64 ∷ []) e in
    record {
      number_low = within_low 1 255 p.number (part 0);
      number_high = within_high 1 255 p.number (part 0);
      priority = le_of p.priority worst_priority (part 1);
      mandatory = le_of p.mandatory 64 (part 2);
      optional = le_of p.optional 64 (part 3);
    }

pub of_limits : (p : Preset) → InLimits p → preset_in_limits p ≡ true
of_limits p l =
    rw (
      leb_yes 1 p.number l.number_low,
      leb_yes p.number 255 l.number_high,
      leb_yes p.priority worst_priority l.priority,
      leb_yes p.mandatory 64 l.mandatory,
      leb_yes p.optional 64 l.optional,
    )
    refl

all_limits_of : (ps : List Preset) → all_in_limits ps ≡ true → (i : ℕ) → i < length ps → InLimits (get_or ps i no_preset)
unfolding all_in_limits
all_limits_of [] e i h = absurd (omega arith)
all_limits_of (p ∷ ps) e zero h = limits_of p (left_of (preset_in_limits p) (all_in_limits ps) e)
all_limits_of (p ∷ ps) e (suc i) h = all_limits_of ps (right_of (preset_in_limits p) (all_in_limits ps) e) i (omega arith)

of_all_limits : (ps : List Preset) → ((i : ℕ) → i < length ps → InLimits (get_or ps i no_preset)) → all_in_limits ps ≡ true
unfolding all_in_limits
of_all_limits [] f = refl
of_all_limits (p ∷ ps) f =
    both (preset_in_limits p) (all_in_limits ps) (of_limits p (f 0 (omega arith))) (of_all_limits ps (λ i h. f (suc i) (omega arith)))

-- ---- masks

masks_lt : (k w : ℕ) (ms : List ℕ) → 0 < w → masks_in k w ms ≡ true → (b : ℕ) → get_or ms b 0 < w
unfolding masks_in
masks_lt k w [] p e b = p
masks_lt zero w (m ∷ ms) p e zero = let z = eq_of m 0 (left_of (eqb m 0) (masks_in zero w ms) e) in omega arith
masks_lt zero w (m ∷ ms) p e (suc b) = masks_lt zero w ms p (right_of (eqb m 0) (masks_in zero w ms) e) b
masks_lt (suc k) w (m ∷ ms) p e zero = lt_of m w (left_of (ltb m w) (masks_in k w ms) e)
masks_lt (suc k) w (m ∷ ms) p e (suc b) = masks_lt k w ms p (right_of (ltb m w) (masks_in k w ms) e) b

masks_none : (k w : ℕ) (ms : List ℕ) → masks_in k w ms ≡ true → (b : ℕ) → k ≤ b → get_or ms b 0 ≡ 0
unfolding masks_in
masks_none k w [] e b h = refl
masks_none zero w (m ∷ ms) e zero h = eq_of m 0 (left_of (eqb m 0) (masks_in zero w ms) e)
masks_none zero w (m ∷ ms) e (suc b) h = masks_none zero w ms (right_of (eqb m 0) (masks_in zero w ms) e) b (omega arith)
masks_none (suc k) w (m ∷ ms) e zero h = absurd (omega arith)
masks_none (suc k) w (m ∷ ms) e (suc b) h = masks_none k w ms (right_of (ltb m w) (masks_in k w ms) e) b (omega arith)

pub of_masks : (k w : ℕ) (ms : List ℕ) → ((b : ℕ) → get_or ms b 0 < w) → ((b : ℕ) → k ≤ b → get_or ms b 0 ≡ 0) → masks_in k w ms ≡ true
unfolding masks_in
of_masks k w [] f g = refl
of_masks zero w (m ∷ ms) f g =
    both (eqb m 0) (masks_in zero w ms) (eqb_yes m 0 (g 0 (omega arith))) (of_masks zero w ms (λ b. f (suc b)) (λ b h. g (suc b) (omega arith)))
of_masks (suc k) w (m ∷ ms) f g =
    both (ltb m w) (masks_in k w ms) (ltb_yes m w (f 0)) (of_masks k w ms (λ b. f (suc b)) (λ b h. g (suc b) (omega arith)))

-- ---- numbers that are used

-- no preset has a number that is not used
pub unused : (n : ℕ) (ps : List Preset) → has_number n ps ≡ false → (i : ℕ) → i < length ps → n ≡ (get_or ps i no_preset).number → ⊥
unfolding has_number
unused n [] e i h q = omega arith
unused n (p ∷ ps) e zero h q = ne_of n p.number (neither_left (eqb n p.number) (has_number n ps) e) q
unused n (p ∷ ps) e (suc i) h q = unused n ps (neither_right (eqb n p.number) (has_number n ps) e) i (omega arith) q

of_unused : (n : ℕ) (ps : List Preset) → ((i : ℕ) → i < length ps → n ≡ (get_or ps i no_preset).number → ⊥) → has_number n ps ≡ false
unfolding has_number
of_unused n [] f = refl
of_unused n (p ∷ ps) f = rw (eqb_no n p.number (f 0 (omega arith))) (of_unused n ps (λ i h. f (suc i) (omega arith)))

distinct_of : (ps : List Preset) → all_distinct ps ≡ true
    → (i j : ℕ) → j < i → i < length ps → (get_or ps j no_preset).number ≡ (get_or ps i no_preset).number → ⊥
unfolding all_distinct
distinct_of [] e i j l h q = omega arith
distinct_of (p ∷ ps) e zero j l h q = omega arith
distinct_of (p ∷ ps) e (suc i) zero l h q =
    unused p.number ps (false_of_not (has_number p.number ps) (left_of (not (has_number p.number ps)) (all_distinct ps) e)) i (omega arith) q
distinct_of (p ∷ ps) e (suc i) (suc j) l h q =
    distinct_of ps (right_of (not (has_number p.number ps)) (all_distinct ps) e) i j (omega arith) (omega arith) q

of_distinct : (ps : List Preset) → ((i j : ℕ) → j < i → i < length ps → (get_or ps j no_preset).number ≡ (get_or ps i no_preset).number → ⊥)
    → all_distinct ps ≡ true
unfolding all_distinct
of_distinct [] f = refl
of_distinct (p ∷ ps) f =
    rw (of_unused p.number ps (λ i h q. f (suc i) 0 (omega arith) (omega arith) q))
    (of_distinct ps (λ i j l h q. f (suc i) (suc j) (omega arith) (omega arith) q))

-- ---- the parts of the test

pub record Parts (h : Head) : Type 0 where
  pub slots : within 1 64 h.slots ≡ true
  pub bridges : within 1 8 h.bridges ≡ true
  pub supply : h.supply ≤ 8
  pub masks : length h.busy ≡ 8
  pub busy : masks_in h.bridges (2 ^ h.slots) h.busy ≡ true
  pub number : length h.presets ≤ 32
  pub limits : all_in_limits h.presets ≡ true
  pub distinct : all_distinct h.presets ≡ true

-- the parts of `valid`, in its order
abbrev tests : Head → List Bool
tests h =
    within 1 64 h.slots
    ∷ within 1 8 h.bridges
    ∷ leb h.supply 8
    ∷ eqb (length h.busy) 8
    ∷ masks_in h.bridges (2 ^ h.slots) h.busy
    ∷ leb (length h.presets) 32
    ∷ all_in_limits h.presets
    ∷ all_distinct h.presets
    ∷ []

pub parts : (h : Head) → valid h ≡ true → Parts h
unfolding valid
parts h v =
    let part = conjunction_at (tests h) v in
    record {
      slots = part 0;
      bridges = part 1;
      supply = le_of h.supply 8 (part 2);
      masks = eq_of (length h.busy) 8 (part 3);
      busy = part 4;
      number = le_of (length h.presets) 32 (part 5);
      limits = part 6;
      distinct = part 7;
    }

pub of_parts : (h : Head) → Parts h → valid h ≡ true
unfolding valid
of_parts h p =
    rw (p.slots, p.bridges, leb_yes h.supply 8 p.supply, eqb_yes (length h.busy) 8 p.masks, p.busy, leb_yes (length h.presets) 32 p.number, p.limits) p.distinct

-- ---- the test and the meaning

pub valid_parts : (h : Head) → Parts h → Valid h
valid_parts h p = record {
  slots_low = within_low 1 64 h.slots p.slots;
  slots_high = within_high 1 64 h.slots p.slots;
  bridges_low = within_low 1 8 h.bridges p.bridges;
  bridges_high = within_high 1 8 h.bridges p.bridges;
  supply = p.supply;
  masks = p.masks;
  in_frame_lem = masks_lt h.bridges (2 ^ h.slots) h.busy (pow_pos h.slots) p.busy;
  no_bridge = masks_none h.bridges (2 ^ h.slots) h.busy p.busy;
  number_of_presets = p.number;
  limits = all_limits_of h.presets p.limits;
  distinct = distinct_of h.presets p.distinct;
}

pub parts_valid : (h : Head) → Valid h → Parts h
parts_valid h v = record {
  slots = of_within 1 64 h.slots v.slots_low v.slots_high;
  bridges = of_within 1 8 h.bridges v.bridges_low v.bridges_high;
  supply = v.supply;
  masks = v.masks;
  busy = of_masks h.bridges (2 ^ h.slots) h.busy v.in_frame_lem v.no_bridge;
  number = v.number_of_presets;
  limits = of_all_limits h.presets v.limits;
  distinct = of_distinct h.presets v.distinct;
}

-- what passes the test is valid
pub valid_of : (h : Head) → valid h ≡ true → Valid h
valid_of h e = valid_parts h (parts h e)

-- what is valid passes the test
pub of_valid : (h : Head) → Valid h → valid h ≡ true
of_valid h v = of_parts h (parts_valid h v)
