-- What is read is valid and is written as it was read: "The head has one text only, and the writer makes it."
--
-- In order: one more preset, one more busy line; what was read so far is valid and is written as it was read (`Good`); `read_valid`,
-- `read_written` and `read_lines`.
-- Assumes nothing.
use Prim.Native.Nat.{ℕ, zero, suc, ◌+◌, ◌-◌, ◌^◌, ◌≤◌, ◌<◌}
use native.Mathlib.Nat.{add-zero}
use native.Mathlib.Omega.{arith}
use mathlib.Core.Path.{◌≡◌, refl, sym, ◌∙◌, ap, subst}
use mathlib.Core.Bool.{Bool, true, false, not, ◌&&◌}
use mathlib.Core.Option.{none, some}
use mathlib.Core.List.{List, [], ◌∷◌, ◌++◌, map, append_assoc, append-nil}
use lib.ListN.{length, take, get_or, set, replicate, length-append, length-set, length-map}
use lib.Seq.{get_or-set_other, take_at}
use lib.Dec.{eqb, ltb}
use lib.Pow.{pow_pos}
use Rattle.laws.proofs.Tests.{clash, both, left_of, right_of, false_of_not, true_of_not, neither_left, neither_right}
use Rattle.laws.proofs.Comparisons.{ge_of, gt_of, ne_of, ltb_yes, ltb_no, eqb_no}
use Rattle.station.specs.Head.{Preset, Head, bare_head, with_supply, with_tie, with_busy, with_presets, Valid, within, preset_in_limits, has_number, all_in_limits, all_distinct, masks_in}
use Rattle.station.specs.Refusal.{first_of}
use Rattle.station.specs.Text.{lines, join}
use Rattle.station.specs.Form.{Pairs, Form, frame_line, busy_line, preset_line, clock_line, call_line, tie_line, supply_line, is_event, is_tie, print}
use Rattle.station.specs.Writing.{mask_of, ordered, stretches, busy_line_of, busy_lines, supply_lines, tie_lines, forms_of, text_of}
use Rattle.station.specs.Reading.{Reading, accepted, refused, head_of, Stage, at_supply, at_tie, at_busy, at_presets, begun, directly, SoFar, begin, ends, more, tried}
use Rattle.station.specs.Reading.{causes, Passes, no_more, one_more, Stops, at_end, at_event, at_no_form, at_fault, Means, too_long, no_text}
use Rattle.station.specs.Reading.{by_lines}
use Rattle.station.proofs.Stretches.{stretches_zero, stretches_mask, mask_lt}
use Rattle.station.proofs.ValidHead.{within_low, within_high, of_masks, Parts, valid_parts}
use Rattle.station.proofs.Reading.{NoCause, no_cause, head_of_means}

-- ---- one more preset

limits_append : (ps : List Preset) (p : Preset) → all_in_limits ps ≡ true → preset_in_limits p ≡ true → all_in_limits (ps ++ (p ∷ [])) ≡ true
unfolding all_in_limits
limits_append [] p e l = both (preset_in_limits p) true l refl
limits_append (x ∷ ps) p e l =
    both (preset_in_limits x) (all_in_limits (ps ++ (p ∷ []))) (left_of (preset_in_limits x) (all_in_limits ps) e)
    (limits_append ps p (right_of (preset_in_limits x) (all_in_limits ps) e) l)

number_append : (n : ℕ) (ps : List Preset) (p : Preset) → has_number n ps ≡ false → eqb n p.number ≡ false → has_number n (ps ++ (p ∷ [])) ≡ false
unfolding has_number
number_append n [] p e q = rw q refl
number_append n (x ∷ ps) p e q =
    rw (neither_left (eqb n x.number) (has_number n ps) e) (number_append n ps p (neither_right (eqb n x.number) (has_number n ps) e) q)

pub distinct_append : (ps : List Preset) (p : Preset) → all_distinct ps ≡ true → has_number p.number ps ≡ false → all_distinct (ps ++ (p ∷ [])) ≡ true
unfolding all_distinct has_number
distinct_append [] p e u = refl
distinct_append (x ∷ ps) p e u =
    let other : eqb x.number p.number ≡ false =
    eqb_no x.number p.number
    (λ q. ne_of p.number x.number (neither_left (eqb p.number x.number) (has_number p.number ps) u) (sym q)) in
    let fresh : has_number x.number ps ≡ false =
    false_of_not (has_number x.number ps) (left_of (not (has_number x.number ps)) (all_distinct ps) e) in
    rw (number_append x.number ps p fresh other)
    (distinct_append ps p (right_of (not (has_number x.number ps)) (all_distinct ps) e)
    (neither_right (eqb p.number x.number) (has_number p.number ps) u))

map-append : {A B : Type 0} (f : A → B) (a b : List A) → map f (a ++ b) ≡ map f a ++ map f b
map-append f [] b = refl
map-append f (x ∷ a) b = ap (λ k. f x ∷ k) (map-append f a b)

-- ---- one more busy line

masks_set : (k w : ℕ) (ms : List ℕ) (i m : ℕ) → i < k → m < w → masks_in k w ms ≡ true → masks_in k w (set ms i m) ≡ true
unfolding masks_in
masks_set k w [] i m h l e = refl
masks_set zero w (x ∷ ms) i m h l e = absurd (omega arith)
masks_set (suc k) w (x ∷ ms) zero m h l e = both (ltb m w) (masks_in k w ms) (ltb_yes m w l) (right_of (ltb x w) (masks_in k w ms) e)
masks_set (suc k) w (x ∷ ms) (suc i) m h l e =
    both (ltb x w) (masks_in k w (set ms i m)) (left_of (ltb x w) (masks_in k w ms) e)
    (masks_set k w ms i m (omega arith) l (right_of (ltb x w) (masks_in k w ms) e))

busy_lines_none : (c : ℕ) (ms : List ℕ) → ((j : ℕ) → get_or ms j 0 ≡ 0) → busy_lines c ms ≡ []
unfolding busy_lines
busy_lines_none c [] z = refl
busy_lines_none c (m ∷ ms) z = rw (z 0, stretches_zero 64 1) (busy_lines_none (suc c) ms (λ j. z (suc j)))

-- a mask written where no later bridge has one
busy_lines_set : (c : ℕ) (ms : List ℕ) (i m : ℕ) (p : Pairs) → i < length ms → ((j : ℕ) → i ≤ j → get_or ms j 0 ≡ 0) → stretches 64 1 m ≡ some p
    → busy_lines c (set ms i m) ≡ busy_lines c ms ++ (busy_line (c + i) p ∷ [])
unfolding busy_lines
busy_lines_set c [] i m p h z e = absurd (omega arith)
busy_lines_set c (x ∷ ms) zero m p h z e =
    rw (e, z 0 (omega arith), stretches_zero 64 1, busy_lines_none (suc c) ms (λ j. z (suc j) (omega arith)), add-zero c) refl
busy_lines_set c (x ∷ ms) (suc i) m p h z e =
    let at : suc c + i ≡ c + suc i = omega arith in
    ap (λ (k : List Form). busy_line_of c (stretches 64 1 x) ++ k)
    (busy_lines_set (suc c) ms i m p (omega arith) (λ j l. z (suc j) (omega arith)) e ∙ ap (λ (k : ℕ). busy_lines (suc c) ms ++ (busy_line k p ∷ [])) at)
    ∙ sym (append_assoc (busy_line_of c (stretches 64 1 x)) (busy_lines (suc c) ms) (busy_line (c + suc i) p ∷ []))

-- ---- what was read so far is valid and is written as it was read

-- the head of a frame with this supply line, none where k is 0, and this tie line, none where it does not hold
abbrev started : ℕ → ℕ → ℕ → Bool → Head
started s b k hold = with_tie (with_supply (bare_head s b) k) hold

data Good : SoFar → List Form → Type 0 where
  at_start : Good begin []
  -- nothing but the frame, with a supply line or without one, with a tie line or without one
  after_frame_lem : {s b : ℕ} → ((k : ℕ) (hold : Bool) → k ≤ 8 → Parts (started s b k hold)) → Good (record { stage = at_supply; head = bare_head s b }) (frame_line s b ∷ [])
  -- the frame and its supply line, with a tie line or without one
  after_supply_lem : {s b k : ℕ} → ((hold : Bool) → Parts (started s b (suc k) hold))
      → Good (record { stage = at_tie; head = with_supply (bare_head s b) (suc k) }) (frame_line s b ∷ supply_line (suc k) ∷ [])
  -- no preset yet, and no mask from the next bridge on
  before_presets : {least : ℕ} {h : Head} {fs : List Form} → Parts h → h.presets ≡ [] → ((b : ℕ) → least ≤ suc b → get_or h.busy b 0 ≡ 0)
      → forms_of h ≡ fs → Good (record { stage = at_busy least; head = h }) fs
  in_presets : {h : Head} {fs : List Form} → Parts h → forms_of h ≡ fs → Good (record { stage = at_presets; head = h }) fs

pub no_mask : (n b : ℕ) → get_or {A = ℕ} (replicate n 0) b 0 ≡ 0
no_mask zero b = refl
no_mask (suc n) zero = refl
no_mask (suc n) (suc b) = no_mask n b

good_frame : (s b : ℕ) → NoCause begin (frame_line s b) → Good (more begin (frame_line s b)) (frame_line s b ∷ [])
unfolding tried all_in_limits all_distinct masks_in
good_frame s b c =
    let ok : (within 1 64 s && within 1 8 b) ≡ true = true_of_not (within 1 64 s && within 1 8 b) c.in_limits in
    after_frame_lem {s = s} {b = b}
    (λ k hold few. record {
      slots = left_of (within 1 64 s) (within 1 8 b) ok;
      bridges = right_of (within 1 64 s) (within 1 8 b) ok;
      supply = few;
      masks = refl;
      busy = of_masks b (2 ^ s) (replicate 8 0) (λ i. omega (arith, no_mask 8 i, pow_pos s)) (λ i l. no_mask 8 i);
      number = omega arith;
      limits = refl;
      distinct = refl;
    })

-- the lines of a frame with nothing busy and no presets
bare_forms : (s b k : ℕ) (hold : Bool) → forms_of (started s b k hold) ≡ frame_line s b ∷ (supply_lines k ++ tie_lines hold)
unfolding forms_of
bare_forms s b k hold =
    ap (λ (l : List Form). frame_line s b ∷ (supply_lines k ++ (tie_lines hold ++ (l ++ [])))) (busy_lines_none 1 (replicate 8 0) (no_mask 8))
    ∙ ap (λ (l : List Form). frame_line s b ∷ (supply_lines k ++ l)) (append-nil (tie_lines hold))

-- one more line at the end: after the lines before the busy lines it is one more of the lines from them on
forms_end : (h : Head) (rest : List Form) (f : Form)
    → frame_line h.slots h.bridges ∷ (supply_lines h.supply ++ (tie_lines h.hold ++ (rest ++ (f ∷ []))))
    ≡ frame_line h.slots h.bridges ∷ (supply_lines h.supply ++ (tie_lines h.hold ++ rest)) ++ (f ∷ [])
forms_end h rest f =
    ap (λ (k : List Form). frame_line h.slots h.bridges ∷ k)
    (ap (λ (k : List Form). supply_lines h.supply ++ k) (sym (append_assoc (tie_lines h.hold) rest (f ∷ [])))
    ∙ sym (append_assoc (supply_lines h.supply) (tie_lines h.hold ++ rest) (f ∷ [])))

forms_busy : (h : Head) (b : ℕ) (p : Pairs) → 1 ≤ b → b - 1 < length h.busy → h.presets ≡ []
    → ((j : ℕ) → b - 1 ≤ j → get_or h.busy j 0 ≡ 0) → stretches 64 1 (mask_of p) ≡ some p
    → forms_of (with_busy h (set h.busy (b - 1) (mask_of p)))
    ≡ forms_of h ++ (busy_line b p ∷ [])
unfolding forms_of
forms_busy h b p low inside-busy bare z e =
    let at : 1 + (b - 1) ≡ b = omega arith in
    let lines : busy_lines 1 (set h.busy (b - 1) (mask_of p)) ≡ busy_lines 1 h.busy ++ (busy_line b p ∷ []) =
    busy_lines_set 1 h.busy (b - 1) (mask_of p) p inside-busy z e ∙ ap (λ (k : ℕ). busy_lines 1 h.busy ++ (busy_line k p ∷ [])) at in
    ap (λ (k : List Form). frame_line h.slots h.bridges ∷ (supply_lines h.supply ++ (tie_lines h.hold ++ k)))
    (ap (λ (k : List Preset). busy_lines 1 (set h.busy (b - 1) (mask_of p)) ++ map preset_line k) bare
    ∙ append-nil (busy_lines 1 (set h.busy (b - 1) (mask_of p))) ∙ lines
    ∙ ap (λ (k : List Form). k ++ (busy_line b p ∷ [])) (sym (append-nil (busy_lines 1 h.busy))
    ∙ ap (λ (k : List Preset). busy_lines 1 h.busy ++ map preset_line k) (sym bare)))
    ∙ forms_end h (busy_lines 1 h.busy ++ map preset_line h.presets) (busy_line b p)

-- the facts of a busy line that passes
good_busy : (least : ℕ) (h : Head) (fs : List Form) (b : ℕ) (p : Pairs) → Parts h → h.presets ≡ []
    → ((i : ℕ) → least ≤ suc i → get_or h.busy i 0 ≡ 0) → forms_of h ≡ fs → NoCause (record { stage = at_busy least; head = h }) (busy_line b p)
    → Good (more (record { stage = at_busy least; head = h }) (busy_line b p)) (fs ++ (busy_line b p ∷ []))
unfolding tried forms_of
good_busy least h fs b p a bare z w c =
    let ok : (within 1 h.bridges b && ordered 1 h.slots p) ≡ true =
    true_of_not (within 1 h.bridges b && ordered 1 h.slots p) c.in_limits in
    let inside : within 1 h.bridges b ≡ true = left_of (within 1 h.bridges b) (ordered 1 h.slots p) ok in
    let stretch : ordered 1 h.slots p ≡ true = right_of (within 1 h.bridges b) (ordered 1 h.slots p) ok in
    let b-low : 1 ≤ b = within_low 1 h.bridges b inside in
    let b-high : b ≤ h.bridges = within_high 1 h.bridges b inside in
    let most : h.bridges ≤ 8 = within_high 1 8 h.bridges a.bridges in
    let all : h.slots ≤ 64 = within_high 1 64 h.slots a.slots in
    let up : least ≤ b = ge_of b least c.in_place in
    let inside-busy : b - 1 < length h.busy = omega (arith, a.masks) in
    before_presets {least = suc b} {h = with_busy h (set h.busy (b - 1) (mask_of p))}
    (record {
      slots = a.slots;
      bridges = a.bridges;
      supply = a.supply;
      masks = length-set h.busy (b - 1) (mask_of p) ∙ a.masks;
      busy = masks_set h.bridges (2 ^ h.slots) h.busy (b - 1) (mask_of p) (omega arith) (mask_lt h.slots p stretch) a.busy;
      number = a.number;
      limits = a.limits;
      distinct = a.distinct;
    })
    bare
    (λ i l. get_or-set_other h.busy (b - 1) i (mask_of p) 0 (λ q. omega arith) ∙ z i (omega arith))
    (forms_busy h b p b-low inside-busy bare (λ j l. z j (omega arith)) (stretches_mask h.slots p all stretch)
    ∙ ap (λ (k : List Form). k ++ (busy_line b p ∷ [])) w)

-- the same where no busy line and no tie line stands before it: any bridge will do there
good_first : (stage : Stage) (s b k : ℕ) (fs : List Form) (c : ℕ) (p : Pairs) → Parts (started s b k false) → forms_of (started s b k false) ≡ fs
    → NoCause (record { stage = stage; head = started s b k false }) (busy_line c p)
    → Good (more (record { stage = stage; head = started s b k false }) (busy_line c p)) (fs ++ (busy_line c p ∷ []))
unfolding tried
good_first stage s b k fs c p a w q =
    good_busy 0 (started s b k false) fs c p a refl (λ i l. no_mask 8 i) w
    (record { in_place = ltb_no c 0 (omega arith); in_limits = q.in_limits; unused = refl; fits = refl })

-- the facts of a preset line that passes
good_preset : (r : SoFar) (fs : List Form) (x : Preset) → Parts r.head → forms_of r.head ≡ fs → NoCause r (preset_line x)
    → Good (more r (preset_line x)) (fs ++ (preset_line x ∷ []))
unfolding tried forms_of
good_preset r fs x a w c =
    let h = r.head in
    let small : length h.presets < 32 = gt_of 32 (length h.presets) c.fits in
    in_presets {h = with_presets h (h.presets ++ (x ∷ []))}
    (record {
      slots = a.slots;
      bridges = a.bridges;
      supply = a.supply;
      masks = a.masks;
      busy = a.busy;
      number = omega (arith, length-append h.presets (x ∷ []));
      limits = limits_append h.presets x a.limits (true_of_not (preset_in_limits x) c.in_limits);
      distinct = distinct_append h.presets x a.distinct c.unused;
    })
    (ap (λ (k : List Form). frame_line h.slots h.bridges ∷ (supply_lines h.supply ++ (tie_lines h.hold ++ k)))
    (ap (λ (k : List Form). busy_lines 1 h.busy ++ k) (map-append preset_line h.presets (x ∷ []))
    ∙ sym (append_assoc (busy_lines 1 h.busy) (map preset_line h.presets) (preset_line x ∷ [])))
    ∙ forms_end h (busy_lines 1 h.busy ++ map preset_line h.presets) (preset_line x)
    ∙ ap (λ (k : List Form). k ++ (preset_line x ∷ [])) w)

good_more : {r : SoFar} {fs : List Form} (f : Form) → ends r f ≡ false → first_of (causes r f) ≡ none → Good r fs → Good (more r f) (fs ++ (f ∷ []))
unfolding tried
good_more (frame_line s b) e c at_start = good_frame s b (no_cause begin (frame_line s b) c)
good_more (busy_line b p) e c at_start = absurd (clash (no_cause begin (busy_line b p) c).in_place)
good_more (preset_line p) e c at_start = absurd (clash (no_cause begin (preset_line p) c).in_place)
good_more (clock_line t) e c at_start = absurd (clash (no_cause begin (clock_line t) c).in_place)
good_more (call_line p) e c at_start = absurd (clash (no_cause begin (call_line p) c).in_place)
good_more (tie_line hold) e c at_start = absurd (clash (no_cause begin (tie_line hold) c).in_place)
good_more (supply_line k) e c at_start = absurd (clash (no_cause begin (supply_line k) c).in_place)
good_more {r} (frame_line s b) e c (after_frame_lem a) = absurd (clash (no_cause r (frame_line s b) c).in_place)
good_more {r} {fs} (busy_line i p) e c (after_frame_lem {s} {b} a) = good_first at_supply s b 0 fs i p (a 0 false (omega arith)) (bare_forms s b 0 false) (no_cause r (busy_line i p) c)
good_more {r} {fs} (preset_line p) e c (after_frame_lem {s} {b} a) = good_preset r fs p (a 0 false (omega arith)) (bare_forms s b 0 false) (no_cause r (preset_line p) c)
good_more (clock_line t) e c (after_frame_lem a) = absurd (clash e)
good_more (call_line p) e c (after_frame_lem a) = absurd (clash e)
good_more (tie_line true) e c (after_frame_lem {s} {b} a) = before_presets {least = 0} (a 0 true (omega arith)) refl (λ i l. no_mask 8 i) (bare_forms s b 0 true)
good_more {r} (tie_line false) e c (after_frame_lem a) = absurd (clash (no_cause r (tie_line false) c).in_place)
good_more {r} (supply_line zero) e c (after_frame_lem a) = absurd (clash (no_cause r (supply_line zero) c).in_limits)
good_more {r} (supply_line (suc k)) e c (after_frame_lem {s} {b} a) =
    let few = within_high 1 8 (suc k) (true_of_not (within 1 8 (suc k)) (no_cause r (supply_line (suc k)) c).in_limits) in
    after_supply_lem {s = s} {b = b} {k = k} (λ hold. a (suc k) hold few)
good_more {r} (frame_line s b) e c (after_supply_lem a) = absurd (clash (no_cause r (frame_line s b) c).in_place)
good_more {r} {fs} (busy_line i p) e c (after_supply_lem {s} {b} {k} a) = good_first at_tie s b (suc k) fs i p (a false) (bare_forms s b (suc k) false) (no_cause r (busy_line i p) c)
good_more {r} {fs} (preset_line p) e c (after_supply_lem {s} {b} {k} a) = good_preset r fs p (a false) (bare_forms s b (suc k) false) (no_cause r (preset_line p) c)
good_more (clock_line t) e c (after_supply_lem a) = absurd (clash e)
good_more (call_line p) e c (after_supply_lem a) = absurd (clash e)
good_more (tie_line true) e c (after_supply_lem {s} {b} {k} a) = before_presets {least = 0} (a true) refl (λ i l. no_mask 8 i) (bare_forms s b (suc k) true)
good_more {r} (tie_line false) e c (after_supply_lem a) = absurd (clash (no_cause r (tie_line false) c).in_place)
good_more {r} (supply_line k) e c (after_supply_lem a) = absurd (clash (no_cause r (supply_line k) c).in_place)
good_more {r} (frame_line s b) e c (before_presets a bare z w) = absurd (clash (no_cause r (frame_line s b) c).in_place)
good_more {r} {fs} (busy_line b p) e c (before_presets {least} {h} a bare z w) = good_busy least h fs b p a bare z w (no_cause r (busy_line b p) c)
good_more {r} {fs} (preset_line p) e c (before_presets a bare z w) = good_preset r fs p a w (no_cause r (preset_line p) c)
good_more (clock_line t) e c (before_presets a bare z w) = absurd (clash e)
good_more (call_line p) e c (before_presets a bare z w) = absurd (clash e)
good_more (tie_line hold) e c (before_presets a bare z w) = absurd (clash e)
good_more {r} (supply_line k) e c (before_presets a bare z w) = absurd (clash (no_cause r (supply_line k) c).in_place)
good_more {r} (frame_line s b) e c (in_presets a w) = absurd (clash (no_cause r (frame_line s b) c).in_place)
good_more {r} (busy_line b p) e c (in_presets a w) = absurd (clash (no_cause r (busy_line b p) c).in_place)
good_more {r} {fs} (preset_line p) e c (in_presets a w) = good_preset r fs p a w (no_cause r (preset_line p) c)
good_more (clock_line t) e c (in_presets a w) = absurd (clash e)
good_more (call_line p) e c (in_presets a w) = absurd (clash e)
good_more (tie_line hold) e c (in_presets a w) = absurd (clash e)
good_more {r} (supply_line k) e c (in_presets a w) = absurd (clash (no_cause r (supply_line k) c).in_place)

good_passes : {r q : SoFar} {fs : List Form} (done : List Form) → Passes r fs q → Good r done → Good q (done ++ fs)
good_passes done no_more g = rw append-nil g
good_passes done (one_more {f} {fs} e c p) g =
    rw append_assoc at (good_passes (done ++ (f ∷ [])) p (good_more f e c g))

-- ---- what an accepted text has

Facts : List ℕ → Reading → Type 0
Facts t (accepted h n) = Valid h × (text_of h ≡ join (take n (lines t))) × (n ≡ length (forms_of h))
Facts t (refused n c) = Unit {0}

written : (t : List ℕ) (fs : List Form) (h : Head) (ls : List (List ℕ)) → lines t ≡ map print fs ++ ls → Parts h → forms_of h ≡ fs
    → Facts t (accepted h (length fs))
unfolding Facts text_of
written t fs h ls e a w = (
  valid_parts h a,
  ap (λ (k : List Form). join (map print k)) w
      ∙ ap join (sym (take_at (map print fs) ls (length fs) (length-map fs print)))
      ∙ ap (λ (k : List (List ℕ)). join (take (length fs) k)) (sym e),
  ap length (sym w),
)

ended : (t : List ℕ) (fs : List Form) (q : SoFar) (ls : List (List ℕ)) → lines t ≡ map print fs ++ ls → begun q.stage ≡ true → Good q fs
    → Facts t (accepted q.head (length fs))
ended t fs q ls e b at_start = absurd (clash (sym b))
ended t fs q ls e b (after_frame_lem {s} {b = c} a) = written t fs q.head ls e (a 0 false (omega arith)) (bare_forms s c 0 false)
ended t fs q ls e b (after_supply_lem {s} {b = c} {k} a) = written t fs q.head ls e (a false) (bare_forms s c (suc k) false)
ended t fs q ls e b (before_presets a bare z w) = written t fs q.head ls e a w
ended t fs q ls e b (in_presets a w) = written t fs q.head ls e a w

facts_stops : (t : List ℕ) {fs : List Form} {q : SoFar} {ls : List (List ℕ)} {x : Reading}
    → lines t ≡ map print fs ++ ls → Good q fs → Stops (length fs) q ls x → Facts t x
unfolding Facts
facts_stops t {fs} {q} {ls} e g (at_end b) = ended t fs q [] e b g
facts_stops t {fs} {q} {ls} e g (at_event {l} {ls = ms} {f} d a) =
    ended t fs q (l ∷ ms) e (right_of (is_event f && not (is_tie f && directly q.stage)) (begun q.stage) a) g
facts_stops t e g (at_no_form d) = tt
facts_stops t e g (at_fault d a c) = tt

facts : {t : List ℕ} {x : Reading} → Means t x → Facts t x
unfolding Facts
facts (too_long h) = tt
facts (no_text e) = tt
facts {t} (by_lines h e p s) = facts_stops t e (good_passes [] p at_start) s

read_facts : (t : List ℕ) (h : Head) (n : ℕ) → head_of t ≡ accepted h n → Facts t (accepted h n)
read_facts t h n e = subst (Facts t) e (facts (head_of_means t))

-- what a text yields is valid
pub read_valid : (t : List ℕ) (h : Head) (n : ℕ) → head_of t ≡ accepted h n → Valid h
unfolding Facts
read_valid t h n e = (read_facts t h n e).0

-- what a text yields is written as it was read: "The head has one text only"
pub read_written : (t : List ℕ) (h : Head) (n : ℕ) → head_of t ≡ accepted h n → text_of h ≡ join (take n (lines t))
unfolding Facts
read_written t h n e = (read_facts t h n e).1

-- the number of lines is that of the head's text
pub read_lines : (t : List ℕ) (h : Head) (n : ℕ) → head_of t ≡ accepted h n → n ≡ length (forms_of h)
unfolding Facts
read_lines t h n e = (read_facts t h n e).2
