-- Laws of the test of a head record, part by part.
--
-- In order: a mask below a power of two (`shifted_out`); the masks of a frame's bridges and the others (`masks_split`); the limits of all presets (`limits_all`);
-- no number twice (`Marked`, `marked_none`, `marked_fault`, `marked_more`); the whole record (`valid_as_written`), and what a valid one says (`valid_head`).
-- Assumes nothing.
use Prim.Native.Nat.{ℕ, zero, suc, ◌+◌, ◌/◌, ◌^◌, ◌≤◌, ◌<◌, min}
use native.Mathlib.Nat.{div-eq_of_lt, div-lt_iff_lt-mul}
use native.Mathlib.Omega.{arith}
use mathlib.Core.Path.{◌≡◌, refl, sym, ◌∙◌, ap}
use mathlib.Core.Bool.{Bool, true, false, ◌&&◌, ◌||◌}
use mathlib.Core.List.{List, [], ◌∷◌, ◌++◌, map}
use lib.ListN.{length, take, drop, get_or, set, replicate, length-set, length-map, length-take, take-append-drop}
use lib.Dec.{eqb, ltb, leb}
use lib.Pow.{pow_pos}
use lib.Seq.{drop-cons}
use Rattle.std.specs.List.{list_all}
use Rattle.std.proofs.Math.Bool.{and_assoc, or_assoc, or-false, or-true}
use Rattle.std.proofs.lemmas.List.{map-append, take_min, drop_min, take_more, get_or-replicate, get_or-set_same, get_or-set_other}
use Rattle.laws.proofs.Tests.{Is, is, is_true, is_false, clash, right_of, not-true, test_ext}
use Rattle.laws.proofs.Comparisons.{lt_of, eq_of, ne_of, ltb_yes, le_of, leb_yes, eqb_yes}
use Rattle.station.specs.declared.types.Preset.{Preset}
use Rattle.station.specs.declared.types.Head.{Head}
use Rattle.station.specs.Head as meant
use Rattle.station.specs.Head.{Valid, frame_in_limits, preset_in_limits, has_number, all_in_limits, all_distinct, masks_in, valid}
use Rattle.station.specs.Types.{preset_in, presets_in, no_record, head_in, valid_record}
use Rattle.station.proofs.ValidHead.{parts, valid_parts}
use Rattle.station.proofs.Writing.{distinct_append}
use Rattle.station.proofs.WrittenRead.{distinct_unused}

-- ---- masks

-- nothing is left of a number below 2 ^ k that is shifted by k
pub shifted_out : (m k : ℕ) → eqb (m / 2 ^ k) 0 ≡ ltb m (2 ^ k)
shifted_out m k = test_ext (eqb (m / 2 ^ k) 0) (ltb m (2 ^ k)) there back
  where
    there : eqb (m / 2 ^ k) 0 ≡ true → ltb m (2 ^ k) ≡ true
    there e = ltb_yes m (2 ^ k) (let z : m / 2 ^ k < 1 = omega (arith, eq_of (m / 2 ^ k) 0 e) in omega (arith, (div-lt_iff_lt-mul (pow_pos k)).0 z))

    back : ltb m (2 ^ k) ≡ true → eqb (m / 2 ^ k) 0 ≡ true
    back e = eqb_yes (m / 2 ^ k) 0 (div-eq_of_lt (lt_of m (2 ^ k) e))

-- every mask of a list within its frame: those of its bridges, and the others
masks_split : (k w : ℕ) (ms : List ℕ) → masks_in k w ms ≡ (list_all (λ m. ltb m w) (take k ms) && list_all (λ m. eqb m 0) (drop k ms))
unfolding masks_in
masks_split zero w [] = refl
masks_split (suc k) w [] = refl
masks_split zero w (m ∷ ms) = rw (masks_split zero w ms) refl
masks_split (suc k) w (m ∷ ms) = rw (masks_split k w ms) (sym (and_assoc (ltb m w) _ _))

-- the same of the two parts of a list
pub masks_apart : (k w : ℕ) (ms : List ℕ) → masks_in k w ms ≡ (list_all (λ m. ltb m w) (take (min k (length ms)) ms) && list_all (λ m. eqb m 0) (drop (min k (length ms)) ms))
masks_apart k w ms = rw (take_min k ms, drop_min k ms) (masks_split k w ms)

-- ---- preset records

-- every preset of a list within its limits
pub limits_all : (ps : List Preset) → list_all (λ p. preset_in_limits (preset_in p)) ps ≡ all_in_limits (map preset_in ps)
unfolding all_in_limits
limits_all [] = refl
limits_all (p ∷ ps) = rw (limits_all ps) refl

-- some presets have different numbers, and theirs are marked
pub record Marked (ps : List Preset) (marked : List Bool) : Type 0 where
  pub size : length marked ≡ 256
  pub seen : (x : ℕ) → x < 256 → get_or marked x false ≡ has_number x (map preset_in ps)
  pub distinct : all_distinct (map preset_in ps) ≡ true

-- one preset more
number_end : (x : ℕ) (ps : List meant.Preset) (p : meant.Preset) → has_number x (ps ++ (p ∷ [])) ≡ (has_number x ps || eqb x p.number)
unfolding has_number
number_end x [] p = or-false (eqb x p.number)
number_end x (q ∷ ps) p = rw (number_end x ps p) (sym (or_assoc (eqb x q.number) (has_number x ps) (eqb x p.number)))

pub marked_none : Marked [] (replicate 256 false)
unfolding has_number all_distinct
marked_none = record { size = refl; seen = λ x h. get_or-replicate 256 x false false h; distinct = refl }

module _ (ps : List Preset) (i : ℕ) (h : i < length ps) (marked : List Bool) (m : Marked (take i ps) marked) where
  abbrev here : Preset
  here = get_or ps i no_record

  abbrev before : List meant.Preset
  before = map preset_in (take i ps)

  next : map preset_in (take (i + 1) ps) ≡ before ++ (preset_in here ∷ [])
  next = ap (map preset_in) (take_more ps i no_record h) ∙ map-append preset_in (take i ps) (here ∷ [])

  whole : map preset_in ps ≡ before ++ (preset_in here ∷ map preset_in (drop (suc i) ps))
  whole =
      ap (map preset_in) (sym (take-append-drop i ps) ∙ ap (λ (l : List Preset). take i ps ++ l) (drop-cons ps i no_record h))
      ∙ map-append preset_in (take i ps) (here ∷ drop (suc i) ps)

  -- one number more is marked already, or is marked now
  pub marked_fault : here.number < 256 → get_or marked here.number false ≡ true → all_distinct (map preset_in ps) ≡ false
  marked_fault k e =
      not-true (all_distinct (map preset_in ps))
      (λ d. clash (sym e ∙ m.seen here.number k ∙ distinct_unused before (preset_in here) (map preset_in (drop (suc i) ps)) (rw whole at d)))

  pub marked_more : here.number < 256 → get_or marked here.number false ≡ false → Marked (take (i + 1) ps) (set marked here.number true)
  marked_more k e =
      record {
        size = length-set marked here.number true ∙ m.size;
        seen = λ x b. rw (next, number_end x before (preset_in here), ← m.seen x b) (go x (is (eqb x here.number)));
        distinct = rw next (distinct_append before (preset_in here) m.distinct (sym (m.seen here.number k) ∙ e));
      }
    where
      go : (x : ℕ) → Is (eqb x here.number) → get_or (set marked here.number true) x false ≡ (get_or marked x false || eqb x here.number)
      go x (is_true t) =
          rw (t, or-true (get_or marked x false), eq_of x here.number t)
          (get_or-set_same marked here.number true false (omega (arith, m.size, k)))
      go x (is_false t) = rw (t, or-false (get_or marked x false)) (get_or-set_other marked here.number x true false (ne_of x here.number t))

-- ---- the whole record

module _ (h : Head) (ps : List Preset) where
  -- the tests of the code, one after the other
  pub valid_as_written : leb h.count 32 ≡ true
      → valid (head_in h ps)
      ≡ (frame_in_limits h.slots h.bridges && (leb h.supply 8
      && ((eqb (length h.busy) 8 && masks_in h.bridges (2 ^ h.slots) h.busy)
      && (all_in_limits (presets_in h.count ps) && all_distinct (presets_in h.count ps)))))
  unfolding valid
  valid_as_written few =
      let n : length (presets_in h.count ps) ≤ 32 = omega (arith, le_of h.count 32 few, length-map (take h.count ps) preset_in, length-take h.count ps) in
      rw (leb_yes (length (presets_in h.count ps)) 32 n) (simp and_assoc)

  -- a valid record has a valid head
  pub valid_head : valid_record h ps ≡ true → Valid (head_in h ps)
  valid_head e = valid_parts (head_in h ps) (parts (head_in h ps) (right_of (leb h.count 32) (valid (head_in h ps)) e))
