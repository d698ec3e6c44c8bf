-- What is written reads as it was: a valid head's text reads to that head, so no two heads have the same text.
--
-- In order: lines that lead to a head (`Reaches`); what presets and busy lines ask (`distinct_unused`, `Open`, `TieMayStand`); presets, busy lines, the tie line, the supply line, the frame;
-- `written_read`; `one_head`; the valid heads are those that some text yields (`yielded`).
-- Assumes nothing.
use Prim.Native.Nat.{ℕ, zero, suc, ◌+◌, ◌-◌, ◌^◌, ◌≤◌, ◌<◌}
use native.Mathlib.Nat.{le_refl}
use native.Mathlib.Omega.{arith}
use mathlib.Core.Path.{◌≡◌, refl, sym, ◌∙◌, ap, subst}
use mathlib.Core.Logic.{◌↔◌}
use mathlib.Core.Bool.{Bool, true, false, not}
use mathlib.Core.Option.{Option, none, some}
use mathlib.Core.List.{List, [], ◌∷◌, ◌++◌, map, append_assoc, append-nil}
use lib.ListN.{length, get_or, set, replicate, length-append}
use lib.Seq.{append_snoc, set_at}
use lib.Dec.{eqb, ltb}
use lib.Pow.{pow_mono}
use Rattle.laws.proofs.Tests.{Is, is_true, is_false, is, left_of, right_of, false_of_not, neither_left, neither_right, none_some}
use Rattle.laws.proofs.Comparisons.{lt_of, ge_of, ne_of, ltb_no, leb_no, eqb_no}
use Rattle.station.specs.Head.{Preset, Head, bare_head, with_supply, with_tie, with_busy, with_presets, Valid, preset_in_limits, has_number, all_in_limits, all_distinct}
use Rattle.station.specs.Form.{Pairs, Form, frame_line, busy_line, preset_line, tie_line, supply_line, print}
use Rattle.station.specs.Writing.{mask_of, stretches, busy_line_of, busy_lines, supply_lines, tie_lines, forms_of, text_of}
use Rattle.station.specs.Reading.{accepted, head_of, Stage, at_supply, at_tie, at_busy, at_presets, begun, directly, busy_misplaced, tie_misplaced, SoFar, begin, ends, tried, more, Passes, no_more, one_more, at_end}
use Rattle.station.specs.Reading.{by_lines}
use Rattle.station.proofs.Form.{lines_prints}
use Rattle.station.proofs.Stretches.{stretches_zero, stretches_ordered, mask_stretches, no_stretches}
use Rattle.station.proofs.ValidHead.{of_within, parts_valid}
use Rattle.station.proofs.Reading.{NoCause, of_no_cause, means_head_of}
use Rattle.station.proofs.Writing.{read_valid}
use Rattle.station.proofs.TextSize.{text_fits}

-- the lines fs pass after r and lead to the head h
record Reaches (r : SoFar) (fs : List Form) (h : Head) : Type 0 where
  so_far : SoFar
  passes : Passes r fs so_far
  begins : begun so_far.stage ≡ true
  head : so_far.head ≡ h

then_reaches : {r : SoFar} {f : Form} {fs : List Form} {h : Head} → ends r f ≡ false → NoCause r f → Reaches (more r f) fs h → Reaches r (f ∷ fs) h
then_reaches {r} {f} e c w =
    record { so_far = w.so_far; passes = one_more e (of_no_cause r f c) w.passes; begins = w.begins; head = w.head }

-- ---- the conditions of presets and of busy lines

pub distinct_unused : (done : List Preset) (p : Preset) (ps : List Preset) → all_distinct (done ++ (p ∷ ps)) ≡ true → has_number p.number done ≡ false
unfolding all_distinct has_number
distinct_unused [] p ps e = refl
distinct_unused (x ∷ done) p ps e =
    let fresh : has_number x.number (done ++ (p ∷ ps)) ≡ false =
    false_of_not (has_number x.number (done ++ (p ∷ ps)))
    (left_of (not (has_number x.number (done ++ (p ∷ ps)))) (all_distinct (done ++ (p ∷ ps))) e) in
    rw (eqb_no p.number x.number (λ q. other done fresh (sym q)))
    (distinct_unused done p ps (right_of (not (has_number x.number (done ++ (p ∷ ps)))) (all_distinct (done ++ (p ∷ ps))) e))
  where
    other : (l : List Preset) → has_number x.number (l ++ (p ∷ ps)) ≡ false → x.number ≡ p.number → ⊥
    other [] u q = ne_of x.number p.number (neither_left (eqb x.number p.number) (has_number x.number ps) u) q
    other (y ∷ l) u q = other l (neither_right (eqb x.number y.number) (has_number x.number (l ++ (p ∷ ps))) u) q

-- the masks still to come, all 0
zeros : List ℕ → List ℕ
zeros ms = replicate (length ms) 0

-- one more at the end
length_snoc : (m : ℕ) (done : List ℕ) → length (done ++ (m ∷ [])) ≡ suc (length done)
length_snoc m done = omega (arith, length-append done (m ∷ []))

-- a stage at which the busy lines may go on with bridge n
record Open (n : ℕ) (stage : Stage) : Type 0 where
  begins : begun stage ≡ true
  in_place : (b : ℕ) → n ≤ b → busy_misplaced stage b ≡ false

open_busy : (k n : ℕ) → k ≤ n → Open n (at_busy k)
open_busy k n h = record { begins = refl; in_place = λ b l. ltb_no b k (omega arith) }

open_later : {n : ℕ} {stage : Stage} → Open n stage → Open (suc n) stage
open_later o = record { begins = o.begins; in_place = λ b l. o.in_place b (omega arith) }

-- a stage at which the head's tie line may stand, or its first busy line
record TieMayStand (stage : Stage) : Type 0 where
  follows : directly stage ≡ true
  holds : tie_misplaced stage true ≡ false
  busy : Open 1 stage

after_frame_lem : TieMayStand at_supply
after_frame_lem = record { follows = refl; holds = refl; busy = record { begins = refl; in_place = λ b l. refl } }

after_supply_lem : TieMayStand at_tie
after_supply_lem = record { follows = refl; holds = refl; busy = record { begins = refl; in_place = λ b l. refl } }

module _ (s b motors : ℕ) (hold : Bool) where
  abbrev head_with : List ℕ → List Preset → Head
  head_with busy ps = with_presets (with_busy (with_tie (with_supply (bare_head s b) motors) hold) busy) ps

  -- under way: the frame line was read
  abbrev under : Stage → List ℕ → List Preset → SoFar
  under stage busy ps = record { stage = stage; head = head_with busy ps }

  -- ---- presets

  presets_reach : (stage : Stage) (busy : List ℕ) (done ps : List Preset) → begun stage ≡ true → all_in_limits ps ≡ true → all_distinct (done ++ ps) ≡ true
      → length (done ++ ps) ≤ 32 → Reaches (under stage busy done) (map preset_line ps) (head_with busy (done ++ ps))
  unfolding all_in_limits tried
  presets_reach stage busy done [] g l d n =
      record { so_far = under stage busy done; passes = no_more; begins = g; head = rw append-nil refl }
  presets_reach stage busy done (p ∷ ps) g l d n =
      let snoc : done ++ (p ∷ []) ++ ps ≡ done ++ (p ∷ ps) = append_snoc done p ps in
      let few : length done < 32 = omega (arith, length-append done (p ∷ ps)) in
      then_reaches {r = under stage busy done} {f = preset_line p} refl
      (record {
        in_place = ap not g;
        in_limits = ap not (left_of (preset_in_limits p) (all_in_limits ps) l);
        unused = distinct_unused done p ps d;
        fits = leb_no 32 (length done) few;
      })
      (rw snoc at
      (presets_reach at_presets busy (done ++ (p ∷ [])) ps refl (right_of (preset_in_limits p) (all_in_limits ps) l) (rw snoc d) (rw snoc n)))

  -- ---- busy lines

  -- the line of one bridge, where the masks from it on are still to come
  busy_line_lem : (from : Stage) (done zs : List ℕ) (m : ℕ) (fs : List Form) (h : Head) → s ≤ 64 → Open (suc (length done)) from → m < 2 ^ s
      → (b ≤ length done → m ≡ 0)
      → ((to : Stage) → Open (suc (suc (length done))) to → Reaches (under to (done ++ (m ∷ zs)) []) fs h)
      → (o : Option Pairs) → stretches 64 1 m ≡ o → Reaches (under from (done ++ (0 ∷ zs)) []) (busy_line_of (suc (length done)) o ++ fs) h
  unfolding tried
  busy_line_lem from done zs m fs h top low below last-bridge go none e =
      let most : 2 ^ s ≤ 2 ^ 64 = pow_mono top in
      let zero : m ≡ 0 = no_stretches m (omega arith) e in
      subst (λ (x : ℕ). Reaches (under from (done ++ (x ∷ zs)) []) fs h) zero (go from (open_later low))
  busy_line_lem from done zs m fs h top low below last-bridge go (some p) e =
      let i = length done in
      let at : i ≡ suc i - 1 = omega arith in
      let written : set (done ++ (0 ∷ zs)) (suc i - 1) (mask_of p) ≡ done ++ (m ∷ zs) =
      set_at done 0 zs (mask_of p) (suc i - 1) at ∙ ap (λ (x : ℕ). done ++ (x ∷ zs)) (mask_stretches s m p top below e) in
      then_reaches {r = under from (done ++ (0 ∷ zs)) []} {f = busy_line (suc i) p} refl
      (record {
        in_place = low.in_place (suc i) (le_refl (suc i));
        in_limits = rw (of_within 1 b (suc i) (omega arith) (inside (is (ltb i b))), stretches_ordered s m p top below e) refl;
        unused = refl;
        fits = refl;
      })
      (subst (λ (k : List ℕ). Reaches (under (at_busy (suc (suc i))) k []) fs h) (sym written) (go (at_busy (suc (suc i))) (open_busy (suc (suc i)) (suc (suc i)) (le_refl (suc (suc i))))))
    where
      inside : Is (ltb (length done) b) → length done < b
      inside (is_true q) = lt_of (length done) b q
      inside (is_false q) =
          let zero : m ≡ 0 = last-bridge (ge_of (length done) b q) in
          absurd (none_some (sym (stretches_zero 64 1) ∙ ap (stretches 64 1) (sym zero) ∙ e))

  busy_cons : (m : ℕ) (ms done : List ℕ) (from : Stage) (rest : List Form) (h : Head) → s ≤ 64 → Open (suc (length done)) from → m < 2 ^ s
      → (b ≤ length done → m ≡ 0)
      → ((to : Stage) → Open (suc (suc (length done))) to
      → Reaches (under to (done ++ (m ∷ zeros ms)) []) (busy_lines (suc (suc (length done))) ms ++ rest) h)
      → Reaches (under from (done ++ zeros (m ∷ ms)) []) (busy_lines (suc (length done)) (m ∷ ms) ++ rest) h
  unfolding busy_lines zeros
  busy_cons m ms done from rest h top low below last-bridge later =
      subst (λ (fs : List Form). Reaches (under from (done ++ (0 ∷ zeros ms)) []) fs h)
      (sym (append_assoc (busy_line_of (suc (length done)) (stretches 64 1 m)) (busy_lines (suc (suc (length done))) ms) rest))
      (busy_line_lem from done (zeros ms) m (busy_lines (suc (suc (length done))) ms ++ rest) h top low below last-bridge later (stretches 64 1 m) refl)

  -- one mask more is done
  busy_moved : (m : ℕ) (to : Stage) (ms done : List ℕ) (rest : List Form) (h : Head)
      → Reaches (under to (done ++ (m ∷ []) ++ zeros ms) []) (busy_lines (suc (length (done ++ (m ∷ [])))) ms ++ rest) h
      → Reaches (under to (done ++ (m ∷ zeros ms)) []) (busy_lines (suc (suc (length done))) ms ++ rest) h
  busy_moved m to ms done rest h w =
      subst (λ (k : ℕ). Reaches (under to (done ++ (m ∷ zeros ms)) []) (busy_lines (suc k) ms ++ rest) h) (length_snoc m done)
      (subst (λ (k : List ℕ). Reaches (under to k []) (busy_lines (suc (length (done ++ (m ∷ [])))) ms ++ rest) h) (append_snoc done m (zeros ms)) w)

  busy_reach : (ms done : List ℕ) (from : Stage) (rest : List Form) (h : Head) → s ≤ 64 → Open (suc (length done)) from
      → ((i : ℕ) → get_or ms i 0 < 2 ^ s) → ((i : ℕ) → b ≤ length done + i → get_or ms i 0 ≡ 0)
      → ((to : Stage) → begun to ≡ true → Reaches (under to (done ++ ms) []) rest h)
      → Reaches (under from (done ++ zeros ms) []) (busy_lines (suc (length done)) ms ++ rest) h
  busy_reach [] done from rest h top low f g k = unfold busy_lines zeros in (k from low.begins)
  busy_reach (m ∷ ms) done from rest h top low f g k =
      busy_cons m ms done from rest h top low (f 0) (λ q. g 0 (omega arith))
      (λ to l. busy_moved m to ms done rest h
      (busy_reach ms (done ++ (m ∷ [])) to rest h top (rw (length_snoc m done) l) (λ i. f (suc i))
      (λ i q. g (suc i) (omega (arith, length-append done (m ∷ []))))
      (λ x o. subst (λ (k : List ℕ). Reaches (under x k []) rest h) (sym (append_snoc done m ms)) (k x o))))

-- ---- the whole head

-- the head before its busy lines and presets: the frame, a supply line where k is not 0, a tie line where it holds
abbrev started : Head → ℕ → Bool → Head
started h k hold = with_tie (with_supply (bare_head h.slots h.bridges) k) hold

-- its busy lines and presets
abbrev later : Head → List Form
later h = busy_lines 1 h.busy ++ map preset_line h.presets

-- the busy lines and the presets, after the lines before them
rest_reaches : (h : Head) → Valid h → (stage : Stage) → Open 1 stage → Reaches (record { stage = stage; head = started h h.supply h.hold }) (later h) h
unfolding zeros
rest_reaches h v stage o =
    let p = parts_valid h v in
    let none_yet : zeros h.busy ≡ replicate 8 0 = ap (λ (n : ℕ). replicate {A = ℕ} n 0) v.masks in
    subst (λ (k : List ℕ). Reaches (under h.slots h.bridges h.supply h.hold stage k []) (later h) h) none_yet
    (busy_reach h.slots h.bridges h.supply h.hold h.busy [] stage (map preset_line h.presets) h v.slots_high o v.in_frame_lem
    (λ i l. v.no_bridge i (omega arith))
    (λ to g. presets_reach h.slots h.bridges h.supply h.hold to h.busy [] h.presets g p.limits p.distinct p.number))

-- the same by which lines there were
started_reaches : (h : Head) → Valid h → (stage : Stage) (k : ℕ) (hold : Bool) → h.supply ≡ k → h.hold ≡ hold → Open 1 stage
    → Reaches (record { stage = stage; head = started h k hold }) (later h) h
started_reaches h v stage k hold d e o =
    subst (λ (x : ℕ). Reaches (record { stage = stage; head = started h x hold }) (later h) h) d
    (subst (λ (x : Bool). Reaches (record { stage = stage; head = started h h.supply x }) (later h) h) e (rest_reaches h v stage o))

-- the tie line, where there is one
tie_reaches : (h : Head) → Valid h → (stage : Stage) (k : ℕ) (hold : Bool) → h.supply ≡ k → h.hold ≡ hold → TieMayStand stage
    → Reaches (record { stage = stage; head = started h k false }) (tie_lines hold ++ later h) h
unfolding tried
tie_reaches h v stage k true d e m =
    then_reaches {r = record { stage = stage; head = started h k false }} {f = tie_line true} (rw m.follows refl)
    (record { in_place = m.holds; in_limits = refl; unused = refl; fits = refl })
    (started_reaches h v (at_busy 0) k true d e (open_busy 0 1 (omega arith)))
tie_reaches h v stage k false d e m = started_reaches h v stage k false d e m.busy

-- the supply line, where there is one
supply_reaches : (h : Head) → Valid h → (k : ℕ) → h.supply ≡ k
    → Reaches (record { stage = at_supply; head = bare_head h.slots h.bridges }) (supply_lines k ++ (tie_lines h.hold ++ later h)) h
unfolding tried
supply_reaches h v zero d = tie_reaches h v at_supply 0 h.hold d refl after_frame_lem
supply_reaches h v (suc k) d =
    then_reaches {r = record { stage = at_supply; head = bare_head h.slots h.bridges }} {f = supply_line (suc k)} refl
    (record { in_place = refl; in_limits = ap not (of_within 1 8 (suc k) (omega arith) (omega (arith, v.supply))); unused = refl; fits = refl })
    (tie_reaches h v at_tie (suc k) h.hold d refl after_supply_lem)

forms_reach : (h : Head) → Valid h → Reaches begin (forms_of h) h
unfolding forms_of tried
forms_reach h v =
    let p = parts_valid h v in
    then_reaches {r = begin} {f = frame_line h.slots h.bridges} refl
    (record { in_place = refl; in_limits = rw (p.slots, p.bridges) refl; unused = refl; fits = refl }) (supply_reaches h v h.supply refl)

-- the text of a valid head reads to that head, and all its lines are the head's
pub written_read : (h : Head) → Valid h → head_of (text_of h) ≡ accepted h (length (forms_of h))
unfolding text_of
written_read h v =
    let w = forms_reach h v in
    let fits : length (text_of h) ≤ 8192 = text_fits h v in
    means_head_of (by_lines (omega arith) (lines_prints (forms_of h) ∙ sym (append-nil (map print (forms_of h)))) w.passes (at_end w.begins))
    ∙ ap (λ (k : Head). accepted k (length (forms_of h))) w.head

-- "The head has one text only": no two heads have the same
pub one_head : (g h : Head) → Valid g → Valid h → text_of g ≡ text_of h → g ≡ h
one_head g h v w e =
    let q : accepted g (length (forms_of g)) ≡ accepted h (length (forms_of h)) = sym (written_read g v) ∙ ap head_of e ∙ written_read h w in
    cc

-- "a head record that no text yields": the valid ones are those that some text yields
pub yielded : (h : Head) → Valid h ↔ ((t : List ℕ) × (n : ℕ) × (head_of t ≡ accepted h n))
yielded h = (λ v. (text_of h, length (forms_of h), written_read h v), λ w. read_valid w.0 h w.1 w.2)
