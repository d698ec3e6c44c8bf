-- One line more in the reading of a head: what the code's step means for `read_from`.
--
-- In order: stages (`least_bridge`, `not_begun`); the state's bounds (`Kept`); what a step means for the lines that are left (`after_step`); line 1 (`first_line`), a line after it
-- (`next_line`), and both (`step_line`).
-- Assumes nothing.
use Prim.Native.Nat.{ℕ, suc, ◌+◌, ◌-◌, ◌≤◌, ◌<◌, min}
use native.Mathlib.Omega.{arith}
use native.Mathlib.Numerals.{add-one}
use mathlib.Core.Path.{◌≡◌, refl, sym, ◌∙◌, ap, subst}
use mathlib.Core.Bool.{Bool, true, false, ◌&&◌}
use mathlib.Core.Option.{Option, none, some}
use Rattle.std.specs.Prelude as code-option
use Rattle.std.specs.Prelude.{Some, is_some, Ok, Err}
use Rattle.std.specs.Bool.{then_some}
use mathlib.Core.List.{List, [], ◌∷◌, ◌++◌, map}
use lib.ListN.{length, take, drop, set, length-map, length-set}
use lib.Seq.{drop-drop, take-suc-set, drop-set-lt, length-take-le}
use lib.Dec.{leb}
use Rattle.laws.proofs.Tests.{Is, is, is_true, is_false, clash, left_of, right_of}
use Rattle.laws.proofs.Comparisons.{gt_of}
use Rattle.station.specs.Limits.{worst_priority}
use Rattle.station.specs.declared.types.Preset.{Preset}
use Rattle.station.specs.declared.heads.steps.Stage as code
use Rattle.station.specs.declared.heads.steps.Stage.TheVariants.{Frame, Supply, Tie, Busy, Presets}
use Rattle.station.specs.declared.heads.steps.State.{State}
use Rattle.station.specs.declared.heads.steps.Going.TheVariants.{Goes, Ends}
use Rattle.station.specs.Head as meant
use Rattle.station.specs.Head.{preset_of, with_busy, with_presets, within, preset_in_limits, has_number}
use Rattle.station.specs.Refusal.{first_of}
use Rattle.station.specs.Form.{Pairs, Form, frame_line, busy_line, preset_line, clock_line, call_line, tie_line, supply_line}
use Rattle.station.specs.Writing.{mask_of, ordered}
use Rattle.station.specs.Reading.{Reading, accepted, refused, Stage, at_frame, at_supply, at_tie, at_busy, at_presets, begun, SoFar, supply_misplaced, busy_misplaced, tried, read_from}
use Rattle.station.specs.method.ReadLine.{said, line_in}
use Rattle.station.specs.Types.{refusal_in, preset_in, with_supplied, with_hold, head_in}
use Rattle.station.specs.ReadHead.{record_of}
use Rattle.station.specs.method.HeadStep.{Verdict, Step, stage_in, so_far_in, step_of, step_where, first_step, next_step, after_frame, after_busy, after_preset}
use Rattle.station.specs.method.HeadStep.{frame_step, supply_step, tie_step_at, busy_step, preset_step}
use Rattle.station.proofs.numbers.Decimals.{seen_leb, seen_within}
use Rattle.station.proofs.ValidHead.{within_high, limits_of}
use mathlib.Core.List.{map-append}
use Rattle.station.proofs.heads.OneLine.{seen_ltb, seen_small}
use Rattle.station.specs.Jobs.{seen}

-- ---- stages

-- the least bridge that a busy line may have, where one may come
abbrev pub least_bridge : Stage → ℕ
least_bridge at_frame = 0
least_bridge at_supply = 0
least_bridge at_tie = 0
least_bridge (at_busy b) = b
least_bridge at_presets = 0

-- a bridge as it is read is as much out of its place
seen_misplaced : (g : Stage) (b : ℕ) → least_bridge g ≤ 9 → busy_misplaced g (seen b) ≡ busy_misplaced g b
seen_misplaced at_frame b h = refl
seen_misplaced at_supply b h = refl
seen_misplaced at_tie b h = refl
seen_misplaced (at_busy k) b h = seen_ltb b k (omega arith)
seen_misplaced at_presets b h = refl

not_begun : (g : Stage) → begun g ≡ false → g ≡ at_frame
not_begun at_frame e = refl
not_begun at_supply e = absurd (clash e)
not_begun at_tie e = absurd (clash e)
not_begun (at_busy k) e = absurd (clash e)
not_begun at_presets e = absurd (clash e)

-- ---- the state's bounds

-- What holds between two lines: slots, bridges and presets are within their limits, the least bridge that a busy line may have is at most the ninth, no preset comes
-- before the frame line, and of the records those past the last preset are still `old`, the ones handed in.
pub record Kept (old : List Preset) (s : State) : Type 0 where
  pub slots : s.head.slots ≤ 64
  pub bridges : s.head.bridges ≤ 8
  pub least : least_bridge (stage_in s.stage) ≤ 9
  pub count : s.head.count ≤ 32
  pub records : length s.presets ≡ 32
  pub fresh : begun (stage_in s.stage) ≡ false → s.head.count ≡ 0
  pub past : drop s.head.count s.presets ≡ drop s.head.count old

-- ---- what a step means for the lines that are left

-- the reading after n lines and one with that verdict, whose state is s: it goes on with the lines that are left, or it is decided
abbrev pub after_verdict : Verdict → State → ℕ → List (Option Form) → Reading
after_verdict (Ok Goes) s n ls = read_from (suc n) (so_far_in s) ls
after_verdict (Ok Ends) s n ls = accepted (head_in s.head s.presets) n
after_verdict (Err c) s n ls = refused (suc n) (refusal_in c)

abbrev pub after_step : Step → ℕ → List (Option Form) → Reading
after_step x n ls = after_verdict x.verdict x.state n ls

-- x is the step of the line f after n lines that made r: the reading of f and the lines after it is what x makes of it
pub record LineMeans (old : List Preset) (r : SoFar) (n : ℕ) (f : Option Form) (ls : List (Option Form)) (x : Step) : Type 0 where
  pub reads : read_from n r (f ∷ ls) ≡ after_step x n ls
  pub kept : Kept old x.state

-- what was found by a test is there just if the test was passed
some_then : {A : Type 0} (b : Bool) (x : A) → is_some (then_some b x) ≡ b
some_then true x = refl
some_then false x = refl

-- ---- line 1

module _ (old : List Preset) (s : State) (k : Kept old s) (n : ℕ) (ls : List (Option Form)) where
  module _ (e : begun (stage_in s.stage) ≡ false) where
    -- a frame within its limits
    frame_kept : (a b : ℕ) → (within 1 64 a && within 1 8 b) ≡ true → Kept old (after_frame s a b)
    frame_kept a b w = record {
      slots = within_high 1 64 a (left_of (within 1 64 a) (within 1 8 b) w);
      bridges = within_high 1 8 b (right_of (within 1 64 a) (within 1 8 b) w);
      least = omega arith;
      count = omega arith;
      records = k.records;
      fresh = λ f. absurd (clash f);
      past = rw (k.fresh e) at k.past;
    }

    frame_yes : (a b : ℕ) → (within 1 64 a && within 1 8 b) ≡ true → LineMeans old (so_far_in s) n (some (frame_line a b)) ls (frame_step s a b)
    unfolding read_from tried first_of
    frame_yes a b w = rw w (record { reads = rw (e, w) refl; kept = frame_kept a b w })

    -- a frame outside them, its numbers as they are read
    frame_no : (a b : ℕ) → (within 1 64 a && within 1 8 b) ≡ false → LineMeans old (so_far_in s) n (some (frame_line a b)) ls (frame_step s (seen a) (seen b))
    unfolding read_from tried first_of
    frame_no a b w =
        rw (seen_within 1 64 a (omega arith) (omega arith), seen_within 1 8 b (omega arith) (omega arith), w) (record { reads = rw (e, w) refl; kept = k })

    frame_line_lem : (a b : ℕ) → LineMeans old (so_far_in s) n (some (frame_line a b)) ls (frame_step s (seen a) (seen b))
    frame_line_lem a b = go (is (within 1 64 a && within 1 8 b))
      where
        go : Is (within 1 64 a && within 1 8 b) → LineMeans old (so_far_in s) n (some (frame_line a b)) ls (frame_step s (seen a) (seen b))
        go (is_true w) =
            let sa : seen a ≡ a = seen_small a 64 (omega arith) (within_high 1 64 a (left_of (within 1 64 a) (within 1 8 b) w)) in
            let sb : seen b ≡ b = seen_small b 8 (omega arith) (within_high 1 8 b (right_of (within 1 64 a) (within 1 8 b) w)) in
            rw (sa, sb) (frame_yes a b w)
        go (is_false w) = frame_no a b w

    -- line 1: any form but a frame's is out of its place, whatever its values
    pub first_line : (hi : ℕ) (f : Form) → LineMeans old (so_far_in s) n (some f) ls (first_step s (said hi f))
    unfolding read_from tried first_of
    first_line hi (frame_line a b) = frame_line_lem a b
    first_line hi (busy_line b p) = record { reads = rw (not_begun (stage_in s.stage) e) refl; kept = k }
    first_line hi (preset_line p) = record { reads = rw e refl; kept = k }
    first_line hi (clock_line t) = record { reads = rw e refl; kept = k }
    first_line hi (call_line p) = record { reads = rw e refl; kept = k }
    first_line hi (tie_line hold) = record { reads = rw (not_begun (stage_in s.stage) e) refl; kept = k }
    first_line hi (supply_line m) = record { reads = rw (not_begun (stage_in s.stage) e) refl; kept = k }

  -- ---- a line after line 1

  -- the presets so far are as many as the count says
  count_length : length (map preset_in (take s.head.count s.presets)) ≡ s.head.count
  count_length =
      let c = k.count in
      let r = k.records in
      length-map (take s.head.count s.presets) preset_in ∙ length-take-le s.head.count s.presets (omega arith)

  busy_kept : (b mask : ℕ) → within 1 s.head.bridges b ≡ true → Kept old (after_busy s b mask)
  busy_kept b mask w =
      let h = within_high 1 s.head.bridges b w in
      let g = k.bridges in
      record {
        slots = k.slots;
        bridges = k.bridges;
        least = omega arith;
        count = k.count;
        records = k.records;
        fresh = λ f. absurd (clash f);
        past = k.past;
      }

  module _ (b : ℕ) (p : Pairs) where
    -- out of its place: after a preset line, or on a bridge that does not ascend
    abbrev early : Bool
    early = busy_misplaced (stage_in s.stage) b

    abbrev BusyMeans : ℕ → code-option.Option ℕ → Type 0
    BusyMeans b' mask = LineMeans old (so_far_in s) n (some (busy_line b p)) ls (busy_step s b' mask)

    -- a mask is there just if the stretches are in order
    some_test : is_some (then_some (ordered 1 s.head.slots p) (mask_of p)) ≡ ordered 1 s.head.slots p
    some_test = some_then (ordered 1 s.head.slots p) (mask_of p)

    -- whatever the other values
    busy_early : (mask : code-option.Option ℕ) → early ≡ true → BusyMeans (seen b) mask
    unfolding read_from tried first_of
    busy_early mask e =
        rw (seen_misplaced (stage_in s.stage) b k.least, e) (record { reads = rw e refl; kept = k })

    -- in its place, and outside the frame
    busy_no : early ≡ false → (within 1 s.head.bridges b && ordered 1 s.head.slots p) ≡ false
        → BusyMeans (seen b) (then_some (ordered 1 s.head.slots p) (mask_of p))
    unfolding read_from tried first_of
    busy_no e w =
        let g = k.bridges in
        rw (seen_misplaced (stage_in s.stage) b k.least, e, seen_within 1 s.head.bridges b (omega arith) (omega arith), some_test, w)
        (record { reads = rw (e, w) refl; kept = k })

    -- within it: the values were read as they are, and the bridge has the mask of its stretches
    busy_yes : early ≡ false → within 1 s.head.bridges b ≡ true → ordered 1 s.head.slots p ≡ true → BusyMeans b (Some (mask_of p))
    unfolding read_from tried first_of
    busy_yes e w o =
        rw (e, w)
        (record {
          reads =
              rw (e, w, o)
              (ap
              (λ (x : ℕ). read_from (suc n)
              (record {
                stage = at_busy x;
                head = with_busy (head_in s.head s.presets) (set s.head.busy (b - 1) (mask_of p));
              })
              ls)
              (sym (add-one b)));
          kept = busy_kept b (mask_of p) w;
        })

    busy_line_lem : BusyMeans (seen b) (then_some (ordered 1 s.head.slots p) (mask_of p))
    busy_line_lem = go (is early) (is (within 1 s.head.bridges b && ordered 1 s.head.slots p))
      where
        go : Is early → Is (within 1 s.head.bridges b && ordered 1 s.head.slots p) → BusyMeans (seen b) (then_some (ordered 1 s.head.slots p) (mask_of p))
        go (is_true e) w = busy_early _ e
        go (is_false e) (is_false w) = busy_no e w
        go (is_false e) (is_true w) =
            let v = left_of (within 1 s.head.bridges b) (ordered 1 s.head.slots p) w in
            let o = right_of (within 1 s.head.bridges b) (ordered 1 s.head.slots p) w in
            let g = k.bridges in
            let h = within_high 1 s.head.bridges b v in
            let sb : seen b ≡ b = seen_small b 8 (omega arith) (omega arith) in
            rw (sb, o) (busy_yes e v o)

  -- the presets so far
  abbrev in_use : List meant.Preset
  in_use = map preset_in (take s.head.count s.presets)

  -- a preset whose values are as they are read
  abbrev as_read : meant.Preset → meant.Preset
  as_read p = preset_of (seen p.number) (seen p.priority) (seen p.mandatory) (seen p.optional)

  module _ (g : begun (stage_in s.stage) ≡ true) (p : meant.Preset) where
    abbrev PresetMeans : meant.Preset → Type 0
    PresetMeans q = LineMeans old (so_far_in s) n (some (preset_line p)) ls (preset_step s q)

    -- a value outside its limits
    preset_no : preset_in_limits p ≡ false → PresetMeans (as_read p)
    unfolding read_from tried first_of
    preset_no e =
        rw (
          seen_within 1 255 p.number (omega arith) (omega arith),
          seen_leb p.priority worst_priority (omega arith),
          seen_leb p.mandatory 64 (omega arith),
          seen_leb p.optional 64 (omega arith),
          e,
        )
        (record { reads = rw (g, e) refl; kept = k })

    -- within them, and the number is used
    preset_taken : preset_in_limits p ≡ true → has_number p.number in_use ≡ true → PresetMeans p
    unfolding read_from tried first_of
    preset_taken e u = rw (e, u) (record { reads = rw (g, e, u) refl; kept = k })

    -- not used, and the 33rd
    preset_over : preset_in_limits p ≡ true → has_number p.number in_use ≡ false → leb 32 s.head.count ≡ true → PresetMeans p
    unfolding read_from tried first_of
    preset_over e u c = rw (e, u, c) (record { reads = rw (g, e, u, count_length, c) refl; kept = k })

    -- one more preset, after those so far
    preset_added : s.head.count < 32
        → map preset_in (take (s.head.count + 1) (set s.presets s.head.count (record_of p))) ≡ in_use ++ (p ∷ [])
    preset_added c =
        let r = k.records in
        rw (add-one s.head.count, take-suc-set s.presets s.head.count (record_of p) (omega arith))
        (map-append preset_in (take s.head.count s.presets) (record_of p ∷ []))

    preset_kept : s.head.count < 32 → Kept old (after_preset s p)
    preset_kept c = record {
      slots = k.slots;
      bridges = k.bridges;
      least = omega arith;
      count = omega arith;
      records = length-set s.presets s.head.count (record_of p) ∙ k.records;
      fresh = λ f. absurd (clash f);
      past =
          drop-set-lt (s.head.count + 1) s.presets s.head.count (record_of p) (omega arith)
          ∙ sym (drop-drop 1 s.head.count s.presets)
          ∙ ap (drop 1) k.past
          ∙ drop-drop 1 s.head.count old;
    }

    -- no cause holds
    preset_fits : preset_in_limits p ≡ true → has_number p.number in_use ≡ false → leb 32 s.head.count ≡ false → PresetMeans p
    unfolding read_from tried first_of
    preset_fits e u c =
        let l : s.head.count < 32 = gt_of 32 s.head.count c in
        rw (e, u, c)
        (record {
          reads =
              rw (g, e, u, count_length, c)
              (ap
              (λ (x : List meant.Preset). read_from (suc n)
              (record {
                stage = at_presets;
                head = with_presets (head_in s.head s.presets) x;
              })
              ls)
              (sym (preset_added l)));
          kept = preset_kept l;
        })

    -- values within their limits were read as they are
    preset_line_lem : PresetMeans (as_read p)
    preset_line_lem = go (is (preset_in_limits p)) (is (has_number p.number in_use)) (is (leb 32 s.head.count))
      where
        raw : preset_in_limits p ≡ true → PresetMeans p → PresetMeans (as_read p)
        raw e x =
            let l = limits_of p e in
            let sa : seen p.number ≡ p.number = seen_small p.number 255 (omega arith) l.number_high in
            let sp : seen p.priority ≡ p.priority = seen_small p.priority worst_priority (omega arith) l.priority in
            let sm : seen p.mandatory ≡ p.mandatory = seen_small p.mandatory 64 (omega arith) l.mandatory in
            let so : seen p.optional ≡ p.optional = seen_small p.optional 64 (omega arith) l.optional in
            rw (sa, sp, sm, so) x

        go : Is (preset_in_limits p) → Is (has_number p.number in_use) → Is (leb 32 s.head.count) → PresetMeans (as_read p)
        go (is_false e) u c = preset_no e
        go (is_true e) (is_true u) c = raw e (preset_taken e u)
        go (is_true e) (is_false u) (is_true c) = raw e (preset_over e u c)
        go (is_true e) (is_false u) (is_false c) = raw e (preset_fits e u c)

  -- other lines of the head without presets after the frame line: what is kept stays
  stage_kept : (stage : code.Stage) (motors : ℕ) (hold : Bool) → least_bridge (stage_in stage) ≤ 9 → begun (stage_in stage) ≡ true
      → Kept old (record { stage = stage; head = with_hold (with_supplied s.head motors) hold; presets = s.presets })
  stage_kept stage motors hold low g = record {
    slots = k.slots;
    bridges = k.bridges;
    least = low;
    count = k.count;
    records = k.records;
    fresh = λ f. absurd (clash (sym g ∙ f));
    past = k.past;
  }

  -- a tie line: directly after the frame line or its supply line it is one of the head, anywhere else it ends it
  tie_line_lem : begun (stage_in s.stage) ≡ true → (stage : code.Stage) → s.stage ≡ stage → (hold : Bool)
      → LineMeans old (so_far_in s) n (some (tie_line hold)) ls (tie_step_at stage s hold)
  unfolding read_from tried first_of
  tie_line_lem g Frame e hold = absurd (clash (sym (rw e at g)))
  tie_line_lem g Supply e true = record { reads = rw e refl; kept = stage_kept (Busy 0) s.head.supply true (omega arith) refl }
  tie_line_lem g Supply e false = record { reads = rw e refl; kept = k }
  tie_line_lem g Tie e true = record { reads = rw e refl; kept = stage_kept (Busy 0) s.head.supply true (omega arith) refl }
  tie_line_lem g Tie e false = record { reads = rw e refl; kept = k }
  tie_line_lem g (Busy b) e hold = record { reads = rw e refl; kept = k }
  tie_line_lem g Presets e hold = record { reads = rw e refl; kept = k }

  module _ (m : ℕ) where
    -- out of its place: anywhere but directly after the frame line
    abbrev after : Bool
    after = supply_misplaced (stage_in s.stage)

    abbrev SupplyMeans : ℕ → Type 0
    SupplyMeans m' = LineMeans old (so_far_in s) n (some (supply_line m)) ls (supply_step s m')

    -- whatever its number
    supply_late : (m' : ℕ) → after ≡ true → SupplyMeans m'
    unfolding read_from tried first_of
    supply_late m' e = rw e (record { reads = rw e refl; kept = k })

    -- in its place, and outside its limits
    supply_no : after ≡ false → within 1 8 m ≡ false → SupplyMeans (seen m)
    unfolding read_from tried first_of
    supply_no e w = rw (e, seen_within 1 8 m (omega arith) (omega arith), w) (record { reads = rw (e, w) refl; kept = k })

    -- within them: the number was read as it is
    supply_yes : after ≡ false → within 1 8 m ≡ true → SupplyMeans m
    unfolding read_from tried first_of
    supply_yes e w = rw (e, w) (record { reads = rw (e, w) refl; kept = stage_kept Tie m s.head.hold (omega arith) refl })

    supply_line_lem : SupplyMeans (seen m)
    supply_line_lem = go (is after) (is (within 1 8 m))
      where
        go : Is after → Is (within 1 8 m) → SupplyMeans (seen m)
        go (is_true e) w = supply_late (seen m) e
        go (is_false e) (is_false w) = supply_no e w
        go (is_false e) (is_true w) =
            let sm : seen m ≡ m = seen_small m 8 (omega arith) (within_high 1 8 m w) in
            rw sm (supply_yes e w)

  -- a line after line 1; an event's form ends the head
  pub next_line : begun (stage_in s.stage) ≡ true → (f : Form) → LineMeans old (so_far_in s) n (some f) ls (next_step s (said s.head.slots f))
  unfolding read_from tried first_of
  next_line g (frame_line a b) = record { reads = rw g refl; kept = k }
  next_line g (busy_line b p) = busy_line_lem b p
  next_line g (preset_line p) = preset_line_lem g p
  next_line g (clock_line t) = record { reads = rw g refl; kept = k }
  next_line g (call_line p) = record { reads = rw g refl; kept = k }
  next_line g (tie_line hold) = tie_line_lem g s.stage refl hold
  next_line g (supply_line m) = supply_line_lem m

  -- ---- a line wherever it stands

  pub step_line : (f : Option Form) → LineMeans old (so_far_in s) n f ls (step_of s (line_in (min s.head.slots 64) f))
  unfolding read_from
  step_line none = record { reads = refl; kept = k }
  step_line (some f) =
      let h = k.slots in
      let e : min s.head.slots 64 ≡ s.head.slots = omega arith in
      rw e (go (is (begun (stage_in s.stage))))
    where
      go : Is (begun (stage_in s.stage)) → LineMeans old (so_far_in s) n (some f) ls (step_of s (line_in s.head.slots (some f)))
      go (is_true b) = subst (λ (x : Bool). LineMeans old (so_far_in s) n (some f) ls (step_where x s (said s.head.slots f))) (sym b) (next_line b f)
      go (is_false b) = subst (λ (x : Bool). LineMeans old (so_far_in s) n (some f) ls (step_where x s (said s.head.slots f))) (sym b) (first_line b s.head.slots f)
