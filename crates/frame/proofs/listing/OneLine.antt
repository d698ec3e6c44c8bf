-- Laws of the entries that write one line of the listing.
--
-- In order: an output that is too short for a line, and one that is not (`line_short`,
-- `line_whole`); the line of a slot, by the cause that holds (`slot_few`, `slot_stopped`,
-- `slot_none`, `slot_written_lem`), and with the first 32 records of a list by value (`slot_list`).
-- Assumes nothing.
use Prim.Native.Nat.{ℕ, ◌-◌, ◌≤◌, ◌<◌}
use native.Mathlib.Omega.{arith}
use mathlib.Core.Path.{◌≡◌, refl, sym, ◌∙◌, ap, subst}
use mathlib.Core.Bool.{Bool, true, false, not, ◌&&◌}
use mathlib.Core.Option.{Option, none, some}
use mathlib.Core.Logic.{◌⊎◌, inl, inr}
use mathlib.Core.List.{List, [], ◌∷◌, ◌++◌}
use lib.ListN.{length, take}
use lib.Dec.{ltb, leb}
use Rattle.std.specs.Prelude.{Result, Ok, Err}
use Rattle.laws.proofs.Comparisons.{le_of, ltb_yes, ltb_no, leb_yes, leb_no}
use Rattle.station.specs.Head.{Head, within, valid}
use Rattle.station.specs.Refusal.{Refusal, out_of_limits, too_short, not_well_formed, try, first_of}
use Rattle.station.specs.Types.{refusal_in, head_in}
use Rattle.station.specs.Wrote.{Wrote}
use Rattle.station.specs.WriteHead.{written}
use Rattle.station.specs.declared.types.Preset as record-of-preset
use Rattle.station.specs.declared.types.Head as record-of-head
use Rattle.station.specs.declared.types.Refusal as cause
use Rattle.station.specs.declared.types.Refusal.TheVariants.{TooShort, OutOfLimits}
use Rattle.station.proofs.Theorems.{first_of_none, head_list, passed, append_none, append_some, wrote_fits}
use Rattle.placing.specs.State.{well_formed_frame}
use Rattle.placing.specs.Causes.{frame_causes_of}
use Rattle.placing.proofs.Theorems.{frame_known, met, record_valid}
use Rattle.frame.specs.Text.{start_of}
use Rattle.frame.specs.Listing.{slot_line}
use Rattle.frame.specs.WroteLine.{WriteOutcome, line_written, output_short, slot_causes, slot_written, WroteLine}
use Rattle.frame.specs.method.SlotLines.{line_of_slot}
use Rattle.frame.proofs.listing.bytes.LineSizes.{slot_fits}
use Rattle.frame.proofs.listing.bytes.SlotLines.{slot_line_head}

-- ---- a line that is refused or written

module _ (causes : List (Option Refusal)) (line out : List ℕ) where
  line_refused : (r : cause.Refusal) → first_of causes ≡ some (refusal_in r) → WroteLine (line_written causes line out) (Err r) out
  unfolding line_written
  line_refused r e = record { answer = rw e refl; output = rw e refl }

  line_written_lem : {after : List ℕ} {n : ℕ} → first_of causes ≡ none → length line ≤ 8192 → 8192 ≤ length out → Wrote out 0 line after n
      → WroteLine (line_written causes line out) (Ok n) after
  unfolding line_written
  line_written_lem e h l w = let both = wrote_fits w (omega arith) in record { answer = rw e (ap written both.1); output = rw e both.0 }

-- 8: the output is too short, whatever else is tried
pub line_short : (cs : List (Option Refusal)) (line out : List ℕ) → length out < 8192 → WroteLine (line_written (output_short out ∷ cs) line out) (Err TooShort) out
line_short cs line out h = line_refused (output_short out ∷ cs) line out TooShort (met too_short (ltb (length out) 8192) cs (ltb_yes (length out) 8192 h))

-- it is not, and nothing else is tried
pub line_whole : (line out : List ℕ) {after : List ℕ} {n : ℕ} → 8192 ≤ length out → length line ≤ 8192 → Wrote out 0 line after n
    → WroteLine (line_written (output_short out ∷ []) line out) (Ok n) after
line_whole line out l h w = line_written_lem (output_short out ∷ []) line out (passed too_short (ltb (length out) 8192) [] (ltb_no (length out) 8192 l) ∙ first_of_none) h l w

-- ---- the line of a slot, by the cause that holds

-- 8: fewer than 32 records
pub slot_few : (n : ℕ) (head : record-of-head.Head) (ps : List record-of-preset.Preset) (t : List ℕ) (s : ℕ) (out : List ℕ) → 8192 ≤ length out → n < 32
    → WroteLine (slot_written n head ps t s out) (Err TooShort) out
slot_few n head ps t s out long few =
    line_refused (slot_causes n head ps t s out) (slot_line (head_in head ps) t (s - 1)) out TooShort
    (passed too_short (ltb (length out) 8192) _ (ltb_no (length out) 8192 long) ∙ met too_short (ltb n 32) _ (ltb_yes n 32 few))

module _ (n : ℕ) (head : record-of-head.Head) (ps : List record-of-preset.Preset) (t : List ℕ) (s : ℕ) (out : List ℕ) (long : 8192 ≤ length out) (enough : 32 ≤ n) where
  abbrev h : Head
  h = head_in head ps

  abbrev slot_outside : Bool
  slot_outside = not (within 1 head.slots s)

  refused_with : (r : cause.Refusal) → first_of (frame_causes_of head ps (start_of h t) ++ (try out_of_limits slot_outside ∷ [])) ≡ some (refusal_in r)
      → WroteLine (slot_written n head ps t s out) (Err r) out
  refused_with r e =
      line_refused (slot_causes n head ps t s out) (slot_line h t (s - 1)) out r (passed too_short (ltb (length out) 8192) _ (ltb_no (length out) 8192 long) ∙ passed too_short (ltb n 32) _ (ltb_no n 32 enough) ∙ e)

  -- a cause of the table or of the head record
  pub slot_stopped : (r : cause.Refusal) → some (refusal_in r) ≡ first_of (frame_causes_of head ps (start_of h t)) → WroteLine (slot_written n head ps t s out) (Err r) out
  slot_stopped r e = refused_with r (append_some (frame_causes_of head ps (start_of h t)) _ (refusal_in r) (sym e))

  module _ (free : none ≡ first_of (frame_causes_of head ps (start_of h t))) where
    outside : slot_outside ≡ true → WroteLine (slot_written n head ps t s out) (Err OutOfLimits) out
    outside e = refused_with OutOfLimits (append_none (frame_causes_of head ps (start_of h t)) _ (sym free) ∙ met out_of_limits slot_outside [] e)

    -- no slot has the number
    pub slot_none : (s < 1) ⊎ ((1 ≤ s) × (head.slots < s)) → WroteLine (slot_written n head ps t s out) (Err OutOfLimits) out
    slot_none (inl l) = outside (rw (leb_no 1 s l) refl)
    slot_none (inr l) = outside (rw (leb_yes 1 s l.0, leb_no s head.slots l.1) refl)

    -- no cause holds, and the line was written
    pub slot_written_lem : {after : List ℕ} {end : ℕ} → 1 ≤ s → s ≤ head.slots → Wrote out 0 (line_of_slot head.bridges t (s - 1)) after end
        → WroteLine (slot_written n head ps t s out) (Ok end) after
    slot_written_lem m l w =
        let v = record_valid head ps (frame_known head ps (start_of h t) (sym free)).1 in
        let low : s - 1 < 64 = omega (arith, v.slots_high) in
        line_written_lem (slot_causes n head ps t s out) (slot_line h t (s - 1)) out
        (passed too_short (ltb (length out) 8192) _ (ltb_no (length out) 8192 long)
        ∙ passed too_short (ltb n 32) _ (ltb_no n 32 enough)
        ∙ append_none (frame_causes_of head ps (start_of h t)) _ (sym free)
        ∙ passed out_of_limits slot_outside [] (rw (leb_yes 1 s m, leb_yes s head.slots l) refl)
        ∙ first_of_none)
        (slot_fits h t (s - 1) low v.bridges_high) long (rw (slot_line_head h t (s - 1) low v.bridges_high) at w)

-- ---- the first 32 records by value

-- the line of a slot by the causes before 2, a count within 32 or not, and the head that the
-- records stand for
module _ (slots : ℕ) (t : List ℕ) (s : ℕ) (out : List ℕ) where
  abbrev written_by : Bool → Bool → Bool → Bool → Head → WriteOutcome
  written_by few short room cells h =
      line_written
      (try too_short room ∷ try too_short short ∷ try too_short cells ∷ try out_of_limits (not (few && valid h)) ∷ try not_well_formed (not (well_formed_frame h (start_of h t))) ∷ try out_of_limits (not (within 1 slots s)) ∷ [])
      (slot_line h t (s - 1)) out

  same_line : (few short room cells : Bool) (h k : Head) → (short ≡ false → few ≡ true → h ≡ k) → written_by few short room cells h ≡ written_by few short room cells k
  unfolding line_written first_of
  same_line few true true cells h k e = refl
  same_line few true false cells h k e = refl
  same_line true false room cells h k e = ap (written_by true false room cells) (e refl refl)
  same_line false false true cells h k e = refl
  same_line false false false true h k e = refl
  same_line false false false false h k e = refl

-- the line of a slot with the first 32 records by value is that with the list
pub slot_list : (head : record-of-head.Head) (ps : List record-of-preset.Preset) (t : List ℕ) (s : ℕ) (out : List ℕ) {r : Result ℕ cause.Refusal} {after : List ℕ}
    → WroteLine (slot_written (length ps) head (take 32 ps) t s out) r after → WroteLine (slot_written (length ps) head ps t s out) r after
slot_list head ps t s out {r} {after} d =
    subst (λ (o : WriteOutcome). WroteLine o r after)
    (same_line head.slots t s out (leb head.count 32) (ltb (length ps) 32) (ltb (length out) 8192) (ltb (length t) 512) (head_in head (take 32 ps)) (head_in head ps)
    (λ short few. head_list head ps (le_of head.count 32 few)))
    d
