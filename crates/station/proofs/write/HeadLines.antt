-- Laws of a head's text, line by line, as the writer's loops meet it.
--
-- In order: the busy lines from one bridge on (`busy_lines_step`); the preset lines from one record on (`preset_lines_step`); the supply line (`supply_text`); the
-- whole text (`head_text`); a cause for which nothing is written (`text_refused`), and a text that was written (`text_written`); where no cause holds (`cause_none`,
-- `none_valid`); the answer and output by the cause (`too_short_lem`, `out_of_limits_lem`, `head_refused`,
-- `head_written`).
-- Assumes nothing.
use Prim.Native.Nat.{ℕ, zero, suc, ◌≤◌, ◌<◌}
use native.Mathlib.Omega.{arith}
use mathlib.Core.Path.{◌≡◌, refl, sym, ◌∙◌, ap}
use mathlib.Core.Bool.{false, not, true}
use mathlib.Core.Option.{Option, none, some}
use mathlib.Core.List.{List, [], ◌∷◌, ◌++◌, map, map-append, append-nil}
use lib.Dec.{ltb}
use lib.ListN.{length, drop, get_or}
use lib.Seq.{drop-cons}
use Rattle.std.specs.Prelude.{Ok, Err}
use Rattle.laws.proofs.Comparisons.{ltb_yes, ltb_no, lt_of, ge_of}
use Rattle.laws.proofs.Tests.{Is, is, is_true, is_false, true_of_not}
use Rattle.station.specs.declared.types.Preset.{Preset}
use Rattle.station.specs.declared.types.Head.{Head as Record}
use Rattle.station.specs.declared.types.Refusal as code
use Rattle.station.specs.declared.types.Refusal.TheVariants.{NoForm, OutOfLimits, OutOfPlace, NumberUsed, MandatoryNotFeasible, ClockBack, CallNotFeasible, TooShort, TooMany, TextTooLong, NotWellFormed, NoRow}
use Rattle.station.specs.Head.{Head}
use Rattle.station.specs.Refusal.{Refusal, out_of_limits, too_short, try, first_of}
use Rattle.station.specs.Text.{bytes, ◌then◌, join}
use Rattle.station.specs.Decimal.{digits}
use Rattle.station.specs.Form.{Form, frame_line, preset_line, supply_line, print}
use Rattle.station.specs.Writing.{stretches, busy_line_of, busy_lines, supply_lines, tie_lines, forms_of, text_of}
use Rattle.station.specs.Types.{refusal_in, refusal_of, preset_in, no_record, head_in, valid_record}
use Rattle.station.specs.Wrote.{Wrote}
use Rattle.station.specs.WriteHead.{written, answer_in, cause_in, write_causes, answer_of, output_of, write_answer, write_output, WroteHead}
use Rattle.station.proofs.Refusal.{first_none}
use Rattle.station.proofs.output.Runs.{join_append, wrote_fits}
use Rattle.station.proofs.TextSize.{text_fits}
use Rattle.station.proofs.check.ValidRecord.{valid_head}

-- the texts of one list of lines and then another
text_append : (a b : List Form) → join (map print (a ++ b)) ≡ join (map print a) ++ join (map print b)
text_append a b = ap join (map-append print a b) ∙ join_append (map print a) (map print b)

-- the busy lines of the bridges from b on, counted from 0: that of b, and the others
pub busy_lines_step : (b : ℕ) (busy : List ℕ) → b < length busy
    → join (map print (busy_lines (suc b) (drop b busy)))
    ≡ join (map print (busy_line_of (suc b) (stretches 64 1 (get_or busy b 0)))) ++ join (map print (busy_lines (suc (suc b)) (drop (suc b) busy)))
unfolding busy_lines
busy_lines_step b busy h =
    rw (drop-cons busy b 0 h) (text_append (busy_line_of (suc b) (stretches 64 1 (get_or busy b 0))) (busy_lines (suc (suc b)) (drop (suc b) busy)))

-- the lines of the presets from record i on: that of i, and the others
pub preset_lines_step : (i : ℕ) (ps : List Preset) → i < length ps
    → join (map print (map preset_line (map preset_in (drop i ps))))
    ≡ print (preset_line (preset_in (get_or ps i no_record))) ++ join (map print (map preset_line (map preset_in (drop (suc i) ps))))
preset_lines_step i ps h = rw (drop-cons ps i no_record h) refl

-- the text of a supply line, where there is one
pub supply_text : (k : ℕ) → (k ≡ 0 → ⊥) → join (map print (supply_lines k)) ≡ bytes "(supply " then digits k then bytes ")\n"
unfolding print
supply_text zero h = absurd (h refl)
supply_text (suc k) h = append-nil (print (supply_line (suc k)))

-- the text of a head: the frame line, the supply line, the tie line, the busy lines, the preset lines
pub head_text : (h : Head) → text_of h ≡ print (frame_line h.slots h.bridges) ++ (join (map print (supply_lines h.supply))
    ++ (join (map print (tie_lines h.hold)) ++ (join (map print (busy_lines 1 h.busy)) ++ join (map print (map preset_line h.presets)))))
unfolding text_of forms_of
head_text h =
    ap (λ (l : List ℕ). print (frame_line h.slots h.bridges) ++ l)
    (text_append (supply_lines h.supply) (tie_lines h.hold ++ (busy_lines 1 h.busy ++ map preset_line h.presets))
    ∙ ap (λ (l : List ℕ). join (map print (supply_lines h.supply)) ++ l)
    (text_append (tie_lines h.hold) (busy_lines 1 h.busy ++ map preset_line h.presets)
    ∙ ap (λ (l : List ℕ). join (map print (tie_lines h.hold)) ++ l) (text_append (busy_lines 1 h.busy) (map preset_line h.presets))))

-- ---- the entry's answer and output, by the cause that holds

-- a cause of the code is known by what it stands for
known : (r : code.Refusal) → refusal_of (refusal_in r) ≡ r
known NoForm = refl
known OutOfLimits = refl
known OutOfPlace = refl
known NumberUsed = refl
known MandatoryNotFeasible = refl
known ClockBack = refl
known CallNotFeasible = refl
known TooShort = refl
known TooMany = refl
known TextTooLong = refl
known NotWellFormed = refl
known NoRow = refl

cause_is : (r s : code.Refusal) → some (refusal_in r) ≡ some (refusal_in s) → r ≡ s
cause_is r s e = let z : refusal_in r ≡ refusal_in s = cc in sym (known r) ∙ ap refusal_of z ∙ known s

-- nothing is written for a cause
pub text_refused : (c : Option Refusal) (r : code.Refusal) (t out : List ℕ) → some (refusal_in r) ≡ c
    → (answer_in (Err r) ≡ answer_of c (length t)) × (out ≡ output_of c t out)
text_refused c r t out e = rw (← e) (refl, refl)

-- no cause holds, and a text that finds room was written
pub text_written : (c : Option Refusal) (t out after : List ℕ) (n : ℕ) → none ≡ c → length t ≤ length out → Wrote out 0 t after n
    → (written n ≡ answer_of c (length t)) × (after ≡ output_of c t out)
text_written c t out after n e fits w = let both = wrote_fits w fits in rw (← e) (ap written both.1, both.0)

module _ (h : Record) (ps : List Preset) (out : List ℕ) where
  pub cause_none : 8192 ≤ length out → valid_record h ps ≡ true → first_of (write_causes h ps out) ≡ none
  unfolding first_of
  cause_none l v = rw (ltb_no (length out) 8192 l, v) refl

  -- where no cause holds the output is long enough, and the record is one that some text yields
  pub none_valid : none ≡ first_of (write_causes h ps out) → (8192 ≤ length out) × (valid_record h ps ≡ true)
  none_valid e =
      let long = first_none too_short (ltb (length out) 8192) (try out_of_limits (not (valid_record h ps)) ∷ []) (sym e) in
      (ge_of (length out) 8192 long.0, true_of_not (valid_record h ps) (first_none out_of_limits (not (valid_record h ps)) [] long.1).0)

  by_cause : (r : code.Refusal) → some (refusal_in r) ≡ first_of (write_causes h ps out) → WroteHead h ps out (Err r) out
  unfolding write_answer write_output
  by_cause r e = let both = text_refused (first_of (write_causes h ps out)) r (text_of (head_in h ps)) out e in record { answer = both.0; output = both.1 }

  -- the two causes, one by one
  pub too_short_lem : length out < 8192 → WroteHead h ps out (Err TooShort) out
  unfolding first_of
  too_short_lem l = by_cause TooShort (rw (ltb_yes (length out) 8192 l) refl)

  pub out_of_limits_lem : 8192 ≤ length out → valid_record h ps ≡ false → WroteHead h ps out (Err OutOfLimits) out
  unfolding first_of
  out_of_limits_lem l v = by_cause OutOfLimits (rw (ltb_no (length out) 8192 l, v) refl)

  -- there is no third
  pub head_refused : (r : code.Refusal) → cause_in (Err r) ≡ first_of (write_causes h ps out) → WroteHead h ps out (Err r) out
  unfolding first_of
  head_refused r e = go (is (ltb (length out) 8192)) (is (valid_record h ps))
    where
      go : Is (ltb (length out) 8192) → Is (valid_record h ps) → WroteHead h ps out (Err r) out
      go (is_true s) v = rw (cause_is r TooShort (rw s at e)) (too_short_lem (lt_of (length out) 8192 s))
      go (is_false s) (is_false v) = rw (cause_is r OutOfLimits (rw (s, v) at e)) (out_of_limits_lem (ge_of (length out) 8192 s) v)
      go (is_false s) (is_true v) = absurd (let z : some (refusal_in r) ≡ none = rw (s, v) at e in cc)

  pub head_written : (n : ℕ) (after : List ℕ) → none ≡ first_of (write_causes h ps out) → Wrote out 0 (text_of (head_in h ps)) after n → WroteHead h ps out (Ok n) after
  unfolding write_answer write_output
  head_written n after e w =
      let room = none_valid e in
      let fits : length (text_of (head_in h ps)) ≤ length out = omega (arith, room.0, text_fits (head_in h ps) (valid_head h ps room.1)) in
      let both = text_written (first_of (write_causes h ps out)) (text_of (head_in h ps)) out after n e fits w in
      record { answer = both.0; output = both.1 }
