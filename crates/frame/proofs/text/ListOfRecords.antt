-- A whole text where the preset records stand in a list, law by law.
--
-- In order: a text that is too long, fewer than 32 records, and enough of them (`listed_long`,
-- `listed_few`, `listed_other`), and the claim (`list_claim`); what a refusal leaves
-- (`refused_same`); the first 32 records as a text leaves them, before the others (`left_list`);
-- the entry `run_text` (`entry_long`, `entry_few`, `entry_enough`).
-- Assumes nothing.
use Prim.Native.Nat.{ℕ, ◌≤◌, ◌<◌}
use native.Mathlib.Omega.{arith}
use mathlib.Core.Path.{◌≡◌, refl, sym, ◌∙◌, ap, subst}
use mathlib.Core.Bool.{Bool}
use mathlib.Core.List.{List, ◌++◌, map, append_assoc}
use lib.ListN.{length, take, drop, take-append-drop}
use lib.Seq.{length-take-le, drop-append-le}
use lib.Dec.{ltb}
use Rattle.std.specs.Prelude.{Err}
use Rattle.laws.proofs.Tests.{Is, is, is_true, is_false}
use Rattle.laws.proofs.Comparisons.{lt_of, ge_of, ltb_yes, ltb_no}
use Rattle.station.specs.Head.{Head}
use Rattle.station.specs.Refusal.{Refusal, too_short, text_too_long, first_of}
use Rattle.station.proofs.Theorems.{means_head_of, read_valid}
use Rattle.station.specs.declared.types.Preset as record-of-preset
use Rattle.station.specs.declared.types.Head as record-of-head
use Rattle.station.specs.declared.types.Refusal.TheVariants.{TooShort, TextTooLong}
use Rattle.station.specs.declared.types.Fault.{Fault}
use Rattle.station.specs.ReadHead.{record_of, records_over, fault}
use Rattle.frame.specs.Text.{Whole, not_read, not_planned, ran, whole_of}
use Rattle.frame.specs.Demands.{Ends, too_long, too_short_lem, head_refused, is_not_planned, is_planned}
use Rattle.frame.proofs.Demands.{demand_1}
use Rattle.frame.specs.TextDone.{whole_with_output, TextRun, refused_at, end_of, presets_after, table_after, clock_after, hold_after, output_after, Leaves, TextDone}
use Rattle.frame.proofs.text.WholeText.{beside_long, beside_short, beside_whole, text_claim, leaves_at_start}
use Rattle.frame.specs.TextEntry.{whole_on_slice, TextOnSlice, TextAnswer, answer_of, text_left, SliceClaim, TextEntry}

-- ---- by the causes 10 and 8 of the list

module _ (n : ℕ) (text t out : List ℕ) where
  pub listed_long : 32768 < length text → whole_on_slice n text t out ≡ not_read 0 text_too_long
  unfolding whole_on_slice first_of
  listed_long l = rw (ltb_yes 32768 (length text) l, whole_on_slice) refl

  listed_few : length text ≤ 32768 → n < 32 → whole_on_slice n text t out ≡ not_read 0 too_short
  unfolding whole_on_slice first_of
  listed_few l k = rw (ltb_no 32768 (length text) l, ltb_yes n 32 k, whole_on_slice) refl

  listed_enough : length text ≤ 32768 → 32 ≤ n → whole_on_slice n text t out ≡ whole_with_output text t out
  unfolding whole_on_slice first_of
  listed_enough l k = rw (ltb_no 32768 (length text) l, ltb_no n 32 k, whole_on_slice) refl

  -- a list that is long enough does not matter
  listed_other : 32 ≤ n → whole_on_slice n text t out ≡ whole_with_output text t out
  listed_other k = go (is (ltb 32768 (length text)))
    where
      go : Is (ltb 32768 (length text)) → whole_on_slice n text t out ≡ whole_with_output text t out
      go (is_true l) = let m = lt_of 32768 (length text) l in listed_long m ∙ sym (beside_long text t out m)
      go (is_false l) = listed_enough (ge_of 32768 (length text) l) k

  list_claim : SliceClaim n text t out
  list_claim = record { short_list = listed_few; other_list = listed_other; claim = text_claim text t out }

-- ---- the first 32 records

-- a head that is read has at most 32 presets, and the list as many records
abbrev Fits : ℕ → Whole → Type 0
Fits n (not_read k c) = Unit {0}
Fits n (not_planned h k c) = (length h.presets ≤ 32) × (32 ≤ n)
Fits n (ran h k g r) = (length h.presets ≤ 32) × (32 ≤ n)

ends_fits : (records : ℕ) (text t : List ℕ) (w : Whole) → Ends text t w → 32 ≤ records → Fits records w
ends_fits records text t _ (too_long p) k = tt
ends_fits records text t _ (too_short_lem p s) k = tt
ends_fits records text t _ (head_refused p s m) k = tt
ends_fits records text t _ (is_not_planned {h} {n} s m f) k = ((read_valid text h n (means_head_of m)).number_of_presets, k)
ends_fits records text t _ (is_planned {h} {n} s m a v) k = ((read_valid text h n (means_head_of m)).number_of_presets, k)

listed_fits : (n : ℕ) (text t out : List ℕ) → Fits n (whole_on_slice n text t out)
listed_fits n text t out = go (is (ltb 32768 (length text))) (is (ltb n 32)) (is (ltb (length out) 8192))
  where
    go : Is (ltb 32768 (length text)) → Is (ltb n 32) → Is (ltb (length out) 8192) → Fits n (whole_on_slice n text t out)
    go (is_true l) a b = subst (Fits n) (sym (listed_long n text t out (lt_of 32768 (length text) l))) tt
    go (is_false l) (is_true a) b = subst (Fits n) (sym (listed_few n text t out (ge_of 32768 (length text) l) (lt_of n 32 a))) tt
    go (is_false l) (is_false a) (is_true b) =
        let short = ge_of 32768 (length text) l in
        subst (Fits n) (sym (listed_enough n text t out short (ge_of n 32 a) ∙ beside_short text t out short (lt_of (length out) 8192 b))) tt
    go (is_false l) (is_false a) (is_false b) =
        let short = ge_of 32768 (length text) l in
        subst (Fits n) (sym (listed_enough n text t out short (ge_of n 32 a) ∙ beside_whole text t out short (ge_of (length out) 8192 b)))
        (ends_fits n text t (whole_of text t) (demand_1 text t).ends (ge_of n 32 a))

-- a refusal leaves table, clock, order of ties and output
refused_same : (w : Whole) (t out : List ℕ) (clock : ℕ) (hold : Bool) (n : ℕ) (c : Refusal) → end_of w out ≡ refused_at n c
    → (table_after w t ≡ t) × (clock_after w clock ≡ clock) × (hold_after w hold ≡ hold) × (output_after w out ≡ out)
unfolding end_of table_after clock_after hold_after output_after
refused_same (not_read k r) t out clock hold n c q = (refl, refl, refl, refl)
refused_same (not_planned h k r) t out clock hold n c q = (refl, refl, refl, refl)
refused_same (ran h k g r) t out clock hold n c q = absurd (let z : ◌≡◌ {A = ℕ} 0 1 = cc in omega arith)

module _ (ps : List record-of-preset.Preset) where
  -- the presets of a head over the first records, before the others, are those over the list
  over_list : (h : Head) → (length h.presets ≤ 32) × (32 ≤ length ps) → records_over h.presets (take 32 ps) ++ drop 32 ps ≡ records_over h.presets ps
  over_list h fits =
      append_assoc (map record_of h.presets) (drop (length h.presets) (take 32 ps)) (drop 32 ps)
      ∙ ap (λ (l : List record-of-preset.Preset). map record_of h.presets ++ l)
      (sym (drop-append-le (length h.presets) (take 32 ps) (drop 32 ps) (omega (arith, fits.0, length-take-le 32 ps fits.1)))
      ∙ ap (drop (length h.presets)) (take-append-drop 32 ps))

  left_list : (w : Whole) → Fits (length ps) w → presets_after w (take 32 ps) ++ drop 32 ps ≡ presets_after w ps
  unfolding presets_after
  left_list (not_read k c) fits = take-append-drop 32 ps
  left_list (not_planned h k c) fits = over_list h fits
  left_list (ran h k g r) fits = over_list h fits

  module _ (text t out : List ℕ) (head : record-of-head.Head) (clock : ℕ) (hold : Bool) where
    -- the entry, from what is left of the list
    text_entry : {t₁ out₁ : List ℕ} {zs : List record-of-preset.Preset} {y : TextAnswer} → TextOnSlice (length ps) text head ps t clock hold out t₁ out₁ (text_left y zs)
        → TextEntry text head ps t clock hold out zs t₁ out₁ y
    text_entry done = record {
      done = done;
      unchanged = λ n c q.
          let same = refused_same (whole_on_slice (length ps) text t out) t out clock hold n c (sym done.ended ∙ q) in
          (done.table ∙ same.0, done.clock ∙ same.1, done.hold ∙ same.2, done.output ∙ same.3);
      claim = list_claim (length ps) text t out;
    }

    -- refused before any line is read
    pub entry_long : {f : Fault} → 32768 < length text → f ≡ fault 0 TextTooLong → TextEntry text head ps t clock hold out ps t out (record { ended = Err f; head = head; clock = clock; hold = hold })
    entry_long l e = text_entry (leaves_at_start head ps t clock hold out TextTooLong (listed_long (length ps) text t out l) e)

    pub entry_few : length text ≤ 32768 → length ps < 32 → TextEntry text head ps t clock hold out ps t out (record { ended = Err (fault 0 TooShort); head = head; clock = clock; hold = hold })
    entry_few l k = text_entry (leaves_at_start head ps t clock hold out TooShort (listed_few (length ps) text t out l k) refl)

    -- what a text leaves of the first 32 records, before the others, is what it leaves of the list
    pub entry_enough : {first : List record-of-preset.Preset} {t₁ out₁ : List ℕ} {r : TextRun} → 32 ≤ length ps → first ≡ take 32 ps
        → TextDone text head first t clock hold out t₁ out₁ r → TextEntry text head ps t clock hold out (r.presets ++ drop 32 ps) t₁ out₁ (answer_of r)
    entry_enough {first} {t₁} {out₁} {r} long same d =
        let w = whole_on_slice (length ps) text t out in
        let x : Leaves w head (take 32 ps) t clock hold out t₁ out₁ r =
        subst (λ (v : Whole). Leaves v head (take 32 ps) t clock hold out t₁ out₁ r) (sym (listed_other (length ps) text t out long))
        (subst (λ (qs : List record-of-preset.Preset). TextDone text head qs t clock hold out t₁ out₁ r) same d) in
        text_entry (record {
          ended = x.ended;
          head = x.head;
          presets = ap (λ (l : List record-of-preset.Preset). l ++ drop 32 ps) x.presets ∙ left_list w (listed_fits (length ps) text t out);
          table = x.table;
          clock = x.clock;
          hold = x.hold;
          output = x.output;
        })
