-- Laws of the entries read_head, write_head and write_rows.
--
-- In order: of writing, the cause (`entry_few`, `entry_enough`), fewer than 32 records (`write_few`), enough of them (`enough_written`), of rows the same
-- (`write_rows_few`), the head of the list (`head_list`), and what was written of the first 32 records is what the list has (`write_list`, `write_rows_list`); of reading, a text that is too long (`read_long`), fewer than 32 records (`read_few`), enough of them (`reading_enough`),
-- a head that was accepted (`entry_accepted`), and what is left of the first 32, before the others, is what the list is to be (`read_list`).
-- Assumes nothing.
use Prim.Native.Nat.{ℕ, ◌≤◌, ◌<◌}
use native.Mathlib.Omega.{arith}
use mathlib.Core.Path.{◌≡◌, refl, sym, ◌∙◌, ap, subst}
use mathlib.Core.Bool.{Bool, true, false}
use mathlib.Core.Option.{Option, some}
use mathlib.Core.List.{List, [], ◌∷◌, ◌++◌, map, append_assoc}
use lib.ListN.{length, take, drop, take-append-drop}
use lib.Dec.{ltb, leb}
use lib.Seq.{take-take, length-take-le, drop-append-le}
use Rattle.laws.proofs.Tests.{Is, is, is_true, is_false}
use Rattle.laws.proofs.Comparisons.{le_of, ge_of, ltb_yes, ltb_no}
use Rattle.station.specs.declared.types.Preset.{Preset}
use Rattle.station.specs.declared.types.Head.{Head}
use Rattle.station.specs.declared.types.Refusal.TheVariants.{TooShort, TextTooLong}
use Rattle.std.specs.Prelude.{Result, Err}
use Rattle.station.specs.declared.types.Refusal as code
use Rattle.station.specs.Head as meant
use Rattle.station.specs.Refusal.{Refusal, too_short, out_of_limits, try, first_of}
use Rattle.station.specs.Writing.{text_of}
use Rattle.station.specs.Reading.{Reading, accepted, refused, head_of}
use Rattle.station.specs.Types.{head_in}
use Rattle.station.proofs.Writing.{read_valid}
use Rattle.station.specs.declared.types.Extent.{Extent}
use Rattle.station.specs.declared.types.Fault.{Fault}
use Rattle.station.specs.ReadHead.{record_of, HeadRead, left_by, head_read}
use Rattle.station.specs.method.HeadStep.{refused_read}
use Rattle.station.specs.WriteHead.{WroteHead, write_causes, write_answer, write_output, answer_of, output_of}
use Rattle.station.specs.Row.{rows_text}
use Rattle.station.specs.RowEntries.{WroteRows}
use Rattle.station.specs.Records.{loaded}
use Rattle.station.proofs.CopiedRecords.{loaded_whole}
use Rattle.station.specs.Entries.{entry_causes, WroteEntry, entry_reading, entry_read}

-- ---- writing

module _ (records : ℕ) (h : Head) (ps : List Preset) (out : List ℕ) where
  -- the cause: 8 for fewer than 32 records, else that of the head by value
  pub entry_few : records < 32 → first_of (entry_causes records h ps out) ≡ some too_short
  unfolding first_of
  entry_few l = rw (ltb_yes records 32 l) refl

  pub entry_enough : 32 ≤ records → first_of (entry_causes records h ps out) ≡ first_of (write_causes h ps out)
  unfolding first_of
  entry_enough l = rw (ltb_no records 32 l) refl

  pub write_few : records < 32 → WroteEntry records h ps out (Err TooShort) out
  write_few l = let q = entry_few l in record { answer = rw q refl; output = rw q refl }

  pub enough_written : {r : Result ℕ code.Refusal} {after : List ℕ} → 32 ≤ records → WroteEntry records h ps out r after → WroteHead h ps out r after
  unfolding write_answer write_output
  enough_written l w = let q = entry_enough l in record { answer = w.answer ∙ (rw q refl); output = w.output ∙ (rw q refl) }

  pub write_rows_few : records < 32 → WroteRows records h ps out (Err TooShort) out
  write_rows_few l = let q = entry_few l in record { answer = rw q refl; output = rw q refl }

-- two causes, each with a text, come to the same answer and output
abbrev Same : Option Refusal → Option Refusal → List ℕ → List ℕ → List ℕ → Type 0
Same c d t u out = (answer_of c (length t) ≡ answer_of d (length u)) × (output_of c t out ≡ output_of d u out)

-- where the last cause holds there is a refusal, and no text is looked at
refused_any : (a : Bool) (t u out : List ℕ) → let c = first_of (try too_short a ∷ some out_of_limits ∷ []) in Same c c t u out
unfolding first_of
refused_any true t u out = (refl, refl)
refused_any false t u out = (refl, refl)

-- the head of a record with at most 32 presets is that of the list
pub head_list : (h : Head) (ps : List Preset) → h.count ≤ 32 → head_in h (take 32 ps) ≡ head_in h ps
head_list h ps few = rw (take-take h.count 32 ps few) refl

-- Fewer than 32 records are refused whatever they are, and so is a count above 32; else no record
-- past the first 32 is looked at, and the text t of those is the list's, u.
write_same : (h : Head) (ps : List Preset) (out t u : List ℕ) → (h.count ≤ 32 → 32 ≤ length ps → t ≡ u)
    → Same (first_of (entry_causes (length ps) h (loaded ps) out)) (first_of (entry_causes (length ps) h ps out)) t u out
unfolding first_of
write_same h ps out t u same = go (is (ltb (length ps) 32)) (is (leb h.count 32))
  where
    go : Is (ltb (length ps) 32) → Is (leb h.count 32) → Same (first_of (entry_causes (length ps) h (loaded ps) out)) (first_of (entry_causes (length ps) h ps out)) t u out
    go (is_true e) c = rw e (refl, refl)
    go (is_false e) (is_true c) =
        let few = le_of h.count 32 c in
        let long = ge_of (length ps) 32 e in
        rw (loaded_whole ps long, head_list h ps few, same few long) (refl, refl)
    go (is_false e) (is_false c) = rw (e, c) (refused_any (ltb (length out) 8192) t u out)

-- the same of the first 32 records of a list that has as many
write_first : (h : Head) (ps : List Preset) (out t u : List ℕ) → 32 ≤ length ps → (h.count ≤ 32 → t ≡ u)
    → Same (first_of (write_causes h (take 32 ps) out)) (first_of (entry_causes (length ps) h ps out)) t u out
write_first h ps out t u long same =
    subst (λ (c : Option Refusal). Same c (first_of (entry_causes (length ps) h ps out)) t u out)
    (entry_enough (length ps) h (loaded ps) out long ∙ ap (λ (qs : List Preset). first_of (write_causes h qs out)) (loaded_whole ps long))
    (write_same h ps out t u (λ few l. same few))

module _ (h : Head) (ps : List Preset) (out : List ℕ) {r : Result ℕ code.Refusal} {after : List ℕ} (long : 32 ≤ length ps) where
  pub write_list : WroteHead h (take 32 ps) out r after → WroteEntry (length ps) h ps out r after
  unfolding write_answer write_output
  write_list w =
      let same = write_first h ps out (text_of (head_in h (take 32 ps))) (text_of (head_in h ps)) long (λ few. ap text_of (head_list h ps few)) in
      record { answer = w.answer ∙ same.0; output = w.output ∙ same.1 }

  pub write_rows_list : WroteRows 32 h (take 32 ps) out r after → WroteRows (length ps) h ps out r after
  unfolding first_of
  write_rows_list w =
      let same = write_first h ps out (rows_text h.busy) (rows_text h.busy) long (λ few. refl) in
      record { answer = w.answer ∙ same.0; output = w.output ∙ same.1 }

-- ---- reading

-- enough records: the text decides, 10 being the first of its causes
pub reading_enough : (records : ℕ) (t : List ℕ) → 32 ≤ records → entry_reading records t ≡ head_of t
unfolding first_of head_of
reading_enough records t l = go (is (ltb 32768 (length t)))
  where
    go : Is (ltb 32768 (length t)) → entry_reading records t ≡ head_of t
    go (is_true e) = rw (ltb_no records 32 l, e) refl
    go (is_false e) = rw (ltb_no records 32 l, e) refl

module _ (records : ℕ) (t : List ℕ) (head : Head) (ps : List Preset) where
  pub read_long : 32768 < length t → refused_read 0 TextTooLong head ps ≡ entry_read records t head ps
  unfolding first_of
  read_long l = rw (ltb_yes 32768 (length t) l) refl

  pub read_few : length t ≤ 32768 → records < 32 → refused_read 0 TooShort head ps ≡ entry_read records t head ps
  unfolding first_of
  read_few l k = rw (ltb_no 32768 (length t) l, ltb_yes records 32 k) refl

no_refusal : {n k : ℕ} {c : Refusal} {h : meant.Head} → refused n c ≡ accepted h k → ⊥
no_refusal e = cc

-- a head that is read: the list has enough records, and the head at most 32 presets
pub entry_accepted : (n : ℕ) (t : List ℕ) (h : meant.Head) (k : ℕ) → entry_reading n t ≡ accepted h k → (length h.presets ≤ 32) × (32 ≤ n)
unfolding first_of
entry_accepted n t h k e = go (is (ltb 32768 (length t))) (is (ltb n 32))
  where
    go : Is (ltb 32768 (length t)) → Is (ltb n 32) → (length h.presets ≤ 32) × (32 ≤ n)
    go (is_true a) b = absurd (no_refusal (rw a at e))
    go (is_false a) (is_true b) = absurd (no_refusal (rw (a, b) at e))
    go (is_false a) (is_false b) = let l = ge_of n 32 b in ((read_valid t h k (sym (reading_enough n t l) ∙ e)).number_of_presets, l)

-- the first 32 records as a reading leaves them, before the others: past the last preset the list is as it was
left_list : (x : Reading) (head : Head) (ps : List Preset) → 32 ≤ length ps → ((h : meant.Head) (k : ℕ) → x ≡ accepted h k → length h.presets ≤ 32)
    → (head_read x head (take 32 ps)).presets ++ drop 32 ps ≡ (head_read x head ps).presets
left_list (refused n c) head ps long fits = take-append-drop 32 ps
left_list (accepted h n) head ps long fits =
    let few = fits h n refl in
    let size : length (take 32 ps) ≡ 32 = length-take-le 32 ps long in
    append_assoc (map record_of h.presets) (drop (length h.presets) (take 32 ps)) (drop 32 ps)
    ∙ ap (λ (l : List Preset). map record_of h.presets ++ l)
    (sym (drop-append-le (length h.presets) (take 32 ps) (drop 32 ps) (omega (arith, few, size)))
    ∙ ap (drop (length h.presets)) (take-append-drop 32 ps))

-- the answer and the head do not depend on the records
same_answer : (x : Reading) (head : Head) (ps qs : List Preset) → (head_read x head ps).answer ≡ (head_read x head qs).answer
same_answer (refused n c) head ps qs = refl
same_answer (accepted h n) head ps qs = refl

same_head : (x : Reading) (head : Head) (ps qs : List Preset) → (head_read x head ps).head ≡ (head_read x head qs).head
same_head (refused n c) head ps qs = refl
same_head (accepted h n) head ps qs = refl

-- what is left of the first 32 records, before the others, is what is to be left of the list
pub read_list : (t : List ℕ) (head after : Head) (ps zs : List Preset) (r : Result Extent Fault) → 32 ≤ length ps
    → left_by r after zs ≡ head_read (head_of t) head (take 32 ps) → left_by r after (zs ++ drop 32 ps) ≡ entry_read (length ps) t head ps
read_list t head after ps zs r long e =
    let x = head_of t in
    let answer : r ≡ (head_read x head ps).answer = ap (λ (q : HeadRead). q.answer) e ∙ same_answer x head (take 32 ps) ps in
    let same : after ≡ (head_read x head ps).head = ap (λ (q : HeadRead). q.head) e ∙ same_head x head (take 32 ps) ps in
    let left : zs ++ drop 32 ps ≡ (head_read x head ps).presets =
    ap (λ (q : HeadRead). q.presets ++ drop 32 ps) e ∙ left_list x head ps long (λ h k a. (read_valid t h k a).number_of_presets) in
    let whole : left_by r after (zs ++ drop 32 ps) ≡ head_read x head ps = λ i. left_by (answer i) (same i) (left i) in
    whole ∙ ap (λ (y : Reading). head_read y head ps) (sym (reading_enough (length ps) t long))
