-- What is printed of an input: what the writers wrote, and what the readers found.
--
-- In order: a writing that no cause refuses stands there whole (`refusal_stands`, `rows_stand`, `text_stands`); a head that was read is a valid record (`read_record`); rows read
-- into it (`rows_refused_lem`, `rows_accepted_lem`); an input without an empty line (`alone_refused`, `rows_wrote`), and one that is parted at it (`head_refused`, `rows_refused`, `text_wrote`).
-- Assumes nothing.
use Prim.Native.Nat.{ℕ, ◌+◌, ◌-◌, ◌≤◌}
use native.Mathlib.Omega.{arith}
use native.Mathlib.Numerals.{add-one}
use mathlib.Core.Path.{◌≡◌, refl, sym, ◌∙◌, ap}
use mathlib.Core.Bool.{true}
use mathlib.Core.Option.{Option, none}
use mathlib.Core.List.{List, [], ◌∷◌, ◌++◌}
use Rattle.std.specs.Prelude.{Result, Ok, Err, Some, None}
use Rattle.std.specs.Result.{result_unwrap_or}
use lib.ListN.{length, take, drop, length-append, length-drop}
use lib.Seq.{take_all, take_at}
use lib.Dec.{ltb, leb}
use Rattle.laws.proofs.Tests.{Is, is, is_true, is_false, both, left_of, right_of}
use Rattle.laws.proofs.Comparisons.{leb_yes, ltb_no}
use Rattle.station.specs.Head.{Head, valid}
use Rattle.station.specs.Refusal.{Refusal, first_of}
use Rattle.station.specs.Text.{lines}
use Rattle.station.specs.Writing.{text_of}
use Rattle.station.specs.Reading.{Reading, accepted, refused, head_of}
use Rattle.station.specs.Row.{rows_text}
use Rattle.station.specs.ReadRows.{read_rows}
use Rattle.station.specs.Types.{refusal_in, refusal_of, head_in, valid_record}
use Rattle.station.specs.WriteHead.{written, answer_of, output_of, answer_in, write_causes, write_answer, write_output, WroteHead}
use Rattle.station.specs.Entries.{entry_causes}
use Rattle.station.specs.RowEntries.{RowsRead, rows_reading, rows_read, WroteRows}
use Rattle.station.specs.declared.types.Preset as record-of-preset
use Rattle.station.specs.declared.types.Head as record-of-head
use Rattle.station.specs.declared.types.Refusal as cause
use Rattle.station.specs.declared.types.Fault.{Fault}
use Rattle.station.specs.ReadHead.{HeadRead, fault}
use Rattle.station.proofs.Theorems.{valid_of, of_valid, ReadAccepted, refusal_of_lem, cause_none, rows_rest, rows_valid}
use Rattle.frame.specs.Listing.{refused_line, answer_line}
use Rattle.frame.specs.WroteLine.{output_short, line_written, answer_written, WroteLine}
use Rattle.rows.specs.Printed.{parts_of, of_reading, rows_beside, printed_of, rows_printed}
use Rattle.rows.specs.method.Parts.{parted_at, Printed}

-- ---- what was written

-- one answer has one length
pub ok_same : {m n : ℕ} → ◌≡◌ {A = Result ℕ cause.Refusal} (Ok m) (Ok n) → m ≡ n
ok_same {m} {n} e = let i : m ≡ n = cc in i

-- a line that stands there whole, and how many bytes it is as the answer
abbrev pub Wrote : List ℕ → Result ℕ cause.Refusal → List ℕ → Type 0
Wrote line r after = (r ≡ Ok (length line)) × Printed line after (length line)

-- where no cause holds it is not refused, and the line stands there whole
stands : (o : Option Refusal) (line out : List ℕ) (r : Result ℕ cause.Refusal) {after : List ℕ} → o ≡ none → answer_in r ≡ answer_of o (length line) → after ≡ output_of o line out
    → Wrote line r after
stands o line out r {after} e a w =
    let whole : after ≡ line ++ drop (length line) out = w ∙ ap (λ (x : Option Refusal). output_of x line out) e in (
      go r (a ∙ ap (λ (x : Option Refusal). answer_of x (length line)) e),
      record {
        inside = omega (arith, ap length whole, length-append line (drop (length line) out));
        bytes = ap (take (length line)) whole ∙ take_at line (drop (length line) out) (length line) refl;
      },
    )
  where
    go : (r : Result ℕ cause.Refusal) → answer_in r ≡ written (length line) → r ≡ Ok (length line)
    go (Ok k) q = let i : k ≡ length line = cc in ap (λ (m : ℕ). Ok m) i
    go (Err c) q = absurd (let z : ◌≡◌ {A = ℕ} 0 1 = cc in omega arith)

module _ (out : List ℕ) (long : 8192 ≤ length out) where
  -- the refused line, and how many bytes it is
  pub refusal_stands : (line : ℕ) (c : cause.Refusal) (r : Result ℕ cause.Refusal) {after : List ℕ} {n : ℕ} → WroteLine (answer_written line (Err c) out) r after
      → n ≡ result_unwrap_or r 0 → Printed (refused_line line (refusal_in c)) after n
  unfolding first_of line_written answer_line
  refusal_stands line c r w l =
      let s = stands (first_of (output_short out ∷ [])) (refused_line line (refusal_in c)) out r (rw (ltb_no (length out) 8192 long) refl) w.answer w.output in
      rw (l, s.0) s.1

  module _ (head : record-of-head.Head) (ps : List record-of-preset.Preset) (v : valid_record head ps ≡ true) where
    pub rows_stand : (r : Result ℕ cause.Refusal) {after : List ℕ} → WroteRows 32 head ps out r after
        → Wrote (rows_text head.busy) r after
    unfolding first_of
    rows_stand r w = stands (first_of (entry_causes 32 head ps out)) (rows_text head.busy) out r (cause_none head ps out long v) w.answer w.output

    pub text_stands : (r : Result ℕ cause.Refusal) {after : List ℕ} → WroteHead head ps out r after
        → Wrote (text_of (head_in head ps)) r after
    unfolding write_answer write_output
    text_stands r w = stands (first_of (write_causes head ps out)) (text_of (head_in head ps)) out r (cause_none head ps out long v) w.answer w.output

-- ---- what was read

-- a head that was read is one that some text yields
pub read_record : {t : List ℕ} {old : List record-of-preset.Preset} {r : HeadRead} {n k : ℕ} → ReadAccepted t old r n k → valid_record r.head r.presets ≡ true
read_record {r} a =
    let h = head_in r.head r.presets in
    both (leb r.head.count 32) (valid h) (leb_yes r.head.count 32 (omega (arith, a.count, a.valid.number_of_presets))) (of_valid h a.valid)

module _ (head : record-of-head.Head) (ps : List record-of-preset.Preset) (v : valid_record head ps ≡ true) (t : List ℕ) where
  abbrev h : Head
  h = head_in head ps

  -- the list has 32 records and the record is valid: neither is a cause
  reading_beside : rows_reading 32 head ps t ≡ rows_beside h t
  unfolding first_of rows_beside
  reading_beside = go (is (ltb 32768 (length t)))
    where
      go : Is (ltb 32768 (length t)) → rows_reading 32 head ps t ≡ rows_beside h t
      go (is_true e) = rw e refl
      go (is_false e) = rw (e, v) refl

  -- rows that are accepted are not too long
  beside_read : (g : Head) (n : ℕ) → rows_beside h t ≡ accepted g n → read_rows h t ≡ accepted g n
  unfolding rows_beside
  beside_read g n e = go (is (ltb 32768 (length t)))
    where
      go : Is (ltb 32768 (length t)) → read_rows h t ≡ accepted g n
      go (is_true q) = absurd (let r : refused 0 _ ≡ accepted g n = rw q at e in let z : ◌≡◌ {A = ℕ} 0 1 = cc in omega arith)
      go (is_false q) = rw q at e

  module _ (read : RowsRead) (e : read ≡ rows_read (rows_reading 32 head ps t) head) where
    from_beside : read ≡ rows_read (rows_beside h t) head
    from_beside = e ∙ ap (λ (x : Reading). rows_read x head) reading_beside

    pub rows_refused_lem : (n : ℕ) (c : cause.Refusal) → read.answer ≡ Err (fault n c) → rows_beside h t ≡ refused n (refusal_in c)
    rows_refused_lem n c a = go (rows_beside h t) refl from_beside
      where
        go : (x : Reading) → rows_beside h t ≡ x → read ≡ rows_read x head → rows_beside h t ≡ refused n (refusal_in c)
        go (accepted g k) q f = absurd (let z : ◌≡◌ {A = ℕ} 0 1 = cc in omega arith)
        go (refused k d) q f =
            let s : ◌≡◌ {A = Result ℕ Fault} (Err (fault k (refusal_of d))) (Err (fault n c)) = ap (λ (y : RowsRead). y.answer) (sym f) ∙ a in
            let x : fault k (refusal_of d) ≡ fault n c = cc in
            let i : k ≡ n = ap (λ (y : Fault). y.line) x in
            let l : refusal_of d ≡ c = ap (λ (y : Fault). y.cause) x in
            q ∙ ap (λ (m : ℕ). refused m d) i ∙ ap (refused n) (sym (refusal_of_lem d) ∙ ap refusal_in l)

    pub rows_accepted_lem : (n : ℕ) → read.answer ≡ Ok n → (rows_beside h t ≡ accepted (head_in read.head ps) n) × (valid_record read.head ps ≡ true)
    rows_accepted_lem n a = go (rows_beside h t) refl from_beside
      where
        go : (x : Reading) → rows_beside h t ≡ x → read ≡ rows_read x head
            → (rows_beside h t ≡ accepted (head_in read.head ps) n) × (valid_record read.head ps ≡ true)
        go (accepted g k) q f =
            let s : ◌≡◌ {A = Result ℕ Fault} (Ok k) (Ok n) = ap (λ (y : RowsRead). y.answer) (sym f) ∙ a in
            let i : k ≡ n = cc in
            let e = beside_read g k q in
            let same : head_in read.head ps ≡ g = ap (λ (y : RowsRead). head_in y.head ps) f ∙ sym (rows_rest h t g k e) in (
              q ∙ ap (accepted g) i ∙ ap (λ (x : Head). accepted x n) (sym same),
              both (leb read.head.count 32) (valid (head_in read.head ps))
                  (ap (λ (y : RowsRead). leb y.head.count 32) f ∙ left_of (leb head.count 32) (valid h) v)
                  (ap valid same ∙ of_valid g (rows_valid h t g k e (valid_of h (right_of (leb head.count 32) (valid h) v)))),
            )
        go (refused k d) q f = absurd (let z : ◌≡◌ {A = ℕ} 0 1 = cc in omega arith)

-- ---- an input without an empty line

module _ (t : List ℕ) (p : parts_of (lines t) ≡ parted_at t None) where
  pub alone_refused : (n : ℕ) (c : Refusal) → head_of t ≡ refused n c → rows_printed t ≡ refused_line n c
  unfolding printed_of rows_printed
  alone_refused n c e = ap printed_of p ∙ rw e refl

  alone_printed : (h : Head) (n : ℕ) → head_of t ≡ accepted h n → rows_printed t ≡ rows_text h.busy
  unfolding printed_of rows_printed
  alone_printed h n e = ap printed_of p ∙ rw e refl

  -- the rows of its head, as they were written
  pub rows_wrote : (out : List ℕ) → 8192 ≤ length out → {old : List record-of-preset.Preset} {read : HeadRead} {n k : ℕ} → ReadAccepted t old read n k
      → (r : Result ℕ cause.Refusal) {after : List ℕ} → WroteRows 32 read.head read.presets out r after → Wrote (rows_printed t) r after
  rows_wrote out long {read = read} h r w = rw (alone_printed _ _ h.reads) (rows_stand out long read.head read.presets (read_record h) r w)

-- ---- an input that is parted at its empty line

module _ (t : List ℕ) (end : ℕ) (p : parts_of (lines t) ≡ parted_at t (Some end)) where
  pub head_refused : (n : ℕ) (c : Refusal) → head_of (take end t) ≡ refused n c → rows_printed t ≡ refused_line n c
  unfolding printed_of rows_printed
  head_refused n c e = ap printed_of p ∙ rw e refl

  -- the rows as the code takes them from the input, by their length
  module _ (h : Head) (n : ℕ) (e : head_of (take end t) ≡ accepted h n) where
    beside_printed : rows_printed t ≡ of_reading (rows_beside h (take (length t - (end + 1)) (drop (end + 1) t))) text_of
    unfolding printed_of rows_printed
    beside_printed =
        let whole = take_all (length t - (end + 1)) (drop (end + 1) t) (omega (arith, length-drop (end + 1) t)) in
        ap printed_of p ∙ rw (e, whole, add-one end) refl

    pub rows_refused : (m : ℕ) (c : Refusal) → rows_beside h (take (length t - (end + 1)) (drop (end + 1) t)) ≡ refused m c → rows_printed t ≡ refused_line m c
    rows_refused m c r = beside_printed ∙ ap (λ (x : Reading). of_reading x text_of) r

    text_printed : (g : Head) (m : ℕ) → rows_beside h (take (length t - (end + 1)) (drop (end + 1) t)) ≡ accepted g m → rows_printed t ≡ text_of g
    text_printed g m r = beside_printed ∙ ap (λ (x : Reading). of_reading x text_of) r

  -- the head's text with the rows in it, as it was written
  pub text_wrote : (out : List ℕ) → 8192 ≤ length out → {old : List record-of-preset.Preset} {read : HeadRead} {n k : ℕ} → ReadAccepted (take end t) old read n k
      → (rows : RowsRead) → rows ≡ rows_read (rows_reading 32 read.head read.presets (take (length t - (end + 1)) (drop (end + 1) t))) read.head → (m : ℕ) → rows.answer ≡ Ok m
      → (r : Result ℕ cause.Refusal) {after : List ℕ} → WroteHead rows.head read.presets out r after → Wrote (rows_printed t) r after
  text_wrote out long {read = read} h rows e m a r w =
      let q = rows_accepted_lem read.head read.presets (read_record h) _ rows e m a in
      rw (text_printed _ _ h.reads _ _ q.0) (text_stands out long rows.head read.presets q.1 r w)
