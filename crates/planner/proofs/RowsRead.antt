-- What `planner_read_rows` answers and leaves, law by law.
--
-- In order: the code's answer and the masks by value, as numbers (`answered_number`, `answered_count`, `placed`); how rows read beside a record (`reading-..`), and the head that is read (`read_head`); how they
-- read by the causes 10 and 8 of the frame and of the presets (`on-..`), and what the paper says of them beside a head that passes (`on_rows`, `rows_meant`); rows that are refused by these
-- causes (`rows_long`, `rows_short`); rows that are read (`rows_run`, `rows_handed`).
-- Assumes nothing.
use Prim.Native.Nat.{ℕ, ◌≤◌, ◌<◌}
use native.Mathlib.Omega.{arith}
use mathlib.Core.Path.{◌≡◌, refl, sym, ◌∙◌, ap, subst}
use mathlib.Core.Bool.{true, false}
use mathlib.Core.List.{List}
use lib.ListN.{length}
use lib.Dec.{ltb}
use mathlib.Core.Logic.{inl, inr}
use Rattle.station.specs.declared.types.Station.{Station}
use Rattle.laws.proofs.Tests.{Is, is, is_true, is_false}
use Rattle.laws.proofs.Comparisons.{lt_of, ge_of, ltb_yes, ltb_no}
use Rattle.station.specs.Head.{Head, with_busy}
use Rattle.station.specs.Refusal.{Refusal, out_of_limits, too_short, text_too_long, number_of, first_of}
use Rattle.station.specs.Types.{head_in, valid_record}
use Rattle.station.specs.declared.types.Preset as record-of-preset
use Rattle.station.specs.declared.types.Head as record-of-head
use Rattle.station.specs.RowEntries as result
use Rattle.station.specs.Reading.{Reading, accepted, refused}
use Rattle.station.specs.ReadRows.{read_rows, RowsMean}
use Rattle.station.specs.RowEntries.{rows_reading, rows_read}
use Rattle.station.proofs.Theorems.{number_some, refusal_of_lem, rows_mean, rows_rest, rows_valid}
use Rattle.placing.proofs.Theorems.{record_valid}
use Rattle.planner.specs.Layout.{records_in, frame_numbers, head_of_numbers, masks_over}
use Rattle.planner.proofs.RoundTrip.{masks_head, masks_same}
use Rattle.planner.specs.Exports.{value, head_on, HeadPasses, rows_returned, number_in, count_in, ShortOf, LentStation, rows_on, rows_frame, RowsLeaves, RowsPromise}

-- the code's answer as numbers
answered_number : (x : Reading) (h : record-of-head.Head) → number_in (rows_read x h).answer ≡ (rows_returned x).number
answered_number (accepted g n) h = refl
answered_number (refused n c) h = rw (refusal_of_lem c) refl

answered_count : (x : Reading) (h : record-of-head.Head) → count_in (rows_read x h).answer ≡ value (rows_returned x)
answered_count (accepted g n) h = refl
answered_count (refused n c) h = refl

-- the masks by value, written to the frame
placed : (x : Reading) (f : List ℕ) → masks_over (rows_read x (head_of_numbers f)).head.busy f ≡ rows_frame x f
unfolding rows_frame
placed (accepted g n) f = refl
placed (refused n c) f = masks_same f

module _ (h : record-of-head.Head) (ps : List record-of-preset.Preset) (t : List ℕ) where
  reading_long : 32768 < length t → rows_reading 32 h ps t ≡ refused 0 text_too_long
  unfolding first_of
  reading_long l = rw (ltb_yes 32768 (length t) l) refl

  module _ (l : length t ≤ 32768) where
    reading_outside : valid_record h ps ≡ false → rows_reading 32 h ps t ≡ refused 0 out_of_limits
    unfolding first_of
    reading_outside v = rw (ltb_no 32768 (length t) l, v) refl

    reading_valid : valid_record h ps ≡ true → rows_reading 32 h ps t ≡ read_rows (head_in h ps) t
    unfolding first_of
    reading_valid v = rw (ltb_no 32768 (length t) l, v) refl

    -- the head that is read is the one that was there, with other masks
    read_head : (g : Head) (m : ℕ) → rows_reading 32 h ps t ≡ accepted g m → (g ≡ with_busy (head_in h ps) g.busy) × (length g.busy ≡ 8)
    read_head g m e = go (is (valid_record h ps))
      where
        apart : {c : Refusal} → refused 0 c ≡ accepted g m → ⊥
        apart q = let z : ◌≡◌ {A = ℕ} 0 1 = cc in omega arith

        go : Is (valid_record h ps) → (g ≡ with_busy (head_in h ps) g.busy) × (length g.busy ≡ 8)
        go (is_true v) =
            let d = sym (reading_valid v) ∙ e in
            (rows_rest (head_in h ps) t g m d, (rows_valid (head_in h ps) t g m d (record_valid h ps v)).masks)
        go (is_false v) = absurd (apart (sym (reading_outside v) ∙ e))

module _ (t f p : List ℕ) where
  on_long : 32768 < length t → rows_on t f p ≡ refused 0 text_too_long
  unfolding rows_on first_of
  on_long l = rw (ltb_yes 32768 (length t) l, rows_on) refl

  on_short_frame : length t ≤ 32768 → length f < frame_numbers → rows_on t f p ≡ refused 0 too_short
  unfolding rows_on first_of
  on_short_frame l s = rw (ltb_no 32768 (length t) l, ltb_yes (length f) frame_numbers s, rows_on) refl

  on_short_presets : length t ≤ 32768 → frame_numbers ≤ length f → length p < 128 → rows_on t f p ≡ refused 0 too_short
  unfolding rows_on first_of
  on_short_presets l k s = rw (ltb_no 32768 (length t) l, ltb_no (length f) frame_numbers k, ltb_yes (length p) 128 s, rows_on) refl

  abbrev read : Reading
  read = rows_reading 32 (head_of_numbers f) (records_in p) t

  on_long_enough : length t ≤ 32768 → frame_numbers ≤ length f → 128 ≤ length p → rows_on t f p ≡ read
  unfolding rows_on first_of
  on_long_enough l k s = rw (ltb_no 32768 (length t) l, ltb_no (length f) frame_numbers k, ltb_no (length p) 128 s, rows_on) refl

  on_enough : frame_numbers ≤ length f → 128 ≤ length p → rows_on t f p ≡ read
  on_enough k s = go (is (ltb 32768 (length t)))
    where
      go : Is (ltb 32768 (length t)) → rows_on t f p ≡ read
      go (is_true l) = let m = lt_of 32768 (length t) l in on_long m ∙ sym (reading_long (head_of_numbers f) (records_in p) t m)
      go (is_false l) = on_long_enough (ge_of 32768 (length t) l) k s

  -- beside a head that passes the rows alone count
  module _ (l : length t ≤ 32768) (w : HeadPasses f p) where
    pub on_rows : rows_on t f p ≡ read_rows (head_on f p) t
    on_rows = on_long_enough l w.numbers w.records ∙ reading_valid (head_of_numbers f) (records_in p) t l w.valid

    rows_meant : RowsMean (head_on f p) t (rows_on t f p)
    rows_meant = subst (RowsMean (head_on f p) t) (sym on_rows) (rows_mean (head_on f p) t (record_valid (head_of_numbers f) (records_in p) w.valid))

  -- what is answered and left, and what is claimed
  abbrev Done : List ℕ → ℕ → ℕ → Type 0
  Done f₁ n r = RowsLeaves (rows_on t f p) f f₁ n r × RowsPromise t f p f₁ n r

  rows_stopped : (c : Refusal) → rows_on t f p ≡ refused 0 c → Done f 0 (number_of c)
  unfolding rows_frame
  rows_stopped c e = (
    subst (λ (x : Reading). RowsLeaves x f f 0 (number_of c)) (sym e) (record { answer = refl; row = refl; frame = refl }),
    record { unchanged = λ z. refl; head = λ z. absurd (number_some c z); meant = rows_meant; long = on_enough },
  )

  pub rows_long : 32768 < length t → Done f 0 10
  rows_long l = rows_stopped text_too_long (on_long l)

  pub rows_short : length t ≤ 32768 → ShortOf f p → Done f 0 8
  rows_short l (inl s) = rows_stopped too_short (on_short_frame l s)
  rows_short l (inr s) = rows_stopped too_short (on_short_presets l s.0 s.1)

  module _ {f₁ : List ℕ} {n r : ℕ} (l : length t ≤ 32768) (k : frame_numbers ≤ length f) (s : 128 ≤ length p) (e : r ≡ (rows_returned read).number) (m : n ≡ value (rows_returned read))
      (a : f₁ ≡ rows_frame read f) where
    kept : (x : Reading) → 0 < (rows_returned x).number → rows_frame x f ≡ f
    unfolding rows_frame
    kept (accepted g i) z = absurd (omega (arith, z))
    kept (refused i c) z = refl

    new_head : (x : Reading) → read ≡ x → r ≡ (rows_returned x).number → n ≡ value (rows_returned x) → f₁ ≡ rows_frame x f → r ≡ 0 → read ≡ accepted (head_on f₁ p) n
    unfolding rows_frame
    new_head (refused i c) q e₁ m₁ a₁ z = absurd (number_some c (sym e₁ ∙ z))
    new_head (accepted g i) q e₁ m₁ a₁ z =
        let w = read_head (head_of_numbers f) (records_in p) t l g i q in
        let is-g : head_on f₁ p ≡ g =
        ap (λ (h : record-of-head.Head). head_in h (records_in p)) (ap head_of_numbers a₁ ∙ masks_head g.busy f w.1 k) ∙ sym w.0 in
        q ∙ rw (is-g, m₁) refl

    rows_run : Done f₁ n r
    rows_run = (
      subst (λ (x : Reading). RowsLeaves x f f₁ n r) (sym (on_enough k s)) (record { answer = e; row = m; frame = a }),
      record {
        unchanged = λ z. a ∙ kept read (omega (arith, z, e));
        head = λ z. on_enough k s ∙ new_head read refl e m a z;
        meant = rows_meant;
        long = on_enough;
      },
    )

  -- the same of what was read of the frame and of the presets
  pub rows_handed : (st : Station) (x : result.RowsRead) {f₁ : List ℕ} {n r : ℕ} → length t ≤ 32768 → LentStation f p st
      → x ≡ rows_read (rows_reading 32 st.head st.presets t) st.head
      → f₁ ≡ masks_over x.head.busy f → n ≡ count_in x.answer → r ≡ number_in x.answer → Done f₁ n r
  rows_handed st x l lent d e m c =
      let is_read : x ≡ rows_read read (head_of_numbers f) = rw (lent.head, lent.list) at d in
      rows_run l lent.numbers lent.records
      (c ∙ ap (λ (y : result.RowsRead). number_in y.answer) is_read ∙ answered_number read (head_of_numbers f))
      (m ∙ ap (λ (y : result.RowsRead). count_in y.answer) is_read ∙ answered_count read (head_of_numbers f))
      (e ∙ ap (λ (y : result.RowsRead). masks_over y.head.busy f) is_read ∙ placed read f)
