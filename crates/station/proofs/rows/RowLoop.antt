-- The loop over the rows of a text: what holds between two rows, and what the reading answers at each way out.
--
-- In order: a row as it is read (`seen_in`, `seen_same`); between two rows (`AtRow`, `rows_start`), and at a row (`RowRead`, `row_further`, `row_fits`,
-- `rows_next`); the ways out (`out_no_row`, `out_outside`, `out_rows`).
-- Assumes nothing.
use Prim.Native.Nat.{ℕ, suc, ◌+◌, ◌≤◌, ◌<◌}
use native.Mathlib.Omega.{arith}
use native.Mathlib.Numerals.{add-one}
use mathlib.Core.Path.{◌≡◌, refl, sym, ◌∙◌, ap}
use mathlib.Core.Bool.{true, false}
use mathlib.Core.Option.{Option, none, some}
use Rattle.std.specs.Prelude as code
use Rattle.std.specs.Prelude.{Some, None}
use mathlib.Core.List.{List, ◌∷◌, map}
use lib.ListN.{length, drop, replicate, length-drop}
use Rattle.laws.proofs.Tests.{test_ext}
use Rattle.station.specs.declared.types.Preset.{Preset}
use Rattle.station.specs.declared.types.Head.{Head}
use Rattle.station.specs.declared.types.Refusal.TheVariants.{OutOfLimits, NoRow}
use Rattle.station.specs.declared.rows.fields.Fields.{Fields}
use Rattle.station.specs.Text.{lines}
use Rattle.station.specs.Line.{line_of}
use Rattle.station.specs.Refusal.{out_of_limits, first_of}
use Rattle.station.specs.Reading.{Reading, accepted, refused}
use Rattle.station.specs.Jobs.{seen}
use Rattle.station.specs.Types.{with_masks, head_in}
use Rattle.station.specs.Row.{Row, row, row_of, RowIn, row_in, with_row}
use Rattle.station.specs.ReadRows.{read_rows_from, read_rows}
use Rattle.station.specs.RowEntries.{rows_read, rows_accepted, rows_refused}
use Rattle.station.specs.method.RowFields.{fields_of, fields_at, row_is}
use Rattle.station.proofs.lines.FirstLine.{lines_at, lines_past, line_within, line_some}
use Rattle.station.proofs.rows.RowUnion.{row_in_of, of_row_in}

-- ---- a row as it is read

abbrev row_seen : Row → Row
row_seen x = row (seen x.bridge) (seen x.first) (seen x.last)

module _ (slots bridges : ℕ) (high : slots ≤ 64) (most : bridges ≤ 8) (x : Row) where
  seen_of : RowIn slots bridges (row_seen x) → RowIn slots bridges x
  seen_of r = record {
    bridge_low = omega (arith, r.bridge_low);
    bridge_high = omega (arith, r.bridge_high);
    first_low = omega (arith, r.first_low);
    up = omega (arith, r.up, r.last_high);
    last_high = omega (arith, r.last_high);
  }

  of_seen : RowIn slots bridges x → RowIn slots bridges (row_seen x)
  of_seen r = record {
    bridge_low = omega (arith, r.bridge_low);
    bridge_high = omega (arith, r.bridge_high);
    first_low = omega (arith, r.first_low);
    up = omega (arith, r.up, r.last_high);
    last_high = omega (arith, r.last_high);
  }

  -- it lies in the frame exactly if the row does
  pub seen_in : row_in slots bridges (row_seen x) ≡ row_in slots bridges x
  seen_in =
      test_ext (row_in slots bridges (row_seen x)) (row_in slots bridges x)
      (λ e. of_row_in slots bridges x (seen_of (row_in_of slots bridges (row_seen x) e)))
      (λ e. of_row_in slots bridges (row_seen x) (of_seen (row_in_of slots bridges x e)))

  -- and is then the row itself
  pub seen_same : RowIn slots bridges x → row_seen x ≡ x
  seen_same r =
      let b : seen x.bridge ≡ x.bridge = omega (arith, r.bridge_high) in
      let f : seen x.first ≡ x.first = omega (arith, r.up, r.last_high) in
      let l : seen x.last ≡ x.last = omega (arith, r.last_high) in
      λ i. row (b i) (f i) (l i)

-- ---- between two rows

-- n rows of a text t were read, to the place at, and make the masks busy of the record head handed in, whatever its presets are
pub record AtRow (t : List ℕ) (head : Head) (busy : List ℕ) (at n : ℕ) : Type 0 where
  pub reads : (ps : List Preset) → read_rows_from n (head_in (with_masks head busy) ps) (map row_of (lines (drop at t))) ≡ read_rows (head_in head ps) t
  pub inside : at ≤ length t
  pub few : n ≤ at

pub rows_start : (t : List ℕ) (head : Head) → AtRow t head (replicate 8 0) 0 0
unfolding read_rows
rows_start t head = record { reads = λ ps. refl; inside = omega arith; few = omega arith }

-- Between two rows and before the text's end: o is what the code reads there.
pub record RowRead (t : List ℕ) (head : Head) (busy : List ℕ) (at n : ℕ) (o : code.Option Fields) : Type 0 where
  pub here : AtRow t head busy at n
  pub within : at < length t
  pub fields : o ≡ fields_at t at

-- no row was found, or one was
no_fields : (next : ℕ) (o : Option Row) → None ≡ fields_of next o → o ≡ none
no_fields next none e = refl
no_fields next (some x) e = absurd cc

some_fields : {G : Type 0} (f : Fields) (next : ℕ) (o : Option Row) → Some f ≡ fields_of next o
    → ((x : Row) → o ≡ some x → row_is f ≡ row_seen x → f.next ≡ next → G) → G
some_fields f next none e g = absurd cc
some_fields f next (some x) e g =
    let same : f ≡ record { bridge = seen x.bridge; first = seen x.first; last = seen x.last; next = next } = cc in
    g x refl (ap row_is same) (ap (λ (h : Fields). h.next) same)

module _ {t : List ℕ} {head : Head} {busy : List ℕ} {at n : ℕ} {o : code.Option Fields} (a : RowRead t head busy at n o) where
  -- the line there, the place after it, and the rows that are left
  abbrev l : List ℕ
  l = line_of (drop at t)

  abbrev after : ℕ
  after = at + length l

  abbrev rest : List (Option Row)
  rest = map row_of (lines (drop after t))

  row_reads : (ps : List Preset) (o : Option Row) → row_of l ≡ o → read_rows (head_in head ps) t ≡ read_rows_from n (head_in (with_masks head busy) ps) (o ∷ rest)
  row_reads ps o e =
      sym (a.here.reads ps)
      ∙ ap (λ (ls : List (List ℕ)). read_rows_from n (head_in (with_masks head busy) ps) (map row_of ls)) (lines_at t at a.within)
      ∙ ap (λ (x : Option Row). read_rows_from n (head_in (with_masks head busy) ps) (x ∷ rest)) e

  line_bytes : at < after
  line_bytes = let h = a.within in omega (arith, line_some (drop at t) (omega (arith, length-drop at t)))

-- "12: a row that is not three decimal fields with CR LF"
pub out_no_row : {t : List ℕ} {head : Head} {busy : List ℕ} {at n : ℕ} → RowRead t head busy at n None
    → (ps : List Preset) → rows_refused (n + 1) NoRow head ≡ rows_read (read_rows (head_in head ps) t) head
unfolding read_rows_from
out_no_row {t} {head} {busy} {at} {n} a ps =
    rw (add-one n) (sym (ap (λ (x : Reading). rows_read x head) (row_reads a ps none (no_fields (after a) (row_of (l a)) a.fields))))

module _ {t : List ℕ} {head : Head} {busy : List ℕ} {at n : ℕ} {f : Fields} (a : RowRead t head busy at n (Some f)) where
  -- the place after a row lies further on
  pub row_further : at < f.next
  row_further = some_fields f (after a) (row_of (l a)) a.fields (λ x e s ends. omega (arith, line_bytes a, ends))

  module _ (high : head.slots ≤ 64) (most : head.bridges ≤ 8) where
    -- "a value outside the frame, or first above last, is 2"
    pub out_outside : row_in head.slots head.bridges (row_is f) ≡ false → (ps : List Preset)
        → rows_refused (n + 1) OutOfLimits head ≡ rows_read (read_rows (head_in head ps) t) head
    unfolding read_rows_from first_of
    out_outside out ps = some_fields f (after a) (row_of (l a)) a.fields (λ x e s _.
        let q : row_in head.slots head.bridges x ≡ false = sym (seen_in head.slots head.bridges high most x) ∙ ap (row_in head.slots head.bridges) (sym s) ∙ out in
        let r : read_rows (head_in head ps) t ≡ refused (suc n) out_of_limits = row_reads a ps (some x) e ∙ (rw q refl) in
        rw (add-one n) (sym (ap (λ (y : Reading). rows_read y head) r)))

    module _ (in_frame_lem : row_in head.slots head.bridges (row_is f) ≡ true) where
      -- the row lies in the widest frame
      pub row_fits : RowIn 64 8 (row_is f)
      row_fits =
          let r = row_in_of head.slots head.bridges (row_is f) in_frame_lem in
          record {
            bridge_low = r.bridge_low;
            bridge_high = omega (arith, r.bridge_high);
            first_low = r.first_low;
            up = r.up;
            last_high = omega (arith, r.last_high);
          }

      pub rows_next : AtRow t head (with_row busy (row_is f)) f.next (n + 1)
      unfolding read_rows_from first_of
      rows_next = some_fields f (after a) (row_of (l a)) a.fields (λ x e s ends.
          let few = a.here.few in
          let p : row_in head.slots head.bridges x ≡ true =
          sym (seen_in head.slots head.bridges high most x) ∙ ap (row_in head.slots head.bridges) (sym s) ∙ in_frame_lem in
          let same : row_is f ≡ x = s ∙ seen_same head.slots head.bridges high most x (row_in_of head.slots head.bridges x p) in
          rw (same, ends, add-one n)
          (record {
            reads = λ ps. sym (row_reads a ps (some x) e ∙ (rw p refl));
            inside = line_within t at a.here.inside;
            few = omega (arith, line_bytes a);
          }))

-- no row is left
pub out_rows : {t : List ℕ} {head : Head} {busy : List ℕ} {at n : ℕ} → AtRow t head busy at n → length t ≤ at
    → (ps : List Preset) → rows_accepted n head busy ≡ rows_read (read_rows (head_in head ps) t) head
unfolding read_rows_from
out_rows {t} {head} {busy} {at} {n} a h ps =
    let e : read_rows (head_in head ps) t ≡ accepted (head_in (with_masks head busy) ps) n =
    sym (a.reads ps) ∙ ap (λ (ls : List (List ℕ)). read_rows_from n (head_in (with_masks head busy) ps) (map row_of ls)) (lines_past t at h) in
    sym (ap (λ (x : Reading). rows_read x head) e)
