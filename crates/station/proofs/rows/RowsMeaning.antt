-- Rows are put in place of a head's busy lines or refused for the first row at fault, and for nothing else: `read_rows` is what the paper says (`RowsMean`).
--
-- In order: a text may be cut at CR LF (`read_cuts`); rows that pass (`pass_in`, `read_passed`); one head alone has the rows in place (`in_place_one`), and there is one
-- (`in_place`); so a text has at most one meaning (`mean_rows`), and it has one (`rows_mean`). Then what is told of a reading (`rows_rest`, `rows_told`, `rows_valid`,
-- `rows_cells`, `rows_one`), and that what is written is read back (`rows_round`, `rows_again`).
-- Assumes nothing.
use Prim.Native.Nat.{ℕ, suc, ◌+◌, ◌^◌, ◌≤◌, ◌<◌}
use native.Mathlib.Omega.{arith}
use mathlib.Core.Path.{◌≡◌, refl, sym, ◌∙◌, ap, subst}
use mathlib.Core.Bool.{false}
use mathlib.Core.Option.{Option, none, some}
use mathlib.Core.List.{List, [], ◌∷◌, ◌++◌, map, append-nil}
use lib.ListN.{length, get_or, replicate}
use lib.Seq.{ext_get_or}
use lib.Dec.{ltb}
use lib.Pow.{pow_mono}
use Rattle.laws.proofs.Tests.{Is, is_true, is_false, is, clash, none_some, not-true}
use Rattle.laws.proofs.Lists as all
use Rattle.laws.proofs.Lists.{All}
use Rattle.laws.proofs.Comparisons.{lt_of, ge_of}
use Rattle.station.specs.Head.{Head, Valid, busy_at, bare_head, with_supply, with_tie, with_busy, with_presets}
use Rattle.station.specs.Refusal.{Refusal, first_of}
use Rattle.station.specs.Text.{lines}
use Rattle.station.specs.Reading.{Reading, accepted, refused, unless}
use Rattle.station.specs.Row.{Row, print_row, TextOfRow, row_of, cuts, cuts_after, RowIn, row_in, with_row, rows_take, mask_rows, bare, rows_text}
use Rattle.station.specs.ReadRows.{row_causes, read_rows_from, read_rows, RowsPass, no_rows, row_then_lem, InPlace, RowsMean, all_pass, no_row_lem, row_outside}
use Rattle.station.proofs.rows.RowLists.{to_fault, busy_with, rows_busy}
use Rattle.station.proofs.rows.RowText.{row_self, row_had, row_cut, cut_same}
use Rattle.station.proofs.rows.RowUnion.{row_in_of, of_row_in, union_cells, busy_valid, union_valid}
use Rattle.station.proofs.rows.RowsWritten.{mask_ext, mask_rows_cells, rows_in}

-- ---- a text may be cut at CR LF

-- "the first row at fault decides": the rows after the first without its form are not looked at
read_to_fault : (n : ℕ) (h : Head) (rs : List (Option Row)) → read_rows_from n h rs ≡ read_rows_from n h (to_fault rs)
unfolding read_rows_from to_fault
read_to_fault n h [] = refl
read_to_fault n h (none ∷ rs) = refl
read_to_fault n h (some x ∷ rs) = rw (read_to_fault (suc n) _ rs) refl

-- no busy cell
abbrev emptied : Head → Head
emptied h = with_busy h (replicate 8 0)

pub read_cuts : (h : Head) (t : List ℕ) → read_rows h t ≡ read_rows_from 0 (emptied h) (map row_of (cuts t))
unfolding read_rows
read_cuts h t =
    read_to_fault 0 (emptied h) (map row_of (lines t))
    ∙ ap (read_rows_from 0 (emptied h)) (cut_same t)
    ∙ sym (read_to_fault 0 (emptied h) (map row_of (cuts t)))

-- ---- rows that pass

text_read : (l : List ℕ) (x : Row) → TextOfRow l x → row_of l ≡ some x
text_read l x w = ap row_of w.text ∙ row_self w.bridge_quoted w.first_quoted w.last_quoted x

none_read : (l : List ℕ) → ((x : Row) → TextOfRow l x → ⊥) → row_of l ≡ none
none_read l f = go (row_of l) refl
  where
    go : (o : Option Row) → row_of l ≡ o → o ≡ none
    go none e = refl
    go (some x) e = absurd (f x (row_had l x e))

module _ (h : Head) where
  pub pass_in : {ls : List (List ℕ)} {xs : List Row} → RowsPass h ls xs → All (RowIn h.slots h.bridges) xs
  pass_in no_rows = all.none
  pass_in (row_then_lem w r p) = all.more r (pass_in p)

  pass_length : {ls : List (List ℕ)} {xs : List Row} → RowsPass h ls xs → length xs ≡ length ls
  pass_length no_rows = refl
  pass_length (row_then_lem w r p) = ap suc (pass_length p)

  -- pieces that pass are read into the union of their rows, one row more for each
  read_passed : {ls : List (List ℕ)} {xs : List Row} (n : ℕ) (ms : List ℕ) (cs : List (List ℕ)) → RowsPass h ls xs
      → read_rows_from n (with_busy h ms) (map row_of (ls ++ cs)) ≡ read_rows_from (length ls + n) (with_busy h (busy_with ms xs)) (map row_of cs)
  unfolding read_rows_from busy_with first_of
  read_passed n ms cs no_rows = let z : n ≡ 0 + n = omega arith in ap (λ (k : ℕ). read_rows_from k (with_busy h ms) (map row_of cs)) z
  read_passed n ms cs (row_then_lem {l} {ls} {x} {xs} w r p) =
      let z : length ls + suc n ≡ suc (length ls) + n = omega arith in
      rw (text_read l x w, of_row_in h.slots h.bridges x r)
      (read_passed (suc n) (with_row ms x) cs p ∙ ap (λ (k : ℕ). read_rows_from k (with_busy h (busy_with (with_row ms x) xs)) (map row_of cs)) z)

-- ---- the head with the rows in place: there is one, and one alone

-- heads of one frame with the same busy cells have the same masks
same_masks : (f g : Head) → Valid f → Valid g → f.slots ≡ g.slots → f.bridges ≡ g.bridges
    → ((s b : ℕ) → s < g.slots → b < g.bridges → busy_at f s b ≡ busy_at g s b) → f.busy ≡ g.busy
same_masks f g v w slots bridges e = ext_get_or 0 f.busy g.busy (v.masks ∙ sym w.masks) (λ b l. go b (is (ltb b g.bridges)))
  where
    below : (b : ℕ) → get_or f.busy b 0 < 2 ^ g.slots
    below b = rw slots at (v.in_frame_lem b)

    go : (b : ℕ) → Is (ltb b g.bridges) → get_or f.busy b 0 ≡ get_or g.busy b 0
    go b (is_true q) = mask_ext g.slots (get_or f.busy b 0) (get_or g.busy b 0) (below b) (w.in_frame_lem b) (λ s l. e s b l (lt_of b g.bridges q))
    go b (is_false q) =
        let past = ge_of b g.bridges q in
        v.no_bridge b (omega (arith, bridges)) ∙ sym (w.no_bridge b past)

head_ext : (f g : Head) → f.slots ≡ g.slots → f.bridges ≡ g.bridges → f.supply ≡ g.supply → f.hold ≡ g.hold → f.busy ≡ g.busy
    → f.presets ≡ g.presets → f ≡ g
head_ext f g a b k t c d =
    let same : with_presets (with_busy (with_tie (with_supply (bare_head f.slots f.bridges) f.supply) f.hold) f.busy) f.presets
    ≡ with_presets (with_busy (with_tie (with_supply (bare_head g.slots g.bridges) g.supply) g.hold) g.busy) g.presets = rw (a, b, k, t, c, d) refl in
    same

module _ (h : Head) (xs : List Row) where
  in_place_one : (f g : Head) → InPlace h xs f → InPlace h xs g → f ≡ g
  in_place_one f g p q =
      let slots = p.slots ∙ sym q.slots in
      let bridges = p.bridges ∙ sym q.bridges in
      let busy = same_masks f g p.valid q.valid slots bridges
      (λ s b l m. p.cells s b (omega (arith, q.slots)) (omega (arith, q.bridges)) ∙ sym (q.cells s b (omega (arith, q.slots)) (omega (arith, q.bridges)))) in
      head_ext f g slots bridges (p.supply ∙ sym q.supply) (p.hold ∙ sym q.hold) busy (p.presets ∙ sym q.presets)

  in_place : Valid h → All (RowIn h.slots h.bridges) xs → InPlace h xs (with_busy h (rows_busy xs))
  in_place v w = record {
    slots = refl;
    bridges = refl;
    supply = refl;
    hold = refl;
    presets = refl;
    cells = λ s b l m. union_cells h.slots h.bridges v.slots_high v.bridges_high xs w s b (omega (arith, v.slots_high));
    valid = union_valid h xs v w;
  }

-- one reading, one head
pub accepted_one : {f g : Head} {m n : ℕ} → accepted f m ≡ accepted g n → f ≡ g
accepted_one e = cc

-- ---- each text has at most one meaning

module _ (h : Head) (t : List ℕ) where
  -- a text all of whose rows pass
  pub read_all : {xs : List Row} → RowsPass h (cuts t) xs → read_rows h t ≡ accepted (with_busy h (rows_busy xs)) (length xs)
  unfolding read_rows_from rows_busy
  read_all {xs} p =
      let z : length (cuts t) + 0 ≡ length xs = omega (arith, pass_length h p) in
      read_cuts h t ∙ ap (λ (cs : List (List ℕ)). read_rows_from 0 (emptied h) (map row_of cs)) (sym (append-nil (cuts t)))
      ∙ read_passed h 0 (replicate 8 0) [] p ∙ ap (accepted (with_busy h (rows_busy xs))) z

  -- one with a piece after those that pass: what decides is that piece
  read_next : {ls : List (List ℕ)} {xs : List Row} (l : List ℕ) (ms : List (List ℕ)) → cuts t ≡ ls ++ (l ∷ ms) → RowsPass h ls xs
      → read_rows h t ≡ read_rows_from (length ls) (with_busy h (rows_busy xs)) (row_of l ∷ map row_of ms)
  unfolding rows_busy
  read_next {ls} {xs} l ms c p =
      let z : length ls + 0 ≡ length ls = omega arith in
      read_cuts h t ∙ ap (λ (cs : List (List ℕ)). read_rows_from 0 (emptied h) (map row_of cs)) c
      ∙ read_passed h 0 (replicate 8 0) (l ∷ ms) p ∙ ap (λ (k : ℕ). read_rows_from k (with_busy h (rows_busy xs)) (row_of l ∷ map row_of ms)) z

  -- "`read_rows` is just this"
  pub mean_rows : (x : Reading) → Valid h → RowsMean h t x → read_rows h t ≡ x
  unfolding read_rows_from first_of
  mean_rows x v (all_pass {xs} {g} p q) =
      read_all p ∙ ap (λ (k : Head). accepted k (length xs)) (in_place_one h xs (with_busy h (rows_busy xs)) g (in_place h xs v (pass_in h p)) q)
  mean_rows x v (no_row_lem {l} ms c p f) = read_next l ms c p ∙ (rw (none_read l f) refl)
  mean_rows x v (row_outside {l} {x = y} ms c p w f) =
      let out : row_in h.slots h.bridges y ≡ false = not-true _ (λ e. f (row_in_of h.slots h.bridges y e)) in
      read_next l ms c p ∙ (rw (text_read l y w, out) refl)

-- ---- and it has one

-- pieces of which no row is at fault, or the first that is
data Split (h : Head) (cs : List (List ℕ)) : Type 0 where
  none_at_fault : {xs : List Row} → RowsPass h cs xs → Split h cs
  without_form : {l : List ℕ} {ls : List (List ℕ)} {xs : List Row} (ms : List (List ℕ))
      → cs ≡ ls ++ (l ∷ ms) → RowsPass h ls xs → ((x : Row) → TextOfRow l x → ⊥) → Split h cs
  outside : {l : List ℕ} {ls : List (List ℕ)} {xs : List Row} {x : Row} (ms : List (List ℕ))
      → cs ≡ ls ++ (l ∷ ms) → RowsPass h ls xs → TextOfRow l x → (RowIn h.slots h.bridges x → ⊥) → Split h cs

one_more : {h : Head} {l : List ℕ} {x : Row} (cs : List (List ℕ)) → TextOfRow l x → RowIn h.slots h.bridges x → Split h cs → Split h (l ∷ cs)
one_more cs w r (none_at_fault p) = none_at_fault (row_then_lem w r p)
one_more {h} {l} cs w r (without_form ms c p f) = without_form ms (ap (λ (ds : List (List ℕ)). l ∷ ds) c) (row_then_lem w r p) f
one_more {h} {l} cs w r (outside ms c p u f) = outside ms (ap (λ (ds : List (List ℕ)). l ∷ ds) c) (row_then_lem w r p) u f

split : (h : Head) (cs : List (List ℕ)) → Split h cs
split h [] = none_at_fault no_rows
split h (l ∷ cs) = go (split h cs) (row_of l) refl
  where
    within_frame : (x : Row) → Split h cs → TextOfRow l x → Is (row_in h.slots h.bridges x) → Split h (l ∷ cs)
    within_frame x ih w (is_true e) = one_more cs w (row_in_of h.slots h.bridges x e) ih
    within_frame x ih w (is_false e) = outside cs refl no_rows w (λ r. clash (sym (of_row_in h.slots h.bridges x r) ∙ e))

    go : Split h cs → (o : Option Row) → row_of l ≡ o → Split h (l ∷ cs)
    go ih none e = without_form cs refl no_rows (λ x w. none_some (sym e ∙ text_read l x w))
    go ih (some x) e = within_frame x ih (row_had l x e) (is (row_in h.slots h.bridges x))

pub rows_mean : (h : Head) (t : List ℕ) → Valid h → RowsMean h t (read_rows h t)
rows_mean h t v = go (split h (cuts t))
  where
    by : (x : Reading) → RowsMean h t x → RowsMean h t (read_rows h t)
    by x m = subst (RowsMean h t) (sym (mean_rows h t x v m)) m

    go : Split h (cuts t) → RowsMean h t (read_rows h t)
    go (none_at_fault p) = by _ (all_pass p (in_place h _ v (pass_in h p)))
    go (without_form ms c p f) = by _ (no_row_lem ms c p f)
    go (outside ms c p w f) = by _ (row_outside ms c p w f)

-- ---- what is told of a reading

-- of an accepted text: its rows, how many, and that they are in place
pub record Told (h : Head) (t : List ℕ) (g : Head) (n : ℕ) : Type 0 where
  pub rows : List Row
  pub pass : RowsPass h (cuts t) rows
  pub place : InPlace h rows g
  pub number : n ≡ length rows

told : {h : Head} {t : List ℕ} {g : Head} {n : ℕ} → RowsMean h t (accepted g n) → Told h t g n
told (all_pass {xs} p q) = record { rows = xs; pass = p; place = q; number = refl }

-- an accepted head is the one handed in but for its busy cells
abbrev Rest : Head → Reading → Type 0
Rest h (accepted g n) = g ≡ with_busy h g.busy
Rest h (refused n c) = Unit

rest_unless : (h : Head) (o : Option Refusal) (n : ℕ) (x : Reading) → Rest h x → Rest h (unless o n x)
rest_unless h none n x r = r
rest_unless h (some c) n x r = tt

read_rest : (n : ℕ) (h : Head) (ms : List ℕ) (rs : List (Option Row)) → Rest h (read_rows_from n (with_busy h ms) rs)
unfolding read_rows_from
read_rest n h ms [] = refl
read_rest n h ms (none ∷ rs) = tt
read_rest n h ms (some x ∷ rs) =
    rest_unless h (first_of (row_causes h x)) (suc n) (read_rows_from (suc n) (with_busy h (with_row ms x)) rs) (read_rest (suc n) h (with_row ms x) rs)

module _ (h : Head) (t : List ℕ) (g : Head) (n : ℕ) (e : read_rows h t ≡ accepted g n) where
  -- slots, bridges and presets are the head's
  pub rows_rest : g ≡ with_busy h g.busy
  unfolding read_rows
  rows_rest = subst (Rest h) e (read_rest 0 h (replicate 8 0) (map row_of (lines t)))

  module _ (v : Valid h) where
    -- the text has rows only, all in the frame, and the head holds them
    pub rows_told : Told h t g n
    rows_told = told (subst (RowsMean h t) e (rows_mean h t v))

    -- a head that some text yields stays one
    pub rows_valid : Valid g
    rows_valid = rows_told.place.valid

    module _ {xs : List Row} (p : RowsPass h (cuts t) xs) where
      rows_place : InPlace h xs g
      rows_place =
          let same : with_busy h (rows_busy xs) ≡ g = accepted_one (sym (read_all h t p) ∙ e) in
          subst (InPlace h xs) same (in_place h xs v (pass_in h p))

      -- "the head holds their union": a cell is busy after reading exactly if some row takes it, slot and bridge counted from 1 there
      pub rows_cells : (s b : ℕ) → s < h.slots → b < h.bridges → busy_at g s b ≡ rows_take xs (suc b) (suc s)
      rows_cells = rows_place.cells

-- "Rows may come in any sequence and may overlap or touch": two texts whose rows take the same cells leave the same head, and so one text is written of both.
pub rows_one : (h : Head) (t u : List ℕ) (f g : Head) (m n : ℕ) {xs ys : List Row} → Valid h → RowsPass h (cuts t) xs → RowsPass h (cuts u) ys
    → ((s b : ℕ) → s < h.slots → b < h.bridges → rows_take xs (suc b) (suc s) ≡ rows_take ys (suc b) (suc s))
    → read_rows h t ≡ accepted f m → read_rows h u ≡ accepted g n → (f ≡ g) × (rows_text f.busy ≡ rows_text g.busy)
rows_one h t u f g m n {xs} {ys} v p q same e d =
    let a = rows_place h t f m e v p in
    let b = rows_place h u g n d v q in
    let here : InPlace h xs g = record {
      slots = b.slots;
      bridges = b.bridges;
      supply = b.supply;
      hold = b.hold;
      presets = b.presets;
      cells = λ i j k l. b.cells i j k l ∙ sym (same i j k l);
      valid = b.valid;
    } in
    let one : f ≡ g = in_place_one h xs f g a here in
    (one, ap (λ (k : Head). rows_text k.busy) one)

-- ---- what is written is read back

-- the text of some rows within the frame, bare
pub pass_bare : (h : Head) (xs : List Row) → All (RowIn h.slots h.bridges) xs → RowsPass h (cuts (bare xs)) xs
unfolding bare cuts_after
pass_bare h [] all.none = no_rows
pass_bare h (x ∷ xs) (all.more r w) =
    let l : TextOfRow (print_row false false false x) x = record { bridge_quoted = false; first_quoted = false; last_quoted = false; text = refl } in
    subst (λ (cs : List (List ℕ)). RowsPass h cs (x ∷ xs)) (sym (row_cut false false false x (bare xs))) (row_then_lem l r (pass_bare h xs w))

-- "A head written to rows and read again has the same busy cells": into this or any head of the same frame
pub rows_round : (h g : Head) → Valid h → Valid g → g.slots ≡ h.slots → g.bridges ≡ h.bridges
    → read_rows g (rows_text h.busy) ≡ accepted (with_busy g h.busy) (length (mask_rows 1 h.busy))
unfolding rows_text
rows_round h g v w slots bridges =
    mean_rows g (rows_text h.busy) _ w (all_pass (pass_bare g (mask_rows 1 h.busy) inside) (record {
      slots = refl;
      bridges = refl;
      supply = refl;
      hold = refl;
      presets = refl;
      cells = λ s b l m. sym (mask_rows_cells h.busy s b (below b) (omega (arith, w.slots_high)));
      valid = busy_valid g h.busy w v.masks (λ b. rw slots (v.in_frame_lem b)) (λ b l. v.no_bridge b (omega (arith, bridges)));
    }))
  where
    inside : All (RowIn g.slots g.bridges) (mask_rows 1 h.busy)
    inside = rw (slots, bridges) (rows_in h v)

    below : (b : ℕ) → get_or h.busy b 0 < 2 ^ 64
    below b = let top : 2 ^ h.slots ≤ 2 ^ 64 = pow_mono v.slots_high in omega (arith, v.in_frame_lem b)

-- Of a head that was read the writer makes rows that are read as that head: not the bytes that came, but the same busy cells.
pub rows_again : (h : Head) (t : List ℕ) (g : Head) (n : ℕ) → Valid h → read_rows h t ≡ accepted g n
    → read_rows h (rows_text g.busy) ≡ accepted g (length (mask_rows 1 g.busy))
rows_again h t g n v e =
    let rest = rows_rest h t g n e in
    rows_round g h (rows_valid h t g n e v) v (sym (ap (λ (k : Head). k.slots) rest)) (sym (ap (λ (k : Head). k.bridges) rest))
    ∙ ap (λ (k : Head). accepted k (length (mask_rows 1 g.busy))) (sym rest)
