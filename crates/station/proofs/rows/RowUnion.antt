-- Laws of the union of rows: a cell is busy exactly if some row takes it.
--
-- In order: the bits of a union (`has_bit_or`); a row within the frame, as a test (`row_in_of`, `of_row_in`); the bits of one row's mask (`has_bit_row`); one row more
-- (`with_row_cells`); `union_cells`, and the shape of the masks (`union_length`, `union_below`, `union_past`), by which a valid head stays valid with them (`busy_valid`, `union_valid`).
-- Up to 64 slots no bit is lost: `union_cells` holds of the 64th too, and `row_whole` says it of a row over all slots.
-- Assumes nothing.
use Prim.Native.Nat.{ℕ, suc, ◌+◌, ◌-◌, ◌*◌, ◌/◌, ◌%◌, ◌^◌, ◌≤◌, ◌<◌, max}
use native.Mathlib.Omega.{arith}
use native.Mathlib.Nat.{zero-div}
use mathlib.Core.Path.{◌≡◌, refl, sym, ◌∙◌, ap}
use mathlib.Core.Bool.{Bool, true, false, ◌&&◌, ◌||◌, or_assoc, or-false}
use mathlib.Core.List.{List, [], ◌∷◌}
use lib.ListN.{length, get_or, replicate, length-set}
use lib.Seq.{get_or-set_same, get_or-set_other}
use lib.Dec.{eqb, leb}
use lib.Pow.{pow_pos}
use lib.Bits.{bit_or, or_step, or_shr, or_lt, or_zero_l}
use Rattle.laws.proofs.Tests.{Is, is_true, is_false, is, both, left_of, right_of}
use Rattle.laws.proofs.Lists.{All, more}
use Rattle.laws.proofs.Comparisons.{eq_of, ne_of, eqb_yes, eqb_no}
use Rattle.station.specs.Head.{Head, Valid, has_bit, within, with_busy}
use Rattle.station.specs.Form.{last}
use Rattle.station.specs.Writing.{mask_to, mask_of, ordered, covers}
use Rattle.station.specs.Row.{Row, row, RowIn, row_in, with_row, row_takes, rows_take}
use Rattle.station.proofs.rows.RowLists.{busy_with, rows_busy}
use Rattle.station.proofs.Stretches.{stretch_of, of_stretch, mask_lt}
use Rattle.station.proofs.ValidHead.{within_low, within_high, of_within}
use Rattle.station.proofs.BusyCells.{has_bit_mask}
use Rattle.station.proofs.Writing.{no_mask}

-- ---- the bits of a union

or_odd : (a b : ℕ) → eqb (bit_or a b % 2) 1 ≡ (eqb (a % 2) 1 || eqb (b % 2) 1)
or_odd a b = go (is (eqb (a % 2) 1)) (is (eqb (b % 2) 1))
  where
    low : bit_or a b % 2 ≡ max (a % 2) (b % 2)
    low =
        let s : bit_or a b ≡ bit_or (a / 2) (b / 2) * 2 + max (a % 2) (b % 2) = or_step a b in
        let m : max (a % 2) (b % 2) < 2 = omega arith in
        omega arith

    go : Is (eqb (a % 2) 1) → Is (eqb (b % 2) 1) → eqb (bit_or a b % 2) 1 ≡ (eqb (a % 2) 1 || eqb (b % 2) 1)
    go (is_true e) f = let h = eq_of (a % 2) 1 e in rw e (eqb_yes (bit_or a b % 2) 1 (omega (arith, low)))
    go (is_false e) (is_true f) = let h = eq_of (b % 2) 1 f in rw (e, f) (eqb_yes (bit_or a b % 2) 1 (omega (arith, low)))
    go (is_false e) (is_false f) =
        let g : a % 2 ≡ 1 → ⊥ = ne_of (a % 2) 1 e in
        let h : b % 2 ≡ 1 → ⊥ = ne_of (b % 2) 1 f in
        let zero_a : a % 2 ≡ 0 = omega arith in
        let zero-b : b % 2 ≡ 0 = omega arith in
        rw (e, f) (eqb_no (bit_or a b % 2) 1 (λ q. omega (arith, low)))

pub has_bit_or : (a b s : ℕ) → has_bit (bit_or a b) s ≡ (has_bit a s || has_bit b s)
has_bit_or a b s = ap (λ (k : ℕ). eqb (k % 2) 1) (or_shr a b s) ∙ or_odd (a / 2 ^ s) (b / 2 ^ s)

-- ---- a row within the frame, as a test

pub row_in_of : (slots bridges : ℕ) (x : Row) → row_in slots bridges x ≡ true → RowIn slots bridges x
row_in_of slots bridges x e =
    let b = left_of (within 1 bridges x.bridge) (leb 1 x.first && leb x.first x.last && leb x.last slots) e in
    let s = stretch_of 1 slots x.first x.last (right_of (within 1 bridges x.bridge) _ e) in
    record {
      bridge_low = within_low 1 bridges x.bridge b;
      bridge_high = within_high 1 bridges x.bridge b;
      first_low = s.low;
      up = s.up;
      last_high = s.high;
    }

pub of_row_in : (slots bridges : ℕ) (x : Row) → RowIn slots bridges x → row_in slots bridges x ≡ true
of_row_in slots bridges x r =
    both (within 1 bridges x.bridge) _ (of_within 1 bridges x.bridge r.bridge_low r.bridge_high)
    (of_stretch 1 slots x.first x.last r.first_low r.up r.last_high)

-- ---- one row's mask

module _ (slots bridges : ℕ) (x : Row) (high : slots ≤ 64) (r : RowIn slots bridges x) where
  in_order : ordered 1 slots (last x.first x.last) ≡ true
  unfolding ordered
  in_order = of_stretch 1 slots x.first x.last r.first_low r.up r.last_high

  pub row_below : mask_to x.first x.last < 2 ^ slots
  unfolding mask_of
  row_below = mask_lt slots (last x.first x.last) in_order

  pub has_bit_row : (s : ℕ) → s < 64 → has_bit (mask_to x.first x.last) s ≡ within x.first x.last (suc s)
  unfolding mask_of covers
  has_bit_row s l = has_bit_mask slots (last x.first x.last) s high in_order l

  -- ---- one row more

  module _ (ms : List ℕ) (b : ℕ) (m : bridges ≤ length ms) where
    -- the mask of the row's bridge
    with_row_here : x.bridge ≡ suc b → get_or (with_row ms x) b 0 ≡ bit_or (get_or ms b 0) (mask_to x.first x.last)
    unfolding with_row
    with_row_here at =
        let top = r.bridge_high in
        let here : x.bridge - 1 ≡ b = omega arith in
        rw here (get_or-set_same ms b (bit_or (get_or ms b 0) (mask_to x.first x.last)) 0 (omega arith))

    -- and of another
    with_row_other : (x.bridge ≡ suc b → ⊥) → get_or (with_row ms x) b 0 ≡ get_or ms b 0
    unfolding with_row
    with_row_other other =
        let low = r.bridge_low in
        get_or-set_other ms (x.bridge - 1) b (bit_or (get_or ms (x.bridge - 1) 0) (mask_to x.first x.last)) 0 (λ q. other (omega arith))

    pub with_row_cells : (s : ℕ) → s < 64 → has_bit (get_or (with_row ms x) b 0) s ≡ (has_bit (get_or ms b 0) s || row_takes x (suc b) (suc s))
    with_row_cells s l = go (is (eqb x.bridge (suc b)))
      where
        go : Is (eqb x.bridge (suc b)) → has_bit (get_or (with_row ms x) b 0) s ≡ (has_bit (get_or ms b 0) s || row_takes x (suc b) (suc s))
        go (is_true e) =
            rw e
            (ap (λ (k : ℕ). has_bit k s) (with_row_here (eq_of x.bridge (suc b) e))
            ∙ has_bit_or (get_or ms b 0) (mask_to x.first x.last) s
            ∙ ap (λ (k : Bool). has_bit (get_or ms b 0) s || k) (has_bit_row s l))
        go (is_false e) =
            rw (e, or-false (has_bit (get_or ms b 0) s)) (ap (λ (k : ℕ). has_bit k s) (with_row_other (ne_of x.bridge (suc b) e)))

    pub with_row_below : get_or ms b 0 < 2 ^ slots → get_or (with_row ms x) b 0 < 2 ^ slots
    with_row_below h = go (is (eqb x.bridge (suc b)))
      where
        go : Is (eqb x.bridge (suc b)) → get_or (with_row ms x) b 0 < 2 ^ slots
        go (is_true e) = rw (with_row_here (eq_of x.bridge (suc b) e)) (or_lt slots (get_or ms b 0) (mask_to x.first x.last) h row_below)
        go (is_false e) = rw (with_row_other (ne_of x.bridge (suc b) e)) h

    pub with_row_past : bridges ≤ b → get_or (with_row ms x) b 0 ≡ get_or ms b 0
    with_row_past h = let top = r.bridge_high in with_row_other (λ q. omega arith)

pub with_row_length : (ms : List ℕ) (x : Row) → length (with_row ms x) ≡ length ms
unfolding with_row
with_row_length ms x = length-set ms (x.bridge - 1) (bit_or (get_or ms (x.bridge - 1) 0) (mask_to x.first x.last))

-- ---- all rows, after some masks

module _ (slots bridges : ℕ) (high : slots ≤ 64) where
  with_cells : (xs : List Row) (ms : List ℕ) (b s : ℕ) → All (RowIn slots bridges) xs → bridges ≤ length ms → s < 64
      → has_bit (get_or (busy_with ms xs) b 0) s ≡ (has_bit (get_or ms b 0) s || rows_take xs (suc b) (suc s))
  unfolding busy_with rows_take
  with_cells [] ms b s w m l = sym (or-false (has_bit (get_or ms b 0) s))
  with_cells (x ∷ xs) ms b s (more r w) m l =
      with_cells xs (with_row ms x) b s w (omega (arith, with_row_length ms x)) l
      ∙ ap (λ (k : Bool). k || rows_take xs (suc b) (suc s)) (with_row_cells slots bridges x high r ms b m s l)
      ∙ or_assoc (has_bit (get_or ms b 0) s) (row_takes x (suc b) (suc s)) (rows_take xs (suc b) (suc s))

  with_below : (xs : List Row) (ms : List ℕ) (b : ℕ) → All (RowIn slots bridges) xs → bridges ≤ length ms
      → get_or ms b 0 < 2 ^ slots → get_or (busy_with ms xs) b 0 < 2 ^ slots
  unfolding busy_with
  with_below [] ms b w m h = h
  with_below (x ∷ xs) ms b (more r w) m h =
      with_below xs (with_row ms x) b w (omega (arith, with_row_length ms x)) (with_row_below slots bridges x high r ms b m h)

  with_past : (xs : List Row) (ms : List ℕ) (b : ℕ) → All (RowIn slots bridges) xs → bridges ≤ length ms → bridges ≤ b
      → get_or (busy_with ms xs) b 0 ≡ get_or ms b 0
  unfolding busy_with
  with_past [] ms b w m h = refl
  with_past (x ∷ xs) ms b (more r w) m h =
      with_past xs (with_row ms x) b w (omega (arith, with_row_length ms x)) h ∙ with_row_past slots bridges x high r ms b m h

with_length : (xs : List Row) (ms : List ℕ) → length (busy_with ms xs) ≡ length ms
unfolding busy_with
with_length [] ms = refl
with_length (x ∷ xs) ms = with_length xs (with_row ms x) ∙ with_row_length ms x

-- ---- from no busy cell

no_bit : (s : ℕ) → has_bit 0 s ≡ false
no_bit s = let e : 0 / 2 ^ s ≡ 0 = zero-div (2 ^ s) in rw e refl

-- there is a mask for each of eight bridges
pub union_length : (xs : List Row) → length (rows_busy xs) ≡ 8
unfolding rows_busy
union_length xs = with_length xs (replicate 8 0)

module _ (slots bridges : ℕ) (high : slots ≤ 64) (most : bridges ≤ 8) (xs : List Row) (w : All (RowIn slots bridges) xs) where
  -- a cell is busy after reading exactly if some row takes it, slot and bridge counted from 1 there
  pub union_cells : (s b : ℕ) → s < 64 → has_bit (get_or (rows_busy xs) b 0) s ≡ rows_take xs (suc b) (suc s)
  unfolding rows_busy
  union_cells s b l =
      with_cells slots bridges high xs (replicate 8 0) b s w most l
      ∙ ap (λ (k : Bool). k || rows_take xs (suc b) (suc s)) (ap (λ (k : ℕ). has_bit k s) (no_mask 8 b) ∙ no_bit s)

  -- no bit stands past the last slot
  pub union_below : (b : ℕ) → get_or (rows_busy xs) b 0 < 2 ^ slots
  unfolding rows_busy
  union_below b = with_below slots bridges high xs (replicate 8 0) b w most (omega (arith, no_mask 8 b, pow_pos slots))

  -- nor any on a bridge past the last
  pub union_past : (b : ℕ) → bridges ≤ b → get_or (rows_busy xs) b 0 ≡ 0
  unfolding rows_busy
  union_past b h = with_past slots bridges high xs (replicate 8 0) b w most h ∙ no_mask 8 b

-- a row over all slots takes every bit of its mask, up to the 64th
pub row_whole : (slots b : ℕ) → 1 ≤ slots → slots ≤ 64 → b < 8 → get_or (rows_busy (row (suc b) 1 slots ∷ [])) b 0 ≡ 2 ^ slots - 1
unfolding rows_busy busy_with
row_whole slots b low high l =
    let r : RowIn slots 8 (row (suc b) 1 slots) =
    record { bridge_low = omega arith; bridge_high = omega arith; first_low = omega arith; up = low; last_high = omega arith } in
    with_row_here slots 8 (row (suc b) 1 slots) high r (replicate 8 0) b (omega arith) refl
    ∙ ap (λ (k : ℕ). bit_or k (2 ^ slots - 1)) (no_mask 8 b) ∙ or_zero_l (2 ^ slots - 1)

-- a head that some text yields stays one with other masks that lie in its frame
pub busy_valid : (h : Head) (ms : List ℕ) → Valid h → length ms ≡ 8 → ((b : ℕ) → get_or ms b 0 < 2 ^ h.slots) → ((b : ℕ) → h.bridges ≤ b → get_or ms b 0 ≡ 0)
    → Valid (with_busy h ms)
busy_valid h ms v masks below past = record {
  slots_low = v.slots_low;
  slots_high = v.slots_high;
  bridges_low = v.bridges_low;
  bridges_high = v.bridges_high;
  supply = v.supply;
  masks = masks;
  in_frame_lem = below;
  no_bridge = past;
  number_of_presets = v.number_of_presets;
  limits = v.limits;
  distinct = v.distinct;
}

-- so with the rows in place of its busy lines
pub union_valid : (h : Head) (xs : List Row) → Valid h → All (RowIn h.slots h.bridges) xs → Valid (with_busy h (rows_busy xs))
union_valid h xs v w =
    busy_valid h (rows_busy xs) v (union_length xs) (union_below h.slots h.bridges v.slots_high v.bridges_high xs w)
    (union_past h.slots h.bridges v.slots_high v.bridges_high xs w)
