-- Laws of writing rows: which rows are written of masks, how long they are, and that they are in order. That they are read back is in RowsMeaning.
--
-- In order: the rows of a mask lie in the frame (`mask_rows_in`) and take the mask's ones (`mask_rows_cells`); masks with the same ones are the same (`mask_ext`); the rows of a
-- head lie in its frame (`rows_in`); the text of some rows and then others (`bare_append`), and how long a text of rows is (`rows_fit`); the rows are in order (`rows_ordered`).
-- Assumes nothing.
use Prim.Native.Nat.{ℕ, zero, suc, ◌+◌, ◌-◌, ◌*◌, ◌/◌, ◌%◌, ◌^◌, ◌≤◌, ◌<◌, max}
use native.Mathlib.Omega.{arith}
use native.Mathlib.Nat.{pow-suc, le_refl}
use native.Mathlib.Numerals.{one-add}
use mathlib.Core.Path.{◌≡◌, refl, sym, ◌∙◌, ap}
use mathlib.Core.Bool.{Bool, true, false, ◌&&◌, ◌||◌, or_assoc, or-false, and-false}
use mathlib.Core.Option.{Option, some}
use mathlib.Core.Option as option
use mathlib.Core.List.{List, [], ◌∷◌, ◌++◌, map, map-append}
use lib.ListN.{length, get_or, length-append}
use lib.Dec.{eqb, ltb, leb}
use lib.Pow.{pow_mono}
use Rattle.laws.proofs.Tests.{Is, is_true, is_false, is}
use Rattle.laws.proofs.Lists.{All, none, more, all_imp, all_append, Pairwise, empty, first, pairwise_append}
use Rattle.laws.proofs.Comparisons.{lt_of, ge_of, le_of, gt_of, eq_of, ne_of, eqb_yes, eqb_no}
use Rattle.station.specs.Head.{Head, Valid, has_bit, within}
use Rattle.station.specs.Text.{bytes, ◌then◌, join}
use Rattle.station.specs.Decimal.{digits}
use Rattle.station.specs.Form.{Pairs, last, next}
use Rattle.station.specs.Writing.{ordered, stretches, covers}
use Rattle.station.specs.Row.{Row, row, print_row, RowIn, row_takes, rows_take, stretch_rows, bridge_rows, mask_rows, bare}
use Rattle.station.specs.Row.{Before, lower_bridge, earlier_slot, rows_text}
use Rattle.station.proofs.Decimal.{digits_length}
use Rattle.station.proofs.output.Runs.{join_append}
use Rattle.station.proofs.Stretches.{first_stretch, rest_ordered, last_stretch, stretches_ordered, stretches_zero}
use Rattle.station.proofs.BusyCells.{some_covers, stretches_has_bit, has_bit_suc, has_bit_zero}

-- ---- the rows of a mask lie in the frame

stretch_rows_in : (lo slots bridges b : ℕ) (p : Pairs) → 1 ≤ lo → 1 ≤ b → b ≤ bridges → ordered lo slots p ≡ true
    → All (RowIn slots bridges) (stretch_rows b p)
unfolding stretch_rows
stretch_rows_in lo slots bridges b (last f t) l low high o =
    let a = last_stretch lo slots f t o in
    more {a = row b f t} (record { bridge_low = low; bridge_high = high; first_low = omega arith; up = a.up; last_high = a.high }) none
stretch_rows_in lo slots bridges b (next f t p) l low high o =
    let a = first_stretch lo slots f t p o in
    more {a = row b f t} (record { bridge_low = low; bridge_high = high; first_low = omega arith; up = a.up; last_high = a.high })
    (stretch_rows_in (t + 2) slots bridges b p (omega arith) low high (rest_ordered lo slots f t p o))

module _ (slots : ℕ) (top : slots ≤ 64) where
  bridge_rows_in : (bridges b m : ℕ) → 1 ≤ b → (0 < m → b ≤ bridges) → m < 2 ^ slots → All (RowIn slots bridges) (bridge_rows b (stretches 64 1 m))
  bridge_rows_in bridges b zero low high h = rw (stretches_zero 64 1) none
  bridge_rows_in bridges b (suc m) low high h = go (stretches 64 1 (suc m)) refl
    where
      go : (o : Option Pairs) → stretches 64 1 (suc m) ≡ o → All (RowIn slots bridges) (bridge_rows b o)
      go option.none e = none
      go (some p) e =
          stretch_rows_in 1 slots bridges b p (le_refl 1) low (high (omega arith)) (stretches_ordered slots (suc m) p top h e)

  -- masks below 2 ^ slots, and none past the last bridge
  pub mask_rows_in : (bridges c : ℕ) (ms : List ℕ) → 1 ≤ c → ((b : ℕ) → get_or ms b 0 < 2 ^ slots) → ((b : ℕ) → bridges < c + b → get_or ms b 0 ≡ 0)
      → All (RowIn slots bridges) (mask_rows c ms)
  unfolding mask_rows
  mask_rows_in bridges c [] low f z = none
  mask_rows_in bridges c (m ∷ ms) low f z =
      all_append (bridge_rows_in bridges c m low (λ q. inside q (is (leb c bridges))) (f 0))
      (mask_rows_in bridges (suc c) ms (omega arith) (λ b. f (suc b)) (λ b l. z (suc b) (omega arith)))
    where
      inside : 0 < m → Is (leb c bridges) → c ≤ bridges
      inside q (is_true e) = le_of c bridges e
      inside q (is_false e) = absurd (let h = gt_of c bridges e in omega (arith, z 0 (omega arith)))

-- ---- and take its ones

rows_take_append : (xs ys : List Row) (b s : ℕ) → rows_take (xs ++ ys) b s ≡ (rows_take xs b s || rows_take ys b s)
unfolding rows_take
rows_take_append [] ys b s = refl
rows_take_append (x ∷ xs) ys b s =
    ap (λ (k : Bool). row_takes x b s || k) (rows_take_append xs ys b s) ∙ sym (or_assoc (row_takes x b s) (rows_take xs b s) (rows_take ys b s))

stretch_rows_take : (c : ℕ) (p : Pairs) (b s : ℕ) → rows_take (stretch_rows c p) b s ≡ (eqb c b && covers p s)
unfolding stretch_rows rows_take covers
stretch_rows_take c (last f t) b s = or-false (eqb c b && within f t s)
stretch_rows_take c (next f t p) b s = ap (λ (k : Bool). (eqb c b && within f t s) || k) (stretch_rows_take c p b s) ∙ both_parts (eqb c b)
  where
    both_parts : (k : Bool) → ((k && within f t s) || (k && covers p s)) ≡ (k && (within f t s || covers p s))
    both_parts true = refl
    both_parts false = refl

bridge_rows_take : (c : ℕ) (o : Option Pairs) (b s : ℕ) → rows_take (bridge_rows c o) b s ≡ (eqb c b && some_covers o s)
bridge_rows_take c option.none b s = unfold rows_take in (sym (and-false (eqb c b)))
bridge_rows_take c (some p) b s = stretch_rows_take c p b s

-- the rows of later bridges
later_take : (c : ℕ) (ms : List ℕ) (b s : ℕ) → b < c → rows_take (mask_rows c ms) b s ≡ false
unfolding mask_rows
later_take c [] b s h = unfold rows_take in refl
later_take c (m ∷ ms) b s h =
    rows_take_append (bridge_rows c (stretches 64 1 m)) (mask_rows (suc c) ms) b s
    ∙ (rw (bridge_rows_take c (stretches 64 1 m) b s, eqb_no c b (λ q. omega arith)) (later_take (suc c) ms b s (omega arith)))

mask_rows_take : (c : ℕ) (ms : List ℕ) (b s : ℕ) → rows_take (mask_rows c ms) (c + b) s ≡ some_covers (stretches 64 1 (get_or ms b 0)) s
unfolding mask_rows
mask_rows_take c [] b s = unfold rows_take in (ap (λ (o : Option Pairs). some_covers o s) (sym (stretches_zero 64 1)))
mask_rows_take c (m ∷ ms) zero s =
    rows_take_append (bridge_rows c (stretches 64 1 m)) (mask_rows (suc c) ms) (c + 0) s
    ∙ (rw (bridge_rows_take c (stretches 64 1 m) (c + 0) s, eqb_yes c (c + 0) (omega arith), later_take (suc c) ms (c + 0) s (omega arith))
    (or-false (some_covers (stretches 64 1 m) s)))
mask_rows_take c (m ∷ ms) (suc b) s =
    let at : c + suc b ≡ suc c + b = omega arith in
    rows_take_append (bridge_rows c (stretches 64 1 m)) (mask_rows (suc c) ms) (c + suc b) s
    ∙ (rw (bridge_rows_take c (stretches 64 1 m) (c + suc b) s, eqb_no c (c + suc b) (λ q. omega arith), at) (mask_rows_take (suc c) ms b s))

-- the rows of masks take a cell exactly if its bit is 1, slot and bridge counted from 1 there
pub mask_rows_cells : (ms : List ℕ) (s b : ℕ) → get_or ms b 0 < 2 ^ 64 → s < 64 → rows_take (mask_rows 1 ms) (suc b) (suc s) ≡ has_bit (get_or ms b 0) s
mask_rows_cells ms s b h l =
    (rw (← one-add b, ← one-add s) (mask_rows_take 1 ms b (1 + s))) ∙ stretches_has_bit 64 1 (get_or ms b 0) s h l

-- ---- masks with the same ones are the same

odd_ext : (a b : ℕ) → eqb (a % 2) 1 ≡ eqb (b % 2) 1 → a % 2 ≡ b % 2
odd_ext a b e = go (is (eqb (b % 2) 1))
  where
    go : Is (eqb (b % 2) 1) → a % 2 ≡ b % 2
    go (is_true f) = omega (arith, eq_of (a % 2) 1 (e ∙ f), eq_of (b % 2) 1 f)
    go (is_false f) =
        let g : a % 2 ≡ 1 → ⊥ = ne_of (a % 2) 1 (e ∙ f) in
        let h : b % 2 ≡ 1 → ⊥ = ne_of (b % 2) 1 f in
        omega arith

pub mask_ext : (k a b : ℕ) → a < 2 ^ k → b < 2 ^ k → ((i : ℕ) → i < k → has_bit a i ≡ has_bit b i) → a ≡ b
mask_ext zero a b h l e = omega arith
mask_ext (suc k) a b h l e =
    let p : 2 ^ suc k ≡ 2 ^ k * 2 = pow-suc 2 k in
    let half : a / 2 ≡ b / 2 =
    mask_ext k (a / 2) (b / 2) (omega arith) (omega arith) (λ i n. sym (has_bit_suc a i) ∙ e (suc i) (omega arith) ∙ has_bit_suc b i) in
    let odd : a % 2 ≡ b % 2 = odd_ext a b (sym (has_bit_zero a) ∙ e 0 (omega arith) ∙ has_bit_zero b) in
    omega arith

-- ---- the rows of a head

-- the rows written of a head lie in its frame
pub rows_in : (h : Head) → Valid h → All (RowIn h.slots h.bridges) (mask_rows 1 h.busy)
rows_in h v = mask_rows_in h.slots v.slots_high h.bridges 1 h.busy (le_refl 1) v.in_frame_lem (λ b l. v.no_bridge b (omega arith))

-- ---- how long a text of rows is

-- the bytes that rows of one bridge from slot lo on can take: seven a row below slot 10, nine from there on, and two slots for each
abbrev bytes_from : ℕ → ℕ
bytes_from lo = 7 * ((10 - lo) / 2) + 9 * ((66 - max lo 10) / 2)

row_length : (b f t : ℕ) → length (print_row false false false (row b f t)) ≡ length (digits b) + length (digits f) + length (digits t) + 4
unfolding print_row bytes
row_length b f t =
    omega (
      arith,
      length-append (digits b) (bytes "," then digits f then bytes "," then digits t then bytes "\r\n"),
      length-append (digits f) (bytes "," then digits t then bytes "\r\n"),
      length-append (digits t) (bytes "\r\n"),
    )

-- one row, and those that may follow it
row_size : (lo b f t : ℕ) → b < 10 → 1 ≤ lo → lo ≤ f → f ≤ t → t ≤ 64 → length (print_row false false false (row b f t)) + bytes_from (t + 2) ≤ bytes_from lo
row_size lo b f t small low l u h = go (is (ltb t 10)) (is (ltb f 10))
  where
    go : Is (ltb t 10) → Is (ltb f 10) → length (print_row false false false (row b f t)) + bytes_from (t + 2) ≤ bytes_from lo
    go (is_true e) q =
        let x = lt_of t 10 e in
        omega (arith, row_length b f t, digits_length 1 b (omega arith) small, digits_length 1 f (omega arith) (omega arith), digits_length 1 t (omega arith) x)
    go (is_false e) (is_true q) =
        let x = ge_of t 10 e in
        let y = lt_of f 10 q in
        omega (arith, row_length b f t, digits_length 1 b (omega arith) small, digits_length 1 f (omega arith) y, digits_length 2 t (omega arith) (omega arith))
    go (is_false e) (is_false q) =
        let x = ge_of t 10 e in
        let y = ge_of f 10 q in
        omega (
          arith,
          row_length b f t,
          digits_length 1 b (omega arith) small,
          digits_length 2 f (omega arith) (omega arith),
          digits_length 2 t (omega arith) (omega arith),
        )

bare_cons : (x : Row) (xs : List Row) → length (bare (x ∷ xs)) ≡ length (print_row false false false x) + length (bare xs)
unfolding bare
bare_cons x xs = length-append (print_row false false false x) (join (map (print_row false false false) xs))

bare_none : length (bare []) ≡ 0
unfolding bare
bare_none = refl

pub bare_append : (xs ys : List Row) → bare (xs ++ ys) ≡ bare xs ++ bare ys
unfolding bare
bare_append xs ys = ap join (map-append (print_row false false false) xs ys) ∙ join_append (map (print_row false false false) xs) (map (print_row false false false) ys)

stretch_rows_size : (lo b : ℕ) (p : Pairs) → b < 10 → 1 ≤ lo → ordered lo 64 p ≡ true → length (bare (stretch_rows b p)) ≤ bytes_from lo
unfolding stretch_rows
stretch_rows_size lo b (last f t) small low o =
    let a = last_stretch lo 64 f t o in
    let r = row_size lo b f t small low a.low a.up a.high in
    omega (arith, bare_cons (row b f t) [], bare_none)
stretch_rows_size lo b (next f t p) small low o =
    let a = first_stretch lo 64 f t p o in
    let r = row_size lo b f t small low a.low a.up a.high in
    let n = stretch_rows_size (t + 2) b p small (omega arith) (rest_ordered lo 64 f t p o) in
    omega (arith, bare_cons (row b f t) (stretch_rows b p))

mask_rows_size : (c : ℕ) (ms : List ℕ) → c + length ms ≤ 10 → ((b : ℕ) → get_or ms b 0 < 2 ^ 64) → length (bare (mask_rows c ms)) ≤ 280 * length ms
unfolding mask_rows
mask_rows_size c [] h f = omega (arith, bare_none)
mask_rows_size c (m ∷ ms) h f = go (mask_rows_size (suc c) ms (omega arith) (λ b. f (suc b))) (stretches 64 1 m) refl
  where
    go : length (bare (mask_rows (suc c) ms)) ≤ 280 * length ms → (o : Option Pairs) → stretches 64 1 m ≡ o
        → length (bare (bridge_rows c o ++ mask_rows (suc c) ms)) ≤ 280 * suc (length ms)
    go ih option.none e = omega arith
    go ih (some p) e =
        omega (
          arith,
          ap length (bare_append (stretch_rows c p) (mask_rows (suc c) ms)) ∙ length-append (bare (stretch_rows c p)) (bare (mask_rows (suc c) ms)),
          stretch_rows_size 1 c p (omega arith) (le_refl 1) (stretches_ordered 64 m p (le_refl 64) (f 0) e),
        )

-- the rows of a head take at most 2,240 bytes, and some head's do: proofs/rows/RowExamples, `rows_longest`
pub rows_fit : (h : Head) → Valid h → length (rows_text h.busy) ≤ 2240
unfolding rows_text
rows_fit h v =
    let top : 2 ^ h.slots ≤ 2 ^ 64 = pow_mono v.slots_high in
    let masks : length h.busy ≡ 8 = v.masks in
    omega (arith, mask_rows_size 1 h.busy (omega arith) (λ b. omega (arith, v.in_frame_lem b)))

-- ---- the rows are in order

-- rows of bridge b from slot lo on
record From (b lo : ℕ) (x : Row) : Type 0 where
  bridge : x.bridge ≡ b
  slot : lo ≤ x.first

stretch_rows_from : (lo slots b : ℕ) (p : Pairs) → ordered lo slots p ≡ true → All (From b lo) (stretch_rows b p)
unfolding stretch_rows
stretch_rows_from lo slots b (last f t) o = more {a = row b f t} (record { bridge = refl; slot = (last_stretch lo slots f t o).low }) none
stretch_rows_from lo slots b (next f t p) o =
    let a = first_stretch lo slots f t p o in
    more {a = row b f t} (record { bridge = refl; slot = a.low })
    (all_imp (λ x r. record { bridge = r.bridge; slot = omega (arith, r.slot) }) (stretch_rows_from (t + 2) slots b p (rest_ordered lo slots f t p o)))

stretch_rows_ordered : (lo slots b : ℕ) (p : Pairs) → ordered lo slots p ≡ true → Pairwise Before (stretch_rows b p)
unfolding stretch_rows
stretch_rows_ordered lo slots b (last f t) o = first none empty
stretch_rows_ordered lo slots b (next f t p) o =
    let q = rest_ordered lo slots f t p o in
    first (all_imp (λ x r. earlier_slot (sym r.bridge) r.slot) (stretch_rows_from (t + 2) slots b p q)) (stretch_rows_ordered (t + 2) slots b p q)

module _ (slots : ℕ) (top : slots ≤ 64) where
  mask_rows_above : (c : ℕ) (ms : List ℕ) → ((b : ℕ) → get_or ms b 0 < 2 ^ slots) → All (λ x. c ≤ x.bridge) (mask_rows c ms)
  unfolding mask_rows
  mask_rows_above c [] f = none
  mask_rows_above c (m ∷ ms) f =
      all_append (go (stretches 64 1 m) refl) (all_imp (λ x h. omega arith) (mask_rows_above (suc c) ms (λ b. f (suc b))))
    where
      go : (o : Option Pairs) → stretches 64 1 m ≡ o → All (λ x. c ≤ x.bridge) (bridge_rows c o)
      go option.none e = none
      go (some p) e =
          all_imp (λ x r. omega (arith, r.bridge)) (stretch_rows_from 1 slots c p (stretches_ordered slots m p top (f 0) e))

  pub mask_rows_ordered : (c : ℕ) (ms : List ℕ) → ((b : ℕ) → get_or ms b 0 < 2 ^ slots) → Pairwise Before (mask_rows c ms)
  unfolding mask_rows
  mask_rows_ordered c [] f = empty
  mask_rows_ordered c (m ∷ ms) f = go (mask_rows_ordered (suc c) ms (λ b. f (suc b))) (stretches 64 1 m) refl
    where
      go : Pairwise Before (mask_rows (suc c) ms) → (o : Option Pairs) → stretches 64 1 m ≡ o → Pairwise Before (bridge_rows c o ++ mask_rows (suc c) ms)
      go ih option.none e = ih
      go ih (some p) e =
          let o : ordered 1 slots p ≡ true = stretches_ordered slots m p top (f 0) e in
          pairwise_append (stretch_rows_ordered 1 slots c p o) ih
          (all_imp (λ x r. all_imp (λ y h. lower_bridge (omega (arith, r.bridge, h))) (mask_rows_above (suc c) ms (λ b. f (suc b)))) (stretch_rows_from 1 slots c p o))

-- the rows written of a head are in order, by bridge, then by slot, and no two touch
pub rows_ordered : (h : Head) → Valid h → Pairwise Before (mask_rows 1 h.busy)
rows_ordered h v = mask_rows_ordered h.slots v.slots_high 1 h.busy v.in_frame_lem
