-- Rows in order are the only ones with their cells: so writing gives the one list of stretches by bridge, then by slot.
--
-- In order: the cells of a row (`Takes`) and those past it (`Past`); the first row of a list in order (`cell_cases`); two lists in order with the same cells are the same
-- (`rows_unique`); rows in order are those written of their union, so that their text is written as it was read (`rows_canonical`).
-- Assumes nothing.
use Prim.Native.Nat.{ℕ, zero, suc, ◌+◌, ◌^◌, ◌≤◌, ◌<◌}
use native.Mathlib.Omega.{arith}
use mathlib.Core.Path.{◌≡◌, refl, sym, ◌∙◌, ap}
use mathlib.Core.Logic.{◌⊎◌, inl, inr}
use mathlib.Core.Bool.{true}
use mathlib.Core.List.{List, [], ◌∷◌}
use lib.ListN.{get_or}
use lib.Dec.{eqb, leb}
use lib.Pow.{pow_mono}
use Rattle.laws.proofs.Tests.{Is, is_true, is_false, is, clash, both, left_of, right_of, test_ext, or_left, or_right, or_cases}
use Rattle.laws.proofs.Comparisons.{le_of, gt_of, eq_of, eqb_yes}
use Rattle.laws.proofs.Lists.{All, none, more, Pairwise, first}
use Rattle.station.specs.Head.{Head, Valid, within, with_busy}
use Rattle.station.specs.Row.{Row, row, RowIn, row_takes, rows_take, mask_rows, Before, lower_bridge, earlier_slot, bare, rows_text}
use Rattle.station.specs.Reading.{accepted}
use Rattle.station.specs.ReadRows.{read_rows}
use Rattle.station.proofs.rows.RowLists.{rows_busy}
use Rattle.station.proofs.ValidHead.{within_low, within_high, of_within}
use Rattle.station.proofs.rows.RowUnion.{union_cells, union_below, union_past}
use Rattle.station.proofs.rows.RowsWritten.{mask_rows_in, mask_rows_cells, mask_rows_ordered}
use Rattle.station.proofs.rows.RowsMeaning.{accepted_one, read_all, pass_bare}

-- ---- the cells of a row, and those past it

record Takes (x : Row) (b s : ℕ) : Type 0 where
  bridge : x.bridge ≡ b
  low : x.first ≤ s
  high : s ≤ x.last

takes_of : (x : Row) (b s : ℕ) → row_takes x b s ≡ true → Takes x b s
takes_of x b s e =
    let w = right_of (eqb x.bridge b) (within x.first x.last s) e in
    record {
      bridge = eq_of x.bridge b (left_of (eqb x.bridge b) (within x.first x.last s) e);
      low = within_low x.first x.last s w;
      high = within_high x.first x.last s w;
    }

of_takes : (x : Row) (b s : ℕ) → x.bridge ≡ b → x.first ≤ s → s ≤ x.last → row_takes x b s ≡ true
of_takes x b s e l h = both (eqb x.bridge b) (within x.first x.last s) (eqb_yes x.bridge b e) (of_within x.first x.last s l h)

data Past (x : Row) (b s : ℕ) : Type 0 where
  further : x.bridge < b → Past x b s
  after : x.bridge ≡ b → x.last + 2 ≤ s → Past x b s

-- a cell of a later row
past_one : (x y : Row) (b s : ℕ) → Before x y → Takes y b s → Past x b s
past_one x y b s (lower_bridge l) t = further (omega (arith, t.bridge))
past_one x y b s (earlier_slot e l) t = after (e ∙ t.bridge) (omega (arith, t.low))

past : (x : Row) (ys : List Row) (b s : ℕ) → All (Before x) ys → rows_take ys b s ≡ true → Past x b s
unfolding rows_take
past x [] b s none e = absurd (clash (sym e))
past x (y ∷ ys) b s (more p w) e = go (λ q. past x ys b s w q) (or_cases (row_takes y b s) (rows_take ys b s) e)
  where
    go : (rows_take ys b s ≡ true → Past x b s) → (row_takes y b s ≡ true) ⊎ (rows_take ys b s ≡ true) → Past x b s
    go ih (inl t) = past_one x y b s p (takes_of y b s t)
    go ih (inr t) = ih t

-- ---- the first row of a list in order

-- it has not the cells past it
apart : (x : Row) (b s : ℕ) {G : Type 0} → Takes x b s → Past x b s → G
apart x b s t (further l) = absurd (omega (arith, t.bridge))
apart x b s t (after e l) = absurd (omega (arith, t.high))

module _ (y : Row) (ys : List Row) (b s : ℕ) (w : All (Before y) ys) (e : rows_take (y ∷ ys) b s ≡ true) where
  cell_cases : Takes y b s ⊎ Past y b s
  unfolding rows_take
  cell_cases = go (or_cases (row_takes y b s) (rows_take ys b s) e)
    where
      go : (row_takes y b s ≡ true) ⊎ (rows_take ys b s ≡ true) → Takes y b s ⊎ Past y b s
      go (inl t) = inl (takes_of y b s t)
      go (inr t) = inr (past y ys b s w t)

  -- no cell stands on a bridge before, nor in a slot before
  bridge_least : y.bridge ≤ b
  bridge_least = go cell_cases
    where
      go : Takes y b s ⊎ Past y b s → y.bridge ≤ b
      go (inl t) = omega (arith, t.bridge)
      go (inr (further l)) = omega arith
      go (inr (after q l)) = omega arith

  slot_least : y.first ≤ y.last → y.bridge ≡ b → y.first ≤ s
  slot_least u q = go cell_cases
    where
      go : Takes y b s ⊎ Past y b s → y.first ≤ s
      go (inl t) = t.low
      go (inr (further l)) = absurd (omega arith)
      go (inr (after p l)) = omega arith

  -- a cell past the first row's last slot by one is not there
  gap : y.bridge ≡ b → s ≡ suc y.last → ⊥
  gap q h = go cell_cases
    where
      go : Takes y b s ⊎ Past y b s → ⊥
      go (inl t) = omega (arith, t.high)
      go (inr (further l)) = omega arith
      go (inr (after p l)) = omega arith

row_ext : (x y : Row) → x.bridge ≡ y.bridge → x.first ≡ y.first → x.last ≡ y.last → x ≡ y
row_ext x y e f g =
    let same : row x.bridge x.first x.last ≡ row y.bridge y.first y.last = rw (e, f, g) refl in
    same

-- ---- two lists in order with the same cells are the same

module _ (slots bridges : ℕ) where
  abbrev Same : List Row → List Row → Type 0
  Same xs ys = (b s : ℕ) → 1 ≤ b → 1 ≤ s → s ≤ slots → rows_take xs b s ≡ rows_take ys b s

  has_own : (x : Row) (xs : List Row) (s : ℕ) → x.first ≤ s → s ≤ x.last → rows_take (x ∷ xs) x.bridge s ≡ true
  unfolding rows_take
  has_own x xs s l h = or_left (row_takes x x.bridge s) (rows_take xs x.bridge s) (of_takes x x.bridge s refl l h)

  module _ (x y : Row) (xs ys : List Row) (r : RowIn slots bridges x) (q : RowIn slots bridges y) (w : All (Before x) xs) (z : All (Before y) ys)
      (e : Same (x ∷ xs) (y ∷ ys)) where
    -- the first cell of x is one of the other list's
    there : rows_take (y ∷ ys) x.bridge x.first ≡ true
    there =
        sym (e x.bridge x.first r.bridge_low r.first_low (omega (arith, r.up, r.last_high)))
        ∙ has_own x xs x.first (omega arith) r.up

    lead_bridge : y.bridge ≤ x.bridge
    lead_bridge = bridge_least y ys x.bridge x.first z there

    lead_slot : y.bridge ≡ x.bridge → y.first ≤ x.first
    lead_slot p = slot_least y ys x.bridge x.first z there q.up p

    -- x does not go on where y has ended
    lead_last : y.bridge ≡ x.bridge → x.first ≡ y.first → x.last ≤ y.last
    lead_last p f = go (is (leb x.last y.last))
      where
        go : Is (leb x.last y.last) → x.last ≤ y.last
        go (is_true h) = le_of x.last y.last h
        go (is_false h) =
            let l = gt_of x.last y.last h in
            let u = q.up in
            let low = r.first_low in
            let top = r.last_high in
            let own = has_own x xs (suc y.last) (omega arith) (omega arith) in
            absurd (gap y ys x.bridge (suc y.last) z
            (sym (e x.bridge (suc y.last) r.bridge_low (omega arith) (omega arith)) ∙ own) p refl)

  module _ (x : Row) (xs ys : List Row) (w : All (Before x) xs) (e : Same (x ∷ xs) (x ∷ ys)) where
    rest_implied : (b s : ℕ) → 1 ≤ b → 1 ≤ s → s ≤ slots → rows_take xs b s ≡ true → rows_take ys b s ≡ true
    unfolding rows_take
    rest_implied b s l m h t =
        go (or_cases (row_takes x b s) (rows_take ys b s) (sym (e b s l m h) ∙ or_right (row_takes x b s) (rows_take xs b s) t))
      where
        go : (row_takes x b s ≡ true) ⊎ (rows_take ys b s ≡ true) → rows_take ys b s ≡ true
        go (inl u) = apart x b s (takes_of x b s u) (past x xs b s w t)
        go (inr u) = u

  none_there : (x : Row) (xs : List Row) → RowIn slots bridges x → Same (x ∷ xs) [] → ⊥
  unfolding rows_take
  none_there x xs r e =
      clash
      (sym (has_own x xs x.first (omega arith) r.up)
      ∙ e x.bridge x.first r.bridge_low r.first_low (omega (arith, r.up, r.last_high)))

  turned : (xs ys : List Row) → Same xs ys → Same ys xs
  turned xs ys e b s l m h = sym (e b s l m h)

  pub rows_unique : (xs ys : List Row) → All (RowIn slots bridges) xs → All (RowIn slots bridges) ys → Pairwise Before xs → Pairwise Before ys
      → ((b s : ℕ) → 1 ≤ b → 1 ≤ s → s ≤ slots → rows_take xs b s ≡ rows_take ys b s) → xs ≡ ys
  rows_unique [] [] i j v u e = refl
  rows_unique [] (y ∷ ys) i (more q j) v u e = absurd (none_there y ys q (turned [] (y ∷ ys) e))
  rows_unique (x ∷ xs) [] (more r i) j v u e = absurd (none_there x xs r e)
  rows_unique (x ∷ xs) (y ∷ ys) (more r i) (more q j) (first w v) (first z u) e = go (λ c. rows_unique xs ys i j v u c)
    where
      e' : Same (y ∷ ys) (x ∷ xs)
      e' = turned (x ∷ xs) (y ∷ ys) e

      bridge : x.bridge ≡ y.bridge
      bridge = omega (arith, lead_bridge x y xs ys r q w z e, lead_bridge y x ys xs q r z w e')

      slot : x.first ≡ y.first
      slot = omega (arith, lead_slot x y xs ys r q w z e (sym bridge), lead_slot y x ys xs q r z w e' bridge)

      end : x.last ≡ y.last
      end = omega (arith, lead_last x y xs ys r q w z e (sym bridge) slot, lead_last y x ys xs q r z w e' bridge (sym slot))

      same : y ≡ x
      same = sym (row_ext x y bridge slot end)

      go : (Same xs ys → xs ≡ ys) → x ∷ xs ≡ y ∷ ys
      go ih =
          let c : Same (x ∷ xs) (x ∷ ys) = rw same at e in
          let d : All (Before x) ys = rw same at z in
          rw same
          (ap (λ (l : List Row). x ∷ l)
          (ih (λ b s l m h. test_ext (rows_take xs b s) (rows_take ys b s)
          (rest_implied x xs ys w c b s l m h) (rest_implied x ys xs d (turned (x ∷ xs) (x ∷ ys) c) b s l m h))))

-- ---- rows in order are those written of their union

module _ (slots bridges : ℕ) (high : slots ≤ 64) (most : bridges ≤ 8) (xs : List Row) (w : All (RowIn slots bridges) xs) where
  ms : List ℕ
  ms = rows_busy xs

  below : (b : ℕ) → get_or ms b 0 < 2 ^ slots
  below b = unfold ms in (union_below slots bridges high most xs w b)

  within_frame : All (RowIn slots bridges) (mask_rows 1 ms)
  within_frame =
      mask_rows_in slots high bridges 1 ms (omega arith) below (λ b l. unfold ms in (union_past slots bridges high most xs w b (omega arith)))

  same_cells : (b s : ℕ) → 1 ≤ b → 1 ≤ s → s ≤ slots → rows_take (mask_rows 1 ms) b s ≡ rows_take xs b s
  same_cells zero s l m h = absurd (omega arith)
  same_cells (suc b) zero l m h = absurd (omega arith)
  same_cells (suc b) (suc s) l m h =
      let top : 2 ^ slots ≤ 2 ^ 64 = pow_mono high in
      mask_rows_cells ms s b (omega (arith, below b)) (omega arith)
      ∙ (unfold ms in (union_cells slots bridges high most xs w s b (omega arith)))

  union_rows : Pairwise Before xs → mask_rows 1 (rows_busy xs) ≡ xs
  unfolding ms
  union_rows v =
      rows_unique slots bridges (mask_rows 1 (rows_busy xs)) xs within_frame w (mask_rows_ordered slots high 1 (rows_busy xs) below) v same_cells

-- A text of bare rows within the frame, in order, is written again byte for byte from the head that it makes.
pub rows_canonical : (h : Head) (xs : List Row) (g : Head) (n : ℕ) → Valid h → All (RowIn h.slots h.bridges) xs → Pairwise Before xs
    → read_rows h (bare xs) ≡ accepted g n → rows_text g.busy ≡ bare xs
unfolding rows_text
rows_canonical h xs g n v w o e =
    let made : g ≡ with_busy h (rows_busy xs) = accepted_one (sym e ∙ read_all h (bare xs) (pass_bare h xs w)) in
    ap (λ (k : Head). bare (mask_rows 1 k.busy)) made ∙ ap bare (union_rows h.slots h.bridges v.slots_high v.bridges_high xs w o)
