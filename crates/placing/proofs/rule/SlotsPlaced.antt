-- Laws of the table slot by slot, as the code places the jobs.
--
-- In order: a row of a table, by itself and written (`row_..`); the first slots of the table placed (`SlotsPlaced`): none, one more, all; one turn of the loop (`progress_more`, `progress_over`) and the slots after all
-- jobs have their cells (`progress_idle`); within the limits and beyond them (`placed_within_lem`, `placed_beyond`).
-- Assumes nothing.
use Prim.Native.Nat.{ℕ, zero, suc, ◌+◌, ◌-◌, ◌*◌, ◌/◌, ◌%◌, ◌≤◌, ◌<◌, zero-le}
use native.Mathlib.Nat.{suc-mul, mul-zero, mul-le-mul, mul-le-mul_right, mod-lt, div-add-mod', div-lt_iff_lt-mul}
use native.Mathlib.Numerals.{add-one}
use native.Mathlib.Omega.{arith}
use mathlib.Core.Path.{◌≡◌, refl, sym, ◌∙◌, ap}
use mathlib.Core.Bool.{Bool, true, false, cond, ◌&&◌, and-false}
use mathlib.Core.List.{List, ◌++◌}
use lib.ListN.{length, take, drop, length-take, length-append, length-drop, get_or-append}
use Rattle.std.proofs.lemmas.List.{get_or-append_right}
use borrow.Rule.Slice.PartMut.{put_mid}
use lib.Seq.{length-take-le, ext_get_or, get_or-append-add, get_or-drop, get_or-take}
use lib.Dec.{ltb, leb, eqb}
use Rattle.laws.specs.Sums.{bit, only, sum, position, every}
use Rattle.laws.specs.Lists.{at, tabulate}
use Rattle.laws.specs.Placement.{Ties, tie_hold, nobody, goes_first, chosen, AtSlot, holds, at_slot, left, lrtf}
use Rattle.laws.specs.Cells.{takes, slot_cell}
use Rattle.laws.proofs.Tests.{Is, is_true, is_false, is, both, left_of, right_of, fails_left, fails_right}
use Rattle.laws.proofs.Comparisons.{lt_of, le_of, ge_of, eq_of, ne_of, leb_yes, leb_no, ltb_no}
use Rattle.laws.proofs.Every.{every_all, all_every}
use Rattle.laws.proofs.Sums.{sum_zero, sum_below}
use Rattle.laws.proofs.Counts.{bit_positive}
use Rattle.laws.proofs.Lists.{length_tabulate, at_tabulate, at_past}
use Rattle.laws.proofs.Placement.{left_length, left_step, left_got, held_step}
use Rattle.station.specs.Head.{has_bit}
use Rattle.placing.specs.Plan.{placing, tie_of}
use Rattle.placing.specs.method.Limits.{sizes_in_limits}
use Rattle.placing.specs.method.Rule.{due_cells, RowWritten, Levelled, free_in, cell_in, cells_in, placeable, placed_in, placed_within}
use Rattle.placing.proofs.limits.Within.{in_limits, limits_of}
use Rattle.placing.proofs.WrittenTable.{place_below}
use Rattle.placing.proofs.MaskBits.{has_bit_zero}
use Rattle.placing.proofs.rule.levels.Choice.{chosen_past}
use Rattle.placing.proofs.rule.row.RowWritten.{due_cell, slot_cell_ext, takes_not_chosen}

-- ---- a row of a table

-- u is t with the n cells from `start` on written: cell b of them is w b.
pub record RowIn (t u : List ℕ) (start n : ℕ) (w : ℕ → ℕ) : Type 0 where
  pub long : length u ≡ length t
  pub inside : (b : ℕ) → b < n → at u (start + b) ≡ w b
  pub before : (i : ℕ) → i < start → at u i ≡ at t i
  pub after : (i : ℕ) → start + n ≤ i → at u i ≡ at t i

-- the n cells from a on, by themselves, and written
module _ (t : List ℕ) (a n m : ℕ) (e : m ≡ n) (l : a + n ≤ length t) where
  abbrev row_of : List ℕ
  row_of = take m (drop a t)

  pub row_long : length row_of ≡ n
  row_long = length-take-le m (drop a t) (omega (arith, length-drop a t)) ∙ e

  pub row_at : (b : ℕ) → b < n → at row_of b ≡ at t (a + b)
  row_at b h = get_or-take m (drop a t) b 0 (omega (arith, e)) ∙ get_or-drop a t b 0

  pub row_in : {r : List ℕ} (chosen free : ℕ → Bool) (v : ℕ → ℕ) → RowWritten row_of r (length row_of) (slot_cell 64 chosen free v (at row_of))
      → RowIn t (put_mid a m t r) a n (slot_cell 64 chosen free v (λ b. at t (a + b)))
  row_in {r} chosen free v done =
      record {
        long = omega (arith, length-append front (r ++ back), length-append r back, long_front, long_row, length-drop m (drop a t), length-drop a t, e);
        inside = λ b h.
            get_or-append_right front (r ++ back) a (a + b) 0 long_front (omega arith)
            ∙ ap (at (r ++ back)) (omega arith)
            ∙ get_or-append r back 0 b (omega (arith, long_row))
            ∙ done.inside b (omega (arith, row_long))
            ∙ slot_cell_ext 64 chosen free v (at row_of) b chosen v (λ d. at t (a + d)) (λ i k. refl) (λ i k. refl) (row_at b h);
        before = λ i h. get_or-append front (r ++ back) 0 i (omega (arith, long_front)) ∙ get_or-take a t i 0 h;
        after = λ i h.
            get_or-append_right front (r ++ back) a i 0 long_front (omega arith)
            ∙ get_or-append_right r back n (i - a) 0 long_row (omega arith)
            ∙ get_or-drop m (drop a t) (i - a - n) 0
            ∙ get_or-drop a t (m + (i - a - n)) 0
            ∙ ap (at t) (omega (arith, e));
      }
    where
      front : List ℕ
      front = take a t

      back : List ℕ
      back = drop m (drop a t)

      long_front : length front ≡ a
      long_front = length-take-le a t (omega arith)

      long_row : length r ≡ n
      long_row = done.long ∙ row_long

-- ---- the table, slot by slot

-- what cell b of slot s is to hold
abbrev pub cell_of : Ties → ℕ → List ℕ → List ℕ → List ℕ → List ℕ → List ℕ → List ℕ → List ℕ → ℕ → ℕ → ℕ
cell_of ties B masks counts c first early late t s b =
    placing (length c) (free_in masks) (λ i r. lrtf ties nobody c (at counts) i r) (cell_in ties c (at counts) first early late) (cells_in B t) s b

-- the slot and the bridge of a cell of n slots and B bridges
pub place_of : (n B i : ℕ) → i < n * B → (i / B < n) × (i % B < B)
place_of n zero i h = absurd (omega (arith, mul-zero n))
place_of n (suc B) i h = let pos : 0 < suc B = omega arith in ((div-lt_iff_lt-mul pos).1 h, mod-lt i pos)

-- u is t with the first n slots of B bridges written
pub record SlotsPlaced (B : ℕ) (w : ℕ → ℕ → ℕ) (t u : List ℕ) (n : ℕ) : Type 0 where
  pub long : length u ≡ length t
  pub inside : (s b : ℕ) → s < n → b < B → at u (s * B + b) ≡ w s b
  pub after : (i : ℕ) → n * B ≤ i → at u i ≡ at t i

module _ (B : ℕ) (w : ℕ → ℕ → ℕ) (t : List ℕ) where
  pub slots_none : SlotsPlaced B w t t 0
  slots_none = record { long = refl; inside = λ s b h. absurd (omega arith); after = λ i h. refl }

  pub slots_more : (u v : List ℕ) (n : ℕ) (row : ℕ → ℕ) → SlotsPlaced B w t u n → RowIn u v (n * B) B row
      → ((b : ℕ) → b < B → row b ≡ w n b) → SlotsPlaced B w t v (n + 1)
  slots_more u v n row done r e =
      record {
        long = r.long ∙ done.long;
        inside = λ s b h k. go s b h k (is (eqb s n));
        after = λ i h. let past : n * B + B ≤ i = omega (arith, next) in r.after i past ∙ done.after i (omega arith);
      }
    where
      next : (n + 1) * B ≡ n * B + B
      next = ap (λ (m : ℕ). m * B) (add-one n) ∙ suc-mul n B

      go : (s b : ℕ) → s < n + 1 → b < B → Is (eqb s n) → at v (s * B + b) ≡ w s b
      go s b h k (is_true q) = rw (eq_of s n q) (r.inside b k ∙ e b k)
      go s b h k (is_false q) =
          let other : s ≡ n → ⊥ = ne_of s n q in
          let l : s < n = omega arith in
          r.before (s * B + b) (place_below n B s b l k) ∙ done.inside s b l k

  -- all slots: the whole list
  pub slots_all : (u : List ℕ) (n : ℕ) → n * B ≤ length t → SlotsPlaced B w t u n
      → u ≡ tabulate (n * B) (λ i. w (i / B) (i % B)) ++ drop (n * B) t
  slots_all u n enough done = ext_get_or 0 u (front ++ rest) same_length (λ i h. go i (is (ltb i (n * B))))
    where
      front : List ℕ
      front = tabulate (n * B) (λ i. w (i / B) (i % B))

      rest : List ℕ
      rest = drop (n * B) t

      same_length : length u ≡ length (front ++ rest)
      same_length =
          omega (arith, done.long, length-append front rest, length_tabulate (n * B) (λ i. w (i / B) (i % B)), length-drop (n * B) t)

      go : (i : ℕ) → Is (ltb i (n * B)) → at u i ≡ at (front ++ rest) i
      go i (is_true q) =
          let l : i < n * B = lt_of i (n * B) q in
          let p = place_of n B i l in
          ap (at u) (sym (div-add-mod' i B))
          ∙ done.inside (i / B) (i % B) p.0 p.1
          ∙ sym (get_or-append front rest 0 i (omega (arith, length_tabulate (n * B) (λ i. w (i / B) (i % B))))
          ∙ at_tabulate (n * B) (λ i. w (i / B) (i % B)) i l)
      go i (is_false q) =
          let l : n * B ≤ i = ge_of i (n * B) q in
          let over : i ≡ length front + (i - n * B) = omega (arith, length_tabulate (n * B) (λ i. w (i / B) (i % B))) in
          let back : n * B + (i - n * B) ≡ i = omega arith in
          done.after i l
          ∙ sym (ap (at (front ++ rest)) over ∙ get_or-append-add front rest (i - n * B) 0 ∙ get_or-drop (n * B) t (i - n * B) 0 ∙ ap (at t) back)

-- The row that the code writes in slot s is the rule's. Of the 64 jobs of a mask only those of the list are chosen.
pub row_rule : (ties : Ties) (B : ℕ) (masks counts c first early late t u : List ℕ) (s : ℕ) (a : ℕ → Bool) (v : ℕ → ℕ) → length c ≤ 64
    → ((i : ℕ) → i < 64 → a i ≡ lrtf ties nobody c (at counts) i s)
    → ((i : ℕ) → i < length c → v i ≡ cell_in ties c (at counts) first early late i s)
    → SlotsPlaced B (cell_of ties B masks counts c first early late t) t u s
    → (b : ℕ) → b < B
    → slot_cell 64 a (λ d. free_in masks s d) v (λ d. at u (s * B + d)) b ≡ cell_of ties B masks counts c first early late t s b
unfolding placing
row_rule ties B masks counts c first early late t u s a v few p q done b l =
    ap (λ (n : ℕ). cond (free_in masks s b) n (at u (s * B + b)))
    (sym (sum_below (length c) 64 (λ i. only (takes a (λ d. free_in masks s d) i b) (v i)) few (λ i h m.
    ap (λ (x : Bool). only x (v i)) (takes_not_chosen a (λ d. free_in masks s d) i b (p i m ∙ past i h)))))
    ∙ slot_cell_ext (length c) a (λ d. free_in masks s d) v (λ d. at u (s * B + d)) b
    (λ i. lrtf ties nobody c x i s)
    (λ i. cell_in ties c x first early late i s)
    (λ d. cells_in B t s d)
    (λ i h. p i (omega arith)) q (done.after (s * B + b) (omega arith))
  where
    x : ℕ → ℕ
    x = at counts

    past : (i : ℕ) → length c ≤ i → lrtf ties nobody c x i s ≡ false
    past i h = rw (at_past (left ties nobody c x s) i (omega (arith, left_length ties nobody c x s, h))) refl

-- a row of a frame within the limits, and the frame, lie in 512 cells
module _ (n B : ℕ) (few : n ≤ 64) (narrow : B ≤ 8) where
  pub frame_within : n * B ≤ 512
  frame_within = mul-le-mul few narrow

  pub row_within : (s : ℕ) → s < n → s * B + B ≤ 512
  row_within s h = omega (arith, suc-mul s B, mul-le-mul_right {m = suc s} {n = n} B h, frame_within)

-- ---- one turn of the code's loop

-- how far the rule has come before slot s
abbrev pub reached : Bool → List ℕ → List ℕ → ℕ → AtSlot
reached hold counts c s = at_slot (tie_of hold) nobody c (at counts) s

-- Before slot s: the table so far, the array of the first slots that are still due, the needs that are left by levels, none of them above `top`, and the mask of those who
-- go first among equal ones.
pub record Progress (hold : Bool) (B : ℕ) (masks counts c first early late t : List ℕ) (k s : ℕ) (u l levels : List ℕ) (top held : ℕ) : Type 0 where
  pub table : SlotsPlaced B (cell_of (tie_of hold) B masks counts c first early late t) t u s
  pub due : (i : ℕ) → i < k → at l i ≡ at first i - (at c i - at (reached hold counts c s).needs i)
  pub levelled : Levelled levels (at (reached hold counts c s).needs)
  pub most : (i : ℕ) → i < 64 → at (reached hold counts c s).needs i ≤ top
  pub ahead : (i : ℕ) → i < k → has_bit held i ≡ (hold && holds (reached hold counts c s) i)

-- Who goes first among equal ones, by a mask: where it has those who hold under `hold`, and nobody else, it is the order in force.
tie_agrees : (hold : Bool) (s k : ℕ) (p q : ℕ → Bool) → ((i : ℕ) → i < k → p i ≡ (hold && q i))
    → (j i : ℕ) → j < k → i < k → tie_hold 0 p j i ≡ tie_of hold s q j i
tie_agrees true s k p q same j i l m = rw (same j l, same i m)
tie_agrees false s k p q same j i l m =
    let none : 0 + bit (ltb j i) ≡ bit (ltb j i) = omega arith in
    rw (same j l, same i m) (ap (ltb 0) none ∙ bit_positive (ltb j i))

held_bit : (hold : Bool) (m i : ℕ) → has_bit (cond hold m 0) i ≡ (hold && has_bit m i)
held_bit true m i = refl
held_bit false m i = has_bit_zero i

-- the jobs of an array of which the first k count
module _ (hold : Bool) (B : ℕ) (masks counts array first early late t : List ℕ) (k : ℕ) where
  abbrev ties : Ties
  ties = tie_of hold

  abbrev c : List ℕ
  c = take k array

  abbrev free : ℕ → ℕ
  free = at counts

  -- before the first slot
  pub progress_none : (levels : List ℕ) (top : ℕ) → Levelled levels (at c) → ((i : ℕ) → i < k → at array i ≤ top)
      → Progress hold B masks counts c first early late t k 0 t first levels top 0
  unfolding at_slot
  progress_none levels top h most =
      record {
        table = slots_none B (cell_of ties B masks counts c first early late t) t;
        due = λ i l. omega arith;
        levelled = h;
        most = λ i l. go i (is (ltb i k));
        ahead = λ i l. has_bit_zero i ∙ sym (and-false hold);
      }
    where
      go : (i : ℕ) → Is (ltb i k) → at c i ≤ top
      go i (is_true e) = omega (arith, get_or-take k array i 0 (lt_of i k e), most i (lt_of i k e))
      go i (is_false e) = omega (arith, at_past c i (omega (arith, length-take k array, ge_of i k e)))

  -- One slot: the choice, the row, what is due after it and the levels, as the code's functions state them.
  module _ (enough : k ≤ length array) (few : k ≤ 64) (s : ℕ) (u l levels : List ℕ) (top held : ℕ)
      (so_far : Progress hold B masks counts c first early late t k s u l levels top held) (got : ℕ)
      (picks : (i : ℕ) → i < 64 → has_bit got i ≡ chosen (tie_hold 0 (has_bit held)) 64 (at (left ties nobody c free s)) (free s) i) where
    long : length c ≡ k
    long = length-take-le k array enough

    many : length (left ties nobody c free s) ≡ k
    many = left_length ties nobody c free s ∙ long

    chooses : (i : ℕ) → i < 64 → has_bit got i ≡ lrtf ties nobody c free i s
    chooses i h =
        picks i h
        ∙ chosen_past (tie_hold 0 (has_bit held)) (ties s (holds (reached hold counts c s))) (length (left ties nobody c free s)) 64 (at (left ties nobody c free s))
        (omega (arith, many, few)) (at_past (left ties nobody c free s))
        (λ j m p q. tie_agrees hold s k (has_bit held) (holds (reached hold counts c s)) so_far.ahead j m (omega (arith, p, many)) (omega (arith, q, many))) (free s) i

    after : (i : ℕ) → i < 64 → at (left ties nobody c free s) i - bit (has_bit got i) ≡ at (left ties nobody c free (s + 1)) i
    after i h = rw (add-one s) (omega (arith, left_step ties nobody c free i s, ap bit (chooses i h)))

    wrote : (i : ℕ) → i < length c → due_cells l early late i ≡ cell_in ties c free first early late i s
    wrote i h = due_cell l early late i (at c i) (at (left ties nobody c free s) i) (at first i) (so_far.due i (omega (arith, long, h)))

    pub progress_more : (v m levels' : List ℕ) (top' : ℕ) → ((i : ℕ) → i < 64 → at (left ties nobody c free s) i ≤ top')
        → RowIn u v (s * B) B (slot_cell 64 (has_bit got) (has_bit (at masks s)) (due_cells l early late) (λ b. at u (s * B + b)))
        → ((i : ℕ) → at m i ≡ at l i - bit (has_bit got i))
        → Levelled levels' (λ i. at (left ties nobody c free s) i - bit (has_bit got i))
        → Progress hold B masks counts c first early late t k (s + 1) v m levels' top' (cond hold got 0)
    progress_more v m levels' top' most row rest moved =
        record {
          table =
              slots_more B (cell_of ties B masks counts c first early late t) t u v s
              (slot_cell 64 (has_bit got) (has_bit (at masks s)) (due_cells l early late) (λ b. at u (s * B + b)))
              so_far.table row
              (row_rule ties B masks counts c first early late t u s (has_bit got) (due_cells l early late) (omega (arith, long, few)) chooses wrote so_far.table);
          due = λ i h.
              let step = left_step ties nobody c free i s in
              rw (add-one s) (omega (arith, rest i, so_far.due i h, step, left_got ties nobody c free i s, ap bit (chooses i (omega (arith, h, few)))));
          levelled = λ q i p r j. moved q i p r j ∙ ap (λ (n : ℕ). eqb n q) (after i j);
          most = λ i h. omega (arith, after i h, most i h);
          ahead = λ i h.
              held_bit hold got i
              ∙ ap (λ (x : Bool). hold && x)
              (rw (add-one s) (chooses i (omega (arith, h, few)) ∙ sym (held_step ties nobody c free i s (omega (arith, h, long)))));
        }

  -- a slot with no free bridge: nobody has a cell in it, so that nobody holds after it
  pub progress_over : k ≤ length array → k ≤ 64 → (s : ℕ) (u l levels : List ℕ) (top held top' : ℕ) → Progress hold B masks counts c first early late t k s u l levels top held
      → at masks s ≡ 0 → free s ≡ 0 → ((i : ℕ) → i < 64 → at (left ties nobody c free s) i ≤ top')
      → Progress hold B masks counts c first early late t k (s + 1) u l levels top' (cond hold 0 0)
  progress_over enough few s u l levels top held top' so_far empty unfilled most =
      progress_more enough few s u l levels top held so_far 0 idle u l levels top' most
      (record { long = refl; inside = λ b h. sym (rw (off b) refl); before = λ i l. refl; after = λ i l. refl }) (λ i. omega (arith, ap bit (has_bit_zero i)))
      (λ q i p r j. so_far.levelled q i p r j ∙ ap (λ (n : ℕ). eqb n q) (omega (arith, ap bit (has_bit_zero i))))
    where
      off : (b : ℕ) → free_in masks s b ≡ false
      off b = ap (λ (m : ℕ). has_bit m b) empty ∙ has_bit_zero b

      idle : (i : ℕ) → i < 64 → has_bit 0 i ≡ chosen (tie_hold 0 (has_bit held)) 64 (at (left ties nobody c free s)) (free s) i
      idle i h =
          has_bit_zero i
          ∙ sym (ap (λ (d : ℕ). chosen (tie_hold 0 (has_bit held)) 64 (at (left ties nobody c free s)) d i) unfilled
          ∙ (rw (ltb_no (position 64 (goes_first (tie_hold 0 (has_bit held)) (at (left ties nobody c free s))) i) 0 zero-le) (and-false (ltb 0 (at (left ties nobody c free s) i)))))

  -- Nobody needs a cell any more, and the free ones of the slots from s on are empty: these are as they are to be.
  module _ (s : ℕ) (u l levels : List ℕ) (top held : ℕ) (so_far : Progress hold B masks counts c first early late t k s u l levels top held) (few : k ≤ 64)
      (none : (i : ℕ) → i < 64 → at (left ties nobody c free s) i ≤ 0) where
    now : (i : ℕ) → i < length c → at (left ties nobody c free s) i ≡ 0
    now i h = omega (arith, none i (omega (arith, h, few, length-take k array)))

    idle : (i : ℕ) → i < length c → (q : ℕ) → s ≤ q → at (left ties nobody c free q) i ≡ 0
    idle i h zero m = let first : s ≡ 0 = omega arith in omega (arith, rw first at (now i h))
    idle i h (suc q) m = go (idle i h q) (is (eqb s (suc q)))
      where
        go : (s ≤ q → at (left ties nobody c free q) i ≡ 0) → Is (eqb s (suc q)) → at (left ties nobody c free (suc q)) i ≡ 0
        go ih (is_true e) = rw (eq_of s (suc q) e) at (now i h)
        go ih (is_false e) = let ne : s ≡ suc q → ⊥ = ne_of s (suc q) e in omega (arith, left_step ties nobody c free i q, ih (omega (arith, ne, m)))

    as_it_was : (q b : ℕ) → s ≤ q → (free_in masks q b ≡ true → at t (q * B + b) ≡ 0) → at t (q * B + b) ≡ cell_of ties B masks counts c first early late t q b
    unfolding placing
    as_it_was q b m clean = go (is (free_in masks q b))
      where
        go : Is (free_in masks q b) → at t (q * B + b) ≡ cell_of ties B masks counts c first early late t q b
        go (is_true e) =
            clean e
            ∙ sym (ap (λ (x : Bool). cond x (sum (length c) (λ i. only (takes (λ j. lrtf ties nobody c free j q) (λ d. free_in masks q d) i b) (cell_in ties c free first early late i q))) (at t (q * B + b))) e
            ∙ sum_zero (length c) _ (λ i h. ap (λ (x : Bool). only x (cell_in ties c free first early late i q))
            (takes_not_chosen (λ j. lrtf ties nobody c free j q) (λ d. free_in masks q d) i b (rw (idle i h q m) refl))))
        go (is_false e) = sym (rw e refl)

    pub progress_idle : (n : ℕ) → s ≤ n → ((q b : ℕ) → s ≤ q → q < n → b < B → free_in masks q b ≡ true → at t (q * B + b) ≡ 0)
        → SlotsPlaced B (cell_of ties B masks counts c first early late t) t u n
    progress_idle n more clean =
        record {
          long = so_far.table.long;
          inside = λ q b h m. go q b h m (is (ltb q s));
          after = λ i h. so_far.table.after i (omega (arith, h, mul-le-mul_right {m = s} {n = n} B more));
        }
      where
        go : (q b : ℕ) → q < n → b < B → Is (ltb q s) → at u (q * B + b) ≡ cell_of ties B masks counts c first early late t q b
        go q b h m (is_true e) = so_far.table.inside q b (lt_of q s e) m
        go q b h m (is_false e) =
            let past : s ≤ q = ge_of q s e in
            so_far.table.after (q * B + b) (omega (arith, mul-le-mul_right {m = s} {n = q} B past)) ∙ as_it_was q b past (clean q b past h m)

-- ---- within the limits, and beyond them

module _ (slots bridges : ℕ) (needs : List ℕ) (k cells : ℕ) where
  abbrev few_jobs : Bool
  few_jobs = leb k 64

  abbrev low_needs : Bool
  low_needs = every k (λ i. leb (at needs i) 64)

  pub jobs_over : 64 < k → placeable slots bridges needs k cells ≡ false
  unfolding placeable
  jobs_over l = fails_left (few_jobs && low_needs) (sizes_in_limits slots bridges 0 cells) (fails_left few_jobs low_needs (leb_no k 64 l))

  pub needs_over : low_needs ≡ false → placeable slots bridges needs k cells ≡ false
  unfolding placeable
  needs_over e = fails_left (few_jobs && low_needs) (sizes_in_limits slots bridges 0 cells) (fails_right few_jobs low_needs e)

  pub all_but_frame : k ≤ 64 → low_needs ≡ true → placeable slots bridges needs k cells ≡ sizes_in_limits slots bridges 0 cells
  unfolding placeable
  all_but_frame l e = ap (λ (b : Bool). b && sizes_in_limits slots bridges 0 cells) (both few_jobs low_needs (leb_yes k 64 l) e)

  pub is_placeable : slots ≤ 64 → bridges ≤ 8 → k ≤ 64 → 512 ≤ cells → ((i : ℕ) → i < k → at needs i ≤ 64) → placeable slots bridges needs k cells ≡ true
  is_placeable f g l m each =
      all_but_frame l (all_every k (λ i. leb (at needs i) 64) (λ i q. leb_yes (at needs i) 64 (each i q))) ∙ in_limits slots bridges 0 cells f g (omega arith) m

  pub placeable_of : placeable slots bridges needs k cells ≡ true
      → (slots ≤ 64) × (bridges ≤ 8) × (k ≤ 64) × (512 ≤ cells) × ((i : ℕ) → i < k → at needs i < 65)
  unfolding placeable
  placeable_of e =
      let both_of = left_of (few_jobs && low_needs) (sizes_in_limits slots bridges 0 cells) e in
      let l = limits_of slots bridges 0 cells (right_of (few_jobs && low_needs) (sizes_in_limits slots bridges 0 cells) e) in (
        l.0,
        l.1,
        le_of k 64 (left_of few_jobs low_needs both_of),
        l.3,
        λ i q. let m = le_of (at needs i) 64 (every_all k (λ j. leb (at needs j) 64) (right_of few_jobs low_needs both_of) i q) in omega (arith, m),
      )

module _ (ties : Ties) (slots bridges : ℕ) (masks counts needs : List ℕ) (k : ℕ) (first early late t : List ℕ) where
  pub placed_within_lem : placeable slots bridges needs k (length t) ≡ true
      → placed_within ties slots bridges masks counts needs k first early late t ≡ placed_in ties slots bridges masks counts (take k needs) first early late t
  unfolding placed_within
  placed_within_lem e = rw e refl

  pub placed_beyond : placeable slots bridges needs k (length t) ≡ false → placed_within ties slots bridges masks counts needs k first early late t ≡ t
  unfolding placed_within
  placed_beyond e = rw e refl
