-- Laws of the cells that a call may use, and of how many slots have at least so many.
--
-- In order: eight cells within a table (`eight_le`); slots up to the clock and above it (`slot-..`, `entries_before`), a slot that it passes (`pass_slot`), and a clock past the last slot (`entries_past`); what a call may fill of the frame's slots (`entries_are`, `entries_of`).
-- Assumes nothing.
use Prim.Native.Nat.{ℕ, ◌+◌, ◌*◌, ◌-◌, ◌≤◌, ◌<◌, min}
use native.Mathlib.Omega.{arith}
use native.Mathlib.Nat.{mul-le-mul}
use mathlib.Core.Path.{◌≡◌, sym, ◌∙◌, ap, ap₂}
use mathlib.Core.Logic.{◌↔◌}
use mathlib.Core.Bool.{Bool, not, ◌&&◌, ◌||◌}
use mathlib.Core.List.{List}
use lib.ListN.{length, get_or, replicate}
use lib.Dec.{ltb}
use Rattle.laws.specs.Sums.{bit, only, count}
use Rattle.laws.specs.method.Capacities.{AtLeast}
use Rattle.laws.proofs.Tests.{Is, is, is_true, is_false}
use Rattle.laws.proofs.Comparisons.{lt_of, ge_of}
use Rattle.laws.proofs.Counts.{count_ext}
use Rattle.laws.proofs.Capacities.{at_least_none, at_least_off, at_least_ext}
use Rattle.station.specs.Head.{Head}
use Rattle.placing.proofs.WellFormedFrame.{usable_from, usable_before}
use Rattle.placing.specs.Table.{cell, is_empty, is_held, motors, cleared}
use Rattle.placing.specs.Valid.{usable}
use Rattle.placing.specs.method.Search.{first_slot}
use Rattle.placing.specs.Call.{evictable, usable_count}
use Rattle.placing.specs.method.Counts.{evictable_cell, free_cell, staying_cell, usable_in, slot_free}
use Rattle.placing.proofs.FreeNumber.{cleared_empty, cleared_held}

-- eight cells from the start of a slot are within a table of 512
pub eight_le : (s m : ℕ) → s < 64 → m ≤ 8 → s * m + 8 ≤ 512
eight_le s m ls lm = omega (arith, mul-le-mul {n₁ = s} {n₂ = 63} {m₂ = 8} (omega arith) lm)

-- ---- slots by their free cells, and one that the clock passes

-- a slot up to the clock has no free cells, and one above it has its own
slot_before : (t : List ℕ) (bridges motors clock s : ℕ) → s < first_slot clock → slot_free t bridges motors clock s ≡ 0
unfolding slot_free
slot_before t bridges motors clock s l = ap (λ (b : Bool). only b (usable_in t (s * bridges) bridges motors)) (usable_before clock s l)

pub slot_from : (t : List ℕ) (bridges motors clock s : ℕ) → first_slot clock ≤ s → slot_free t bridges motors clock s ≡ usable_in t (s * bridges) bridges motors
unfolding slot_free
slot_from t bridges motors clock s l = ap (λ (b : Bool). only b (usable_in t (s * bridges) bridges motors)) (usable_from clock s l)

-- the slots up to the clock are in no entry
pub entries_before : (t : List ℕ) (bridges motors clock n : ℕ) → n ≤ first_slot clock → AtLeast (replicate 8 0) n (slot_free t bridges motors clock)
entries_before t bridges motors clock n l = at_least_none n (slot_free t bridges motors clock) (λ s m. slot_before t bridges motors clock s (omega arith))

-- the clock passes one slot: its free cells are no more
pub pass_slot : (t : List ℕ) (slots bridges motors s : ℕ) {xs ys : List ℕ} {free : ℕ} → s < slots → AtLeast xs slots (slot_free t bridges motors s) → free ≡ usable_in t (s * bridges) bridges motors
    → length ys ≡ length xs → ((r : ℕ) → r < 8 → get_or ys r 0 ≡ get_or xs r 0 - bit (ltb r free)) → AtLeast ys slots (slot_free t bridges motors (s + 1))
pass_slot t slots bridges motors s inside was own size less =
    at_least_off was (slot_free t bridges motors (s + 1)) s inside (λ z m ne. other z ne (is (ltb z s))) (slot_before t bridges motors (s + 1) s (omega arith))
    (own ∙ sym (slot_from t bridges motors s s (omega arith))) (size ∙ was.long) less
  where
    other : (z : ℕ) → (z ≡ s → ⊥) → Is (ltb z s) → slot_free t bridges motors (s + 1) z ≡ slot_free t bridges motors s z
    other z ne (is_true e) =
        let l = lt_of z s e in
        slot_before t bridges motors (s + 1) z (omega arith) ∙ sym (slot_before t bridges motors s z (omega arith))
    other z ne (is_false e) =
        let l = ge_of z s e in
        slot_from t bridges motors (s + 1) z (omega arith) ∙ sym (slot_from t bridges motors s z (omega arith))

-- no slot is above the last one: a clock past it has the entries of the last
pub entries_past : (t : List ℕ) (slots bridges motors clock : ℕ) {xs : List ℕ} → AtLeast xs slots (slot_free t bridges motors clock) ↔ AtLeast xs slots (slot_free t bridges motors (min clock slots))
entries_past t slots bridges motors clock =
    (λ a. at_least_ext a (slot_free t bridges motors (min clock slots)) same, λ a. at_least_ext a (slot_free t bridges motors clock) (λ s l. sym (same s l)))
  where
    same : (s : ℕ) → s < slots → slot_free t bridges motors clock s ≡ slot_free t bridges motors (min clock slots) s
    same s l = go (is (ltb s clock))
      where
        go : Is (ltb s clock) → slot_free t bridges motors clock s ≡ slot_free t bridges motors (min clock slots) s
        go (is_true e) = let m = lt_of s clock e in slot_before t bridges motors clock s m ∙ sym (slot_before t bridges motors (min clock slots) s (omega (arith, l, m)))
        go (is_false e) = let m = ge_of s clock e in slot_from t bridges motors clock s m ∙ sym (slot_from t bridges motors (min clock slots) s (omega (arith, l, m)))

-- ---- the table of the frame's slots

-- what a call may fill of a slot's cells is its free number with all that it may evict made empty
slot_free_is : (h : Head) (t : List ℕ) (clock s : ℕ) → slot_free t h.bridges (motors h) clock s ≡ usable_count h clock (cell h t) s
unfolding slot_free usable_in
slot_free_is h t clock s = go (is (usable clock s))
  where
    gone : ℕ → ℕ → Bool
    gone = evictable h clock (cell h t)

    go : Is (usable clock s)
        → only (usable clock s) (min (count h.bridges (λ b. free_cell (cell h t s b))) (motors h - count h.bridges (λ b. staying_cell (cell h t s b))))
        ≡ usable_count h clock (cell h t) s
    go (is_true e) =
        ap₂ (λ (x y : ℕ). only (usable clock s) (min x (motors h - y)))
        (count_ext h.bridges (λ b. free_cell (cell h t s b)) (λ b. is_empty (cleared gone (cell h t) s b))
        (λ b m. sym (cleared_empty h gone (cell h t) s b ∙ ap (λ (u : Bool). is_empty (cell h t s b) || u && evictable_cell (cell h t s b)) e)))
        (count_ext h.bridges (λ b. staying_cell (cell h t s b)) (λ b. is_held (cleared gone (cell h t) s b))
        (λ b m. sym (cleared_held h gone (cell h t) s b ∙ ap (λ (u : Bool). is_held (cell h t s b) && not (u && evictable_cell (cell h t s b))) e)))
    go (is_false e) = rw e

-- the table of its slots, as those of what a call may fill
pub entries_are : (h : Head) (clock : ℕ) (t : List ℕ) {xs : List ℕ} → AtLeast xs h.slots (slot_free t h.bridges (motors h) clock) → AtLeast xs h.slots (usable_count h clock (cell h t))
entries_are h clock t a = at_least_ext a (usable_count h clock (cell h t)) (λ s l. slot_free_is h t clock s)

pub entries_of : (h : Head) (clock : ℕ) (t : List ℕ) {xs : List ℕ} → AtLeast xs h.slots (usable_count h clock (cell h t)) → AtLeast xs h.slots (slot_free t h.bridges (motors h) clock)
entries_of h clock t a = at_least_ext a (slot_free t h.bridges (motors h) clock) (λ s l. sym (slot_free_is h t clock s))
