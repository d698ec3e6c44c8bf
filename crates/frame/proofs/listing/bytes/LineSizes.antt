-- How long each line of the listing can be: an output of 8,192 bytes has room for any of them.
--
-- In order: the line of an answer (`answer_fits`), of a grant (`grant_fits`) and of a slot
-- (`slot_fits`).
-- Assumes nothing.
use Prim.Native.Nat.{ℕ, zero, suc, ◌+◌, ◌*◌, ◌^◌, ◌≤◌, ◌<◌}
use native.Mathlib.Omega.{arith}
use mathlib.Core.Bool.{true, false}
use mathlib.Core.List.{List}
use lib.ListN.{length, length-append}
use Rattle.station.specs.Head.{Head}
use Rattle.station.specs.Refusal.{Refusal, number_of}
use Rattle.station.specs.Text.{bytes}
use Rattle.station.specs.Form.{print}
use Rattle.station.specs.Decimal.{digits}
use Rattle.station.proofs.Theorems.{number_small, digits_length}
use Rattle.placing.specs.Table.{cell, kind_of, number_in}
use Rattle.frame.specs.Event.{Answer, clock_now, tie_now, taken, refused}
use Rattle.frame.specs.Listing.{refused_line, granted_line, answer_line, cell_text, cell_texts, slot_line}

-- a number of the code has at most 20 digits
pub digits_few : (n : ℕ) → n < 2 ^ 64 → length (digits n) ≤ 20
digits_few n h = digits_length 20 n (omega arith) (omega arith)

refused_fits : (n : ℕ) (r : Refusal) → n < 2 ^ 64 → length (refused_line n r) ≤ 8192
unfolding refused_line bytes
refused_fits n r h =
    simp length-append (omega (arith, digits_few n h, digits_few (number_of r) (omega (arith, number_small r))))

-- the number in an answer is one of the code's
abbrev pub Small : Answer → Type 0
Small (clock_now t) = length (digits t) ≤ 20
Small (tie_now hold) = Unit {0}
Small (taken c) = length (digits c.count) ≤ 20
Small (refused _ r) = Unit {0}

pub answer_fits : (n : ℕ) (a : Answer) → n < 2 ^ 64 → Small a → length (answer_line n a) ≤ 8192
unfolding answer_line print bytes
answer_fits n (clock_now t) h s = simp length-append (omega (arith, s))
answer_fits n (tie_now true) h s = omega arith
answer_fits n (tie_now false) h s = omega arith
answer_fits n (taken c) h s = simp length-append (omega (arith, s))
answer_fits n (refused _ r) h s = refused_fits n r h

pub grant_fits : (n g : ℕ) → n < 2 ^ 64 → g < 2 ^ 64 → length (granted_line n g) ≤ 8192
unfolding granted_line bytes
grant_fits n g h l = simp length-append (omega (arith, digits_few n h, digits_few g l))

cell_few : (k n : ℕ) → n < 2 ^ 64 → length (cell_text k n) ≤ 21
unfolding cell_text bytes
cell_few zero n h = omega arith
cell_few (suc zero) n h = omega arith
cell_few (suc (suc zero)) n h = omega (arith, digits_few n h)
cell_few (suc (suc (suc zero))) n h = omega (arith, digits_few n h)
cell_few (suc (suc (suc (suc k)))) n h = omega (arith, digits_few n h)

cells_few : (h : Head) (t : List ℕ) (s b k : ℕ) → length (cell_texts h t s b k) ≤ 2 + k * 22
unfolding cell_texts bytes
cells_few h t s b zero = omega arith
cells_few h t s b (suc k) =
    let v = cell h t s b in
    let low : number_in v < 2 ^ 64 = omega arith in
    omega (arith, length-append (cell_text (kind_of v) (number_in v)) (cell_texts h t s (suc b) k), cell_few (kind_of v) (number_in v) low, cells_few h t s (suc b) k)

pub slot_fits : (h : Head) (t : List ℕ) (s : ℕ) → s < 64 → h.bridges ≤ 8 → length (slot_line h t s) ≤ 8192
unfolding slot_line bytes
slot_fits h t s l m =
    omega (arith, length-append (digits (suc s)) (cell_texts h t s 0 h.bridges), digits_few (suc s) (omega arith), cells_few h t s 0 h.bridges)
