-- The listing: what the program writes. Document 01, "One listing, whole"; document 02, 2026-02.
-- Assumes nothing.
use Rattle.std.specs.Prelude.{ℕ, zero, suc, List, [], ◌∷◌}
use Rattle.laws.specs.Lists.{at}
use Rattle.station.specs.Head.{Head, Preset}
use Rattle.station.specs.Refusal.{Refusal, number_of}
use Rattle.station.specs.Text.{bytes, ◌then◌}
use Rattle.station.specs.Decimal.{digits}
use Rattle.station.specs.Form.{tie_line, print}
use Rattle.placing.specs.Table.{cell, kind_of, number_in}
use Rattle.frame.specs.Event.{Answer, clock_now, tie_now, taken, refused}
use Rattle.frame.specs.Text.{Whole, not_read, not_planned, ran}

-- "Refused: line and number."
unfoldable pub refused_line : ℕ → Refusal → List ℕ
refused_line n r = bytes "(refused " then digits n then bytes " " then digits (number_of r) then bytes ")\n"

-- "Granted: preset number and slots, in file order. Now: the clock. Taken: refinement cells lost."
unfoldable pub granted_line : ℕ → ℕ → List ℕ
granted_line n g = bytes "(granted " then digits n then bytes " " then digits g then bytes ")\n"

-- and "An accepted tie event is printed as it came."
unfoldable pub answer_line : ℕ → Answer → List ℕ
answer_line n (clock_now t) = bytes "(now " then digits t then bytes ")\n"
answer_line n (tie_now hold) = print (tie_line hold)
answer_line n (taken c) = bytes "(taken " then digits c.count then bytes ")\n"
answer_line n (refused _ r) = refused_line n r

-- "`-` busy, `0` empty, else m, o or c for kinds 2, 3, 4 and the number"
unfoldable pub cell_text : ℕ → ℕ → List ℕ
cell_text zero n = bytes "0"
cell_text (suc zero) n = bytes "-"
cell_text (suc (suc zero)) n = bytes "m" then digits n
cell_text (suc (suc (suc zero))) n = bytes "o" then digits n
cell_text (suc (suc (suc (suc k)))) n = bytes "c" then digits n

-- the cells of slot s from bridge b on, k of them
unfoldable pub cell_texts : Head → List ℕ → ℕ → ℕ → ℕ → List ℕ
cell_texts h t s b zero = bytes ")\n"
cell_texts h t s b (suc k) = bytes " " then cell_text (kind_of (cell h t s b)) (number_in (cell h t s b)) then cell_texts h t s (suc b) k

-- "Slot: its number, then the bridges"
unfoldable pub slot_line : Head → List ℕ → ℕ → List ℕ
slot_line h t s = bytes "(slot " then digits (suc s) then cell_texts h t s 0 h.bridges

-- the lines of the slots from s on, k of them
unfoldable pub slot_lines : Head → List ℕ → ℕ → ℕ → List ℕ
slot_lines h t s zero = []
slot_lines h t s (suc k) = slot_line h t s then slot_lines h t (suc s) k

-- the granted lines of the presets, the first of which has the grant of line i
unfoldable pub granted_lines : List ℕ → ℕ → List Preset → List ℕ
granted_lines g i [] = []
granted_lines g i (p ∷ ps) = granted_line p.number (at g i) then granted_lines g (suc i) ps

-- the answers to the lines after line n
unfoldable pub answer_lines : ℕ → List Answer → List ℕ
answer_lines n [] = []
answer_lines n (a ∷ rest) = answer_line (suc n) a then answer_lines (suc n) rest

-- "A refused head gives its one refused line only."
unfoldable pub listing_of : Whole → List ℕ
listing_of (not_read n r) = refused_line n r
listing_of (not_planned h n r) = refused_line n r
listing_of (ran h n g r) =
    granted_lines g 0 h.presets then answer_lines n r.answers then slot_lines h r.after.table 0 h.slots
