-- Writing a head: "The head has one text only, and the writer makes it." Document 01, "The station
-- text"; document 02, 2026-02 and 2026-03. The busy cells of a bridge are a mask; its stretches are
-- the runs of ones, slot 1 being the lowest bit. Assumes nothing.
use Rattle.std.specs.Prelude.{ℕ, zero, suc, ◌+◌, ◌-◌, ◌/◌, ◌%◌, ◌^◌, Bool, true, false, cond, ◌&&◌, ◌||◌, List, [], ◌∷◌, ◌++◌, map, eqb, leb}
use Rattle.std.proofs.Math.Option.{Option, none, some}
use Rattle.station.specs.Limits.{most_slots}
use Rattle.station.specs.Head.{Head, within}
use Rattle.station.specs.Text.{join}
use Rattle.station.specs.Form.{Pairs, last, next, Form, frame_line, busy_line, preset_line, clock_line, call_line, tie_line, supply_line, print}

-- the mask of the slots from f to t, both included
abbrev pub mask_to : ℕ → ℕ → ℕ
mask_to f t = 2 ^ t - 2 ^ (f - 1)

-- the mask of some stretches
unfoldable pub mask_of : Pairs → ℕ
mask_of (last f t) = mask_to f t
mask_of (next f t p) = mask_to f t + mask_of p

-- "f ≤ t; each f is at least 2 above the t before it": the first f is at least lo, and no t is
-- above hi.
unfoldable pub ordered : ℕ → ℕ → Pairs → Bool
ordered lo hi (last f t) = leb lo f && leb f t && leb t hi
ordered lo hi (next f t p) = leb lo f && leb f t && leb t hi && ordered (t + 2) hi p

-- the first slot of some stretches
abbrev pub first_slot : Pairs → ℕ
first_slot (last f t) = f
first_slot (next f t p) = f

-- the same stretches, the first of them from slot s on
abbrev pub started_at : ℕ → Pairs → Pairs
started_at s (last f t) = last s t
started_at s (next f t p) = next s t p

-- Slot s is busy, and those are the stretches after it: it joins the first of them if that begins
-- in the next slot, else it stands alone.
abbrev pub with_slot : ℕ → Option Pairs → Pairs
with_slot s none = last s s
with_slot s (some p) = cond (eqb (first_slot p) (suc s)) (started_at s p) (next s s p)

-- The stretches of a mask of k bits, its lowest bit being slot s: none where no slot is busy.
unfoldable pub stretches : ℕ → ℕ → ℕ → Option Pairs
stretches zero s m = none
stretches (suc k) s m =
    let rest = stretches k (suc s) (m / 2) in
    cond (eqb (m % 2) 1) (some (with_slot s rest)) rest

-- the busy line of bridge b, or none: "At least one stretch"
abbrev pub busy_line_of : ℕ → Option Pairs → List Form
busy_line_of b none = []
busy_line_of b (some p) = busy_line b p ∷ []

-- the busy lines of the bridges from b on: "Bridges ascend from line to line"
unfoldable pub busy_lines : ℕ → List ℕ → List Form
busy_lines b [] = []
busy_lines b (m ∷ ms) = busy_line_of b (stretches most_slots 1 m) ++ busy_lines (suc b) ms

-- the supply line of a head, which "stands right after the frame line"; none where k is 0
abbrev pub supply_lines : ℕ → List Form
supply_lines zero = []
supply_lines (suc k) = supply_line (suc k) ∷ []

-- the tie line of a head: "Directly after the frame line `(tie hold)`" or right after its supply
-- line, and without it there is none, "so that a head keeps one text"
abbrev pub tie_lines : Bool → List Form
tie_lines true = tie_line true ∷ []
tie_lines false = []

-- the lines of a head, "in this order": the frame, its supply line, its tie line, the busy lines,
-- the presets
unfoldable pub forms_of : Head → List Form
forms_of h = frame_line h.slots h.bridges ∷ (supply_lines h.supply ++ (tie_lines h.hold ++ (busy_lines 1 h.busy ++ map preset_line h.presets)))

-- the text of a head
unfoldable pub text_of : Head → List ℕ
text_of h = join (map print (forms_of h))

-- ---- what busy lines say

-- slot x lies in one of the stretches: "from slot f to slot t, both included"
unfoldable pub covers : Pairs → ℕ → Bool
covers (last f t) x = within f t x
covers (next f t p) x = within f t x || covers p x

-- "`(busy b (f t) (f t))`: bridge b is taken from slot f to slot t, both included": the line says
-- so of slot x of bridge b
abbrev pub line_takes : Form → ℕ → ℕ → Bool
line_takes (frame_line s c) b x = false
line_takes (busy_line c p) b x = eqb c b && covers p x
line_takes (preset_line p) b x = false
line_takes (clock_line t) b x = false
line_takes (call_line p) b x = false
line_takes (tie_line hold) b x = false
line_takes (supply_line k) b x = false

-- one of the lines says so
unfoldable pub lines_take : List Form → ℕ → ℕ → Bool
lines_take [] b x = false
lines_take (f ∷ fs) b x = line_takes f b x || lines_take fs b x
