-- The starred frames of document 01, "Frames to try": one list of cases, each a station text, its whole listing and, where the case is about fitting, what
-- that says of every placement; and one fact, that all hold. Beside them the other frames to try of that list that a text can state, and all frames of
-- docs/CALLS.md: against versions 1 to 3 of the manual's page, and against readings that mislead; and frames with ties, with a supply and with the clock, of document 02, 2026-02, 2026-03 and 2026-05.
--
-- In order: cases and when one holds (`Case`, `Meaning`, `Holds`); `starred`, `others`, `refuting`, `misleading`, `tied`, `supplied`, `clocked`; from an answer to its meaning; `frames_hold`.
-- Assumes nothing.
use Prim.Native.Nat.{ℕ, ◌≤◌}
use Prim.Native.String.{String}
use mathlib.Core.Path.{◌≡◌, refl, sym}
use mathlib.Core.Bool.{Bool, true, false}
use mathlib.Core.List.{List, [], ◌∷◌}
use lib.ListN.{replicate}
use Rattle.laws.proofs.Tests.{clash}
use Rattle.station.specs.Head.{Head, Job}
use Rattle.station.specs.Refusal.{mandatory_not_feasible, call_not_feasible}
use Rattle.station.specs.Text.{bytes, ◌then◌}
use Rattle.station.specs.Decimal.{digits_in, digits}
use Rattle.station.specs.Form.{jobs_of, print}
use Rattle.station.specs.Reading.{Reading, head_of}
use Rattle.station.proofs.Examples.{reads}
use Rattle.placing.specs.Table.{cell, cells}
use Rattle.placing.specs.Valid.{ValidPlan, first_clock, ValidCall, lost}
use Rattle.placing.specs.State.{state_of}
use Rattle.placing.specs.Outcomes.{cost, PlanAnswer, plan_of, CallAnswer, call_of}
use Rattle.placing.proofs.Theorems.{plan_claim, call_claim_lem}
use Rattle.placing.proofs.Examples.{plans, calls, must_go, goes}
use Rattle.frame.specs.Event.{own_causes, carried_out, comes_to, run_of}
use Rattle.frame.specs.Text.{whole_with_plan, whole_with_head, whole_of}
use Rattle.frame.specs.Listing.{refused_line, granted_line, answer_line, cell_text, cell_texts, slot_line, slot_lines, granted_lines, answer_lines}
use Rattle.frame.specs.Listing.{listing_of}

-- ---- cases

-- What a case says of placements, beside its listing: of the plans of its head, or of the placements of some jobs at a clock on the table of that plan.
pub data Meaning : Type 0 where
  as_listed : Meaning  -- no more than the listing
  no_plan : Meaning  -- no valid plan exists
  a_plan : Meaning  -- a valid plan exists
  no_placement : ℕ → List Job → Meaning  -- at this clock these jobs have no valid placement
  loses : ℕ → List Job → ℕ → Meaning  -- every valid placement of them loses so many cells or more, and one loses just so many

-- a station text, its whole listing, and its meaning
pub record Case : Type 0 where
  pub text : String
  pub listing : List ℕ
  pub meaning : Meaning

abbrev pub shows : String → String → Case
shows t l = record { text = t; listing = bytes l; meaning = as_listed }

abbrev means : Meaning → String → String → Case
means m t l = record { text = t; listing = bytes l; meaning = m }

abbrev job : ℕ → ℕ → Job
job n c = record { number = n; slots = c }

-- a table of 512 empty cells, and the table of the plan
pub blank : List ℕ
blank = replicate 512 0

abbrev plan_table : Head → List ℕ
plan_table h = (plan_of h blank).table

-- what computes: `unfolding lists` opens all that the listing of a text needs
unfoldable pub lists : List ℕ → List ℕ
unfolding
    blank reads plans calls jobs_of own_causes carried_out comes_to run_of whole_with_plan whole_with_head whole_of
    print digits digits_in refused_line granted_line answer_line cell_text cell_texts slot_line slot_lines granted_lines answer_lines listing_of
lists text = listing_of (whole_of text blank)

-- the meaning, for a head
abbrev pub MeansOf : Head → Meaning → Type 0
MeansOf h as_listed = Unit {0}
MeansOf h no_plan = (u : List ℕ) → ValidPlan h (cell h u) → ⊥
MeansOf h a_plan = (u : List ℕ) × ValidPlan h (cell h u)
MeansOf h (no_placement clock jobs) = (u : List ℕ) → ValidCall h clock jobs (cell h (plan_table h)) (cell h u) → ⊥
MeansOf h (loses clock jobs n) =
    ((u : List ℕ) → ValidCall h clock jobs (cell h (plan_table h)) (cell h u) → n ≤ cells h (λ s b. lost (cell h (plan_table h)) (cell h u) s b))
    × ((u : List ℕ) × ValidCall h clock jobs (cell h (plan_table h)) (cell h u) × (cells h (λ s b. lost (cell h (plan_table h)) (cell h u) s b) ≡ n))

-- and for a text: a head that is refused has none
abbrev pub MeansIn : Reading → Meaning → Type 0
MeansIn (Reading.accepted h n) m = MeansOf h m
MeansIn (Reading.refused n r) m = m ≡ as_listed

-- A case holds: the listing is the text's, whole, and the meaning is that of its head.
abbrev pub Holds : Case → Type 0
Holds c = (listing_of (whole_of (bytes c.text) blank) ≡ c.listing) × MeansIn (head_of (bytes c.text)) c.meaning

-- what holds of all cases of a list
infixr 30 ◌and◌
pub data All (P : Case → Type 0) : List Case → Type 0 where
  end : All P []
  ◌and◌ : {c : Case} {cs : List Case} → P c → All P cs → All P (c ∷ cs)

-- ---- the lists

-- the listing of S 64, B 1 and one preset of m 64
abbrev all64 : List ℕ
all64 =
    bytes "(granted 1 0)\n(slot 1 m1)\n(slot 2 m1)\n(slot 3 m1)\n(slot 4 m1)\n(slot 5 m1)\n(slot 6 m1)\n(slot 7 m1)\n(slot 8 m1)\n(slot 9 m1)\n(slot 10 m1)\n" then
    bytes "(slot 11 m1)\n(slot 12 m1)\n(slot 13 m1)\n(slot 14 m1)\n(slot 15 m1)\n(slot 16 m1)\n(slot 17 m1)\n(slot 18 m1)\n(slot 19 m1)\n" then
    bytes "(slot 20 m1)\n(slot 21 m1)\n(slot 22 m1)\n(slot 23 m1)\n(slot 24 m1)\n(slot 25 m1)\n(slot 26 m1)\n(slot 27 m1)\n(slot 28 m1)\n" then
    bytes "(slot 29 m1)\n(slot 30 m1)\n(slot 31 m1)\n(slot 32 m1)\n(slot 33 m1)\n(slot 34 m1)\n(slot 35 m1)\n(slot 36 m1)\n(slot 37 m1)\n" then
    bytes "(slot 38 m1)\n(slot 39 m1)\n(slot 40 m1)\n(slot 41 m1)\n(slot 42 m1)\n(slot 43 m1)\n(slot 44 m1)\n(slot 45 m1)\n(slot 46 m1)\n" then
    bytes "(slot 47 m1)\n(slot 48 m1)\n(slot 49 m1)\n(slot 50 m1)\n(slot 51 m1)\n(slot 52 m1)\n(slot 53 m1)\n(slot 54 m1)\n(slot 55 m1)\n" then
    bytes "(slot 56 m1)\n(slot 57 m1)\n(slot 58 m1)\n(slot 59 m1)\n(slot 60 m1)\n(slot 61 m1)\n(slot 62 m1)\n(slot 63 m1)\n(slot 64 m1)\n"

pub starred : List Case
starred =
    -- "The listing above, its final table."
    shows "(frame 4 2)\n(busy 2 (2 3))\n(preset 1 0 2 1)\n(preset 2 1 1 2)\n(clock 2)\n(call (9 2))\n(call (10 1))\n(call (11 1))\n"
    "(granted 1 1)\n(granted 2 2)\n(now 2)\n(taken 2)\n(taken 1)\n(refused 8 7)\n(slot 1 m1 m2)\n(slot 2 m1 -)\n(slot 3 c9 -)\n(slot 4 c10 c9)\n"
    -- "S 10, B 3, nothing busy, m 5 4 3 3 2, o 4 4 4 3 3, equal priority: grants 4 4 4 1 0"
    ∷ record {
      text = "(frame 10 3)\n(preset 1 0 5 4)\n(preset 2 0 4 4)\n(preset 3 0 3 4)\n(preset 4 0 3 3)\n(preset 5 0 2 3)\n";
      listing =
          bytes "(granted 1 4)\n(granted 2 4)\n(granted 3 4)\n(granted 4 1)\n(granted 5 0)\n" then
          bytes "(slot 1 m1 m2 m3)\n(slot 2 m1 m2 m3)\n(slot 3 m1 m2 m3)\n(slot 4 m1 m2 o3)\n(slot 5 m1 o2 m4)\n" then
          bytes "(slot 6 o1 o2 o3)\n(slot 7 o1 o2 m4)\n(slot 8 o1 o3 m4)\n(slot 9 o1 o2 m5)\n(slot 10 o3 o4 m5)\n";
      meaning = a_plan;
    }
    -- "Free bridges 3, 1, 1, 1; m 3 and 3, o 0: number 5."
    ∷ means no_plan "(frame 4 3)\n(busy 2 (2 4))\n(busy 3 (2 4))\n(preset 1 0 3 0)\n(preset 2 0 3 0)\n" "(refused 5 5)\n"
    -- "Free 3, 1, 2, 1, the same presets: they fit."
    ∷ means a_plan "(frame 4 3)\n(busy 2 (2 2) (4 4))\n(busy 3 (2 4))\n(preset 1 0 3 0)\n(preset 2 0 3 0)\n"
    "(granted 1 0)\n(granted 2 0)\n(slot 1 m1 m2 0)\n(slot 2 m1 - -)\n(slot 3 m1 m2 -)\n(slot 4 m2 - -)\n"
    -- "Empty 3, 1, 1, 1 and one refinement cell in slot 2; a call of 3 and 3 takes 1."
    ∷ means (loses first_clock (job 5 3 ∷ job 6 3 ∷ []) 1)
    "(frame 4 4)\n(busy 2 (3 4))\n(busy 3 (2 4))\n(busy 4 (2 4))\n(preset 1 0 1 1)\n(call (5 3) (6 3))\n"
    "(granted 1 1)\n(taken 1)\n(slot 1 m1 c5 c6 0)\n(slot 2 c5 c6 - -)\n(slot 3 c5 - - -)\n(slot 4 c6 - - -)\n"
    -- "S 3, B 2, three presets of m 2: slot 1 holds presets 1 2, slot 2 holds 1 3, slot 3 holds 2 3."
    ∷ means a_plan "(frame 3 2)\n(preset 1 0 2 0)\n(preset 2 0 2 0)\n(preset 3 0 2 0)\n"
    "(granted 1 0)\n(granted 2 0)\n(granted 3 0)\n(slot 1 m1 m2)\n(slot 2 m1 m3)\n(slot 3 m2 m3)\n"
    -- "S 64, B 1, one preset of m 64: fits. With S 63: 5. m 65: 2."
    ∷ record { text = "(frame 64 1)\n(preset 1 0 64 0)\n"; listing = all64; meaning = a_plan }
    ∷ means no_plan "(frame 63 1)\n(preset 1 0 64 0)\n" "(refused 2 5)\n"
    ∷ shows "(frame 64 1)\n(preset 1 0 65 0)\n" "(refused 2 2)\n"
    -- "A call at clock S + 1: 7."
    ∷ means (no_placement 3 (job 5 1 ∷ [])) "(frame 2 1)\n(clock 3)\n(call (5 1))\n" "(now 3)\n(refused 3 7)\n(slot 1 0)\n(slot 2 0)\n"
    -- "Priorities 0 and 9 hold refinement that fills the last slot, all else being busy; a one-slot call takes the 9's."
    ∷ means (loses first_clock (job 7 1 ∷ []) 1) "(frame 2 2)\n(busy 1 (1 1))\n(busy 2 (1 1))\n(preset 1 0 0 1)\n(preset 2 9 0 1)\n(call (7 1))\n"
    "(granted 1 1)\n(granted 2 1)\n(taken 1)\n(slot 1 - -)\n(slot 2 o1 c7)\n"
    ∷ []

-- The frames without a star: "Clock 3 after 3 is accepted; 2 after 3 is 6. No text at all: 3 at line 1. No presets: no granted lines.
-- `(call (5 1) (5 1))`: 4." A clock above S + 1 is 2.
pub others : List Case
others =
    shows "(frame 3 1)\n(clock 3)\n(clock 3)\n(clock 2)\n(clock 0)\n(clock 5)\n(call (5 1) (5 1))\n(frame 3 1)\n(clock 4)"
    "(now 3)\n(now 3)\n(refused 4 6)\n(refused 5 6)\n(refused 6 2)\n(refused 7 4)\n(refused 8 3)\n(refused 9 1)\n(slot 1 0)\n(slot 2 0)\n(slot 3 0)\n"
    ∷ shows "" "(refused 1 3)\n"
    ∷ []

-- The frames of docs/CALLS.md against versions 1 to 3 of the manual's page.
pub refuting : List Case
refuting =
    -- version 1, "a call fits if enough cells are empty": four are empty, the job needs three different slots, and there are two
    means (no_placement first_clock (job 5 3 ∷ [])) "(frame 2 2)\n(call (5 3))\n" "(refused 2 7)\n(slot 1 0 0)\n(slot 2 0 0)\n"
    -- version 2, "and no job may be longer than the time left": empty 3, 1, 1, 1, two jobs of three slots
    ∷ means (no_placement first_clock (job 5 3 ∷ job 6 3 ∷ [])) "(frame 4 3)\n(busy 2 (2 4))\n(busy 3 (2 4))\n(call (5 3) (6 3))\n"
    "(refused 4 7)\n(slot 1 0 0 0)\n(slot 2 0 - -)\n(slot 3 0 - -)\n(slot 4 0 - -)\n"
    -- version 3, "the refinement lost is the call's length less the empty cells": 6 - 6 makes none, and one goes; the frame before the call
    ∷ shows "(frame 4 4)\n(busy 2 (3 4))\n(busy 3 (2 4))\n(busy 4 (2 4))\n(preset 1 0 1 1)\n"
    "(granted 1 1)\n(slot 1 m1 0 0 0)\n(slot 2 o1 0 - -)\n(slot 3 0 - - -)\n(slot 4 0 - - -)\n"
    -- and with it
    ∷ means (loses first_clock (job 5 3 ∷ job 6 3 ∷ []) 1)
    "(frame 4 4)\n(busy 2 (3 4))\n(busy 3 (2 4))\n(busy 4 (2 4))\n(preset 1 0 1 1)\n(call (5 3) (6 3))\n"
    "(granted 1 1)\n(taken 1)\n(slot 1 m1 c5 c6 0)\n(slot 2 c5 c6 - -)\n(slot 3 c5 - - -)\n(slot 4 c6 - - -)\n"
    ∷ []

-- The frames of docs/CALLS.md against document 01's "Readings that mislead", and against two other readings of that page.
pub misleading : List Case
misleading =
    -- as many cells as slots, refinement counted in: seven cells, six slots asked for, and no placement
    means (no_placement first_clock (job 5 3 ∷ job 6 3 ∷ []))
    "(frame 4 4)\n(busy 2 (2 4))\n(busy 3 (2 4))\n(busy 4 (2 4))\n(preset 1 0 0 1)\n(call (5 3) (6 3))\n"
    "(granted 1 1)\n(refused 6 7)\n(slot 1 o1 0 0 0)\n(slot 2 0 - - -)\n(slot 3 0 - - -)\n(slot 4 0 - - -)\n"
    -- refinement for what the empty cells lack in number, the first in time: that cell does not help
    ∷ means (loses first_clock (job 5 3 ∷ job 6 1 ∷ []) 1)
    "(frame 3 3)\n(busy 1 (2 3))\n(busy 2 (2 2))\n(preset 1 0 0 2)\n(preset 2 0 1 0)\n(call (5 3) (6 1))\n"
    "(granted 1 2)\n(granted 2 0)\n(taken 1)\n(slot 1 o1 m2 c5)\n(slot 2 - - c5)\n(slot 3 - c5 c6)\n"
    -- refinement first and empty cells later
    ∷ means (loses first_clock (job 5 1 ∷ []) 0) "(frame 2 1)\n(preset 1 0 0 1)\n(call (5 1))\n" "(granted 1 1)\n(taken 0)\n(slot 1 o1)\n(slot 2 c5)\n"
    -- the better preset spared slot by slot: over the whole frame the worse one loses, though its slot comes later
    ∷ means (loses first_clock (job 5 1 ∷ []) 1) "(frame 2 1)\n(preset 1 0 0 1)\n(preset 2 1 0 1)\n(call (5 1))\n"
    "(granted 1 1)\n(granted 2 1)\n(taken 1)\n(slot 1 o1)\n(slot 2 c5)\n"
    -- a whole job on one bridge: no bridge is free in both slots
    ∷ means (loses first_clock (job 5 2 ∷ []) 0) "(frame 2 2)\n(busy 1 (2 2))\n(busy 2 (1 1))\n(call (5 2))\n" "(taken 0)\n(slot 1 c5 -)\n(slot 2 - c5)\n"
    -- the worse preset always loses before the better one, also a cell that ends up empty: here its cell does not help, and is spared
    ∷ means (loses first_clock (job 5 2 ∷ []) 1) "(frame 2 2)\n(busy 2 (1 1))\n(preset 1 0 0 1)\n(preset 2 9 0 1)\n(call (5 2))\n"
    "(granted 1 1)\n(granted 2 1)\n(taken 1)\n(slot 1 c5 -)\n(slot 2 o2 c5)\n"
    -- two calls cost the least that they can cost together: each is placed for itself, and the second one takes what both in one call would have spared
    ∷ means (loses first_clock (job 5 1 ∷ []) 0) "(frame 3 3)\n(busy 2 (3 3))\n(busy 3 (1 1) (3 3))\n(preset 1 0 2 1)\n(call (5 1))\n(call (6 2))\n"
    "(granted 1 1)\n(taken 0)\n(taken 1)\n(slot 1 m1 c5 -)\n(slot 2 m1 c6 0)\n(slot 3 c6 - -)\n"
    ∷ means (loses first_clock (job 5 1 ∷ job 6 2 ∷ []) 0) "(frame 3 3)\n(busy 2 (3 3))\n(busy 3 (1 1) (3 3))\n(preset 1 0 2 1)\n(call (5 1) (6 2))\n"
    "(granted 1 1)\n(taken 0)\n(slot 1 m1 c6 -)\n(slot 2 m1 c5 c6)\n(slot 3 o1 - -)\n"
    ∷ []

-- Frames with `(tie hold)` and `(tie place)`.
pub tied : List Case
tied =
    -- "those with a cell in the slot just before come first": one preset of two slots stays, where by place the other comes between
    shows "(frame 3 1)\n(tie hold)\n(preset 1 0 1 0)\n(preset 2 0 2 0)\n" "(granted 1 0)\n(granted 2 0)\n(slot 1 m2)\n(slot 2 m2)\n(slot 3 m1)\n"
    ∷ shows "(frame 3 1)\n(preset 1 0 1 0)\n(preset 2 0 2 0)\n" "(granted 1 0)\n(granted 2 0)\n(slot 1 m2)\n(slot 2 m1)\n(slot 3 m2)\n"
    -- the slot just before, whatever is free there: after a slot without a free bridge nobody has one
    ∷ shows "(frame 4 1)\n(tie hold)\n(busy 1 (2 2))\n(preset 1 0 1 0)\n(preset 2 0 2 0)\n" "(granted 1 0)\n(granted 2 0)\n(slot 1 m2)\n(slot 2 -)\n(slot 3 m1)\n(slot 4 m2)\n"
    -- only equal remaining times: in slot 2 those with more to get come first, though they have no cell just before
    ∷ shows "(frame 4 2)\n(tie hold)\n(preset 1 0 2 0)\n(preset 2 0 2 0)\n(preset 3 0 2 0)\n(preset 4 0 2 0)\n"
    "(granted 1 0)\n(granted 2 0)\n(granted 3 0)\n(granted 4 0)\n(slot 1 m1 m2)\n(slot 2 m3 m4)\n(slot 3 m3 m4)\n(slot 4 m1 m2)\n"
    -- who is chosen, not where: the chosen still take bridges in file order
    ∷ shows "(frame 2 2)\n(tie hold)\n(busy 2 (1 1))\n(preset 1 0 1 0)\n(preset 2 0 2 0)\n" "(granted 1 0)\n(granted 2 0)\n(slot 1 m2 -)\n(slot 2 m1 m2)\n"
    -- "`(tie place)` there is a head line and meets 3"; a line that is not just one of the two is 1
    ∷ shows "(frame 1 1)\n(tie place)\n" "(refused 2 3)\n"
    ∷ shows "(frame 1 1)\n(tie Hold)\n" "(refused 2 1)\n"
    ∷ shows "(frame 1 1)\n(tie hold)" "(refused 2 1)\n"
    -- once is the head's and is not printed, twice is an event and is; after a busy line it is an event too, and a preset line after it out of place
    ∷ shows "(frame 1 1)\n(tie hold)\n(tie hold)\n" "(tie hold)\n(slot 1 0)\n"
    ∷ shows "(frame 1 1)\n(busy 1 (1 1))\n(tie hold)\n(preset 1 0 0 0)\n" "(tie hold)\n(refused 4 3)\n(slot 1 -)\n"
    -- "As an event either holds for later calls", and is "printed as it came"
    ∷ shows "(frame 6 1)\n(preset 9 0 0 0)\n(tie hold)\n(call (1 1) (2 2))\n(tie place)\n(call (3 1) (4 2))\n"
    "(granted 9 0)\n(tie hold)\n(taken 0)\n(tie place)\n(taken 0)\n(slot 1 c2)\n(slot 2 c2)\n(slot 3 c1)\n(slot 4 c4)\n(slot 5 c3)\n(slot 6 c4)\n"
    -- "Directly after the frame line `(tie hold)` holds for the plan and the calls": the two frames of docs/CALLS.md
    ∷ shows "(frame 3 1)\n(tie hold)\n(call (5 1) (6 2))\n" "(taken 0)\n(slot 1 c6)\n(slot 2 c6)\n(slot 3 c5)\n"
    ∷ shows "(frame 3 1)\n(call (5 1) (6 2))\n" "(taken 0)\n(slot 1 c6)\n(slot 2 c5)\n(slot 3 c6)\n"
    -- for more than one call, a clock between them or not, until a tie event says otherwise
    ∷ shows "(frame 9 1)\n(tie hold)\n(call (1 1) (2 2))\n(clock 2)\n(call (3 1) (4 2))\n(tie place)\n(call (5 1) (6 2))\n"
    "(taken 0)\n(now 2)\n(taken 0)\n(tie place)\n(taken 0)\n(slot 1 c2)\n(slot 2 c2)\n(slot 3 c1)\n(slot 4 c4)\n(slot 5 c4)\n(slot 6 c3)\n(slot 7 c6)\n(slot 8 c5)\n(slot 9 c6)\n"
    -- a refused line between leaves the order
    ∷ shows "(frame 3 1)\n(preset 9 0 0 0)\n(tie hold)\n(call (9 1))\n(tie Place)\n(clock 9)\n(call (1 1) (2 2))\n"
    "(granted 9 0)\n(tie hold)\n(refused 4 4)\n(refused 5 1)\n(refused 6 2)\n(taken 0)\n(slot 1 c2)\n(slot 2 c2)\n(slot 3 c1)\n"
    ∷ []

-- ---- frames with a supply: document 02, 2026-03

unfoldable pub supplied : List Case
supplied =
    -- "k less the cells held by presets and calls": one job finds a motor beside two required cells, two do not
    means (loses first_clock (job 9 1 ∷ []) 0) "(frame 1 4)\n(supply 3)\n(preset 1 0 1 0)\n(preset 2 0 1 0)\n(call (9 1))\n" "(granted 1 0)\n(granted 2 0)\n(taken 0)\n(slot 1 m1 m2 c9 0)\n"
    ∷ means (no_placement first_clock (job 9 1 ∷ job 8 1 ∷ [])) "(frame 1 4)\n(supply 3)\n(preset 1 0 1 0)\n(preset 2 0 1 0)\n(call (9 1) (8 1))\n"
    "(granted 1 0)\n(granted 2 0)\n(refused 5 7)\n(slot 1 m1 m2 0 0)\n"
    -- earlier calls hold their motors; a lost cell frees one, though a bridge is empty
    ∷ shows "(frame 1 3)\n(supply 2)\n(call (7 1) (8 1))\n(call (9 1))\n" "(taken 0)\n(refused 4 7)\n(slot 1 c7 c8 0)\n"
    ∷ means (loses first_clock (job 9 1 ∷ []) 1) "(frame 1 3)\n(supply 2)\n(preset 1 0 1 0)\n(preset 2 0 0 1)\n(call (9 1))\n" "(granted 1 0)\n(granted 2 1)\n(taken 1)\n(slot 1 m1 c9 0)\n"
    -- a busy cell draws nothing; the chosen take the lowest free bridges, and the others stay empty
    ∷ means a_plan "(frame 1 3)\n(supply 1)\n(busy 1 (1 1))\n(preset 1 0 1 0)\n" "(granted 1 0)\n(slot 1 - m1 0)\n"
    ∷ means a_plan "(frame 2 3)\n(supply 2)\n(preset 1 0 1 0)\n(preset 2 0 1 0)\n(preset 3 0 1 0)\n" "(granted 1 0)\n(granted 2 0)\n(granted 3 0)\n(slot 1 m1 m2 0)\n(slot 2 m3 0 0)\n"
    -- required slots for which no motor is left do not fit
    ∷ means no_plan "(frame 1 2)\n(supply 1)\n(preset 1 0 1 0)\n(preset 2 0 1 0)\n" "(refused 4 5)\n"
    -- "k from 1 to 8"; above B it has no effect
    ∷ shows "(frame 1 1)\n(supply 0)\n" "(refused 2 2)\n"
    ∷ shows "(frame 1 1)\n(supply 9)\n" "(refused 2 2)\n"
    ∷ shows "(frame 1 1)\n(supply 03)\n" "(refused 2 1)\n"
    ∷ shows "(frame 1 2)\n(supply 8)\n(call (1 1) (2 1))\n" "(taken 0)\n(slot 1 c1 c2)\n"
    -- it "stands right after the frame line": on line 1, a second one, after the tie line, a busy line, a preset and an event it is out of its place, whatever k
    ∷ shows "(supply 1)\n" "(refused 1 3)\n"
    ∷ shows "(frame 1 1)\n(supply 1)\n(supply 99)\n" "(refused 3 3)\n"
    ∷ shows "(frame 1 1)\n(tie hold)\n(supply 99)\n" "(refused 3 3)\n"
    ∷ shows "(frame 1 1)\n(busy 1 (1 1))\n(supply 99)\n" "(refused 3 3)\n"
    ∷ shows "(frame 1 1)\n(preset 1 0 0 0)\n(supply 99)\n" "(refused 3 3)\n"
    ∷ shows "(frame 1 1)\n(clock 1)\n(supply 99)\n(supply 1)\n" "(now 1)\n(refused 3 3)\n(refused 4 3)\n(slot 1 0)\n"
    -- "the place of a head's tie line is then right after it"
    ∷ shows "(frame 3 2)\n(supply 1)\n(tie hold)\n(call (5 1) (6 2))\n" "(taken 0)\n(slot 1 c6 0)\n(slot 2 c6 0)\n(slot 3 c5 0)\n"
    ∷ shows "(frame 1 1)\n(supply 1)\n(tie place)\n" "(refused 3 3)\n"
    ∷ shows "(frame 1 1)\n(supply 1)\n(tie hold)\n(tie hold)\n" "(tie hold)\n(slot 1 0)\n"
    ∷ []

-- ---- frames with the clock: document 02, 2026-05

pub clocked : List Case
clocked =
    -- "with its clock line at 4, jobs 10 and 11 found a place before and now meet 7": document 01's listing
    means (no_placement 4 (job 10 1 ∷ [])) "(frame 4 2)\n(busy 2 (2 3))\n(preset 1 0 2 1)\n(preset 2 1 1 2)\n(clock 4)\n(call (9 2))\n(call (10 1))\n(call (11 1))\n"
    "(granted 1 1)\n(granted 2 2)\n(now 4)\n(refused 6 7)\n(refused 7 7)\n(refused 8 7)\n(slot 1 m1 m2)\n(slot 2 m1 -)\n(slot 3 o2 -)\n(slot 4 o1 o2)\n"
    -- "A call uses slots above the clock": without a clock line all, at 1 the second alone, at 2 and at 3 none; above S + 1 is 2
    ∷ means (loses 0 (job 1 2 ∷ []) 0) "(frame 2 1)\n(call (1 2))\n" "(taken 0)\n(slot 1 c1)\n(slot 2 c1)\n"
    ∷ means (no_placement 1 (job 1 2 ∷ [])) "(frame 2 1)\n(clock 1)\n(call (1 2))\n(call (2 1))\n" "(now 1)\n(refused 3 7)\n(taken 0)\n(slot 1 0)\n(slot 2 c2)\n"
    ∷ means (no_placement 2 (job 1 1 ∷ [])) "(frame 2 1)\n(clock 2)\n(call (1 1))\n(clock 3)\n(call (1 1))\n(clock 4)\n" "(now 2)\n(refused 3 7)\n(now 3)\n(refused 5 7)\n(refused 6 2)\n(slot 1 0)\n(slot 2 0)\n"
    -- "`(clock 0)` becomes legal, with 0 the start": accepted as long as the clock is 0, and 6 afterwards
    ∷ shows "(frame 2 1)\n(clock 0)\n(clock 0)\n(call (1 2))\n(clock 1)\n(clock 0)\n" "(now 0)\n(now 0)\n(taken 0)\n(now 1)\n(refused 6 6)\n(slot 1 c1)\n(slot 2 c1)\n"
    -- "The least loss is measured over placements in slots above the clock": docs/CALLS.md, the slot about to begin, worked
    ∷ means (loses 0 (job 9 1 ∷ []) 0) "(frame 2 2)\n(busy 2 (2 2))\n(preset 1 0 0 2)\n(call (9 1))\n" "(granted 1 2)\n(taken 0)\n(slot 1 o1 c9)\n(slot 2 o1 -)\n"
    ∷ means (loses 1 (job 9 1 ∷ []) 1) "(frame 2 2)\n(busy 2 (2 2))\n(preset 1 0 0 2)\n(clock 1)\n(call (9 1))\n" "(granted 1 2)\n(now 1)\n(taken 1)\n(slot 1 o1 0)\n(slot 2 c9 -)\n"
    ∷ means (no_placement 2 (job 9 1 ∷ [])) "(frame 2 2)\n(busy 2 (2 2))\n(preset 1 0 0 2)\n(clock 2)\n(call (9 1))\n" "(granted 1 2)\n(now 2)\n(refused 5 7)\n(slot 1 o1 0)\n(slot 2 o1 -)\n"
    -- 4 asks for cells in slots gone by too
    ∷ shows "(frame 2 1)\n(call (5 1))\n(clock 1)\n(call (5 1))\n(call (6 1))\n" "(taken 0)\n(now 1)\n(refused 4 4)\n(taken 0)\n(slot 1 c5)\n(slot 2 c6)\n"
    ∷ []

-- ---- from the answers, which compute, to their meaning, by the claims about plan and call

abbrev is_granted : PlanAnswer → Bool
is_granted (PlanAnswer.granted g) = true
is_granted (PlanAnswer.refused _ r) = false

granted_is : (a : PlanAnswer) → is_granted a ≡ true → (g : List ℕ) × (a ≡ PlanAnswer.granted g)
granted_is (PlanAnswer.granted g) e = (g, refl)
granted_is (PlanAnswer.refused _ r) e = absurd (clash (sym e))

abbrev AnswerOf : Head → Meaning → Type 0
AnswerOf h as_listed = Unit {0}
AnswerOf h no_plan = (plan_of h blank).answer ≡ PlanAnswer.refused 0 mandatory_not_feasible
AnswerOf h a_plan = is_granted (plan_of h blank).answer ≡ true
AnswerOf h (no_placement clock jobs) = (call_of h jobs (state_of (plan_table h) clock h.hold)).answer ≡ CallAnswer.refused 0 call_not_feasible
AnswerOf h (loses clock jobs n) = (call_of h jobs (state_of (plan_table h) clock h.hold)).answer ≡ CallAnswer.taken (cost n)

abbrev AnswerIn : Reading → Meaning → Type 0
AnswerIn (Reading.accepted h n) m = AnswerOf h m
AnswerIn (Reading.refused n r) m = m ≡ as_listed

answer_means : (h : Head) (m : Meaning) → AnswerOf h m → MeansOf h m
answer_means h as_listed e = tt
answer_means h no_plan e = ((plan_claim h blank).five.0 e).2
answer_means h a_plan e = let p = granted_is (plan_of h blank).answer e in (plan_table h, (plan_claim h blank).valid p.0 p.1)
answer_means h (no_placement clock jobs) e = ((call_claim_lem h jobs (state_of (plan_table h) clock h.hold)).seven.0 e).1
answer_means h (loses clock jobs n) e = (must_go h clock h.hold jobs (plan_table h) n e, goes h clock h.hold jobs (plan_table h) n e)

reading_means : (r : Reading) (m : Meaning) → AnswerIn r m → MeansIn r m
reading_means (Reading.accepted h n) m e = answer_means h m e
reading_means (Reading.refused n r) m e = e

-- the listing and the answers of a case, by computing
abbrev Computes : Case → Type 0
Computes c = (listing_of (whole_of (bytes c.text) blank) ≡ c.listing) × AnswerIn (head_of (bytes c.text)) c.meaning

all_hold : {cs : List Case} → All Computes cs → All Holds cs
all_hold end = end
all_hold (◌and◌ {c} e es) = (e.0, reading_means (head_of (bytes c.text)) c.meaning e.1) and all_hold es

starred_compute : All Computes starred
unfolding lists starred
starred_compute =
    (refl, tt) and (refl, refl) and (refl, refl) and (refl, refl) and (refl, refl) and (refl, refl) and (refl, refl)
    and (refl, refl) and (refl, refl) and (refl, refl) and (refl, refl) and end

others_compute : All Computes others
unfolding lists others
others_compute = (refl, tt) and (refl, refl) and end

refuting_compute : All Computes refuting
unfolding lists refuting
refuting_compute = (refl, refl) and (refl, refl) and (refl, tt) and (refl, refl) and end

misleading_compute : All Computes misleading
unfolding lists misleading
misleading_compute =
    (refl, refl) and (refl, refl) and (refl, refl) and (refl, refl) and (refl, refl) and (refl, refl) and (refl, refl) and (refl, refl) and end

tied_compute : All Computes tied
unfolding lists tied
tied_compute =
    (refl, tt) and (refl, tt) and (refl, tt) and (refl, tt) and (refl, tt) and (refl, refl) and (refl, refl) and (refl, refl) and (refl, tt) and (refl, tt) and (refl, tt) and (refl, tt)
    and (refl, tt) and (refl, tt) and (refl, tt) and end

supplied_compute : All Computes supplied
unfolding lists supplied
supplied_compute =
    (refl, refl) and (refl, refl) and (refl, tt) and (refl, refl) and (refl, refl) and (refl, refl) and (refl, refl) and (refl, refl) and (refl, refl) and (refl, refl) and (refl, tt)
    and (refl, refl) and (refl, refl) and (refl, refl) and (refl, refl) and (refl, refl) and (refl, tt) and (refl, tt) and (refl, refl) and (refl, tt) and end

clocked_compute : All Computes clocked
unfolding lists clocked
clocked_compute = (refl, refl) and (refl, refl) and (refl, refl) and (refl, refl) and (refl, tt) and (refl, refl) and (refl, refl) and (refl, refl) and (refl, tt) and end

-- Every starred frame comes out as document 01 says, and so do the others; every frame of docs/CALLS.md comes out as that page says, and those with ties, with a supply and with the clock as
-- document 02 does.
pub frames_hold : All Holds starred × All Holds others × All Holds refuting × All Holds misleading × All Holds tied × All Holds supplied × All Holds clocked
frames_hold =
    (all_hold starred_compute, all_hold others_compute, all_hold refuting_compute, all_hold misleading_compute, all_hold tied_compute, all_hold supplied_compute, all_hold clocked_compute)
