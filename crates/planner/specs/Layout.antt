-- The layout of what a caller in another language lends: preset records as bytes, a frame as numbers. It is defined here and nowhere else; that reading and
-- writing are inverse is proved in proofs/RoundTrip.antt.
--
-- In order: the version (`layout_version`); the bytes of preset records, read (`records_in`) and written (`bytes_over`); the numbers of a frame, read (`head_of_numbers`, `clock_of_numbers`, `hold_of_numbers`) and
-- written (`head_over`, `tie_over`, `numbers_over`, `clock_over`, `started`, `masks_over`).
-- Assumes nothing.
use Rattle.std.specs.Prelude.{ℕ, zero, suc, ◌+◌, ◌*◌, Bool, cond, List, [], ◌∷◌, get_or, set, drop, ltb}
use Rattle.std.specs.Bool.{beq}
use Rattle.std.proofs.lemmas.List.Edits.{sets}
use Rattle.laws.specs.Sums.{bit}
use Rattle.laws.specs.Lists.{tabulate}
use Rattle.station.specs.Limits.{most_bridges, most_presets, least_records}
use Rattle.station.specs.declared.types.Preset.{Preset}
use Rattle.station.specs.declared.types.Head.{Head}
use Rattle.placing.specs.Valid.{first_clock}

-- the version of this layout and of what its numbers mean, `PLANNER_VERSION` of include/planner.h
abbrev pub layout_version : ℕ
layout_version = 5

-- ---- "Presets stand in a lent list of records, in file order."

-- A record is four bytes, number, priority, mandatory and optional slots; record i stands at 4 i.
abbrev pub record_at : List ℕ → ℕ → Preset
record_at l i = record {
  number = get_or l (4 * i) 0;
  priority = get_or l (4 * i + 1) 0;
  mandatory = get_or l (4 * i + 2) 0;
  optional = get_or l (4 * i + 3) 0;
}

-- the first n records of a list of bytes, one after the other
unfoldable pub first_records : ℕ → List ℕ → List Preset
first_records zero l = []
first_records (suc n) l = record_at l 0 ∷ first_records n (drop 4 l)

-- how many bytes the records of a "preset list" have at the least
abbrev pub preset_bytes : ℕ
preset_bytes = 4 * least_records

-- the 32 records of the first 128 bytes: so many presets a head may have
abbrev pub records_in : List ℕ → List Preset
records_in l = first_records most_presets l

-- the bytes of some records
unfoldable pub bytes_of : List Preset → List ℕ
bytes_of [] = []
bytes_of (p ∷ ps) = p.number ∷ p.priority ∷ p.mandatory ∷ p.optional ∷ bytes_of ps

-- A list of bytes with some records written over its start: every byte past them is as it was.
abbrev pub bytes_over : List Preset → List ℕ → List ℕ
bytes_over ps l = sets l 0 (bytes_of ps)

-- ---- the running frame: its head, "the clock", and the order of ties in force

-- A frame is sixteen numbers: slots, bridges, how many presets, the clock, the busy slots of bridges 1 to 8, one mask each with slot 1 as the lowest bit, at 12 the supply, 0 without a supply line,
-- at 13 the head's order of ties, at 14 the one in force, and at 15 one that is reserved for a request to come: how many jobs were admitted (2026-06). Until then it is not looked at. A text
-- that ran leaves 0 there, so that a later version can tell a frame stored by this one; nothing else writes there.
abbrev pub frame_numbers : ℕ
frame_numbers = 16

-- the places of the clock, of the supply and of the two orders of ties
abbrev pub clock_place : ℕ
clock_place = 3

abbrev pub supply_place : ℕ
supply_place = 12

abbrev pub head_tie : ℕ
head_tie = 13

abbrev pub tie_in_force : ℕ
tie_in_force = 14

-- what a number there says: 0 is place, any other number hold
abbrev pub says_hold : ℕ → Bool
says_hold n = ltb 0 n

-- what is read of them; the reserved one is not
abbrev pub head_of_numbers : List ℕ → Head
head_of_numbers l = record {
  slots = get_or l 0 0;
  bridges = get_or l 1 0;
  supply = get_or l supply_place 0;
  hold = says_hold (get_or l head_tie 0);
  busy = tabulate most_bridges (λ b. get_or l (4 + b) 0);
  count = get_or l 2 0;
}

abbrev pub clock_of_numbers : List ℕ → ℕ
clock_of_numbers l = get_or l clock_place 0

abbrev pub hold_of_numbers : List ℕ → Bool
hold_of_numbers l = says_hold (get_or l tie_in_force 0)

-- A list of numbers with a head, all but its order of ties, and a clock written over its start: every number past the thirteenth is as it was.
abbrev pub head_over : Head → ℕ → List ℕ → List ℕ
head_over head clock l = set (sets l 0 (head.slots ∷ head.bridges ∷ head.count ∷ clock ∷ head.busy)) supply_place head.supply

-- with an order of ties at a place: 0 for place and 1 for hold, and a number that says it already stays as it is
abbrev pub tie_over : ℕ → Bool → List ℕ → List ℕ
tie_over place hold l = cond (beq (says_hold (get_or l place 0)) hold) l (set l place (bit hold))

-- with a whole frame, that is with head and clock, both orders of ties, and 0 in the reserved place: every number past the sixteenth is as it was
abbrev pub numbers_over : Head → ℕ → Bool → List ℕ → List ℕ
numbers_over head clock hold l = sets (head_over head clock l) head_tie (bit head.hold ∷ bit hold ∷ 0 ∷ [])

-- and with a clock alone
abbrev pub clock_over : ℕ → List ℕ → List ℕ
clock_over clock l = set l clock_place clock

-- with the first clock, and the head's order of ties put in force: "It starts from an accepted head with its plan and the first clock"
abbrev pub started : List ℕ → List ℕ
started l = set (clock_over first_clock l) tie_in_force (get_or l head_tie 0)

-- or with the masks of the busy slots alone
abbrev pub masks_over : List ℕ → List ℕ → List ℕ
masks_over ms l = sets l 4 ms
