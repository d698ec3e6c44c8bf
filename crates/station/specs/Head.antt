-- The head of a station text as a record, and when a record is one that a text yields. Document 01,
-- "The frame and its parts"; document 02, 2026-02 and 2026-03. Slots and bridges are counted from 0
-- here: slot s is the paper's slot s + 1, bridge b its bridge b + 1. Assumes nothing.
use Rattle.std.specs.Prelude.{ℕ, zero, suc, ◌≤◌, ◌<◌, ◌/◌, ◌%◌, ◌^◌, ◌≡◌, Bool, true, false, not, ◌&&◌, ◌||◌, List, [], ◌∷◌, length, get_or, replicate, eqb, ltb, leb}
use Rattle.station.specs.Limits.{most_slots, most_bridges, most_motors, most_presets, worst_priority, most_mandatory, most_optional, most_number}

-- "A preset has a number, a priority (0 is best), m required slots and o refinement slots."
pub record Preset : Type 0 where
  pub number : ℕ
  pub priority : ℕ
  pub mandatory : ℕ
  pub optional : ℕ

-- "A frame has S slots .. and B bridges"; the k of its supply line, 0 where it has none: "without
-- it there is no cap"; whether `(tie hold)` stands directly after the frame line or its supply
-- line; the busy cells, one mask of 64 bits for each of eight bridges, slot s being the bit of
-- worth 2 ^ s; the presets in file order.
pub record Head : Type 0 where
  pub slots : ℕ
  pub bridges : ℕ
  pub supply : ℕ
  pub hold : Bool
  pub busy : List ℕ
  pub presets : List Preset

-- "A call is a list of jobs, each with a number and a length c."
pub record Job : Type 0 where
  pub number : ℕ
  pub slots : ℕ

-- "each with a number and a length c"
abbrev pub job_of : ℕ → ℕ → Job
job_of n c = record { number = n; slots = c }

-- bit s of a mask
abbrev pub has_bit : ℕ → ℕ → Bool
has_bit mask s = eqb (mask / 2 ^ s % 2) 1

-- the head's busy cells
abbrev pub busy_at : Head → ℕ → ℕ → Bool
busy_at h s b = has_bit (get_or h.busy b 0) s

-- "number, priority, required, refinement"
abbrev pub preset_of : ℕ → ℕ → ℕ → ℕ → Preset
preset_of n p m o = record { number = n; priority = p; mandatory = m; optional = o }

-- what stands past the last preset: no preset at all
abbrev pub no_preset : Preset
no_preset = preset_of 0 0 0 0

-- the preset of line i, counted from 0
abbrev pub preset_at : Head → ℕ → Preset
preset_at h i = get_or h.presets i no_preset

-- ---- heads made from heads

-- a frame without a supply line and a tie line, with nothing busy and no presets
abbrev pub bare_head : ℕ → ℕ → Head
bare_head slots bridges = record { slots = slots; bridges = bridges; supply = 0; hold = false; busy = replicate most_bridges 0; presets = [] }

-- the head with a supply line of k, or without one where k is 0
abbrev pub with_supply : Head → ℕ → Head
with_supply h k = record { slots = h.slots; bridges = h.bridges; supply = k; hold = h.hold; busy = h.busy; presets = h.presets }

-- the head with a tie line of its own or without one
abbrev pub with_tie : Head → Bool → Head
with_tie h hold = record { slots = h.slots; bridges = h.bridges; supply = h.supply; hold = hold; busy = h.busy; presets = h.presets }

-- the head with other masks
abbrev pub with_busy : Head → List ℕ → Head
with_busy h busy = record { slots = h.slots; bridges = h.bridges; supply = h.supply; hold = h.hold; busy = busy; presets = h.presets }

-- the head with other presets
abbrev pub with_presets : Head → List Preset → Head
with_presets h ps = record { slots = h.slots; bridges = h.bridges; supply = h.supply; hold = h.hold; busy = h.busy; presets = ps }

-- ---- limits

-- A preset within the limits of document 01's table.
pub record InLimits (p : Preset) : Type 0 where
  pub number_low : 1 ≤ p.number
  pub number_high : p.number ≤ most_number
  pub priority : p.priority ≤ worst_priority
  pub mandatory : p.mandatory ≤ most_mandatory
  pub optional : p.optional ≤ most_optional

-- A head record that some text yields: within the limits, busy cells inside the frame only, no
-- preset's number twice. A supply number above that of the bridges will do, and so will either
-- order of ties.
pub record Valid (h : Head) : Type 0 where
  pub slots_low : 1 ≤ h.slots
  pub slots_high : h.slots ≤ most_slots
  pub bridges_low : 1 ≤ h.bridges
  pub bridges_high : h.bridges ≤ most_bridges
  pub supply : h.supply ≤ most_motors
  pub masks : length h.busy ≡ most_bridges
  pub in_frame_lem : (b : ℕ) → get_or h.busy b 0 < 2 ^ h.slots
  pub no_bridge : (b : ℕ) → h.bridges ≤ b → get_or h.busy b 0 ≡ 0
  pub number_of_presets : length h.presets ≤ most_presets
  pub limits : (i : ℕ) → i < length h.presets → InLimits (preset_at h i)
  pub distinct : (i j : ℕ) → j < i → i < length h.presets → (preset_at h j).number ≡ (preset_at h i).number → ⊥

-- ---- the same as a test

-- from lo to hi, both included
abbrev pub within : ℕ → ℕ → ℕ → Bool
within lo hi n = leb lo n && leb n hi

-- the numbers of slots and bridges of a frame
abbrev pub frame_in_limits : ℕ → ℕ → Bool
frame_in_limits slots bridges = within 1 most_slots slots && within 1 most_bridges bridges

-- `InLimits` as a test
abbrev pub preset_in_limits : Preset → Bool
preset_in_limits p = within 1 most_number p.number && leb p.priority worst_priority && leb p.mandatory most_mandatory && leb p.optional most_optional

-- some preset of the list has the number n
unfoldable pub has_number : ℕ → List Preset → Bool
has_number n [] = false
has_number n (p ∷ ps) = eqb n p.number || has_number n ps

-- every preset is within the limits
unfoldable pub all_in_limits : List Preset → Bool
all_in_limits [] = true
all_in_limits (p ∷ ps) = preset_in_limits p && all_in_limits ps

-- no number twice
unfoldable pub all_distinct : List Preset → Bool
all_distinct [] = true
all_distinct (p ∷ ps) = not (has_number p.number ps) && all_distinct ps

-- the first k masks are below w, and the others 0
unfoldable pub masks_in : ℕ → ℕ → List ℕ → Bool
masks_in k w [] = true
masks_in zero w (m ∷ ms) = eqb m 0 && masks_in zero w ms
masks_in (suc k) w (m ∷ ms) = ltb m w && masks_in k w ms

-- `Valid` as a test
unfoldable pub valid : Head → Bool
valid h =
    within 1 most_slots h.slots && within 1 most_bridges h.bridges && leb h.supply most_motors && eqb (length h.busy) most_bridges && masks_in h.bridges (2 ^ h.slots) h.busy
    && leb (length h.presets) most_presets && all_in_limits h.presets && all_distinct h.presets
