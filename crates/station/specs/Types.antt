-- What the records and answers of src/types.rt stand for.
-- Assumes nothing.
use Rattle.std.specs.Prelude.{ℕ, Bool, false, ◌&&◌, List, map, take, replicate, leb}
use Rattle.station.specs.Limits.{most_bridges, most_presets}
use Rattle.station.specs.Head as head
use Rattle.station.specs.Refusal as refusal
use Rattle.station.specs.declared.types.Preset.{Preset}
use Rattle.station.specs.declared.types.Job.{Job}
use Rattle.station.specs.declared.types.Head.{Head}
use Rattle.station.specs.declared.types.Station.{Station}
use Rattle.station.specs.declared.types.Refusal.{Refusal}
use Rattle.station.specs.declared.types.Refusal.TheVariants.{NoForm, OutOfLimits, OutOfPlace, NumberUsed, MandatoryNotFeasible, ClockBack, CallNotFeasible, TooShort, TooMany, TextTooLong, NotWellFormed, NoRow}

-- the cause that an answer names
abbrev pub refusal_in : Refusal → refusal.Refusal
refusal_in NoForm = refusal.no_form
refusal_in OutOfLimits = refusal.out_of_limits
refusal_in OutOfPlace = refusal.out_of_place
refusal_in NumberUsed = refusal.number_used
refusal_in MandatoryNotFeasible = refusal.mandatory_not_feasible
refusal_in ClockBack = refusal.clock_back
refusal_in CallNotFeasible = refusal.call_not_feasible
refusal_in TooShort = refusal.too_short
refusal_in TooMany = refusal.too_many
refusal_in TextTooLong = refusal.text_too_long
refusal_in NotWellFormed = refusal.not_well_formed
refusal_in NoRow = refusal.no_row

-- the answer that names a cause: the other way round
abbrev pub refusal_of : refusal.Refusal → Refusal
refusal_of refusal.no_form = NoForm
refusal_of refusal.out_of_limits = OutOfLimits
refusal_of refusal.out_of_place = OutOfPlace
refusal_of refusal.number_used = NumberUsed
refusal_of refusal.mandatory_not_feasible = MandatoryNotFeasible
refusal_of refusal.clock_back = ClockBack
refusal_of refusal.call_not_feasible = CallNotFeasible
refusal_of refusal.too_short = TooShort
refusal_of refusal.too_many = TooMany
refusal_of refusal.text_too_long = TextTooLong
refusal_of refusal.not_well_formed = NotWellFormed
refusal_of refusal.no_row = NoRow

-- the preset of a record
abbrev pub preset_in : Preset → head.Preset
preset_in p = record { number = p.number; priority = p.priority; mandatory = p.mandatory; optional = p.optional }

-- what stands past the last record: zeros
abbrev pub no_record : Preset
no_record = record { number = 0; priority = 0; mandatory = 0; optional = 0 }

-- the presets of the first n records, in file order
abbrev pub presets_in : ℕ → List Preset → List head.Preset
presets_in n ps = map preset_in (take n ps)

-- the job of a record: "A call is a list of jobs, each with a number and a length c"
abbrev pub job_in : Job → head.Job
job_in j = record { number = j.number; slots = j.slots }

-- ---- head records

-- the record of a frame without a supply line and a tie line, with nothing busy and no presets
abbrev pub bare_record : ℕ → ℕ → Head
bare_record slots bridges = record { slots = slots; bridges = bridges; supply = 0; hold = false; busy = replicate most_bridges 0; count = 0 }

-- the record with a supply line of k, or without one where k is 0
abbrev pub with_supplied : Head → ℕ → Head
with_supplied h k = record { slots = h.slots; bridges = h.bridges; supply = k; hold = h.hold; busy = h.busy; count = h.count }

-- the record with a tie line of its own or without one
abbrev pub with_hold : Head → Bool → Head
with_hold h hold = record { slots = h.slots; bridges = h.bridges; supply = h.supply; hold = hold; busy = h.busy; count = h.count }

-- the record with other masks
abbrev pub with_masks : Head → List ℕ → Head
with_masks h busy = record { slots = h.slots; bridges = h.bridges; supply = h.supply; hold = h.hold; busy = busy; count = h.count }

-- the record with another number of presets
abbrev pub with_count : Head → ℕ → Head
with_count h count = record { slots = h.slots; bridges = h.bridges; supply = h.supply; hold = h.hold; busy = h.busy; count = count }

-- the head of a record and its list of preset records
abbrev pub head_in : Head → List Preset → head.Head
head_in h ps = record { slots = h.slots; bridges = h.bridges; supply = h.supply; hold = h.hold; busy = h.busy; presets = presets_in h.count ps }

-- "a head record that no text yields" is one for which this is false
abbrev pub valid_record : Head → List Preset → Bool
valid_record h ps = leb h.count most_presets && head.valid (head_in h ps)

-- the same of a head record that stands with its list
abbrev pub station_in : Station → head.Head
station_in s = head_in s.head s.presets

abbrev pub valid_station : Station → Bool
valid_station s = valid_record s.head s.presets
