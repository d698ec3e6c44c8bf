-- What reading a head answers and leaves, in the code's types: what `read_head_by_value` is held
-- to. Document 01, "The station text" and "Causes".
--
-- In order: the definitions' values as the code's records (`record_of`, `head_record`,
-- `records_over`); what a reading answers and leaves (`HeadRead`, `left_by`, `head_read`). Assumes
-- nothing.
use Rattle.std.specs.Prelude.{ℕ, List, ◌++◌, map, length, drop, Result, Ok, Err}
use Rattle.station.specs.declared.types.Preset.{Preset}
use Rattle.station.specs.declared.types.Head.{Head}
use Rattle.station.specs.declared.types.Refusal as code
use Rattle.station.specs.declared.types.Extent.{Extent}
use Rattle.station.specs.declared.types.Fault.{Fault}
use Rattle.station.specs.Head as meant
use Rattle.station.specs.Types.{refusal_of}
use Rattle.station.specs.Writing.{text_of}
use Rattle.station.specs.Reading.{Reading, accepted, refused}

-- ---- the definitions' values as the code's

-- the record of a preset
abbrev pub record_of : meant.Preset → Preset
record_of p = record { number = p.number; priority = p.priority; mandatory = p.mandatory; optional = p.optional }

-- the head record of a head; its presets stand beside it
abbrev pub head_record : meant.Head → Head
head_record h = record { slots = h.slots; bridges = h.bridges; supply = h.supply; hold = h.hold; busy = h.busy; count = length h.presets }

-- the records of some presets, and past them what stood there: "Cells past S × B are never changed,
-- nor are records past the last preset"
abbrev pub records_over : List meant.Preset → List Preset → List Preset
records_over ps old = map record_of ps ++ drop (length ps) old

-- ---- what the reading of a head answers and leaves

-- so many lines and bytes
abbrev pub extent : ℕ → ℕ → Extent
extent lines bytes = record { lines = lines; bytes = bytes }

-- a line and the cause for which it is refused
abbrev pub fault : ℕ → code.Refusal → Fault
fault line cause = record { line = line; cause = cause }

-- what a reading answers, and the head and its preset records after it
pub record HeadRead : Type 0 where
  pub answer : Result Extent Fault
  pub head : Head
  pub presets : List Preset

-- an answer, and the head record and the list afterwards, as one reading
abbrev pub left_by : Result Extent Fault → Head → List Preset → HeadRead
left_by r head presets = record { answer = r; head = head; presets = presets }

-- Accepted: the number of the head's lines and of its bytes, the head that was read, and its
-- presets "in file order". Refused: "line" and cause, and "head" is "left as it was", with its
-- preset records.
abbrev pub head_read : Reading → Head → List Preset → HeadRead
head_read (accepted h n) head presets = record { answer = Ok (extent n (length (text_of h))); head = head_record h; presets = records_over h.presets presets }
head_read (refused n c) head presets = record { answer = Err (fault n (refusal_of c)); head = head; presets = presets }
