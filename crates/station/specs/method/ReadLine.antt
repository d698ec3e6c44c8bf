-- What the code makes of a line: its form with the numbers as they are read. Document 01, "The
-- station text". Assumes nothing.
use Rattle.std.specs.Prelude.{ℕ, List, Option, Some, None}
use Rattle.std.specs.Bool.{then_some}
use Rattle.std.proofs.Math.Option as math
use Rattle.std.proofs.Math.Option.{none, some}
use Rattle.station.specs.Form.{Form, frame_line, busy_line, preset_line, clock_line, call_line, tie_line, supply_line}
use Rattle.station.specs.Form.{◌or_else◌, frame_in, busy_in, preset_in, clock_in, call_in, tie_in, supply_in}
use Rattle.station.specs.Writing.{mask_of, ordered}
use Rattle.station.specs.Jobs.{seen}
use Rattle.station.specs.method.Bracket.{jobs_made}
use Rattle.station.specs.declared.forms.Line.{Line}
use Rattle.station.specs.declared.forms.Line.TheVariants.{Frame, Busy, Preset, Clock, Call, Tie, Supply}

-- A form in a frame of hi slots. Of a busy line: the bridge, and the mask of its stretches where
-- they are in order and within the frame. Of a call its jobs.
abbrev pub said : ℕ → Form → Line
said hi (frame_line s b) = Frame (seen s) (seen b)
said hi (busy_line b p) = Busy (seen b) (then_some (ordered 1 hi p) (mask_of p))
said hi (preset_line p) = Preset (record { number = seen p.number; priority = seen p.priority; mandatory = seen p.mandatory; optional = seen p.optional })
said hi (clock_line t) = Clock (seen t)
said hi (call_line p) = Call (jobs_made p)
said hi (tie_line hold) = Tie hold
said hi (supply_line k) = Supply (seen k)

-- a line, if it has a form
abbrev pub line_in : ℕ → math.Option Form → Option Line
line_in hi none = None
line_in hi (some f) = Some (said hi f)

-- ---- the seven forms in two parts

-- "The head comes first": a line of the head
abbrev pub head_form : List ℕ → math.Option Form
head_form l = frame_in l or_else busy_in l or_else preset_in l or_else supply_in l

-- "Events follow": a line with an event's form
abbrev pub event_form : List ℕ → math.Option Form
event_form l = clock_in l or_else call_in l or_else tie_in l
