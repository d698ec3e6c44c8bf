-- What the code makes of an event line by itself, before the table and the clock are looked at.
-- Document 01, "The station text" and "Causes"; document 02, 2026-02 and 2026-03. Assumes nothing.
use Rattle.std.specs.Prelude.{Bool, cond, ◌&&◌, List, length, leb, Result, Ok, Err}
use Rattle.std.proofs.Math.Option.{Option, none, some}
use Rattle.station.specs.Limits.{most_jobs}
use Rattle.station.specs.Head as meant
use Rattle.station.specs.Form.{Form, frame_line, busy_line, preset_line, clock_line, call_line, tie_line, supply_line, jobs_of}
use Rattle.station.specs.Jobs.{padded, seen}
pub use Rattle.station.specs.Jobs.{job_in_limits}
unfoldable pub use Rattle.station.specs.Jobs.{jobs_in_limits}
use Rattle.station.specs.declared.brackets.Jobs.{Jobs}
use Rattle.station.specs.declared.types.Refusal.{Refusal}
use Rattle.station.specs.declared.types.Refusal.TheVariants.{NoForm, OutOfLimits, OutOfPlace}
use Rattle.station.specs.declared.forms.Line.{Line}
use Rattle.station.specs.declared.forms.Line.TheVariants as line
use Rattle.station.specs.declared.events.Event.{Event}
use Rattle.station.specs.declared.events.Event.TheVariants.{Clock, Call, Tie}

-- "jobs in a call: from 1 to 8", which a form has at least, and each within its limits; else "a
-- value .. outside its limits", "a ninth job in a call"
abbrev pub call_in_limits : List meant.Job → Bool
call_in_limits l = leb (length l) most_jobs && jobs_in_limits l

-- A call: its jobs first in the array and zeros after them, or its refusal.
abbrev pub call_read : List meant.Job → Result Event Refusal
call_read l = cond (call_in_limits l) (Ok (Call (record { jobs = padded most_jobs l; count = length l }))) (Err OutOfLimits)

-- The event of a line: "a line that is not one of the five forms" is refused, which are seven by
-- now; "A head line after an event is out of place"; a clock; a call; a tie.
abbrev pub event_in : Option Form → Result Event Refusal
event_in none = Err NoForm
event_in (some (frame_line s b)) = Err OutOfPlace
event_in (some (busy_line b p)) = Err OutOfPlace
event_in (some (preset_line p)) = Err OutOfPlace
event_in (some (clock_line t)) = Ok (Clock (seen t))
event_in (some (call_line p)) = call_read (jobs_of p)
event_in (some (tie_line hold)) = Ok (Tie hold)
event_in (some (supply_line k)) = Err OutOfPlace

-- ---- the same by what was read of the line

-- the jobs of a call that has its form
abbrev pub call_event : Jobs → Result Event Refusal
call_event j = cond (leb j.count most_jobs && j.fit) (Ok (Call (record { jobs = j.jobs; count = j.count }))) (Err OutOfLimits)

-- a line that has a form
abbrev pub line_event : Line → Result Event Refusal
line_event (line.Frame s b) = Err OutOfPlace
line_event (line.Busy b m) = Err OutOfPlace
line_event (line.Preset p) = Err OutOfPlace
line_event (line.Clock t) = Ok (Clock t)
line_event (line.Call l) = call_event l
line_event (line.Tie hold) = Ok (Tie hold)
line_event (line.Supply k) = Err OutOfPlace
