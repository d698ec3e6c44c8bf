-- The line that a text ends with, where it has an event (`event_line`). Assumes nothing.
use Rattle.std.specs.Prelude.{ℕ, Option, Some, None, List, []}
use Rattle.draw.specs.declared.lines.Event.{Event}

-- the line of an event, with its end or without; none where there is no event
abbrev pub event_line : Option Event → List ℕ
event_line (Some e) = e.line.now
event_line None = []
