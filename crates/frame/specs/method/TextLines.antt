-- What the lines of a text from a byte on come to, as events on a running frame, and the bytes that
-- answer them. Document 01, "The station text" and "One listing, whole".
-- Assumes nothing.
use Rattle.std.specs.Prelude.{ℕ, ◌≤◌, ◌≡◌, List, map, true, length, drop}
use Rattle.station.specs.Limits.{most_bytes}
use Rattle.station.specs.Head.{Head}
use Rattle.station.specs.Text.{lines}
use Rattle.station.specs.Types.{head_in, valid_record}
use Rattle.station.specs.Wrote.{Writes}
use Rattle.station.specs.declared.output.Writer.{Writer}
use Rattle.station.specs.declared.types.Preset as record-of-preset
use Rattle.station.specs.declared.types.Head as record-of-head
use Rattle.placing.specs.State.{State}
use Rattle.placing.specs.declared.moment.Moment.{Moment}
use Rattle.placing.specs.Claims.{Running}
use Rattle.frame.specs.Event.{Event, line, Run, run_of}
use Rattle.frame.specs.Listing.{answer_lines}

-- What the lines start from: the head, the table, the clock and the order of ties make a running
-- frame, the byte and the number of the lines before it are within the text, which is not too long.
pub record LinesStart (head : record-of-head.Head) (ps : List record-of-preset.Preset) (text : List ℕ) (from first : ℕ) (st : State) : Type 0 where
  pub valid : valid_record head ps ≡ true
  pub running : Running (head_in head ps) st
  pub few : first ≤ from
  pub inside : from ≤ length text
  pub short : length text ≤ most_bytes

-- the lines from a byte on, as events
abbrev pub events_from : List ℕ → ℕ → List Event
events_from text at = map line (lines (drop at text))

-- what they come to
abbrev pub lines_run : Head → List ℕ → ℕ → State → Run
lines_run h text from st = run_of h st (events_from text from)

-- The table is now u, the clock and the order of ties m, and the writer w is now w₁: each line from
-- the byte on was an event, and its answer was written. `first` lines went before.
pub record RanLines (h : Head) (text : List ℕ) (from first : ℕ) (st : State) (w : Writer) (u : List ℕ) (m : Moment) (w₁ : Writer) : Type 0 where
  pub table : u ≡ (lines_run h text from st).after.table
  pub clock : m.clock ≡ (lines_run h text from st).after.clock
  pub hold : m.hold ≡ (lines_run h text from st).after.hold
  pub output : Writes w (answer_lines first (lines_run h text from st).answers) w₁
