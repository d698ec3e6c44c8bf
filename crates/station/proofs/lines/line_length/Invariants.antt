-- `line_length` meets its contract. The invariant: the line ends where the line from `i` on ends, or from `n` on. The measure is what is left of the text.
-- Assumes nothing.
use Prim.Native.Nat.{◌+◌, ◌-◌, ◌≤◌}
use mathlib.Core.Path.{◌≡◌}
use lib.ListN.{length, drop}
use Rattle.station.specs.Line.{line_of}
use Rattle.station.proofs.lines.line_length.Given as goal

abbrev pub invariant-loop-i : goal.invariant-loop-i
invariant-loop-i l = (l.i ≤ length l.text) × (l.i + length (line_of (drop l.i l.text)) ≡ length (line_of l.text))

abbrev pub decreases-loop-i : goal.decreases-loop-i
decreases-loop-i l = length l.text - l.i

abbrev pub invariant-loop-n : goal.invariant-loop-n
invariant-loop-n l = l.n + length (line_of (drop l.n l.text)) ≡ length (line_of l.text)
