-- The sums past r are raised, and the others as they were.
use mathlib.Core.Path.{◌≡◌}
use Rattle.placing.proofs.grants.Arrays.{RaisedPast}
use Rattle.placing.proofs.sums.Sums.raise.Given as goal

abbrev pub invariant-loop-r : goal.invariant-loop-r
invariant-loop-r l = RaisedPast l.initial.self.largest l.need l.top l.r l.self.largest × (l.self.total ≡ l.initial.self.total)
