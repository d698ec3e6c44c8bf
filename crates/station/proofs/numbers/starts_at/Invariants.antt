-- The invariant: what is left of the word stands at its place just if the word stands at `at`.
use Rattle.std.proofs.Common.{◌≡◌, drop}
use Rattle.station.specs.Form.{starts}
use Rattle.station.proofs.numbers.starts_at.Given as goal

abbrev pub invariant-loop-i : goal.invariant-loop-i
invariant-loop-i l = starts (drop l.i l.word) (drop l.i l.rest) ≡ starts l.word l.rest
