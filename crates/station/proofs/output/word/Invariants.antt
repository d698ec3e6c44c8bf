-- The invariant: the bytes from i on are left, and they fit.
use Prim.Native.Nat.{◌+◌, ◌≤◌}
use lib.ListN.{length, drop}
use Rattle.station.specs.Wrote.{Left}
use Rattle.station.proofs.output.word.Given as goal

abbrev pub invariant-loop-i : goal.invariant-loop-i
invariant-loop-i l = (l.at + length l.text ≤ length l.initial.out) × Left l.initial.out l.at l.text l.out (l.at + l.i) (drop l.i l.text)
