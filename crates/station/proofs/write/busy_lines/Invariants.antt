-- `write::busy_lines` meets its contract. The invariant: the lines of the bridges from b on are left. Assumes nothing.
use Prim.Native.Nat.{suc}
use mathlib.Core.List.{map}
use lib.ListN.{drop}
use Rattle.station.specs.Text.{join}
use Rattle.station.specs.Form.{print}
use Rattle.station.specs.Writing.{busy_lines}
use Rattle.station.specs.Wrote.{Rest}
use Rattle.station.proofs.write.busy_lines.Given as goal

abbrev pub invariant-loop-b : goal.invariant-loop-b
invariant-loop-b l = Rest l.initial.out (join (map print (busy_lines 1 l.busy))) l.out (join (map print (busy_lines (suc l.b) (drop l.b l.busy))))
