-- `rows::text::all_rows` meets its contract. The invariant: the rows of the bridges from b on are left. Assumes nothing.
use Prim.Native.Nat.{suc}
use lib.ListN.{drop}
use Rattle.station.specs.Row.{mask_rows, bare, rows_text}
use Rattle.station.specs.Wrote.{Rest}
use Rattle.station.proofs.rows.text.all_rows.Given as goal

abbrev pub invariant-loop-b : goal.invariant-loop-b
invariant-loop-b l = Rest l.initial.out (rows_text l.busy) l.out (bare (mask_rows (suc l.b) (drop l.b l.busy)))
