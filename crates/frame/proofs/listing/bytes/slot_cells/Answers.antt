-- `listing::bytes::slot_cells` meets its contract. The invariant: the cells from bridge b on are left. Assumes nothing.
use Rattle.std.proofs.Common.{rules}
use Prim.Native.Nat.{suc, ◌-◌}
use native.Mathlib.Numerals.{add-one}
use native.Mathlib.Omega.{arith}
use mathlib.Core.Path.{◌≡◌}
use mathlib.Core.List.{◌++◌}
use Rattle.station.specs.Text.{bytes}
use Rattle.station.proofs.Theorems.{rest_wrote}
use Rattle.placing.specs.Table.{cell, kind_of, number_in}
use Rattle.placing.proofs.Theorems.{frame_le}
use Rattle.frame.specs.Listing.{cell_text, cell_texts}
use Rattle.frame.specs.method.SlotLines.{of_bridges}
use Rattle.frame.proofs.listing.bytes.SlotLines.{cell_texts_step}
use Rattle.frame.proofs.listing.bytes.slot_cells.Goals as goal

pub loop-b-preserved : goal.loop-b-preserved
loop-b-preserved c = let loop = c.loop-b in
    let a = c.args in
    let h = of_bridges a.bridges in
    let t = a.table.now in
    let v = cell h t a.slot loop.b in
    let value : c.unwrap_or-value.result ≡ v = search rules in
    rw add-one
    (rest_wrote (bytes " " ++ cell_text (kind_of v) (number_in v)) (cell_texts h t a.slot (suc loop.b) (a.bridges - suc loop.b))
    (rw (cell_texts_step h t a.slot loop.b a.bridges c.loop-b-test.true) at loop.invariant) (rw value at c.next_cell.ensures))

pub returns : goal.returns
unfolding cell_texts
returns c = let loop = c.loop-b in
    let a = c.args in
    let none-left : a.bridges - loop.b ≡ 0 = omega arith in
    rw none-left at loop.invariant
