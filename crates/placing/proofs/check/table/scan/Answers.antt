-- `check::table::scan` meets its contract. The loops' invariants: the cells before the place `at` fit and are counted; before a slot no number has its mark (`Passed`), in
-- it those have it whose cells were passed, and these are as many as `held` says (`Walked`). Assumes nothing.
use Prim.Native.Nat.{◌<◌, ◌-◌}
use native.Mathlib.Omega.{arith}
use mathlib.Core.Path.{sym, ◌∙◌}
use lib.ListN.{get_or}
use Rattle.placing.proofs.HeadRecord.{place_lt}
use Rattle.placing.proofs.check.table.Counted.{tally_le}
use Rattle.placing.proofs.check.table.FrameWalk.{fits_below, passed_none, slot_begun, walked_skip, walked_more, slot_done, cell_unfit, number_twice, no_motor_left, no_fault}
use Rattle.placing.proofs.check.table.scan.Goals as goal
use Rattle.placing.proofs.check.table.scan.Goals.{else-v-ge-MANDATORY, then-v-ge-MANDATORY+else-grid-held+else-last-n}

pub frame-init : goal.frame-init
frame-init c = let a = c.args in passed_none a.grid.now.bridges a.grid.now.fed a.busy.now a.numbers.now a.grid.now.cells.now a.counts.now c.requires

pub loop-b-init : goal.loop-b-init
loop-b-init c = let a = c.args in
    let f = c.frame in
    slot_begun a.grid.now.bridges a.grid.now.fed a.busy.now a.numbers.now a.grid.now.cells.now f.s f.at f.counts f.last f.invariant

pub offset_bounds-grid-at : goal.offset_bounds-grid-at
offset_bounds-grid-at c =
    let below_end : c.loop-b.at < 512 =
    omega (arith, c.loop-b.invariant.place, place_lt c.frame.s c.loop-b.b c.args.grid.now.bridges 512 (omega arith) (omega arith) (omega arith) (omega arith)) in
    omega (arith, below_end)

pub bounds-grid-at : goal.bounds-grid-at
bounds-grid-at c =
    let below_end : c.loop-b.at < 512 =
    omega (arith, c.loop-b.invariant.place, place_lt c.frame.s c.loop-b.b c.args.grid.now.bridges 512 (omega arith) (omega arith) (omega arith) (omega arith)) in
    omega (arith, below_end)

pub offset_bounds-counts-place : goal.offset_bounds-counts-place
offset_bounds-counts-place c =
    let below : get_or c.args.grid.now.cells.now c.loop-b.at 0 < 1280 =
    fits_below _ _ _ _ (sym c.cell_fits.ensures ∙ c.if-not-cell_fits.false) in
    omega (arith, below)

pub bounds-counts-place : goal.bounds-counts-place
bounds-counts-place c =
    let below : get_or c.args.grid.now.cells.now c.loop-b.at 0 < 1280 =
    fits_below _ _ _ _ (sym c.cell_fits.ensures ∙ c.if-not-cell_fits.false) in
    omega (arith, below)

pub overflow_add-counts : goal.overflow_add-counts
overflow_add-counts c =
    let below_end : c.loop-b.at < 512 =
    omega (arith, c.loop-b.invariant.place, place_lt c.frame.s c.loop-b.b c.args.grid.now.bridges 512 (omega arith) (omega arith) (omega arith) (omega arith)) in
    rw (c.from-place.ensures, c.loop-b.invariant.counted) (omega (
      arith,
      tally_le c.args.grid.now.cells.now (get_or c.args.grid.now.cells.now c.loop-b.at 0 - 512) c.loop-b.at,
      below_end,
    ))

pub bounds-counts-place-then-v-ge-MANDATORY : goal.bounds-counts-place-then-v-ge-MANDATORY
bounds-counts-place-then-v-ge-MANDATORY c =
    let below : get_or c.args.grid.now.cells.now c.loop-b.at 0 < 1280 =
    fits_below _ _ _ _ (sym c.cell_fits.ensures ∙ c.if-not-cell_fits.false) in
    omega (arith, below)

pub overflow_add-at : goal.overflow_add-at
overflow_add-at c =
    let below_end : c.loop-b.at < 512 =
    omega (arith, c.loop-b.invariant.place, place_lt c.frame.s c.loop-b.b c.args.grid.now.bridges 512 (omega arith) (omega arith) (omega arith) (omega arith)) in
    omega (arith, below_end)

pub loop-b-preserved : goal.loop-b-preserved
loop-b-preserved c = let a = c.args in
    let l = c.loop-b in
    let fits = sym c.cell_fits.ensures ∙ c.if-not-cell_fits.false in
    elim c.if-v-ge-MANDATORY.branch [
      | then-v-ge-MANDATORY+else-grid-held+else-last-n w ↦ rw (w.counts-is, w.last-is, w.held-is, w.number_in-n.ensures.0, w.from-place.ensures)
          (walked_more a.grid.now.bridges a.grid.now.fed a.busy.now a.numbers.now a.grid.now.cells.now
          c.frame.s l.b l.at l.counts l.last l.held l.invariant (omega arith) fits w.if-v-ge-MANDATORY.true w.if-grid-held.false (rw w.number_in-n.ensures.0 at w.if-last-n.false))
      | else-v-ge-MANDATORY w ↦ rw (w.counts-is, w.last-is, w.held-is)
          (walked_skip a.grid.now.bridges a.grid.now.fed a.busy.now a.numbers.now a.grid.now.cells.now
          c.frame.s l.b l.at l.counts l.last l.held l.invariant (omega arith) fits w.if-v-ge-MANDATORY.false)
    ]

pub frame-preserved : goal.frame-preserved
frame-preserved c = let a = c.args in
    let l = c.loop-b in
    slot_done a.grid.now.bridges a.grid.now.fed a.busy.now a.numbers.now a.grid.now.cells.now c.frame.s l.b l.at l.counts l.last l.held l.invariant (omega arith)

pub returns-after-frame : goal.returns-after-frame
returns-after-frame c = let a = c.args in
    let f = c.frame in (
      (no_fault a.grid.now.bridges a.grid.now.fed a.busy.now a.numbers.now a.grid.now.cells.now
          a.grid.now.slots f.s f.at f.counts f.last f.invariant (omega arith)),
      f.invariant.counted,
    )

pub returns-then-not-cell_fits : goal.returns-then-not-cell_fits
returns-then-not-cell_fits c = let a = c.args in
    let l = c.loop-b in (
      (cell_unfit a.grid.now.bridges a.grid.now.fed a.busy.now a.numbers.now a.grid.now.cells.now
          c.frame.s l.b l.at l.counts l.last l.held l.invariant a.grid.now.slots (omega arith) (omega arith)
          (sym c.cell_fits.ensures ∙ c.if-not-cell_fits.true)),
      l.invariant.counted,
    )

pub returns-then-grid-held : goal.returns-then-grid-held
returns-then-grid-held c = let a = c.args in
    let l = c.loop-b in (
      (no_motor_left a.grid.now.bridges a.grid.now.fed a.busy.now a.numbers.now a.grid.now.cells.now
          c.frame.s l.b l.at l.counts l.last l.held l.invariant a.grid.now.slots (omega arith) (omega arith)
          c.if-v-ge-MANDATORY.true c.if-grid-held.true),
      l.invariant.counted,
    )

pub returns-then-last-n : goal.returns-then-last-n
returns-then-last-n c = let a = c.args in
    let l = c.loop-b in (
      (number_twice a.grid.now.bridges a.grid.now.fed a.busy.now a.numbers.now a.grid.now.cells.now
          c.frame.s l.b l.at l.counts l.last l.held l.invariant a.grid.now.slots (omega arith) (omega arith)
          c.if-v-ge-MANDATORY.true (rw c.number_in-n.ensures.0 at c.if-last-n.true)),
      l.invariant.counted,
    )
