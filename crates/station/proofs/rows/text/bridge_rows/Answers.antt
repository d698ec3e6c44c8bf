-- `rows::text::bridge_rows` meets its contract. The invariant: `from` is busy or past the end, and the rows of the slots from there on are left. Assumes nothing.
use Prim.Native.Nat.{suc, ◌-◌}
use native.Mathlib.Nat.{div-one}
use native.Mathlib.Numerals.{add-one}
use native.Mathlib.Omega.{arith}
use mathlib.Core.Path.{◌≡◌, refl, sym, ap}
use mathlib.Core.Bool.{false}
use Rattle.station.specs.Writing.{stretches}
use Rattle.station.specs.Row.{row, print_row, bridge_rows, bare}
use Rattle.station.specs.method.Runs.{stretches_from}
use Rattle.station.proofs.write.MaskRuns.{busy_found, busy_high, from_next_busy, NextRun, next_run}
use Rattle.station.proofs.output.Runs.{rest_all, rest_wrote, rest_none}
use Rattle.station.proofs.rows.RowRuns.{row_step}
use Rattle.station.proofs.rows.text.bridge_rows.Goals as goal

pub loop-from-init : goal.loop-from-init
loop-from-init c = let a = c.args in
    let mask = a.mask in
    let e = c.next_busy-from.ensures in
    let all : stretches 64 1 mask ≡ stretches_from 64 mask 0 = ap (stretches 64 1) (sym (div-one mask)) in (
      rw e (busy_high 64 mask 0),
      (λ h. rw e (busy_found 64 mask 0 (rw e at h))),
      rw (e, ← from_next_busy 64 mask 0 64 refl, ← all) (rest_all a.out.now (bare (bridge_rows a.bridge (stretches 64 1 mask)))),
    )

-- after a turn: where the next run begins
ahead : (c : goal.After-next_busy-from-in-loop-from) → NextRun c.args.mask c.loop-from.from c.next_busy-from-in-loop-from.result
ahead c =
    let h = c.loop-from-test.true in
    next_run c.args.mask c.loop-from.from c.next_free-to.result c.next_busy-from-in-loop-from.result h (c.loop-from.invariant.1 h) c.next_free-to.ensures c.next_busy-from-in-loop-from.ensures

pub loop-from-smaller : goal.loop-from-smaller
loop-from-smaller c = omega (arith, (ahead c).later)

pub loop-from-preserved : goal.loop-from-preserved
loop-from-preserved c = let loop = c.loop-from in
    let a = c.args in
    let to = c.next_free-to in
    let next = c.next_busy-from-in-loop-from in
    let h = c.loop-from-test.true in
    let step = row_step a.bridge a.mask loop.from to.result next.result h (loop.invariant.1 h) to.ensures next.ensures in (
      (ahead c).high,
      (ahead c).found,
      rest_wrote (print_row false false false (row a.bridge (suc loop.from) to.result)) (bare (bridge_rows a.bridge (stretches_from (64 - next.result) a.mask next.result)))
          (rw step at loop.invariant.2) (rw add-one at c.bare_row.ensures),
    )

pub returns : goal.returns
unfolding stretches bare
returns c = let loop = c.loop-from in
    let e : 64 - loop.from ≡ 0 = omega arith in
    rest_none (rw e at loop.invariant.2)
