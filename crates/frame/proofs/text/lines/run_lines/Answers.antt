-- `text::lines::run_lines` meets its contract. The invariant is `AtEvent`: the lines that are left,
-- run from here on, come to what the whole run comes to, their answers are what is left to be
-- written, and the counts are those of the table and the clock. Assumes nothing.
use Prim.Native.Nat.{ℕ, ◌-◌}
use native.Mathlib.Omega.{arith}
use mathlib.Core.Path.{◌≡◌}
use mathlib.Core.List.{List}
use lib.ListN.{length, take, drop, length-drop}
use lib.Seq.{take_all}
use Rattle.frame.proofs.text.lines.LineLoop.{at_first, at_next, at_end}
use Rattle.frame.proofs.text.lines.run_lines.Goals as goal

pub loop-line-init : goal.loop-line-init
loop-line-init c = let a = c.args in
    let rest : List ℕ = drop a.gone.bytes a.text.now in
    let whole : take (length a.text.now - a.gone.bytes) rest ≡ rest = take_all (length a.text.now - a.gone.bytes) rest (omega (arith, length-drop a.gone.bytes a.text.now)) in
    rw (c.into_iter-line-iterator.ensures.into_iter_gives, c.new-line-items.ensures, whole)
    (at_first a.station.now.head a.station.now.presets a.text.now a.gone.bytes a.gone.lines a.table.now a.moment.now a.out.now c.requires c.of-counts.ensures)

pub loop-line-preserved : goal.loop-line-preserved
loop-line-preserved c = at_next c.loop-line.invariant c.in-Some.ensures.steps c.event_by_counts-answer.ensures c.answer_line.ensures.wrote

pub returns : goal.returns
returns c = at_end c.loop-line.invariant c.in-None.ensures.steps.0
