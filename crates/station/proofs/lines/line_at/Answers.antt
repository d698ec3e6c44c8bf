-- `line_at` meets its contract: the line is a part of the text.
-- Assumes nothing.
use Prim.Native.Nat.{◌-◌}
use native.Mathlib.Omega.{arith}
use mathlib.Core.Path.{◌≡◌}
use lib.ListN.{length, take, drop, length-drop}
use lib.Seq.{take_all}
use Rattle.station.proofs.lines.FirstLine.{line_none, line_part, line_short}
use Rattle.station.proofs.lines.line_at.Goals as goal

pub returns-then-text-at : goal.returns-then-text-at
returns-then-text-at c = line_none c.args.text.now c.args.at (omega arith)

pub slice_bounds-result-end-2 : goal.slice_bounds-result-end-2
slice_bounds-result-end-2 c = let s = c.args in
    line_short (take (length s.text.now - s.at) (drop s.at s.text.now)) c.line_length-n.result c.line_length-n.ensures

pub returns : goal.returns
returns c = let s = c.args in
    let t = s.text.now in
    let rest : take (length t - s.at) (drop s.at t) ≡ drop s.at t = take_all (length t - s.at) (drop s.at t) (omega (arith, length-drop s.at t)) in
    rw (rest) (line_part (drop s.at t) c.line_length-n.result (rw rest at c.line_length-n.ensures))
