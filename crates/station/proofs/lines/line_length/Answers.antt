-- `line_length` meets its contract. The invariant: the line ends where the line from `i` on ends. The measure is what is left of the text.
-- Assumes nothing.
use Prim.Native.Nat.{◌+◌}
use native.Mathlib.Omega.{arith}
use Rattle.station.proofs.lines.FirstLine.{line_here, line_further, line_past}
use Rattle.station.proofs.lines.line_length.Goals as goal

pub returns-then-text-i-eq10 : goal.returns-then-text-i-eq10
returns-then-text-i-eq10 c = let t = c.args.text.now in
    let i = c.loop-i.i in
    omega (arith, line_here t i (omega arith) c.if-text-i-eq10.true)

pub returns-then-text-i-eq10-2 : goal.returns-then-text-i-eq10-2
returns-then-text-i-eq10-2 c = let t = c.args.text.now in
    let i = c.loop-i.i in
    let x = line_further t i (i + 1) (omega arith) (omega arith) c.if-text-i-eq10.false in
    omega (arith, line_here t (i + 1) (omega arith) c.if-text-i-eq10-2.true)

pub returns-then-text-i-eq10-3 : goal.returns-then-text-i-eq10-3
returns-then-text-i-eq10-3 c = let t = c.args.text.now in
    let i = c.loop-i.i in
    let x = line_further t i (i + 1) (omega arith) (omega arith) c.if-text-i-eq10.false in
    let y = line_further t (i + 1) (i + 2) (omega arith) (omega arith) c.if-text-i-eq10-2.false in
    omega (arith, line_here t (i + 2) (omega arith) c.if-text-i-eq10-3.true)

pub returns-then-text-i-eq10-4 : goal.returns-then-text-i-eq10-4
returns-then-text-i-eq10-4 c = let t = c.args.text.now in
    let i = c.loop-i.i in
    let x = line_further t i (i + 1) (omega arith) (omega arith) c.if-text-i-eq10.false in
    let y = line_further t (i + 1) (i + 2) (omega arith) (omega arith) c.if-text-i-eq10-2.false in
    let z = line_further t (i + 2) (i + 3) (omega arith) (omega arith) c.if-text-i-eq10-3.false in
    omega (arith, line_here t (i + 3) (omega arith) c.if-text-i-eq10-4.true)

pub loop-i-preserved : goal.loop-i-preserved
loop-i-preserved c = let t = c.args.text.now in
    let i = c.loop-i.i in
    let x = line_further t i (i + 1) (omega arith) (omega arith) c.if-text-i-eq10.false in
    let y = line_further t (i + 1) (i + 2) (omega arith) (omega arith) c.if-text-i-eq10-2.false in
    let z = line_further t (i + 2) (i + 3) (omega arith) (omega arith) c.if-text-i-eq10-3.false in
    (omega arith, omega (arith, line_further t (i + 3) (i + 4) (omega arith) (omega arith) c.if-text-i-eq10-4.false))

pub returns-then-text-n-eq10 : goal.returns-then-text-n-eq10
returns-then-text-n-eq10 c = let n = c.loop-n.n in
    omega (arith, line_here c.args.text.now n (omega arith) c.if-text-n-eq10.true)

pub loop-n-preserved : goal.loop-n-preserved
loop-n-preserved c = let n = c.loop-n.n in
    omega (arith, line_further c.args.text.now n (n + 1) (omega arith) (omega arith) c.if-text-n-eq10.false)

pub returns : goal.returns
returns c = omega (arith, line_past c.args.text.now c.loop-n.n (omega arith))
