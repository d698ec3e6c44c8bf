-- `rule::needs_in` meets its contract. Assumes nothing.
use native.Mathlib.Omega.{arith}
use mathlib.Core.Path.{sym}
use lib.Dec.{leb}
use Rattle.laws.specs.Lists.{at}
use Rattle.laws.proofs.Comparisons.{leb_yes, leb_no}
use Rattle.laws.proofs.Every.{every_not}
use Rattle.laws.proofs.Loops.{every_none, every_more}
use Rattle.placing.proofs.rule.needs_in.Goals as goal

pub loop-i-init : goal.loop-i-init
loop-i-init c = every_none _

pub returns-then-from-gt-MOST_LENGTH : goal.returns-then-from-gt-MOST_LENGTH
returns-then-from-gt-MOST_LENGTH c = let n = c.args.needs.now in
    sym (every_not c.args.k (λ j. leb (at n j) 64) c.loop-i.i (omega arith) (leb_no (at n c.loop-i.i) 64 (omega (arith, c.from.ensures))))

pub loop-i-preserved : goal.loop-i-preserved
loop-i-preserved c = every_more c.loop-i.i _ c.loop-i.invariant (leb_yes (at c.args.needs.now c.loop-i.i) 64 (omega (arith, c.from.ensures)))
