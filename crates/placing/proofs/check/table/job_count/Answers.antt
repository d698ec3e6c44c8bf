-- `check::table::job_count` meets its contract. The loop's invariant: `jobs` of the numbers below `n` have a call cell. Assumes nothing.
use native.Mathlib.Omega.{arith}
use mathlib.Core.Path.{sym, refl}
use Rattle.laws.specs.Sums.{bit}
use Rattle.laws.proofs.Loops.{sum_none, count_more}
use Rattle.placing.specs.method.Check.{has_call}
use Rattle.placing.proofs.OneBit.{one_bit}
use Rattle.placing.proofs.check.table.job_count.Goals as goal

pub loop-n-init : goal.loop-n-init
loop-n-init c = (omega arith, sym (sum_none (λ n. bit (has_call c.args.counts.now n))))

pub loop-n-preserved : goal.loop-n-preserved
loop-n-preserved c =
    let l = c.loop-n in
    let one = one_bit _ (has_call c.args.counts.now l.n) c.from-jobs.ensures refl in
    (omega (arith, one.1), omega (arith, one.0, l.invariant.1, count_more l.n (has_call c.args.counts.now)))
