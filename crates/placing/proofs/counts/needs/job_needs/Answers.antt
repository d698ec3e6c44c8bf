-- `counts::needs::job_needs` meets its contract. The loop's invariant: the records before `i` have theirs. Assumes nothing.
use native.Mathlib.Omega.{arith}
use Rattle.placing.proofs.counts.causes.CallCauses.{lengths_are}
use Rattle.placing.proofs.counts.needs.job_needs.Goals as goal

pub returns : goal.returns
returns c = λ n few inside.
    let l = c.loop-i in
    lengths_are c.args.jobs (omega (arith, c)) n few inside l.all l.invariant.0
    (λ i m. l.invariant.1.done i (omega arith) (omega arith))
