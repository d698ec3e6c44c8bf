-- `call::job_cells` meets its contract. The loop's invariant: the records before `i` have theirs. Assumes nothing.
use native.Mathlib.Omega.{arith}
use Rattle.placing.proofs.call.CallAnswers.{cells_are}
use Rattle.placing.proofs.call.job_cells.Goals as goal

pub returns : goal.returns
returns c = λ n few inside.
    let l = c.loop-i in
    cells_are c.args.jobs (omega (arith, c)) n few inside l.all
    (λ i m. l.invariant.1.done i (omega arith) (omega arith))
