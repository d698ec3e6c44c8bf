-- `counts::causes::jobs_used` meets its contract. The loop's invariant: the jobs before `i` have new numbers. Assumes nothing.
use native.Mathlib.Omega.{arith}
use mathlib.Core.Path.{sym, ◌∙◌}
use Rattle.laws.proofs.Tests.{not_is_true}
use Rattle.laws.proofs.Every.{every_not}
use Rattle.laws.proofs.Loops.{every_none, every_more}
use Rattle.placing.specs.method.Jobs.{job_new}
use Rattle.placing.proofs.counts.causes.CallCauses.{new_marked, new_twice, new_job, inside_number}
use Rattle.placing.proofs.counts.causes.jobs_used.Goals as goal
use Rattle.placing.proofs.counts.causes.jobs_used.Goals.{then-used-number-via-then-used-number, then-used-number-via-else-used-number+then-not-is_first}

pub loop-i-init : goal.loop-i-init
loop-i-init c = every_none _

pub bounds-used-number : goal.bounds-used-number
bounds-used-number c = omega (arith, c.from-number.ensures, inside_number c.args.call.jobs (omega (arith, c)) c.args.call.count c.requires.0 c.requires.1 c.loop-i.i (omega arith))

pub returns-then-used-number : goal.returns-then-used-number
returns-then-used-number c = let a = c.args in
    let i = c.loop-i.i in
    sym (not_is_true _ (every_not a.call.count (job_new a.used.now a.call.jobs) i (omega arith)
    (elim c.then-used-number.branch [
      | then-used-number-via-then-used-number w ↦ new_marked a.used.now a.call.jobs i (rw c.from-number.ensures at w.if-used-number.true)
      | then-used-number-via-else-used-number+then-not-is_first w ↦ new_twice a.used.now a.call.jobs i (sym w.is_first.ensures ∙ w.if-not-is_first.true)
    ])))

pub loop-i-preserved : goal.loop-i-preserved
loop-i-preserved c = let a = c.args in
    let l = c.loop-i in
    every_more l.i (job_new a.used.now a.call.jobs) l.invariant
    (new_job a.used.now a.call.jobs l.i (rw c.from-number.ensures at c.if-used-number.false) (sym c.is_first.ensures ∙ c.if-not-is_first.false))
