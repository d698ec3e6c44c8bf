-- `counts::causes::jobs_fit` meets its contract: one job is held against the first entry; several fit beside nothing unfinished exactly if they fit. Assumes nothing.
use native.Mathlib.Omega.{arith}
use Rattle.placing.specs.Types.{jobs_in}
use Rattle.placing.proofs.counts.causes.CallCauses.{fit_counted, fit_one}
use Rattle.placing.proofs.counts.causes.jobs_fit.Goals as goal

pub returns-then-call-eq1 : goal.returns-then-call-eq1
returns-then-call-eq1 c = fit_one c.args.call.jobs (omega (arith, c)) c.args.call.count c.args.at_least.now c.if-call-eq1.true c.from.ensures

pub returns : goal.returns
returns c = let a = c.args in
    fit_counted (jobs_in a.call.count a.call.jobs) a.at_least.now c.fits_by_counts.ensures
