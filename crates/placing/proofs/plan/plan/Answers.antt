-- `plan::plan` meets its contract: a list of fewer than 32 records, and a plan over the first 32. Assumes nothing.
use Rattle.std.proofs.lemmas.Result.{err_from_is_err_and}
use Rattle.placing.proofs.ListOfRecords.{plan_short, plan_entered}
use Rattle.placing.proofs.ClaimsHold.{plan_claim}
use Rattle.placing.proofs.plan.plan.Goals as goal

pub returns-in_err-station-clause-claim : goal.returns-in_err-station-clause-claim
returns-in_err-station-clause-claim c = plan_claim _ _

pub returns-clause-claim : goal.returns-clause-claim
returns-clause-claim c = plan_claim _ _

pub returns-in_err-station-clause-done : goal.returns-in_err-station-clause-done
returns-in_err-station-clause-done c = let a = c.args in
    let few = rw c.in_err-station.was at c.of.ensures in
    let p = err_from_is_err_and c.from_residual.result c.from_residual.ensures.1 in
    rw (p.1, p.2, few.1) (plan_short a.head a.presets.now a.table.now few.0)

pub returns-clause-done : goal.returns-clause-done
returns-clause-done c = let a = c.args in
    let made = rw c.in_ok-station.was at c.of.ensures in
    plan_entered a.head a.presets.now made.2 made.0 (rw made.1 at c.plan_by_value.ensures.done)
