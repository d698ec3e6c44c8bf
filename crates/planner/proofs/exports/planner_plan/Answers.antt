-- `exports::planner_plan` meets its contract: a law for what is lent too short, one for too few grants, one for a plan that is refused and one for a plan that is made. Assumes nothing.
use native.Mathlib.Omega.{arith}
use Rattle.planner.proofs.PlanFrame.{plan_short, plan_few_grants, refused_handed, made_handed}
use Rattle.planner.proofs.exports.planner_plan.Goals as goal

pub returns-in_default : goal.returns-in_default
returns-in_default c = let a = c.args in
    let d = plan_short a.frame.now a.presets.now a.table.now a.grants.now c.in_default.ensures.short in
    rw c.refusal_number-in_default.ensures (record { done = d.0; claim = d.1 })

pub returns-then-grants-lt-MOST_PRESETS : goal.returns-then-grants-lt-MOST_PRESETS
returns-then-grants-lt-MOST_PRESETS c = let a = c.args in
    let d = plan_few_grants a.frame.now a.presets.now a.table.now a.grants.now c.if-grants-lt-MOST_PRESETS.true in
    rw c.refusal_number.ensures (record { done = d.0; claim = d.1 })

pub returns-in-Ok : goal.returns-in-Ok
returns-in-Ok c = let a = c.args in
    let d =
    made_handed a.frame.now a.presets.now a.table.now a.grants.now c.in-Some.station c.plan_by_value.result c.in-Some.ensures.found (omega (arith, c.if-grants-lt-MOST_PRESETS.false)) c.plan_by_value.ensures.done
    c.in-Ok.is c.save_grants.ensures in
    record { done = d.0; claim = d.1 }

pub returns-in-Err : goal.returns-in-Err
returns-in-Err c = let a = c.args in
    let d =
    refused_handed a.frame.now a.presets.now a.table.now a.grants.now c.in-Some.station c.plan_by_value.result c.in-Some.ensures.found (omega (arith, c.if-grants-lt-MOST_PRESETS.false)) c.plan_by_value.ensures.done
    c.in-Err.is c.refusal_number-in-Err.ensures in
    record { done = d.0; claim = d.1 }
