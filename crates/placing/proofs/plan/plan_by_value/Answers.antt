-- `plan::plan_by_value` meets its contract: a law for each answer. Assumes nothing.
use mathlib.Core.Path.{refl}
use Rattle.std.proofs.lemmas.Result.{err_from_is_err_and}
use Rattle.placing.proofs.HeadRecord.{count_high, record_valid}
use Rattle.placing.proofs.plan.PlanAnswers.{meant_short, meant_granted, grants_are, grants_done, plan_refused, plan_not_granted, plan_done}
use Rattle.placing.proofs.ClaimsHold.{plan_claim}
use Rattle.placing.proofs.plan.plan_by_value.Goals as goal

pub returns-then-table-lt-LEAST_CELLS-clause-claim : goal.returns-then-table-lt-LEAST_CELLS-clause-claim
returns-then-table-lt-LEAST_CELLS-clause-claim c = plan_claim _ _

pub returns-in_err-granted-clause-claim : goal.returns-in_err-granted-clause-claim
returns-in_err-granted-clause-claim c = plan_claim _ _

pub returns-clause-claim : goal.returns-clause-claim
returns-clause-claim c = plan_claim _ _

pub returns-then-table-lt-LEAST_CELLS-clause-done : goal.returns-then-table-lt-LEAST_CELLS-clause-done
returns-then-table-lt-LEAST_CELLS-clause-done c =
    let a = c.args in plan_refused a.station.now.head a.station.now.presets a.table.now (meant_short a.station.now.head a.station.now.presets a.table.now c.if-table-lt-LEAST_CELLS.true)

pub invariant_of-lawful : goal.invariant_of-lawful
invariant_of-lawful c = let h = c.args.station.now.head in
    let ps = c.args.station.now.presets in
    let valid = c.in_ok-granted.ensures.valid in
    let v = record_valid h ps valid in
    record { valid = valid; few_presets = count_high h ps valid; few_slots = v.slots_high; few_bridges = v.bridges_high }

pub returns-in_err-granted-clause-done : goal.returns-in_err-granted-clause-done
returns-in_err-granted-clause-done c = let a = c.args in
    let p = err_from_is_err_and c.from_residual.result c.from_residual.ensures.1 in
    rw (p.1, p.2) (plan_not_granted a.station.now.head a.station.now.presets a.table.now c.if-table-lt-LEAST_CELLS.false c.in_err-granted.ensures)

pub grants_of-grants-requires : goal.grants_of-grants-requires
grants_of-grants-requires c = count_high c.args.station.now.head c.args.station.now.presets c.in_ok-granted.ensures.valid

pub returns-clause-done : goal.returns-clause-done
returns-clause-done c = let a = c.args in
    let t = a.table.now in
    let given = c.in_ok-granted.ensures in
    let g = given.granted in
    let r = c.in_ok-granted.granted in
    let v = given.valid in
    let array = grants_are a.station.now.head a.station.now.presets a.station.now.full v r g refl given.mandatory c.grants_of-grants.ensures in
    let done = grants_done a.station.now.head a.station.now.presets a.station.now.full v r g array in
    plan_done a.station.now.head a.station.now.presets t (meant_granted a.station.now.head a.station.now.presets t c.if-table-lt-LEAST_CELLS.false v g.fits) done.0 done.1 c.write_plan.ensures
