-- `call::carry_out` meets its contract: `evict` finds the cells, and `place` writes them. Assumes nothing.
use native.Mathlib.Omega.{arith}
use lib.ListN.{length}
use Rattle.station.specs.Types.{head_in}
use Rattle.placing.specs.State.{state_at}
use Rattle.placing.specs.Types.{jobs_in}
use Rattle.placing.specs.Table.{cell}
use Rattle.placing.proofs.rule.SlotsPlaced.{is_placeable}
use mathlib.Core.Path.{◌≡◌}
use mathlib.Core.Bool.{true}
use Rattle.placing.specs.Call.{call_fits}
use Rattle.placing.specs.method.Search.{Evicting}
use Rattle.placing.proofs.search.EvictedSet.{valid_searchable}
use Rattle.placing.proofs.HeadRecord.{record_valid}
use Rattle.placing.proofs.counts.causes.CallCauses.{jobs_length, needs_low}
use Rattle.placing.proofs.call.CallAnswers.{carried_refused, call_fillable, carried_taken}
use Rattle.placing.proofs.call.EmptyFrom.{clean_from}
use Rattle.placing.proofs.call.carry_out.Goals as goal
use Rattle.placing.proofs.call.carry_out.Goals.{else-found-eq0, then-found-eq0}

pub returns-in_default : goal.returns-in_default
returns-in_default c = λ v long formed is_call.
    let few = is_call.0 in
    let inside = is_call.1 in
    let a = c.args in
    carried_refused (head_in a.station.now.head a.station.now.presets) (jobs_in a.call.count a.call.jobs) (state_at a.table.now a.moment)
    (c.in_default.ensures.found (valid_searchable a.station.now.head a.call.count _ a.station.now.presets v (omega (arith, few)) long) (jobs_in a.call.count a.call.jobs) (c.job_needs-needs.ensures a.call.count few inside)).0

pub returns : goal.returns
returns c = λ v long formed is_call.
    let few = is_call.0 in
    let inside = is_call.1 in
    let a = c.args in
    let h = head_in a.station.now.head a.station.now.presets in
    let jobs = jobs_in a.call.count a.call.jobs in
    let found = c.in-Ok.found in
    let answered : (call_fits h a.moment.clock jobs (cell h a.table.now) ≡ true) × Evicting h a.moment.clock jobs (cell h a.table.now) found =
    c.in-Ok.ensures.found (valid_searchable a.station.now.head a.call.count _ a.station.now.presets v (omega (arith, few)) long) jobs (c.job_needs-needs.ensures a.call.count few inside) in
    let searched = answered.1 in
    let valid = record_valid a.station.now.head a.station.now.presets v in
    carried_taken h jobs (state_at a.table.now a.moment) found answered.0 searched valid formed
    c.job_needs-needs.result a.call.count c.job_cells-cells.result
    (is_placeable h.slots h.bridges c.job_needs-needs.result a.call.count (length a.table.now) valid.slots_high valid.bridges_high (omega (arith, few)) long
    (needs_low a.call.jobs (omega (arith, c)) a.call.count few inside c.job_needs-needs.result (c.job_needs-needs.ensures a.call.count few inside)))
    (c.job_needs-needs.ensures a.call.count few inside)
    (λ i l. c.job_cells-cells.ensures a.call.count few inside i (omega (arith, l, jobs_length a.call.jobs (omega (arith, c)) a.call.count few)))
    (c.place.ensures (clean_from h a.moment.clock jobs a.table.now found searched _
    (λ l. elim c.if-found-eq0.branch [ then-found-eq0 w ↦ w.if-found-eq0.true | else-found-eq0 w ↦ absurd (omega (arith, w, l)) ]))
    (call_fillable h jobs (state_at a.table.now a.moment) found searched valid formed))
