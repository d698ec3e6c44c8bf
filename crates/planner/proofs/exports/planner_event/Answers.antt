-- `exports::planner_event` meets its contract: a law for what is lent too short, and one for a line that is handed on. Assumes nothing.
use mathlib.Core.Path.{◌∙◌}
use Rattle.frame.specs.Types.{outcome}
use Rattle.planner.proofs.EventLine.{event_short, event_handed}
use Rattle.planner.proofs.exports.planner_event.Goals as goal

pub returns-in_default : goal.returns-in_default
returns-in_default c = let a = c.args in
    let d = event_short a.frame.now a.presets.now a.table.now a.line.now c.in_default.ensures.short in
    rw c.refusal_number.ensures (record { done = d.0; claim = d.1 })

pub returns : goal.returns
returns c = let a = c.args in
    let event = c.event_by_value-answer in
    let d =
    event_handed a.frame.now a.presets.now a.table.now a.line.now c.in-Some.station c.moment_of-moment.result (outcome event.result event.new.moment) c.in-Some.ensures.found
    c.moment_of-moment.ensures.clock c.moment_of-moment.ensures.hold event.ensures.done c.save_clock.ensures c.save_tie.ensures (c.returned.ensures.count ∙ c.counted.ensures.count)
    (c.returned.ensures.number ∙ c.counted.ensures.number) in
    record { done = d.0; claim = d.1 }
