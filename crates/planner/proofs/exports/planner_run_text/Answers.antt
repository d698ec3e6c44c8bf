-- `exports::planner_run_text` meets its contract: a law for a text that is too long, one for what is lent too short, and one for a text that is run. Assumes nothing.
use native.Mathlib.Omega.{arith}
use Rattle.frame.specs.TextDone.{text_run}
use Rattle.planner.proofs.RunText.{text_long, text_short, text_handed}
use Rattle.planner.proofs.exports.planner_run_text.Goals as goal

pub returns-then-text-gt-MOST_BYTES : goal.returns-then-text-gt-MOST_BYTES
returns-then-text-gt-MOST_BYTES c = let a = c.args in
    let d = text_long a.text.now a.frame.now a.presets.now a.table.now a.out.now c.if-text-gt-MOST_BYTES.true in
    rw c.refusal_number.ensures (record { done = d.0; claim = d.1 })

pub returns-in_default : goal.returns-in_default
returns-in_default c = let a = c.args in
    let d = text_short a.text.now a.frame.now a.presets.now a.table.now a.out.now (omega (arith, c.if-text-gt-MOST_BYTES.false)) c.in_default.ensures.short in
    rw c.refusal_number-in_default.ensures (record { done = d.0; claim = d.1 })

pub returns : goal.returns
returns c = let a = c.args in
    let run = c.run_text_by_value-ended in
    let d =
    text_handed a.text.now a.frame.now a.presets.now a.table.now a.out.now c.in-Some.station c.moment_of-moment.result (text_run run.result run.new.head run.new.presets run.new.moment) c.in-Some.ensures.found
    c.moment_of-moment.ensures.clock c.moment_of-moment.ensures.hold run.ensures.done c.save_run.ensures c.save_presets.ensures c.returned.ensures.count c.returned.ensures.number in
    record { done = d.0; claim = d.1 }
