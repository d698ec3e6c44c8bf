-- `printed` meets its contract: what was written stands there already, or the one line of what is refused is written. Assumes nothing.
use native.Mathlib.Omega.{arith}
use mathlib.Core.Path.{sym, ◌∙◌}
use Rattle.rows.proofs.Outputs.{refusal_stands}
use Rattle.rows.proofs.printed.Goals as goal

pub returns-in-Err-clause-inside : goal.returns-in-Err-clause-inside
returns-in-Err-clause-inside c =
    (refusal_stands _ (omega (arith, c.requires, c.written.auto.out)) c.in-Err.fault.line c.in-Err.fault.cause c.write_answer.result c.write_answer.ensures c.unwrap_or.ensures).inside

pub returns-in-Err-clause-bytes : goal.returns-in-Err-clause-bytes
returns-in-Err-clause-bytes c =
    (refusal_stands _ (omega (arith, c.requires, c.written.auto.out)) c.in-Err.fault.line c.in-Err.fault.cause c.write_answer.result c.write_answer.ensures c.unwrap_or.ensures).bytes
    ∙ sym c.in-Err.ensures.fault
