-- `values::set_value` meets its contract: past the end `set` changes nothing. Assumes nothing.
use mathlib.Core.Path.{sym}
use lib.Seq.{set_out}
use Rattle.planner.proofs.values.set_value.Goals as goal

pub returns-else-i-values : goal.returns-else-i-values
returns-else-i-values g c = let a = c.args in
    sym (set_out a.values.now a.i a.given c.if-i-values.false)
