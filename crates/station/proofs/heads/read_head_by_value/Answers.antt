-- `read_head_by_value` meets its contract: a text that is too long is refused, any other is read line by line.
-- Assumes nothing.
use native.Mathlib.Omega.{arith}
use Rattle.station.proofs.heads.LineLoop.{out_long}
use Rattle.station.proofs.heads.read_head_by_value.Goals as goal

pub returns-then-text-gt-MOST_BYTES : goal.returns-then-text-gt-MOST_BYTES
returns-then-text-gt-MOST_BYTES c = let a = c.args in rw c.into.ensures (out_long a.text.now a.presets.now a.head.now (omega arith))
