-- `read_line` meets its contract: a line of the head, or else an event's.
-- Assumes nothing.
use Prim.Native.Nat.{min}
use Rattle.std.proofs.Common.{rules}
use Rattle.station.specs.method.ReadLine.{head_form, event_form}
use Rattle.station.proofs.forms.LineForms.{or_else_is, form_parts}
use Rattle.station.proofs.forms.read_line.Goals as goal

pub returns : goal.returns
returns c =
    let hi = min c.args.slots 64 in
    let t = c.args.line.now in
    rw (form_parts t)
    (or_else_is hi (head_form t) (event_form t) c.head_line.result c.or_else.result c.head_line.ensures c.or_else.ensures (λ p. search rules))
