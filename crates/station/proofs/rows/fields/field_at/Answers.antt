-- `field_at` meets its contract: the byte after a quote is in the text.
-- Assumes nothing.
use native.Mathlib.Omega.{arith}
use mathlib.Core.Path.{refl, sym, ◌∙◌}
use Rattle.station.specs.Row.{quote}
use Rattle.station.proofs.rows.RowLine.{word_fits}
use Rattle.station.proofs.rows.fields.field_at.Goals as goal

pub overflow_add-at : goal.overflow_add-at
overflow_add-at c = let s = c.args in
    let e = word_fits s.text.now s.at quote 0 refl (sym c.starts_at.ensures ∙ c.if-starts_at.true) in
    omega arith
