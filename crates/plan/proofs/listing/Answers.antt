-- The listing stands there already, or the one line of a text that was not taken is written. Assumes nothing.
use mathlib.Core.Path.{refl}
use Rattle.plan.proofs.Printed.{printed_listing, printed_refusal, printed_bytes}
use Rattle.plan.proofs.listing.Goals as goal

pub returns-in-Ok : goal.returns-in-Ok
returns-in-Ok c =
    let d = printed_bytes _ _ _ (printed_listing c.requires (c.in-Ok.ensures.whole c.requires)) refl in
    record { inside = d.0; bytes = d.1 }

pub returns-in-Err : goal.returns-in-Err
returns-in-Err c =
    let line = printed_refusal c.requires (c.in-Err.ensures.whole c.requires) c.write_answer.ensures in
    let d = printed_bytes _ _ c.write_answer.result line c.unwrap_or.ensures in
    record { inside = d.0; bytes = d.1 }
