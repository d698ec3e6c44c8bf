-- What programs, the static library and the pages cite of this layer's laws; the three demands are in Demands.
-- Assumes nothing.
pub use Rattle.frame.proofs.Demands.{planned_running, demand_3}
pub use Rattle.frame.proofs.OneEvent.{event_is}
pub use Rattle.frame.proofs.HandedOver.{handed_over, plan_lets_pass, text_lets_pass, text_then_handed}
pub use Rattle.frame.proofs.EventList.{followed_by, run_append}
pub use Rattle.frame.proofs.AsUncapped.{run_uncapped_lem, text_uncapped, run_eight}
pub use Rattle.frame.proofs.AsBefore.{plan_as_before, run_as_before, text_as_before, place_as_before}
pub use Rattle.frame.proofs.event.EventAnswers.{meant_event, done_running}
pub use Rattle.frame.proofs.text.WholeText.{beside_long, beside_ran, text_claim}
pub use Rattle.frame.proofs.listing.WholeListing.{cause_whole}
