-- The room is as long as it says: the lemma holds of every length, so that this one is not counted out.
use Rattle.std.proofs.Common.{ℕ}
use lib.ListN.{length-replicate}
use Rattle.plan.proofs.listing_room.Goals as goal

pub returns : goal.returns
returns c = length-replicate {A = ℕ} 655360 0
