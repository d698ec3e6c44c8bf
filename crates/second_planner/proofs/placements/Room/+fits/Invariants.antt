-- `placements::Room::fits` ends: each call of itself is about the slots past the first.
use Rattle.std.proofs.Common.{length}
use Rattle.second_planner.proofs.placements.Room.+fits.Given as goal

abbrev pub decreases-fits : goal.decreases-fits
decreases-fits l = length l.self.sets.now
