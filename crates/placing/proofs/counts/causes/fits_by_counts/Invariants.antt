-- `counts::causes::fits_by_counts` meets its contract. The invariant: the sums and the total are those of what is unfinished and of the jobs passed. Assumes nothing.
use Prim.Native.Nat.{ℕ, ◌+◌, ◌*◌, ◌≤◌, ◌<◌}
use mathlib.Core.Path.{◌≡◌}
use lib.ListN.{length}
use Rattle.laws.specs.Lists.{at}
use Rattle.placing.specs.Types.{jobs_in}
use Rattle.placing.proofs.counts.causes.CallCauses.{Beside}
use Rattle.placing.proofs.counts.causes.fits_by_counts.Given as goal

abbrev pub invariant-loop-i : goal.invariant-loop-i
invariant-loop-i l = (length l.all.largest ≡ 9) × ((r : ℕ) → r < 9 → at l.all.largest r ≤ 4096 + 255 * l.i) × (l.all.total ≤ 4096 + 255 * l.i)
    × Beside (jobs_in l.call.count l.call.jobs) l.initial.all.largest l.initial.all.total l.i l.all.largest l.all.total
