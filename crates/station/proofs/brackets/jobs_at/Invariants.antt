-- `jobs_at` meets its contract. The invariant: the jobs so far and those from `i` on make what the jobs from `at` on make.
-- The measure is what is left of the text.
-- Assumes nothing.
use Prim.Native.Nat.{◌-◌, ◌≤◌}
use mathlib.Core.Path.{◌≡◌}
use lib.ListN.{length, drop}
use Rattle.station.specs.Limits.{most_jobs}
use Rattle.station.specs.Form.{read_jobs}
use Rattle.station.specs.method.Bracket.{jobs_read}
use Rattle.station.proofs.brackets.JobList.{counted}
use Rattle.station.proofs.brackets.jobs_at.Given as goal

abbrev pub invariant-loop-b : goal.invariant-loop-b
invariant-loop-b l = (l.count ≤ l.i) × (length l.jobs ≡ most_jobs) × (counted l.count l.fit l.jobs (read_jobs (drop l.i l.text)) ≡ jobs_read (read_jobs (drop l.at l.text)))

abbrev pub decreases-loop-b : goal.decreases-loop-b
decreases-loop-b l = length l.text - l.i
