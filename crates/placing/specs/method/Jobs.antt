-- A call's job records as the code looks at them: within their limits (`IsCall`), and with numbers that are new. Document 01, "Causes".
-- Assumes nothing.
use Rattle.std.specs.Prelude.{ℕ, ◌≤◌, ◌≡◌, Bool, false, not, ◌&&◌, List, get_or, eqb}
use Rattle.laws.specs.Sums.{every}
use Rattle.station.specs.Limits.{most_jobs}
use Rattle.station.specs.Jobs.{job_in_limits}
use Rattle.station.specs.Types.{job_in}
use Rattle.station.specs.declared.types.Job as record-job
use Rattle.station.specs.declared.types.Call.{Call}
use Rattle.placing.specs.Types.{jobs_in}
use Rattle.placing.specs.Outcomes.{jobs_outside}

-- the job record at i, with what stands past the last, and its number
abbrev pub job_record : List record-job.Job → ℕ → record-job.Job
job_record js i = get_or js i (record { number = 0; slots = 0 })

abbrev pub job_number : List record-job.Job → ℕ → ℕ
job_number js i = (job_record js i).number

-- the job record at i is within its limits
abbrev pub within_at : List record-job.Job → ℕ → Bool
within_at js i = job_in_limits (job_in (job_record js i))

-- the jobs are a call's: not none nor more than eight, and each within its limits
abbrev pub IsCall : Call → Type 0
IsCall c = (c.count ≤ most_jobs) × (jobs_outside (jobs_in c.count c.jobs) ≡ false)

-- the number is marked in an array that has one place for each
abbrev pub marked : List Bool → ℕ → Bool
marked used n = get_or used n false

-- job j has not the number n
abbrev pub is_other : List record-job.Job → ℕ → ℕ → Bool
is_other js n j = not (eqb (job_number js j) n)

-- job i has a number that is not marked as used, and that no job before it has
abbrev pub job_new : List Bool → List record-job.Job → ℕ → Bool
job_new used js i = not (marked used (job_number js i)) && every i (is_other js (job_number js i))
