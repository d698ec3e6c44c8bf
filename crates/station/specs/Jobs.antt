-- The jobs of a call: their limits by document 01's table, and as the code reads them, into an
-- array of eight. Document 01, "The station text". Assumes nothing.
use Rattle.std.specs.Prelude.{ℕ, zero, suc, min, Bool, true, ◌&&◌, List, [], ◌∷◌}
use Rattle.station.specs.Limits.{most_jobs, most_length, most_number}
use Rattle.station.specs.Head as meant
use Rattle.station.specs.Head.{within}
use Rattle.station.specs.declared.types.Job.{Job}

-- "c: from 1 to 64; preset or job number: from 1 to 255"
abbrev pub job_in_limits : meant.Job → Bool
job_in_limits j = within 1 most_number j.number && within 1 most_length j.slots

-- every job is within its limits
unfoldable pub jobs_in_limits : List meant.Job → Bool
jobs_in_limits [] = true
jobs_in_limits (j ∷ l) = job_in_limits j && jobs_in_limits l

-- a value as it is read: 65,535 stands for itself and for all above it
abbrev pub seen : ℕ → ℕ
seen v = min v 65535

-- a job as it is read
abbrev pub job_seen : meant.Job → Job
job_seen j = record { number = seen j.number; slots = seen j.slots }

-- what stands past the last job
abbrev pub no_job : Job
no_job = record { number = 0; slots = 0 }

-- the first k jobs as they are read; zeros where there are fewer
abbrev pub padded : ℕ → List meant.Job → List Job
padded zero l = []
padded (suc k) [] = no_job ∷ padded k []
padded (suc k) (j ∷ l) = job_seen j ∷ padded k l

-- no job: eight times zeros
abbrev pub no_jobs : List Job
no_jobs = padded most_jobs []
