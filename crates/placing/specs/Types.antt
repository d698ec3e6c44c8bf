-- What the code's values stand for: a call's jobs, the kind of a cell, and an array with numbers at its front.
-- Assumes nothing.
use Rattle.std.specs.Prelude.{ℕ, zero, suc, List, map, take, set, replicate}
use Rattle.station.specs.declared.types.Job.{Job}
use Rattle.placing.specs.declared.cells.Kind.{Kind}
use Rattle.placing.specs.declared.cells.Kind.TheVariants.{Empty, Busy, Mandatory, Optional, Call, Other}
use Rattle.station.specs.Head as meant
use Rattle.station.specs.Types.{job_in}

-- the jobs of a call that has n of them: the first n records
abbrev pub jobs_in : ℕ → List Job → List meant.Job
jobs_in n js = map job_in (take n js)

-- the kind with the number k; past the last none of the five
abbrev pub kind_in : ℕ → Kind
kind_in zero = Empty
kind_in (suc zero) = Busy
kind_in (suc (suc zero)) = Mandatory
kind_in (suc (suc (suc zero))) = Optional
kind_in (suc (suc (suc (suc zero)))) = Call
kind_in (suc (suc (suc (suc (suc k))))) = Other

-- An array of m numbers of which the first n are f 0, .., f (n - 1), written one after the other, and the others 0.
unfoldable pub filled : ℕ → ℕ → (ℕ → ℕ) → List ℕ
filled m zero f = replicate m 0
filled m (suc n) f = set (filled m n f) n (f n)
