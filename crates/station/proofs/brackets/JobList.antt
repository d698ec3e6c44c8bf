-- Laws of jobs that are read one after the other into an array of eight.
--
-- In order: jobs stored from a place on (`stored`), past the end (`stored_past`) and into an array of zeros (`stored_padded`); a
-- job's limits by what was read of it (`fits_seen`); the jobs so far and those that are left (`counted`): at the start (`counted_start`), one more (`counted_next`), the last
-- (`counted_last`), and so by the bracket that was read (`read_none`, `read_next`, `read_last`).
-- Assumes nothing.
use Prim.Native.Nat.{ℕ, zero, suc, ◌+◌, ◌≤◌}
use native.Mathlib.Omega.{arith}
use mathlib.Core.Path.{◌≡◌, refl, sym, ◌∙◌, ap}
use mathlib.Core.Bool.{Bool, true, ◌&&◌, and-true, and_assoc}
use mathlib.Core.Option as math
use mathlib.Core.Option.{none, some}
use Rattle.std.specs.Prelude.{Option, Some, None}
use mathlib.Core.List.{List, [], ◌∷◌, ◌++◌, append_assoc, append-nil}
use lib.ListN.{length, drop, set, length-append}
use lib.Seq.{set_out, set-append_seam}
use Rattle.station.specs.Limits.{most_jobs}
use Rattle.station.specs.declared.types.Job.{Job}
use Rattle.station.specs.declared.brackets.Jobs.{Jobs}
use Rattle.station.specs.Head as meant
use Rattle.station.specs.Form.{CallJobs, last_job, also_job, read_brackets, read_jobs, jobs_of}
use Rattle.station.specs.declared.brackets.Bracket.{Bracket}
use Rattle.station.specs.Jobs.{job_seen, job_in_limits, jobs_in_limits, no_job, padded, no_jobs, seen}
use Rattle.station.proofs.Form.{made_also, read_jobs_lem}
use Rattle.station.proofs.numbers.Decimals.{seen_within}
use Rattle.station.specs.method.Bracket.{jobs_read, BracketAt, no_bracket_lem, last_bracket, next_bracket}

-- jobs stored from place n on
unfoldable pub stored : ℕ → List Job → List meant.Job → List Job
stored n js [] = js
stored n js (j ∷ l) = stored (suc n) (set js n (job_seen j)) l

pub stored_past : (n : ℕ) (js : List Job) (l : List meant.Job) → length js ≤ n → stored n js l ≡ js
unfolding stored
stored_past n js [] h = refl
stored_past n js (j ∷ l) h = rw (set_out js n (job_seen j) h) (stored_past (suc n) js l (omega arith))

stored_after : (a : List Job) (k n : ℕ) (l : List meant.Job) → length a ≡ n → stored n (a ++ padded k []) l ≡ a ++ padded k l
unfolding stored
stored_after a k n [] h = refl
stored_after a zero n (j ∷ l) h =
    rw (append-nil a, set_out a n (job_seen j) (omega arith)) (stored_past (suc n) a l (omega arith))
stored_after a (suc k) n (j ∷ l) h =
    let s : set (a ++ (no_job ∷ padded k [])) n (job_seen j) ≡ (a ++ (job_seen j ∷ [])) ++ padded k [] =
    rw (← h) (set-append_seam a no_job (padded k []) (job_seen j)) ∙ sym (append_assoc a (job_seen j ∷ []) (padded k [])) in
    let e : length (a ++ (job_seen j ∷ [])) ≡ suc n = omega (arith, length-append a (job_seen j ∷ [])) in
    ap (λ (x : List Job). stored (suc n) x l) s
    ∙ stored_after (a ++ (job_seen j ∷ [])) k (suc n) l e
    ∙ append_assoc a (job_seen j ∷ []) (padded k l)

pub stored_padded : (l : List meant.Job) → stored 0 no_jobs l ≡ padded most_jobs l
stored_padded l = stored_after [] most_jobs 0 l refl

-- ---- the jobs so far, and those that are left

-- a job as it is read is within its limits just if it is
fits_seen : (a b : ℕ) → job_in_limits (record { number = seen a; slots = seen b }) ≡ job_in_limits (record { number = a; slots = b })
fits_seen a b = rw (seen_within 1 255 a (omega arith) (omega arith), seen_within 1 64 b (omega arith) (omega arith)) refl

-- what the whole line makes
abbrev pub counted : ℕ → Bool → List Job → math.Option CallJobs → Option Jobs
counted n f js none = None
counted n f js (some p) = Some (record { count = n + length (jobs_of p); fit = f && jobs_in_limits (jobs_of p); jobs = stored n js (jobs_of p) })

pub counted_start : (o : math.Option CallJobs) → counted 0 true no_jobs o ≡ jobs_read o
counted_start none = refl
counted_start (some p) =
    let e : 0 + length (jobs_of p) ≡ length (jobs_of p) = omega arith in
    rw (e, stored_padded (jobs_of p)) refl

module _ (n : ℕ) (f : Bool) (js : List Job) (a b : ℕ) where
  abbrev job : Job
  job = record { number = seen a; slots = seen b }

  abbrev fit : Bool
  fit = f && job_in_limits (record { number = seen a; slots = seen b })

  pub counted_next : (o : math.Option CallJobs) → counted n f js (also_job (meant.job_of a b) o) ≡ counted (n + 1) fit (set js n job) o
  unfolding jobs_of jobs_in_limits stored
  counted_next none = refl
  counted_next (some p) =
      let e : n + suc (length (jobs_of p)) ≡ suc n + length (jobs_of p) = omega arith in
      let i : suc n ≡ n + 1 = omega arith in
      rw (← i, e, fits_seen a b, and_assoc f (job_in_limits (record { number = a; slots = b })) (jobs_in_limits (jobs_of p))) refl

  pub counted_last : counted n f js (some (last_job (meant.job_of a b))) ≡ Some (record { count = n + 1; fit = fit; jobs = set js n job })
  unfolding jobs_of jobs_in_limits stored
  counted_last = rw (fits_seen a b, and-true (job_in_limits (record { number = a; slots = b }))) refl

-- ---- by the bracket that was read

module _ (n : ℕ) (f : Bool) (js : List Job) {t : List ℕ} {at : ℕ} where
  pub read_none : BracketAt t at None → None ≡ counted n f js (read_jobs (drop at t))
  read_none (no_bracket_lem q e) = rw (← read_jobs_lem (drop at t), e) refl
  read_none (last_bracket c d q i e) = absurd cc
  read_none (next_bracket c d k q h i e) = absurd cc

  module _ {b : Bracket} where
    pub read_last : BracketAt t at (Some b) → b.next ≡ None
        → Some (record { count = n + 1; fit = f && job_in_limits (record { number = b.first; slots = b.second }); jobs = set js n (record { number = b.first; slots = b.second }) })
        ≡ counted n f js (read_jobs (drop at t))
    read_last (no_bracket_lem q e) y = absurd cc
    read_last (last_bracket c d q i e) y =
        let same : b ≡ record { first = seen c; second = seen d; next = None } = cc in
        rw (← read_jobs_lem (drop at t), e, same) (sym (counted_last n f js c d))
    read_last (next_bracket c d k q h i e) y =
        let same : b ≡ record { first = seen c; second = seen d; next = Some k } = cc in
        let off : None ≡ Some k = sym y ∙ ap (λ (x : Bracket). x.next) same in
        absurd cc

    pub read_next : (next : ℕ) → BracketAt t at (Some b) → b.next ≡ Some next
        → counted (n + 1) (f && job_in_limits (record { number = b.first; slots = b.second })) (set js n (record { number = b.first; slots = b.second })) (read_jobs (drop next t))
        ≡ counted n f js (read_jobs (drop at t))
    read_next next (no_bracket_lem q e) y = absurd cc
    read_next next (last_bracket c d q i e) y =
        let same : b ≡ record { first = seen c; second = seen d; next = None } = cc in
        let off : Some next ≡ None = sym y ∙ ap (λ (x : Bracket). x.next) same in
        absurd cc
    read_next next (next_bracket c d k q h i e) y =
        let same : b ≡ record { first = seen c; second = seen d; next = Some k } = cc in
        let on : Some next ≡ Some k = sym y ∙ ap (λ (x : Bracket). x.next) same in
        let here : next ≡ k = cc in
        rw (← read_jobs_lem (drop at t), e, made_also c d (read_brackets (drop k t)), read_jobs_lem (drop k t), same, here) (sym (counted_next n f js c d (read_jobs (drop k t))))
