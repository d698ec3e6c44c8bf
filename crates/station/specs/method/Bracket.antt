-- What the code makes of one bracket of two numbers at a place of a text, and of the brackets that
-- a line ends with. Document 01, "The station text": `(busy b (f t) (f t))`, `(call (n c) (n c))`.
-- Assumes nothing.
use Rattle.std.specs.Prelude.{ℕ, ◌+◌, ◌-◌, ◌^◌, ◌≤◌, ◌<◌, ◌≡◌, ◌&&◌, List, length, drop, leb, Option, Some, None}
use Rattle.std.specs.Bool.{then_some}
use Rattle.std.proofs.Math.Option as math
use Rattle.std.proofs.Math.Option.{none, some}
use Rattle.station.specs.Limits.{most_slots, most_jobs}
use Rattle.station.specs.declared.brackets.Bracket.{Bracket}
use Rattle.station.specs.declared.brackets.Stretches.{Stretches}
use Rattle.station.specs.declared.brackets.Jobs.{Jobs}
use Rattle.station.specs.Form.{Pairs, CallJobs, last, also, read_brackets, jobs_of}
use Rattle.station.specs.Writing.{mask_to, mask_of, ordered}
use Rattle.station.specs.Jobs.{jobs_in_limits, padded, seen}

-- The bracket at a place: there is none; or it is the line's last; or others follow at a later
-- place. Its numbers are those of the text, as they are read.
pub data BracketAt (t : List ℕ) (at : ℕ) (r : Option Bracket) : Type 0 where
  no_bracket_lem : r ≡ None → read_brackets (drop at t) ≡ none → BracketAt t at r
  last_bracket : (m n : ℕ) → r ≡ Some (record { first = seen m; second = seen n; next = None }) → at < length t
      → read_brackets (drop at t) ≡ some (last m n) → BracketAt t at r
  next_bracket : (m n next : ℕ) → r ≡ Some (record { first = seen m; second = seen n; next = Some next }) → at < next → next ≤ length t
      → read_brackets (drop at t) ≡ also m n (read_brackets (drop next t)) → BracketAt t at r

-- ---- stretches: "f ≤ t; each f is at least 2 above the t before it"

-- before the first stretch, which may begin in slot 1
abbrev pub no_stretch : Stretches
no_stretch = record { from = 1; mask = 0 }

-- The mask holds slots below the next stretch only, so that one more stretch is added to it without
-- overlap; slot 64 is the last of all.
pub record MaskedSoFar (s : Stretches) : Type 0 where
  pub low : 1 ≤ s.from
  pub high : s.from ≤ most_slots + 2
  pub below : s.mask < 2 ^ (s.from - 1)

-- one more stretch, from f to t, in a frame of hi slots, if it is in order there
abbrev pub stretched : ℕ → Stretches → ℕ → ℕ → Option Stretches
stretched hi s f t = then_some (leb s.from f && leb f t && leb t hi) (record { from = t + 2; mask = s.mask + mask_to f t })

-- the stretches of a busy line in a frame of hi slots: their mask, where they are in order
abbrev pub busy_mask_in : ℕ → math.Option Pairs → Option (Option ℕ)
busy_mask_in hi none = None
busy_mask_in hi (some p) = Some (then_some (ordered 1 hi p) (mask_of p))

-- ---- jobs

-- the jobs of a call: how many, whether each is within its limits, and the first eight
abbrev pub jobs_made : CallJobs → Jobs
jobs_made p = record { count = length (jobs_of p); fit = jobs_in_limits (jobs_of p); jobs = padded most_jobs (jobs_of p) }

abbrev pub jobs_read : math.Option CallJobs → Option Jobs
jobs_read none = None
jobs_read (some p) = Some (jobs_made p)
