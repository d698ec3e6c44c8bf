-- What the functions that try the causes are held to: the causes of a head record, job records and a lent table, in the order in which they are tried.
-- Document 01, "Causes".
-- Assumes nothing.
use Rattle.std.specs.Prelude.{ℕ, ◌-◌, not, List, [], ◌∷◌, ◌++◌, length, replicate, ltb}
use Rattle.std.proofs.Math.Option.{Option}
use Rattle.station.specs.Limits.{most_jobs, least_cells}
use Rattle.station.specs.Head.{Job}
use Rattle.station.specs.Refusal.{Refusal, out_of_limits, too_short, not_well_formed, try}
use Rattle.station.specs.declared.types.Job as record-of-job
use Rattle.station.specs.declared.types.Preset as types
use Rattle.station.specs.declared.types.Head as record-of-head
use Rattle.station.specs.Types.{head_in, valid_record}
-- what trying some causes gave
pub use Rattle.station.specs.WriteHead.{cause_in}
use Rattle.placing.specs.State.{State, well_formed_frame}
use Rattle.placing.specs.Valid.{no_job}
use Rattle.placing.specs.Types.{jobs_in}

-- The causes of a lent table and a head record alone: "lent table below 512 cells"; "a head record that no text yields", such as one that counts more
-- presets than there are records.
abbrev pub causes_of : record-of-head.Head → List types.Preset → List ℕ → List (Option Refusal)
causes_of head ps t = try too_short (ltb (length t) least_cells) ∷ try out_of_limits (not (valid_record head ps)) ∷ []

-- The causes tried of a running frame: those of the table and the head record alone, then "a table that is not sound, or a clock outside" 0 to S + 1 (2026-05).
abbrev pub frame_causes_of : record-of-head.Head → List types.Preset → State → List (Option Refusal)
frame_causes_of head ps st = causes_of head ps st.table ++ (try not_well_formed (not (well_formed_frame (head_in head ps) st)) ∷ [])

-- The jobs of a call that says it has n of them: the first n of eight records; past the eighth no job, so that "a ninth job in a call" is met.
unfoldable pub call_jobs : ℕ → List record-of-job.Job → List Job
call_jobs n js = jobs_in n js ++ replicate (n - most_jobs) no_job
