-- The two entries of this layer, plan and call: the answer and every lent cell afterwards, for all inputs. Document 01, "Causes"; document 02, 2026-02.
-- Assumes nothing.
use Rattle.std.specs.Prelude.{ℕ, ◌+◌, ◌*◌, ◌/◌, ◌%◌, Bool, not, ◌&&◌, List, [], ◌∷◌, ◌++◌, length, drop, ltb, eqb}
use Rattle.std.proofs.Math.Option.{Option, none, some}
use Rattle.laws.specs.Sums.{every}
use Rattle.laws.specs.Lists.{tabulate}
use Rattle.laws.specs.Eviction.{ones}
use Rattle.station.specs.Limits.{most_jobs, most_frame_jobs, least_cells}
use Rattle.station.specs.Head.{Head, Job, valid, within}
use Rattle.station.specs.Jobs.{job_in_limits}
use Rattle.station.specs.Refusal.{Refusal, out_of_limits, number_used, mandatory_not_feasible, call_not_feasible, too_short, too_many, not_well_formed, try, first_of}
use Rattle.placing.specs.Table.{Cells, cell, is_used, job_count}
use Rattle.placing.specs.State.{State, with_table, well_formed_frame}
use Rattle.placing.specs.Valid.{job_at}
use Rattle.placing.specs.Plan.{plan_fits, mandatories, grants, tie_of, planned}
use Rattle.placing.specs.Call.{evicted_set, call_fits, called}

-- The lent table with the cells of u in the frame: "Cells past S × B are never changed".
unfoldable pub written : Head → Cells → List ℕ → List ℕ
written h u t = tabulate (h.slots * h.bridges) (λ i. u (i / h.bridges) (i % h.bridges)) ++ drop (h.slots * h.bridges) t

-- ---- plan

-- each preset's grant in file order, or the refusal; and the lent table afterwards
pub data PlanAnswer : Type 0 where
  granted : List ℕ → PlanAnswer
  refused : ℕ → Refusal → PlanAnswer

pub record PlanOutcome : Type 0 where
  pub answer : PlanAnswer
  pub table : List ℕ

-- "lent table below 512 cells .. the frame's size regardless"; "a head record that no text yields"; "the required slots do not fit"
abbrev pub plan_causes : Head → List ℕ → List (Option Refusal)
plan_causes h t =
    try too_short (ltb (length t) least_cells)
    ∷ try out_of_limits (not (valid h))
    ∷ try mandatory_not_feasible (not (plan_fits h (mandatories h)))
    ∷ []

unfoldable pub plan_of : Head → List ℕ → PlanOutcome
plan_of h t =
    elim (first_of (plan_causes h t)) [
      | none ↦ record { answer = granted (grants h); table = written h (planned (tie_of h.hold) h) t }
      | some r ↦ record { answer = refused 0 r; table = t }
    ]

-- ---- what every entry on a running frame tries first

-- 8, then 2 for the head record, "tried by 2 before a table is held against it by 11", then 11, "a table that is not sound, or a clock outside" 0 to S + 1 (2026-05)
abbrev pub frame_causes : Head → State → List (Option Refusal)
frame_causes h st =
    try too_short (ltb (length st.table) least_cells)
    ∷ try out_of_limits (not (valid h))
    ∷ try not_well_formed (not (well_formed_frame h st))
    ∷ []

-- ---- call

-- "a ninth job in a call, or no job outside a text", a job's number or length outside its limits
abbrev pub jobs_outside : List Job → Bool
jobs_outside jobs = not (within 1 most_jobs (length jobs) && every (length jobs) (λ i. job_in_limits (job_at jobs i)))

-- "a number already used, or twice in a call"
abbrev pub jobs_used : Head → Cells → List Job → Bool
jobs_used h t jobs =
    not (every (length jobs) (λ i. not (is_used h t (job_at jobs i).number)
    && every i (λ j. not (eqb (job_at jobs j).number (job_at jobs i).number))))

-- "65th job": more than 64 job numbers in the table
abbrev pub jobs_too_many : Head → Cells → List Job → Bool
jobs_too_many h t jobs = ltb most_frame_jobs (job_count h t + length jobs)

-- the causes of a call's jobs, in the listed order: 2, 4, 9
abbrev pub job_causes : Head → List Job → Cells → List (Option Refusal)
job_causes h jobs t =
    try out_of_limits (jobs_outside jobs)
    ∷ try number_used (jobs_used h t jobs)
    ∷ try too_many (jobs_too_many h t jobs)
    ∷ []

-- and "a call that does not fit": 7
abbrev pub call_causes : Head → ℕ → List Job → Cells → List (Option Refusal)
call_causes h clock jobs t = job_causes h jobs t ++ (try call_not_feasible (not (call_fits h clock jobs t)) ∷ [])

-- The jobs that a call places, in order: those that it names. (Request 2026-06 places unfinished ones with them.)
abbrev pub joining : Head → State → List Job → List Job
joining h st jobs = jobs

-- what an accepted call is told to cost: "An accepted call reports the number of lost cells in the table that it leaves."
pub record Cost : Type 0 where
  pub count : ℕ

abbrev pub cost : ℕ → Cost
cost n = record { count = n }

abbrev pub cost_of : Head → List Job → State → Cost
cost_of h jobs st = cost (ones (evicted_set h st.clock (joining h st jobs) (cell h st.table)))

-- its cost, or the refusal; and the state afterwards
pub data CallAnswer : Type 0 where
  taken : Cost → CallAnswer
  refused : ℕ → Refusal → CallAnswer

pub record CallOutcome : Type 0 where
  pub answer : CallAnswer
  pub after : State

-- what a call leaves that is carried out: the table with its jobs, placed by the order of ties in force; the clock and this order as they were
abbrev pub called_state : Head → List Job → State → State
called_state h jobs st = with_table (written h (called (tie_of st.hold) h st.clock (joining h st jobs) (cell h st.table)) st.table) st

unfoldable pub call_of : Head → List Job → State → CallOutcome
call_of h jobs st =
    elim (first_of (frame_causes h st ++ call_causes h st.clock jobs (cell h st.table))) [
      | none ↦ record { answer = taken (cost_of h jobs st); after = called_state h jobs st }
      | some r ↦ record { answer = refused 0 r; after = st }
    ]
