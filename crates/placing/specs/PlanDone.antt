-- What `plan_by_value` is held to: the outcome of a plan for a head record, preset records and a table. Document 01, "Causes".
-- Assumes nothing.
use Rattle.std.specs.Prelude.{ℕ, ◌≡◌, List, [], length, take, Result, Ok, Err, IfOk}
use Rattle.std.proofs.Math.Option.{none, some}
use Rattle.laws.specs.Lists.{at}
use Rattle.station.specs.Limits.{most_presets}
use Rattle.station.specs.Refusal.{first_of}
use Rattle.station.specs.declared.types.Preset as types
use Rattle.station.specs.declared.types.Head as record-of-head
use Rattle.station.specs.Types.{head_in, refusal_in}
use Rattle.station.specs.declared.types.Refusal as cause
use Rattle.placing.specs.Causes.{causes_of}
use Rattle.placing.specs.Outcomes.{PlanAnswer, granted, refused, PlanOutcome, plan_of}
use Rattle.placing.specs.Types.{filled}

-- The outcome of a plan for a head record and its preset records: where none of these causes holds, that of the head they stand for.
unfoldable pub plan_meant : record-of-head.Head → List types.Preset → List ℕ → PlanOutcome
plan_meant head ps t =
    elim (first_of (causes_of head ps t)) [
      | none ↦ plan_of (head_in head ps) t
      | some r ↦ record { answer = refused 0 r; table = t }
    ]

-- what an answer of the code stands for: the grants of the first n presets, or a refusal, which has no line
abbrev pub replied_in : ℕ → Result (List ℕ) cause.Refusal → PlanAnswer
replied_in n (Ok g) = granted (take n g)
replied_in n (Err r) = refused 0 (refusal_in r)

-- the grants of an answer: none where it is refused
abbrev pub grants_in : PlanAnswer → List ℕ
grants_in (granted g) = g
grants_in (refused _ r) = []

-- What `plan_by_value` answers and leaves: the answer and the table are those of the outcome, and the array has the grants and zeros after them.
pub record PlanDone (head : record-of-head.Head) (ps : List types.Preset) (t u : List ℕ) (r : Result (List ℕ) cause.Refusal) : Type 0 where
  pub answer : replied_in head.count r ≡ (plan_meant head ps t).answer
  pub grants : IfOk r (λ g. g ≡ filled most_presets (length (grants_in (plan_meant head ps t).answer)) (at (grants_in (plan_meant head ps t).answer)))
  pub table : u ≡ (plan_meant head ps t).table
