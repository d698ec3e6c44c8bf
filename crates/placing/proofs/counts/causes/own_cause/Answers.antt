-- `counts::causes::own_cause` meets its contract: a law for each answer. Assumes nothing.
use native.Mathlib.Omega.{arith}
use mathlib.Core.Path.{sym, ◌∙◌}
use Rattle.laws.proofs.Tests.{none_some}
use Rattle.placing.proofs.counts.causes.CallCauses.{cause_many, cause_outside, cause_used, cause_over, cause_none}
use Rattle.placing.proofs.counts.causes.own_cause.Goals as goal
use Rattle.placing.proofs.counts.causes.own_cause.Goals.{then-call-gt-MOST_JOBS-via-then-call-gt-MOST_JOBS, then-call-gt-MOST_JOBS-via-else-call-gt-MOST_JOBS+then-jobs_outside}

pub returns-then-call-gt-MOST_JOBS : goal.returns-then-call-gt-MOST_JOBS
returns-then-call-gt-MOST_JOBS c = let a = c.args.call in (
  λ h t right many. elim c.then-call-gt-MOST_JOBS.branch [
    | then-call-gt-MOST_JOBS-via-then-call-gt-MOST_JOBS w ↦ cause_many a.jobs (omega (arith, c)) a.count h t w.if-call-gt-MOST_JOBS.true
    | then-call-gt-MOST_JOBS-via-else-call-gt-MOST_JOBS+then-jobs_outside w ↦ cause_outside a.jobs (omega (arith, c)) a.count h t w.if-call-gt-MOST_JOBS.false (sym w.jobs_outside.ensures ∙ w.if-jobs_outside.true)
  ],
  λ q. absurd (none_some (sym q)),
)

pub returns-then-jobs_used : goal.returns-then-jobs_used
returns-then-jobs_used c = let a = c.args.call in
    let inside = sym c.jobs_outside.ensures ∙ c.if-jobs_outside.false in
    (λ h t right many. cause_used a.jobs (omega (arith, c)) a.count h t c.if-call-gt-MOST_JOBS.false inside c.args.counts.now.used right many (sym c.jobs_used.ensures ∙ c.if-jobs_used.true), λ q. absurd (none_some (sym q)))

pub returns-then-call-counts : goal.returns-then-call-counts
returns-then-call-counts c = let a = c.args.call in
    let inside = sym c.jobs_outside.ensures ∙ c.if-jobs_outside.false in (
      λ h t right many. cause_over a.jobs (omega (arith, c)) a.count h t c.if-call-gt-MOST_JOBS.false inside c.args.counts.now.used right many (sym c.jobs_used.ensures ∙ c.if-jobs_used.false)
          c.if-call-counts.true,
      λ q. absurd (none_some (sym q)),
    )

pub returns : goal.returns
returns c = let a = c.args.call in
    let inside = sym c.jobs_outside.ensures ∙ c.if-jobs_outside.false in (
      λ h t right many. cause_none a.jobs (omega (arith, c)) a.count h t c.if-call-gt-MOST_JOBS.false inside c.args.counts.now.used right many (sym c.jobs_used.ensures ∙ c.if-jobs_used.false)
          c.if-call-counts.false,
      λ q. (omega (arith, c.if-call-counts.false, c.if-call-gt-MOST_JOBS.false), (c.if-call-gt-MOST_JOBS.false, inside)),
    )
