-- `counts::causes::cause_by_counts` meets its contract: a law for each answer. Assumes nothing.
use native.Mathlib.Omega.{arith}
use mathlib.Core.Path.{sym, ◌∙◌, refl}
use Rattle.std.proofs.lemmas.Result.{err_from_is_err_and}
use Rattle.laws.proofs.Tests.{none_some}
use Rattle.placing.specs.Causes.{call_jobs}
use Rattle.placing.proofs.counts.causes.CallCauses.{cause_own, cause_seven, cause_passed}
use Rattle.placing.proofs.counts.causes.cause_by_counts.Goals as goal

pub returns-in_err-own_cause : goal.returns-in_err-own_cause
returns-in_err-own_cause c =
    let p = err_from_is_err_and c.from_residual.result c.from_residual.ensures.1 in rw (p.1, p.2)
    (let a = c.args in (
      λ h clock t valid formed right. cause_own h clock (call_jobs a.call.count a.call.jobs) t _ (c.in_err-own_cause.ensures.0 h t right.used right.jobs),
      λ q. absurd (none_some (sym q)),
    ))

pub returns-then-not-jobs_fit : goal.returns-then-not-jobs_fit
returns-then-not-jobs_fit c =
    let k = c.in_ok-own_cause.ensures.1 refl in
    let a = c.args in (
      λ h clock t valid formed right. cause_seven a.call.jobs (omega (arith, c)) a.call.count h clock t (c.in_ok-own_cause.ensures.0 h t right.used right.jobs) k.1.0
          (sym (c.jobs_fit.ensures h clock t valid formed right.entries) ∙ c.if-not-jobs_fit.true),
      λ q. absurd (none_some (sym q)),
    )

pub returns : goal.returns
returns c =
    let k = c.in_ok-own_cause.ensures.1 refl in
    let a = c.args in (
      λ h clock t valid formed right. cause_passed a.call.jobs (omega (arith, c)) a.call.count h clock t (c.in_ok-own_cause.ensures.0 h t right.used right.jobs) k.1.0
          (sym (c.jobs_fit.ensures h clock t valid formed right.entries) ∙ c.if-not-jobs_fit.false),
      λ q. k.0,
    )
