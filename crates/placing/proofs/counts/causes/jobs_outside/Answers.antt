-- `counts::causes::jobs_outside` meets its contract. Assumes nothing.
use native.Mathlib.Omega.{arith}
use mathlib.Core.Path.{◌≡◌, sym, ◌∙◌}
use mathlib.Core.Bool.{true, false}
use lib.ListN.{take}
use lib.Seq.{get_or-take, length-take-le}
use borrow.Author.Tests.{tests}
use Rattle.std.proofs.Common.{rules}
use Rattle.std.proofs.lemmas.Iterator.{cases_from_any, YieldsList-from_slice}
use Rattle.station.specs.declared.types.Job.{Job}
use Rattle.station.specs.Jobs.{job_in_limits}
use Rattle.station.specs.Types.{job_in}
use Rattle.placing.specs.method.Jobs.{within_at}
use Rattle.placing.proofs.Chains.{every_by_any}
use Rattle.placing.proofs.counts.causes.CallCauses.{outside_some}
use Rattle.placing.proofs.counts.causes.jobs_outside.Goals as goal

pub returns-else-call-eq0 : goal.returns-else-call-eq0
returns-else-call-eq0 c =
    let js = c.args.call.jobs in
    let n = c.args.call.count in
    let none : Job = record { number = 0; slots = 0 } in
    let within : Job → Type 0 = λ x. job_in_limits (job_in x) ≡ true in
    let outside : Job → Type 0 = λ x. job_in_limits (job_in x) ≡ false in
    every_by_any none within outside (take n js) n (length-take-le n js (omega (arith, c))) (within_at js)
    (λ k l q. rw (get_or-take n js k none l) at q)
    (λ k l q. rw (get_or-take n js k none l) at q)
    _ (cases_from_any _ _ _ outside within c.any.ensures.ran (YieldsList-from_slice (take n js) cc)
    (λ x q k. search (rules, tests)) (λ x q k. search (rules, tests)))
    ∙ sym (outside_some js (omega (arith, c)) n c.requires (omega arith))
