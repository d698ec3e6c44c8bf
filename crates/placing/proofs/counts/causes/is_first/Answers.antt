-- `counts::causes::is_first` meets its contract. Assumes nothing.
use native.Mathlib.Omega.{arith}
use Prim.Native.Nat.{ℕ}
use mathlib.Core.Path.{◌≡◌}
use lib.ListN.{take}
use lib.Seq.{get_or-take, length-take-le}
use borrow.Author.Tests.{tests}
use Rattle.std.proofs.Common.{◌≢◌, rules}
use Rattle.std.proofs.lemmas.Iterator.{cases_from_all, YieldsList-from_slice}
use Rattle.laws.proofs.Tests.{not_is_true, not_is_false}
use Rattle.laws.proofs.Comparisons.{eqb_yes, eqb_no}
use Rattle.station.specs.declared.types.Job.{Job}
use Rattle.placing.specs.method.Jobs.{job_number, is_other}
use Rattle.placing.proofs.Chains.{every_by_all}
use Rattle.placing.proofs.counts.causes.is_first.Goals as goal

pub returns : goal.returns
returns c =
    let js = c.args.call.jobs in
    let i = c.args.i in
    let n : ℕ = job_number js i in
    let none : Job = record { number = 0; slots = 0 } in
    let other : Job → Type 0 = λ x. x.number ≢ n in
    let same : Job → Type 0 = λ x. x.number ≡ n in
    every_by_all none other same (take i js) i (length-take-le i js (omega (arith, c))) (is_other js n)
    (λ k l q. not_is_true _ (eqb_no (job_number js k) n (rw (get_or-take i js k none l) at q)))
    (λ k l q. not_is_false _ (eqb_yes (job_number js k) n (rw (get_or-take i js k none l) at q)))
    _ (cases_from_all _ _ _ other same c.all.ensures.ran (YieldsList-from_slice (take i js) cc)
    (λ x q k. search (rules, tests)) (λ x q k. search (rules, tests)))
