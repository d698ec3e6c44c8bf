-- `counts::causes::fits_by_counts` meets its contract. The invariant: the sums and the total are those of what is unfinished and of the jobs passed. Assumes nothing.
use Prim.Native.Nat.{◌+◌, ◌*◌, ◌<◌}
use native.Mathlib.Omega.{arith}
use mathlib.Core.Path.{sym, ap, ◌∙◌}
use mathlib.Core.List.{List}
use lib.ListN.{length}
use Rattle.station.specs.Head.{Job}
use Rattle.placing.specs.Types.{jobs_in}
use Rattle.placing.proofs.grants.Arrays.{raised_low}
use Rattle.placing.proofs.counts.causes.CallCauses.{jobs_length, job_at_lem, inside_slots, beside_more, beside_fits}
use Rattle.placing.proofs.counts.causes.fits_by_counts.Goals as goal

pub raise-requires : goal.raise-requires
raise-requires c =
    let l = c.loop-i in
    let a = c.args.call in
    let small = inside_slots a.jobs (omega (arith, c)) a.count c.requires.0.0 c.requires.0.1 l.i (omega arith) in
    record { long = l.invariant.0; part = λ q low. omega arith; low = λ q low. omega (arith, l.invariant.1 q low); small = omega (arith, c.from.ensures, small); within = omega arith; few = omega (arith, l.invariant.2) }

pub loop-i-preserved : goal.loop-i-preserved
loop-i-preserved c =
    let a = c.args in
    let l = c.loop-i in
    let few = c.requires.0.0 in
    let small = inside_slots a.call.jobs (omega (arith, c)) a.call.count few c.requires.0.1 l.i (omega arith) in
    let jobs : List Job = jobs_in a.call.count a.call.jobs in
    let here : l.i < length jobs = omega (arith, jobs_length a.call.jobs (omega (arith, c)) a.call.count few) in
    let own = c.from.ensures ∙ sym (ap (λ (j : Job). j.slots) (job_at_lem a.call.jobs (omega (arith, c)) a.call.count few l.i (omega arith))) in (
      c.raise.ensures.0.long,
      (λ r low. omega (arith, c.from.ensures, small, raised_low l.all.largest _ 0 _ (4096 + 255 * l.i) c.raise.ensures.0 l.invariant.1 r low)),
      omega (arith, c.raise.ensures.1, c.from.ensures, small, l.invariant.2),
      beside_more jobs a.sums.largest a.sums.total l.i _ l.all.largest _ here own l.invariant.3 c.raise.ensures.0 (omega (arith, c.raise.ensures.1)),
    )

pub returns : goal.returns
returns c = let a = c.args in
    let l = c.loop-i in
    beside_fits (jobs_in a.call.count a.call.jobs) a.sums.largest a.sums.total l.i l.all.largest a.at_least.now
    (omega (arith, jobs_length a.call.jobs (omega (arith, c)) a.call.count c.requires.0.0)) l.invariant.3 c.lacks.ensures
