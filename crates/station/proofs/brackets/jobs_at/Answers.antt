-- `jobs_at` meets its contract. The invariant: the jobs so far and those from `i` on make what the jobs from `at` on make.
-- The measure is what is left of the text.
-- Assumes nothing.
use native.Mathlib.Omega.{arith}
use mathlib.Core.Path.{◌≡◌, refl, sym, ◌∙◌}
use lib.ListN.{drop, set, length-set}
use lib.Seq.{set_out}
use Rattle.station.specs.Form.{read_jobs}
use Rattle.station.proofs.brackets.OneBracket.{next_inside}
use Rattle.station.proofs.brackets.JobList.{counted_start, read_none, read_last, read_next}
use Rattle.station.proofs.brackets.jobs_at.Goals.{then-count-lt-MOST_JOBS, else-count-lt-MOST_JOBS}
use Rattle.station.proofs.brackets.jobs_at.Goals as goal

pub loop-b-init : goal.loop-b-init
loop-b-init c = (omega arith, refl, counted_start (read_jobs (drop c.args.at c.args.text.now)))

pub returns-in_err-b : goal.returns-in_err-b
returns-in_err-b c = let l = c.loop-b in
    c.from_residual.ensures ∙ read_none l.count l.fit l.jobs c.in_err-b.ensures ∙ l.invariant.2

pub returns-in-None : goal.returns-in-None
returns-in-None c = let b = c.in_ok-b.b in
    let l = c.loop-b in
    let kept : c.if-count-lt-MOST_JOBS.jobs ≡ set l.jobs l.count (record { number = b.first; slots = b.second }) =
    elim c.if-count-lt-MOST_JOBS.branch [
      | then-count-lt-MOST_JOBS w ↦ w.jobs-is
      | else-count-lt-MOST_JOBS w ↦ let left = w.if-count-lt-MOST_JOBS.false in w.jobs-is ∙ sym (set_out l.jobs l.count _ (omega arith))
    ] in
    rw (kept, c.job_in_limits-fit.ensures) (read_last l.count l.fit l.jobs c.in_ok-b.ensures c.in-None.is ∙ l.invariant.2)

pub loop-b-preserved : goal.loop-b-preserved
loop-b-preserved c = let b = c.in_ok-b.b in
    let l = c.loop-b in
    let kept : c.if-count-lt-MOST_JOBS.jobs ≡ set l.jobs l.count (record { number = b.first; slots = b.second }) =
    elim c.if-count-lt-MOST_JOBS.branch [
      | then-count-lt-MOST_JOBS w ↦ w.jobs-is
      | else-count-lt-MOST_JOBS w ↦ let left = w.if-count-lt-MOST_JOBS.false in w.jobs-is ∙ sym (set_out l.jobs l.count _ (omega arith))
    ] in
    let h = next_inside c.in-Some.next c.in_ok-b.ensures c.in-Some.is in
    rw (kept, c.job_in_limits-fit.ensures) (
      omega arith,
      simp length-set l.invariant.1,
      read_next l.count l.fit l.jobs c.in-Some.next c.in_ok-b.ensures c.in-Some.is ∙ l.invariant.2,
    )
