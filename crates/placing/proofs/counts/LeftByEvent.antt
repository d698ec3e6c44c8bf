-- The counts of the table and the clock that an event leaves.
--
-- In order: the clock moved (`counts_passed`); a call was taken (`counts_taken`).
-- Assumes nothing.
use Prim.Native.Nat.{ℕ, ◌+◌, ◌%◌, ◌≤◌}
use native.Mathlib.Omega.{arith}
use mathlib.Core.Path.{◌≡◌, sym, ◌∙◌, ap, ap₂}
use mathlib.Core.Bool.{Bool, false, ◌||◌, or_comm}
use mathlib.Core.List.{List}
use lib.ListN.{length}
use lib.Dec.{ltb, eqb}
use Rattle.laws.specs.Sums.{count}
use Rattle.laws.specs.method.Capacities.{AtLeast}
use Rattle.laws.proofs.Counts.{count_ext}
use Rattle.station.specs.Head.{Head, Job}
use Rattle.station.specs.declared.types.Job as record-job
use Rattle.placing.specs.Table.{cell, is_used, motors}
use Rattle.placing.specs.State.{State}
use Rattle.placing.specs.Types.{jobs_in}
use Rattle.placing.specs.Outcomes.{Cost, jobs_outside, CallAnswer, call_of}
use Rattle.placing.proofs.UsedNumbers.{number_of, is_one_of, left_is_used, left_job_count}
use Rattle.placing.proofs.ClaimsHold.{call_accepted, call_claim_lem}
use Rattle.placing.specs.declared.counts.Counts.{Counts}
use Rattle.placing.specs.method.Jobs.{marked, job_number}
use Rattle.placing.specs.method.Counts.{CountsOf, slot_free, MarkedBeside}
use Rattle.placing.proofs.counts.usable.UsableCells.{entries_are, entries_of}
use Rattle.placing.proofs.counts.causes.CallCauses.{jobs_length, number_of_lem, inside_number}

-- the clock moved
pub counts_passed : (h : Head) (c d : ℕ) (t : List ℕ) {before after : Counts} → CountsOf h c (cell h t) before → (after.used ≡ before.used) × (after.admitted ≡ before.admitted)
    → (AtLeast before.at_least h.slots (slot_free t h.bridges (motors h) c) → AtLeast after.at_least h.slots (slot_free t h.bridges (motors h) d)) → CountsOf h d (cell h t) after
counts_passed h c d t was kept passed =
    record {
      marks_long = ap length kept.0 ∙ was.marks_long;
      used = λ n l. ap (λ (u : List Bool). marked u n) kept.0 ∙ was.used n l;
      jobs = kept.1 ∙ was.jobs;
      entries = entries_are h d t (passed (entries_of h c t was.entries));
    }

-- a call of the first n jobs was taken
module _ (h : Head) (st : State) (js : List record-job.Job) (long : length js ≡ 8) (n : ℕ) (few : n ≤ 8) (e : jobs_outside (jobs_in n js) ≡ false) where
  abbrev jobs : List Job
  jobs = jobs_in n js

  -- the jobs' numbers are those that the code marks
  numbers_are : (m : ℕ) → is_one_of (length jobs) (number_of jobs) m ≡ ltb 0 (count n (λ i. eqb (job_number js i % 256) m))
  numbers_are m =
      ap (λ (k : ℕ). ltb 0 (count k (λ i. eqb (number_of jobs i) m))) (jobs_length js long n few)
      ∙ ap (λ (k : ℕ). ltb 0 k)
      (count_ext n (λ i. eqb (number_of jobs i) m) (λ i. eqb (job_number js i % 256) m)
      (λ i l.
      let small = inside_number js long n few e i l in
      let same : number_of jobs i ≡ job_number js i % 256 = omega (arith, number_of_lem js long n few i l) in
      ap (λ (k : ℕ). eqb k m) same))

  pub counts_taken : {q : Cost} {before after : Counts} → (call_of h jobs st).answer ≡ CallAnswer.taken q
      → CountsOf h st.clock (cell h st.table) before
      → MarkedBeside (λ i. job_number js i % 256) before.used n after.used
      → after.admitted ≡ before.admitted + n
      → AtLeast after.at_least h.slots (slot_free (call_of h jobs st).after.table h.bridges (motors h) st.clock)
      → CountsOf h st.clock (cell h (call_of h jobs st).after.table) after
  counts_taken {q} taken was beside more x =
      let known = call_accepted h jobs st q taken in
      let u = cell h (call_of h jobs st).after.table in
      let valid = (call_claim_lem h jobs st).valid q taken in
      record {
        marks_long = beside.long;
        used = λ m l.
            beside.which m l
            ∙ ap₂ (λ (a b : Bool). a || b) (sym (numbers_are m)) (was.used m l)
            ∙ or_comm (is_one_of (length jobs) (number_of jobs) m) (is_used h (cell h st.table) m)
            ∙ sym (left_is_used h st.clock jobs (cell h st.table) u known.1 valid known.2 m);
        jobs = omega (arith, more, was.jobs, left_job_count h st.clock jobs (cell h st.table) u known.1 valid known.2, jobs_length js long n few);
        entries = entries_are h st.clock (call_of h jobs st).after.table x;
      }
