-- The causes of a call itself as the code tries them, src/counts/causes.rt: a law for each answer, and what is known where none is met.
--
-- In order: a number that is new (`new-..`); the jobs of a call (`call_jobs_lem`, `jobs_length`, `job_at_lem`), outside their limits or not (`outside_none`, `outside_some`, `inside-..`); their lengths
-- (`lengths_are`); numbers that are new (`jobs_used_lem`); whether they fit (`fit_counted`, `fit_one`); the causes of the jobs, and 7 (`cause-..`).
-- Assumes nothing.
use Prim.Native.Nat.{ℕ, ◌+◌, ◌-◌, ◌%◌, ◌≤◌, ◌<◌}
use native.Mathlib.Omega.{arith}
use mathlib.Core.Path.{◌≡◌, sym, ◌∙◌, ap, ap₂, subst}
use mathlib.Core.Bool.{Bool, true, false, not, ◌&&◌, not-not}
use mathlib.Core.Option.{Option, none, some}
use mathlib.Core.List.{List, [], ◌∷◌, ◌++◌, append-nil}
use lib.ListN.{length, take, get_or, replicate, length-map, length-append, length-replicate, get_or-map}
use lib.Seq.{ext_get_or, get_or-take, length-take-le, take_all}
use lib.Dec.{ltb, leb, eqb}
use Rattle.laws.specs.Sums.{sum, greatest, every}
use Rattle.laws.specs.Lists.{at}
use Rattle.laws.specs.Placement.{capacity, excess}
use Rattle.laws.specs.method.Capacities.{capacity_from, excess_over}
use Rattle.laws.proofs.Tests.{Is, is, is_true, is_false, clash, test_ext, both, left_of, right_of, not_is_true, not_is_false, true_of_not, fails_left, fails_right}
use Rattle.laws.proofs.Comparisons.{lt_of, ge_of, le_of, eq_of, ltb_iff, ltb_yes, ltb_no, leb_yes, leb_no, leb_one, eqb_yes}
use Rattle.laws.proofs.Every.{every_all, every_ext}
use Rattle.laws.proofs.Loops.{sum_none, sum_more}
use Rattle.laws.proofs.Capacities.{capacity_table}
use Rattle.laws.proofs.Largest.{up_to}
use Rattle.station.specs.Head.{Head, Job, within}
use Rattle.station.specs.Refusal.{out_of_limits, number_used, too_many, call_not_feasible, Refusal, try, first_of}
use Rattle.station.proofs.Theorems.{first_of_none, passed, first_none, append_none, append_some}
use Rattle.station.specs.Jobs.{job_in_limits}
use Rattle.station.specs.Types.{job_in}
use Rattle.station.specs.declared.types.Job as record-job
use Rattle.placing.specs.Table.{Cells, is_used, job_count, cleared}
use Rattle.placing.specs.Valid.{no_job, job_at}
use Rattle.placing.specs.Call.{usable_count, lengths, call_short, call_fits, evictable}
use Rattle.placing.proofs.FreeNumber.{free_from_few}
use Rattle.placing.specs.Types.{jobs_in}
use Rattle.placing.specs.Outcomes.{jobs_outside, jobs_used, jobs_too_many, job_causes, call_causes}
use Rattle.placing.proofs.Causes.{met}
use Rattle.placing.proofs.NewJobs.{length_lengths, at_lengths}
use Rattle.placing.proofs.CallByNumbers.{fits_by_room}
use Rattle.placing.specs.Causes.{call_jobs}
use Rattle.placing.specs.method.Jobs.{job_record, job_number, within_at, marked, is_other, job_new}
use Rattle.placing.specs.method.Counts.{Unfinished, FitBeside, CountedFit}
use Rattle.placing.proofs.grants.Arrays.{sums_none, sums_more, sums_all, excess_in}
use Rattle.placing.specs.method.Grants.{Sums, Raised}

-- ---- a number that is new

module _ (used : List Bool) (js : List record-job.Job) (i : ℕ) where
  pub new_marked : marked used (job_number js i) ≡ true → job_new used js i ≡ false
  new_marked q = fails_left (not (marked used (job_number js i))) _ (not_is_false _ q)

  pub new_twice : every i (is_other js (job_number js i)) ≡ false → job_new used js i ≡ false
  new_twice e = fails_right (not (marked used (job_number js i))) _ e

  pub new_job : marked used (job_number js i) ≡ false → every i (is_other js (job_number js i)) ≡ true → job_new used js i ≡ true
  new_job z e =
      both (not (marked used (job_number js i))) _ (not_is_true _ z) e

-- ---- the jobs of a call

module _ (js : List record-job.Job) (long : length js ≡ 8) (n : ℕ) where
  pub call_jobs_lem : n ≤ 8 → call_jobs n js ≡ jobs_in n js
  unfolding call_jobs
  call_jobs_lem few =
      let none_more : n - 8 ≡ 0 = omega arith in
      ap (λ (k : ℕ). jobs_in n js ++ replicate k no_job) none_more ∙ append-nil (jobs_in n js)

  -- a ninth job
  call_jobs_many : 8 < n → jobs_outside (call_jobs n js) ≡ true
  unfolding call_jobs
  call_jobs_many l =
      let jobs : List Job = jobs_in n js ++ replicate (n - 8) no_job in
      let count : length jobs ≡ n =
      omega (
        arith,
        length-append (jobs_in n js) (replicate (n - 8) no_job),
        length-replicate (n - 8) no_job,
        length-map (take n js) job_in,
        ap length (take_all n js (omega (arith, long))),
        long,
      ) in
      not_is_true _ (fails_left (within 1 8 (length jobs)) _ (fails_right (leb 1 (length jobs)) (leb (length jobs) 8) (leb_no (length jobs) 8 (omega (arith, count)))))

  few_jobs_lem : jobs_outside (call_jobs n js) ≡ false → n ≤ 8
  few_jobs_lem e = go (is (ltb 8 n))
    where
      go : Is (ltb 8 n) → n ≤ 8
      go (is_true p) = absurd (clash (sym (call_jobs_many (lt_of 8 n p)) ∙ e))
      go (is_false p) = ge_of 8 n p

module _ (js : List record-job.Job) (long : length js ≡ 8) (n : ℕ) (few : n ≤ 8) where
  pub jobs_length : length (jobs_in n js) ≡ n
  jobs_length = length-map (take n js) job_in ∙ length-take-le n js (omega (arith, long))

  pub job_at_lem : (i : ℕ) → i < n → job_at (jobs_in n js) i ≡ job_in (job_record js i)
  job_at_lem i l =
      get_or-map job_in (take n js) i (record { number = 0; slots = 0 }) ∙ ap job_in (get_or-take n js i (record { number = 0; slots = 0 }) l)

  pub number_of_lem : (i : ℕ) → i < n → (job_at (jobs_in n js) i).number ≡ job_number js i
  number_of_lem i l = ap (λ (j : Job). j.number) (job_at_lem i l)

  -- ---- outside their limits, or not

  outside_is : jobs_outside (jobs_in n js) ≡ not (within 1 8 n && every n (within_at js))
  outside_is =
      ap₂ (λ (k : ℕ) (b : Bool). not (within 1 8 k && b)) jobs_length
      (ap (λ (k : ℕ). every k (λ i. job_in_limits (job_at (jobs_in n js) i))) jobs_length
      ∙ every_ext n (λ i. job_in_limits (job_at (jobs_in n js) i)) (within_at js) (λ i l. ap job_in_limits (job_at_lem i l)))

  pub outside_none : n ≡ 0 → jobs_outside (jobs_in n js) ≡ true
  outside_none z =
      outside_is
      ∙ not_is_true (within 1 8 n && every n (within_at js))
      (fails_left (within 1 8 n) (every n (within_at js)) (fails_left (leb 1 n) (leb n 8) (leb_no 1 n (omega arith))))

  -- where there is a job
  pub outside_some : 1 ≤ n → jobs_outside (jobs_in n js) ≡ not (every n (within_at js))
  outside_some l =
      outside_is
      ∙ ap (λ (b : Bool). not (b && every n (within_at js))) (both (leb 1 n) (leb n 8) (leb_yes 1 n l) (leb_yes n 8 few))

  module _ (e : jobs_outside (jobs_in n js) ≡ false) where
    inside_at : (i : ℕ) → i < n → within_at js i ≡ true
    inside_at i l =
        every_all n (within_at js)
        (right_of (within 1 8 n) (every n (within_at js)) (true_of_not (within 1 8 n && every n (within_at js)) (sym outside_is ∙ e))) i l

    pub inside_number : (i : ℕ) → i < n → job_number js i < 256
    inside_number i l =
        let low = left_of (within 1 255 (job_number js i)) (within 1 64 (job_record js i).slots) (inside_at i l) in
        omega (arith, le_of (job_number js i) 255 (right_of (leb 1 (job_number js i)) (leb (job_number js i) 255) low))

    inside_length : (i : ℕ) → i < n → (job_record js i).slots ≤ 64
    inside_length i l =
        let low = right_of (within 1 255 (job_number js i)) (within 1 64 (job_record js i).slots) (inside_at i l) in
        le_of (job_record js i).slots 64 (right_of (leb 1 (job_record js i).slots) (leb (job_record js i).slots 64) low)

    pub inside_slots : (i : ℕ) → i < n → (job_record js i).slots < 256
    inside_slots i l = omega (arith, inside_length i l)

    -- ---- their lengths: the low byte is all of a length

    pub lengths_are : (needs : List ℕ) → length needs ≡ 64 → ((i : ℕ) → i < 8 → get_or needs i 0 ≡ (job_record js i).slots % 256) → lengths (jobs_in n js) ≡ take n needs
    lengths_are needs size h =
        ext_get_or 0 (lengths (jobs_in n js)) (take n needs) (many ∙ sym (length-take-le n needs (omega (arith, size, few))))
        (λ i l.
        let k : i < n = omega (arith, many) in
        get_or-map (λ (j : Job). j.slots) (jobs_in n js) i no_job
        ∙ ap (λ (j : Job). j.slots) (job_at_lem i k)
        ∙ sym (get_or-take n needs i 0 k ∙ h i (omega (arith, few)) ∙ (let small = inside_slots i k in omega arith)))
      where
        many : length (lengths (jobs_in n js)) ≡ n
        many = length-map (jobs_in n js) (λ (j : Job). j.slots) ∙ jobs_length

    -- none is above the longest job
    pub needs_low : (needs : List ℕ) → lengths (jobs_in n js) ≡ take n needs → (i : ℕ) → i < n → at needs i ≤ 64
    needs_low needs same i l =
        let own : at needs i ≡ (job_record js i).slots =
        sym (get_or-take n needs i 0 l) ∙ ap (λ (c : List ℕ). at c i) (sym same) ∙ at_lengths (jobs_in n js) i ∙ ap (λ (j : Job). j.slots) (job_at_lem i l) in
        omega (arith, own, inside_length i l)

    -- ---- numbers that are new

    module _ (h : Head) (t : Cells) (used : List Bool) (right : (m : ℕ) → m < 256 → marked used m ≡ is_used h t m) where
      new_is : (i : ℕ) → i < n
          → (not (is_used h t (job_at (jobs_in n js) i).number) && every i (λ j. not (eqb (job_at (jobs_in n js) j).number (job_at (jobs_in n js) i).number)))
          ≡ job_new used js i
      new_is i l =
          let v = job_number js i in
          ap (λ (k : ℕ). not (is_used h t k) && every i (λ j. not (eqb (job_at (jobs_in n js) j).number k))) (number_of_lem i l)
          ∙ ap₂ (λ (a b : Bool). not a && b) (sym (right v (inside_number i l)))
          (every_ext i (λ j. not (eqb (job_at (jobs_in n js) j).number v)) (is_other js v) (λ j m. ap (λ (k : ℕ). not (eqb k v)) (number_of_lem j (omega arith))))

      jobs_used_lem : jobs_used h t (jobs_in n js) ≡ not (every n (job_new used js))
      jobs_used_lem =
          ap not
          (ap
          (λ (k : ℕ). every k (λ i. not (is_used h t (job_at (jobs_in n js) i).number)
          && every i (λ j. not (eqb (job_at (jobs_in n js) j).number (job_at (jobs_in n js) i).number))))
          jobs_length
          ∙ every_ext n _ (job_new used js) new_is)

-- ---- whether the jobs fit

-- with the first i jobs, what is unfinished has the sums `all` and the total `together`
module _ (jobs : List Job) (sums : List ℕ) (total : ℕ) where
  abbrev pub Beside : ℕ → List ℕ → ℕ → Type 0
  Beside i all together =
      (k : ℕ) (c : ℕ → ℕ) → Unfinished k c jobs sums total → Sums (k + length jobs) (up_to c (k + i)) all × (together ≡ sum (k + i) c)

  pub beside_none : (i : ℕ) → i ≡ 0 → Beside i sums total
  beside_none i z k c u =
      let e : k ≡ k + i = omega arith in
      (subst (λ (m : ℕ). Sums (k + length jobs) (up_to c m) sums) e u.largest, u.all ∙ ap (λ (m : ℕ). sum m c) e)

  pub beside_more : (i need : ℕ) (all now : List ℕ) {together next : ℕ} → i < length jobs → need ≡ (job_at jobs i).slots → Beside i all together
      → Raised all 0 need now → next ≡ together + need → Beside (i + 1) now next
  beside_more i need all now l e b r m k c u =
      let was = b k c u in
      let same : k + i + 1 ≡ k + (i + 1) = omega arith in
      let own : need ≡ c (k + i) = e ∙ sym (u.others i l) in (
        subst (λ (q : ℕ). Sums (k + length jobs) (up_to c q) now) same (sums_more (k + length jobs) c (k + i) need all now (omega arith) was.0 r own),
        omega (arith, m, was.1, own, sum_more (k + i) c, ap (λ (q : ℕ). sum q c) same),
      )

  pub beside_fits : (i : ℕ) (all xs : List ℕ) {together : ℕ} {short : Bool} → i ≡ length jobs → Beside i all together → short ≡ leb 1 (excess_over (at all) together (capacity_from xs))
      → FitBeside sums total xs jobs (not short)
  beside_fits i all xs {together} e b q k c u n x few known =
      let was = b k c u in
      let same : k + i ≡ k + length jobs = omega arith in
      ap not
      (q
      ∙ ap (leb 1)
      (excess_in (k + length jobs) c n x all together xs few known
      (sums_all (k + length jobs) c all (subst (λ (m : ℕ). Sums (k + length jobs) (up_to c m) all) same was.0))
      (was.1 ∙ ap (λ (m : ℕ). sum m c) same))
      ∙ leb_one (excess (k + length jobs) c n x))
      ∙ not-not (eqb (excess (k + length jobs) c n x) 0)

-- beside nothing that is unfinished
pub fit_counted : (jobs : List Job) (xs : List ℕ) {r : Bool} → FitBeside (replicate 9 0) 0 xs jobs r → CountedFit xs jobs r
fit_counted jobs xs {r} beside h clock t valid formed right =
    is_excess
    ∙ test_ext (eqb over 0) (call_fits h clock jobs t) (λ q. (fits_by_room h clock jobs t valid formed).1 (eq_of over 0 q))
    (λ q. eqb_yes over 0 ((fits_by_room h clock jobs t valid formed).0 q))
  where
    x : ℕ → ℕ
    x = usable_count h clock t

    c : ℕ → ℕ
    c = at (lengths jobs)

    over : ℕ
    over = call_short h jobs (usable_count h clock t)

    few : (s : ℕ) → s < h.slots → x s ≤ 8
    few s l = omega (arith, free_from_few h clock (cleared (evictable h clock t) t) s, valid.bridges_high)

    none_yet : Unfinished 0 c jobs (replicate 9 0) 0
    none_yet =
        record {
          largest = sums_none (0 + length jobs) (at (lengths jobs));
          all = sym (sum_none (at (lengths jobs)));
          others = λ i l. ap (at (lengths jobs)) (let same : 0 + i ≡ i = omega arith in same) ∙ at_lengths jobs i;
        }

    is_excess : r ≡ eqb over 0
    is_excess =
        beside 0 c none_yet h.slots x few right
        ∙ ap (λ (k : ℕ). eqb (excess k (at (lengths jobs)) h.slots (usable_count h clock t)) 0)
        (let same : 0 + length jobs ≡ length (lengths jobs) = omega (arith, length_lengths jobs) in same)

-- one job exceeds the cells by what it is longer than the slots are many that have one
excess_one : (c : ℕ → ℕ) (n : ℕ) (x : ℕ → ℕ) → excess 1 c n x ≡ c 0 - capacity n x 1
unfolding sum greatest
excess_one c n x = rw (ltb_no (c 0) (c 0 + 0) (omega arith)) (omega arith)

pub fit_one : (js : List record-job.Job) → length js ≡ 8 → (n : ℕ) (xs : List ℕ) {v : ℕ} → n ≡ 1 → v ≡ get_or xs 0 0 → CountedFit xs (jobs_in n js) (leb (job_record js 0).slots v)
fit_one js long n xs {v} one first h clock t valid formed right =
    test_ext (leb c v) (call_fits h clock jobs t)
    (λ q. (fits_by_room h clock jobs t valid formed).1 (omega (arith, is_excess, le_of c v q)))
    (λ q. leb_yes c v (omega (arith, is_excess, (fits_by_room h clock jobs t valid formed).0 q)))
  where
    jobs : List Job
    jobs = jobs_in n js

    c : ℕ
    c = (job_record js 0).slots

    -- the capacity for one is the first entry
    for_one : capacity h.slots (usable_count h clock t) 1 ≡ v
    for_one = sym (capacity_table right 1 (omega arith)) ∙ omega (arith, sum_more 0 (at xs), sum_none (at xs), first)

    is_excess : call_short h jobs (usable_count h clock t) ≡ c - v
    is_excess =
        ap (λ (k : ℕ). excess k (at (lengths jobs)) h.slots (usable_count h clock t)) (length_lengths jobs ∙ jobs_length js long n (omega arith) ∙ one)
        ∙ excess_one (at (lengths jobs)) h.slots (usable_count h clock t)
        ∙ ap₂ (λ (a b : ℕ). a - b) (at_lengths jobs 0 ∙ ap (λ (j : Job). j.slots) (job_at_lem js long n (omega arith) 0 (omega arith))) for_one

-- ---- the causes of the jobs

module _ (js : List record-job.Job) (long : length js ≡ 8) (n : ℕ) (h : Head) (t : Cells) where
  pub cause_many : 8 < n → some out_of_limits ≡ first_of (job_causes h (call_jobs n js) t)
  cause_many l = sym (met out_of_limits (jobs_outside (call_jobs n js)) _ (call_jobs_many js long n l))

  module _ (few : n ≤ 8) where
    same_causes : first_of (job_causes h (jobs_in n js) t) ≡ first_of (job_causes h (call_jobs n js) t)
    same_causes = ap (λ (jobs : List Job). first_of (job_causes h jobs t)) (sym (call_jobs_lem js long n few))

    pub cause_outside : jobs_outside (jobs_in n js) ≡ true → some out_of_limits ≡ first_of (job_causes h (call_jobs n js) t)
    cause_outside e = sym (met out_of_limits (jobs_outside (jobs_in n js)) _ e) ∙ same_causes

    module _ (e : jobs_outside (jobs_in n js) ≡ false) (marks : List Bool) {held : ℕ} (right : (m : ℕ) → m < 256 → marked marks m ≡ is_used h t m)
        (many : held ≡ job_count h t) where
      used : jobs_used h t (jobs_in n js) ≡ not (every n (job_new marks js))
      used = jobs_used_lem js long n few e h t marks right

      -- n more jobs beside those of the table
      over : jobs_too_many h t (jobs_in n js) ≡ ltb (64 - n) held
      over =
          ltb_iff 64 (job_count h t + length (jobs_in n js)) (64 - n) held (λ l. omega (arith, l, many, jobs_length js long n few))
          (λ l. omega (arith, l, many, jobs_length js long n few))

      pub cause_used : not (every n (job_new marks js)) ≡ true → some number_used ≡ first_of (job_causes h (call_jobs n js) t)
      cause_used u =
          sym (passed out_of_limits (jobs_outside (jobs_in n js)) _ e ∙ met number_used (jobs_used h t (jobs_in n js)) _ (used ∙ u)) ∙ same_causes

      module _ (u : not (every n (job_new marks js)) ≡ false) where
        pub cause_over : 64 - n < held → some too_many ≡ first_of (job_causes h (call_jobs n js) t)
        cause_over m =
            sym (passed out_of_limits (jobs_outside (jobs_in n js)) _ e
            ∙ passed number_used (jobs_used h t (jobs_in n js)) _ (used ∙ u)
            ∙ met too_many (jobs_too_many h t (jobs_in n js)) _ (over ∙ ltb_yes (64 - n) held m))
            ∙ same_causes

        pub cause_none : held ≤ 64 - n → none ≡ first_of (job_causes h (call_jobs n js) t)
        cause_none m =
            sym (passed out_of_limits (jobs_outside (jobs_in n js)) _ e
            ∙ passed number_used (jobs_used h t (jobs_in n js)) _ (used ∙ u)
            ∙ passed too_many (jobs_too_many h t (jobs_in n js)) _ (over ∙ ltb_no (64 - n) held m)
            ∙ first_of_none)
            ∙ same_causes

-- ---- and 7

abbrev try_seven : Head → ℕ → List Job → Cells → List (Option Refusal)
try_seven h clock jobs t = try call_not_feasible (not (call_fits h clock jobs t)) ∷ []

pub cause_own : (h : Head) (clock : ℕ) (jobs : List Job) (t : Cells) (r : Refusal) → some r ≡ first_of (job_causes h jobs t) → some r ≡ first_of (call_causes h clock jobs t)
cause_own h clock jobs t r e = sym (append_some (job_causes h jobs t) (try_seven h clock jobs t) r (sym e))

module _ (js : List record-job.Job) (long : length js ≡ 8) (n : ℕ) (h : Head) (clock : ℕ) (t : Cells) where
  -- what is known where none is met
  pub cause_known : first_of (call_causes h clock (call_jobs n js) t) ≡ none → (n ≤ 8) × (jobs_outside (jobs_in n js) ≡ false)
  cause_known e =
      let two = (first_none out_of_limits (jobs_outside (call_jobs n js)) _ e).0 in
      let few = few_jobs_lem js long n two in
      (few, ap jobs_outside (sym (call_jobs_lem js long n few)) ∙ two)

  module _ (own : none ≡ first_of (job_causes h (call_jobs n js) t)) (few : n ≤ 8) where
    same_fit : call_fits h clock (call_jobs n js) t ≡ call_fits h clock (jobs_in n js) t
    same_fit = ap (λ (jobs : List Job). call_fits h clock jobs t) (call_jobs_lem js long n few)

    first_three : first_of (call_causes h clock (call_jobs n js) t) ≡ first_of (try_seven h clock (call_jobs n js) t)
    first_three = append_none (job_causes h (call_jobs n js) t) (try_seven h clock (call_jobs n js) t) (sym own)

    pub cause_seven : call_fits h clock (jobs_in n js) t ≡ false → some call_not_feasible ≡ first_of (call_causes h clock (call_jobs n js) t)
    cause_seven f = sym (first_three ∙ met call_not_feasible (not (call_fits h clock (call_jobs n js) t)) [] (not_is_true _ (same_fit ∙ f)))

    pub cause_passed : call_fits h clock (jobs_in n js) t ≡ true → none ≡ first_of (call_causes h clock (call_jobs n js) t)
    cause_passed f =
        sym (first_three ∙ passed call_not_feasible (not (call_fits h clock (call_jobs n js) t)) [] (not_is_false _ (same_fit ∙ f)) ∙ first_of_none)
