-- The causes tried on a running frame and on a call, read off as facts: what holds where none of them does, and back.
--
-- In order: a cause that holds (`met`); 8 and the head record's 2 (`long_and_valid`, `no_record_cause`); with 11 (`running_of`, `of_running`); 2, 4 and 9 of a call
-- (`jobs_inside`, `good_of`).
-- Assumes nothing.
use Prim.Native.Nat.{ℕ, ◌+◌, ◌≤◌, ◌<◌}
use mathlib.Core.Path.{◌≡◌, ◌∙◌, sym}
use mathlib.Core.Bool.{Bool, true, false, not, ◌&&◌}
use mathlib.Core.Option.{none, some, Option}
use mathlib.Core.List.{List, [], ◌∷◌}
use lib.ListN.{length}
use lib.Dec.{ltb, eqb}
use Rattle.laws.specs.Sums.{every}
use Rattle.laws.proofs.Tests.{left_of, right_of, false_of_not, true_of_not, not_is_false}
use Rattle.laws.proofs.Comparisons.{ge_of, ne_of, ltb_no}
use Rattle.laws.proofs.Every.{every_all}
use Rattle.station.specs.Head.{Head, Job, valid, within, Valid}
use Rattle.station.specs.Refusal.{too_short, out_of_limits, not_well_formed, number_used, too_many, first_of, Refusal, try}
use Rattle.station.proofs.Theorems.{first_of_none, passed, first_none, append_none, append_left_none}
use Rattle.station.proofs.Theorems.{within_low, within_high, valid_of, of_valid}
use Rattle.placing.specs.Table.{Cells, is_used, job_count}
use Rattle.placing.specs.State.{State, well_formed_frame}
use Rattle.placing.specs.Valid.{job_at}
use Rattle.placing.specs.Outcomes.{frame_causes, job_causes, jobs_outside, jobs_used, jobs_too_many}
use Rattle.placing.specs.Claims.{Running}
use Rattle.placing.proofs.WellFormedFrame.{frame_test}
use Rattle.placing.proofs.NewJobs.{Good}

-- a cause that holds is the first
pub met : (r : Refusal) (b : Bool) (cs : List (Option Refusal)) → b ≡ true → first_of (try r b ∷ cs) ≡ some r
unfolding first_of
met r b cs e = rw e

-- ---- 8 and the head record's 2

abbrev pub record_causes : Head → List ℕ → List (Option Refusal)
record_causes h t = try too_short (ltb (length t) 512) ∷ try out_of_limits (not (valid h)) ∷ []

pub long_and_valid : (h : Head) (t : List ℕ) → first_of (record_causes h t) ≡ none → (512 ≤ length t) × Valid h
long_and_valid h t e =
    let eight = first_none too_short (ltb (length t) 512) _ e in
    let two = first_none out_of_limits (not (valid h)) [] eight.1 in
    (ge_of (length t) 512 eight.0, valid_of h (true_of_not _ two.0))

pub no_record_cause : (h : Head) (t : List ℕ) → 512 ≤ length t → Valid h → first_of (record_causes h t) ≡ none
no_record_cause h t long ok =
    passed too_short (ltb (length t) 512) _ (ltb_no (length t) 512 long)
    ∙ passed out_of_limits (not (valid h)) [] (not_is_false _ (of_valid h ok))
    ∙ first_of_none

-- ---- and 11

abbrev try_eleven : Head → State → List (Option Refusal)
try_eleven h st = try not_well_formed (not (well_formed_frame h st)) ∷ []

pub running_of : (h : Head) (st : State) → first_of (frame_causes h st) ≡ none → Running h st
running_of h st e =
    let before = append_left_none (record_causes h st.table) (try_eleven h st) e in
    let passes = long_and_valid h st.table before in
    let eleven = first_none not_well_formed (not (well_formed_frame h st)) [] (sym (append_none (record_causes h st.table) (try_eleven h st) before) ∙ e) in
    record { long = passes.0; valid = passes.1; well_formed = (frame_test h st).0 (true_of_not _ eleven.0) }

pub of_running : (h : Head) (st : State) → Running h st → first_of (frame_causes h st) ≡ none
of_running h st r =
    append_none (record_causes h st.table) (try_eleven h st) (no_record_cause h st.table r.long r.valid)
    ∙ passed not_well_formed (not (well_formed_frame h st)) [] (not_is_false _ ((frame_test h st).1 r.well_formed))
    ∙ first_of_none

-- ---- 2, 4 and 9 of a call

-- each job within its limits
pub jobs_inside : (jobs : List Job) → jobs_outside jobs ≡ false
    → (1 ≤ length jobs)
    × (length jobs ≤ 8)
    × ((i : ℕ) → i < length jobs → (within 1 255 (job_at jobs i).number ≡ true) × (within 1 64 (job_at jobs i).slots ≡ true))
jobs_inside jobs e =
    let p : Bool = within 1 8 (length jobs) in
    let q : ℕ → Bool = λ i. within 1 255 (job_at jobs i).number && within 1 64 (job_at jobs i).slots in
    let ok : (p && every (length jobs) q) ≡ true = true_of_not _ e in
    let number = left_of p (every (length jobs) q) ok in
    let each = every_all (length jobs) q (right_of p (every (length jobs) q) ok) in (
      within_low 1 8 (length jobs) number,
      within_high 1 8 (length jobs) number,
      λ i l. (
        left_of (within 1 255 (job_at jobs i).number) (within 1 64 (job_at jobs i).slots) (each i l),
        right_of (within 1 255 (job_at jobs i).number) (within 1 64 (job_at jobs i).slots) (each i l),
      ),
    )

pub good_of : (h : Head) (jobs : List Job) (t : Cells) → first_of (job_causes h jobs t) ≡ none → Good h t jobs
good_of h jobs t e =
    let two = first_none out_of_limits (jobs_outside jobs) _ e in
    let four = first_none number_used (jobs_used h t jobs) _ two.1 in
    let nine = first_none too_many (jobs_too_many h t jobs) [] four.1 in
    let inside = jobs_inside jobs two.0 in
    let fresh : ℕ → Bool = λ i. not (is_used h t (job_at jobs i).number) in
    let other : ℕ → ℕ → Bool = λ i j. not (eqb (job_at jobs j).number (job_at jobs i).number) in
    let each = every_all (length jobs) (λ i. fresh i && every i (other i)) (true_of_not _ four.0) in
    record {
      low = λ i l. within_low 1 255 (job_at jobs i).number (inside.2 i l).0;
      high = λ i l. within_high 1 255 (job_at jobs i).number (inside.2 i l).0;
      fresh = λ i l. false_of_not (is_used h t (job_at jobs i).number) (left_of (fresh i) (every i (other i)) (each i l));
      distinct = λ i j m l.
          ne_of (job_at jobs j).number (job_at jobs i).number
          (false_of_not (eqb (job_at jobs j).number (job_at jobs i).number)
          (every_all i (other i) (right_of (fresh i) (every i (other i)) (each i l)) j m));
      few = ge_of 64 (job_count h t + length jobs) nine.0;
    }
