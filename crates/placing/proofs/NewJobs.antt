-- Jobs that pass the causes 2, 4 and 9; what the laws about the table before and after a call use of them; their lengths and their numbers.
--
-- In order: `Good` and `Placeable`; the lengths as a list; the numbers that a table uses (`has_job_of`, `number_used_lem`), and that no cell has a job's number before the
-- call (`fresh_cell`, `fresh_number`), so that such jobs are placeable (`placeable_of`); the cells of a number above the clock (`above`): a new job has no others (`new_usable`, `above_new`).
-- Assumes nothing.
use Prim.Native.Nat.{ℕ, ◌+◌, ◌≤◌, ◌<◌}
use native.Mathlib.Nat.{lt_of_not-le}
use native.Mathlib.Omega.{arith}
use mathlib.Core.Path.{◌≡◌, sym, ◌∙◌, ap}
use mathlib.Core.Bool.{true, false, ◌&&◌, ◌||◌}
use mathlib.Core.List.{List}
use lib.ListN.{length, length-map, get_or-map}
use lib.Dec.{eqb}
use Rattle.laws.specs.Lists.{at}
use Rattle.laws.proofs.Tests.{Is, is_true, is_false, is, clash, neither_left, neither_right, or_left, or_right, and_implied}
use Rattle.laws.proofs.Comparisons.{eq_of, ne_of, ltb_yes, eqb_yes}
use Rattle.station.specs.Head.{Head, Job}
use Rattle.placing.specs.Table.{Cells, Each, WellFormed, cells, holding, kind_of, number_in, call_cell, is_mandatory, is_optional, has_preset, has_job}
use Rattle.placing.specs.Table.{is_used, job_count}
use Rattle.placing.specs.Valid.{Change, same, filled, evicted, usable, no_job, job_at}
use Rattle.placing.specs.Call.{lengths}
use Rattle.placing.proofs.CountedCells.{cells_some, cells_ext, call_of_lem}

pub record Good (h : Head) (t : Cells) (jobs : List Job) : Type 0 where
  pub low : (i : ℕ) → i < length jobs → 1 ≤ (job_at jobs i).number
  pub high : (i : ℕ) → i < length jobs → (job_at jobs i).number ≤ 255
  pub fresh : (i : ℕ) → i < length jobs → is_used h t (job_at jobs i).number ≡ false
  pub distinct : (i j : ℕ) → j < i → i < length jobs → (job_at jobs j).number ≡ (job_at jobs i).number → ⊥
  pub few : job_count h t + length jobs ≤ 64

-- Jobs that may be placed on a table above a clock: numbers 1 to 255, all different, no preset's, and in no cell of a slot that a call may use. The other slots are not asked.
pub record Placeable (h : Head) (clock : ℕ) (t : Cells) (jobs : List Job) : Type 0 where
  pub low : (i : ℕ) → i < length jobs → 1 ≤ (job_at jobs i).number
  pub high : (i : ℕ) → i < length jobs → (job_at jobs i).number ≤ 255
  pub distinct : (i j : ℕ) → j < i → i < length jobs → (job_at jobs j).number ≡ (job_at jobs i).number → ⊥
  pub no_preset_lem : (i : ℕ) → i < length jobs → has_preset h (job_at jobs i).number ≡ false
  pub no_cell : (i : ℕ) → i < length jobs → Each h (λ s b. usable clock s ≡ true → number_in (t s b) ≡ (job_at jobs i).number → ⊥)

-- ---- the lengths

pub length_lengths : (jobs : List Job) → length (lengths jobs) ≡ length jobs
length_lengths jobs = length-map jobs (λ (j : Job). j.slots)

pub at_lengths : (jobs : List Job) (i : ℕ) → at (lengths jobs) i ≡ (job_at jobs i).slots
at_lengths jobs i = get_or-map (λ (j : Job). j.slots) jobs i no_job

-- ---- the numbers

-- a call cell's number is a job's
pub has_job_of : (h : Head) (t : Cells) (n : ℕ) → Each h (λ s b. t s b ≡ call_cell n → has_job h t n ≡ true)
has_job_of h t n s b l m e =
    ltb_yes 0 (holding h t (call_cell n)) (cells_some h (λ r a. eqb (t r a) (call_cell n)) s b l m (eqb_yes (t s b) (call_cell n) e))

-- a number that stands in a cell is used
pub number_used_lem : (h : Head) (t : Cells) → WellFormed h t → Each h (λ s b. 1 ≤ number_in (t s b) → is_used h t (number_in (t s b)) ≡ true)
number_used_lem h t wf s b l m low = go (is (is_mandatory v || is_optional v))
  where
    v : ℕ
    v = t s b

    n : ℕ
    n = number_in v

    go : Is (is_mandatory v || is_optional v) → is_used h t n ≡ true
    go (is_true e) = or_left (has_preset h n) (has_job h t n) (wf.presets s b l m e)
    go (is_false e) = or_right (has_preset h n) (has_job h t n) (has_job_of h t n s b l m (call_of_lem v kind))
      where
        kind : kind_of v ≡ 4
        kind =
            let numbered : 1 < kind_of v = lt_of_not-le (λ q. omega (arith, wf.plain s b l m q)) in
            omega (
              arith,
              wf.kinds s b l m,
              ne_of (kind_of v) 2 (neither_left (is_mandatory v) (is_optional v) e),
              ne_of (kind_of v) 3 (neither_right (is_mandatory v) (is_optional v) e),
            )

-- a job's number stands in no call cell before the call
pub fresh_cell : (h : Head) (t : Cells) (jobs : List Job) → Good h t jobs → (i : ℕ) → i < length jobs
    → Each h (λ s b. t s b ≡ call_cell (job_at jobs i).number → ⊥)
fresh_cell h t jobs good i k s b l m e =
    let n : ℕ = (job_at jobs i).number in
    clash (sym (has_job_of h t n s b l m e) ∙ neither_right (has_preset h n) (has_job h t n) (good.fresh i k))

-- and in a well-formed table in no cell at all
pub fresh_number : (h : Head) (t : Cells) (jobs : List Job) → WellFormed h t → Good h t jobs → (i : ℕ) → i < length jobs
    → Each h (λ s b. number_in (t s b) ≡ (job_at jobs i).number → ⊥)
fresh_number h t jobs wf good i k s b l m e =
    clash (sym (number_used_lem h t wf s b l m (omega (arith, good.low i k))) ∙ ap (is_used h t) e ∙ good.fresh i k)

-- new jobs are placeable, whatever the clock
pub placeable_of : (h : Head) (t : Cells) (jobs : List Job) → WellFormed h t → Good h t jobs → (clock : ℕ) → Placeable h clock t jobs
placeable_of h t jobs wf good clock = record {
  low = good.low;
  high = good.high;
  distinct = good.distinct;
  no_preset_lem = λ i k. neither_left (has_preset h (job_at jobs i).number) (has_job h t (job_at jobs i).number) (good.fresh i k);
  no_cell = λ i k s b l m late. fresh_number h t jobs wf good i k s b l m;
}

-- ---- cells above the clock

-- how many of them hold just v
abbrev pub above : Head → ℕ → Cells → ℕ → ℕ
above h clock t v = cells h (λ s b. usable clock s && eqb (t s b) v)

-- what a call changed to v, and was not so before, stands there
changed_usable : (clock : ℕ) (jobs : List Job) (s v w n : ℕ) → Change clock jobs s v w → w ≡ n → (v ≡ n → ⊥) → usable clock s ≡ true
changed_usable clock jobs s v w n (same e) q new = absurd (new (sym e ∙ q))
changed_usable clock jobs s v w n (filled a o j lj e) q new = a
changed_usable clock jobs s v w n (evicted a o e) q new = a

-- so a new job has all its cells there
module _ (h : Head) (clock : ℕ) (jobs : List Job) (t u : Cells) (good : Good h t jobs) (changes : Each h (λ s b. Change clock jobs s (t s b) (u s b))) where
  pub new_usable : (i : ℕ) → i < length jobs → Each h (λ s b. u s b ≡ call_cell (job_at jobs i).number → usable clock s ≡ true)
  new_usable i k s b l m e =
      changed_usable clock jobs s (t s b) (u s b) (call_cell (job_at jobs i).number) (changes s b l m) e (fresh_cell h t jobs good i k s b l m)

  pub above_new : (i : ℕ) → i < length jobs → above h clock u (call_cell (job_at jobs i).number) ≡ holding h u (call_cell (job_at jobs i).number)
  above_new i k =
      let v : ℕ = call_cell (job_at jobs i).number in
      cells_ext h (λ s b. usable clock s && eqb (u s b) v) (λ s b. eqb (u s b) v)
      (λ s b l m. and_implied (usable clock s) (eqb (u s b) v) (λ e. new_usable i k s b l m (eq_of (u s b) v e)))
