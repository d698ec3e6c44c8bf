-- The table that an accepted call leaves is valid for the call.
--
-- In order: what one change keeps and makes (`change_keeps`, `change_kept`, `change_call`, `change_gone`); how many jobs have a number. Then any table whose cells
-- changed so: its busy and mandatory cells (`changed_keeps_fixed`, `changed_kept_fixed`), optional cells (`changed_optional`,
-- `changed_optional_count`), call cells (`changed_call`, `changed_new_call`, `changed_other_calls`, `changed_job_count`), and that it is
-- well-formed (`changed_well_formed`). Then the table of the rule, `called`, whatever the order of ties: its changes (`called_changes`), what a set of lost cells frees (`set_frees`), the free cells
-- (`call_free_count_lem`) and that the jobs are placed there (`called_placed`), no more than are free (`called_within`) and fed (`called_supplied`), the cells of a job (`called_in_slot`, `called_above`), the cells it loses (`called_lost`,
-- `called_count`, `called_upto`), and that it is well-formed and valid (`called_well_formed`, `called_exact`, `called_valid`); who has a cell in each slot (`called_rule`).
-- That no valid table loses fewer cells is not here.
-- Assumes nothing.
use Prim.Native.Nat.{ℕ, ◌+◌, ◌≤◌, ◌<◌}
use native.Mathlib.Omega.{arith}
use mathlib.Core.Path.{◌≡◌, refl, sym, ◌∙◌, ap}
use mathlib.Core.Logic.{◌⊎◌, inl, inr}
use mathlib.Core.Bool.{Bool, true, false, not, ◌&&◌, ◌||◌, and-true}
use mathlib.Core.List.{List}
use lib.ListN.{length, length-map}
use lib.Dec.{ltb, leb, eqb}
use Rattle.laws.specs.Sums.{bit, only, sum, count}
use Rattle.laws.specs.Lists.{at}
use Rattle.laws.specs.Placement.{Placed, everywhere, Ties, TotalTies, nobody, lrtf}
use Rattle.laws.specs.Eviction.{added, ones}
use Rattle.laws.proofs.Tests.{Is, is_true, is_false, is, clash, not-true, test_ext, left_of, right_of, or_left, or_right, or_cases, and_implied, both, not_is_true, false_of_not, neither_right}
use Rattle.laws.proofs.Comparisons.{lt_of, ge_of, eq_of, eqb_self, eqb_yes, eqb_no}
use Rattle.laws.proofs.Every.{injective_below}
use Rattle.laws.proofs.Sums.{sum_ext, sum_le, sum_add, sum_const, sum_swap, sum_two}
use Rattle.laws.proofs.Counts.{bit_le, count_ext, count_imp, count_none, count_some, count_eqb_le}
use Rattle.laws.proofs.Placement.{lrtf_step, shown_rule}
use Rattle.laws.proofs.Eviction.{searched_long}
use Rattle.station.specs.Head.{Head, Job, Valid}
use Rattle.placing.specs.Table.{Cells, Each, WellFormed, cells, holding, kind_of, number_in, mandatory_cell, optional_cell, call_cell, is_empty}
use Rattle.placing.specs.Table.{is_busy, is_mandatory, is_optional, is_call, is_held, number_at, has_preset, has_job, job_count, held_cells, motors, free_number, cleared}
use Rattle.placing.specs.Valid.{Change, same, filled, evicted, ValidCall, usable, job_at, lost, lost_up_to, optional_count, priority_of}
use Rattle.placing.specs.Plan.{placing}
use Rattle.placing.specs.Call.{CellPlace, eviction_order, slots_of, in_set, empty_free, free_number_from, lengths, call_short, evicted_set, call_fits, call_free, call_free_count, is_evictable}
use Rattle.placing.specs.Call.{called}
use Rattle.placing.specs.Claims.{Frees, cells_of_job, JobsRule}
use Rattle.placing.proofs.CountedCells.{cells_pos, cells_ext, cells_imp, cells_split, kind_of_call, is_optional_call, evictable_optional}
use Rattle.placing.proofs.CountedCells.{lost_was, lost_now, is_lost, number_at_lt}
use Rattle.placing.proofs.NewJobs.{Good, Placeable, placeable_of, above, above_new, new_usable, length_lengths, at_lengths, has_job_of}
use Rattle.placing.proofs.CallShort.{call_shortage, rule_placed}
use Rattle.placing.proofs.FreeNumber.{cleared_held, freed_from, from_ext, unevicted, call_free_least, call_free_motors}
use Rattle.placing.proofs.Placing.{PlacedCell, kept, unused, written, placing_cases, placing_count, placing_job}
use Rattle.placing.proofs.EvictionOrder.{in_set_evictable, set_size, set_in_slot}

-- ---- one change

-- a job of the call fills what was empty or optional, in a slot above the clock
abbrev pub JobFills : ℕ → List Job → ℕ → ℕ → ℕ → Type 0
JobFills clock jobs s v w =
    (i : ℕ) × (i < length jobs) × (w ≡ call_cell (job_at jobs i).number) × (usable clock s ≡ true) × ((is_empty v || is_optional v) ≡ true)

-- the kinds of what a call may fill
free_kind : (v : ℕ) → (is_empty v || is_optional v) ≡ true → (kind_of v ≡ 0) ⊎ (kind_of v ≡ 3)
free_kind v e = go (or_cases (is_empty v) (is_optional v) e)
  where
    go : (is_empty v ≡ true) ⊎ (is_optional v ≡ true) → (kind_of v ≡ 0) ⊎ (kind_of v ≡ 3)
    go (inl p) = inl (ap kind_of (eq_of v 0 p))
    go (inr p) = inr (eq_of (kind_of v) 3 p)

module _ (clock : ℕ) (jobs : List Job) (s v w : ℕ) where
  -- what is neither empty nor optional stays
  pub change_keeps : Change clock jobs s v w → (kind_of v ≡ 0 → ⊥) → (kind_of v ≡ 3 → ⊥) → w ≡ v
  change_keeps (same e) a b = e
  change_keeps (filled x y i l e) a b = go (free_kind v y)
    where
      go : (kind_of v ≡ 0) ⊎ (kind_of v ≡ 3) → w ≡ v
      go (inl p) = absurd (a p)
      go (inr p) = absurd (b p)
  change_keeps (evicted x y e) a b = absurd (b (eq_of (kind_of v) 3 y))

  -- and what then is neither empty nor a call cell was there
  pub change_kept : ((i : ℕ) → i < length jobs → (job_at jobs i).number ≤ 255)
      → Change clock jobs s v w → (kind_of w ≡ 0 → ⊥) → (kind_of w ≡ 4 → ⊥) → w ≡ v
  change_kept high (same e) a b = e
  change_kept high (filled x y i l e) a b =
      absurd (b (ap kind_of e ∙ kind_of_call (job_at jobs i).number (omega (arith, high i l))))
  change_kept high (evicted x y e) a b = absurd (a (ap kind_of e))

  -- a call cell was there, or a job of the call fills it in a slot above the clock
  pub change_call : Change clock jobs s v w → (kind_of w ≡ 0 → ⊥) → (w ≡ v) ⊎ JobFills clock jobs s v w
  change_call (same e) a = inl e
  change_call (filled x y i l e) a = inr (i, l, e, x, y)
  change_call (evicted x y e) a = absurd (a (ap kind_of e))

  -- in a slot up to the clock nothing changes
  pub change_gone : Change clock jobs s v w → usable clock s ≡ false → w ≡ v
  change_gone (same e) n = e
  change_gone (filled x y i l e) n = absurd (clash (sym x ∙ n))
  change_gone (evicted x y e) n = absurd (clash (sym x ∙ n))

-- the kinds of what no call may touch
fixed_kind : (v : ℕ) → (is_busy v || is_mandatory v) ≡ true → (1 ≤ kind_of v) × (kind_of v ≤ 2)
fixed_kind v e = go (or_cases (is_busy v) (is_mandatory v) e)
  where
    go : (is_busy v ≡ true) ⊎ (is_mandatory v ≡ true) → (1 ≤ kind_of v) × (kind_of v ≤ 2)
    go (inl p) = let q : v ≡ 256 = eq_of v 256 p in (omega arith, omega arith)
    go (inr p) = let q : kind_of v ≡ 2 = eq_of (kind_of v) 2 p in (omega arith, omega arith)

-- of two cases the one that is left
second_of : {A B : Type 0} → A ⊎ B → (A → ⊥) → B
second_of (inl a) n = absurd (n a)
second_of (inr b) n = b

-- ---- the jobs' numbers

-- how many jobs have the number
abbrev jobs_with : List Job → ℕ → ℕ
jobs_with jobs n = count (length jobs) (λ i. eqb n (job_at jobs i).number)

-- each job has one number
jobs_with_sum : (jobs : List Job) (k : ℕ) → sum k (λ n. jobs_with jobs n) ≤ length jobs
jobs_with_sum jobs k =
    omega (
      arith,
      sum_swap k (length jobs) (λ n i. bit (eqb n (job_at jobs i).number)),
      sum_le (length jobs) (λ i. count k (λ n. eqb n (job_at jobs i).number)) (λ i. 1) (λ i l. count_eqb_le k (job_at jobs i).number),
      sum_const (length jobs) 1,
    )

-- ---- a table whose cells changed so

-- each job of the call has at most one cell in a slot that the call may use
abbrev pub OnceInSlot : Head → ℕ → List Job → Cells → Type 0
OnceInSlot h clock jobs u =
    (i : ℕ) → i < length jobs → (s : ℕ) → s < h.slots → usable clock s ≡ true → count h.bridges (λ b. eqb (u s b) (call_cell (job_at jobs i).number)) ≤ 1

-- every cell of the frame changed as a call may change it
abbrev pub Changes : Head → ℕ → List Job → Cells → Cells → Type 0
Changes h clock jobs t u = Each h (λ s b. Change clock jobs s (t s b) (u s b))

module _ (h : Head) (clock : ℕ) (jobs : List Job) (t u : Cells) (high : (i : ℕ) → i < length jobs → (job_at jobs i).number ≤ 255) (changes : Changes h clock jobs t u) where
  -- what is neither empty nor optional stays, and what then is neither empty nor a call cell was there
  keeps : (s b : ℕ) → s < h.slots → b < h.bridges → (kind_of (t s b) ≡ 0 → ⊥) → (kind_of (t s b) ≡ 3 → ⊥) → u s b ≡ t s b
  keeps s b l m = change_keeps clock jobs s (t s b) (u s b) (changes s b l m)

  was : (s b : ℕ) → s < h.slots → b < h.bridges → (kind_of (u s b) ≡ 0 → ⊥) → (kind_of (u s b) ≡ 4 → ⊥) → u s b ≡ t s b
  was s b l m = change_kept clock jobs s (t s b) (u s b) high (changes s b l m)

  -- busy and mandatory cells are where they were, both ways
  pub changed_keeps_fixed : Each h (λ s b. (is_busy (t s b) || is_mandatory (t s b)) ≡ true → u s b ≡ t s b)
  changed_keeps_fixed s b l m e =
      let k = fixed_kind (t s b) e in
      keeps s b l m (λ q. omega arith) (λ q. omega arith)

  pub changed_kept_fixed : Each h (λ s b. (is_busy (u s b) || is_mandatory (u s b)) ≡ true → u s b ≡ t s b)
  changed_kept_fixed s b l m e =
      let k = fixed_kind (u s b) e in
      was s b l m (λ q. omega arith) (λ q. omega arith)

  -- an optional cell was there, and a call cell stays
  pub changed_optional : Each h (λ s b. is_optional (u s b) ≡ true → u s b ≡ t s b)
  changed_optional s b l m e =
      let k : kind_of (u s b) ≡ 3 = eq_of (kind_of (u s b)) 3 e in
      was s b l m (λ q. omega arith) (λ q. omega arith)

  pub changed_call : Each h (λ s b. is_call (t s b) ≡ true → u s b ≡ t s b)
  changed_call s b l m e =
      let k : kind_of (t s b) ≡ 4 = eq_of (kind_of (t s b)) 4 e in
      keeps s b l m (λ q. omega arith) (λ q. omega arith)

  -- a call cell that was not there is a job's, in a slot above the clock
  pub changed_new_call : Each h (λ s b. is_call (u s b) ≡ true → (u s b ≡ t s b → ⊥) → JobFills clock jobs s (t s b) (u s b))
  changed_new_call s b l m e ne =
      let k : kind_of (u s b) ≡ 4 = eq_of (kind_of (u s b)) 4 e in
      second_of (change_call clock jobs s (t s b) (u s b) (changes s b l m) (λ q. omega arith)) ne

  -- a cell that is kept if it held v, and if it holds v, holds v exactly if it did
  hold_same : (v : ℕ) → Each h (λ s b. (t s b ≡ v → u s b ≡ t s b) → (u s b ≡ v → u s b ≡ t s b) → eqb (u s b) v ≡ eqb (t s b) v)
  hold_same v s b l m f g =
      test_ext (eqb (u s b) v) (eqb (t s b) v)
      (λ e. let q : u s b ≡ v = eq_of (u s b) v e in eqb_yes (t s b) v (sym (g q) ∙ q))
      (λ e. let q : t s b ≡ v = eq_of (t s b) v e in eqb_yes (u s b) v (f q ∙ q))

  pub changed_mandatory : (n : ℕ) → n < 256 → holding h u (mandatory_cell n) ≡ holding h t (mandatory_cell n)
  changed_mandatory n lt =
      cells_ext h (λ s b. eqb (u s b) (mandatory_cell n)) (λ s b. eqb (t s b) (mandatory_cell n))
      (λ s b l m. hold_same (mandatory_cell n) s b l m
      (λ e. keeps s b l m (λ q. omega arith) (λ q. omega arith))
      (λ e. was s b l m (λ q. omega arith) (λ q. omega arith)))

  pub changed_optional_le : (n : ℕ) → n < 256 → holding h u (optional_cell n) ≤ holding h t (optional_cell n)
  changed_optional_le n lt =
      cells_imp h (λ s b. eqb (u s b) (optional_cell n)) (λ s b. eqb (t s b) (optional_cell n))
      (λ s b l m e.
      let q : u s b ≡ optional_cell n = eq_of (u s b) (optional_cell n) e in
      eqb_yes (t s b) (optional_cell n) (sym (was s b l m (λ r. omega arith) (λ r. omega arith)) ∙ q))

  -- the optional cells before are those after and the lost ones
  pub changed_optional_count : optional_count h t ≡ optional_count h u + cells h (λ s b. lost t u s b)
  changed_optional_count =
      cells_split h (λ s b. is_optional (t s b)) (λ s b. is_optional (u s b))
      ∙ ap (λ (k : ℕ). k + cells h (λ s b. lost t u s b))
      (cells_ext h (λ s b. is_optional (t s b) && is_optional (u s b)) (λ s b. is_optional (u s b))
      (λ s b l m. and_implied (is_optional (t s b)) (is_optional (u s b)) (λ e. ap is_optional (sym (changed_optional s b l m e)) ∙ e)))

  -- the call cells of a number that is no job's are those before
  pub changed_other_calls : (n : ℕ) → ((i : ℕ) → i < length jobs → (job_at jobs i).number ≡ n → ⊥) → holding h u (call_cell n) ≡ holding h t (call_cell n)
  changed_other_calls n none =
      cells_ext h (λ s b. eqb (u s b) (call_cell n)) (λ s b. eqb (t s b) (call_cell n))
      (λ s b l m. hold_same (call_cell n) s b l m
      (λ e. keeps s b l m (λ q. omega arith) (λ q. omega arith))
      (λ e. old s b e (change_call clock jobs s (t s b) (u s b) (changes s b l m) (λ q. omega arith))))
    where
      old : (s b : ℕ) → u s b ≡ call_cell n → (u s b ≡ t s b) ⊎ JobFills clock jobs s (t s b) (u s b) → u s b ≡ t s b
      old s b e (inl q) = q
      old s b e (inr (i, l, q, x, y)) = absurd (none i l (omega arith))

  -- it has the job numbers that there were, and the jobs' own
  pub changed_job_count : job_count h u ≤ job_count h t + length jobs
  changed_job_count =
      omega (
        arith,
        sum_le 256 (λ n. bit (has_job h u n)) (λ n. bit (has_job h t n) + jobs_with jobs n) (λ n l. each n (is (ltb 0 (jobs_with jobs n)))),
        sum_add 256 (λ n. bit (has_job h t n)) (λ n. jobs_with jobs n),
        jobs_with_sum jobs 256,
      )
    where
      each : (n : ℕ) → Is (ltb 0 (jobs_with jobs n)) → bit (has_job h u n) ≤ bit (has_job h t n) + jobs_with jobs n
      each n (is_true e) = omega (arith, lt_of 0 (jobs_with jobs n) e, bit_le (has_job h u n))
      each n (is_false e) = omega (arith, ap (λ (k : ℕ). bit (ltb 0 k)) (changed_other_calls n none))
        where
          none : (i : ℕ) → i < length jobs → (job_at jobs i).number ≡ n → ⊥
          none i l q =
              let one = count_some (length jobs) (λ j. eqb n (job_at jobs j).number) i l (eqb_yes n (job_at jobs i).number (sym q)) in
              omega (arith, ge_of 0 (jobs_with jobs n) e)

  module _ (can : Placeable h clock t jobs) (valid : Valid h) (wf : WellFormed h t) where
    changed_busy : Each h (λ s b. is_busy (u s b) ≡ is_busy (t s b))
    changed_busy s b l m =
        hold_same 256 s b l m
        (λ e. changed_keeps_fixed s b l m (or_left (is_busy (t s b)) (is_mandatory (t s b)) (eqb_yes (t s b) 256 e)))
        (λ e. changed_kept_fixed s b l m (or_left (is_busy (u s b)) (is_mandatory (u s b)) (eqb_yes (u s b) 256 e)))

    changed_kinds : Each h (λ s b. kind_of (u s b) ≤ 4)
    changed_kinds s b l m = go (changes s b l m)
      where
        go : Change clock jobs s (t s b) (u s b) → kind_of (u s b) ≤ 4
        go (same e) = rw e (wf.kinds s b l m)
        go (filled x y i k e) = omega (arith, high i k)
        go (evicted x y e) = omega arith

    changed_plain : Each h (λ s b. kind_of (u s b) ≤ 1 → number_in (u s b) ≡ 0)
    changed_plain s b l m = go (changes s b l m)
      where
        go : Change clock jobs s (t s b) (u s b) → kind_of (u s b) ≤ 1 → number_in (u s b) ≡ 0
        go (same e) = rw e (wf.plain s b l m)
        go (filled x y i k e) = λ q. absurd (omega (arith, can.low i k))
        go (evicted x y e) = λ q. omega arith

    changed_presets : Each h (λ s b. (is_mandatory (u s b) || is_optional (u s b)) ≡ true → has_preset h (number_in (u s b)) ≡ true)
    changed_presets s b l m e = go (or_cases (is_mandatory (u s b)) (is_optional (u s b)) e)
      where
        held : u s b ≡ t s b → has_preset h (number_in (u s b)) ≡ true
        held q = rw q (wf.presets s b l m (rw q at e))

        go : (is_mandatory (u s b) ≡ true) ⊎ (is_optional (u s b) ≡ true) → has_preset h (number_in (u s b)) ≡ true
        go (inl p) = held (changed_kept_fixed s b l m (or_right (is_busy (u s b)) (is_mandatory (u s b)) p))
        go (inr p) = held (changed_optional s b l m p)

    changed_calls : Each h (λ s b. is_call (u s b) ≡ true → 1 ≤ number_in (u s b))
    changed_calls s b l m e = go (changes s b l m)
      where
        go : Change clock jobs s (t s b) (u s b) → 1 ≤ number_in (u s b)
        go (same q) = rw q (wf.calls s b l m (rw q at e))
        go (filled x y i k q) = omega (arith, can.low i k, high i k)
        go (evicted x y q) = absurd (omega (arith, eq_of (kind_of (u s b)) 4 e))

    changed_apart : (n : ℕ) → n < 256 → has_job h u n ≡ true → has_preset h n ≡ false
    changed_apart n lt e = go (cells_pos h (λ s b. eqb (u s b) (call_cell n)) (lt_of 0 (holding h u (call_cell n)) e))
      where
        go : (s b : ℕ) × (s < h.slots) × (b < h.bridges) × (eqb (u s b) (call_cell n) ≡ true) → has_preset h n ≡ false
        go (s, b, l, m, p) = by (change_call clock jobs s (t s b) (u s b) (changes s b l m) (λ r. omega (arith, q)))
          where
            q : u s b ≡ call_cell n
            q = eq_of (u s b) (call_cell n) p

            by : (u s b ≡ t s b) ⊎ JobFills clock jobs s (t s b) (u s b) → has_preset h n ≡ false
            by (inl r) = wf.apart n lt (has_job_of h t n s b l m (sym r ∙ q))
            by (inr (i, k, r, x, y)) =
                let number : (job_at jobs i).number ≡ n = omega (arith, q) in
                ap (has_preset h) (sym number) ∙ can.no_preset_lem i k

    -- no number stands twice in a slot, if no job does
    changed_once : OnceInSlot h clock jobs u
        → (s a b : ℕ) → s < h.slots → a < b → b < h.bridges → number_in (u s a) ≡ number_in (u s b) → number_in (u s b) ≡ 0
    changed_once single s a b l k m e = go (changes s a l ma) (changes s b l m)
      where
        ma : a < h.bridges
        ma = omega arith

        number : (x : ℕ) → (i : ℕ) → i < length jobs → u s x ≡ call_cell (job_at jobs i).number → number_in (u s x) ≡ (job_at jobs i).number
        number x i li p = omega (arith, high i li)

        go : Change clock jobs s (t s a) (u s a) → Change clock jobs s (t s b) (u s b) → number_in (u s b) ≡ 0
        go (same p) (same q) = ap number_in q ∙ wf.once s a b l k m (ap number_in (sym p) ∙ e ∙ ap number_in q)
        go (filled x y i li p) (same q) =
            absurd (can.no_cell i li s b l m x (ap number_in (sym q) ∙ sym e ∙ number a i li p))
        go (evicted x y p) (same q) = sym e ∙ ap number_in p
        go (same p) (filled x y j lj q) =
            absurd (can.no_cell j lj s a l ma x (ap number_in (sym p) ∙ e ∙ number b j lj q))
        go (filled x y i li p) (filled x' y' j lj q) =
            let n : ℕ = (job_at jobs j).number in
            let pa : u s a ≡ call_cell n = p ∙ ap call_cell (sym (number a i li p) ∙ e ∙ number b j lj q) in
            absurd (omega (
              arith,
              single j lj s l x,
              sum_two h.bridges (λ c. bit (eqb (u s c) (call_cell n))) a b ma m (λ r. omega arith),
              ap bit (eqb_yes (u s a) (call_cell n) pa),
              ap bit (eqb_yes (u s b) (call_cell n) q),
            ))
        go (evicted x y p) (filled x' y' j lj q) = sym e ∙ ap number_in p
        go p (evicted x y q) = ap number_in q

    -- such a table is well-formed, if each job stands at most once in a slot and the supply feeds what is held
    pub changed_well_formed : job_count h u ≤ 64 → OnceInSlot h clock jobs u → ((s : ℕ) → s < h.slots → held_cells h u s ≤ motors h) → WellFormed h u
    changed_well_formed few single fed =
        record {
          kinds = changed_kinds;
          plain = changed_plain;
          busy = λ s b l m. changed_busy s b l m ∙ wf.busy s b l m;
          presets = changed_presets;
          calls = changed_calls;
          once = changed_once single;
          exact = λ i l. changed_mandatory (number_at h i) (number_at_lt h valid i l) ∙ wf.exact i l;
          first = λ i l r s a b lr ls la lb p q.
              let lt : number_at h i < 256 = number_at_lt h valid i l in
              wf.first i l r s a b lr ls la lb
              (sym (was r a lr la (λ x. omega (arith, p)) (λ x. omega (arith, p))) ∙ p)
              (sym (was s b ls lb (λ x. omega (arith, q)) (λ x. omega (arith, q))) ∙ q);
          most = λ i l. omega (arith, changed_optional_le (number_at h i) (number_at_lt h valid i l), wf.most i l);
          jobs = few;
          apart = changed_apart;
          supplied = fed;
        }

-- ---- the table that the call leaves

module _ (h : Head) (clock : ℕ) (jobs : List Job) (t : Cells) where
  -- the cell is one that the call evicts
  abbrev pub is_evicted : ℕ → ℕ → Bool
  is_evicted s b = in_set (eviction_order h clock t) (evicted_set h clock jobs t) s b

  -- an evicted cell was optional, a free one empty or optional, in a slot above the clock
  evicted_was : (s b : ℕ) → is_evicted s b ≡ true → (usable clock s ≡ true) × (is_optional (t s b) ≡ true)
  evicted_was s b e =
      let w = (in_set_evictable h clock t (evicted_set h clock jobs t) s b e).0 in
      (left_of (usable clock s) (is_evictable h (t s b)) w, evictable_optional h (t s b) (right_of (usable clock s) (is_evictable h (t s b)) w))

  free_was : (s b : ℕ) → call_free h clock jobs t s b ≡ true → (usable clock s ≡ true) × ((t s b ≡ 0) ⊎ (is_optional (t s b) ≡ true))
  free_was s b e = go (or_cases (empty_free clock t s b) (is_evicted s b) e)
    where
      go : (empty_free clock t s b ≡ true) ⊎ (is_evicted s b ≡ true) → (usable clock s ≡ true) × ((t s b ≡ 0) ⊎ (is_optional (t s b) ≡ true))
      go (inl p) = (left_of (usable clock s) (is_empty (t s b)) p, inl (eq_of (t s b) 0 (right_of (usable clock s) (is_empty (t s b)) p)))
      go (inr p) = let w = evicted_was s b p in (w.0, inr w.1)

  -- an optional cell is not empty
  free_not_optional : (s b : ℕ) → empty_free clock t s b ≡ true → is_optional (t s b) ≡ true → ⊥
  free_not_optional s b p q =
      omega (arith, eq_of (t s b) 0 (right_of (usable clock s) (is_empty (t s b)) p), eq_of (kind_of (t s b)) 3 q)

-- under an order of ties
module _ (ties : Ties) (h : Head) (clock : ℕ) (jobs : List Job) (t : Cells) where
  -- whether job i goes into slot s
  abbrev pub is_placed : ℕ → ℕ → Bool
  is_placed i s = lrtf ties nobody (lengths jobs) (call_free_count h clock jobs t) i s

  -- what a cell then holds
  abbrev CalledCell : ℕ → ℕ → Type 0
  CalledCell s b =
      PlacedCell (length (lengths jobs)) (call_free h clock jobs t) (λ i r. is_placed i r) (λ i r. call_cell (job_at jobs i).number) t s b (called ties h clock jobs t s b)

  called_cases : (s b : ℕ) → CalledCell s b
  unfolding called placing
  called_cases s b = placing_cases (length (lengths jobs)) (call_free h clock jobs t) (λ i r. is_placed i r) (λ i r. call_cell (job_at jobs i).number) t s b

  -- every cell is changed as a call may change it
  pub called_changes : Each h (λ s b. Change clock jobs s (t s b) (called ties h clock jobs t s b))
  called_changes s b l m = go (called_cases s b)
    where
      w : ℕ
      w = called ties h clock jobs t s b

      emptied : w ≡ 0 → usable clock s ≡ true → (t s b ≡ 0) ⊎ (is_optional (t s b) ≡ true) → Change clock jobs s (t s b) w
      emptied e x (inl p) = same (e ∙ sym p)
      emptied e x (inr p) = evicted x p e

      fillable : (t s b ≡ 0) ⊎ (is_optional (t s b) ≡ true) → (is_empty (t s b) || is_optional (t s b)) ≡ true
      fillable (inl p) = or_left (is_empty (t s b)) (is_optional (t s b)) (eqb_yes (t s b) 0 p)
      fillable (inr p) = or_right (is_empty (t s b)) (is_optional (t s b)) p

      go : CalledCell s b → Change clock jobs s (t s b) w
      go (kept f e) = same e
      go (unused f e) = let p = free_was h clock jobs t s b f in emptied e p.0 p.1
      go (written f i k c e) = let p = free_was h clock jobs t s b f in filled p.0 (fillable p.1) i (rw (length_lengths jobs) at k) e

-- a set of evictable cells, lost, frees one motor for each
pub set_frees : (h : Head) (clock : ℕ) (t : Cells) → Valid h → WellFormed h t → Frees h clock t
set_frees h clock t valid wf d s l =
    set_in_slot h clock t valid wf (free_number_from h clock t) d s l
    ∙ sym (freed_from h clock t s (in_set (eviction_order h clock t) d) (λ b m e. (in_set_evictable h clock t d s b e).0) (wf.supplied s l))

module _ (h : Head) (clock : ℕ) (jobs : List Job) (t : Cells) (valid : Valid h) (wf : WellFormed h t) where
  -- so what is free in a slot for the jobs is what was free, and one for each cell of the evicted set
  pub call_free_count_lem : (s : ℕ) → s < h.slots
      → call_free_count h clock jobs t s ≡ added (free_number_from h clock t) (slots_of (eviction_order h clock t)) (evicted_set h clock jobs t) s
  call_free_count_lem s l = sym (set_frees h clock t valid wf (evicted_set h clock jobs t) s l)

-- under a total order of ties
module _ (ties : Ties) (o : TotalTies ties) (h : Head) (clock : ℕ) (jobs : List Job) (t : Cells) (valid : Valid h) (wf : WellFormed h t) where
  -- so the jobs of a call that fits are placed by LRTF
  pub called_placed : call_fits h clock jobs t ≡ true
      → Placed everywhere (length (lengths jobs)) (at (lengths jobs)) h.slots (call_free_count h clock jobs t) (is_placed ties h clock jobs t)
  unfolding call_fits
  called_placed fits =
      rule_placed h jobs ties o (call_free_count h clock jobs t)
      (omega (
        arith,
        eq_of (call_short h jobs free) 0 fits,
        (call_shortage h jobs).mono free (call_free_count h clock jobs t) (λ s l. omega (arith, call_free_count_lem h clock jobs t valid wf s l)),
      ))
    where
      free : ℕ → ℕ
      free = added (free_number_from h clock t) (slots_of (eviction_order h clock t)) (evicted_set h clock jobs t)

-- the jobs of a slot are no more than the cells that are free there
called_within : (ties : Ties) → TotalTies ties → (h : Head) (clock : ℕ) (jobs : List Job) (t : Cells) (s : ℕ)
    → count (length (lengths jobs)) (λ i. is_placed ties h clock jobs t i s) ≤ count h.bridges (λ b. call_free h clock jobs t s b)
called_within ties o h clock jobs t s =
    omega (arith, (lrtf_step ties o nobody (lengths jobs) (call_free_count h clock jobs t) s).fits, call_free_least h clock jobs t s)

-- with those that are held and not evicted they are no more than the supply feeds
called_supplied : (ties : Ties) → TotalTies ties → (h : Head) (clock : ℕ) (jobs : List Job) (t : Cells) (s : ℕ) → held_cells h t s ≤ motors h
    → held_cells h (called ties h clock jobs t) s ≤ motors h
unfolding called placing
called_supplied ties o h clock jobs t s fed =
    omega (
      arith,
      placing_count (length (lengths jobs)) (call_free h clock jobs t) (λ i r. is_placed ties h clock jobs t i r) (λ i r. call_cell (job_at jobs i).number) t s h.bridges
          (called_within ties o h clock jobs t s) is_held refl,
      count_imp (length (lengths jobs)) (λ i. is_placed ties h clock jobs t i s && is_held (call_cell (job_at jobs i).number)) (λ i. is_placed ties h clock jobs t i s)
          (λ i l. left_of (is_placed ties h clock jobs t i s) (is_held (call_cell (job_at jobs i).number))),
      (lrtf_step ties o nobody (lengths jobs) (call_free_count h clock jobs t) s).fits,
      count_imp h.bridges (λ b. not (call_free h clock jobs t s b) && is_held (t s b)) (λ b. is_held (unevicted h clock jobs t s b)) (λ b m. stays b),
      call_free_motors h clock jobs t s fed,
    )
  where
    stays : (b : ℕ) → (not (call_free h clock jobs t s b) && is_held (t s b)) ≡ true → is_held (unevicted h clock jobs t s b) ≡ true
    stays b e =
        let held : is_held (t s b) ≡ true = right_of (not (call_free h clock jobs t s b)) (is_held (t s b)) e in
        let other : call_free h clock jobs t s b ≡ false = false_of_not _ (left_of (not (call_free h clock jobs t s b)) (is_held (t s b)) e) in
        cleared_held h (is_evicted h clock jobs t) t s b
        ∙ both (is_held (t s b)) (not (is_evicted h clock jobs t s b)) held (not_is_true _ (neither_right (empty_free clock t s b) (is_evicted h clock jobs t s b) other))

-- the cells of a job, whose number is in none of the slots that the call may use
module _ (ties : Ties) (o : TotalTies ties) (h : Head) (clock : ℕ) (jobs : List Job) (t : Cells) (can : Placeable h clock t jobs) (i : ℕ) (k : i < length jobs) where
  -- it has one in each slot where LRTF places it, and none in the others that the call may use
  pub called_in_slot : (s : ℕ) → s < h.slots → usable clock s ≡ true
      → count h.bridges (λ b. eqb (called ties h clock jobs t s b) (call_cell (job_at jobs i).number)) ≡ bit (is_placed ties h clock jobs t i s)
  unfolding called placing
  called_in_slot s l late =
      placing_job (length (lengths jobs)) (call_free h clock jobs t) (λ j r. is_placed ties h clock jobs t j r) (λ j r. call_cell (job_at jobs j).number) t s h.bridges
      (called_within ties o h clock jobs t s) (λ w. eqb w (call_cell n))
      (eqb_no 0 (call_cell n) (λ e. omega arith)) i (rw (length_lengths jobs) k)
      (λ j m ne. eqb_no (call_cell (job_at jobs j).number) (call_cell n)
      (λ e. ne (injective_below (length jobs) (λ x. (job_at jobs x).number) can.distinct j i (rw (length_lengths jobs) at m) k (omega arith))))
      (λ b m f. eqb_no (t s b) (call_cell n) (λ e. can.no_cell i k s b l m late (omega (arith, can.high i k))))
      ∙ ap (λ (c : Bool). bit (is_placed ties h clock jobs t i s && c)) (eqb_self (call_cell n))
      ∙ ap bit (and-true (is_placed ties h clock jobs t i s))
    where
      n : ℕ
      n = (job_at jobs i).number

  -- in a slot up to the clock nothing is free, so that it is not placed there
  gone_unplaced : (s : ℕ) → usable clock s ≡ false → is_placed ties h clock jobs t i s ≡ false
  gone_unplaced s gone =
      not-true (is_placed ties h clock jobs t i s) (λ e.
      omega (
        arith,
        count_some (length (lengths jobs)) (λ j. is_placed ties h clock jobs t j s) i (rw (length_lengths jobs) k) e,
        (lrtf_step ties o nobody (lengths jobs) (call_free_count h clock jobs t) s).fits,
        ap (λ (c : Bool). only c (free_number h (unevicted h clock jobs t) s)) gone,
      ))

  -- above the clock as many cells as it needs
  pub called_above : Valid h → WellFormed h t → call_fits h clock jobs t ≡ true
      → above h clock (called ties h clock jobs t) (call_cell (job_at jobs i).number) ≡ (job_at jobs i).slots
  called_above valid wf fits =
      sum_ext h.slots (λ s. count h.bridges (λ b. usable clock s && holds s b)) (λ s. bit (is_placed ties h clock jobs t i s)) (λ s l. slot s l (is (usable clock s)))
      ∙ (called_placed ties o h clock jobs t valid wf fits).exact i (rw (length_lengths jobs) k)
      ∙ at_lengths jobs i
    where
      holds : ℕ → ℕ → Bool
      holds s b = eqb (called ties h clock jobs t s b) (call_cell (job_at jobs i).number)

      slot : (s : ℕ) → s < h.slots → Is (usable clock s) → count h.bridges (λ b. usable clock s && holds s b) ≡ bit (is_placed ties h clock jobs t i s)
      slot s l (is_true e) =
          count_ext h.bridges (λ b. usable clock s && holds s b) (λ b. holds s b) (λ b m. ap (λ (c : Bool). c && holds s b) e) ∙ called_in_slot s l e
      slot s l (is_false e) =
          count_none h.bridges (λ b. usable clock s && holds s b) (λ b m. ap (λ (c : Bool). c && holds s b) e) ∙ sym (ap bit (gone_unplaced s e))

module _ (ties : Ties) (o : TotalTies ties) (h : Head) (clock : ℕ) (jobs : List Job) (t : Cells) (valid : Valid h) (wf : WellFormed h t) (good : Good h t jobs) where
  -- the table, and the cells that it evicts
  abbrev u : Cells
  u = called ties h clock jobs t

  abbrev gone : ℕ → ℕ → Bool
  gone = is_evicted h clock jobs t

  -- the cells that are lost are those of the evicted set
  pub called_lost : Each h (λ s b. lost t (called ties h clock jobs t) s b ≡ is_evicted h clock jobs t s b)
  called_lost s b l m =
      test_ext (lost t u s b) (gone s b) (λ e. to e (called_cases ties h clock jobs t s b)) (λ e. from e (called_cases ties h clock jobs t s b))
    where
      of_free : lost t u s b ≡ true → call_free h clock jobs t s b ≡ true → gone s b ≡ true
      of_free e f = second_of (or_cases (empty_free clock t s b) (gone s b) f) (λ p. free_not_optional h clock jobs t s b p (lost_was t u s b e))

      to : lost t u s b ≡ true → CalledCell ties h clock jobs t s b → gone s b ≡ true
      to e (kept f q) = absurd (clash (sym (lost_was t u s b e) ∙ ap is_optional (sym q) ∙ lost_now t u s b e))
      to e (unused f q) = of_free e f
      to e (written f i k c q) = of_free e f

      now_lost : gone s b ≡ true → is_optional (u s b) ≡ false → lost t u s b ≡ true
      now_lost e = is_lost t u s b (evicted_was h clock jobs t s b e).1

      from : gone s b ≡ true → CalledCell ties h clock jobs t s b → lost t u s b ≡ true
      from e (kept f q) = absurd (clash (sym (or_right (empty_free clock t s b) (gone s b) e) ∙ f))
      from e (unused f q) = now_lost e (ap is_optional q)
      from e (written f i k c q) =
          now_lost e (ap is_optional q ∙ is_optional_call (job_at jobs i).number (omega (arith, good.high i (rw (length_lengths jobs) at k))))

  -- so their number is the size of the set, and those of priority p or better are the set's
  pub called_count : cells h (λ s b. lost t (called ties h clock jobs t) s b) ≡ ones (evicted_set h clock jobs t)
  unfolding evicted_set
  called_count = cells_ext h (λ s b. lost t u s b) gone called_lost ∙ sym (set_size h clock t valid wf (evicted_set h clock jobs t) long)
    where
      long : length (evicted_set h clock jobs t) ≡ length (eviction_order h clock t)
      long =
          searched_long (call_short h jobs) (free_number_from h clock t) (slots_of (eviction_order h clock t))
          ∙ length-map (eviction_order h clock t) (λ (z : CellPlace). z.slot)

  pub called_upto : (p : ℕ)
      → lost_up_to h t (called ties h clock jobs t) p ≡ cells h (λ s b. is_evicted h clock jobs t s b && leb (priority_of h (number_in (t s b))) p)
  called_upto p =
      cells_ext h (λ s b. lost t u s b && leb (priority_of h (number_in (t s b))) p) (λ s b. gone s b && leb (priority_of h (number_in (t s b))) p)
      (λ s b l m. ap (λ (c : Bool). c && leb (priority_of h (number_in (t s b))) p) (called_lost s b l m))

  can : Placeable h clock t jobs
  can = placeable_of h t jobs wf good clock

  -- a job has one cell in each slot where LRTF places it, and none in the others, those up to the clock included
  called_everywhere : (i : ℕ) → i < length jobs → (s : ℕ) → s < h.slots
      → count h.bridges (λ b. eqb (called ties h clock jobs t s b) (call_cell (job_at jobs i).number)) ≡ bit (is_placed ties h clock jobs t i s)
  called_everywhere i k s l = go (is (usable clock s))
    where
      go : Is (usable clock s) → count h.bridges (λ b. eqb (u s b) (call_cell (job_at jobs i).number)) ≡ bit (is_placed ties h clock jobs t i s)
      go (is_true e) = called_in_slot ties o h clock jobs t can i k s l e
      go (is_false e) =
          count_none h.bridges (λ b. eqb (u s b) (call_cell (job_at jobs i).number))
          (λ b m. eqb_no (u s b) (call_cell (job_at jobs i).number) (λ q. clash (sym (new_usable h clock jobs t u good (called_changes ties h clock jobs t) i k s b l m q) ∙ e)))
          ∙ sym (ap bit (gone_unplaced ties o h clock jobs t can i k s e))

  -- it is well-formed and valid
  pub called_well_formed : WellFormed h (called ties h clock jobs t)
  called_well_formed =
      changed_well_formed h clock jobs t u good.high (called_changes ties h clock jobs t) can valid wf
      (omega (arith, changed_job_count h clock jobs t u good.high (called_changes ties h clock jobs t), good.few))
      (λ i k s l late. omega (arith, called_in_slot ties o h clock jobs t can i k s l late, bit_le (is_placed ties h clock jobs t i s)))
      (λ s l. called_supplied ties o h clock jobs t s (wf.supplied s l))

  pub called_exact : call_fits h clock jobs t ≡ true → (i : ℕ) → i < length jobs
      → holding h (called ties h clock jobs t) (call_cell (job_at jobs i).number) ≡ (job_at jobs i).slots
  called_exact fits i k =
      sym (above_new h clock jobs t u good (called_changes ties h clock jobs t) i k) ∙ called_above ties o h clock jobs t can i k valid wf fits

  pub called_valid : call_fits h clock jobs t ≡ true → ValidCall h clock jobs t (called ties h clock jobs t)
  called_valid fits = record { well_formed = called_well_formed; changes = called_changes ties h clock jobs t; exact = called_exact fits }

-- so in a table w with the same cells the jobs of each slot are those that the rule chooses, by what the table itself shows
pub called_rule : (ties : Ties) → TotalTies ties → (h : Head) (clock : ℕ) (jobs : List Job) (t : Cells) → Valid h → WellFormed h t → Good h t jobs
    → (w : Cells) → Each h (λ s b. called ties h clock jobs t s b ≡ w s b) → (s : ℕ) → s < h.slots → JobsRule ties h clock jobs t w s
called_rule ties o h clock jobs t valid wf good w equal s l =
    shown_rule ties o (lengths jobs) (call_free_count h clock jobs t) s (length jobs) (λ i. (job_at jobs i).slots) (cells_of_job h jobs w)
    (free_number_from h clock (cleared (lost t w) t) s) (length_lengths jobs) (λ i k. at_lengths jobs i)
    (from_ext h clock t s (is_evicted h clock jobs t) (lost t w)
    (λ b m. sym (called_lost ties o h clock jobs t valid wf good s b l m) ∙ ap (λ (v : ℕ). is_optional (t s b) && not (is_optional v)) (equal s b l m)))
    (λ i k r m. count_ext h.bridges (λ b. eqb (w r b) (call_cell (job_at jobs i).number)) (λ b. eqb (called ties h clock jobs t r b) (call_cell (job_at jobs i).number))
    (λ b n. ap (λ (v : ℕ). eqb v (call_cell (job_at jobs i).number)) (sym (equal r b (omega arith) n)))
    ∙ called_everywhere ties o h clock jobs t valid wf good i k r (omega arith))
