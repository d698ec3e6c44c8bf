-- The room for r as a fact about placements: a valid plan, and a valid placement of a call, exists exactly if for every r the r largest needs do not exceed the capacity for r; and
-- what a call loses is the greatest excess over the capacity of the empty cells.
--
-- In order: plans (`plan_by_capacity`); the excess of a call is the greatest (`greatest_excess`); calls (`call_by_capacity`).
-- Premises: of a plan that some text yields the head; of a call also that the table before it is well-formed and that its jobs have passed 2, 4 and 9 (`Good`).
-- Assumes nothing.
use Prim.Native.Nat.{ℕ, ◌≤◌}
use native.Mathlib.Omega.{arith}
use mathlib.Core.Path.{◌≡◌, refl, sym, ◌∙◌, ap}
use mathlib.Core.Logic.{◌↔◌}
use mathlib.Core.Bool.{true, not, ◌&&◌}
use mathlib.Core.List.{List, []}
use lib.ListN.{length}
use Rattle.laws.specs.Lists.{at}
use Rattle.laws.specs.Placement.{tie_place}
use Rattle.laws.specs.Eviction.{ones}
use Rattle.laws.proofs.Comparisons.{eq_of, eqb_yes}
use Rattle.laws.proofs.Order.{place_total}
use Rattle.laws.proofs.Excess.{excess_bounds, excess_reached, excess_none}
use Rattle.station.specs.Head.{Head, Job, Valid}
use Rattle.placing.specs.Table.{Cells, Each, WellFormed, cell, cells, is_optional}
use Rattle.placing.specs.Valid.{ValidCall, lost}
use Rattle.placing.specs.Plan.{mandatories, plan_free_count, plan_fits, planned}
use Rattle.placing.specs.Call.{lengths, free_number_from, usable_count, call_short, call_fits, evicted_set, called}
use Rattle.placing.specs.Capacity.{PlanByCapacity, CallByCapacity, GreatestExcess, largest_mandatory, plan_capacity, longest_jobs, call_capacity, free_capacity}
use Rattle.placing.specs.Outcomes.{written}
use Rattle.placing.proofs.CountedCells.{cells_ext}
use Rattle.placing.proofs.WellFormed.{valid_plan_ext, valid_call_ext}
use Rattle.placing.proofs.WrittenTable.{cell_written}
use Rattle.placing.proofs.NewJobs.{Good}
use Rattle.placing.proofs.PlanTheorem.{plan_fits_of_valid, planned_valid}
use Rattle.placing.proofs.LeastEviction.{valid_fits, fewest}
use Rattle.placing.proofs.CalledTable.{called_valid, called_count}
use Rattle.placing.proofs.CallByNumbers.{fits_by_room, evicts_excess}

-- ---- plans

pub plan_by_capacity : (h : Head) → Valid h → PlanByCapacity h
plan_by_capacity h valid = record {
  fits = (
    λ p. counted.0 (plan_fits_of_valid valid p.1),
    λ f. (
      written h (planned tie_place h) [],
      valid_plan_ext h (planned tie_place h) (cell h (written h (planned tie_place h) [])) (λ s b l m. sym (cell_written h (planned tie_place h) [] s b l m)) (planned_valid tie_place place_total valid (counted.1 f)),
    ),
  );
}
  where
    counted : (plan_fits h (mandatories h) ≡ true) ↔ ((r : ℕ) → largest_mandatory h r ≤ plan_capacity h r)
    counted =
        let none = excess_none (length (mandatories h)) (at (mandatories h)) h.slots (plan_free_count h) in
        (λ e. none.0 (eq_of _ 0 e), λ f. eqb_yes _ 0 (none.1 f))

-- ---- calls

-- by how much the jobs exceed the empty cells is the greatest excess
pub greatest_excess : (h : Head) (clock : ℕ) (jobs : List Job) (t : Cells)
    → GreatestExcess (longest_jobs jobs) (free_capacity h clock t) (call_short h jobs (free_number_from h clock t))
greatest_excess h clock jobs t =
    record {
      bounds = excess_bounds (length (lengths jobs)) (at (lengths jobs)) h.slots (free_number_from h clock t);
      reached = excess_reached (length (lengths jobs)) (at (lengths jobs)) h.slots (free_number_from h clock t);
    }

module _ (h : Head) (clock : ℕ) (jobs : List Job) (t : Cells) (valid : Valid h) (formed : WellFormed h t) (good : Good h t jobs) where
  -- the call fits exactly if no number of jobs exceeds what it may use
  counted : (call_fits h clock jobs t ≡ true) ↔ ((r : ℕ) → longest_jobs jobs r ≤ call_capacity h clock t r)
  counted =
      let short = fits_by_room h clock jobs t valid formed in
      let none = excess_none (length (lengths jobs)) (at (lengths jobs)) h.slots (usable_count h clock t) in
      (λ e. none.0 (short.0 e), λ f. short.1 (none.1 f))

  -- then the table of the rule, as a list of cells, is valid and loses the cells of the evicted set
  left : List ℕ
  left = written h (called tie_place h clock jobs t) []

  same : Each h (λ s b. called tie_place h clock jobs t s b ≡ cell h left s b)
  unfolding left
  same s b l m = sym (cell_written h (called tie_place h clock jobs t) [] s b l m)

  left_valid : call_fits h clock jobs t ≡ true → ValidCall h clock jobs t (cell h left)
  left_valid e = valid_call_ext h clock jobs t t (called tie_place h clock jobs t) (cell h left) (λ s b l m. refl) same (called_valid tie_place place_total h clock jobs t valid formed good e)

  left_lost : cells h (λ s b. lost t (cell h left) s b) ≡ ones (evicted_set h clock jobs t)
  left_lost =
      cells_ext h (λ s b. lost t (cell h left) s b) (λ s b. lost t (called tie_place h clock jobs t) s b)
      (λ s b l m. ap (λ (v : ℕ). is_optional (t s b) && not (is_optional v)) (sym (same s b l m)))
      ∙ called_count tie_place place_total h clock jobs t valid formed good

  pub call_by_capacity : CallByCapacity h clock jobs t
  call_by_capacity = record {
    fits = (λ p. counted.0 (valid_fits h clock jobs t (cell h p.0) valid formed good p.1), λ f. (left, left_valid (counted.1 f)));
    loses = λ u v r.
        omega (
          arith,
          (greatest_excess h clock jobs t).bounds r,
          evicts_excess h clock jobs t valid formed (valid_fits h clock jobs t (cell h u) valid formed good v),
          fewest h clock jobs t (cell h u) valid formed good v,
        );
    no_more = λ f.
        let e = counted.1 f in
        (left, left_valid e, rw (left_lost ∙ evicts_excess h clock jobs t valid formed e) (greatest_excess h clock jobs t));
  }
