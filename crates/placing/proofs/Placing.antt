-- Laws of `placing`, the way jobs get their cells, for plans and calls alike, whoever has a cell in which slot.
--
-- In order: the order of ties that a frame has is a total one (`tie_total`); what a cell can hold (`PlacedCell`, `placing_cases`); where a slot's jobs are at most its free cells, how
-- many cells of the slot pass a test (`placing_count`), and the cells of one job (`placing_job`).
-- Assumes nothing.
use Prim.Native.Nat.{ℕ, ◌+◌, ◌≤◌, ◌<◌}
use native.Mathlib.Omega.{arith}
use mathlib.Core.Path.{◌≡◌, ◌∙◌, ap}
use mathlib.Core.Logic.{◌⊎◌, inl, inr}
use mathlib.Core.Bool.{Bool, true, false, not, ◌&&◌, cond}
use Rattle.laws.specs.Sums.{bit, only, sum, count}
use Rattle.laws.specs.Placement.{TotalTies}
use Rattle.laws.specs.Cells.{takes}
use Rattle.laws.proofs.Tests.{Is, is_true, is_false, is, left_of, right_of, never_both}
use Rattle.laws.proofs.Sums.{sum_point}
use Rattle.laws.proofs.Counts.{bit_le, count_none, one_selected}
use Rattle.laws.proofs.Order.{place_total, hold_total}
use Rattle.laws.proofs.Cells.{takes_one_job, slot_holding}
use Rattle.placing.specs.Table.{Cells}
use Rattle.placing.specs.Plan.{placing, tie_of}

-- the order of ties by `(tie hold)` or `(tie place)` is one of those that the laws speak of
pub tie_total : (hold : Bool) → TotalTies (tie_of hold)
tie_total true = hold_total
tie_total false = place_total

-- What the cell of slot s, bridge b holds after jobs were placed: what it held where it was not free; else nothing, or what a job writes that has a cell in the slot.
pub data PlacedCell (k : ℕ) (f a : ℕ → ℕ → Bool) (v : ℕ → ℕ → ℕ) (t : Cells) (s b w : ℕ) : Type 0 where
  kept : f s b ≡ false → w ≡ t s b → PlacedCell k f a v t s b w
  unused : f s b ≡ true → w ≡ 0 → PlacedCell k f a v t s b w
  written : f s b ≡ true → (i : ℕ) → i < k → a i s ≡ true → w ≡ v i s → PlacedCell k f a v t s b w

module _ (k : ℕ) (f a : ℕ → ℕ → Bool) (v : ℕ → ℕ → ℕ) (t : Cells) (s : ℕ) where
  pub placing_cases : (b : ℕ) → PlacedCell k f a v t s b (placing k f a v t s b)
  unfolding placing
  placing_cases b = go (is (f s b)) (one_selected k taker (λ i. v i s) one)
    where
      job : ℕ → Bool
      job i = a i s

      taker : ℕ → Bool
      taker i = takes job (λ d. f s d) i b

      one : count k taker ≤ 1
      one = omega (arith, takes_one_job k job (λ d. f s d) b, bit_le (f s b))

      value : ℕ
      value = sum k (λ i. only (taker i) (v i s))

      of_free : f s b ≡ true → cond (f s b) value (t s b) ≡ value
      of_free e = ap (λ (x : Bool). cond x value (t s b)) e

      go : Is (f s b) → (value ≡ 0) ⊎ ((i : ℕ) × (i < k) × (taker i ≡ true) × (value ≡ v i s)) → PlacedCell k f a v t s b (cond (f s b) value (t s b))
      go (is_false e) w = kept e (ap (λ (x : Bool). cond x value (t s b)) e)
      go (is_true e) (inl w) = unused e (of_free e ∙ w)
      go (is_true e) (inr (i, l, d, w)) = written e i l (right_of (f s b) (job i) (left_of (f s b && job i) _ d)) (of_free e ∙ w)

  module _ (bridges : ℕ) (within : count k (λ i. a i s) ≤ count bridges (λ b. f s b)) where
    -- how many cells of the slot pass a test: the jobs placed there whose value does, and the cells that were not free
    pub placing_count : (q : ℕ → Bool) → q 0 ≡ false
        → count bridges (λ b. q (placing k f a v t s b)) ≡ count k (λ i. a i s && q (v i s)) + count bridges (λ b. not (f s b) && q (t s b))
    unfolding placing
    placing_count q z = slot_holding k bridges (λ i. a i s) (λ b. f s b) (λ i. v i s) (λ b. t s b) q z within

    -- the cells of one job, by a test that only its value passes
    pub placing_job : (q : ℕ → Bool) → q 0 ≡ false → (i : ℕ) → i < k
        → ((j : ℕ) → j < k → (j ≡ i → ⊥) → q (v j s) ≡ false)
        → ((b : ℕ) → b < bridges → f s b ≡ false → q (t s b) ≡ false)
        → count bridges (λ b. q (placing k f a v t s b)) ≡ bit (a i s && q (v i s))
    placing_job q z i l others away =
        omega (
          arith,
          placing_count q z,
          sum_point k (λ j. bit (a j s && q (v j s))) i l (λ j m ne. ap bit (never_both (a j s) (q (v j s)) (λ e. others j m ne))),
          count_none bridges (λ b. not (f s b) && q (t s b)) (λ b m. rest b m (is (f s b))),
        )
      where
        rest : (b : ℕ) → b < bridges → Is (f s b) → (not (f s b) && q (t s b)) ≡ false
        rest b m (is_true e) = rw e
        rest b m (is_false e) = rw e (away b m e)
