-- The excess over all numbers of jobs; and where no slot has more than m free cells, as many as the station has bridges: only the numbers up to m and the last one count.
--
-- In order: no r exceeds its capacity by more, one does by as much (`excess_bounds`, `excess_reached`), so there is none exactly if no r exceeds it (`excess_none`);
-- it is greatest at some r up to m or at the last r (`excess_at`), so it is the greater of
-- those up to m and of all needs over the capacity for m (`excess_few`), which sums and a total give (`excess_of_sums`), and whether it is so many or more (`over_some`, `over_total`); an example.
-- Assumes nothing.
use Prim.Native.Nat.{ℕ, ◌+◌, ◌-◌, ◌≤◌, ◌<◌, max}
use native.Mathlib.Nat.{le_refl}
use native.Mathlib.Omega.{arith}
use mathlib.Core.Path.{◌≡◌, refl, sym, ◌∙◌, ap, ap₂}
use mathlib.Core.Logic.{◌⊎◌, inl, inr, ◌↔◌}
use mathlib.Core.Bool.{true}
use mathlib.Core.List.{[], ◌∷◌}
use lib.Dec.{leb, eqb}
use Rattle.laws.specs.Sums.{sum, greatest}
use Rattle.laws.specs.Lists.{at}
use Rattle.laws.specs.Placement.{capacity, largest, excess}
use Rattle.laws.specs.method.Capacities.{excess_over}
use Rattle.laws.proofs.Tests.{Is, is, is_true, is_false}
use Rattle.laws.proofs.Comparisons.{le_of, gt_of, eq_of, ne_of, leb_yes, leb_no}
use Rattle.laws.proofs.Sums.{greatest_bounds, greatest_attained, greatest_le, greatest_ext}
use Rattle.laws.proofs.Capacities.{capacity_up, capacity_high, capacity_top, capacity_zero}
use Rattle.laws.proofs.Largest.{largest_all, largest_part, largest_none}

module _ (k : ℕ) (c : ℕ → ℕ) (n : ℕ) (x : ℕ → ℕ) where
  -- by how much the r largest needs exceed the capacity for r
  abbrev over : ℕ → ℕ
  over r = largest k c r - capacity n x r

  -- no number of needs exceeds its capacity by more than the excess, all numbers tried and not only those up to k ..
  pub excess_bounds : (r : ℕ) → largest k c r ≤ capacity n x r + excess k c n x
  excess_bounds r = go (is (leb r k))
    where
      go : Is (leb r k) → largest k c r ≤ capacity n x r + excess k c n x
      go (is_true e) = omega (arith, greatest_bounds k over r (le_of r k e))
      go (is_false e) =
          let past = gt_of r k e in
          omega (arith, largest_part k c r, largest_all k c k (le_refl k), capacity_up n x k r (omega arith), greatest_bounds k over k (le_refl k))

  -- .. and some number by just so much: no needs at all have no excess
  pub excess_reached : (r : ℕ) × (largest k c r ≡ capacity n x r + excess k c n x)
  excess_reached = go (greatest_attained k over) (is (eqb (excess k c n x) 0))
    where
      go : ((r : ℕ) × (r ≤ k) × (over r ≡ excess k c n x)) → Is (eqb (excess k c n x) 0) → (r : ℕ) × (largest k c r ≡ capacity n x r + excess k c n x)
      go w (is_true e) = (0, omega (arith, eq_of (excess k c n x) 0 e, largest_none k c, capacity_zero n x))
      go (r, low, q) (is_false e) = let some = ne_of (excess k c n x) 0 e in (r, omega arith)

  -- so there is no excess exactly if no number of needs exceeds its capacity
  pub excess_none : (excess k c n x ≡ 0) ↔ ((r : ℕ) → largest k c r ≤ capacity n x r)
  excess_none = (λ e r. omega (arith, excess_bounds r), λ f. let w = excess_reached in omega (arith, w.1, f w.0))

  module _ (m : ℕ) (few : (s : ℕ) → s < n → x s ≤ m) where
    -- past m the last number is the worst
    over_last : (r : ℕ) → m ≤ r → r ≤ k → over r ≤ over k
    over_last r past low =
        omega (
          arith,
          largest_part k c r,
          largest_all k c k (le_refl k),
          capacity_top n x m few r past,
          capacity_top n x m few k (omega arith),
        )

    -- The excess is greatest at some number of jobs up to m, or at that of all jobs.
    pub excess_at : (r : ℕ) × (r ≤ k) × ((r ≤ m) ⊎ (r ≡ k)) × (largest k c r - capacity n x r ≡ excess k c n x)
    excess_at = go (greatest_attained k over)
      where
        go : ((r : ℕ) × (r ≤ k) × (over r ≡ excess k c n x)) → (r : ℕ) × (r ≤ k) × ((r ≤ m) ⊎ (r ≡ k)) × (over r ≡ excess k c n x)
        go (r, low, e) = pick (is (leb r m))
          where
            pick : Is (leb r m) → (r : ℕ) × (r ≤ k) × ((r ≤ m) ⊎ (r ≡ k)) × (over r ≡ excess k c n x)
            pick (is_true q) = (r, low, inl (le_of r m q), e)
            pick (is_false q) =
                let past = gt_of r m q in
                (k, le_refl k, inr refl, omega (arith, over_last r (omega arith) low, greatest_bounds k over k (le_refl k)))

    -- So the sums up to m are enough, and that of all needs against the capacity for m.
    pub excess_few : excess k c n x ≡ max (greatest m (λ r. largest k c r - capacity n x r)) (sum k c - capacity n x m)
    excess_few =
        let all : largest k c k ≡ sum k c = largest_all k c k (le_refl k) in
        let last : over k ≤ excess k c n x = greatest_bounds k over k (le_refl k) in
        let down : greatest m over ≤ excess k c n x = greatest_le m over (excess k c n x) (λ r l. omega (arith, excess_bounds r)) in
        let up : excess k c n x ≤ max (greatest m over) (sum k c - capacity n x m) = go excess_at in
        omega (arith, capacity_high n x m few k)
      where
        go : ((r : ℕ) × (r ≤ k) × ((r ≤ m) ⊎ (r ≡ k)) × (over r ≡ excess k c n x)) → excess k c n x ≤ max (greatest m over) (sum k c - capacity n x m)
        go (r, low, inl l, e) = omega (arith, greatest_bounds m over r l)
        go (r, low, inr q, e) = pick (is (leb k m))
          where
            pick : Is (leb k m) → excess k c n x ≤ max (greatest m over) (sum k c - capacity n x m)
            pick (is_true l) = omega (arith, ap over q, greatest_bounds m over k (le_of k m l))
            pick (is_false l) =
                let past = gt_of k m l in
                omega (arith, ap over q, largest_all k c k (le_refl k), capacity_top n x m few k (omega arith))

  -- As code has them for slots of at most eight bridges, from the sums of the r largest and the total.
  pub excess_of_sums : (sums : ℕ → ℕ) (total : ℕ) → ((s : ℕ) → s < n → x s ≤ 8) → ((r : ℕ) → r < 9 → sums r ≡ largest k c r) → total ≡ sum k c
      → excess_over sums total (capacity n x) ≡ excess k c n x
  excess_of_sums sums total few each all =
      ap₂ max (greatest_ext 8 (λ r. sums r - capacity n x r) over (λ r l. ap (λ (y : ℕ). y - capacity n x r) (each r (omega arith)))) (ap (λ (y : ℕ). y - capacity n x 8) all)
      ∙ sym (excess_few 8 few)

-- no excess is above all sums and the total
pub excess_over_le : (sums : ℕ → ℕ) (total : ℕ) (limit : ℕ → ℕ) (v : ℕ) → ((r : ℕ) → r < 9 → sums r ≤ v) → total ≤ v → excess_over sums total limit ≤ v
excess_over_le sums total limit v each all = omega (arith, greatest_le 8 (λ r. sums r - limit r) v (λ r l. omega (arith, each r (omega arith))))

-- Whether there is an excess of v or more: some sum, or the total, tells that there is; and where no sum does, the total tells.
module _ (sums : ℕ → ℕ) (total : ℕ) (limit : ℕ → ℕ) (v : ℕ) where
  pub over_some : (r : ℕ) → r ≤ 8 → v + limit r ≤ sums r → leb v (excess_over sums total limit) ≡ true
  over_some r low h = leb_yes v (excess_over sums total limit) (omega (arith, greatest_bounds 8 (λ q. sums q - limit q) r low, h))

  pub over_total : {b : ℕ} → 0 < v → ((r : ℕ) → r ≤ 8 → sums r < v + limit r) → b ≡ v + limit 8 → leb b total ≡ leb v (excess_over sums total limit)
  over_total {b} some each e = go (is (leb b total))
    where
      go : Is (leb b total) → leb b total ≡ leb v (excess_over sums total limit)
      go (is_true y) = y ∙ sym (leb_yes v (excess_over sums total limit) (omega (arith, e, le_of b total y)))
      go (is_false y) =
          y
          ∙ sym (leb_no v (excess_over sums total limit)
          (omega (arith, e, some, gt_of b total y, greatest_le 8 (λ q. sums q - limit q) (v - 1) (λ r l. omega (arith, some, each r l)))))

-- ---- examples

-- Three jobs of one slot each and one slot with two free cells: the excess is at the last number, past the most free cells of a slot ..
at_the_last : excess 3 (λ i. 1) 1 (λ s. 2) ≡ 1
unfolding greatest sum
at_the_last = refl

-- .. and for one job of two slots and one of none it is at 1: for both together the cells are enough
at_the_first : excess 2 (at (2 ∷ 0 ∷ [])) 1 (λ s. 2) ≡ 1
unfolding greatest sum
at_the_first = refl
