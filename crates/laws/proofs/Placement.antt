-- Placements: a placement exists exactly if every selection of jobs obeys the capacity, and then largest remaining time first finds one.
--
-- In order: the criterion for lower needs; a placement obeys the criterion; the r largest needs; the criterion and the excess; one slot for any
-- choice of the largest needs, by the dual of the criterion; any way of breaking ties (T2); the choice of LRTF; the needs that are left, and
-- who has a cell in the slot just before; the rule without any order of ties (`place_lrtf`), and as a table shows it (`shown_rule`); LRTF places, whatever the order of ties.
-- Laws of the capacity alone are in Capacities.
-- Assumes nothing.
use Prim.Native.Nat.{ℕ, zero, suc, ◌+◌, ◌-◌, ◌*◌, ◌≤◌, ◌<◌, min}
use native.Mathlib.Nat.{le_refl, mul_comm}
use native.Mathlib.Omega.{arith}
use mathlib.Core.Path.{◌≡◌, refl, sym, ◌∙◌, ap, ap₂, subst, fun_ext}
use mathlib.Core.Logic.{◌⊎◌, inl, inr}
use mathlib.Core.Bool.{Bool, true, false, not, ◌&&◌, ◌||◌}
use mathlib.Core.List.{List}
use lib.ListN.{length}
use lib.Dec.{ltb}
use Rattle.laws.specs.Sums.{bit, only, sum, count, position, Total}
use Rattle.laws.specs.Lists.{at, tabulate}
use Rattle.laws.specs.Placement.{Placed, everywhere, capacity, Criterion, Ties, TotalTies, tie_place, holders, nobody, goes_first, chosen, SlotRule}
use Rattle.laws.specs.Placement.{AtSlot, holds, chosen_at, served, at_slot, left, lrtf, before, largest, excess}
use Rattle.laws.proofs.Tests.{Is, is, is_true, is_false, clash, both, left_of, right_of}
use Rattle.laws.proofs.Comparisons.{lt_of, ge_of, ltb_yes}
use Rattle.laws.proofs.Every.{either}
use Rattle.laws.proofs.Sums.{only_le, sum_ext, sum_le, sum_zero, term_le, sum_add, sum_first, sum_swap, greatest_bounds, greatest_attained}
use Rattle.laws.proofs.Counts.{bit_positive, count_ext, count_le, count_imp, sum_only_const}
use Rattle.laws.proofs.Lists.{length_tabulate, at_tabulate, at_past}
use Rattle.laws.proofs.Order.{position_order, order_of_position, position_count, at_position, goes_total, place_total, before_total}

-- ---- lower needs

-- smaller needs keep the criterion
pub criterion_less : (k : ℕ) (c d : ℕ → ℕ) (n : ℕ) (x : ℕ → ℕ) → ((i : ℕ) → i < k → c i ≤ d i) → Criterion k d n x → Criterion k c n x
criterion_less k c d n x less f p =
    omega (arith, f p, sum_le k (λ i. only (p i) (c i)) (λ i. only (p i) (d i)) (λ i l. only_le (p i) (less i l)))

-- ---- a placement obeys the criterion

pub only_count : (n : ℕ) (q : ℕ → Bool) (b : Bool) → only b (count n q) ≡ count n (λ s. b && q s)
only_count n q true = refl
only_count n q false = sym (sum_zero n (λ s. 0) (λ s l. refl))

-- T1: in a slot the jobs of a selection take at most as many cells as they are, and as are free
pub criterion_of_placed : {w : ℕ → ℕ → Bool} {k : ℕ} {c : ℕ → ℕ} {n : ℕ} {x : ℕ → ℕ} {a : ℕ → ℕ → Bool} → Placed w k c n x a → Criterion k c n x
criterion_of_placed {w} {k} {c} {n} {x} {a} h p =
    omega (
      arith,
      sum_ext k (λ i. only (p i) (c i)) (λ i. sum n (λ s. bit (p i && a i s))) job,
      sum_swap k n (λ i s. bit (p i && a i s)),
      sum_le n (λ s. sum k (λ i. bit (p i && a i s))) (λ s. min (count k p) (x s)) slot,
    )
  where
    job : (i : ℕ) → i < k → only (p i) (c i) ≡ count n (λ s. p i && a i s)
    job i l = ap (only (p i)) (sym (h.exact i l)) ∙ only_count n (a i) (p i)

    slot : (s : ℕ) → s < n → count k (λ i. p i && a i s) ≤ min (count k p) (x s)
    slot s l =
        omega (
          arith,
          count_imp k (λ i. p i && a i s) p (λ i m. left_of (p i) (a i s)),
          count_imp k (λ i. p i && a i s) (λ i. a i s) (λ i m. right_of (p i) (a i s)),
          h.within s l,
        )

-- ---- the r largest needs

-- what stands no later needs no less, whatever breaks ties
pub need_of_position : {r : ℕ → ℕ → Bool} → Total r → (k : ℕ) (c : ℕ → ℕ) (i j : ℕ) → i < k
    → position k (goes_first r c) j ≤ position k (goes_first r c) i → c i ≤ c j
need_of_position {r} o k c i j l h = go (is (goes_first r c i j))
  where
    go : Is (goes_first r c i j) → c i ≤ c j
    go (is_true e) = absurd (omega (arith, position_order (goes_total o c) k e l))
    go (is_false e) = omega (arith, ge_of (c j) (c i + bit (r i j)) e)

-- a need that parts the r largest from the others
threshold : (k : ℕ) (c : ℕ → ℕ) (r : ℕ) → r ≤ k →
    (t : ℕ) × ((i : ℕ) → i < k → position k (before c) i < r → t ≤ c i) × ((i : ℕ) → i < k → r ≤ position k (before c) i → c i ≤ t)
threshold k c zero h = (sum k c, (λ i l m. absurd (let z : position k (before c) i < 0 = m in omega arith)), (λ i l m. term_le k c i l))
threshold k c (suc r) h =
    let w = at_position (before_total c) k r h in (
      c w.0,
      (λ i l m. need_of_position (place_total 0 (λ m. false)) k c w.0 i w.1 (omega (arith, w.2))),
      (λ i l m. need_of_position (place_total 0 (λ m. false)) k c i w.0 l (omega (arith, w.2))),
    )

exchange : (a b : Bool) (c t : ℕ) → (b ≡ true → t ≤ c) → (b ≡ false → c ≤ t) → only a c + only b t ≤ only b c + only a t
exchange true true c t f g = le_refl (c + t)
exchange true false c t f g = omega (arith, g refl)
exchange false true c t f g = omega (arith, f refl)
exchange false false c t f g = le_refl 0

-- a need t by which the r largest bound every selection: t for each job more, and t less for each job fewer
pub largest_slope : (k : ℕ) (c : ℕ → ℕ) (r : ℕ) → r ≤ k
    → (t : ℕ) × ((p : ℕ → Bool) → sum k (λ i. only (p i) (c i)) + r * t ≤ largest k c r + count k p * t)
largest_slope k c r h = (w.0, λ p. bounds p)
  where
    w : (t : ℕ) × ((i : ℕ) → i < k → position k (before c) i < r → t ≤ c i) × ((i : ℕ) → i < k → r ≤ position k (before c) i → c i ≤ t)
    w = threshold k c r h

    t : ℕ
    t = w.0

    q : ℕ → Bool
    q i = ltb (position k (before c) i) r

    term : (p : ℕ → Bool) (i : ℕ) → i < k → only (p i) (c i) + only (q i) t ≤ only (q i) (c i) + only (p i) t
    term p i l =
        exchange (p i) (q i) (c i) t (λ e. w.1 i l (lt_of (position k (before c) i) r e))
        (λ e. w.2 i l (ge_of (position k (before c) i) r e))

    bounds : (p : ℕ → Bool) → sum k (λ i. only (p i) (c i)) + r * t ≤ largest k c r + count k p * t
    bounds p =
        omega (
          arith,
          sum_le k (λ i. only (p i) (c i) + only (q i) t) (λ i. only (q i) (c i) + only (p i) t) (term p),
          sum_add k (λ i. only (p i) (c i)) (λ i. only (q i) t),
          sum_add k (λ i. only (q i) (c i)) (λ i. only (p i) t),
          sum_only_const k p t,
          sum_only_const k q t,
          ap (λ (m : ℕ). m * t) (position_count (before_total c) k r h),
        )

-- no selection needs more than as many of the largest
pub largest_bounds : (k : ℕ) (c : ℕ → ℕ) (p : ℕ → Bool) → sum k (λ i. only (p i) (c i)) ≤ largest k c (count k p)
largest_bounds k c p = omega (arith, (largest_slope k c (count k p) (count_le k p)).1 p)

-- and the r largest are a selection of size r
pub largest_attained : (k : ℕ) (c : ℕ → ℕ) (r : ℕ) → r ≤ k → (p : ℕ → Bool) × (count k p ≡ r) × (sum k (λ i. only (p i) (c i)) ≡ largest k c r)
largest_attained k c r h = ((λ i. ltb (position k (before c) i) r), position_count (before_total c) k r h, refl)

-- ---- the criterion and the excess

-- some selection needs as much more than its capacity
pub excess_attained : (k : ℕ) (c : ℕ → ℕ) (n : ℕ) (x : ℕ → ℕ)
    → (p : ℕ → Bool) × (sum k (λ i. only (p i) (c i)) - capacity n x (count k p) ≡ excess k c n x)
excess_attained k c n x =
    let w = greatest_attained k (λ r. largest k c r - capacity n x r) in
    let v = largest_attained k c w.0 w.1 in
    (v.0, omega (arith, w.2, v.2, ap (capacity n x) v.1))

pub excess_of_criterion : (k : ℕ) (c : ℕ → ℕ) (n : ℕ) (x : ℕ → ℕ) → Criterion k c n x → excess k c n x ≡ 0
excess_of_criterion k c n x h = let w = excess_attained k c n x in omega (arith, w.1, h w.0)

-- needs with an excess have a selection that breaks the criterion
pub broken_of_excess : (k : ℕ) (c : ℕ → ℕ) (n : ℕ) (x : ℕ → ℕ) → (excess k c n x ≡ 0 → ⊥)
    → (p : ℕ → Bool) × (capacity n x (count k p) < sum k (λ i. only (p i) (c i)))
broken_of_excess k c n x ne = let w = excess_attained k c n x in (w.0, omega (arith, w.1))

pub criterion_of_excess : (k : ℕ) (c : ℕ → ℕ) (n : ℕ) (x : ℕ → ℕ) → excess k c n x ≡ 0 → Criterion k c n x
criterion_of_excess k c n x e p =
    omega (arith, largest_bounds k c p, greatest_bounds k (λ r. largest k c r - capacity n x r) (count k p) (count_le k p))

-- ---- one slot, whatever the choice

-- A choice of the largest needs for a slot with d free cells; the tie is left open.
pub record Step (k : ℕ) (c : ℕ → ℕ) (d : ℕ) (D : ℕ → Bool) : Type 0 where
  pub needed : (i : ℕ) → i < k → D i ≡ true → 0 < c i
  pub fits : count k D ≤ d
  pub full : (i : ℕ) → i < k → D i ≡ false → 0 < c i → count k D ≡ d
  pub greater : (i j : ℕ) → i < k → j < k → D i ≡ false → 0 < c i → D j ≡ true → c i ≤ c j

-- The dual of the criterion, over sets S of slots: with m slots outside of S, what the jobs need above m has to go into the cells of S.
abbrev pub Dual : ℕ → (ℕ → ℕ) → ℕ → (ℕ → ℕ) → Type 0
Dual k c n x = (S : ℕ → Bool) → sum k (λ i. c i - count n (λ s. not (S s))) ≤ sum n (λ s. only (S s) (x s))

pub dual_of_criterion : (k : ℕ) (c : ℕ → ℕ) (n : ℕ) (x : ℕ → ℕ) → Criterion k c n x → Dual k c n x
dual_of_criterion k c n x h S =
    omega (
      arith,
      sum_ext k (λ i. (c i - m) + only (p i) m) (λ i. only (p i) (c i)) (λ i l. job i (is (p i))),
      sum_add k (λ i. c i - m) (λ i. only (p i) m),
      sum_only_const k p m,
      h p,
      sum_le n (λ s. min r (x s)) (λ s. only (not (S s)) r + only (S s) (x s)) (λ s l. slot (S s) (x s)),
      sum_add n (λ s. only (not (S s)) r) (λ s. only (S s) (x s)),
      sum_only_const n (λ s. not (S s)) r,
      mul_comm m r,
    )
  where
    m : ℕ
    m = count n (λ s. not (S s))

    p : ℕ → Bool
    p i = ltb m (c i)

    r : ℕ
    r = count k p

    job : (i : ℕ) → Is (p i) → (c i - m) + only (p i) m ≡ only (p i) (c i)
    job i (is_true e) = rw e (omega (arith, lt_of m (c i) e))
    job i (is_false e) = rw e (omega (arith, ge_of m (c i) e))

    slot : (b : Bool) (y : ℕ) → min r y ≤ only (not b) r + only b y
    slot true y = omega arith
    slot false y = omega arith

-- a set of slots with one more slot in front
front : Bool → (ℕ → Bool) → ℕ → Bool
front b S zero = b
front b S (suc s) = S s

-- One slot, filled by any such choice, keeps the dual.
pub dual_step : (k : ℕ) (c : ℕ → ℕ) (n : ℕ) (x : ℕ → ℕ) (D : ℕ → Bool) → Step k c (x 0) D → Dual k c (suc n) x →
    Dual k (λ i. c i - bit (D i)) n (λ s. x (suc s))
unfolding front
dual_step k c n x D h f S = go (either k (λ i l. above i (is (D i)) (is (ltb m (c i)))))
  where
    m : ℕ
    m = count n (λ s. not (S s))

    cells : ℕ
    cells = sum n (λ s. only (S s) (x (suc s)))

    -- the dual with the slot in front, in S or outside of it
    dual_front : (b : Bool) → sum k (λ i. c i - (bit (not b) + m)) ≤ only b (x 0) + cells
    dual_front b =
        omega (
          arith,
          f (front b S),
          sum_first n (λ s. only (front b S s) (x s)),
          ap (λ (q : ℕ). sum k (λ i. c i - q)) (sum_first n (λ s. bit (not (front b S s)))),
        )

    above : (i : ℕ) → Is (D i) → Is (ltb m (c i)) → ((D i ≡ false) × (m < c i)) ⊎ (D i ≡ false → c i ≤ m)
    above i (is_true e) t = inr (λ g. absurd (clash (sym e ∙ g)))
    above i (is_false e) (is_true t) = inl (e, lt_of m (c i) t)
    above i (is_false e) (is_false t) = inr (λ g. ge_of m (c i) t)

    -- where each chosen need is above m, each chosen job has its cell from what is needed above m
    over : (i : ℕ) → (D i ≡ true → m < c i) → Is (D i) → (c i - bit (D i) - m) + bit (D i) ≡ c i - (0 + m)
    over i g (is_true e) = rw e (omega (arith, g e))
    over i g (is_false e) = rw e (omega arith)

    -- where no other need is above m, what is needed above m is needed above m + 1 before
    under : (i : ℕ) → (D i ≡ false → c i ≤ m) → Is (D i) → c i - bit (D i) - m ≡ c i - (1 + m)
    under i g (is_true e) = rw e (omega arith)
    under i g (is_false e) = rw e (omega (arith, g e))

    go : ((i : ℕ) × (i < k) × ((D i ≡ false) × (m < c i))) ⊎ ((i : ℕ) → i < k → D i ≡ false → c i ≤ m) → sum k (λ i. c i - bit (D i) - m) ≤ cells
    go (inl w) =
        omega (
          arith,
          dual_front true,
          h.full w.0 w.1 w.2.0 (omega (arith, w.2.1)),
          sum_add k (λ i. c i - bit (D i) - m) (λ i. bit (D i)),
          sum_ext k (λ i. (c i - bit (D i) - m) + bit (D i)) (λ i. c i - (0 + m))
              (λ j l. over j (λ e. omega (arith, w.2.1, h.greater w.0 j w.1 l w.2.0 (omega (arith, w.2.1)) e)) (is (D j))),
        )
    go (inr g) = omega (arith, dual_front false, sum_ext k (λ i. c i - bit (D i) - m) (λ i. c i - (1 + m)) (λ j l. under j (g j l) (is (D j))))

-- ---- any way of breaking ties

-- Needs that fall slot by slot as such choices have it: with no slot left, none is left. `l s` are the needs before slot s, `D s` the choice there.
steps_end : (n k : ℕ) (l : ℕ → ℕ → ℕ) (D : ℕ → ℕ → Bool) (x : ℕ → ℕ) → ((s : ℕ) → s < n → Step k (l s) (x s) (D s)) →
    ((s i : ℕ) → s < n → i < k → l (suc s) i ≡ l s i - bit (D s i)) → Dual k (l 0) n x → (i : ℕ) → i < k → l n i ≡ 0
unfolding sum
steps_end zero k l D x step next dual i h = omega (arith, dual (λ s. true), term_le k (λ j. l 0 j - 0) i h)
steps_end (suc n) k l D x step next dual i h =
    steps_end n k (λ s. l (suc s)) (λ s. D (suc s)) (λ s. x (suc s)) (λ s m. step (suc s) (omega arith)) (λ s j m. next (suc s) j (omega arith))
    (λ p.
    omega (
      arith,
      dual_step k (l 0) n x (D 0) (step 0 (omega arith)) dual p,
      sum_ext k (λ j. l 1 j - count n (λ s. not (p s))) (λ j. l 0 j - bit (D 0 j) - count n (λ s. not (p s)))
          (λ j m. ap (λ (q : ℕ). q - count n (λ s. not (p s))) (next 0 j (omega arith) m)),
    )) i h

-- what is left of a need and what the job has got make the need
steps_got : (l : ℕ → ℕ → ℕ) (D : ℕ → ℕ → Bool) (i n : ℕ) → ((s : ℕ) → s < n → l (suc s) i + bit (D s i) ≡ l s i) →
    l n i + count n (λ s. D s i) ≡ l 0 i
unfolding sum
steps_got l D i zero next = omega arith
steps_got l D i (suc n) next = omega (arith, steps_got l D i n (λ s m. next s (omega arith)), next n (omega arith))

-- T2, whatever breaks ties: where every selection obeys, choosing the largest remaining needs slot by slot makes a placement.
pub largest_first_places : (k n : ℕ) (x : ℕ → ℕ) (l : ℕ → ℕ → ℕ) (D : ℕ → ℕ → Bool) → ((s : ℕ) → s < n → Step k (l s) (x s) (D s)) →
    ((s i : ℕ) → s < n → i < k → l (suc s) i ≡ l s i - bit (D s i)) → Criterion k (l 0) n x → Placed everywhere k (l 0) n x (λ i s. D s i)
largest_first_places k n x l D step next h =
    record {
      exact = λ i m.
          omega (
            arith,
            steps_got l D i n (λ s z. whole s i z m (is (D s i))),
            steps_end n k l D x step next (dual_of_criterion k (l 0) n x h) i m,
          );
      within = λ s z. (step s z).fits;
      allowed = λ i s m z e. refl;
    }
  where
    whole : (s i : ℕ) → s < n → i < k → Is (D s i) → l (suc s) i + bit (D s i) ≡ l s i
    whole s i z m (is_true e) = omega (arith, next s i z m, ap bit e, (step s z).needed i m e)
    whole s i z m (is_false e) = omega (arith, next s i z m, ap bit e)

-- ---- the choice of LRTF

pub chosen_needs : (r : ℕ → ℕ → Bool) (k : ℕ) (c : ℕ → ℕ) (d i : ℕ) → chosen r k c d i ≡ true → 0 < c i
chosen_needs r k c d i e = lt_of 0 (c i) (left_of (ltb 0 (c i)) (ltb (position k (goes_first r c) i) d) e)

-- a job that needs a slot and is not chosen stands behind those that are
pub chosen_behind : (r : ℕ → ℕ → Bool) (k : ℕ) (c : ℕ → ℕ) (d i : ℕ) → chosen r k c d i ≡ false → 0 < c i → d ≤ position k (goes_first r c) i
chosen_behind r k c d i e h =
    ge_of (position k (goes_first r c) i) d (sym (ap (λ (b : Bool). b && ltb (position k (goes_first r c) i) d) (ltb_yes 0 (c i) h)) ∙ e)

-- orders of ties that agree choose the same
pub chosen_ext : (r q : ℕ → ℕ → Bool) (k : ℕ) (c : ℕ → ℕ) (d : ℕ) → ((j i : ℕ) → j < k → i < k → r j i ≡ q j i) →
    (i : ℕ) → i < k → chosen r k c d i ≡ chosen q k c d i
chosen_ext r q k c d h i l =
    ap (λ (n : ℕ). ltb 0 (c i) && ltb n d)
    (count_ext k (λ j. goes_first r c j i) (λ j. goes_first q c j i) (λ j m. ap (λ (b : Bool). ltb (c i) (c j + bit b)) (h j i m l)))

module _ {r : ℕ → ℕ → Bool} (o : Total r) where
  -- the slot holds them
  pub chosen_count : (k : ℕ) (c : ℕ → ℕ) (d : ℕ) → count k (chosen r k c d) ≤ d
  chosen_count k c d = go (is (ltb d k))
    where
      go : Is (ltb d k) → count k (chosen r k c d) ≤ d
      go (is_true e) =
          omega (
            arith,
            count_imp k (chosen r k c d) (λ i. ltb (position k (goes_first r c) i) d)
                (λ i l. right_of (ltb 0 (c i)) (ltb (position k (goes_first r c) i) d)),
            position_count (goes_total o c) k d (omega (arith, lt_of d k e)),
          )
      go (is_false e) = omega (arith, count_le k (chosen r k c d), ge_of d k e)

  -- the choice of LRTF is one of the largest needs
  pub chosen_step : (k : ℕ) (c : ℕ → ℕ) (d : ℕ) → Step k c d (chosen r k c d)
  chosen_step k c d = record { needed = λ i l. chosen_needs r k c d i; fits = chosen_count k c d; full = all; greater = most }
    where
      ahead : (i j : ℕ) → i < k → chosen r k c d i ≡ false → 0 < c i → ltb (position k (goes_first r c) j) d ≡ true → c i ≤ c j
      ahead i j l e h t =
          need_of_position o k c i j l (omega (arith, chosen_behind r k c d i e h, lt_of (position k (goes_first r c) j) d t))

      most : (i j : ℕ) → i < k → j < k → chosen r k c d i ≡ false → 0 < c i → chosen r k c d j ≡ true → c i ≤ c j
      most i j l m e h t = ahead i j l e h (right_of (ltb 0 (c j)) (ltb (position k (goes_first r c) j) d) t)

      all : (i : ℕ) → i < k → chosen r k c d i ≡ false → 0 < c i → count k (chosen r k c d) ≡ d
      all i l e h =
          omega (
            arith,
            chosen_count k c d,
            position_count (goes_total o c) k d (omega (arith, chosen_behind r k c d i e h, count_le k (λ j. goes_first r c j i))),
            count_imp k (λ j. ltb (position k (goes_first r c) j) d) (chosen r k c d)
                (λ j m t. both (ltb 0 (c j)) (ltb (position k (goes_first r c) j) d) (ltb_yes 0 (c j) (omega (arith, ahead i j l e h t))) t),
          )

  -- the choice of LRTF is the papers' rule, its ties included
  pub chosen_rule : (k : ℕ) (c : ℕ → ℕ) (d : ℕ) → SlotRule r k c d (chosen r k c d)
  chosen_rule k c d =
      record {
        many = number (either k (λ i l. sort i (is (chosen r k c d i)) (is (ltb 0 (c i)))));
        most = larger;
        needed = λ i l. chosen_needs r k c d i;
      }
    where
      sort : (i : ℕ) → Is (chosen r k c d i) → Is (ltb 0 (c i)) → ((chosen r k c d i ≡ false) × (0 < c i)) ⊎ (chosen r k c d i ≡ ltb 0 (c i))
      sort i (is_true e) (is_true p) = inr (e ∙ sym p)
      sort i (is_true e) (is_false p) = inr (absurd (omega (arith, chosen_needs r k c d i e, ge_of 0 (c i) p)))
      sort i (is_false e) (is_true p) = inl (e, lt_of 0 (c i) p)
      sort i (is_false e) (is_false p) = inr (e ∙ sym p)

      among : count k (chosen r k c d) ≤ count k (λ i. ltb 0 (c i))
      among = count_imp k (chosen r k c d) (λ i. ltb 0 (c i)) (λ i l. left_of (ltb 0 (c i)) (ltb (position k (goes_first r c) i) d))

      number : ((i : ℕ) × (i < k) × ((chosen r k c d i ≡ false) × (0 < c i))) ⊎ ((i : ℕ) → i < k → chosen r k c d i ≡ ltb 0 (c i)) →
          count k (chosen r k c d) ≡ min d (count k (λ i. ltb 0 (c i)))
      number (inl w) = omega (arith, among, (chosen_step k c d).full w.0 w.1 w.2.0 w.2.1)
      number (inr g) = omega (arith, chosen_count k c d, count_ext k (chosen r k c d) (λ i. ltb 0 (c i)) g)

      tie : (i j : ℕ) → Is (r j i) → Is (ltb (c i) (c j)) → c i < c j + bit (r j i) → (c i < c j) ⊎ ((c i ≡ c j) × (r j i ≡ true))
      tie i j e (is_true p) h = inl (lt_of (c i) (c j) p)
      tie i j (is_true e) (is_false p) h = inr (omega (arith, ge_of (c i) (c j) p, ap bit e), e)
      tie i j (is_false e) (is_false p) h = inl (omega (arith, ap bit e))

      larger : (i j : ℕ) → i < k → j < k → chosen r k c d j ≡ true → chosen r k c d i ≡ false → 0 < c i
          → (c i < c j) ⊎ ((c i ≡ c j) × (r j i ≡ true))
      larger i j l m e f h =
          let here : ltb (position k (goes_first r c) j) d ≡ true = right_of (ltb 0 (c j)) (ltb (position k (goes_first r c) j) d) e in
          let ahead : position k (goes_first r c) j < position k (goes_first r c) i = omega (arith, chosen_behind r k c d i f h, lt_of (position k (goes_first r c) j) d here) in
          tie i j (is (r j i)) (is (ltb (c i) (c j))) (lt_of (c i) (c j + bit (r j i)) (order_of_position (goes_total o c) k i j ahead))

-- ---- the needs that are left, and who has a cell in the slot just before

module _ (ties : Ties) (standing : ℕ → ℕ → Bool) where
  pub served_length : (d s : ℕ) (r : AtSlot) → length (served ties standing d s r).needs ≡ length r.needs
  unfolding served
  served_length d s r = length_tabulate (length r.needs) (λ i. at r.needs i - bit (chosen_at ties d s r i))

  pub at_served : (d s : ℕ) (r : AtSlot) (i : ℕ) → at (served ties standing d s r).needs i ≡ at r.needs i - bit (chosen_at ties d s r i)
  unfolding served
  at_served d s r i = go (is (ltb i (length r.needs)))
    where
      go : Is (ltb i (length r.needs)) → at (served ties standing d s r).needs i ≡ at r.needs i - bit (chosen_at ties d s r i)
      go (is_true e) =
          at_tabulate (length r.needs) (λ j. at r.needs j - bit (chosen_at ties d s r j)) i (lt_of i (length r.needs) e)
      go (is_false e) =
          let past : length r.needs ≤ i = ge_of i (length r.needs) e in
          omega (arith, at_past r.needs i past, at_past (served ties standing d s r).needs i (omega (arith, served_length d s r)))

  pub served_holds : (d s : ℕ) (r : AtSlot) (i : ℕ) → i < length r.needs →
      holds (served ties standing d s r) i ≡ (standing i s || chosen_at ties d s r i)
  unfolding served
  served_holds d s r i l =
      ap (ltb 0) (at_tabulate (length r.needs) (λ j. bit (standing j s || chosen_at ties d s r j)) i l)
      ∙ bit_positive (standing i s || chosen_at ties d s r i)

  served_past : (d s : ℕ) (r : AtSlot) (i : ℕ) → length r.needs ≤ i → holds (served ties standing d s r) i ≡ false
  unfolding served
  served_past d s r i h = ap (ltb 0) (at_past (served ties standing d s r).held i (omega (arith, length_tabulate (length r.needs) (λ j. bit (standing j s || chosen_at ties d s r j)), h)))

  module _ (c : List ℕ) (x : ℕ → ℕ) where
    pub left_length : (s : ℕ) → length (left ties standing c x s) ≡ length c
    unfolding at_slot
    left_length zero = refl
    left_length (suc s) = served_length (x s) s (at_slot ties standing c x s) ∙ left_length s

    -- a slot takes one from each job that has a cell in it
    pub left_step : (i s : ℕ) → at (left ties standing c x (suc s)) i + bit (lrtf ties standing c x i s) ≡ at (left ties standing c x s) i
    unfolding at_slot
    left_step i s = go (is (lrtf ties standing c x i s))
      where
        before_it : AtSlot
        before_it = at_slot ties standing c x s

        now : at (served ties standing (x s) s before_it).needs i ≡ at before_it.needs i - bit (lrtf ties standing c x i s)
        now = at_served (x s) s before_it i

        go : Is (lrtf ties standing c x i s)
            → at (served ties standing (x s) s before_it).needs i + bit (lrtf ties standing c x i s) ≡ at before_it.needs i
        go (is_true e) =
            omega (arith, now, ap bit e, chosen_needs (ties s (holds before_it)) (length before_it.needs) (at before_it.needs) (x s) i e)
        go (is_false e) = omega (arith, now, ap bit e)

    -- what is left of a need and what the job has got make the need
    pub left_got : (i s : ℕ) → at (left ties standing c x s) i + count s (λ t. lrtf ties standing c x i t) ≡ at c i
    unfolding at_slot
    left_got i s = steps_got (λ t. at (left ties standing c x t)) (λ t j. lrtf ties standing c x j t) i s (λ t m. left_step i t)

    -- after a slot those have a cell in it who stood there or were chosen
    pub held_step : (i s : ℕ) → i < length c → holds (at_slot ties standing c x (suc s)) i ≡ (standing i s || lrtf ties standing c x i s)
    unfolding at_slot
    held_step i s l = served_holds (x s) s (at_slot ties standing c x s) i (omega (arith, left_length s))

    -- so before a slot it is who stood or was chosen in the slot just before
    pub held_by : (s : ℕ) → holds (at_slot ties standing c x s) ≡ holders (length c) (λ j t. standing j t || lrtf ties standing c x j t) s
    unfolding at_slot
    held_by zero = refl
    held_by (suc s) = fun_ext (λ i. go i (is (ltb i (length c))))
      where
        before_it : AtSlot
        before_it = at_slot ties standing c x s

        go : (i : ℕ) → Is (ltb i (length c))
            → holds (served ties standing (x s) s before_it) i ≡ (ltb i (length c) && (standing i s || lrtf ties standing c x i s))
        go i (is_true e) = rw e (held_step i s (lt_of i (length c) e))
        go i (is_false e) = rw e (served_past (x s) s before_it i (omega (arith, left_length s, ge_of i (length c) e)))

-- where nobody stands, it is whom the rule chose
pub held_is : (ties : Ties) (c : List ℕ) (x : ℕ → ℕ) (s : ℕ) → holds (at_slot ties nobody c x s) ≡ holders (length c) (λ j t. lrtf ties nobody c x j t) s
held_is ties c x = held_by ties nobody c x

-- "`(tie place)` brings back the old order": under it the rule goes by the slots still to get and the line alone, whoever stands where.
module _ (standing : ℕ → ℕ → Bool) (c : List ℕ) (x : ℕ → ℕ) where
  -- the slots still to get after a slot with d free cells
  abbrev served_place : ℕ → List ℕ → List ℕ
  served_place d l = tabulate (length l) (λ i. at l i - bit (ltb 0 (at l i) && ltb (position (length l) (before (at l)) i) d))

  pub place_left : (s : ℕ) → left tie_place standing c x s ≡ left tie_place nobody c x s
  unfolding at_slot served
  place_left zero = refl
  place_left (suc s) = ap (served_place (x s)) (place_left s)

  pub place_lrtf : (i s : ℕ) → let l = left tie_place nobody c x s in
      lrtf tie_place standing c x i s ≡ (ltb 0 (at l i) && ltb (position (length l) (before (at l)) i) (x s))
  place_lrtf i s = ap (λ (l : List ℕ). ltb 0 (at l i) && ltb (position (length l) (before (at l)) i) (x s)) (place_left s)

-- the rule goes by the free cells of the slots up to the one that it places
module _ (ties : Ties) (standing : ℕ → ℕ → Bool) (c : List ℕ) (n : ℕ) (x y : ℕ → ℕ) (same : (s : ℕ) → s < n → x s ≡ y s) where
  pub at_slot_ext : (s : ℕ) → s ≤ n → at_slot ties standing c x s ≡ at_slot ties standing c y s
  unfolding at_slot
  at_slot_ext zero l = refl
  at_slot_ext (suc s) l = ap₂ (λ (r : AtSlot) (d : ℕ). served ties standing d s r) (at_slot_ext s (omega arith)) (same s l)

  pub lrtf_ext : (i s : ℕ) → s < n → lrtf ties standing c x i s ≡ lrtf ties standing c y i s
  lrtf_ext i s l = ap₂ (λ (r : AtSlot) (d : ℕ). chosen_at ties d s r i) (at_slot_ext s (omega arith)) (same s l)

-- the rule's choice in a slot, for the number of jobs that there were at the start
pub lrtf_step : (ties : Ties) → TotalTies ties → (standing : ℕ → ℕ → Bool) (c : List ℕ) (x : ℕ → ℕ) (s : ℕ) →
    Step (length c) (at (left ties standing c x s)) (x s) (λ i. lrtf ties standing c x i s)
lrtf_step ties o standing c x s =
    subst (λ (n : ℕ). Step n (at (left ties standing c x s)) (x s) (λ i. lrtf ties standing c x i s)) (left_length ties standing c x s)
    (chosen_step (o s (holds (at_slot ties standing c x s))) (length (left ties standing c x s)) (at (left ties standing c x s)) (x s))

-- ---- the rule as a table shows it

holders_ext : (k : ℕ) (a b : ℕ → ℕ → Bool) (s : ℕ) → ((i : ℕ) → i < k → (r : ℕ) → r ≤ s → a i r ≡ b i r) → holders k a s ≡ holders k b s
holders_ext k a b zero h = refl
holders_ext k a b (suc s) h = fun_ext (λ i. go i (is (ltb i k)))
  where
    go : (i : ℕ) → Is (ltb i k) → (ltb i k && a i s) ≡ (ltb i k && b i s)
    go i (is_true e) = rw e (h i (lt_of i k e) s (omega arith))
    go i (is_false e) = rw e

-- Job i has `got i r` cells in slot r: one where LRTF places it, and none elsewhere.
pub shown_rule : (ties : Ties) → TotalTies ties → (c : List ℕ) (x : ℕ → ℕ) (s k : ℕ) (need : ℕ → ℕ) (got : ℕ → ℕ → ℕ) (d : ℕ) → length c ≡ k
    → ((i : ℕ) → i < k → at c i ≡ need i) → x s ≡ d → ((i : ℕ) → i < k → (r : ℕ) → r ≤ s → got i r ≡ bit (lrtf ties nobody c x i r))
    → SlotRule (ties s (holders k (λ i r. ltb 0 (got i r)) s)) k (λ i. need i - sum s (λ r. got i r)) d (λ i. ltb 0 (got i s))
shown_rule ties o c x s k need got d long is-need free shown = record {
  many = omega (
    arith,
    rule.many,
    free,
    count_ext k (λ i. lrtf ties nobody c x i s) (λ i. ltb 0 (got i s)) (λ i l. placed i l s (le_refl s)),
    count_ext k (λ i. ltb 0 (at rest i)) (λ i. ltb 0 (to_get i)) (λ i l. ap (ltb 0) (is_left i l)),
  );
  most = λ i j l m p q n.
      same i j l m (rule.most i j l m (placed j m s (le_refl s) ∙ p) (placed i l s (le_refl s) ∙ q) (omega (arith, n, is_left i l)));
  needed = λ i l p. omega (arith, is_left i l, rule.needed i l (placed i l s (le_refl s) ∙ p));
}
  where
    rest : List ℕ
    rest = left ties nobody c x s

    to_get : ℕ → ℕ
    to_get i = need i - sum s (λ r. got i r)

    by_rule : ℕ → ℕ → Bool
    by_rule = ties s (holds (at_slot ties nobody c x s))

    as_shown : ℕ → ℕ → Bool
    as_shown = ties s (holders k (λ i r. ltb 0 (got i r)) s)

    rule : SlotRule by_rule k (at rest) (x s) (λ i. lrtf ties nobody c x i s)
    rule = subst (λ (n : ℕ). SlotRule by_rule n (at rest) (x s) (λ i. lrtf ties nobody c x i s)) (left_length ties nobody c x s ∙ long)
        (chosen_rule (o s (holds (at_slot ties nobody c x s))) (length rest) (at rest) (x s))

    is_left : (i : ℕ) → i < k → at rest i ≡ to_get i
    is_left i l =
        omega (
          arith,
          left_got ties nobody c x i s,
          is-need i l,
          sum_ext s (λ r. got i r) (λ r. bit (lrtf ties nobody c x i r)) (λ r m. shown i l r (omega arith)),
        )

    placed : (i : ℕ) → i < k → (r : ℕ) → r ≤ s → lrtf ties nobody c x i r ≡ ltb 0 (got i r)
    placed i l r m = sym (bit_positive (lrtf ties nobody c x i r)) ∙ ap (ltb 0) (sym (shown i l r m))

    who : holds (at_slot ties nobody c x s) ≡ holders k (λ j r. ltb 0 (got j r)) s
    who =
        held_is ties c x s
        ∙ ap (λ (n : ℕ). holders n (λ j r. lrtf ties nobody c x j r) s) long
        ∙ holders_ext k (λ j r. lrtf ties nobody c x j r) (λ j r. ltb 0 (got j r)) s placed

    same : (i j : ℕ) → i < k → j < k → (at rest i < at rest j) ⊎ ((at rest i ≡ at rest j) × (by_rule j i ≡ true))
        → (to_get i < to_get j) ⊎ ((to_get i ≡ to_get j) × (as_shown j i ≡ true))
    same i j l m (inl p) = inl (omega (arith, p, is_left i l, is_left j m))
    same i j l m (inr p) =
        inr (omega (arith, p.0, is_left i l, is_left j m), ap (λ (q : ℕ → Bool). ties s q j i) (sym who) ∙ p.1)

-- ---- LRTF places

-- T2 for this rule and every order of ties, whoever stands anywhere before: where every selection obeys, LRTF makes a placement
pub any_tie_places : (ties : Ties) → TotalTies ties → (standing : ℕ → ℕ → Bool) (c : List ℕ) (n : ℕ) (x : ℕ → ℕ) → Criterion (length c) (at c) n x →
    Placed everywhere (length c) (at c) n x (lrtf ties standing c x)
unfolding at_slot
any_tie_places ties o standing c n x h =
    largest_first_places (length c) n x (λ s. at (left ties standing c x s)) (λ s i. lrtf ties standing c x i s)
    (λ s z. lrtf_step ties o standing c x s) (λ s i z m. at_served ties standing (x s) s (at_slot ties standing c x s) i) h

-- needs without excess are placed by LRTF
pub fits_placed : (ties : Ties) → TotalTies ties → (standing : ℕ → ℕ → Bool) (c : List ℕ) (n : ℕ) (x : ℕ → ℕ) → excess (length c) (at c) n x ≡ 0 →
    Placed everywhere (length c) (at c) n x (lrtf ties standing c x)
fits_placed ties o standing c n x e = any_tie_places ties o standing c n x (criterion_of_excess (length c) (at c) n x e)

-- needs that can be placed at all have no excess
pub placed_fits : {w : ℕ → ℕ → Bool} {k : ℕ} {c : ℕ → ℕ} {n : ℕ} {x : ℕ → ℕ} {a : ℕ → ℕ → Bool} → Placed w k c n x a → excess k c n x ≡ 0
placed_fits {w} {k} {c} {n} {x} h = excess_of_criterion k c n x (criterion_of_placed h)
