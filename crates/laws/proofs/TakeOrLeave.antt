-- Jobs with windows, one pair of a job and a slot at a time: where the jobs fit, the pair can be left out or be taken.
--
-- In order: a set's users of a slot with one pair less; the sets that leaving the pair out or taking it breaks; take or leave.
-- Assumes nothing.
use Prim.Native.Nat.{ℕ, ◌+◌, ◌-◌, ◌≤◌, ◌<◌, min}
use native.Mathlib.Nat.{le_refl}
use native.Mathlib.Omega.{arith}
use mathlib.Core.Path.{◌≡◌, refl, sym, ◌∙◌, ap}
use mathlib.Core.Logic.{◌⊎◌, inl, inr}
use mathlib.Core.Bool.{Bool, true, false, not, ◌&&◌, ◌||◌}
use lib.Dec.{ltb, eqb}
use Rattle.laws.specs.Sums.{bit, only}
use Rattle.laws.specs.Windows.{need_of, users_of, capacity_of, WindowCriterion, window_excess, less, without}
use Rattle.laws.proofs.Tests.{Is, is_true, is_false, is, clash, left_of, right_of, both, never_both}
use Rattle.laws.proofs.Comparisons.{lt_of, ge_of, eq_of, ne_of, eqb_self, eqb_no}
use Rattle.laws.proofs.Sums.{sum_ext, sum_le, sum_add, sum_le_two, sum_but}
use Rattle.laws.proofs.Counts.{bit_le, count_imp, bit_and_true, bit_and_false, count_eqb_le}
use Rattle.laws.proofs.WindowExcess.{users_or_and, users_and_right, need_or_and, criterion_of_window_excess, broken_of_window_excess}

-- ---- one pair less

-- the pair of job i and slot s counts in that slot, where the set has the job
pub users_without : (k : ℕ) (w : ℕ → ℕ → Bool) (p : ℕ → Bool) (i s t : ℕ) → i < k
    → users_of k w p t ≡ users_of k (without w i s) p t + bit (eqb t s && (p i && w i s))
users_without k w p i s t l =
    omega (
      arith,
      sum_but k (λ j. bit (p j && w j t)) (λ j. bit (p j && without w i s j t)) i l (λ j m ne. other j (eqb_no j i ne)),
      own (is (eqb t s)),
    )
  where
    kept : (a b : Bool) → bit (a && b) ≡ bit (a && (b && true))
    kept true true = refl
    kept true false = refl
    kept false b = refl

    gone : (a b : Bool) → bit (a && b) ≡ bit (a && (b && false)) + bit (a && b)
    gone true true = refl
    gone true false = refl
    gone false b = refl

    other : (j : ℕ) → eqb j i ≡ false → bit (p j && w j t) ≡ bit (p j && without w i s j t)
    other j e = rw e (kept (p j) (w j t))

    own : Is (eqb t s) → bit (p i && w i t) ≡ bit (p i && without w i s i t) + bit (eqb t s && (p i && w i s))
    own (is_true e) = rw (eqb_self i, e, eq_of t s e) (gone (p i) (w i s))
    own (is_false e) = rw (eqb_self i, e) (omega (arith, kept (p i) (w i t)))

-- ---- take or leave

-- one slot: a and b the users of two sets, of which the second gets e more, u and d those of the union and the intersection
slot_take : (x a b u d e : ℕ) → u + d ≡ a + e + b → d ≤ a → d ≤ b → e ≤ x → min x u + min x d ≤ min x a + e + min (x - e) b
slot_take x a b u d e h l m z = omega arith

module _ (k : ℕ) (c : ℕ → ℕ) (n : ℕ) (x : ℕ → ℕ) (w : ℕ → ℕ → Bool) (i s : ℕ) (l : i < k) (crit : WindowCriterion k c n x w) where
  -- the windows without the pair
  abbrev rest : ℕ → ℕ → Bool
  rest = without w i s

  -- a set that is broken by leaving out the pair has the job; the job may use the slot, needs it, and there is a cell
  left_breaks : (p : ℕ → Bool) → capacity_of k n x rest p < need_of k c p → (p i ≡ true) × (w i s ≡ true) × (0 < c i) × (0 < x s)
  left_breaks p broken = (left_of (p i) (w i s) (on (is (p i && w i s))), right_of (p i) (w i s) (on (is (p i && w i s))), need (is (ltb 0 (c i))), cell (is (ltb 0 (x s))))
    where
      not_same : ((t : ℕ) → t < n → min (x t) (users_of k w p t) ≡ min (x t) (users_of k rest p t)) → ⊥
      not_same h = omega (arith, crit p, sum_ext n (λ t. min (x t) (users_of k w p t)) (λ t. min (x t) (users_of k rest p t)) h)

      on : Is (p i && w i s) → (p i && w i s) ≡ true
      on (is_true e) = e
      on (is_false e) = absurd (not_same (λ t m. omega (arith, users_without k w p i s t l, bit_and_false (eqb t s) (p i && w i s) e)))

      cell : Is (ltb 0 (x s)) → 0 < x s
      cell (is_true e) = lt_of 0 (x s) e
      cell (is_false e) = absurd (not_same (λ t m. at_slot_lem t (is (eqb t s))))
        where
          at_slot_lem : (t : ℕ) → Is (eqb t s) → min (x t) (users_of k w p t) ≡ min (x t) (users_of k rest p t)
          at_slot_lem t (is_true q) = omega (arith, ap x (eq_of t s q), ge_of 0 (x s) e)
          at_slot_lem t (is_false q) = omega (arith, users_without k w p i s t l, ap (λ (b : Bool). bit (b && (p i && w i s))) q)

      -- a job that needs nothing could go from the set
      others : ℕ → Bool
      others j = p j && not (eqb j i)

      need : Is (ltb 0 (c i)) → 0 < c i
      need (is_true e) = lt_of 0 (c i) e
      need (is_false e) =
          absurd
          (omega (
            arith,
            crit others,
            sum_ext k (λ j. only (p j) (c j)) (λ j. only (others j) (c j)) (λ j m. term j (is (eqb j i))),
            sum_le n (λ t. min (x t) (users_of k w others t)) (λ t. min (x t) (users_of k rest p t)) (λ t m. omega (arith, fewer t)),
          ))
        where
          none : (a : Bool) (v : ℕ) → v ≡ 0 → only a v ≡ only (a && false) v
          none true v z = z
          none false v z = refl

          one : (a : Bool) (v : ℕ) → only a v ≡ only (a && true) v
          one true v = refl
          one false v = refl

          term : (j : ℕ) → Is (eqb j i) → only (p j) (c j) ≡ only (others j) (c j)
          term j (is_true q) = rw q (none (p j) (c j) (omega (arith, ap c (eq_of j i q), ge_of 0 (c i) e)))
          term j (is_false q) = rw q (one (p j) (c j))

          stays : (a b d f : Bool) → ((a && not d) && b) ≡ true → (a && (b && not (d && f))) ≡ true
          stays true b true f h = absurd (clash (sym h))
          stays true b false f h = rw h
          stays false b d f h = h

          fewer : (t : ℕ) → users_of k w others t ≤ users_of k rest p t
          fewer t =
              count_imp k (λ j. others j && w j t) (λ j. p j && rest j t) (λ j m h. stays (p j) (w j t) (eqb j i) (eqb t s) h)

  -- a set that is broken by taking the pair lacks the job
  taken_breaks : (q : ℕ → Bool) → 0 < c i → capacity_of k n (less x s) rest q < need_of k (less c i) q → q i ≡ false
  taken_breaks q need broken = go (is (q i))
    where
      go : Is (q i) → q i ≡ false
      go (is_false e) = e
      go (is_true e) =
          absurd
          (omega (
            arith,
            crit q,
            sum_but k (λ j. only (q j) (c j)) (λ j. only (q j) (less c i j)) i l (λ j m ne. other j (eqb_no j i ne)),
            ap (λ (b : Bool). only b (c i)) e,
            ap (λ (b : Bool). only b (less c i i)) e,
            ap bit (eqb_self i),
            sum_le_two n (λ t. min (x t) (users_of k w q t)) (λ t. 0) (λ t. min (less x s t) (users_of k rest q t)) (λ t. bit (eqb t s)) slot,
            count_eqb_le n s,
          ))
        where
          other : (j : ℕ) → eqb j i ≡ false → only (q j) (c j) ≡ only (q j) (less c i j)
          other j h = ap (only (q j)) (omega (arith, ap bit h))

          part : (a b : Bool) → bit (a && b) ≤ bit a
          part true b = bit_le b
          part false b = le_refl 0

          slot : (t : ℕ) → t < n → min (x t) (users_of k w q t) + 0 ≤ min (less x s t) (users_of k rest q t) + bit (eqb t s)
          slot t m = omega (arith, users_without k w q i s t l, part (eqb t s) (q i && w i s))

  -- no set with the job is broken by leaving the pair out where a set without the job is broken by taking it
  never_both_break : (p q : ℕ → Bool) → p i ≡ true → q i ≡ false → w i s ≡ true → 0 < x s
      → capacity_of k n x rest p < need_of k c p → capacity_of k n (less x s) rest q < need_of k (less c i) q → ⊥
  never_both_break p q has lacks allowed cell broken-p broken-q =
      omega (
        arith,
        crit (λ j. p j || q j),
        crit (λ j. p j && q j),
        need_or_and k c p q,
        sum_ext k (λ j. only (q j) (less c i j)) (λ j. only (q j) (c j)) (λ j m. term j (is (eqb j i))),
        sum_le_two n (λ t. min (x t) (users_of k w (λ j. p j || q j) t)) (λ t. min (x t) (users_of k w (λ j. p j && q j) t))
            (λ t. min (x t) (users_of k rest p t) + bit (eqb t s)) (λ t. min (less x s t) (users_of k rest q t)) slot,
        sum_add n (λ t. min (x t) (users_of k rest p t)) (λ t. bit (eqb t s)),
        count_eqb_le n s,
      )
    where
      term : (j : ℕ) → Is (eqb j i) → only (q j) (less c i j) ≡ only (q j) (c j)
      term j (is_true e) = rw (eq_of j i e, lacks)
      term j (is_false e) = ap (only (q j)) (omega (arith, ap bit e))

      keeps : (a b d e f : Bool) → (e ≡ true → b ≡ false) → ((a && b) && d) ≡ true → (a && (d && not (e && f))) ≡ true
      keeps true true d true f no-i h = absurd (clash (no-i refl))
      keeps true true d false f no-i h = rw h
      keeps true false d e f no-i h = absurd (clash (sym h))
      keeps false b d e f no-i h = h

      common : (t : ℕ) → users_of k w (λ j. p j && q j) t ≤ users_of k rest p t
      common t =
          count_imp k (λ j. (p j && q j) && w j t) (λ j. p j && rest j t)
          (λ j m h. keeps (p j) (q j) (w j t) (eqb j i) (eqb t s) (λ e. ap q (eq_of j i e) ∙ lacks) h)

      there : (t : ℕ) → Is (eqb t s) → bit (eqb t s) ≤ x t
      there t (is_true e) = omega (arith, ap x (eq_of t s e), bit_le (eqb t s))
      there t (is_false e) = omega (arith, ap bit e)

      slot : (t : ℕ) → t < n
          → min (x t) (users_of k w (λ j. p j || q j) t) + min (x t) (users_of k w (λ j. p j && q j) t)
          ≤ min (x t) (users_of k rest p t) + bit (eqb t s) + min (less x s t) (users_of k rest q t)
      slot t m =
          let same-q : users_of k w q t ≡ users_of k rest q t = omega (arith, users_without k w q i s t l, bit_and_false (eqb t s) (q i && w i s) (never_both (q i) (w i s) (λ e. absurd (clash (sym e ∙ lacks))))) in
          slot_take (x t) (users_of k rest p t) (users_of k rest q t) (users_of k w (λ j. p j || q j) t) (users_of k w (λ j. p j && q j) t) (bit (eqb t s))
          (omega (arith, users_or_and k w p q t, users_without k w p i s t l, bit_and_true (eqb t s) (p i && w i s) (both (p i) (w i s) has allowed)))
          (common t) (omega (arith, users_and_right k w p q t)) (there t (is (eqb t s)))

-- Where the jobs fit, they fit with the pair of job i and slot s left out, or the pair may be taken and what is left fits.
pub take_or_leave : (k : ℕ) (c : ℕ → ℕ) (n : ℕ) (x : ℕ → ℕ) (w : ℕ → ℕ → Bool) (i s : ℕ) → i < k → window_excess k c n x w ≡ 0
    → (window_excess k c n x (without w i s) ≡ 0)
    ⊎ ((w i s ≡ true) × (0 < c i) × (0 < x s) × (window_excess k (less c i) n (less x s) (without w i s) ≡ 0))
take_or_leave k c n x w i s l fits =
    go (is (eqb (window_excess k c n x (without w i s)) 0)) (is (eqb (window_excess k (less c i) n (less x s) (without w i s)) 0))
  where
    crit : WindowCriterion k c n x w
    crit = criterion_of_window_excess k c n x w fits

    go : Is (eqb (window_excess k c n x (without w i s)) 0) → Is (eqb (window_excess k (less c i) n (less x s) (without w i s)) 0)
        → (window_excess k c n x (without w i s) ≡ 0)
        ⊎ ((w i s ≡ true) × (0 < c i) × (0 < x s) × (window_excess k (less c i) n (less x s) (without w i s) ≡ 0))
    go (is_true e) f = inl (eq_of (window_excess k c n x (without w i s)) 0 e)
    go (is_false e) f = inr (right f)
      where
        broken : (p : ℕ → Bool) × (capacity_of k n x (without w i s) p < need_of k c p)
        broken = broken_of_window_excess k c n x (without w i s) (ne_of (window_excess k c n x (without w i s)) 0 e)

        facts : (broken.0 i ≡ true) × (w i s ≡ true) × (0 < c i) × (0 < x s)
        facts = left_breaks k c n x w i s l crit broken.0 broken.1

        right : Is (eqb (window_excess k (less c i) n (less x s) (without w i s)) 0)
            → (w i s ≡ true) × (0 < c i) × (0 < x s) × (window_excess k (less c i) n (less x s) (without w i s) ≡ 0)
        right (is_true f) = (facts.1, facts.2, facts.3, eq_of (window_excess k (less c i) n (less x s) (without w i s)) 0 f)
        right (is_false f) =
            let b = broken_of_window_excess k (less c i) n (less x s) (without w i s)
            (ne_of (window_excess k (less c i) n (less x s) (without w i s)) 0 f) in
            absurd
            (never_both_break k c n x w i s l crit broken.0 b.0 facts.0
            (taken_breaks k c n x w i s l crit b.0 facts.2 b.1) facts.1 facts.3 broken.1 b.1)
