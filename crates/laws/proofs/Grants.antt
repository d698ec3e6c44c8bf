-- Grants in rank order are best for every number of ranks counted.
--
-- In order: two numbers are equal or not; tight selections; the greatest number that passes a test; one turn; the grants:
-- what each turn keeps, the rule itself, their sum as a minimum over selections, and that no plan gives the first ranks more.
-- Assumes nothing.
use Prim.Native.Nat.{ℕ, zero, suc, ◌+◌, ◌-◌, ◌≤◌, ◌<◌, min, zero-le}
use native.Mathlib.Nat.{le_refl}
use native.Mathlib.Omega.{arith}
use mathlib.Core.Path.{◌≡◌, refl, sym, ◌∙◌, ap}
use mathlib.Core.Logic.{◌⊎◌, inl, inr, ⊎_elim, ◌↔◌}
use mathlib.Core.Bool.{Bool, true, false, not, ◌&&◌, ◌||◌}
use mathlib.Core.List.{List}
use lib.ListN.{length, set, length-set}
use lib.Seq.{ext_get_or, get_or-set_same, get_or-set_other, set-get_or}
use lib.Dec.{ltb, eqb}
use Rattle.laws.specs.Sums.{only, sum, count}
use Rattle.laws.specs.Lists.{at}
use Rattle.laws.specs.Placement.{capacity, Criterion}
use Rattle.laws.specs.Grants.{most, raised, turn, granted}
use Rattle.laws.proofs.Tests.{Is, is, is_true, is_false, clash, not-true, or_left, or_right}
use Rattle.laws.proofs.Comparisons.{lt_of, ge_of, eq_of, ne_of, eqb_yes, eqb_no}
use Rattle.laws.proofs.Every.{either}
use Rattle.laws.proofs.Sums.{only_le, sum_ext, sum_le, sum_zero, sum_le_two, sum_or_and, sum_but}
use Rattle.laws.proofs.Counts.{count_none}
use Rattle.laws.proofs.Lists.{length_tabulate, at_tabulate, at_past}
use Rattle.laws.proofs.Capacities.{capacity_or_and}

-- ---- two numbers are equal or not

eq_or_ne : (m n : ℕ) → (m ≡ n) ⊎ (m ≡ n → ⊥)
eq_or_ne m n = go (is (eqb m n))
  where
    go : Is (eqb m n) → (m ≡ n) ⊎ (m ≡ n → ⊥)
    go (is_true e) = inl (eq_of m n e)
    go (is_false e) = inr (ne_of m n e)

-- ---- tight selections

-- the needs of the selection use up the capacity for its size
abbrev pub Tight : (k n : ℕ) (x c : ℕ → ℕ) → (ℕ → Bool) → Type 0
Tight k n x c p = sum k (λ i. only (p i) (c i)) ≡ capacity n x (count k p)

pub tight_none : (k n : ℕ) (x c : ℕ → ℕ) → Tight k n x c (λ i. false)
tight_none k n x c =
    sum_zero k (λ i. 0) (λ i l. refl)
    ∙ sym (sum_zero n (λ s. min (count k (λ i. false)) (x s)) (λ s l. omega (arith, count_none k (λ i. false) (λ i h. refl))))

pub tight_or : (k n : ℕ) (x c : ℕ → ℕ) (p q : ℕ → Bool) → Criterion k c n x → Tight k n x c p → Tight k n x c q → Tight k n x c (λ i. p i || q i)
tight_or k n x c p q h tp tq =
    omega
    (arith, sum_or_and k (λ i b. only b (c i)) p q, capacity_or_and k n x p q, h (λ i. p i || q i), h (λ i. p i && q i))

-- needs that grow and still obey the criterion keep a tight selection tight
pub tight_grown : (k n : ℕ) (x c d : ℕ → ℕ) (p : ℕ → Bool) → ((i : ℕ) → i < k → c i ≤ d i) → Criterion k d n x → Tight k n x c p → Tight k n x d p
tight_grown k n x c d p g h t =
    omega (arith, h p, sum_le k (λ i. only (p i) (c i)) (λ i. only (p i) (d i)) (λ i l. only_le (p i) (g i l)))

-- a selection that one more unit of i breaks is tight, and has i
pub broken_tight : (k n : ℕ) (x c d : ℕ → ℕ) (i : ℕ) → i < k → ((j : ℕ) → j < k → (j ≡ i → ⊥) → d j ≡ c j) → d i ≡ suc (c i) → (p : ℕ → Bool)
    → Criterion k c n x → capacity n x (count k p) < sum k (λ j. only (p j) (d j)) → (p i ≡ true) × Tight k n x c p
broken_tight k n x c d i h other own p crit more = go (is (p i))
  where
    moves : sum k (λ j. only (p j) (d j)) + only (p i) (c i) ≡ sum k (λ j. only (p j) (c j)) + only (p i) (d i)
    moves = sum_but k (λ j. only (p j) (d j)) (λ j. only (p j) (c j)) i h (λ j l ne. ap (λ (v : ℕ). only (p j) v) (other j l ne))

    go : Is (p i) → (p i ≡ true) × Tight k n x c p
    go (is_true e) = (e, omega (arith, crit p, moves, ap (λ (b : Bool). only b (c i)) e, ap (λ (b : Bool). only b (d i)) e))
    go (is_false e) =
        absurd (omega (arith, crit p, moves, ap (λ (b : Bool). only b (c i)) e, ap (λ (b : Bool). only b (d i)) e))

-- ---- the greatest number that passes a test

most_yes : (o : ℕ) (t : ℕ → Bool) → t (suc o) ≡ true → most (suc o) t ≡ suc o
unfolding most
most_yes o t e = rw (e, most)

most_no : (o : ℕ) (t : ℕ → Bool) → t (suc o) ≡ false → most (suc o) t ≡ most o t
unfolding most
most_no o t e = rw (e, most)

pub most_le : (o : ℕ) (t : ℕ → Bool) → most o t ≤ o
unfolding most
most_le zero t = zero-le
most_le (suc o) t = go (is (t (suc o))) (most_le o t)
  where
    go : Is (t (suc o)) → most o t ≤ o → most (suc o) t ≤ suc o
    go (is_true e) h = omega (arith, most_yes o t e)
    go (is_false e) h = omega (arith, most_no o t e)

pub most_passes : (o : ℕ) (t : ℕ → Bool) → t 0 ≡ true → t (most o t) ≡ true
unfolding most
most_passes zero t z = z
most_passes (suc o) t z = go (is (t (suc o))) (most_passes o t z)
  where
    go : Is (t (suc o)) → t (most o t) ≡ true → t (most (suc o) t) ≡ true
    go (is_true e) h = ap t (most_yes o t e) ∙ e
    go (is_false e) h = ap t (most_no o t e) ∙ h

-- nothing is left of the bound, or one more does not pass
pub most_stops : (o : ℕ) (t : ℕ → Bool) → (most o t ≡ o) ⊎ (t (suc (most o t)) ≡ false)
unfolding most
most_stops zero t = inl refl
most_stops (suc o) t = go (is (t (suc o))) (most_stops o t)
  where
    go : Is (t (suc o)) → (most o t ≡ o) ⊎ (t (suc (most o t)) ≡ false) → (most (suc o) t ≡ suc o) ⊎ (t (suc (most (suc o) t)) ≡ false)
    go (is_true e) h = inl (most_yes o t e)
    go (is_false e) (inl h) = inr (ap (λ (g : ℕ). t (suc g)) (most_no o t e ∙ h) ∙ e)
    go (is_false e) (inr h) = inr (ap (λ (g : ℕ). t (suc g)) (most_no o t e) ∙ h)

-- ---- one turn

-- the needs of a raised job
pub at_raised : (l : List ℕ) (i g : ℕ) → i < length l → at (raised l i g) i ≡ at l i + g
at_raised l i g h = get_or-set_same l i (at l i + g) 0 h

pub at_raised_other : (l : List ℕ) (i g j : ℕ) → (j ≡ i → ⊥) → at (raised l i g) j ≡ at l j
at_raised_other l i g j ne = get_or-set_other l i j (at l i + g) 0 ne

pub raised_zero : (l : List ℕ) (i : ℕ) → raised l i 0 ≡ l
raised_zero l i = ap (λ (v : ℕ). set l i v) (omega arith) ∙ set-get_or l i 0

-- what job i gets in its turn
abbrev pub grant : (fits : List ℕ → Bool) (o l : List ℕ) → ℕ → ℕ
grant fits o l i = most (at o i) (λ g. fits (raised l i g))

module _ (fits : List ℕ → Bool) (rank : ℕ → ℕ) (o : List ℕ) (r : ℕ) (l : List ℕ) where
  pub length_turn : length (turn fits rank o r l) ≡ length l
  unfolding turn
  length_turn = length_tabulate (length l) (λ i. at l i + only (eqb (rank i) r) (grant fits o l i))

  pub at_turn : (i : ℕ) → i < length l → at (turn fits rank o r l) i ≡ at l i + only (eqb (rank i) r) (grant fits o l i)
  unfolding turn
  at_turn i h = at_tabulate (length l) (λ j. at l j + only (eqb (rank j) r) (grant fits o l j)) i h

  pub at_turn_own : (i : ℕ) → i < length l → rank i ≡ r → at (turn fits rank o r l) i ≡ at l i + grant fits o l i
  at_turn_own i h e = rw (eqb_yes (rank i) r e) at (at_turn i h)

  pub at_turn_other : (i : ℕ) → i < length l → (rank i ≡ r → ⊥) → at (turn fits rank o r l) i ≡ at l i
  at_turn_other i h ne = omega (arith, rw (eqb_no (rank i) r ne) at (at_turn i h))

  -- a rank that no job has changes nothing
  pub turn_none : ((i : ℕ) → i < length l → rank i ≡ r → ⊥) → turn fits rank o r l ≡ l
  turn_none h = ext_get_or 0 (turn fits rank o r l) l length_turn (λ i m. at_turn_other i (rw length_turn at m) (h i (rw length_turn at m)))

  -- the job of rank r is raised, and no other
  pub turn_one : (i : ℕ) → i < length l → rank i ≡ r → ((j : ℕ) → j < length l → rank j ≡ rank i → j ≡ i)
      → turn fits rank o r l ≡ raised l i (grant fits o l i)
  turn_one i h e one =
      ext_get_or 0 (turn fits rank o r l) (raised l i (grant fits o l i)) (length_turn ∙ sym (length-set l i (at l i + grant fits o l i))) each
    where
      go : (j : ℕ) → j < length l → Is (eqb j i) → at (turn fits rank o r l) j ≡ at (raised l i (grant fits o l i)) j
      go j m (is_true q) = rw (eq_of j i q) (at_turn_own i h e ∙ sym (at_raised l i (grant fits o l i) h))
      go j m (is_false q) =
          at_turn_other j m (λ s. ne_of j i q (one j m (s ∙ sym e))) ∙ sym (at_raised_other l i (grant fits o l i) j (ne_of j i q))

      each : (j : ℕ) → j < length (turn fits rank o r l) → at (turn fits rank o r l) j ≡ at (raised l i (grant fits o l i)) j
      each j m = go j (rw length_turn at m) (is (eqb j i))

-- ---- the grants

-- what the needs y give the jobs of the first r ranks beyond l
abbrev pub gains : (k : ℕ) (rank : ℕ → ℕ) (l : List ℕ) (r : ℕ) (y : ℕ → ℕ) → ℕ
gains k rank l r y = sum k (λ i. only (ltb (rank i) r) (y i - at l i))

-- Needs that obey the criterion give the first r ranks at most what a selection p leaves: its capacity less its mandatory slots, and the
-- optional slots of those of them that it lacks.
pub gains_le : (k n : ℕ) (x rank : ℕ → ℕ) (l o : List ℕ) (r : ℕ) (y : ℕ → ℕ) → Criterion k y n x
    → ((i : ℕ) → i < k → at l i ≤ y i) → ((i : ℕ) → i < k → y i ≤ at l i + at o i) → (p : ℕ → Bool)
    → gains k rank l r y + sum k (λ i. only (p i) (at l i)) ≤ capacity n x (count k p) + sum k (λ i. only (ltb (rank i) r && not (p i)) (at o i))
gains_le k n x rank l o r y crit low high p =
    omega (
      arith,
      sum_le_two k (λ i. only (ltb (rank i) r) (y i - at l i)) (λ i. only (p i) (at l i)) (λ i. only (p i) (y i))
          (λ i. only (ltb (rank i) r && not (p i)) (at o i))
          (λ i h. each (ltb (rank i) r) (p i) (at l i) (y i) (at o i) (low i h) (high i h)),
      crit p,
    )
  where
    each : (b t : Bool) (u v w : ℕ) → u ≤ v → v ≤ u + w → only b (v - u) + only t u ≤ only t v + only (b && not t) w
    each true true u v w lo hi = omega arith
    each true false u v w lo hi = omega arith
    each false true u v w lo hi = omega arith
    each false false u v w lo hi = omega arith

-- After r ranks: a tight selection that has every job of the first r ranks that got less than its optional slots.
record Held (k n : ℕ) (x rank : ℕ → ℕ) (l o : List ℕ) (r : ℕ) (m : List ℕ) : Type 0 where
  held : ℕ → Bool
  tight : Tight k n x (at m) held
  has : (i : ℕ) → i < k → rank i < r → at m i < at l i + at o i → held i ≡ true

-- The premises: the test says whether needs obey the criterion, a failed test names a selection that breaks it, no two jobs have one rank, and
-- the needs at the start pass.
pub record Premises (k n : ℕ) (x : ℕ → ℕ) (fits : List ℕ → Bool) (rank : ℕ → ℕ) (l : List ℕ) : Type 0 where
  pub fits_is : (m : List ℕ) → length m ≡ k → (fits m ≡ true) ↔ Criterion k (at m) n x
  pub fits_no : (m : List ℕ) → length m ≡ k → fits m ≡ false → (p : ℕ → Bool) × (capacity n x (count k p) < sum k (λ i. only (p i) (at m i)))
  pub injective : (i j : ℕ) → i < k → j < k → rank i ≡ rank j → i ≡ j
  pub long : length l ≡ k
  pub start : fits l ≡ true

module _ {k n : ℕ} {x : ℕ → ℕ} {fits : List ℕ → Bool} {rank : ℕ → ℕ} {l : List ℕ} (P : Premises k n x fits rank l) (o : List ℕ) where
  abbrev stage : ℕ → List ℕ
  stage r = granted fits rank o l r

  pub granted_long : (r : ℕ) → length (granted fits rank o l r) ≡ k
  unfolding granted
  granted_long zero = P.long
  granted_long (suc r) = length_turn fits rank o r (stage r) ∙ granted_long r

  inside : (r i : ℕ) → i < k → i < length (stage r)
  inside r i h = omega (arith, granted_long r)

  ranked : (r : ℕ) → ((i : ℕ) × (i < k) × (rank i ≡ r)) ⊎ ((i : ℕ) → i < k → rank i ≡ r → ⊥)
  ranked r = either k (λ i h. eq_or_ne (rank i) r)

  -- where the needs fit, those with the grant of job i fit
  grant_fits : (r i : ℕ) → fits (stage r) ≡ true → fits (raised (stage r) i (grant fits o (stage r) i)) ≡ true
  grant_fits r i h = most_passes (at o i) (λ g. fits (raised (stage r) i g)) (ap fits (raised_zero (stage r) i) ∙ h)

  pub granted_fits : (r : ℕ) → fits (granted fits rank o l r) ≡ true
  unfolding granted
  granted_fits zero = P.start
  granted_fits (suc r) = ⊎_elim (λ w. job w.0 w.1 w.2 (granted_fits r)) (λ none. nobody none (granted_fits r)) (ranked r)
    where
      job : (i : ℕ) → i < k → rank i ≡ r → fits (stage r) ≡ true → fits (stage (suc r)) ≡ true
      job i h e ih =
          ap fits (turn_one fits rank o r (stage r) i (inside r i h) e (λ j m. P.injective j i (omega (arith, granted_long r)) h))
          ∙ grant_fits r i ih

      nobody : ((i : ℕ) → i < k → rank i ≡ r → ⊥) → fits (stage r) ≡ true → fits (stage (suc r)) ≡ true
      nobody none ih = ap fits (turn_none fits rank o r (stage r) (λ i m. none i (omega (arith, granted_long r)))) ∙ ih

  -- a number is a job, or nothing is needed there at any stage
  in_or_past : {A : Type 0} (i : ℕ) → (i < k → A) → (((r : ℕ) → at (granted fits rank o l r) i ≡ 0) → A) → A
  in_or_past {A} i inner past = go (is (ltb i k))
    where
      go : Is (ltb i k) → A
      go (is_true e) = inner (lt_of i k e)
      go (is_false e) = past (λ r. at_past (stage r) i (omega (arith, granted_long r, ge_of i k e)))

  -- in the turn of another rank nothing changes
  other_turn : (r i : ℕ) → (rank i ≡ r → ⊥) → at (stage (suc r)) i ≡ at (stage r) i
  unfolding granted
  other_turn r i ne = in_or_past i (λ h. at_turn_other fits rank o r (stage r) i (inside r i h) ne) (λ z. z (suc r) ∙ sym (z r))

  -- a job whose turn has not come has its mandatory slots alone
  pub granted_later : (r i : ℕ) → r ≤ rank i → at (granted fits rank o l r) i ≡ at l i
  unfolding granted
  granted_later zero i h = refl
  granted_later (suc r) i h = other_turn r i (λ e. omega arith) ∙ granted_later r i (omega arith)

  -- in its turn it gets its grant
  own_turn : (r i : ℕ) → i < k → rank i ≡ r → at (stage (suc r)) i ≡ at l i + grant fits o (stage r) i
  unfolding granted
  own_turn r i h e = omega (arith, at_turn_own fits rank o r (stage r) i (inside r i h) e, granted_later r i (omega arith))

  -- after its turn a job's need does not change
  pub granted_kept : (r i : ℕ) → rank i < r → at (granted fits rank o l (suc r)) i ≡ at (granted fits rank o l r) i
  granted_kept r i h = other_turn r i (λ e. omega arith)

  pub granted_since : (r R i : ℕ) → rank i < r → r ≤ R → at (granted fits rank o l R) i ≡ at (granted fits rank o l r) i
  granted_since r zero i h m = absurd (omega arith)
  granted_since r (suc R) i h m = go (granted_since r R i h) (is (eqb r (suc R)))
    where
      go : (r ≤ R → at (stage R) i ≡ at (stage r) i) → Is (eqb r (suc R)) → at (stage (suc R)) i ≡ at (stage r) i
      go ih (is_true e) = ap (λ (q : ℕ). at (stage q) i) (sym (eq_of r (suc R) e))
      go ih (is_false e) = let ne : r ≡ suc R → ⊥ = ne_of r (suc R) e in granted_kept R i (omega arith) ∙ ih (omega arith)

  -- The rule itself: the job of rank r has g more, with which all still fits, and g is all of its optional slots or one more does not fit.
  pub granted_most : (r i : ℕ) → i < k → rank i ≡ r
      → (g : ℕ)
      × (at (granted fits rank o l (suc r)) i ≡ at l i + g)
      × (fits (raised (granted fits rank o l r) i g) ≡ true)
      × ((g ≡ at o i) ⊎ (fits (raised (granted fits rank o l r) i (suc g)) ≡ false))
  granted_most r i h e = (
    grant fits o (stage r) i,
    own_turn r i h e,
    grant_fits r i (granted_fits r),
    most_stops (at o i) (λ g. fits (raised (stage r) i g)),
  )

  grows : (r i : ℕ) → at (stage r) i ≤ at (stage (suc r)) i
  unfolding granted
  grows r i =
      in_or_past i (λ h. omega (arith, at_turn fits rank o r (stage r) i (inside r i h))) (λ z. omega (arith, z r))

  pub granted_low : (r i : ℕ) → at l i ≤ at (granted fits rank o l r) i
  unfolding granted
  granted_low zero i = le_refl (at l i)
  granted_low (suc r) i = omega (arith, granted_low r i, grows r i)

  pub granted_high : (r i : ℕ) → at (granted fits rank o l r) i ≤ at l i + at o i
  unfolding granted
  granted_high zero i = omega arith
  granted_high (suc r) i = ⊎_elim own (λ ne. omega (arith, other_turn r i ne, granted_high r i)) (eq_or_ne (rank i) r)
    where
      own : rank i ≡ r → at (stage (suc r)) i ≤ at l i + at o i
      own e =
          in_or_past i (λ h. omega (arith, own_turn r i h e, most_le (at o i) (λ g. fits (raised (stage r) i g)))) (λ z. omega (arith, z (suc r)))

  obeys : (r : ℕ) → Criterion k (at (stage r)) n x
  obeys r = (P.fits_is (stage r) (granted_long r)).0 (granted_fits r)

  -- a job that one unit more does not fit is in a tight selection
  stopped : (r i : ℕ) → i < k → rank i ≡ r → (g : ℕ) → at (stage (suc r)) i ≡ at l i + g → fits (raised (stage r) i (suc g)) ≡ false
      → (p : ℕ → Bool) × (p i ≡ true) × Tight k n x (at (stage (suc r))) p
  stopped r i h e g at_i not-fits = go (P.fits_no next (length-set (stage r) i (at (stage r) i + suc g) ∙ granted_long r) not-fits)
    where
      next : List ℕ
      next = raised (stage r) i (suc g)

      other : (j : ℕ) → j < k → (j ≡ i → ⊥) → at next j ≡ at (stage (suc r)) j
      other j m ne = at_raised_other (stage r) i (suc g) j ne ∙ sym (other_turn r j (λ q. ne (P.injective j i m h (q ∙ sym e))))

      own : at next i ≡ suc (at (stage (suc r)) i)
      own = omega (arith, at_raised (stage r) i (suc g) (inside r i h), granted_later r i (omega arith))

      go : ((p : ℕ → Bool) × (capacity n x (count k p) < sum k (λ j. only (p j) (at next j))))
          → (p : ℕ → Bool) × (p i ≡ true) × Tight k n x (at (stage (suc r))) p
      go w =
          let b = broken_tight k n x (at (stage (suc r))) (at next) i h other own w.0 (obeys (suc r)) w.1 in
          (w.0, b.0, b.1)

  -- one turn more, with a tight selection that has the job of rank r if that got less
  join : (r : ℕ) → Held k n x rank l o r (stage r) → (p : ℕ → Bool) → Tight k n x (at (stage (suc r))) p
      → ((i : ℕ) → i < k → rank i ≡ r → at (stage (suc r)) i < at l i + at o i → p i ≡ true)
      → Held k n x rank l o (suc r) (stage (suc r))
  join r H p t own =
      record {
        held = λ i. H.held i || p i;
        tight = tight_or k n x (at (stage (suc r))) H.held p (obeys (suc r)) still t;
        has = λ i h m less. go i h m less (is (eqb (rank i) r));
      }
    where
      still : Tight k n x (at (stage (suc r))) H.held
      still = tight_grown k n x (at (stage r)) (at (stage (suc r))) H.held (λ i h. grows r i) (obeys (suc r)) H.tight

      go : (i : ℕ) → i < k → rank i < suc r → at (stage (suc r)) i < at l i + at o i → Is (eqb (rank i) r) → (H.held i || p i) ≡ true
      go i h m less (is_true e) = or_right (H.held i) (p i) (own i h (eq_of (rank i) r e) less)
      go i h m less (is_false e) =
          let ne : rank i ≡ r → ⊥ = ne_of (rank i) r e in
          or_left (H.held i) (p i) (H.has i h (omega arith) (omega (arith, grows r i)))

  holds : (r : ℕ) → Held k n x rank l o r (stage r)
  unfolding granted
  holds zero = record { held = λ i. false; tight = tight_none k n x (at l); has = λ i h m. absurd (omega arith) }
  holds (suc r) =
      ⊎_elim (λ w. job (holds r) w.0 w.1 w.2 (granted_most r w.0 w.1 w.2))
      (λ none. nobody (holds r) (λ i h e less. none i h e)) (ranked r)
    where
      nobody : Held k n x rank l o r (stage r) → ((i : ℕ) → i < k → rank i ≡ r → at (stage (suc r)) i < at l i + at o i → ⊥)
          → Held k n x rank l o (suc r) (stage (suc r))
      nobody H never = join r H (λ i. false) (tight_none k n x (at (stage (suc r)))) (λ i h e less. absurd (never i h e less))

      has_all : (i : ℕ) → at (stage (suc r)) i ≡ at l i + at o i → (j : ℕ) → j ≡ i → at (stage (suc r)) j < at l j + at o j → ⊥
      has_all i e j same less = omega (arith, ap (at (stage (suc r))) same, ap (at l) same, ap (at o) same)

      job : Held k n x rank l o r (stage r) → (i : ℕ) → i < k → rank i ≡ r
          → ((g : ℕ)
          × (at (stage (suc r)) i ≡ at l i + g)
          × (fits (raised (stage r) i g) ≡ true)
          × ((g ≡ at o i) ⊎ (fits (raised (stage r) i (suc g)) ≡ false)))
          → Held k n x rank l o (suc r) (stage (suc r))
      job H i h e (g, at_i, f, inl all) = nobody H (λ j hj ej. has_all i (omega arith) j (P.injective j i hj h (ej ∙ sym e)))
      job H i h e (g, at_i, f, inr stop) =
          let w = stopped r i h e g at_i stop in
          join r H w.0 w.2 (λ j hj ej less. ap w.0 (P.injective j i hj h (ej ∙ sym e)) ∙ w.1)

  -- a job of the first r ranks that the tight selection lacks has all of its optional slots
  full : (r : ℕ) (H : Held k n x rank l o r (stage r)) (i : ℕ) → i < k → rank i < r → H.held i ≡ false → at l i + at o i ≤ at (stage r) i
  full r H i h m e =
      ge_of (at (stage r) i) (at l i + at o i)
      (not-true _ (λ less. clash (sym (H.has i h m (lt_of (at (stage r) i) (at l i + at o i) less)) ∙ e)))

  -- what the first r ranks got is settled after r turns
  gains_since : (r R : ℕ) → r ≤ R → gains k rank l r (at (stage R)) ≡ gains k rank l r (at (stage r))
  gains_since r R m =
      sum_ext k (λ i. only (ltb (rank i) r) (at (stage R) i - at l i)) (λ i. only (ltb (rank i) r) (at (stage r) i - at l i))
      (λ i h. go i (is (ltb (rank i) r)))
    where
      go : (i : ℕ) → Is (ltb (rank i) r) → only (ltb (rank i) r) (at (stage R) i - at l i) ≡ only (ltb (rank i) r) (at (stage r) i - at l i)
      go i (is_true e) = ap (λ (v : ℕ). only (ltb (rank i) r) (v - at l i)) (granted_since r R i (lt_of (rank i) r e) m)
      go i (is_false e) = rw e refl

  -- The grants of the first r ranks are the least, over the selections, of what a selection leaves them: no selection leaves less ..
  pub granted_formula_le : (r R : ℕ) → (p : ℕ → Bool)
      → gains k rank l r (at (granted fits rank o l R)) + sum k (λ i. only (p i) (at l i))
      ≤ capacity n x (count k p) + sum k (λ i. only (ltb (rank i) r && not (p i)) (at o i))
  granted_formula_le r R = gains_le k n x rank l o r (at (stage R)) (obeys R) (λ i h. granted_low R i) (λ i h. granted_high R i)

  -- .. and one leaves just that
  pub granted_formula : (r R : ℕ) → r ≤ R
      → (t : ℕ → Bool)
      × (gains k rank l r (at (granted fits rank o l R)) + sum k (λ i. only (t i) (at l i))
      ≡ capacity n x (count k t) + sum k (λ i. only (ltb (rank i) r && not (t i)) (at o i)))
  granted_formula r R m = go (holds r)
    where
      go : Held k n x rank l o r (stage r)
          → (t : ℕ → Bool)
          × (gains k rank l r (at (stage R)) + sum k (λ i. only (t i) (at l i))
          ≡ capacity n x (count k t) + sum k (λ i. only (ltb (rank i) r && not (t i)) (at o i)))
      go H = (
        H.held,
        omega (
          arith,
          granted_formula_le r R H.held,
          sum_le_two k (λ i. only (H.held i) (at (stage r) i)) (λ i. only (ltb (rank i) r && not (H.held i)) (at o i))
              (λ i. only (ltb (rank i) r) (at (stage r) i - at l i)) (λ i. only (H.held i) (at l i))
              (λ i h. each i h (is (ltb (rank i) r)) (is (H.held i))),
          gains_since r R m,
          H.tight,
        ),
      )
        where
          each : (i : ℕ) → i < k → Is (ltb (rank i) r) → Is (H.held i)
              → only (H.held i) (at (stage r) i) + only (ltb (rank i) r && not (H.held i)) (at o i)
              ≤ only (ltb (rank i) r) (at (stage r) i - at l i) + only (H.held i) (at l i)
          each i h (is_true b) (is_true t) = rw (b, t) (omega (arith, granted_low r i))
          each i h (is_true b) (is_false t) = rw (b, t) (omega (arith, full r H i h (lt_of (rank i) r b) t))
          each i h (is_false b) (is_true t) = rw (b, t) (omega (arith, granted_later r i (ge_of (rank i) r b)))
          each i h (is_false b) (is_false t) = rw (b, t) (le_refl 0)

  -- No plan gives the first r ranks more, for every r.
  pub granted_best : (r R : ℕ) → r ≤ R → (y : ℕ → ℕ) → Criterion k y n x → ((i : ℕ) → i < k → at l i ≤ y i)
      → ((i : ℕ) → i < k → y i ≤ at l i + at o i) → gains k rank l r y ≤ gains k rank l r (at (granted fits rank o l R))
  granted_best r R m y crit low high =
      let t = granted_formula r R m in
      omega (arith, t.1, gains_le k n x rank l o r y crit low high t.0)
