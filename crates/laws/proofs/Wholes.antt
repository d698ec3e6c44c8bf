-- Whole presets: the sets whose optional slots fit beside all needs, the first of the largest of them, and the bound by which the search leaves out sets.
--
-- In order: the needs with a set met: their length, none met, a part of a set (`met_le`), their sum (`met_sum`); the test is monotone (`met_monotone`); the
-- first of the largest sets (`choice_met`, `met_first_largest`); what goes into the capacity less all needs so far: of the presets left at most as many more as the shortest of
-- them (`met_bound`), in the set found, too (`choice_bound`), so that the sets without the next preset need not be tried where they cannot be
-- larger (`choice_pruned`); examples.
-- Assumes nothing.
use Prim.Native.Nat.{ℕ, zero, suc, ◌+◌, ◌-◌, ◌≤◌, ◌<◌}
use native.Mathlib.Nat.{le_refl}
use native.Mathlib.Omega.{arith}
use mathlib.Core.Path.{◌≡◌, refl, sym, ◌∙◌, ap}
use mathlib.Core.Logic.{◌↔◌}
use mathlib.Core.Bool.{Bool, true, false}
use mathlib.Core.List.{List, [], ◌∷◌}
use lib.ListN.{length, get_or, replicate, length-set}
use lib.Dec.{ltb, eqb}
use Rattle.laws.specs.Sums.{bit, only, sum, count, greatest}
use Rattle.laws.specs.Lists.{at}
use Rattle.laws.specs.Placement.{capacity, Criterion, excess}
use Rattle.laws.specs.Grants.{most, raised}
use Rattle.laws.specs.Eviction.{ones}
use Rattle.laws.specs.Subsets.{Subset, end, alike, fewer, Monotone, FirstLargest, choice}
use Rattle.laws.specs.Wholes.{met, bound}
use Rattle.laws.proofs.Tests.{Is, is, is_true, is_false}
use Rattle.laws.proofs.Comparisons.{lt_of, ge_of, eq_of, ne_of}
use Rattle.laws.proofs.Sums.{sum_but, sum_first, sum_zero}
use Rattle.laws.proofs.Counts.{count_all}
use Rattle.laws.proofs.Lists.{All, none, more, at_past}
use Rattle.laws.proofs.Placement.{criterion_less}
use Rattle.laws.proofs.Grants.{at_raised, at_raised_other}
use Rattle.laws.proofs.Subsets.{choice_taken, choice_first_largest, first_largest_of_iff}
use Rattle.laws.proofs.Fitting.{fitting_le}

-- ---- the needs with a set met

pub met_long : (o ws : List ℕ) (e : List Bool) (n : List ℕ) → length (met o ws e n) ≡ length n
unfolding met
met_long o [] e n = refl
met_long o (w ∷ ws) [] n = refl
met_long o (w ∷ ws) (true ∷ e) n = met_long o ws e (raised n w (at o w)) ∙ length-set n w (at n w + at o w)
met_long o (w ∷ ws) (false ∷ e) n = met_long o ws e n

pub met_none : (o ws : List ℕ) (k : ℕ) (n : List ℕ) → met o ws (replicate k false) n ≡ n
unfolding met
met_none o [] k n = refl
met_none o (w ∷ ws) zero n = refl
met_none o (w ∷ ws) (suc k) n = met_none o ws k n

-- needs that are no greater, and of which one is raised or both are, stay so
raised_le : (n m : List ℕ) (w g i : ℕ) → length n ≡ length m → at n i ≤ at m i → at (raised n w g) i ≤ at (raised m w g) i
raised_le n m w g i l h = go (is (eqb i w)) (is (ltb w (length n)))
  where
    go : Is (eqb i w) → Is (ltb w (length n)) → at (raised n w g) i ≤ at (raised m w g) i
    go (is_false e) t = omega (arith, at_raised_other n w g i (ne_of i w e), at_raised_other m w g i (ne_of i w e))
    go (is_true e) (is_true t) =
        let here : i ≡ w = eq_of i w e in
        let inside : w < length n = lt_of w (length n) t in
        omega (
          arith,
          ap (at (raised n w g)) here,
          ap (at (raised m w g)) here,
          ap (at n) here,
          ap (at m) here,
          at_raised n w g inside,
          at_raised m w g (omega arith),
        )
    go (is_true e) (is_false t) =
        omega (arith, eq_of i w e, at_past (raised n w g) i (omega (arith, eq_of i w e, ge_of w (length n) t, length-set n w (at n w + g))))

raised_up : (n : List ℕ) (w g i : ℕ) → at n i ≤ at (raised n w g) i
raised_up n w g i = go (is (eqb i w)) (is (ltb w (length n)))
  where
    go : Is (eqb i w) → Is (ltb w (length n)) → at n i ≤ at (raised n w g) i
    go (is_false e) t = omega (arith, at_raised_other n w g i (ne_of i w e))
    go (is_true e) (is_true t) =
        let here : i ≡ w = eq_of i w e in
        omega (arith, ap (at (raised n w g)) here, ap (at n) here, at_raised n w g (lt_of w (length n) t))
    go (is_true e) (is_false t) = omega (arith, at_past n i (omega (arith, eq_of i w e, ge_of w (length n) t)))

-- a part of a set needs no more
met_le_two : (o ws : List ℕ) {d e : List Bool} → Subset d e → (n m : List ℕ) → length n ≡ length m → ((i : ℕ) → at n i ≤ at m i)
    → (i : ℕ) → at (met o ws d n) i ≤ at (met o ws e m) i
unfolding met
met_le_two o [] s n m l h i = h i
met_le_two o (w ∷ ws) end n m l h i = h i
met_le_two o (w ∷ ws) (alike {b = true} s) n m l h i =
    met_le_two o ws s (raised n w (at o w)) (raised m w (at o w))
    (length-set n w (at n w + at o w) ∙ l ∙ sym (length-set m w (at m w + at o w)))
    (λ j. raised_le n m w (at o w) j l (h j)) i
met_le_two o (w ∷ ws) (alike {b = false} s) n m l h i = met_le_two o ws s n m l h i
met_le_two o (w ∷ ws) (fewer s) n m l h i =
    met_le_two o ws s n (raised m w (at o w)) (l ∙ sym (length-set m w (at m w + at o w))) (λ j. omega (arith, h j, raised_up m w (at o w) j)) i

pub met_le : (o ws : List ℕ) {d e : List Bool} → Subset d e → (n : List ℕ) (i : ℕ) → at (met o ws d n) i ≤ at (met o ws e n) i
met_le o ws s n = met_le_two o ws s n n refl (λ i. le_refl (at n i))

-- whether a set has the preset at a place
abbrev pub has : List Bool → ℕ → Bool
has e j = get_or e j false

pub ones_count : (k : ℕ) (e : List Bool) → length e ≡ k → ones e ≡ count k (has e)
unfolding ones sum
ones_count zero [] l = refl
ones_count zero (b ∷ e) l = absurd (omega arith)
ones_count (suc k) [] l = absurd (omega arith)
ones_count (suc k) (b ∷ e) l = omega (arith, ones_count k e (omega arith), sum_first k (λ j. bit (has (b ∷ e) j)))

sum_raised : (k : ℕ) (n : List ℕ) (w g : ℕ) → length n ≡ k → w < k → sum k (at (raised n w g)) ≡ sum k (at n) + g
sum_raised k n w g l h =
    omega (arith, sum_but k (at (raised n w g)) (at n) w h (λ j m ne. at_raised_other n w g j ne), at_raised n w g (omega (arith, l)))

-- all needs together rise by the optional slots of the set
pub met_sum : (k : ℕ) (o : List ℕ) {ws : List ℕ} → All (λ w. w < k) ws → (e : List Bool) (n : List ℕ) → length n ≡ k
    → sum k (at (met o ws e n)) ≡ sum k (at n) + sum (length ws) (λ j. only (has e j) (at o (at ws j)))
unfolding met sum
met_sum k o none e n l = omega arith
met_sum k o (more {a = w} {l = ws} h all) [] n l = omega (arith, sum_zero (suc (length ws)) (λ j. 0) (λ j m. refl))
met_sum k o (more {a = w} {l = ws} h all) (true ∷ e) n l =
    omega (
      arith,
      met_sum k o all e (raised n w (at o w)) (length-set n w (at n w + at o w) ∙ l),
      sum_raised k n w (at o w) l h,
      sum_first (length ws) (λ j. only (has (true ∷ e) j) (at o (at (w ∷ ws) j))),
    )
met_sum k o (more {a = w} {l = ws} h all) (false ∷ e) n l =
    omega (arith, met_sum k o all e n l, sum_first (length ws) (λ j. only (has (false ∷ e) j) (at o (at (w ∷ ws) j))))

-- ---- the first of the largest sets

-- The test says whether needs of k presets obey the criterion.
module _ (k m : ℕ) (x : ℕ → ℕ) (fits : List ℕ → Bool)
    (fits_is : (n : List ℕ) → length n ≡ k → (fits n ≡ true) ↔ Criterion k (at n) m x) (o : List ℕ) where
  pub met_monotone : (ws n : List ℕ) → length n ≡ k → Monotone (λ e. fits (met o ws e n))
  met_monotone ws n l d e s h =
      (fits_is (met o ws d n) (met_long o ws d n ∙ l)).1
      (criterion_less k (at (met o ws d n)) (at (met o ws e n)) m x (λ i r. met_le o ws s n i)
      ((fits_is (met o ws e n) (met_long o ws e n ∙ l)).0 h))

  -- Where all needs fit, the set found is the first of the largest with which they still do.
  pub choice_met : (ws n : List ℕ) → length n ≡ k → fits n ≡ true
      → FirstLargest (λ e. fits (met o ws e n) ≡ true) (length ws) (choice (λ e. fits (met o ws e n)) (length ws))
  choice_met ws n l h =
      choice_first_largest (λ e. fits (met o ws e n)) (met_monotone ws n l) (length ws) (ap fits (met_none o ws (length ws) n) ∙ h)

  -- the same in terms of the criterion, so of placements
  pub met_first_largest : (ws n : List ℕ) → length n ≡ k → fits n ≡ true
      → FirstLargest (λ e. Criterion k (at (met o ws e n)) m x) (length ws) (choice (λ e. fits (met o ws e n)) (length ws))
  met_first_largest ws n l h =
      first_largest_of_iff (λ e. fits (met o ws e n) ≡ true) (λ e. Criterion k (at (met o ws e n)) m x) (length ws)
      (λ e r. fits_is (met o ws e n) (met_long o ws e n ∙ l)) (choice (λ e. fits (met o ws e n)) (length ws)) (choice_met ws n l h)

  -- ---- the bound

  -- a set that fits has no more
  pub met_bound : (ws n : List ℕ) → length n ≡ k → All (λ w. w < k) ws → (e : List Bool) → length e ≡ length ws → fits (met o ws e n) ≡ true
      → ones e ≤ bound k m x o ws n
  met_bound ws n l inside e r h =
      let crit = (fits_is (met o ws e n) (met_long o ws e n ∙ l)).0 h (λ i. true) in
      let all : count k (λ i. true) ≡ k = count_all k (λ i. true) (λ i q. refl) in
      omega (
        arith,
        ones_count (length ws) e r,
        fitting_le (length ws) (λ j. at o (at ws j)) (capacity m x k - sum k (at n)) (has e)
            (omega (arith, crit, ap (capacity m x) all, met_sum k o inside e n l)),
      )

  -- nor has the set found
  pub choice_bound : (ws n : List ℕ) → length n ≡ k → All (λ w. w < k) ws → fits n ≡ true
      → ones (choice (λ e. fits (met o ws e n)) (length ws)) ≤ bound k m x o ws n
  choice_bound ws n l inside h =
      let F = choice_met ws n l h in
      met_bound ws n l inside (choice (λ e. fits (met o ws e n)) (length ws)) F.long F.fits

  -- So where a preset fits and the set found with it has at least as many as the bound for those left, the sets without it need not be tried.
  pub choice_pruned : (w : ℕ) (ws n : List ℕ) → length n ≡ k → All (λ w. w < k) ws → fits n ≡ true → fits (raised n w (at o w)) ≡ true
      → bound k m x o ws n ≤ suc (ones (choice (λ e. fits (met o ws e (raised n w (at o w)))) (length ws)))
      → choice (λ e. fits (met o (w ∷ ws) e n)) (suc (length ws)) ≡ true ∷ choice (λ e. fits (met o ws e (raised n w (at o w)))) (length ws)
  unfolding met
  choice_pruned w ws n l inside h own enough =
      choice_taken (λ e. fits (met o (w ∷ ws) e n)) (length ws) (ap fits (met_none o ws (length ws) (raised n w (at o w))) ∙ own)
      (omega (arith, choice_bound ws n l inside h))

-- ---- examples

-- Three presets of 3, 1 and 1 optional slots, best rank first, and three slots with one free cell each: the largest set leaves out the first preset ..
without_longest : choice (λ e. eqb (excess 3 (at (met (3 ∷ 1 ∷ 1 ∷ []) (0 ∷ 1 ∷ 2 ∷ []) e (0 ∷ 0 ∷ 0 ∷ []))) 3 (λ s. 1)) 0) 3 ≡ false ∷ true ∷ true ∷ []
unfolding choice ones met sum greatest
without_longest = refl

-- .. and two is the bound
two_at_most : bound 3 3 (λ s. 1) (3 ∷ 1 ∷ 1 ∷ []) (0 ∷ 1 ∷ 2 ∷ []) (0 ∷ 0 ∷ 0 ∷ []) ≡ 2
unfolding most sum
two_at_most = refl

-- Of two presets of 2 slots each one fits into two slots: the better rank.
better_rank : choice (λ e. eqb (excess 2 (at (met (2 ∷ 2 ∷ []) (1 ∷ 0 ∷ []) e (0 ∷ 0 ∷ []))) 2 (λ s. 1)) 0) 2 ≡ true ∷ false ∷ []
unfolding choice ones met sum greatest
better_rank = refl
