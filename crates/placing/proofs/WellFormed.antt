-- The well-formed table and its test agree, and both look at the cells of the frame alone.
--
-- In order: tests of every cell; the mandatory cells below a slot; the test gives the record (`well_formed_of`), and the record the test
-- (`of_well_formed`); a table with the same cells in the frame is as well-formed, as valid for a plan and as valid for a call; a number stands at
-- most once in a slot.
-- Assumes nothing.
use Prim.Native.Nat.{ℕ, ◌≤◌, ◌<◌}
use native.Mathlib.Nat.{lt_of_not-le}
use native.Mathlib.Omega.{arith}
use mathlib.Core.Path.{◌≡◌, refl, sym, ◌∙◌, ap, subst, subst₂}
use mathlib.Core.Bool.{Bool, true, false, not, ◌||◌, beq}
use mathlib.Core.List.{List, [], ◌∷◌}
use lib.ListN.{get_or}
use lib.Dec.{ltb, leb, eqb}
use Rattle.laws.specs.Sums.{count, every}
use Rattle.laws.proofs.Tests.{not_is_true, false_of_not, implied, implies, beq_eq, eq_beq, conjunction, AllTrue, end, ◌and◌, conjunction_at, all_conjunction}
use Rattle.laws.proofs.Comparisons.{le_of, eq_of, leb_yes, eqb_yes, eqb_no}
use Rattle.laws.proofs.Every.{every_all, all_every}
use Rattle.laws.proofs.Sums.{sum_below, sum_beyond}
use Rattle.laws.proofs.Counts.{count_ext, count_imp, count_none, count_some, count_once}
use Rattle.station.specs.Head.{Head, Job, busy_at, preset_at}
use Rattle.placing.specs.Table.{Cells, Each, WellFormed, holding, kind_of, number_in, mandatory_cell, optional_cell, call_cell, is_busy, is_mandatory}
use Rattle.placing.specs.Table.{is_optional, is_call, preset_count, number_at, has_preset, has_job, job_count, each_cell, once_in, mandatory_below}
use Rattle.placing.specs.Table.{laid_out, well_formed, is_held, held_cells, motors}
use Rattle.placing.specs.Valid.{ValidPlan, ValidCall, Change, job_at}
use Rattle.placing.proofs.CountedCells.{holding_ext}

-- ---- tests of every cell

pub each_cell_all : (h : Head) (p : ℕ → ℕ → Bool) → each_cell h p ≡ true → Each h (λ s b. p s b ≡ true)
each_cell_all h p e s b l m = every_all h.bridges (λ a. p s a) (every_all h.slots (λ r. every h.bridges (λ a. p r a)) e s l) b m

pub all_each_cell : (h : Head) (p : ℕ → ℕ → Bool) → Each h (λ s b. p s b ≡ true) → each_cell h p ≡ true
all_each_cell h p e = all_every h.slots (λ s. every h.bridges (λ b. p s b)) (λ s l. all_every h.bridges (λ b. p s b) (λ b m. e s b l m))

-- one test implies another in every cell
each_implied : (h : Head) (p q : ℕ → ℕ → Bool) → each_cell h (λ s b. not (p s b) || q s b) ≡ true → Each h (λ s b. p s b ≡ true → q s b ≡ true)
each_implied h p q e s b l m = implied (p s b) (q s b) (each_cell_all h (λ r a. not (p r a) || q r a) e s b l m)

each_implies : (h : Head) (p q : ℕ → ℕ → Bool) → Each h (λ s b. p s b ≡ true → q s b ≡ true) → each_cell h (λ s b. not (p s b) || q s b) ≡ true
each_implies h p q f = all_each_cell h (λ s b. not (p s b) || q s b) (λ s b l m. implies (p s b) (q s b) (f s b l m))

-- ---- the mandatory cells below a slot

-- none stands at slot s or later, so those below s are all; and those below s are all, so each stands below s
below_all : (h : Head) (t : Cells) (n s : ℕ) → s ≤ h.slots
    → ((r a : ℕ) → s ≤ r → r < h.slots → a < h.bridges → t r a ≡ mandatory_cell n → ⊥) → mandatory_below h t n s ≡ holding h t (mandatory_cell n)
below_all h t n s l f =
    sum_below s h.slots (λ r. count h.bridges (λ b. eqb (t r b) (mandatory_cell n))) l
    (λ r k m. count_none h.bridges (λ b. eqb (t r b) (mandatory_cell n)) (λ a q. eqb_no (t r a) (mandatory_cell n) (f r a k m q)))

below_lt : (h : Head) (t : Cells) (n s r a : ℕ) → r < h.slots → a < h.bridges → t r a ≡ mandatory_cell n
    → mandatory_below h t n s ≡ holding h t (mandatory_cell n) → r < s
below_lt h t n s r a l m e q =
    lt_of_not-le (λ k.
    omega (
      arith,
      sum_beyond s h.slots (λ x. count h.bridges (λ b. eqb (t x b) (mandatory_cell n))) r k l,
      count_some h.bridges (λ b. eqb (t r b) (mandatory_cell n)) a m (eqb_yes (t r a) (mandatory_cell n) e),
    ))

-- ---- the test and the record

-- the clauses of `well_formed`, in its order
abbrev clauses : Head → Cells → List Bool
clauses h t =
    each_cell h (λ s b. leb (kind_of (t s b)) 4)
    ∷ each_cell h (λ s b. not (leb (kind_of (t s b)) 1) || eqb (number_in (t s b)) 0)
    ∷ each_cell h (λ s b. beq (is_busy (t s b)) (busy_at h s b))
    ∷ each_cell h (λ s b. not (is_mandatory (t s b) || is_optional (t s b)) || has_preset h (number_in (t s b)))
    ∷ each_cell h (λ s b. not (is_call (t s b)) || leb 1 (number_in (t s b)))
    ∷ every h.slots (λ s. once_in h t s)
    ∷ every (preset_count h) (λ i. eqb (holding h t (mandatory_cell (number_at h i))) (preset_at h i).mandatory)
    ∷ every (preset_count h) (λ i. each_cell h (λ s b. not (eqb (t s b) (optional_cell (number_at h i)))
    || eqb (mandatory_below h t (number_at h i) s) (preset_at h i).mandatory))
    ∷ every (preset_count h) (λ i. leb (holding h t (optional_cell (number_at h i))) (preset_at h i).optional)
    ∷ leb (job_count h t) 64
    ∷ every 256 (λ n. not (has_job h t n) || not (has_preset h n))
    ∷ every h.slots (λ s. leb (held_cells h t s) (motors h))
    ∷ []

clauses_are : (h : Head) (t : Cells) → well_formed h t ≡ conjunction (clauses h t)
unfolding well_formed laid_out
clauses_are h t = refl

pub well_formed_of : (h : Head) (t : Cells) → well_formed h t ≡ true → WellFormed h t
well_formed_of h t e =
    record {
      kinds = λ s b l m. le_of (kind_of (t s b)) 4 (each_cell_all h _ (clause 0) s b l m);
      plain = λ s b l m k.
          eq_of (number_in (t s b)) 0
          (each_implied h (λ r a. leb (kind_of (t r a)) 1) (λ r a. eqb (number_in (t r a)) 0) (clause 1) s b l m (leb_yes (kind_of (t s b)) 1 k));
      busy = λ s b l m. beq_eq (is_busy (t s b)) (busy_at h s b) (each_cell_all h _ (clause 2) s b l m);
      presets = each_implied h (λ s b. is_mandatory (t s b) || is_optional (t s b)) (λ s b. has_preset h (number_in (t s b))) (clause 3);
      calls = λ s b l m c.
          le_of 1 (number_in (t s b)) (each_implied h (λ r a. is_call (t r a)) (λ r a. leb 1 (number_in (t r a))) (clause 4) s b l m c);
      once = λ s a b l k m q.
          eq_of (number_in (t s b)) 0
          (implied (eqb (number_in (t s a)) (number_in (t s b))) (eqb (number_in (t s b)) 0)
          (every_all b _ (every_all h.bridges _ (every_all h.slots _ (clause 5) s l) b m) a k)
          (eqb_yes (number_in (t s a)) (number_in (t s b)) q));
      exact = exactly;
      first = λ i l r s a b lr ls la lb p q. below_lt h t (number_at h i) s r a lr la p (below i l s b ls lb q ∙ sym (exactly i l));
      most = λ i l.
          le_of (holding h t (optional_cell (number_at h i))) (preset_at h i).optional (every_all (preset_count h) _ (clause 8) i l);
      jobs = le_of (job_count h t) 64 (clause 9);
      apart = λ n l j. false_of_not (has_preset h n) (implied (has_job h t n) (not (has_preset h n)) (every_all 256 _ (clause 10) n l) j);
      supplied = λ s l. le_of (held_cells h t s) (motors h) (every_all h.slots _ (clause 11) s l);
    }
  where
    clause : (i : ℕ) → get_or (clauses h t) i true ≡ true
    clause i = conjunction_at (clauses h t) (sym (clauses_are h t) ∙ e) i

    exactly : (i : ℕ) → i < preset_count h → holding h t (mandatory_cell (number_at h i)) ≡ (preset_at h i).mandatory
    exactly i l =
        eq_of (holding h t (mandatory_cell (number_at h i))) (preset_at h i).mandatory (every_all (preset_count h) _ (clause 6) i l)

    below : (i : ℕ) → i < preset_count h → (s b : ℕ) → s < h.slots → b < h.bridges → t s b ≡ optional_cell (number_at h i)
        → mandatory_below h t (number_at h i) s ≡ (preset_at h i).mandatory
    below i l s b ls lb q =
        eq_of (mandatory_below h t (number_at h i) s) (preset_at h i).mandatory
        (each_implied h (λ r a. eqb (t r a) (optional_cell (number_at h i)))
        (λ r a. eqb (mandatory_below h t (number_at h i) r) (preset_at h i).mandatory)
        (every_all (preset_count h) _ (clause 7) i l) s b ls lb (eqb_yes (t s b) (optional_cell (number_at h i)) q))

pub of_well_formed : (h : Head) (t : Cells) → WellFormed h t → well_formed h t ≡ true
of_well_formed h t w =
    clauses_are h t ∙ all_conjunction (clauses h t) holds
  where
    once_test : (s a b : ℕ) → s < h.slots → a < b → b < h.bridges
        → (not (eqb (number_in (t s a)) (number_in (t s b))) || eqb (number_in (t s b)) 0) ≡ true
    once_test s a b l k m =
        implies (eqb (number_in (t s a)) (number_in (t s b))) (eqb (number_in (t s b)) 0)
        (λ q. eqb_yes (number_in (t s b)) 0 (w.once s a b l k m (eq_of (number_in (t s a)) (number_in (t s b)) q)))

    first_test : (i : ℕ) → i < preset_count h → Each h (λ s b. eqb (t s b) (optional_cell (number_at h i)) ≡ true
        → eqb (mandatory_below h t (number_at h i) s) (preset_at h i).mandatory ≡ true)
    first_test i l s b ls lb q =
        eqb_yes (mandatory_below h t (number_at h i) s) (preset_at h i).mandatory
        (below_all h t (number_at h i) s (omega arith)
        (λ r a k m n p. omega (arith, w.first i l r s a b m ls n lb p (eq_of (t s b) (optional_cell (number_at h i)) q)))
        ∙ w.exact i l)

    holds : AllTrue (clauses h t)
    holds =
        all_each_cell h _ (λ s b l m. leb_yes (kind_of (t s b)) 4 (w.kinds s b l m))
        and each_implies h (λ s b. leb (kind_of (t s b)) 1) (λ s b. eqb (number_in (t s b)) 0)
        (λ s b l m k. eqb_yes (number_in (t s b)) 0 (w.plain s b l m (le_of (kind_of (t s b)) 1 k)))
        and all_each_cell h _ (λ s b l m. eq_beq (is_busy (t s b)) (busy_at h s b) (w.busy s b l m))
        and each_implies h (λ s b. is_mandatory (t s b) || is_optional (t s b)) (λ s b. has_preset h (number_in (t s b))) w.presets
        and each_implies h (λ s b. is_call (t s b)) (λ s b. leb 1 (number_in (t s b)))
        (λ s b l m c. leb_yes 1 (number_in (t s b)) (w.calls s b l m c))
        and all_every h.slots _ (λ s l. all_every h.bridges _ (λ b m. all_every b _ (λ a k. once_test s a b l k m)))
        and all_every (preset_count h) _
        (λ i l. eqb_yes (holding h t (mandatory_cell (number_at h i))) (preset_at h i).mandatory (w.exact i l))
        and all_every (preset_count h) _ (λ i l. each_implies h _ _ (first_test i l))
        and all_every (preset_count h) _
        (λ i l. leb_yes (holding h t (optional_cell (number_at h i))) (preset_at h i).optional (w.most i l))
        and leb_yes (job_count h t) 64 w.jobs
        and all_every 256 _ (λ n l. implies (has_job h t n) (not (has_preset h n)) (λ j. not_is_true (has_preset h n) (w.apart n l j)))
        and all_every h.slots _ (λ s l. leb_yes (held_cells h t s) (motors h) (w.supplied s l))
        and end

-- ---- the same cells in the frame

-- a statement of every cell, for a table with the same cells
each_ext : (h : Head) (t u : Cells) (P : ℕ → ℕ → ℕ → Type 0) → Each h (λ s b. t s b ≡ u s b)
    → Each h (λ s b. P s b (t s b)) → Each h (λ s b. P s b (u s b))
each_ext h t u P e w s b l m = subst (P s b) (e s b l m) (w s b l m)

has_job_ext : (h : Head) (t u : Cells) → Each h (λ s b. t s b ≡ u s b) → (n : ℕ) → has_job h t n ≡ has_job h u n
has_job_ext h t u e n = ap (λ (k : ℕ). ltb 0 k) (holding_ext h t u e (call_cell n))

pub well_formed_ext : (h : Head) (t u : Cells) → Each h (λ s b. t s b ≡ u s b) → WellFormed h t → WellFormed h u
well_formed_ext h t u e w =
    record {
      kinds = each_ext h t u (λ s b v. kind_of v ≤ 4) e w.kinds;
      plain = each_ext h t u (λ s b v. kind_of v ≤ 1 → number_in v ≡ 0) e w.plain;
      busy = each_ext h t u (λ s b v. is_busy v ≡ busy_at h s b) e w.busy;
      presets = each_ext h t u (λ s b v. (is_mandatory v || is_optional v) ≡ true → has_preset h (number_in v) ≡ true) e w.presets;
      calls = each_ext h t u (λ s b v. is_call v ≡ true → 1 ≤ number_in v) e w.calls;
      once = λ s a b l k m.
          subst₂ (λ (x y : ℕ). number_in x ≡ number_in y → number_in y ≡ 0) (e s a l (omega arith)) (e s b l m) (w.once s a b l k m);
      exact = λ i l. sym (holding_ext h t u e (mandatory_cell (number_at h i))) ∙ w.exact i l;
      first = λ i l r s a b lr ls la lb p q. w.first i l r s a b lr ls la lb (e r a lr la ∙ p) (e s b ls lb ∙ q);
      most = λ i l. omega (arith, holding_ext h t u e (optional_cell (number_at h i)), w.most i l);
      jobs = omega (arith, count_ext 256 (λ n. has_job h t n) (λ n. has_job h u n) (λ n l. has_job_ext h t u e n), w.jobs);
      apart = λ n l j. w.apart n l (has_job_ext h t u e n ∙ j);
      supplied = λ s l.
          omega (arith, w.supplied s l, count_ext h.bridges (λ b. is_held (t s b)) (λ b. is_held (u s b)) (λ b m. ap is_held (e s b l m)));
    }

pub valid_plan_ext : (h : Head) (t u : Cells) → Each h (λ s b. t s b ≡ u s b) → ValidPlan h t → ValidPlan h u
valid_plan_ext h t u e w =
    record { well_formed = well_formed_ext h t u e w.well_formed; no_calls = each_ext h t u (λ s b v. is_call v ≡ false) e w.no_calls }

-- the table before the call and the table after it, each for one with the same cells
pub valid_call_ext : (h : Head) (clock : ℕ) (jobs : List Job) (t t' u u' : Cells) → Each h (λ s b. t s b ≡ t' s b) → Each h (λ s b. u s b ≡ u' s b)
    → ValidCall h clock jobs t u → ValidCall h clock jobs t' u'
valid_call_ext h clock jobs t t' u u' e f w =
    record {
      well_formed = well_formed_ext h u u' f w.well_formed;
      changes = λ s b l m. subst₂ (λ (x y : ℕ). Change clock jobs s x y) (e s b l m) (f s b l m) (w.changes s b l m);
      exact = λ i l. sym (holding_ext h u u' f (call_cell (job_at jobs i).number)) ∙ w.exact i l;
    }

-- ---- no number twice in a slot

pub once_count : (h : Head) (t : Cells) → WellFormed h t → (s n : ℕ) → s < h.slots → 1 ≤ n → count h.bridges (λ b. eqb (number_in (t s b)) n) ≤ 1
once_count h t w s n l low =
    count_once h.bridges (λ b. eqb (number_in (t s b)) n)
    (λ a b k m p q.
    let at_b : number_in (t s b) ≡ n = eq_of (number_in (t s b)) n q in
    omega (arith, w.once s a b l k m (eq_of (number_in (t s a)) n p ∙ sym at_b)))

-- nor a cell with a number
pub once_cell : (h : Head) (t : Cells) → WellFormed h t → (s v : ℕ) → s < h.slots → 1 ≤ number_in v → count h.bridges (λ b. eqb (t s b) v) ≤ 1
once_cell h t w s v l low =
    omega (
      arith,
      once_count h t w s (number_in v) l low,
      count_imp h.bridges (λ b. eqb (t s b) v) (λ b. eqb (number_in (t s b)) (number_in v))
          (λ b m e. eqb_yes (number_in (t s b)) (number_in v) (ap number_in (eq_of (t s b) v e))),
    )
