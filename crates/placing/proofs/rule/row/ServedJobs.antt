-- Laws of a row whose chosen jobs are kept as a mask and taken out of it one by one, the earliest first.
--
-- In order: a row passes over jobs that are not chosen (`filled_over`); the mask of the jobs that are still to come (`Pending`): all, and all but the
-- earliest; the row, what is still due of the jobs and that mask (`Serving`): none served, one more that takes a cell or finds none, all served (`serving_..`).
-- Assumes nothing.
use Prim.Native.Nat.{ℕ, zero, suc, ◌+◌, ◌-◌, ◌^◌, ◌≤◌, ◌<◌}
use native.Mathlib.Nat.{le_refl}
use native.Mathlib.Numerals.{add-one}
use native.Mathlib.Omega.{arith}
use mathlib.Core.Path.{◌≡◌, refl, sym, ◌∙◌, ap}
use mathlib.Core.Bool.{Bool, true, false, not, ◌&&◌, cond, and-true, and-false}
use mathlib.Core.List.{List}
use lib.ListN.{length, set, length-set}
use lib.Seq.{get_or-set_same, get_or-set_other}
use lib.Bits.{bit_and, and_le_l}
use lib.Count.{count_trailing_zeros, trailing_of_zero}
use lib.Dec.{eqb, ltb}
use Rattle.laws.specs.Sums.{bit}
use Rattle.laws.specs.Lists.{at}
use Rattle.laws.proofs.Tests.{Is, is_true, is_false, is, clash}
use Rattle.laws.proofs.Comparisons.{eq_of, ne_of, lt_of, ge_of, eqb_self, eqb_no}
use Rattle.station.specs.Head.{has_bit}
use Rattle.placing.specs.method.Rule.{due_cells}
use Rattle.placing.proofs.MaskBits.{has_bit_zero, lowest, none_below_lowest, some_lowest, cleared}
use Rattle.placing.proofs.rule.row.RowWritten.{RowFilled, filled_not_chosen, filled_full, filled_next}

-- jobs that are not chosen
filled_over : (t : List ℕ) (n : ℕ) (a f : ℕ → Bool) (v : ℕ → ℕ) (u : List ℕ) (g : ℕ → Bool) (i j : ℕ) → i ≤ j
    → ((q : ℕ) → i ≤ q → q < j → a q ≡ false) → RowFilled t n a f v u g i → RowFilled t n a f v u g j
filled_over t n a f v u g i zero h off done = let same : i ≡ 0 = omega (arith, h) in rw same at done
filled_over t n a f v u g i (suc j) h off done = go (λ m. filled_over t n a f v u g i j m (λ q k l. off q k (omega (arith, l))) done) (is (eqb i (suc j)))
  where
    go : (i ≤ j → RowFilled t n a f v u g j) → Is (eqb i (suc j)) → RowFilled t n a f v u g (suc j)
    go ih (is_true e) = rw (eq_of i (suc j) e) at done
    go ih (is_false e) =
        let ne : i ≡ suc j → ⊥ = ne_of i (suc j) e in
        let m : i ≤ j = omega (arith, ne, h) in
        rw (add-one j) at (filled_not_chosen t n a f v u g j (ih m) (off j m (le_refl (suc j))))

-- ---- the jobs that are still to come

-- of the jobs of a mask, those from the earliest of `jobs` on
pub record Pending (chosen jobs : ℕ) : Type 0 where
  pub short : jobs < 2 ^ 64
  pub rest : (i : ℕ) → count_trailing_zeros 64 jobs ≤ i → has_bit jobs i ≡ has_bit chosen i

pending_all : (chosen : ℕ) → chosen < 2 ^ 64 → Pending chosen chosen
pending_all chosen h = record { short = h; rest = λ i l. refl }

module _ (chosen jobs : ℕ) (now : Pending chosen jobs) (some : 0 < jobs) where
  abbrev z : ℕ
  z = count_trailing_zeros 64 jobs

  abbrev later : ℕ
  later = bit_and jobs (jobs - 1)

  -- the earliest is a job
  pub earliest : z < 64
  earliest = (lowest 64 jobs some now.short).within

  earliest_chosen : has_bit chosen z ≡ true
  earliest_chosen = sym (now.rest z (le_refl z)) ∙ (lowest 64 jobs some now.short).set

  later_short : later < 2 ^ 64
  later_short = omega (arith, now.short, and_le_l jobs (jobs - 1))

  -- without the earliest
  later_not : has_bit later z ≡ false
  later_not = cleared 64 jobs some now.short z ∙ (rw (eqb_self z) (and-false (has_bit jobs z)))

  later_other : (i : ℕ) → (i ≡ z → ⊥) → has_bit later i ≡ has_bit jobs i
  later_other i ne = cleared 64 jobs some now.short i ∙ (rw (eqb_no i z ne) (and-true (has_bit jobs i)))

  -- the next one is a later one
  later_later : z < count_trailing_zeros 64 later
  later_later = go (is (ltb z (count_trailing_zeros 64 later))) (is (eqb later 0))
    where
      go : Is (ltb z (count_trailing_zeros 64 later)) → Is (eqb later 0) → z < count_trailing_zeros 64 later
      go (is_true e) w = lt_of z (count_trailing_zeros 64 later) e
      go (is_false e) (is_true w) =
          omega (arith, earliest, ap (count_trailing_zeros 64) (eq_of later 0 w), trailing_of_zero 64)
      go (is_false e) (is_false w) =
          let ne : later ≡ 0 → ⊥ = ne_of later 0 w in
          let y = count_trailing_zeros 64 later in
          let l : y ≤ z = ge_of z y e in
          let here : has_bit later y ≡ true = (lowest 64 later (omega (arith, ne)) later_short).set in
          absurd (clash (sym here ∙ gone y l (is (eqb y z))))
        where
          gone : (y : ℕ) → y ≤ z → Is (eqb y z) → has_bit later y ≡ false
          gone y l (is_true q) = rw (eq_of y z q) later_not
          gone y l (is_false q) =
              let ne : y ≡ z → ⊥ = ne_of y z q in
              later_other y ne ∙ none_below_lowest 64 jobs now.short y (omega (arith, l, ne))

  pending_later : Pending chosen later
  pending_later =
      record {
        short = later_short;
        rest = λ i l.
            later_other i (λ e. omega (arith, e, l, later_later)) ∙ now.rest i (omega (arith, l, later_later));
      }

  -- none is chosen between the two
  between : (i : ℕ) → z + 1 ≤ i → i < count_trailing_zeros 64 later → has_bit chosen i ≡ false
  between i l m =
      sym (now.rest i (omega (arith, l)))
      ∙ sym (later_other i (λ e. omega (arith, e, l)))
      ∙ none_below_lowest 64 later later_short i m

-- ---- the row, what is still due of the jobs, and the jobs that are still to come

-- u is t with the n cells of the row written by the jobs before those to come, of which one less is due in `rest` than in `due`
pub record Serving (t : List ℕ) (n chosen : ℕ) (f : ℕ → Bool) (v : ℕ → ℕ) (due : List ℕ) (u : List ℕ) (free jobs : ℕ) (rest : List ℕ) : Type 0 where
  pub pending : Pending chosen jobs
  pub row : RowFilled t n (has_bit chosen) f v u (has_bit free) (count_trailing_zeros 64 jobs)
  pub fewer_due : (i : ℕ) → at rest i ≡ at due i - bit (has_bit chosen i && not (has_bit jobs i))
  pub long : length rest ≡ 64

module _ (t : List ℕ) (n chosen : ℕ) (f : ℕ → Bool) (v : ℕ → ℕ) (due : List ℕ) where
  pub serving_none : chosen < 2 ^ 64 → length due ≡ 64 → (u : List ℕ) (free : ℕ) → RowFilled t n (has_bit chosen) f v u (has_bit free) 0
      → Serving t n chosen f v due u free chosen due
  serving_none h long u free done =
      record {
        pending = pending_all chosen h;
        row =
            filled_over t n (has_bit chosen) f v u (has_bit free) 0 (count_trailing_zeros 64 chosen) (omega arith)
            (λ q k l. none_below_lowest 64 chosen h q l) done;
        fewer_due = λ i. omega (arith, ap bit (never (has_bit chosen i)));
        long = long;
      }
    where
      never : (x : Bool) → (x && not x) ≡ false
      never true = refl
      never false = refl

  module _ (u : List ℕ) (free jobs : ℕ) (rest : List ℕ) (so_far : Serving t n chosen f v due u free jobs rest) (some : 0 < jobs) where
    abbrev i : ℕ
    i = count_trailing_zeros 64 jobs

    abbrev fewer : List ℕ
    fewer = set rest i (at rest i - 1)

    is_chosen : has_bit chosen i ≡ true
    is_chosen = earliest_chosen chosen jobs so_far.pending some

    -- the job has got nothing in this row yet
    untouched : at rest i ≡ at due i
    untouched =
        let here : has_bit jobs i ≡ true = so_far.pending.rest i (le_refl i) ∙ is_chosen in
        let none : (has_bit chosen i && not (has_bit jobs i)) ≡ false = rw (here) (and-false (has_bit chosen i)) in
        omega (arith, so_far.fewer_due i, ap bit none)

    -- what it writes
    pub value_of : (early late : List ℕ) (z : ℕ) → z ≡ i → (x : ℕ) → x ≡ due_cells rest early late z → x ≡ due_cells due early late i
    value_of early late z here x e =
        e
        ∙ ap (due_cells rest early late) here
        ∙ ap (λ (m : ℕ). cond (ltb 0 m) (at early i) (at late i)) untouched

    less : (q : ℕ) → at fewer q ≡ at due q - bit (has_bit chosen q && not (has_bit (bit_and jobs (jobs - 1)) q))
    less q = go (is (eqb q i))
      where
        go : Is (eqb q i) → at fewer q ≡ at due q - bit (has_bit chosen q && not (has_bit (bit_and jobs (jobs - 1)) q))
        go (is_true e) =
            rw (eq_of q i e)
            (rw (is_chosen, later_not chosen jobs so_far.pending some)
            (get_or-set_same rest i (at rest i - 1) 0 (omega (arith, so_far.long, earliest chosen jobs so_far.pending some))
            ∙ ap (λ (m : ℕ). m - 1) untouched))
        go (is_false e) =
            get_or-set_other rest i q (at rest i - 1) 0 (ne_of q i e)
            ∙ so_far.fewer_due q
            ∙ (rw (later_other chosen jobs so_far.pending some q (ne_of q i e)) refl)

    -- the job is done: the row goes on to the next one
    onward : (u' : List ℕ) (free' : ℕ) → RowFilled t n (has_bit chosen) f v u' (has_bit free') (i + 1)
        → Serving t n chosen f v due u' free' (bit_and jobs (jobs - 1)) fewer
    onward u' free' done =
        record {
          pending = pending_later chosen jobs so_far.pending some;
          row =
              filled_over t n (has_bit chosen) f v u' (has_bit free') (i + 1) (count_trailing_zeros 64 (bit_and jobs (jobs - 1)))
              (omega (arith, later_later chosen jobs so_far.pending some))
              (between chosen jobs so_far.pending some) done;
          fewer_due = less;
          long = length-set rest i (at rest i - 1) ∙ so_far.long;
        }

    -- it finds no free cell
    pub serving_full : ((b : ℕ) → b < n → has_bit free b ≡ false) → Serving t n chosen f v due u free (bit_and jobs (jobs - 1)) fewer
    serving_full none = onward u free (filled_full t n (has_bit chosen) f v u (has_bit free) i so_far.row is_chosen none)

    -- it takes the next free cell
    pub serving_next : free < 2 ^ 8 → (b : ℕ) → b ≡ count_trailing_zeros 8 free → b < n → n ≤ 8 → n ≤ length t → (x : ℕ) → x ≡ v i
        → Serving t n chosen f v due (set u b x) (bit_and free (free - 1)) (bit_and jobs (jobs - 1)) fewer
    serving_next byte b e l few short x value =
        let any : 0 < free = some_lowest 8 free (omega (arith, e, l, few)) in
        let low = lowest 8 free any byte in
        onward (set u b x) (bit_and free (free - 1))
        (rw (e, value) (filled_next t n (has_bit chosen) f v u (has_bit free) i so_far.row is_chosen (count_trailing_zeros 8 free) (omega (arith, e, l)) short
        low.set low.none_below (has_bit (bit_and free (free - 1))) (cleared 8 free any byte)))

  -- all of them
  pub serving_all : (u : List ℕ) (free : ℕ) (rest : List ℕ) → Serving t n chosen f v due u free 0 rest
      → RowFilled t n (has_bit chosen) f v u (has_bit free) 64 × ((i : ℕ) → at rest i ≡ at due i - bit (has_bit chosen i))
  serving_all u free rest done =
      (rw (trailing_of_zero 64) at done.row, λ i. done.fewer_due i ∙ (rw (has_bit_zero i) (ap (λ (x : Bool). at due i - bit x) (and-true (has_bit chosen i)))))
