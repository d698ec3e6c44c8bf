-- Laws of the numbers that are marked, and of the counts of a table and a clock.
--
-- In order: numbers that are marked, by one cell (`mark-..`) and by those so far (`marked-..`); numbers marked beside others (`beside-..`); the counts of the frame (`counts_of`). Those of what an event
-- leaves are in counts/LeftByEvent.antt, the slots by what a call may fill in them in counts/usable/UsableCells.antt.
-- Assumes nothing.
use Prim.Native.Nat.{ℕ, zero, suc, ◌+◌, ◌*◌, ◌≤◌, ◌<◌}
use native.Mathlib.Omega.{arith}
use mathlib.Core.Path.{◌≡◌, refl, sym, ◌∙◌, ap, ap₂}
use mathlib.Core.Bool.{Bool, true, false, ◌||◌, or-false, or_comm}
use mathlib.Core.List.{List}
use lib.ListN.{length, get_or, set, replicate, length-set}
use lib.Seq.{get_or-set_same, get_or-set_other}
use lib.Dec.{ltb, eqb}
use Rattle.laws.specs.Sums.{bit, sum, count}
use Rattle.laws.specs.method.Capacities.{AtLeast}
use Rattle.laws.proofs.Tests.{Is, is, is_true, is_false, or_left, or_right}
use Rattle.laws.proofs.Comparisons.{eq_of, ne_of, ge_of, eqb_yes, eqb_no, eqb_self}
use Rattle.laws.proofs.Sums.{sum_but, sum_split, sum_rows}
use Rattle.laws.proofs.Counts.{count_ext, count_none, count_some}
use Rattle.laws.proofs.Loops.{some_none, some_more}
use Rattle.station.specs.Head.{Head}
use Rattle.placing.specs.Table.{cell, kind_of, number_in, is_call, call_cell, has_job, has_preset, motors}
use Rattle.placing.proofs.CountedCells.{kind_of_call, number_in_call, is_call_call}
use Rattle.placing.specs.declared.counts.Counts.{Counts}
use Rattle.placing.specs.method.Jobs.{marked}
use Rattle.placing.specs.method.Counts.{CountsOf, Marked, Marks, slot_free, MarkedBeside}
use Rattle.placing.proofs.counts.usable.UsableCells.{entries_are}

-- ---- numbers that are marked

-- one number more
marked_set : (u : List Bool) (m : ℕ) → m < length u → (n : ℕ) → marked (set u m true) n ≡ (marked u n || eqb m n)
marked_set u m inside n = go (is (eqb m n))
  where
    go : Is (eqb m n) → marked (set u m true) n ≡ (marked u n || eqb m n)
    go (is_true e) =
        ap (marked (set u m true)) (sym (eq_of m n e))
        ∙ get_or-set_same u m true false inside
        ∙ sym (or_right (marked u n) (eqb m n) e)
    go (is_false e) =
        get_or-set_other u m n true false (λ q. ne_of m n e (sym q))
        ∙ sym (ap (λ (b : Bool). marked u n || b) e ∙ or-false (marked u n))

-- a cell that is no call's marks nothing, and one whose number is marked neither
pub mark_other : (v : ℕ) (u : List Bool) → is_call v ≡ false → Marks v u u 0
mark_other v u other =
    record {
      long = refl;
      which = λ n l. sym (ap (λ (b : Bool). marked u n || b) (eqb_no v (call_cell n) (λ e. ne_of (kind_of v) 4 other (ap kind_of e ∙ kind_of_call n l))) ∙ or-false (marked u n));
      more = omega arith;
      one = omega arith;
    }

module _ (v : ℕ) (u : List Bool) (long : length u ≡ 256) (call : is_call v ≡ true) where
  number_lt : number_in v < 256
  number_lt = omega arith

  is_call_lem : (n : ℕ) → n < 256 → eqb (number_in v) n ≡ eqb v (call_cell n)
  is_call_lem n l = go (is (eqb (number_in v) n))
    where
      go : Is (eqb (number_in v) n) → eqb (number_in v) n ≡ eqb v (call_cell n)
      go (is_true e) = e ∙ sym (eqb_yes v (call_cell n) (let q : number_in v ≡ n = eq_of (number_in v) n e in omega (arith, eq_of (kind_of v) 4 call)))
      go (is_false e) = e ∙ sym (eqb_no v (call_cell n) (λ q. ne_of (number_in v) n e (ap number_in q ∙ number_in_call n l)))

  pub mark_again : marked u (number_in v) ≡ true → Marks v u u 0
  mark_again some =
      record { long = refl; which = λ n l. go n (is (eqb (number_in v) n)) ∙ ap (λ (b : Bool). marked u n || b) (is_call_lem n l); more = omega arith; one = omega arith }
    where
      go : (n : ℕ) → Is (eqb (number_in v) n) → marked u n ≡ (marked u n || eqb (number_in v) n)
      go n (is_true e) =
          let m : marked u n ≡ true = ap (marked u) (sym (eq_of (number_in v) n e)) ∙ some in
          m ∙ sym (or_left (marked u n) (eqb (number_in v) n) m)
      go n (is_false e) = sym (ap (λ (b : Bool). marked u n || b) e ∙ or-false (marked u n))

  pub mark_new : marked u (number_in v) ≡ false → Marks v u (set u (number_in v) true) 1
  mark_new none =
      record {
        long = length-set u (number_in v) true;
        which = λ n l. marked_set u (number_in v) inside n ∙ ap (λ (b : Bool). marked u n || b) (is_call_lem n l);
        more = omega (
          arith,
          sum_but 256 (λ n. bit (marked (set u (number_in v) true) n)) (λ n. bit (marked u n)) (number_in v) number_lt (λ n l ne. ap bit (other n ne)),
          ap bit here,
          ap bit none,
        );
        one = omega arith;
      }
    where
      inside : number_in v < length u
      inside = omega (arith, long, number_lt)

      here : marked (set u (number_in v) true) (number_in v) ≡ true
      here = marked_set u (number_in v) inside (number_in v) ∙ or_right (marked u (number_in v)) (eqb (number_in v) (number_in v)) (eqb_self (number_in v))

      other : (n : ℕ) → (n ≡ number_in v → ⊥) → marked (set u (number_in v) true) n ≡ marked u n
      other n ne =
          marked_set u (number_in v) inside n
          ∙ ap (λ (b : Bool). marked u n || b) (eqb_no (number_in v) n (λ q. ne (sym q)))
          ∙ or-false (marked u n)

-- the numbers of the cells so far, no cell and one more
none_at : (n i : ℕ) → marked (replicate n false) i ≡ false
none_at zero i = refl
none_at (suc n) zero = refl
none_at (suc n) (suc i) = none_at n i

pub marked_none : (t : List ℕ) → Marked t 0 (replicate 256 false)
marked_none t =
    record {
      long = refl;
      which = λ n l. none_at 256 n ∙ sym (some_none (λ j. eqb (get_or t j 0) (call_cell n)));
    }

pub none_marked : count 256 (marked (replicate 256 false)) ≡ 0
none_marked = count_none 256 (marked (replicate 256 false)) (λ n l. none_at 256 n)

pub marked_more : {t : List ℕ} {i v : ℕ} {u w : List Bool} {r : ℕ} (j : ℕ) → Marked t i u → v ≡ get_or t i 0 → Marks v u w r → j ≡ i + 1 → Marked t j w
marked_more {t} {i} {v} {u} {w} j m e k q =
    record {
      long = k.long ∙ m.long;
      which = λ n l.
          k.which n l
          ∙ ap₂ (λ (a b : Bool). a || b) (m.which n l) (ap (λ (x : ℕ). eqb x (call_cell n)) e)
          ∙ sym (some_more i (λ j. eqb (get_or t j 0) (call_cell n)))
          ∙ ap (λ (x : ℕ). ltb 0 (count x (λ j. eqb (get_or t j 0) (call_cell n)))) (sym q);
    }

-- cells of which none is a call's mark nothing
pub marked_past : {t : List ℕ} {i : ℕ} {u : List Bool} (m : ℕ) → Marked t i u → m ≤ 8 → ltb 0 (count 8 (λ b. is_call (get_or t (i + b) 0))) ≡ false → Marked t (i + m) u
marked_past {t} {i} {u} m k few none =
    record {
      long = k.long;
      which = λ n l.
          let p : ℕ → ℕ = λ j. bit (eqb (get_or t j 0) (call_cell n)) in
          let same : sum (i + m) p ≡ sum i p =
          omega (arith, sum_split i m p, count_none m (λ b. eqb (get_or t (i + b) 0) (call_cell n)) (λ b q. eqb_no (get_or t (i + b) 0) (call_cell n) (other n l b (omega arith)))) in
          k.which n l ∙ ap (λ (x : ℕ). ltb 0 x) (sym same);
    }
  where
    other : (n : ℕ) → n < 256 → (b : ℕ) → b < 8 → get_or t (i + b) 0 ≡ call_cell n → ⊥
    other n l b q e =
        omega (
          arith,
          ge_of 0 (count 8 (λ z. is_call (get_or t (i + z) 0))) none,
          count_some 8 (λ z. is_call (get_or t (i + z) 0)) b q (ap is_call e ∙ is_call_call n l),
        )

-- ---- numbers marked beside others

pub beside_none : (f : ℕ → ℕ) (u : List Bool) → length u ≡ 256 → MarkedBeside f u 0 u
beside_none f u long = record { long = long; which = λ n l. sym (ap (λ (b : Bool). b || marked u n) (some_none (λ j. eqb (f j) n))) }

pub beside_more : {f : ℕ → ℕ} {u w : List Bool} {i : ℕ} (m : ℕ) → MarkedBeside f u i w → m < 256 → m ≡ f i → MarkedBeside f u (i + 1) (set w m true)
beside_more {f} {u} {w} {i} m b small e =
    record {
      long = length-set w m true ∙ b.long;
      which = λ n l.
          marked_set w m (omega (arith, b.long)) n
          ∙ ap₂ (λ (c d : Bool). c || d) (b.which n l) (ap (λ (k : ℕ). eqb k n) e)
          ∙ swap (ltb 0 (count i (λ j. eqb (f j) n))) (marked u n) (eqb (f i) n)
          ∙ ap (λ (c : Bool). c || marked u n) (sym (some_more i (λ j. eqb (f j) n)));
    }
  where
    swap : (a c d : Bool) → ((a || c) || d) ≡ ((a || d) || c)
    swap true c d = refl
    swap false c d = or_comm c d

-- ---- the counts of the frame

module _ (h : Head) (clock : ℕ) (t : List ℕ) {u : List Bool} (m : Marked t (h.slots * h.bridges) u) where
  job_marked : (n : ℕ) → n < 256 → marked u n ≡ has_job h (cell h t) n
  job_marked n l =
      m.which n l ∙ ap (λ (k : ℕ). ltb 0 k) (sum_rows h.slots h.bridges (λ i. bit (eqb (get_or t i 0) (call_cell n))))

  pub counts_of : {c : Counts} → length c.used ≡ 256 → ((n : ℕ) → n < 256 → marked c.used n ≡ (has_preset h n || marked u n)) → c.admitted ≡ count 256 (marked u)
      → AtLeast c.at_least h.slots (slot_free t h.bridges (motors h) clock) → CountsOf h clock (cell h t) c
  counts_of size numbers many x =
      record {
        marks_long = size;
        used = λ n l. numbers n l ∙ ap (λ (b : Bool). has_preset h n || b) (job_marked n l);
        jobs = many ∙ count_ext 256 (marked u) (λ n. has_job h (cell h t) n) job_marked;
        entries = entries_are h clock t x;
      }
