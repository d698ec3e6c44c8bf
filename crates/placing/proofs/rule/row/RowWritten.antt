-- Laws of one slot's row, as the code writes it.
--
-- In order: what a job writes; a cell of the row, emptied (`emptied-..`) and with one job more (`slot_cell-..`); a row of which cells are written (`row-..`);
-- the free cells that are left after some were taken in order (`untaken-..`), and who takes one (`takes-..`); a row after some jobs took their cells:
-- none, one more, and all, with the cells that are left made empty, or empty before (`filled-..`).
-- Assumes nothing.
use Prim.Native.Nat.{ℕ, ◌+◌, ◌-◌, ◌≤◌, ◌<◌, zero-le}
use native.Mathlib.Nat.{add-zero, le_of_eq}
use native.Mathlib.Numerals.{add-one}
use native.Mathlib.Omega.{arith}
use mathlib.Core.Path.{◌≡◌, refl, sym, ◌∙◌, ap, ap₂}
use mathlib.Core.Bool.{Bool, true, false, not, ◌&&◌, cond, and-true, and-false}
use mathlib.Core.List.{List}
use lib.ListN.{length, set, length-set}
use lib.Seq.{get_or-set_same, get_or-set_other}
use lib.Dec.{ltb, leb, eqb}
use Rattle.laws.specs.Sums.{bit, only, sum, count}
use Rattle.laws.specs.Lists.{at}
use Rattle.laws.specs.Cells.{takes, slot_cell}
use Rattle.laws.proofs.Tests.{Is, is_true, is_false, is, clash, both, left_of, right_of}
use Rattle.laws.proofs.Comparisons.{lt_of, ge_of, le_of, gt_of, eq_of, ne_of, ltb_yes, leb_yes, leb_no, eqb_yes, eqb_no, eqb_self, ltb_iff}
use Rattle.laws.proofs.Sums.{sum_ext, sum_zero, sum_point}
use Rattle.laws.proofs.Counts.{count_ext, count_none}
use Rattle.laws.proofs.Loops.{count_more}
use Rattle.laws.proofs.Cells.{count_below, nth_count}
use Rattle.placing.specs.method.Rule.{job_cell, due_cells, RowWritten, emptied, EmptyRow}

-- ---- what a job writes

module _ (due early late : List ℕ) (i : ℕ) where
  pub writes_late : at due i ≡ 0 → at late i ≡ due_cells due early late i
  writes_late e = rw e refl

  pub writes_early : 0 < at due i → at early i ≡ due_cells due early late i
  writes_early h = rw (ltb_yes 0 (at due i) h) refl

  -- a job that needs `need` slots in all and `rest` of them still
  pub due_cell : (need rest first : ℕ) → at due i ≡ first - (need - rest) → due_cells due early late i ≡ job_cell need rest first (at early i) (at late i)
  due_cell need rest first e =
      ap (λ (x : Bool). cond x (at early i) (at late i)) (ltb_iff 0 (at due i) (need - rest) first (λ h. omega (arith, e, h)) (λ h. omega (arith, e, h)))

-- ---- a cell of the row

-- of two different numbers that pass a test, one has more of them before it
apart : (a : ℕ → Bool) (i j : ℕ) → a i ≡ true → a j ≡ true → (j ≡ i → ⊥) → count j a ≡ count i a → ⊥
apart a i j p q ne e = go (is (ltb j i))
  where
    go : Is (ltb j i) → ⊥
    go (is_true l) = omega (arith, count_below i a j (lt_of j i l), ap bit q)
    go (is_false l) =
        let m : i ≤ j = ge_of j i l in
        omega (arith, count_below j a i (omega arith), ap bit p)

-- a cell goes by the k jobs and what it held alone
pub slot_cell_ext : (k : ℕ) (a f : ℕ → Bool) (v t : ℕ → ℕ) (b : ℕ) (a' : ℕ → Bool) (v' t' : ℕ → ℕ)
    → ((i : ℕ) → i < k → a i ≡ a' i) → ((i : ℕ) → i < k → v i ≡ v' i) → t b ≡ t' b → slot_cell k a f v t b ≡ slot_cell k a' f v' t' b
slot_cell_ext k a f v t b a' v' t' p q e =
    ap₂ (λ (n m : ℕ). cond (f b) n m)
    (sum_ext k (λ i. only (takes a f i b) (v i)) (λ i. only (takes a' f i b) (v' i)) (λ i l. one i l))
    e
  where
    one : (i : ℕ) → i < k → only (takes a f i b) (v i) ≡ only (takes a' f i b) (v' i)
    one i l = rw (p i l, q i l, count_ext i a a' (λ j m. p j (omega arith))) refl

module _ (f : ℕ → Bool) (t : ℕ → ℕ) (b : ℕ) where
  pub emptied_free : f b ≡ true → emptied f t b ≡ 0
  emptied_free e = rw e refl

  pub emptied_kept : f b ≡ false → emptied f t b ≡ t b
  emptied_kept e = rw e refl

module _ (i : ℕ) (a f : ℕ → Bool) (v t : ℕ → ℕ) (b : ℕ) where
  -- one job more, which takes another cell or none
  pub slot_cell_passed : takes a f i b ≡ false → slot_cell i a f v t b ≡ slot_cell (i + 1) a f v t b
  unfolding sum
  slot_cell_passed e = rw (add-one i, e) (ap (λ (n : ℕ). cond (f b) n (t b)) (sym (add-zero (sum i (λ j. only (takes a f j b) (v j))))))

  -- one job more, which takes this cell: none before it did
  pub slot_cell_taken : f b ≡ true → a i ≡ true → count i a ≡ count b f → v i ≡ slot_cell (i + 1) a f v t b
  slot_cell_taken p q e =
      sym (ap (λ (x : Bool). cond x (sum (i + 1) (λ j. only (takes a f j b) (v j))) (t b)) p
      ∙ sum_point (i + 1) (λ j. only (takes a f j b) (v j)) i (omega arith) (λ j m ne. off j ne (is (a j)))
      ∙ (rw (p, q, eqb_yes (count i a) (count b f) e) refl))
    where
      off : (j : ℕ) → (j ≡ i → ⊥) → Is (a j) → only (takes a f j b) (v j) ≡ 0
      off j ne (is_true r) = rw (p, r, eqb_no (count j a) (count b f) (λ d. apart a i j q r ne (d ∙ sym e))) refl
      off j ne (is_false r) = rw (p, r) refl

-- ---- a row, cell by cell

module _ (t : List ℕ) (w : ℕ → ℕ) where
  -- every cell keeps what it held
  pub row_as_it_was : (n : ℕ) → ((b : ℕ) → b < n → at t b ≡ w b) → RowWritten t t n w
  row_as_it_was n h = record { long = refl; inside = h }

  -- the cells under another name
  pub row_same : (u : List ℕ) (n : ℕ) (w' : ℕ → ℕ) → RowWritten t u n w → ((b : ℕ) → b < n → w b ≡ w' b) → RowWritten t u n w'
  row_same u n w' done e =
      record { long = done.long; inside = λ b h. done.inside b h ∙ e b h }

  -- cell z, which is written already, is stored anew
  pub row_set : (u : List ℕ) (n z x : ℕ) (w' : ℕ → ℕ) → RowWritten t u n w → z < n → n ≤ length t → x ≡ w' z
      → ((b : ℕ) → b < n → (b ≡ z → ⊥) → w b ≡ w' b) → RowWritten t (set u z x) n w'
  row_set u n z x w' done l short e rest =
      record {
        long = length-set u z x ∙ done.long;
        inside = λ b h. go b h (is (eqb b z));
      }
    where
      go : (b : ℕ) → b < n → Is (eqb b z) → at (set u z x) b ≡ w' b
      go b h (is_true q) = rw (eq_of b z q) (get_or-set_same u z x 0 (omega (arith, done.long)) ∙ e)
      go b h (is_false q) =
          let other : b ≡ z → ⊥ = ne_of b z q in
          get_or-set_other u z b x 0 (λ y. other (omega arith)) ∙ done.inside b h ∙ rest b h other

-- ---- the free cells that are left after some were taken in order

-- a free cell that has m free ones before it, or more
abbrev pub untaken : (ℕ → Bool) → ℕ → ℕ → Bool
untaken f m b = f b && leb m (count b f)

module _ (f : ℕ → Bool) where
  pub untaken_none : (b : ℕ) → f b ≡ untaken f 0 b
  untaken_none b = go (is (f b))
    where
      go : Is (f b) → f b ≡ untaken f 0 b
      go (is_true e) = rw (e, leb_yes 0 (count b f) zero-le) refl
      go (is_false e) = rw e refl

  module _ (m : ℕ) where
    -- the first cell that is left has just m free ones before it
    pub untaken_first : (z : ℕ) → untaken f m z ≡ true → ((b : ℕ) → b < z → untaken f m b ≡ false) → count z f ≡ m
    untaken_first z e none =
        let enough : m ≤ count z f = le_of m (count z f) (right_of (f z) (leb m (count z f)) e) in
        let unmet : count z (λ b. f b && eqb m (count b f)) ≡ 0 = count_none z (λ b. f b && eqb m (count b f)) (λ b l. off b (none b l) (is (f b)) (is (eqb m (count b f)))) in
        go enough unmet (is (ltb m (count z f)))
      where
        off : (b : ℕ) → untaken f m b ≡ false → Is (f b) → Is (eqb m (count b f)) → (f b && eqb m (count b f)) ≡ false
        off b u (is_true p) (is_true q) =
            absurd (clash (sym (both (f b) (leb m (count b f)) p (leb_yes m (count b f) (le_of_eq (eq_of m (count b f) q)))) ∙ u))
        off b u (is_true p) (is_false q) = rw (p, q) refl
        off b u (is_false p) q = rw p refl

        go : m ≤ count z f → count z (λ b. f b && eqb m (count b f)) ≡ 0 → Is (ltb m (count z f)) → count z f ≡ m
        go enough unmet (is_true l) = absurd (omega (arith, nth_count z f m, ap bit l, unmet))
        go enough unmet (is_false l) = let most = ge_of m (count z f) l in omega arith

    -- without it, one more is taken
    pub untaken_more : (z : ℕ) → f z ≡ true → count z f ≡ m → (b : ℕ) → (untaken f m b && not (eqb b z)) ≡ untaken f (m + 1) b
    untaken_more z p e b = go (is (f b)) (is (eqb b z))
      where
        go : Is (f b) → Is (eqb b z) → (untaken f m b && not (eqb b z)) ≡ untaken f (m + 1) b
        go (is_true q) (is_true s) =
            let same : b ≡ z = eq_of b z s in
            rw (q, s, leb_no (m + 1) (count b f) (omega (arith, ap (λ (d : ℕ). count d f) same))) (and-false (leb m (count b f)))
        go (is_true q) (is_false s) = rw (q, s) (and-true (leb m (count b f)) ∙ further (is (leb m (count b f))))
          where
            other : count b f ≡ m → ⊥
            other d = apart f z b p q (ne_of b z s) (d ∙ sym e)

            further : Is (leb m (count b f)) → leb m (count b f) ≡ leb (m + 1) (count b f)
            further (is_true l) = l ∙ sym (leb_yes (m + 1) (count b f) (let k = le_of m (count b f) l in let ne : count b f ≡ m → ⊥ = other in omega arith))
            further (is_false l) = l ∙ sym (leb_no (m + 1) (count b f) (let k = gt_of m (count b f) l in omega arith))
        go (is_false q) s = rw q refl

    -- a cell that is not left stays so
    pub untaken_stays : (b : ℕ) → untaken f m b ≡ false → untaken f (m + 1) b ≡ false
    untaken_stays b u = go (is (f b))
      where
        go : Is (f b) → untaken f (m + 1) b ≡ false
        go (is_true q) =
            let l : count b f < m = gt_of m (count b f) (ap (λ (x : Bool). x && leb m (count b f)) (sym q) ∙ u) in
            rw (q, leb_no (m + 1) (count b f) (omega arith)) refl
        go (is_false q) = rw q refl

-- ---- who takes a free cell, by what is left

module _ (a f : ℕ → Bool) (i b : ℕ) where
  pub takes_not_chosen : a i ≡ false → takes a f i b ≡ false
  takes_not_chosen e = rw e (go (f b))
    where
      go : (x : Bool) → (x && false && eqb (count i a) (count b f)) ≡ false
      go true = refl
      go false = refl

  pub takes_not_left : untaken f (count i a) b ≡ false → takes a f i b ≡ false
  takes_not_left u = go (is (f b)) (is (eqb (count i a) (count b f)))
    where
      go : Is (f b) → Is (eqb (count i a) (count b f)) → takes a f i b ≡ false
      go (is_true p) (is_true q) =
          absurd (clash (sym (both (f b) (leb (count i a) (count b f)) p (leb_yes (count i a) (count b f) (le_of_eq (eq_of (count i a) (count b f) q)))) ∙ u))
      go (is_true p) (is_false q) = rw (p, q) (and-false (a i))
      go (is_false p) q = rw p refl

  -- another cell has as many before it
  pub takes_other : (z : ℕ) → f z ≡ true → count z f ≡ count i a → (b ≡ z → ⊥) → takes a f i b ≡ false
  takes_other z p e ne = go (is (f b))
    where
      go : Is (f b) → takes a f i b ≡ false
      go (is_true q) = rw (q, eqb_no (count i a) (count b f) (λ d. apart f z b p q ne (sym d ∙ sym e))) (and-false (a i))
      go (is_false q) = rw q refl

-- a cell that is left after all k jobs: nobody takes it
slot_cell_left : (k : ℕ) (a f : ℕ → Bool) (v t : ℕ → ℕ) (b : ℕ) → untaken f (count k a) b ≡ true → slot_cell k a f v t b ≡ 0
slot_cell_left k a f v t b u =
    ap (λ (x : Bool). cond x (sum k (λ i. only (takes a f i b) (v i))) (t b)) (left_of (f b) (leb (count k a) (count b f)) u)
    ∙ sum_zero k (λ i. only (takes a f i b) (v i)) (λ i l. ap (λ (x : Bool). only x (v i)) (off i l (is (a i))))
  where
    off : (i : ℕ) → i < k → Is (a i) → takes a f i b ≡ false
    off i l (is_true e) =
        let enough : count k a ≤ count b f = le_of (count k a) (count b f) (right_of (f b) (leb (count k a) (count b f)) u) in
        rw (eqb_no (count i a) (count b f) (λ z. omega (arith, z, enough, count_below k a i l, ap bit e))) (and-false (f b && a i))
    off i l (is_false e) = takes_not_chosen a f i b e

-- ---- a row after some jobs took their cells

-- what cell b holds after the jobs before i took theirs: a free cell that is left still what it held
abbrev cell_so_far : ℕ → (ℕ → Bool) → (ℕ → Bool) → (ℕ → ℕ) → (ℕ → ℕ) → ℕ → ℕ
cell_so_far i a f v t b = cond (untaken f (count i a) b) (t b) (slot_cell i a f v t b)

-- u is t with the n cells of the row written by the jobs before i, and g is the test of the free cells that are left
pub record RowFilled (t : List ℕ) (n : ℕ) (a f : ℕ → Bool) (v : ℕ → ℕ) (u : List ℕ) (g : ℕ → Bool) (i : ℕ) : Type 0 where
  pub row : RowWritten t u n (cell_so_far i a f v (at t))
  pub rest : (b : ℕ) → b < n → g b ≡ untaken f (count i a) b

module _ (t : List ℕ) (n : ℕ) (a f : ℕ → Bool) (v : ℕ → ℕ) where
  abbrev held : ℕ → ℕ
  held b = at t b

  -- no job has written yet
  pub filled_none : RowFilled t n a f v t f 0
  unfolding sum
  filled_none =
      record {
        row = row_as_it_was t (cell_so_far 0 a f v held) n (λ b h. go b (is (f b)));
        rest = λ b h. untaken_none f b;
      }
    where
      go : (b : ℕ) → Is (f b) → held b ≡ cell_so_far 0 a f v held b
      go b (is_true e) = sym (ap (λ (x : Bool). cond x (held b) (slot_cell 0 a f v held b)) (sym (untaken_none f b) ∙ e))
      go b (is_false e) = rw e refl

  module _ (u : List ℕ) (g : ℕ → Bool) (i : ℕ) (done : RowFilled t n a f v u g i) where
    -- a cell that job i does not take
    passed : (b : ℕ) → untaken f (count i a) b ≡ untaken f (count (i + 1) a) b → takes a f i b ≡ false
        → cell_so_far i a f v held b ≡ cell_so_far (i + 1) a f v held b
    passed b e off = ap₂ (λ (x : Bool) (y : ℕ). cond x (held b) y) e (slot_cell_passed i a f v held b off)

    -- job i takes no cell
    same : ((b : ℕ) → b < n → untaken f (count i a) b ≡ untaken f (count (i + 1) a) b) → ((b : ℕ) → b < n → takes a f i b ≡ false)
        → RowWritten t u n (cell_so_far (i + 1) a f v held)
    same stay off =
        row_same t (cell_so_far i a f v held) u n (cell_so_far (i + 1) a f v held) done.row (λ b h. passed b (stay b h) (off b h))

    -- it is not chosen
    pub filled_not_chosen : a i ≡ false → RowFilled t n a f v u g (i + 1)
    filled_not_chosen e =
        let stay : (b : ℕ) → untaken f (count i a) b ≡ untaken f (count (i + 1) a) b =
        λ b. ap (λ (m : ℕ). untaken f m b) (omega (arith, count_more i a, ap bit e)) in
        record { row = same (λ b h. stay b) (λ b h. takes_not_chosen a f i b e); rest = λ b h. done.rest b h ∙ stay b }

    -- it is, and no cell is left
    pub filled_full : a i ≡ true → ((b : ℕ) → b < n → g b ≡ false) → RowFilled t n a f v u g (i + 1)
    filled_full e none =
        let gone : (b : ℕ) → b < n → untaken f (count i a) b ≡ false = λ b h. sym (done.rest b h) ∙ none b h in
        let still : (b : ℕ) → b < n → untaken f (count (i + 1) a) b ≡ false =
        λ b h. ap (λ (m : ℕ). untaken f m b) (omega (arith, count_more i a, ap bit e)) ∙ untaken_stays f (count i a) b (gone b h) in
        record {
          row = same (λ b h. gone b h ∙ sym (still b h)) (λ b h. takes_not_left a f i b (gone b h));
          rest = λ b h. none b h ∙ sym (still b h);
        }

    -- it is, and z is the first cell that is left
    pub filled_next : a i ≡ true → (z : ℕ) → z < n → n ≤ length t → g z ≡ true → ((b : ℕ) → b < z → g b ≡ false)
        → (g' : ℕ → Bool) → ((b : ℕ) → g' b ≡ (g b && not (eqb b z))) → RowFilled t n a f v (set u z (v i)) g' (i + 1)
    filled_next e z l short here below g' without =
        let m = count i a in
        let left : untaken f m z ≡ true = sym (done.rest z l) ∙ here in
        let free : f z ≡ true = left_of (f z) (leb m (count z f)) left in
        let order : count z f ≡ m = untaken_first f m z left (λ b h. sym (done.rest b (omega arith)) ∙ below b h) in
        let next : m + 1 ≡ count (i + 1) a = omega (arith, count_more i a, ap bit e) in
        let fewer : (b : ℕ) → (untaken f m b && not (eqb b z)) ≡ untaken f (count (i + 1) a) b =
        λ b. untaken_more f m z free order b ∙ ap (λ (k : ℕ). untaken f k b) next in
        let gone : untaken f (count (i + 1) a) z ≡ false = sym (fewer z) ∙ (rw (eqb_self z) (and-false (untaken f m z))) in
        record {
          row =
              row_set t (cell_so_far i a f v held) u n z (v i) (cell_so_far (i + 1) a f v held) done.row l short
              (slot_cell_taken i a f v held z free e (sym order)
              ∙ sym (ap (λ (x : Bool). cond x (held z) (slot_cell (i + 1) a f v held z)) gone))
              (λ b h ne.
              passed b (sym (ap (λ (x : Bool). untaken f m b && not x) (eqb_no b z ne) ∙ and-true (untaken f m b)) ∙ fewer b) (takes_other a f i b z free order ne));
          rest = λ b h. without b ∙ ap (λ (x : Bool). x && not (eqb b z)) (done.rest b h) ∙ fewer b;
        }

  -- all k jobs have written, and the free cells that are left are made empty
  pub filled_all : (k : ℕ) (u : List ℕ) (g : ℕ → Bool) → RowFilled t n a f v u g k
      → (u' : List ℕ) → RowWritten u u' n (emptied g (at u)) → RowWritten t u' n (slot_cell k a f v held)
  filled_all k u g done u' end =
      record {
        long = end.long ∙ done.row.long;
        inside = λ b h. end.inside b h ∙ go b h (is (g b));
      }
    where
      go : (b : ℕ) → b < n → Is (g b) → emptied g (at u) b ≡ slot_cell k a f v held b
      go b h (is_true e) =
          emptied_free g (at u) b e ∙ sym (slot_cell_left k a f v held b (sym (done.rest b h) ∙ e))
      go b h (is_false e) =
          emptied_kept g (at u) b e
          ∙ done.row.inside b h
          ∙ ap (λ (x : Bool). cond x (held b) (slot_cell k a f v held b)) (sym (done.rest b h) ∙ e)

  -- all k jobs have written, and the free cells were empty before
  pub filled_clean : (k : ℕ) (u : List ℕ) (g : ℕ → Bool) → RowFilled t n a f v u g k → EmptyRow t n f
      → RowWritten t u n (slot_cell k a f v held)
  filled_clean k u g done clean =
      filled_all k u g done u (row_as_it_was u (emptied g (at u)) n (λ b h. go b h (is (g b))))
    where
      go : (b : ℕ) → b < n → Is (g b) → at u b ≡ emptied g (at u) b
      go b h (is_true e) =
          let left : untaken f (count k a) b ≡ true = sym (done.rest b h) ∙ e in
          done.row.inside b h
          ∙ ap (λ (x : Bool). cond x (held b) (slot_cell k a f v held b)) left
          ∙ clean b h (left_of (f b) (leb (count k a) (count b f)) left)
          ∙ sym (emptied_free g (at u) b e)
      go b h (is_false e) = sym (emptied_kept g (at u) b e)
