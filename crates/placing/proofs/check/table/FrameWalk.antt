-- The walk over a frame up to the first cell at fault, as `check::table::scan` does it: what is known before each slot, `Passed`, and before each cell, `Walked`.
-- Both speak of one running index, the place `at` of the cell at hand.
--
-- In order: the marks of the numbers; a cell that fits is below the first value past the last kind; places and cells that fit up to one (`FitBefore`); the walk's
-- beginning, a slot's beginning, a cell without a number, a cell with one, a slot's end; then the first cell at fault: one that does not fit, one whose number stands in
-- the slot twice, one for which no motor is left, and none.
-- Assumes nothing.
use Prim.Native.Nat.{ℕ, ◌+◌, ◌*◌, ◌-◌, ◌/◌, ◌%◌, ◌≤◌, ◌<◌}
use native.Mathlib.Nat.{zero-mul}
use native.Mathlib.Numerals.{add-one}
use native.Mathlib.Omega.{arith}
use mathlib.Core.Path.{◌≡◌, refl, sym, ◌∙◌, ap, ap₂}
use mathlib.Core.Bool.{Bool, true, false, not, ◌&&◌, and-true}
use mathlib.Core.List.{List}
use lib.Arith.{digits_div, digits_mod}
use lib.ListN.{length, get_or, set, replicate, length-set, length-replicate}
use lib.Seq.{get_or-set_same, get_or-set_other}
use lib.Dec.{eqb, ltb}
use Rattle.laws.specs.Sums.{bit, every}
use Rattle.laws.proofs.Tests.{Is, is_true, is_false, is, clash, both, fails_left, fails_right, not_is_true, not_is_false, true_of_not, false_of_not, or_left}
use Rattle.laws.proofs.Tests.{or_right}
use Rattle.laws.proofs.Comparisons.{lt_of, ge_of, eq_of, ne_of, ltb_yes, ltb_no, leb_yes, eqb_yes, eqb_no}
use Rattle.laws.proofs.Every.{every_not}
use Rattle.laws.proofs.Stores.{zeros}
use Rattle.laws.proofs.Loops.{sum_none, count_more, every_none}
use Rattle.station.specs.Head.{has_bit}
use Rattle.placing.specs.Table.{number_in}
use Rattle.placing.specs.method.Check.{bump, tally, cell_fits, differs, is_new, held_before, is_fed, fits_at, FirstFault}
use Rattle.placing.proofs.HeadRecord.{next_row}
use Rattle.placing.proofs.WrittenTable.{place_below}
use Rattle.placing.proofs.check.table.Counted.{tally_more, tally_skip}

-- ---- the marks

-- For each number one more than the last slot that has it, or 0. Before slot s none is above s.
pub record Marks (s : ℕ) (last : List ℕ) : Type 0 where
  pub size : length last ≡ 256
  pub most : (n : ℕ) → get_or last n 0 ≤ s

marks_none : Marks 0 (replicate 256 0)
marks_none = record { size = length-replicate {A = ℕ} 256 0; most = λ n. omega (arith, zeros 256 n) }

marks_next : (s : ℕ) (last : List ℕ) → Marks s last → Marks (s + 1) last
marks_next s last m = record { size = m.size; most = λ n. omega (arith, m.most n) }

marks_more : (s : ℕ) (last : List ℕ) (k : ℕ) → k < 256 → Marks s last → Marks s (set last k s)
marks_more s last k l m = record { size = length-set last k s ∙ m.size; most = λ n. go n (is (eqb k n)) }
  where
    go : (n : ℕ) → Is (eqb k n) → get_or (set last k s) n 0 ≤ s
    go n (is_true e) = rw (sym (eq_of k n e)) (omega (arith, get_or-set_same last k s 0 (omega (arith, m.size))))
    go n (is_false e) = omega (arith, m.most n, get_or-set_other last k n s 0 (λ q. ne_of k n e (sym q)))

-- ---- a cell that fits

pub fits_below : (ns c : List ℕ) (busy : Bool) (v : ℕ) → cell_fits ns c busy v ≡ true → v < 1280
unfolding cell_fits
fits_below ns c true v e = omega (arith, eq_of v 256 e)
fits_below ns c false v e = go (is (ltb v 1280))
  where
    go : Is (ltb v 1280) → v < 1280
    go (is_true q) = lt_of v 1280 q
    go (is_false q) =
        let l : 1280 ≤ v = ge_of v 1280 q in
        absurd (clash (sym (simp (ltb_no v 512 (omega arith), leb_yes 1024 v (omega arith), q) at e) ∙ fails_right (not (eqb v 1024)) false refl))

-- ---- places, and cells that fit

-- two cells of a frame at one place are one cell
same_place : (m s b r a : ℕ) → b < m → a < m → r * m + a ≡ s * m + b → (r ≡ s) × (a ≡ b)
same_place m s b r a lb la e =
    (sym (digits_div r la) ∙ ap (λ (x : ℕ). x / m) e ∙ digits_div s lb, sym (digits_mod r la) ∙ ap (λ (x : ℕ). x % m) e ∙ digits_mod s lb)

every_same : (n : ℕ) (p : ℕ → Bool) → p n ≡ true → every (n + 1) p ≡ every n p
unfolding every
every_same n p e = rw (add-one n, e) (and-true (every n p))

module _ (m fed : ℕ) (busy ns t : List ℕ) where
  -- every cell before the place fits by the cells before it
  abbrev pub FitBefore : ℕ → Type 0
  FitBefore at = (r a : ℕ) → a < m → r * m + a < at → fits_at m fed busy ns t r a ≡ true

  -- what is known of one cell of a place is known of each
  fits_there : (s b at : ℕ) (x : Bool) → b < m → at ≡ s * m + b → fits_at m fed busy ns t s b ≡ x
      → (r a : ℕ) → a < m → r * m + a ≡ at → fits_at m fed busy ns t r a ≡ x
  fits_there s b at x lb e f r a la q =
      let one = same_place m s b r a lb la (q ∙ e) in
      ap₂ (λ (y z : ℕ). fits_at m fed busy ns t y z) one.0 one.1 ∙ f

  fit_more : (s b at : ℕ) → b < m → at ≡ s * m + b → FitBefore at → fits_at m fed busy ns t s b ≡ true → FitBefore (at + 1)
  fit_more s b at lb e fit f r a la l = go (is (ltb (r * m + a) at))
    where
      go : Is (ltb (r * m + a) at) → fits_at m fed busy ns t r a ≡ true
      go (is_true q) = fit r a la (lt_of (r * m + a) at q)
      go (is_false q) =
          let high : at ≤ r * m + a = ge_of (r * m + a) at q in
          fits_there s b at true lb e f r a la (omega arith)

-- ---- the walk

-- The cells before slot s are counted and fit, and no number has the mark of this slot or a later one.
pub record Passed (m fed : ℕ) (busy ns t : List ℕ) (s at : ℕ) (counts last : List ℕ) : Type 0 where
  pub place : at ≡ s * m
  pub counted : counts ≡ tally t at
  pub marks : Marks s last
  pub fit : FitBefore m fed busy ns t at

-- The cells before cell b of slot s are counted and fit, the numbers that the slot has so far are those that have its mark, and so many of its cells have one.
pub record Walked (m fed : ℕ) (busy ns t : List ℕ) (s b at : ℕ) (counts last : List ℕ) (held : ℕ) : Type 0 where
  pub place : at ≡ s * m + b
  pub counted : counts ≡ tally t at
  pub marks : Marks (s + 1) last
  pub seen : (n : ℕ) → n < 256 → eqb (get_or last n 0) (s + 1) ≡ not (every b (differs t (s * m) n))
  pub numbered : held ≡ held_before t (s * m) b
  pub fit : FitBefore m fed busy ns t at

module _ (m fed : ℕ) (busy ns t : List ℕ) where
  pub passed_none : (counts : List ℕ) → counts ≡ tally t 0 → Passed m fed busy ns t 0 0 counts (replicate 256 0)
  passed_none counts e = record { place = sym (zero-mul m); counted = e; marks = marks_none; fit = λ r a la l. absurd (omega arith) }

  pub slot_begun : (s at : ℕ) (counts last : List ℕ) → Passed m fed busy ns t s at counts last → Walked m fed busy ns t s 0 at counts last 0
  slot_begun s at counts last p =
      record {
        place = omega (arith, p.place);
        counted = p.counted;
        marks = marks_next s last p.marks;
        seen = λ n l.
            eqb_no (get_or last n 0) (s + 1) (λ q. omega (arith, p.marks.most n)) ∙ sym (not_is_false _ (every_none (differs t (s * m) n)));
        numbered = sym (sum_none _);
        fit = p.fit;
      }

  module _ (s b at : ℕ) (counts last : List ℕ) (held : ℕ) (w : Walked m fed busy ns t s b at counts last held) where
    -- what the cell holds, and its test by the counts at hand
    abbrev v : ℕ
    v = get_or t at 0

    abbrev test : Bool
    test = cell_fits ns counts (has_bit (get_or busy b 0) s) v

    here : get_or t (s * m + b) 0 ≡ v
    here = ap (λ (i : ℕ). get_or t i 0) (sym w.place)

    tested : (r : Bool) → test ≡ r → cell_fits ns (tally t (s * m + b)) (has_bit (get_or busy b 0) s) (get_or t (s * m + b) 0) ≡ r
    tested r e = rw (sym w.place, sym w.counted) e

    -- whether the number is new in the slot, by its mark
    plain_new : v < 512 → is_new t (s * m) b ≡ true
    plain_new low = or_left _ (every b (differs t (s * m) (number_in (get_or t (s * m + b) 0)))) (ltb_yes (get_or t (s * m + b) 0) 512 (omega (arith, here)))

    marked_new : (x : Bool) → 512 ≤ v → eqb (get_or last (number_in v) 0) (s + 1) ≡ not x → is_new t (s * m) b ≡ x
    marked_new true high e = rw (here, ltb_no v 512 high) (true_of_not _ (sym (w.seen (number_in v) (omega arith)) ∙ e))
    marked_new false high e = rw (here, ltb_no v 512 high) (false_of_not _ (sym (w.seen (number_in v) (omega arith)) ∙ e))

    -- how many cells of the slot have numbers, with this one
    held_more : held_before t (s * m) (b + 1) ≡ held + bit (not (ltb v 512))
    held_more =
        count_more b (λ a. not (ltb (get_or t (s * m + a) 0) 512)) ∙ ap₂ (λ (x y : ℕ). x + bit (not (ltb y 512))) (sym w.numbered) here

    -- whether a motor is left for the cell
    plain_fed : v < 512 → is_fed t (s * m) fed b ≡ true
    plain_fed low = or_left _ (ltb (held_before t (s * m) b) fed) (ltb_yes (get_or t (s * m + b) 0) 512 (omega (arith, here)))

    held_fed : held < fed → is_fed t (s * m) fed b ≡ true
    held_fed l = or_right (ltb (get_or t (s * m + b) 0) 512) _ (ltb_yes (held_before t (s * m) b) fed (omega (arith, w.numbered)))

    held_unfed : 512 ≤ v → fed ≤ held → is_fed t (s * m) fed b ≡ false
    held_unfed high l = rw (here, ltb_no v 512 high) (ltb_no (held_before t (s * m) b) fed (omega (arith, w.numbered)))

    pub walked_skip : b < m → test ≡ true → v < 512 → Walked m fed busy ns t s (b + 1) (at + 1) counts last held
    walked_skip lb e low =
        record {
          place = omega (arith, w.place);
          counted = w.counted ∙ sym (tally_skip t at low);
          marks = w.marks;
          seen = λ n l. w.seen n l ∙ ap not (sym (every_same b (differs t (s * m) n) (or_left _ _ (ltb_yes (get_or t (s * m + b) 0) 512 (omega (arith, here))))));
          numbered = omega (arith, held_more, ap (λ (c : Bool). bit (not c)) (ltb_yes v 512 low));
          fit = fit_more m fed busy ns t s b at lb w.place w.fit (both _ _ (both _ _ (tested true e) (plain_new low)) (plain_fed low));
        }

    pub walked_more : b < m → test ≡ true → 512 ≤ v → held < fed → (get_or last (number_in v) 0 ≡ s + 1 → ⊥)
        → Walked m fed busy ns t s (b + 1) (at + 1) (bump counts (v - 512)) (set last (number_in v) (s + 1)) (held + 1)
    walked_more lb e high few ne =
        record {
          place = omega (arith, w.place);
          counted = ap (λ (c : List ℕ). bump c (v - 512)) w.counted ∙ sym (tally_more t at high);
          marks = marks_more (s + 1) last (number_in v) (omega arith) w.marks;
          seen = λ n l. go n l (is (eqb (number_in v) n));
          numbered = omega (arith, held_more, ap (λ (c : Bool). bit (not c)) (ltb_no v 512 high));
          fit = fit_more m fed busy ns t s b at lb w.place w.fit
              (both _ _ (both _ _ (tested true e) (marked_new true high (eqb_no (get_or last (number_in v) 0) (s + 1) ne))) (held_fed few));
        }
      where
        go : (n : ℕ) → n < 256 → Is (eqb (number_in v) n)
            → eqb (get_or (set last (number_in v) (s + 1)) n 0) (s + 1) ≡ not (every (b + 1) (differs t (s * m) n))
        go n l (is_true q) =
            eqb_yes _ (s + 1)
            (ap (λ (x : ℕ). get_or (set last (number_in v) (s + 1)) x 0) (sym (eq_of (number_in v) n q))
            ∙ get_or-set_same last (number_in v) (s + 1) 0 (omega (arith, w.marks.size)))
            ∙ sym (not_is_true _ (every_not (b + 1) (differs t (s * m) n) b (omega arith) (rw (here, ltb_no v 512 high, q))))
        go n l (is_false q) =
            ap (λ (x : ℕ). eqb x (s + 1)) (get_or-set_other last (number_in v) n (s + 1) 0 (λ z. ne_of (number_in v) n q (sym z)))
            ∙ w.seen n l
            ∙ ap not (sym (every_same b (differs t (s * m) n) (rw here (or_right (ltb v 512) (not (eqb (number_in v) n)) (not_is_true _ q)))))

    pub slot_done : b ≡ m → Passed m fed busy ns t (s + 1) at counts last
    slot_done e =
        record {
          place = w.place ∙ ap (λ (k : ℕ). s * m + k) e ∙ next_row s m;
          counted = w.counted;
          marks = w.marks;
          fit = w.fit;
        }

    -- ---- the first cell at fault

    fault_here : (slots : ℕ) → s < slots → b < m → fits_at m fed busy ns t s b ≡ false → FirstFault slots m fed busy ns t at
    fault_here slots ls lb f =
        record {
          most = omega (arith, w.place, place_below slots m s b ls lb);
          before = w.fit;
          fault = λ r a lr la e. fits_there m fed busy ns t s b at false lb w.place f r a la e;
        }

    pub cell_unfit : (slots : ℕ) → s < slots → b < m → test ≡ false → FirstFault slots m fed busy ns t at
    cell_unfit slots ls lb e = fault_here slots ls lb (fails_left _ (is_fed t (s * m) fed b) (fails_left _ (is_new t (s * m) b) (tested false e)))

    pub number_twice : (slots : ℕ) → s < slots → b < m → 512 ≤ v → get_or last (number_in v) 0 ≡ s + 1 → FirstFault slots m fed busy ns t at
    number_twice slots ls lb high e =
        fault_here slots ls lb
        (fails_left _ (is_fed t (s * m) fed b)
        (fails_right (cell_fits ns (tally t (s * m + b)) (has_bit (get_or busy b 0) s) (get_or t (s * m + b) 0)) _
        (marked_new false high (eqb_yes (get_or last (number_in v) 0) (s + 1) e))))

    pub no_motor_left : (slots : ℕ) → s < slots → b < m → 512 ≤ v → fed ≤ held → FirstFault slots m fed busy ns t at
    no_motor_left slots ls lb high l =
        fault_here slots ls lb
        (fails_right (cell_fits ns (tally t (s * m + b)) (has_bit (get_or busy b 0) s) (get_or t (s * m + b) 0) && is_new t (s * m) b) _ (held_unfed high l))

  pub no_fault : (slots s at : ℕ) (counts last : List ℕ) → Passed m fed busy ns t s at counts last → s ≡ slots → FirstFault slots m fed busy ns t at
  no_fault slots s at counts last p e =
      let whole : at ≡ slots * m = p.place ∙ ap (λ (k : ℕ). k * m) e in
      record {
        most = omega (arith, whole);
        before = p.fit;
        fault = λ r a lr la q. absurd (omega (arith, whole, q, place_below slots m r a lr la));
      }
