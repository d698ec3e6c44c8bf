-- The check that the code does, `checked` of specs/method/Check.antt, is the test `well_formed`.
--
-- In order: the counts of a table as cells of the frame; the held cells of a slot are those that have numbers (`held_numbered`); a cell that fits, both ways; a table that passes the check is well-formed, and a well-formed one passes it; the two tests are one
-- (`well_formed_checked`); a law for each answer.
-- Assumes nothing.
use Prim.Native.Nat.{ℕ, ◌+◌, ◌*◌, ◌-◌, ◌/◌, ◌%◌, ◌≤◌, ◌<◌}
use native.Mathlib.Nat.{le_refl, mod-lt, div-add-mod', div-lt_iff_lt-mul}
use native.Mathlib.Omega.{arith}
use mathlib.Core.Path.{◌≡◌, refl, sym, ◌∙◌, ap, ap₂}
use mathlib.Core.Logic.{⊎_elim}
use mathlib.Core.Bool.{Bool, true, false, not, ◌&&◌, ◌||◌}
use mathlib.Core.List.{List, [], ◌∷◌}
use lib.ListN.{get_or}
use lib.Dec.{ltb, leb, eqb}
use Rattle.laws.specs.Sums.{bit, sum, count, every}
use Rattle.laws.proofs.Tests.{Is, is_true, is_false, is, both, left_of, right_of, test_ext, end, ◌and◌, conjunction, conjunction_at, all_conjunction, not_is_true}
use Rattle.laws.proofs.Tests.{false_of_not, or_left, or_right, or_cases, fails_left, fails_right, clash}
use Rattle.laws.proofs.Comparisons.{lt_of, ge_of, le_of, gt_of, eq_of, ne_of, ltb_yes, ltb_no, leb_yes, leb_no, eqb_yes, eqb_no}
use Rattle.laws.proofs.Every.{every_all, all_every}
use Rattle.laws.proofs.Sums.{term_le, sum_zero, sum_split, sum_beyond, sum_rows}
use Rattle.laws.proofs.Counts.{count_capped, count_ext, count_none, count_some}
use Rattle.station.specs.Head.{Head, Valid, busy_at, preset_at}
use Rattle.placing.specs.Table.{Cells, Each, WellFormed, cell, holding, kind_of, number_in, mandatory_cell, optional_cell, call_cell, is_busy}
use Rattle.placing.specs.Table.{is_mandatory, is_optional, is_call, is_held, held_cells, motors, preset_count, number_at, has_preset, has_job, job_count, well_formed, each_cell}
use Rattle.placing.specs.method.Check.{tally, numbered, cell_fits, differs, is_new, held_before, is_fed, fits_at, preset_met, has_call, checked, FirstFault}
use Rattle.placing.proofs.CountedCells.{cells_pos, cells_some, number_in_lt, mandatory_of, call_of_lem, number_in_mandatory, number_in_optional, number_in_call}
use Rattle.placing.proofs.CountedCells.{number_at_low, number_at_lt, preset_with, kind_of_mandatory}
use Rattle.placing.proofs.FreeNumber.{unheld_low, held_test}
use Rattle.placing.proofs.WellFormed.{each_cell_all, all_each_cell, well_formed_of, of_well_formed}
use Rattle.placing.proofs.WrittenTable.{place_below}
use Rattle.placing.proofs.check.table.Counted.{tally_at, numbered_at}

-- ---- the counts as cells of the frame

-- of the cells before cell b of slot s
held_before_lem : (h : Head) (t : List ℕ) (k : ℕ) → k < 768 → (s b : ℕ)
    → get_or (tally t (s * h.bridges + b)) k 0
    ≡ sum s (λ r. count h.bridges (λ a. eqb (cell h t r a) (512 + k))) + count b (λ a. eqb (cell h t s a) (512 + k))
held_before_lem h t k l s b =
    tally_at t k l (s * h.bridges + b)
    ∙ sum_split (s * h.bridges) b (λ i. bit (eqb (get_or t i 0) (512 + k)))
    ∙ ap (λ (x : ℕ). x + count b (λ a. eqb (cell h t s a) (512 + k))) (sum_rows s h.bridges (λ i. bit (eqb (get_or t i 0) (512 + k))))

-- of the whole frame
held : (h : Head) (t : List ℕ) (k : ℕ) → k < 768 → get_or (tally t (h.slots * h.bridges)) k 0 ≡ holding h (cell h t) (512 + k)
held h t k l = tally_at t k l (h.slots * h.bridges) ∙ sum_rows h.slots h.bridges (λ i. bit (eqb (get_or t i 0) (512 + k)))

held_optional : (h : Head) (t : List ℕ) (n : ℕ) → n < 256 → get_or (tally t (h.slots * h.bridges)) (256 + n) 0 ≡ holding h (cell h t) (optional_cell n)
held_optional h t n l =
    let e : 512 + (256 + n) ≡ optional_cell n = omega arith in
    held h t (256 + n) (omega arith) ∙ ap (holding h (cell h t)) e

jobs_counted : (h : Head) (t : List ℕ) → count 256 (has_call (tally t (h.slots * h.bridges))) ≡ job_count h (cell h t)
jobs_counted h t =
    count_ext 256 (has_call (tally t (h.slots * h.bridges))) (λ n. has_job h (cell h t) n)
    (λ n l.
    let e : 512 + (512 + n) ≡ call_cell n = omega arith in
    ap (λ (k : ℕ). ltb 0 k) (held h t (512 + n) (omega arith) ∙ ap (holding h (cell h t)) e))

-- the counts of the presets' numbers
abbrev numbers : Head → List ℕ
numbers h = numbered h.presets (preset_count h)

preset_counted : (h : Head) (n : ℕ) → n < 256 → ltb 0 (get_or (numbers h) n 0) ≡ has_preset h n
preset_counted h n l = ap (λ (k : ℕ). ltb 0 k) (numbered_at h.presets n l (preset_count h))

-- ---- the held cells of a slot

-- of the five kinds, a cell is held just if it has a number
held_numbered : (v : ℕ) → kind_of v ≤ 4 → not (ltb v 512) ≡ is_held v
held_numbered v k = go (is (ltb v 512))
  where
    go : Is (ltb v 512) → not (ltb v 512) ≡ is_held v
    go (is_true e) = rw e (sym (unheld_low v (lt_of v 512 e)))
    go (is_false e) = rw e (sym (ltb_yes v 1280 (omega arith)) ∙ held_test v (ge_of v 512 e))

-- those before cell b of slot s
held_so_far : (h : Head) (t : List ℕ) (s b : ℕ) → ((a : ℕ) → a < b → kind_of (cell h t s a) ≤ 4)
    → held_before t (s * h.bridges) b ≡ count b (λ a. is_held (cell h t s a))
held_so_far h t s b kinds = count_ext b (λ a. not (ltb (cell h t s a) 512)) (λ a. is_held (cell h t s a)) (λ a l. held_numbered (cell h t s a) (kinds a l))

-- ---- a cell that fits

record Fits (ns c : List ℕ) (busy : Bool) (v : ℕ) : Type 0 where
  kinds : kind_of v ≤ 4
  plain : kind_of v ≤ 1 → number_in v ≡ 0
  marked : is_busy v ≡ busy
  presets : 512 ≤ v → v < 1024 → 0 < get_or ns (number_in v) 0
  calls : 1024 ≤ v → (1 ≤ number_in v) × (get_or ns (number_in v) 0 ≡ 0)
  first : kind_of v ≡ 2 → get_or c (v - 512 + 256) 0 ≡ 0

module _ (ns c : List ℕ) (v : ℕ) where
  -- the count of the presets with the number, and of the optional cells before that have it
  abbrev presets_with : ℕ
  presets_with = get_or ns (number_in v) 0

  abbrev optionals : ℕ
  optionals = get_or c (v - 512 + 256) 0

  -- the test of a busy cell, and of one that is not, by its kind
  busy_cell_lem : cell_fits ns c true v ≡ eqb v 256
  unfolding cell_fits
  busy_cell_lem = refl

  plain_cell : v < 512 → cell_fits ns c false v ≡ eqb v 0
  unfolding cell_fits
  plain_cell l = rw (ltb_yes v 512 l)

  call_cell_lem : 1024 ≤ v → cell_fits ns c false v ≡ (not (eqb v 1024) && (ltb v 1280 && eqb presets_with 0))
  unfolding cell_fits
  call_cell_lem l = rw (ltb_no v 512 (omega arith), leb_yes 1024 v l)

  preset_cell_lem : 512 ≤ v → v < 1024 → cell_fits ns c false v ≡ (not (eqb presets_with 0) && (leb 768 v || eqb optionals 0))
  unfolding cell_fits
  preset_cell_lem l m = rw (ltb_no v 512 l, leb_no 1024 v m)

  fits_of : (busy : Bool) → cell_fits ns c busy v ≡ true → Fits ns c busy v
  fits_of true e =
      let z : v ≡ 256 = eq_of v 256 (sym busy_cell_lem ∙ e) in
      record {
        kinds = omega arith;
        plain = λ k. omega arith;
        marked = eqb_yes v 256 z;
        presets = λ l m. absurd (omega arith);
        calls = λ l. absurd (omega arith);
        first = λ k. absurd (omega arith);
      }
  fits_of false e = go (is (ltb v 512)) (is (leb 1024 v))
    where
      go : Is (ltb v 512) → Is (leb 1024 v) → Fits ns c false v
      go (is_true p) q =
          let z : v ≡ 0 = eq_of v 0 (sym (plain_cell (lt_of v 512 p)) ∙ e) in
          record {
            kinds = omega arith;
            plain = λ k. omega arith;
            marked = eqb_no v 256 (λ w. omega arith);
            presets = λ l m. absurd (omega arith);
            calls = λ l. absurd (omega arith);
            first = λ k. absurd (omega arith);
          }
      go (is_false p) (is_true q) =
          let low : 1024 ≤ v = le_of 1024 v q in
          let w : (not (eqb v 1024) && (ltb v 1280 && eqb presets_with 0)) ≡ true = sym (call_cell_lem low) ∙ e in
          let ne : v ≡ 1024 → ⊥ = ne_of v 1024 (false_of_not (eqb v 1024) (left_of (not (eqb v 1024)) (ltb v 1280 && eqb presets_with 0) w)) in
          let rest = right_of (not (eqb v 1024)) (ltb v 1280 && eqb presets_with 0) w in
          let high : v < 1280 = lt_of v 1280 (left_of (ltb v 1280) (eqb presets_with 0) rest) in
          record {
            kinds = omega arith;
            plain = λ k. absurd (omega arith);
            marked = eqb_no v 256 (λ z. omega arith);
            presets = λ l m. absurd (omega arith);
            calls = λ l. (omega arith, eq_of presets_with 0 (right_of (ltb v 1280) (eqb presets_with 0) rest));
            first = λ k. absurd (omega arith);
          }
      go (is_false p) (is_false q) =
          let low : 512 ≤ v = ge_of v 512 p in
          let high : v < 1024 = gt_of 1024 v q in
          let w : (not (eqb presets_with 0) && (leb 768 v || eqb optionals 0)) ≡ true = sym (preset_cell_lem low high) ∙ e in
          let some : presets_with ≡ 0 → ⊥ = ne_of presets_with 0 (false_of_not (eqb presets_with 0) (left_of (not (eqb presets_with 0)) (leb 768 v || eqb optionals 0) w)) in
          record {
            kinds = omega arith;
            plain = λ k. absurd (omega arith);
            marked = eqb_no v 256 (λ z. omega arith);
            presets = λ l m. omega arith;
            calls = λ l. absurd (omega arith);
            first = λ k. ⊎_elim (λ z. absurd (let g : 768 ≤ v = le_of 768 v z in omega arith)) (λ z. eq_of optionals 0 z)
                (or_cases (leb 768 v) (eqb optionals 0) (right_of (not (eqb presets_with 0)) (leb 768 v || eqb optionals 0) w));
          }

  of_fits : (busy : Bool) → Fits ns c busy v → cell_fits ns c busy v ≡ true
  of_fits true f = busy_cell_lem ∙ f.marked
  of_fits false f = go (is (ltb v 512)) (is (leb 1024 v))
    where
      last : 512 ≤ v → Is (leb 768 v) → (leb 768 v || eqb optionals 0) ≡ true
      last l (is_true p) = or_left (leb 768 v) (eqb optionals 0) p
      last l (is_false p) =
          let g : v < 768 = gt_of 768 v p in
          or_right (leb 768 v) (eqb optionals 0) (eqb_yes optionals 0 (f.first (omega arith)))

      go : Is (ltb v 512) → Is (leb 1024 v) → cell_fits ns c false v ≡ true
      go (is_true p) q =
          let low : v < 512 = lt_of v 512 p in
          let k : number_in v ≡ 0 = f.plain (omega arith) in
          let ne : v ≡ 256 → ⊥ = ne_of v 256 f.marked in
          plain_cell low ∙ eqb_yes v 0 (omega arith)
      go (is_false p) (is_true q) =
          let low : 1024 ≤ v = le_of 1024 v q in
          let k : kind_of v ≤ 4 = f.kinds in
          let n : 1 ≤ number_in v = (f.calls low).0 in
          call_cell_lem low
          ∙ both (not (eqb v 1024)) (ltb v 1280 && eqb presets_with 0) (not_is_true (eqb v 1024) (eqb_no v 1024 (λ z. omega arith)))
          (both (ltb v 1280) (eqb presets_with 0) (ltb_yes v 1280 (omega arith)) (eqb_yes presets_with 0 (f.calls low).1))
      go (is_false p) (is_false q) =
          let low : 512 ≤ v = ge_of v 512 p in
          let high : v < 1024 = gt_of 1024 v q in
          let some : 0 < presets_with = f.presets low high in
          preset_cell_lem low high
          ∙ both (not (eqb presets_with 0)) (leb 768 v || eqb optionals 0) (not_is_true (eqb presets_with 0) (eqb_no presets_with 0 (λ z. omega arith)))
          (last low (is (leb 768 v)))

-- ---- the check and the record

-- the parts of `checked`, in its order
module _ (h : Head) (t : List ℕ) where
  abbrev by_cells : Bool
  by_cells = each_cell h (fits_at h.bridges (motors h) h.busy (numbers h) t)

  abbrev by_presets : Bool
  by_presets = every (preset_count h) (preset_met h.presets (tally t (h.slots * h.bridges)))

  abbrev by_jobs : Bool
  by_jobs = leb (count 256 (has_call (tally t (h.slots * h.bridges)))) 64

  abbrev parts : List Bool
  parts = by_cells ∷ by_presets ∷ by_jobs ∷ []

  parts_are : checked h t ≡ conjunction parts
  unfolding checked
  parts_are = refl

module _ (h : Head) (valid : Valid h) (t : List ℕ) where
  abbrev T : Cells
  T = cell h t

  -- the counts of the cells before cell b of slot s, and of the whole frame
  abbrev so_far : ℕ → ℕ → List ℕ
  so_far s b = tally t (s * h.bridges + b)

  abbrev all : List ℕ
  all = tally t (h.slots * h.bridges)

  -- the test of cell b of slot s by its value
  abbrev by_value : ℕ → ℕ → Bool
  by_value s b = cell_fits (numbers h) (so_far s b) (busy_at h s b) (T s b)

  -- a table that passes the check is well-formed
  module _ (e : checked h t ≡ true) where
    part : (i : ℕ) → get_or (parts h t) i true ≡ true
    part i = conjunction_at (parts h t) (sym (parts_are h t) ∙ e) i

    fits : Each h (λ s b. fits_at h.bridges (motors h) h.busy (numbers h) t s b ≡ true)
    fits = each_cell_all h (fits_at h.bridges (motors h) h.busy (numbers h) t) (part 0)

    fits_new : Each h (λ s b. (by_value s b && is_new t (s * h.bridges) b) ≡ true)
    fits_new s b ls lb = left_of (by_value s b && is_new t (s * h.bridges) b) (is_fed t (s * h.bridges) (motors h) b) (fits s b ls lb)

    cell_at : Each h (λ s b. Fits (numbers h) (so_far s b) (busy_at h s b) (T s b))
    cell_at s b ls lb =
        fits_of (numbers h) (so_far s b) (T s b) (busy_at h s b) (left_of (by_value s b) (is_new t (s * h.bridges) b) (fits_new s b ls lb))

    new_at : Each h (λ s b. is_new t (s * h.bridges) b ≡ true)
    new_at s b ls lb = right_of (by_value s b) (is_new t (s * h.bridges) b) (fits_new s b ls lb)

    fed_at : Each h (λ s b. is_fed t (s * h.bridges) (motors h) b ≡ true)
    fed_at s b ls lb = right_of (by_value s b && is_new t (s * h.bridges) b) (is_fed t (s * h.bridges) (motors h) b) (fits s b ls lb)

    -- before a held cell of a slot fewer are held than the supply feeds motors, so in all no more
    supplied : (s : ℕ) → s < h.slots → held_cells h T s ≤ motors h
    supplied s ls =
        omega (
          arith,
          held_so_far h t s h.bridges (λ b lb. (cell_at s b ls lb).kinds),
          count_capped h.bridges (motors h) (λ b. not (ltb (T s b) 512)) few,
        )
      where
        few : (b : ℕ) → b < h.bridges → not (ltb (T s b) 512) ≡ true → held_before t (s * h.bridges) b < motors h
        few b lb p =
            ⊎_elim (λ q. absurd (clash (sym q ∙ false_of_not _ p))) (λ q. lt_of (held_before t (s * h.bridges) b) (motors h) q)
            (or_cases (ltb (T s b) 512) (ltb (held_before t (s * h.bridges) b) (motors h)) (fed_at s b ls lb))

    -- a cell below the first mandatory one has no number
    plain : (s b : ℕ) → s < h.slots → b < h.bridges → ltb (T s b) 512 ≡ true → number_in (T s b) ≡ 0
    plain s b ls lb p = let l : T s b < 512 = lt_of (T s b) 512 p in (cell_at s b ls lb).plain (omega arith)

    once : (s a b : ℕ) → s < h.slots → a < b → b < h.bridges → number_in (T s a) ≡ number_in (T s b) → number_in (T s b) ≡ 0
    once s a b l k m q =
        ⊎_elim (plain s b l m)
        (λ w. ⊎_elim (λ p. sym q ∙ plain s a l (omega arith) p)
        (λ p. absurd (ne_of (number_in (T s a)) (number_in (T s b)) (false_of_not _ p) q))
        (or_cases (ltb (T s a) 512) (not (eqb (number_in (T s a)) (number_in (T s b)))) (every_all b (differs t (s * h.bridges) (number_in (T s b))) w a k)))
        (or_cases (ltb (T s b) 512) (every b (differs t (s * h.bridges) (number_in (T s b)))) (new_at s b l m))

    presets : Each h (λ s b. (is_mandatory (T s b) || is_optional (T s b)) ≡ true → has_preset h (number_in (T s b)) ≡ true)
    presets s b ls lb k =
        let kind : (2 ≤ kind_of (T s b)) × (kind_of (T s b) ≤ 3) =
        ⊎_elim (λ w. let q : kind_of (T s b) ≡ 2 = eq_of (kind_of (T s b)) 2 w in (omega arith, omega arith))
        (λ w. let q : kind_of (T s b) ≡ 3 = eq_of (kind_of (T s b)) 3 w in (omega arith, omega arith))
        (or_cases (is_mandatory (T s b)) (is_optional (T s b)) k) in
        sym (preset_counted h (number_in (T s b)) (number_in_lt (T s b)))
        ∙ ltb_yes 0 (get_or (numbers h) (number_in (T s b)) 0) ((cell_at s b ls lb).presets (omega arith) (omega arith))

    -- an optional cell in a slot before a mandatory one of its number would have been counted there; one in the same slot would have its number twice
    first : (i : ℕ) → i < preset_count h → (r s a b : ℕ) → r < h.slots → s < h.slots → a < h.bridges → b < h.bridges
        → T r a ≡ mandatory_cell (number_at h i) → T s b ≡ optional_cell (number_at h i) → r < s
    first i l r s a b lr ls la lb p q = go (is (ltb r s)) (is (ltb s r)) (is (ltb a b))
      where
        n : ℕ
        n = number_at h i

        low : 1 ≤ n
        low = number_at_low h valid i l

        high : n < 256
        high = number_at_lt h valid i l

        at_p : number_in (T r a) ≡ n
        at_p = ap number_in p ∙ number_in_mandatory n high

        at_q : number_in (T s b) ≡ n
        at_q = ap number_in q ∙ number_in_optional n high

        before : s < r → ⊥
        before k =
            let z : get_or (so_far r a) (T r a - 512 + 256) 0 ≡ 0 = (cell_at r a lr la).first (ap kind_of p ∙ kind_of_mandatory n high) in
            let v : T r a - 512 + 256 ≡ 256 + n = omega (arith, p) in
            let o : T s b ≡ 512 + (256 + n) = omega (arith, q) in
            omega (
              arith,
              z,
              ap (λ (x : ℕ). get_or (so_far r a) x 0) v,
              held_before_lem h t (256 + n) (omega (arith, high)) r a,
              term_le r (λ x. count h.bridges (λ y. eqb (T x y) (512 + (256 + n)))) s k,
              count_some h.bridges (λ y. eqb (T s y) (512 + (256 + n))) b lb (eqb_yes (T s b) (512 + (256 + n)) o),
            )

        beside : r ≡ s → Is (ltb a b) → Is (ltb b a) → ⊥
        beside e (is_true k) m =
            let same : number_in (T s a) ≡ number_in (T s b) = ap (λ (x : ℕ). number_in (T x a)) (sym e) ∙ at_p ∙ sym at_q in
            omega (arith, once s a b ls (lt_of a b k) lb same, at_q, low)
        beside e (is_false k) (is_true m) =
            let same : number_in (T r b) ≡ number_in (T r a) = ap (λ (x : ℕ). number_in (T x b)) e ∙ at_q ∙ sym at_p in
            omega (arith, once r b a lr (lt_of b a m) la same, at_p, low)
        beside e (is_false k) (is_false m) =
            let f : b ≤ a = ge_of a b k in
            let g : a ≤ b = ge_of b a m in
            let c : a ≡ b = omega arith in
            omega (arith, p, q, ap₂ T e c)

        go : Is (ltb r s) → Is (ltb s r) → Is (ltb a b) → r < s
        go (is_true k) m c = lt_of r s k
        go (is_false k) (is_true m) c = absurd (before (lt_of s r m))
        go (is_false k) (is_false m) c =
            let f : s ≤ r = ge_of r s k in
            let g : r ≤ s = ge_of s r m in
            absurd (beside (omega arith) c (is (ltb b a)))

    met_at : (i : ℕ) → i < preset_count h → preset_met h.presets all i ≡ true
    met_at i l = every_all (preset_count h) (preset_met h.presets all) (part 1) i l

    exactly : (i : ℕ) → i < preset_count h → holding h T (mandatory_cell (number_at h i)) ≡ (preset_at h i).mandatory
    exactly i l =
        let high : number_at h i < 256 = number_at_lt h valid i l in
        sym (held h t (number_at h i) (omega arith))
        ∙ eq_of (get_or all (number_at h i) 0) (preset_at h i).mandatory
        (left_of (eqb (get_or all (number_at h i) 0) (preset_at h i).mandatory) (leb (get_or all (256 + number_at h i) 0) (preset_at h i).optional) (met_at i l))

    at_most : (i : ℕ) → i < preset_count h → holding h T (optional_cell (number_at h i)) ≤ (preset_at h i).optional
    at_most i l =
        omega (
          arith,
          held_optional h t (number_at h i) (number_at_lt h valid i l),
          le_of (get_or all (256 + number_at h i) 0) (preset_at h i).optional
              (right_of (eqb (get_or all (number_at h i) 0) (preset_at h i).mandatory) (leb (get_or all (256 + number_at h i) 0) (preset_at h i).optional) (met_at i l)),
        )

    -- the cell of a job has a number that no preset has
    apart : (n : ℕ) → n < 256 → has_job h T n ≡ true → has_preset h n ≡ false
    apart n l j =
        let c = cells_pos h (λ s b. eqb (T s b) (call_cell n)) (lt_of 0 (holding h T (call_cell n)) j) in
        let v : T c.0 c.1 ≡ call_cell n = eq_of _ (call_cell n) c.4 in
        let z : get_or (numbers h) (number_in (T c.0 c.1)) 0 ≡ 0 = ((cell_at c.0 c.1 c.2 c.3).calls (omega arith)).1 in
        sym (preset_counted h n l)
        ∙ ltb_no 0 (get_or (numbers h) n 0) (omega (arith, z, ap (λ (x : ℕ). get_or (numbers h) x 0) (ap number_in v ∙ number_in_call n l)))

    checked_well_formed : WellFormed h T
    checked_well_formed =
        record {
          kinds = λ s b l m. (cell_at s b l m).kinds;
          plain = λ s b l m. (cell_at s b l m).plain;
          busy = λ s b l m. (cell_at s b l m).marked;
          presets = presets;
          calls = λ s b l m k. let f : kind_of (T s b) ≡ 4 = eq_of (kind_of (T s b)) 4 k in ((cell_at s b l m).calls (omega arith)).0;
          once = once;
          exact = exactly;
          first = first;
          most = at_most;
          jobs = omega (arith, jobs_counted h t, le_of (count 256 (has_call all)) 64 (part 2));
          apart = apart;
          supplied = supplied;
        }

  -- a well-formed table passes the check
  module _ (w : WellFormed h T) where
    has_preset_lem : (s b : ℕ) → s < h.slots → b < h.bridges → 512 ≤ T s b → T s b < 1024 → has_preset h (number_in (T s b)) ≡ true
    has_preset_lem s b ls lb low high = w.presets s b ls lb (go (is (ltb (T s b) 768)))
      where
        go : Is (ltb (T s b) 768) → (is_mandatory (T s b) || is_optional (T s b)) ≡ true
        go (is_true e) =
            let l : T s b < 768 = lt_of (T s b) 768 e in or_left _ (is_optional (T s b)) (eqb_yes (kind_of (T s b)) 2 (omega arith))
        go (is_false e) =
            let l : 768 ≤ T s b = ge_of (T s b) 768 e in or_right (is_mandatory (T s b)) _ (eqb_yes (kind_of (T s b)) 3 (omega arith))

    call_at : (s b : ℕ) → s < h.slots → b < h.bridges → 1024 ≤ T s b → is_call (T s b) ≡ true
    call_at s b ls lb low = eqb_yes (kind_of (T s b)) 4 (omega (arith, w.kinds s b ls lb))

    -- a cell from the first mandatory one on has a number
    number_low : (s b : ℕ) → s < h.slots → b < h.bridges → 512 ≤ T s b → 1 ≤ number_in (T s b)
    number_low s b ls lb low = go (is (ltb (T s b) 1024))
      where
        go : Is (ltb (T s b) 1024) → 1 ≤ number_in (T s b)
        go (is_true e) =
            let line = preset_with h (number_in (T s b)) (has_preset_lem s b ls lb low (lt_of (T s b) 1024 e)) in
            omega (arith, number_at_low h valid line.0 line.1, line.2)
        go (is_false e) = w.calls s b ls lb (call_at s b ls lb (ge_of (T s b) 1024 e))

    none_before : (s b : ℕ) → s < h.slots → b < h.bridges → kind_of (T s b) ≡ 2 → get_or (so_far s b) (T s b - 512 + 256) 0 ≡ 0
    none_before s b ls lb k =
        ap (λ (x : ℕ). get_or (so_far s b) x 0) v
        ∙ held_before_lem h t (256 + n) (omega (arith, number_in_lt (T s b))) s b
        ∙ ap₂ (λ (x y : ℕ). x + y)
        (sum_zero s (λ r. count h.bridges (λ a. eqb (T r a) (512 + (256 + n))))
        (λ r l. count_none h.bridges (λ a. eqb (T r a) (512 + (256 + n))) (λ a m. other r a (omega arith) m)))
        (count_none b (λ a. eqb (T s a) (512 + (256 + n))) (λ a m. other s a (omega arith) (omega arith)))
      where
        n : ℕ
        n = number_in (T s b)

        mine : T s b ≡ mandatory_cell n
        mine = mandatory_of (T s b) k

        v : T s b - 512 + 256 ≡ 256 + n
        v = omega (arith, mine)

        line : (i : ℕ) × (i < preset_count h) × (number_at h i ≡ n)
        line = preset_with h n (w.presets s b ls lb (or_left (is_mandatory (T s b)) (is_optional (T s b)) (eqb_yes (kind_of (T s b)) 2 k)))

        other : (r a : ℕ) → r ≤ s → a < h.bridges → eqb (T r a) (512 + (256 + n)) ≡ false
        other r a l m =
            eqb_no (T r a) (512 + (256 + n))
            (λ q.
            omega (
              arith,
              w.first line.0 line.1 s r b a ls (omega arith) lb m (mine ∙ ap mandatory_cell (sym line.2))
                  (let o : T r a ≡ optional_cell n = omega (arith, q) in o ∙ ap optional_cell (sym line.2)),
              l,
            ))

    cell_fits_lem : Each h (λ s b. Fits (numbers h) (so_far s b) (busy_at h s b) (T s b))
    cell_fits_lem s b ls lb =
        record {
          kinds = w.kinds s b ls lb;
          plain = w.plain s b ls lb;
          marked = w.busy s b ls lb;
          presets = λ low high. lt_of 0 _ (preset_counted h n (number_in_lt (T s b)) ∙ has_preset_lem s b ls lb low high);
          calls = λ low. (
            number_low s b ls lb (omega arith),
            let z : get_or (numbers h) n 0 ≤ 0 = ge_of 0 _ (preset_counted h n (number_in_lt (T s b)) ∙ w.apart n (number_in_lt (T s b)) (job low)) in omega arith,
          );
          first = none_before s b ls lb;
        }
      where
        n : ℕ
        n = number_in (T s b)

        job : 1024 ≤ T s b → has_job h T n ≡ true
        job low =
            ltb_yes 0 (holding h T (call_cell n))
            (cells_some h (λ r a. eqb (T r a) (call_cell n)) s b ls lb
            (eqb_yes (T s b) (call_cell n) (call_of_lem (T s b) (eq_of (kind_of (T s b)) 4 (call_at s b ls lb low)))))

    new : Each h (λ s b. is_new t (s * h.bridges) b ≡ true)
    new s b ls lb = go (is (ltb (T s b) 512))
      where
        n : ℕ
        n = number_in (T s b)

        go : Is (ltb (T s b) 512) → is_new t (s * h.bridges) b ≡ true
        go (is_true e) = or_left _ (every b (differs t (s * h.bridges) n)) e
        go (is_false e) =
            or_right (ltb (T s b) 512) _
            (all_every b (differs t (s * h.bridges) n)
            (λ a l. or_right (ltb (T s a) 512) _
            (not_is_true _ (eqb_no (number_in (T s a)) n (λ q. omega (arith, number_low s b ls lb (ge_of (T s b) 512 e), w.once s a b ls l lb q))))))

    -- a held cell is one of those that the supply feeds
    fed : Each h (λ s b. is_fed t (s * h.bridges) (motors h) b ≡ true)
    fed s b ls lb = go (is (ltb (T s b) 512))
      where
        go : Is (ltb (T s b) 512) → is_fed t (s * h.bridges) (motors h) b ≡ true
        go (is_true e) = or_left _ (ltb (held_before t (s * h.bridges) b) (motors h)) e
        go (is_false e) =
            or_right (ltb (T s b) 512) _
            (ltb_yes (held_before t (s * h.bridges) b) (motors h)
            (omega (
              arith,
              w.supplied s ls,
              held_so_far h t s h.bridges (λ a l. w.kinds s a ls l),
              sum_beyond b h.bridges (λ a. bit (not (ltb (T s a) 512))) b (le_refl b) lb,
              ap (λ (c : Bool). bit (not c)) e,
            )))

    met : (i : ℕ) → i < preset_count h → preset_met h.presets all i ≡ true
    met i l =
        let high : number_at h i < 256 = number_at_lt h valid i l in
        both (eqb (get_or all (number_at h i) 0) (preset_at h i).mandatory) (leb (get_or all (256 + number_at h i) 0) (preset_at h i).optional)
        (eqb_yes (get_or all (number_at h i) 0) (preset_at h i).mandatory (held h t (number_at h i) (omega arith) ∙ w.exact i l))
        (leb_yes (get_or all (256 + number_at h i) 0) (preset_at h i).optional (omega (arith, held_optional h t (number_at h i) high, w.most i l)))

    well_formed_passes : checked h t ≡ true
    well_formed_passes =
        parts_are h t
        ∙ all_conjunction (parts h t)
        (all_each_cell h (fits_at h.bridges (motors h) h.busy (numbers h) t)
        (λ s b ls lb. both (by_value s b && is_new t (s * h.bridges) b) (is_fed t (s * h.bridges) (motors h) b)
        (both (by_value s b) (is_new t (s * h.bridges) b) (of_fits (numbers h) (so_far s b) (T s b) (busy_at h s b) (cell_fits_lem s b ls lb)) (new s b ls lb))
        (fed s b ls lb))
        and all_every (preset_count h) (preset_met h.presets all) met
        and leb_yes (count 256 (has_call all)) 64 (omega (arith, jobs_counted h t, w.jobs))
        and end)

  pub well_formed_checked : well_formed h T ≡ checked h t
  well_formed_checked =
      test_ext (well_formed h T) (checked h t) (λ e. well_formed_passes (well_formed_of h T e)) (λ e. of_well_formed h T (checked_well_formed e))

-- ---- the answers, one law for each

module _ (h : Head) (valid : Valid h) (t : List ℕ) where
  answer : well_formed h (cell h t) ≡ (by_cells h t && by_presets h t && by_jobs h t)
  answer = well_formed_checked h valid t ∙ parts_are h t

  -- the first cell at fault is a cell of the frame: the table is not well-formed; it is none: every cell fits
  module _ (at : ℕ) (f : FirstFault h.slots h.bridges (motors h) h.busy (numbers h) t at) where
    pub cell_fails : at < h.slots * h.bridges → well_formed h (cell h t) ≡ false
    cell_fails l = answer ∙ fails_left (by_cells h t && by_presets h t) (by_jobs h t) (fails_left (by_cells h t) (by_presets h t) (go (is (by_cells h t))))
      where
        s : ℕ
        s = at / h.bridges

        b : ℕ
        b = at % h.bridges

        ls : s < h.slots
        ls = (div-lt_iff_lt-mul valid.bridges_low).1 l

        lb : b < h.bridges
        lb = mod-lt at valid.bridges_low

        go : Is (by_cells h t) → by_cells h t ≡ false
        go (is_true e) =
            absurd (clash (sym (each_cell_all h (fits_at h.bridges (motors h) h.busy (numbers h) t) e s b ls lb) ∙ f.fault s b ls lb (div-add-mod' at h.bridges)))
        go (is_false e) = e

    pub cells_fit : h.slots * h.bridges ≤ at → by_cells h t ≡ true
    cells_fit l =
        all_each_cell h (fits_at h.bridges (motors h) h.busy (numbers h) t)
        (λ s b ls lb. f.before s b lb (omega (arith, place_below h.slots h.bridges s b ls lb)))

  pub preset_fails : by_presets h t ≡ false → well_formed h (cell h t) ≡ false
  preset_fails e = answer ∙ fails_left (by_cells h t && by_presets h t) (by_jobs h t) (fails_right (by_cells h t) (by_presets h t) e)

  pub all_but_jobs : by_cells h t ≡ true → by_presets h t ≡ true → well_formed h (cell h t) ≡ by_jobs h t
  all_but_jobs p q = answer ∙ ap (λ (b : Bool). b && by_jobs h t) (both (by_cells h t) (by_presets h t) p q)
