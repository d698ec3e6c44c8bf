-- Laws of the definitions of specs/method/Check.antt, as the functions of src/check/table.rt cite them.
--
-- In order: counts by value (`counted`), then those of a table's cells (`tally`); the counts of the presets' numbers (`numbered`), and a preset's cells (`met_exact`,
-- `met_not`). The walk over the frame is in check/table/FrameWalk.antt; that the whole check is the test `well_formed` is in check/table/SameTest.antt.
-- Assumes nothing.
use Prim.Native.Nat.{ℕ, zero, suc, ◌+◌, ◌-◌, ◌≤◌, ◌<◌}
use native.Mathlib.Numerals.{add-one}
use native.Mathlib.Omega.{arith}
use mathlib.Core.Path.{◌≡◌, refl, sym, ◌∙◌, ap}
use mathlib.Core.Bool.{Bool, false, ◌&&◌}
use mathlib.Core.List.{List}
use lib.ListN.{length, get_or, replicate, length-set, length-replicate, get_or-replicate, get_or-eq_default}
use lib.Seq.{get_or-set_same, get_or-set_other, set_out}
use lib.Dec.{eqb, ltb, leb}
use Rattle.laws.specs.Sums.{bit, sum, count}
use Rattle.laws.proofs.Tests.{Is, is_true, is_false, is, test_ext}
use Rattle.laws.proofs.Comparisons.{lt_of, ge_of, eq_of, ne_of, ltb_yes, ltb_no, eqb_yes, eqb_no}
use Rattle.laws.proofs.Counts.{count_le, count_ext}
use Rattle.station.specs.Head.{Preset, no_preset}
use Rattle.placing.specs.method.Check.{bump, counted, place_of, tally, numbered, is_met}

-- ---- counts by value

module _ (m : ℕ) (f : ℕ → ℕ) where
  pub counted_length : (n : ℕ) → length (counted m f n) ≡ m
  unfolding counted
  counted_length zero = length-replicate m 0
  counted_length (suc n) = length-set (counted m f n) (f n) (get_or (counted m f n) (f n) 0 + 1) ∙ counted_length n

  pub counted_at : (v : ℕ) → v < m → (n : ℕ) → get_or (counted m f n) v 0 ≡ count n (λ i. eqb (f i) v)
  unfolding counted sum
  counted_at v l zero = get_or-replicate m v 0 0 l
  counted_at v l (suc n) = go (is (eqb (f n) v)) (counted_at v l n)
    where
      c : List ℕ
      c = counted m f n

      go : Is (eqb (f n) v) → get_or c v 0 ≡ count n (λ i. eqb (f i) v) → get_or (bump c (f n)) v 0 ≡ count n (λ i. eqb (f i) v) + bit (eqb (f n) v)
      go (is_true e) ih =
          let q : f n ≡ v = eq_of (f n) v e in
          let at : get_or (bump c (f n)) v 0 ≡ get_or c v 0 + 1 =
          rw q (get_or-set_same c v (get_or c v 0 + 1) 0 (omega (arith, counted_length n))) in
          omega (arith, at, ih, ap bit e)
      go (is_false e) ih =
          omega (
            arith,
            get_or-set_other c (f n) v (get_or c (f n) 0 + 1) 0 (λ q. ne_of (f n) v e (sym q)),
            ih,
            ap bit e,
          )

  pub counted_le : (v n : ℕ) → get_or (counted m f n) v 0 ≤ n
  counted_le v n = go (is (ltb v m))
    where
      go : Is (ltb v m) → get_or (counted m f n) v 0 ≤ n
      go (is_true l) = omega (arith, counted_at v (lt_of v m l) n, count_le n (λ i. eqb (f i) v))
      go (is_false l) =
          omega (arith, get_or-eq_default (counted m f n) 0 {n = v} (omega (arith, ge_of v m l, counted_length n)))

  pub counted_none : counted m f 0 ≡ replicate m 0
  unfolding counted
  counted_none = refl

  pub counted_more : (n : ℕ) → counted m f (n + 1) ≡ bump (counted m f n) (f n)
  unfolding counted
  counted_more n = rw (add-one n) refl

  pub counted_skip : (n : ℕ) → m ≤ f n → counted m f (n + 1) ≡ counted m f n
  counted_skip n l = counted_more n ∙ set_out (counted m f n) (f n) (get_or (counted m f n) (f n) 0 + 1) (omega (arith, counted_length n))

-- where a cell is counted
place_none : (v : ℕ) → v < 512 → place_of v ≡ 768
unfolding place_of
place_none v l = rw (ltb_yes v 512 l)

place_some : (v : ℕ) → 512 ≤ v → place_of v ≡ v - 512
unfolding place_of
place_some v l = rw (ltb_no v 512 l)

place_test : (v k : ℕ) → k < 768 → eqb (place_of v) k ≡ eqb v (512 + k)
place_test v k l = go (is (ltb v 512))
  where
    go : Is (ltb v 512) → eqb (place_of v) k ≡ eqb v (512 + k)
    go (is_true e) =
        let w : v < 512 = lt_of v 512 e in
        eqb_no (place_of v) k (λ q. omega (arith, place_none v w, q)) ∙ sym (eqb_no v (512 + k) (λ q. omega arith))
    go (is_false e) =
        let w : 512 ≤ v = ge_of v 512 e in
        test_ext (eqb (place_of v) k) (eqb v (512 + k))
        (λ q. eqb_yes v (512 + k) (omega (arith, place_some v w, eq_of (place_of v) k q)))
        (λ q. eqb_yes (place_of v) k (omega (arith, place_some v w, eq_of v (512 + k) q)))

-- the counts of a table's cells
module _ (t : List ℕ) where
  pub tally_at : (k : ℕ) → k < 768 → (n : ℕ) → get_or (tally t n) k 0 ≡ count n (λ i. eqb (get_or t i 0) (512 + k))
  unfolding tally
  tally_at k l n =
      counted_at 768 (λ i. place_of (get_or t i 0)) k l n
      ∙ count_ext n (λ i. eqb (place_of (get_or t i 0)) k) (λ i. eqb (get_or t i 0) (512 + k)) (λ i m. place_test (get_or t i 0) k l)

  pub tally_le : (k n : ℕ) → get_or (tally t n) k 0 ≤ n
  unfolding tally
  tally_le k n = counted_le 768 (λ i. place_of (get_or t i 0)) k n

  pub tally_none : tally t 0 ≡ replicate 768 0
  unfolding tally
  tally_none = counted_none 768 (λ i. place_of (get_or t i 0))

  pub tally_more : (n : ℕ) → 512 ≤ get_or t n 0 → tally t (n + 1) ≡ bump (tally t n) (get_or t n 0 - 512)
  unfolding tally
  tally_more n l = counted_more 768 (λ i. place_of (get_or t i 0)) n ∙ ap (bump (tally t n)) (place_some (get_or t n 0) l)

  pub tally_skip : (n : ℕ) → get_or t n 0 < 512 → tally t (n + 1) ≡ tally t n
  unfolding tally
  tally_skip n l = counted_skip 768 (λ i. place_of (get_or t i 0)) n (omega (arith, place_none (get_or t n 0) l))

-- ---- the presets

module _ (ps : List Preset) where
  pub numbered_none : numbered ps 0 ≡ replicate 256 0
  unfolding numbered
  numbered_none = counted_none 256 (λ i. (get_or ps i no_preset).number)

  pub numbered_more : (n : ℕ) → numbered ps (n + 1) ≡ bump (numbered ps n) (get_or ps n no_preset).number
  unfolding numbered
  numbered_more n = counted_more 256 (λ i. (get_or ps i no_preset).number) n

  pub numbered_le : (v n : ℕ) → get_or (numbered ps n) v 0 ≤ n
  unfolding numbered
  numbered_le v n = counted_le 256 (λ i. (get_or ps i no_preset).number) v n

  pub numbered_at : (v : ℕ) → v < 256 → (n : ℕ) → get_or (numbered ps n) v 0 ≡ count n (λ i. eqb (get_or ps i no_preset).number v)
  unfolding numbered
  numbered_at v l n = counted_at 256 (λ i. (get_or ps i no_preset).number) v l n

-- a preset's cells: the mandatory ones are as many as they should be, and what is left to test; or they are not
pub met_exact : (c : List ℕ) (p : Preset) → get_or c p.number 0 ≡ p.mandatory → is_met c p ≡ leb (get_or c (256 + p.number) 0) p.optional
met_exact c p e = ap (λ (b : Bool). b && leb (get_or c (256 + p.number) 0) p.optional) (eqb_yes (get_or c p.number 0) p.mandatory e)

pub met_not : (c : List ℕ) (p : Preset) → (get_or c p.number 0 ≡ p.mandatory → ⊥) → is_met c p ≡ false
met_not c p h = ap (λ (b : Bool). b && leb (get_or c (256 + p.number) 0) p.optional) (eqb_no (get_or c p.number 0) p.mandatory h)
