-- Laws of words and numbers at a place of a text, for the code that reads them byte by byte.
--
-- In order: a word byte by byte (`starts_more`, `starts_other`, `starts_done`, `starts_length`, `starts_longer`, `starts_none`,
-- `closes_short`); a digit at a place (`leads_at`, `leads_past`, `lead`); the digits from a place on (`count_more`, `count_none`,
-- `front_more`, `front_none`); when they are a number (`plain_none`, `plain_digits`, `plain_some`, `plain_inside`); a value that stops at
-- 65,535 (`seen_from`, `seen_more`), and that this is harmless (`seen_leb`, `seen_leb_of`, `seen_within`); a number at a place (`stands`,
-- `stands_none`, `then_fits`).
-- Assumes nothing.
use Prim.Native.Nat.{ℕ, suc, ◌+◌, ◌-◌, ◌*◌, ◌≤◌, ◌<◌}
use native.Mathlib.Omega.{arith}
use mathlib.Core.Path.{◌≡◌, refl, sym, ◌∙◌, ap}
use mathlib.Core.Bool.{true, false, not, ◌||◌, and-true}
use mathlib.Core.List.{List, [], ◌∷◌}
use lib.ListN.{length, take, drop, get_or, drop_of_length-le, length-drop}
use lib.Seq.{drop-cons}
use lib.Dec.{eqb, leb}
use Rattle.laws.proofs.Tests.{Is, is, is_true, is_false, clash, right_of, test_ext}
use Rattle.laws.proofs.Comparisons.{eqb_yes, eqb_no, eq_of, ne_of, le_of, gt_of, leb_yes}
use Rattle.station.specs.Head.{within}
use Rattle.station.specs.Decimal.{is_digit, digit_count, plain, value_from}
use Rattle.station.specs.Form.{starts}
use Rattle.std.specs.Prelude.{Option, Some, None}
use Rattle.station.specs.method.Numeral.{leads, front, front_from, numeral_at, closes}
use Rattle.station.specs.declared.numbers.Numeral.{Numeral}
use Rattle.station.proofs.Decimal.{digit_low, digit_high}
use Rattle.station.specs.Jobs.{seen}

-- ---- a word byte by byte

starts_same : (c b : ℕ) (w l : List ℕ) → c ≡ b → starts (c ∷ w) (b ∷ l) ≡ starts w l
unfolding starts
starts_same c b w l e = rw (eqb_yes c b e) refl

starts_unlike : (c b : ℕ) (w l : List ℕ) → (c ≡ b → ⊥) → starts (c ∷ w) (b ∷ l) ≡ false
unfolding starts
starts_unlike c b w l e = rw (eqb_no c b e) refl

starts_empty : (l : List ℕ) → starts [] l ≡ true
unfolding starts
starts_empty l = refl

module _ (w t : List ℕ) (i j : ℕ) where
  pub starts_more : i < length w → j < length t → get_or w i 0 ≡ get_or t j 0 → starts (drop i w) (drop j t) ≡ starts (drop (suc i) w) (drop (suc j) t)
  starts_more h l e = rw (drop-cons w i 0 h, drop-cons t j 0 l) (starts_same (get_or w i 0) (get_or t j 0) (drop (suc i) w) (drop (suc j) t) e)

  pub starts_other : i < length w → j < length t → (get_or w i 0 ≡ get_or t j 0 → ⊥) → starts (drop i w) (drop j t) ≡ false
  starts_other h l e = rw (drop-cons w i 0 h, drop-cons t j 0 l) (starts_unlike (get_or w i 0) (get_or t j 0) (drop (suc i) w) (drop (suc j) t) e)

  pub starts_done : length w ≤ i → starts (drop i w) (drop j t) ≡ true
  starts_done h = rw (drop_of_length-le w h) (starts_empty (drop j t))

-- a word is no longer than the text that begins with it
pub starts_length : (w l : List ℕ) → starts w l ≡ true → length w ≤ length l
unfolding starts
starts_length [] l e = omega arith
starts_length (c ∷ w) [] e = absurd (clash (sym e))
starts_length (c ∷ w) (b ∷ l) e = omega (arith, starts_length w l (right_of (eqb c b) (starts w l) e))

-- and so no longer word stands there; past the end of a text only the empty one does
pub starts_longer : (w l : List ℕ) → length l < length w → starts w l ≡ false
starts_longer w l h = go (is (starts w l))
  where
    go : Is (starts w l) → starts w l ≡ false
    go (is_true e) = absurd (omega (arith, starts_length w l e))
    go (is_false e) = e

pub starts_none : (w t : List ℕ) (i : ℕ) → length t ≤ i → eqb (length w) 0 ≡ starts w (drop i t)
unfolding starts
starts_none [] t i h = refl
starts_none (c ∷ w) t i h = rw (drop_of_length-le t h, eqb_no (suc (length w)) 0 (λ e. omega arith)) refl

-- a word that reaches the end of the text ends it where it stands
pub closes_short : (w t : List ℕ) (i : ℕ) → length t ≤ i + length w → closes w t i ≡ starts w (drop i t)
closes_short w t i h = rw (leb_yes (length t) (i + length w) h) (and-true (starts w (drop i t)))

-- ---- a digit at a place

module _ (t : List ℕ) (i : ℕ) where
  pub leads_at : i < length t → leads (drop i t) ≡ is_digit (get_or t i 0)
  leads_at h = rw (drop-cons t i 0 h) refl

  pub leads_past : length t ≤ i → leads (drop i t) ≡ false
  leads_past h = rw (drop_of_length-le t h) refl

  -- what a digit at a place says
  pub record Lead : Type 0 where
    pub inside : i < length t
    pub low : 48 ≤ get_or t i 0
    pub high : get_or t i 0 ≤ 57

  pub lead : leads (drop i t) ≡ true → Lead
  lead e = go (is (leb (length t) i))
    where
      go : Is (leb (length t) i) → Lead
      go (is_true h) = absurd (clash (sym e ∙ leads_past (le_of (length t) i h)))
      go (is_false h) =
          let l : i < length t = gt_of (length t) i h in
          let d : is_digit (get_or t i 0) ≡ true = sym (leads_at l) ∙ e in
          record { inside = l; low = digit_low (get_or t i 0) d; high = digit_high (get_or t i 0) d }

-- ---- the digits from a place on

count_cons : (b : ℕ) (l : List ℕ) → is_digit b ≡ true → digit_count (b ∷ l) ≡ suc (digit_count l)
unfolding digit_count
count_cons b l e = rw e refl

count_stop : (l : List ℕ) → leads l ≡ false → digit_count l ≡ 0
unfolding digit_count
count_stop [] e = refl
count_stop (b ∷ l) e = rw e refl

front_cons : (v b : ℕ) (l : List ℕ) → is_digit b ≡ true → front_from v (b ∷ l) ≡ front_from (v * 10 + (b - 48)) l
unfolding value_from
front_cons v b l e = rw (count_cons b l e) refl

module _ (t : List ℕ) (i : ℕ) where
  pub count_more : leads (drop i t) ≡ true → digit_count (drop i t) ≡ suc (digit_count (drop (suc i) t))
  count_more e =
      let l : i < length t = (lead t i e).inside in
      rw (drop-cons t i 0 l) (count_cons (get_or t i 0) (drop (suc i) t) (sym (leads_at t i l) ∙ e))

  pub count_none : leads (drop i t) ≡ false → digit_count (drop i t) ≡ 0
  count_none e = count_stop (drop i t) e

  pub front_more : (v : ℕ) → leads (drop i t) ≡ true → front_from v (drop i t) ≡ front_from (v * 10 + (get_or t i 0 - 48)) (drop (suc i) t)
  front_more v e =
      let l : i < length t = (lead t i e).inside in
      rw (drop-cons t i 0 l) (front_cons v (get_or t i 0) (drop (suc i) t) (sym (leads_at t i l) ∙ e))

  pub front_none : (v : ℕ) → leads (drop i t) ≡ false → front_from v (drop i t) ≡ v
  unfolding value_from
  front_none v e = rw (count_stop (drop i t) e) refl

-- no more digits than bytes
pub count_length : (l : List ℕ) → digit_count l ≤ length l
unfolding digit_count
count_length [] = omega arith
count_length (b ∷ l) = go (count_length l) (is (is_digit b))
  where
    go : digit_count l ≤ length l → Is (is_digit b) → digit_count (b ∷ l) ≤ suc (length l)
    go ih (is_true e) = rw e (omega arith)
    go ih (is_false e) = rw e (omega arith)

-- ---- when digits are a number

plain_stop : (l : List ℕ) → digit_count l ≡ 0 → plain l ≡ false
unfolding plain digit_count
plain_stop [] e = refl
plain_stop (b ∷ l) e = go (is (is_digit b))
  where
    go : Is (is_digit b) → plain (b ∷ l) ≡ false
    go (is_true d) = absurd (let z : suc (digit_count l) ≡ 0 = rw d at e in omega arith)
    go (is_false d) = rw d refl

module _ (t : List ℕ) (i : ℕ) where
  pub plain_none : digit_count (drop i t) ≡ 0 → plain (drop i t) ≡ false
  plain_none e = plain_stop (drop i t) e

  -- digits up to a place are a number if the first is no zero, or is all of them
  pub plain_digits : (j : ℕ) → leads (drop i t) ≡ true → i + digit_count (drop i t) ≡ j → (not (eqb (get_or t i 0) 48) || eqb j (i + 1)) ≡ plain (drop i t)
  unfolding plain
  plain_digits j e h =
      let b = get_or t i 0 in
      let l : i < length t = (lead t i e).inside in
      let n = digit_count (drop (suc i) t) in
      let one : eqb j (i + 1) ≡ eqb n 0 =
      test_ext (eqb j (i + 1)) (eqb n 0) (λ q. eqb_yes n 0 (omega (arith, eq_of j (i + 1) q, count_more t i e)))
      (λ q. eqb_yes j (i + 1) (omega (arith, eq_of n 0 q, count_more t i e))) in
      rw (one, drop-cons t i 0 l, sym (leads_at t i l) ∙ e) refl

  -- a number has a digit, and lies in the text
  pub plain_some : plain (drop i t) ≡ true → 0 < digit_count (drop i t)
  plain_some e = go (is (eqb (digit_count (drop i t)) 0))
    where
      go : Is (eqb (digit_count (drop i t)) 0) → 0 < digit_count (drop i t)
      go (is_true z) = absurd (clash (sym e ∙ plain_none (eq_of (digit_count (drop i t)) 0 z)))
      go (is_false z) = let other = ne_of (digit_count (drop i t)) 0 z in omega arith

  pub plain_inside : plain (drop i t) ≡ true → i + digit_count (drop i t) ≤ length t
  plain_inside e = omega (arith, plain_some e, count_length (drop i t), length-drop i t)

-- ---- a value that stops at 65,535

-- stopping early changes nothing
pub seen_from : (v : ℕ) (ds : List ℕ) → seen (value_from (seen v) ds) ≡ seen (value_from v ds)
unfolding value_from
seen_from v [] = omega arith
seen_from v (d ∷ ds) =
    let e : seen (seen v * 10 + (d - 48)) ≡ seen (v * 10 + (d - 48)) = omega arith in
    sym (seen_from (seen v * 10 + (d - 48)) ds) ∙ ap (λ (x : ℕ). seen (value_from x ds)) e ∙ seen_from (v * 10 + (d - 48)) ds

-- one more digit, as it is read
pub seen_more : (t : List ℕ) (i v w : ℕ) → leads (drop i t) ≡ true → w ≡ seen (v * 10 + (get_or t i 0 - 48))
    → seen (front_from w (drop (suc i) t)) ≡ seen (front_from v (drop i t))
seen_more t i v w e h =
    let ds = take (digit_count (drop (suc i) t)) (drop (suc i) t) in
    ap (λ (x : ℕ). seen (value_from x ds)) h ∙ seen_from (v * 10 + (get_or t i 0 - 48)) ds ∙ ap seen (sym (front_more t i v e))

-- and no limit below it is missed
pub seen_leb : (v k : ℕ) → k < 65535 → leb (seen v) k ≡ leb v k
seen_leb v k h =
    test_ext (leb (seen v) k) (leb v k) (λ e. leb_yes v k (omega (arith, le_of (seen v) k e))) (λ e. leb_yes (seen v) k (omega (arith, le_of v k e)))

pub seen_leb_of : (k v : ℕ) → k < 65535 → leb k (seen v) ≡ leb k v
seen_leb_of k v h =
    test_ext (leb k (seen v)) (leb k v) (λ e. leb_yes k v (omega (arith, le_of k (seen v) e))) (λ e. leb_yes k (seen v) (omega (arith, le_of k v e)))

pub seen_within : (lo hi v : ℕ) → lo < 65535 → hi < 65535 → within lo hi (seen v) ≡ within lo hi v
seen_within lo hi v l h = rw (seen_leb_of lo v l, seen_leb v hi h) refl

-- ---- a number at a place

-- the number n stands at a place
pub record Stands (t : List ℕ) (at : ℕ) (n : Numeral) : Type 0 where
  pub plain : plain (drop at t) ≡ true
  pub value : n.value ≡ seen (front (drop at t))
  pub next : n.next ≡ at + digit_count (drop at t)

module _ (t : List ℕ) (at : ℕ) where
  pub stands : (n : Numeral) → Some n ≡ numeral_at t at → Stands t at n
  stands n e = go (is (plain (drop at t)))
    where
      go : Is (plain (drop at t)) → Stands t at n
      go (is_true p) =
          let s : Some n ≡ Some (record { value = seen (front (drop at t)); next = at + digit_count (drop at t) }) = rw p at e in
          let q : n ≡ record { value = seen (front (drop at t)); next = at + digit_count (drop at t) } = cc in
          record { plain = p; value = ap (λ (x : Numeral). x.value) q; next = ap (λ (x : Numeral). x.next) q }
      go (is_false p) = let s : Some n ≡ None = rw p at e in absurd cc

  pub stands_none : None ≡ numeral_at t at → plain (drop at t) ≡ false
  stands_none e = go (is (plain (drop at t)))
    where
      go : Is (plain (drop at t)) → plain (drop at t) ≡ false
      go (is_true p) =
          let s : ◌≡◌ {A = Option Numeral} None (Some (record { value = seen (front (drop at t)); next = at + digit_count (drop at t) })) = rw p at e in
          absurd cc
      go (is_false p) = p

  -- a number and the word after it lie in the text
  pub then_fits : (n : Numeral) → Some n ≡ numeral_at t at → (w : List ℕ) → starts w (drop n.next t) ≡ true → n.next + length w ≤ length t
  then_fits n e w s =
      let h = stands n e in
      omega (arith, h.next, plain_inside t at h.plain, starts_length w (drop n.next t) s, length-drop n.next t)
