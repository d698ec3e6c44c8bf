-- The program reads an input up to its first 65,538 bytes, and what is printed of them is what is printed of the whole (`input_cut`): a longer input is too long in one of its parts
-- either way, "text above 32,768 bytes".
--
-- In order: an input's parts byte by byte (`parted`, `by_bytes`); the parts of its first n bytes (`cut_at`, `parted_cut`); a part that is too long (`head_long`, `rows_cut`); `input_cut`.
-- Assumes nothing.
use Prim.Native.Nat.{ℕ, zero, suc, ◌-◌, ◌<◌}
use native.Mathlib.Omega.{arith}
use mathlib.Core.Path.{◌≡◌, refl, sym, ◌∙◌, ap}
use mathlib.Core.Bool.{Bool, true, false, cond, ◌&&◌}
use mathlib.Core.List.{List, [], ◌∷◌}
use lib.ListN.{length, take}
use lib.Seq.{take_all, length-take-le}
use lib.Dec.{eqb, ltb}
use Rattle.laws.proofs.Tests.{Is, is, is_true, is_false}
use Rattle.laws.proofs.Comparisons.{lt_of, ge_of, ltb_yes, ltb_no, ltb_iff}
use Rattle.station.specs.Head.{Head}
use Rattle.station.specs.Refusal.{text_too_long}
use Rattle.station.specs.Text.{onto, lines}
use Rattle.station.specs.Writing.{text_of}
use Rattle.station.specs.Reading.{Reading, accepted, refused, head_of}
use Rattle.station.proofs.Theorems.{lines_join}
use Rattle.rows.specs.Printed.{Input, head_alone, head_and_rows, prefixed, parts_of, of_reading, rows_beside, printed_of, rows_printed}
use Rattle.rows.proofs.InputParts.{prefixed_both, not_empty}

-- ---- byte by byte

-- the Bool says that a line begins here
unfoldable parted : Bool → List ℕ → Input
parted s [] = head_alone []
parted s (b ∷ t) =
    let rest = prefixed (b ∷ []) (parted (eqb b 10) t) in
    cond (s && eqb b 10) (head_and_rows [] t) rest

-- a byte more before a line that is not empty
onto_parts : (b c : ℕ) (ls : List (List ℕ)) → eqb c 10 ≡ false → parts_of (onto b (onto c ls)) ≡ prefixed (b ∷ []) (parts_of (onto c ls))
unfolding parts_of
onto_parts b c [] e = rw e refl
onto_parts b c (l ∷ ls) e = rw (not_empty c l e) (sym (prefixed_both (b ∷ []) (c ∷ l) (parts_of ls)))

-- of a text that begins with a line, and of one that goes on with a line whose first byte is b
record ByBytes (t : List ℕ) : Type 0 where
  begins : parts_of (lines t) ≡ parted true t
  goes_on : (b : ℕ) → eqb b 10 ≡ false → parts_of (onto b (lines t)) ≡ prefixed (b ∷ []) (parted false t)

both_by_bytes : (t : List ℕ) → ByBytes t
unfolding lines parts_of parted
both_by_bytes [] = record { begins = refl; goes_on = λ b e. rw e refl }
both_by_bytes (c ∷ t) = go (both_by_bytes t) (is (eqb c 10))
  where
    go : ByBytes t → Is (eqb c 10) → ByBytes (c ∷ t)
    go k (is_true q) = record {
      begins = rw q (rw q (ap (head_and_rows []) (lines_join t)));
      goes_on = λ b e. rw q (rw k.begins (sym (prefixed_both (b ∷ []) (c ∷ []) (parted true t))));
    }
    go k (is_false q) = record {
      begins = rw q (k.goes_on c q);
      goes_on = λ b e. rw q (onto_parts b c (lines t) q ∙ ap (prefixed (b ∷ [])) (k.goes_on c q));
    }

by_bytes : (t : List ℕ) → parts_of (lines t) ≡ parted true t
by_bytes t = (both_by_bytes t).begins

-- ---- the first n bytes

-- the parts of the first n bytes of an input with these parts
abbrev cut_at : ℕ → Input → Input
cut_at n (head_alone h) = head_alone (take n h)
cut_at n (head_and_rows h rs) = cond (ltb (length h) n) (head_and_rows h (take (n - suc (length h)) rs)) (head_alone (take n h))

cut_none : (x : Input) → cut_at 0 x ≡ head_alone []
cut_none (head_alone h) = refl
cut_none (head_and_rows h rs) = rw (ltb_no (length h) 0 (omega arith)) refl

cut_byte : (n b : ℕ) (x : Input) → prefixed (b ∷ []) (cut_at n x) ≡ cut_at (suc n) (prefixed (b ∷ []) x)
cut_byte n b (head_alone h) = refl
cut_byte n b (head_and_rows h rs) =
    let same : ltb (suc (length h)) (suc n) ≡ ltb (length h) n = ltb_iff (suc (length h)) (suc n) (length h) n (λ l. omega (arith, l)) (λ l. omega (arith, l)) in
    let rest : suc n - suc (suc (length h)) ≡ n - suc (length h) = omega arith in
    rw (same, rest) (go (ltb (length h) n))
  where
    go : (c : Bool) → prefixed (b ∷ []) (cond c (head_and_rows h (take (n - suc (length h)) rs)) (head_alone (take n h)))
        ≡ cond c (head_and_rows (b ∷ h) (take (n - suc (length h)) rs)) (head_alone (b ∷ take n h))
    go true = refl
    go false = refl

parted_cut : (s : Bool) (n : ℕ) (t : List ℕ) → parted s (take n t) ≡ cut_at n (parted s t)
unfolding parted
parted_cut s zero t = sym (cut_none (parted s t))
parted_cut s (suc n) [] = refl
parted_cut s (suc n) (b ∷ t) = go (s && eqb b 10) (parted_cut (eqb b 10) n t)
  where
    go : (c : Bool) → parted (eqb b 10) (take n t) ≡ cut_at n (parted (eqb b 10) t)
        → cond c (head_and_rows [] (take n t)) (prefixed (b ∷ []) (parted (eqb b 10) (take n t)))
        ≡ cut_at (suc n) (cond c (head_and_rows [] t) (prefixed (b ∷ []) (parted (eqb b 10) t)))
    go true ih =
        let less : suc n - 1 ≡ n = omega arith in
        rw (ltb_yes 0 (suc n) (omega arith), less) refl
    go false ih = rw ih (cut_byte n b (parted (eqb b 10) t))

-- ---- a part that is too long

head_long : (t : List ℕ) → 32768 < length t → head_of t ≡ refused 0 text_too_long
unfolding head_of
head_long t l = rw (ltb_yes 32768 (length t) l) refl

-- rows cut to 32,769 bytes or more are too long, or whole
rows_cut : (h : Head) (n : ℕ) (rs : List ℕ) → 32768 < n → rows_beside h (take n rs) ≡ rows_beside h rs
unfolding rows_beside
rows_cut h n rs l = go (is (ltb n (length rs)))
  where
    go : Is (ltb n (length rs)) → rows_beside h (take n rs) ≡ rows_beside h rs
    go (is_true e) =
        let k = lt_of n (length rs) e in
        rw (ltb_yes 32768 (length (take n rs)) (omega (arith, length-take-le n rs (omega (arith, k)))), ltb_yes 32768 (length rs) (omega (arith, k))) refl
    go (is_false e) = rw (take_all n rs (ge_of n (length rs) e)) refl

-- ---- what is printed

alone_cut : (h : List ℕ) → printed_of (head_alone (take 65538 h)) ≡ printed_of (head_alone h)
unfolding printed_of
alone_cut h = go (is (ltb 65538 (length h)))
  where
    go : Is (ltb 65538 (length h)) → printed_of (head_alone (take 65538 h)) ≡ printed_of (head_alone h)
    go (is_true e) =
        let l = lt_of 65538 (length h) e in
        rw (head_long (take 65538 h) (omega (arith, length-take-le 65538 h (omega (arith, l)))), head_long h (omega (arith, l))) refl
    go (is_false e) = rw (take_all 65538 h (ge_of 65538 (length h) e)) refl

printed_cut : (x : Input) → printed_of (cut_at 65538 x) ≡ printed_of x
unfolding printed_of
printed_cut (head_alone h) = alone_cut h
printed_cut (head_and_rows h rs) = go (is (ltb 32768 (length h))) (is (ltb (length h) 65538))
  where
    same : (r : Reading) → 32768 < 65538 - suc (length h)
        → of_reading r (λ g. of_reading (rows_beside g (take (65538 - suc (length h)) rs)) text_of) ≡ of_reading r (λ g. of_reading (rows_beside g rs) text_of)
    same (accepted g n) l = ap (λ (y : Reading). of_reading y text_of) (rows_cut g (65538 - suc (length h)) rs l)
    same (refused n c) l = refl

    go : Is (ltb 32768 (length h)) → Is (ltb (length h) 65538) → printed_of (cut_at 65538 (head_and_rows h rs)) ≡ printed_of (head_and_rows h rs)
    go (is_true e) (is_true q) = rw (q, head_long h (lt_of 32768 (length h) e)) refl
    go (is_true e) (is_false q) =
        let l = ge_of (length h) 65538 q in
        rw (q, head_long (take 65538 h) (omega (arith, length-take-le 65538 h l)), head_long h (lt_of 32768 (length h) e)) refl
    go (is_false e) (is_true q) = rw q (same (head_of h) (omega (arith, ge_of 32768 (length h) e)))
    go (is_false e) (is_false q) = absurd (omega (arith, ge_of 32768 (length h) e, ge_of (length h) 65538 q))

-- no input is cut to one of which something else is printed
pub input_cut : (t : List ℕ) → rows_printed (take 65538 t) ≡ rows_printed t
unfolding rows_printed
input_cut t =
    ap printed_of (by_bytes (take 65538 t) ∙ parted_cut true 65538 t)
    ∙ printed_cut (parted true t)
    ∙ ap printed_of (sym (by_bytes t))
