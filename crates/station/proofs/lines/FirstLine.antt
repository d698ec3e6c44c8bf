-- Laws of the first line of a text.
--
-- In order: it is a front of the text (`line_front`, `line_length`) and not empty where the text is not (`line_some`), and the rest follows (`line_rest`);
-- a line before a text (`line_before`, `line_bytes`); the lines of a text one
-- after the other (`lines_first`, `lines_empty`, `lines_split`), and from a place on (`lines_at`, `lines_past`); how long the line at a place is (`line_here`, `line_further`,
-- `line_past`), and that it is a part of the text (`line_none`, `line_within`, `line_part`, `line_short`).
-- Assumes nothing.
use Prim.Native.Nat.{ℕ, suc, ◌+◌, ◌≤◌, ◌<◌}
use native.Mathlib.Omega.{arith}
use mathlib.Core.Path.{◌≡◌, refl, sym, ◌∙◌, ap}
use mathlib.Core.Bool.{true, not}
use mathlib.Core.List.{List, [], ◌∷◌, ◌++◌}
use lib.ListN.{length, take, drop, get_or, drop_of_length-le, length-drop, length-take, take-append-drop}
use lib.Seq.{drop-cons, drop-drop}
use lib.Dec.{eqb}
use Rattle.laws.proofs.Tests.{Is, is, is_true, is_false, clash, left_of, right_of, false_of_not}
use Rattle.laws.proofs.Comparisons.{eqb_yes, eqb_no}
use Rattle.station.specs.Text.{is_line, lines, onto}
use Rattle.station.specs.Line.{line_of}

-- the first line is a front of the text
pub line_front : (t : List ℕ) → take (length (line_of t)) t ≡ line_of t
unfolding line_of
line_front [] = refl
line_front (b ∷ t) = go (line_front t) (is (eqb b 10))
  where
    go : take (length (line_of t)) t ≡ line_of t → Is (eqb b 10) → take (length (line_of (b ∷ t))) (b ∷ t) ≡ line_of (b ∷ t)
    go ih (is_true e) = rw e refl
    go ih (is_false e) = rw e (ap (λ (l : List ℕ). b ∷ l) ih)

pub line_length : (t : List ℕ) → length (line_of t) ≤ length t
unfolding line_of
line_length [] = omega arith
line_length (b ∷ t) = go (line_length t) (is (eqb b 10))
  where
    go : length (line_of t) ≤ length t → Is (eqb b 10) → length (line_of (b ∷ t)) ≤ suc (length t)
    go ih (is_true e) = rw e (omega arith)
    go ih (is_false e) = rw e (omega arith)

pub line_some : (t : List ℕ) → 0 < length t → 0 < length (line_of t)
unfolding line_of
line_some [] h = h
line_some (b ∷ t) h = go (is (eqb b 10))
  where
    go : Is (eqb b 10) → 0 < length (line_of (b ∷ t))
    go (is_true e) = rw e (omega arith)
    go (is_false e) = rw e (omega arith)

-- the first line and then the rest is the text
pub line_rest : (t : List ℕ) → t ≡ line_of t ++ drop (length (line_of t)) t
line_rest t = sym (take-append-drop (length (line_of t)) t) ∙ ap (λ (l : List ℕ). l ++ drop (length (line_of t)) t) (line_front t)

-- a line before a text is its first line, and not empty
pub line_before : (l t : List ℕ) → is_line l ≡ true → line_of (l ++ t) ≡ l
unfolding is_line line_of
line_before [] t h = absurd (clash (sym h))
line_before (b ∷ []) t h = rw h refl
line_before (b ∷ (c ∷ l)) t h =
    rw (false_of_not (eqb b 10) (left_of (not (eqb b 10)) (is_line (c ∷ l)) h))
    (ap (λ (x : List ℕ). b ∷ x) (line_before (c ∷ l) t (right_of (not (eqb b 10)) (is_line (c ∷ l)) h)))

pub line_bytes : (l : List ℕ) → is_line l ≡ true → 0 < length l
unfolding is_line
line_bytes [] h = absurd (clash (sym h))
line_bytes (b ∷ l) h = omega arith

-- ---- the lines of a text one after the other

lines_cons : (b : ℕ) (t : List ℕ) → lines (b ∷ t) ≡ line_of (b ∷ t) ∷ lines (drop (length (line_of (b ∷ t))) (b ∷ t))
unfolding line_of lines
lines_cons b [] = go (is (eqb b 10))
  where
    go : Is (eqb b 10) → lines (b ∷ []) ≡ line_of (b ∷ []) ∷ lines (drop (length (line_of (b ∷ []))) (b ∷ []))
    go (is_true e) = rw e refl
    go (is_false e) = rw e refl
lines_cons b (c ∷ t) = go (lines_cons c t) (is (eqb b 10))
  where
    go : lines (c ∷ t) ≡ line_of (c ∷ t) ∷ lines (drop (length (line_of (c ∷ t))) (c ∷ t)) → Is (eqb b 10)
        → lines (b ∷ (c ∷ t)) ≡ line_of (b ∷ (c ∷ t)) ∷ lines (drop (length (line_of (b ∷ (c ∷ t)))) (b ∷ (c ∷ t)))
    go ih (is_true e) = rw e refl
    go ih (is_false e) = rw e (ap (onto b) ih)

-- the first line of a text that is not empty, and then those of the rest
pub lines_first : (t : List ℕ) → 0 < length t → lines t ≡ line_of t ∷ lines (drop (length (line_of t)) t)
lines_first [] h = absurd (omega arith)
lines_first (b ∷ t) h = lines_cons b t

-- an empty text has none
pub lines_empty : (t : List ℕ) → length t ≡ 0 → lines t ≡ []
unfolding lines
lines_empty [] e = refl
lines_empty (b ∷ t) e = absurd (omega arith)

-- the same for a text that was cut after its first line
pub lines_split : (t l r : List ℕ) → 0 < length t → l ≡ line_of t → r ≡ drop (length l) t → lines t ≡ l ∷ lines r
lines_split t l r h front back = rw (back, front) (lines_first t h)

-- the lines from a place on: the line there, and then those after it
pub lines_at : (t : List ℕ) (i : ℕ) → i < length t → lines (drop i t) ≡ line_of (drop i t) ∷ lines (drop (i + length (line_of (drop i t))) t)
lines_at t i h =
    lines_first (drop i t) (omega (arith, length-drop i t))
    ∙ ap (λ (l : List ℕ). line_of (drop i t) ∷ lines l) (drop-drop (length (line_of (drop i t))) i t)

-- and none from the end on
pub lines_past : (t : List ℕ) (i : ℕ) → length t ≤ i → lines (drop i t) ≡ []
unfolding lines
lines_past t i h = rw (drop_of_length-le t h) refl

-- ---- how long the line at a place is

line_nil : length (line_of []) ≡ 0
unfolding line_of
line_nil = refl

line_ten : (b : ℕ) (t : List ℕ) → b ≡ 10 → length (line_of (b ∷ t)) ≡ 1
unfolding line_of
line_ten b t e = rw (eqb_yes b 10 e) refl

line_other : (b : ℕ) (t : List ℕ) → (b ≡ 10 → ⊥) → length (line_of (b ∷ t)) ≡ suc (length (line_of t))
unfolding line_of
line_other b t e = rw (eqb_no b 10 e) refl

pub line_here : (t : List ℕ) (i : ℕ) → i < length t → get_or t i 0 ≡ 10 → length (line_of (drop i t)) ≡ 1
line_here t i h e = rw (drop-cons t i 0 h) (line_ten (get_or t i 0) (drop (suc i) t) e)

pub line_further : (t : List ℕ) (i j : ℕ) → i + 1 ≡ j → i < length t → (get_or t i 0 ≡ 10 → ⊥) → length (line_of (drop i t)) ≡ suc (length (line_of (drop j t)))
line_further t i j s h e =
    let n : j ≡ suc i = omega arith in
    rw (n, drop-cons t i 0 h) (line_other (get_or t i 0) (drop (suc i) t) e)

pub line_past : (t : List ℕ) (i : ℕ) → length t ≤ i → length (line_of (drop i t)) ≡ 0
line_past t i h = rw (drop_of_length-le t h) line_nil

-- ---- the line at a place as a part of the text

pub line_none : (t : List ℕ) (i : ℕ) → length t ≤ i → [] ≡ line_of (drop i t)
unfolding line_of
line_none t i h = rw (drop_of_length-le t h) refl

pub line_within : (t : List ℕ) (i : ℕ) → i ≤ length t → i + length (line_of (drop i t)) ≤ length t
line_within t i h = omega (arith, line_length (drop i t), length-drop i t)

-- the first line as the code takes it from a text, by its length
pub line_part : (t : List ℕ) (n : ℕ) → n ≡ length (line_of t) → take n t ≡ line_of t
line_part t n h = rw h (line_front t)

pub line_short : (t : List ℕ) (n : ℕ) → n ≡ length (line_of t) → n ≡ length (take n t)
line_short t n h = omega (arith, length-take n t, line_length t)
