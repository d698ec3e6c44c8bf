-- Laws of lines.
--
-- In order: the lines of a text put together are the text (`lines_join`); what makes a line (`is_line_cons`, `rest_line`); each line ends in
-- byte 10 and has it nowhere else, but perhaps the last (`lines_shape`); a line before a text (`lines_line`); lines put together have these
-- lines (`lines_of_join`).
-- Assumes nothing.
use Prim.Native.Nat.{ℕ}
use mathlib.Core.Path.{◌≡◌, refl, sym, ◌∙◌, ap}
use mathlib.Core.Bool.{true, false, not}
use mathlib.Core.List.{List, [], ◌∷◌, ◌++◌}
use lib.Dec.{eqb}
use Rattle.laws.proofs.Tests.{Is, is_true, is_false, is, clash, left_of, right_of, false_of_not}
use Rattle.station.specs.Text.{lines, join, onto, is_line, is_rest, Lines, no_lines, last_rest, line_then}

pub join_onto : (b : ℕ) (ls : List (List ℕ)) → join (onto b ls) ≡ b ∷ join ls
join_onto b [] = refl
join_onto b (l ∷ ls) = refl

-- the lines of a text put together are the text
pub lines_join : (t : List ℕ) → join (lines t) ≡ t
unfolding lines
lines_join [] = refl
lines_join (b ∷ t) = go (lines_join t) (is (eqb b 10))
  where
    go : join (lines t) ≡ t → Is (eqb b 10) → join (lines (b ∷ t)) ≡ b ∷ t
    go ih (is_true e) = rw (e, ih) refl
    go ih (is_false e) = rw e (join_onto b (lines t) ∙ ap (λ (l : List ℕ). b ∷ l) ih)

-- a byte other than 10 before a line: a line
pub is_line_cons : (b : ℕ) (l : List ℕ) → eqb b 10 ≡ false → is_line l ≡ true → is_line (b ∷ l) ≡ true
unfolding is_line
is_line_cons b [] e h = absurd (clash (sym h))
is_line_cons b (c ∷ l) e h = rw e h

-- bytes other than 10 before a line: a line
pub rest_line : (w r : List ℕ) → is_rest w ≡ true → is_line r ≡ true → is_line (w ++ r) ≡ true
unfolding is_rest
rest_line [] r e h = absurd (clash (sym e))
rest_line (b ∷ []) r e h = is_line_cons b r (false_of_not (eqb b 10) e) h
rest_line (b ∷ (c ∷ w)) r e h =
    is_line_cons b (c ∷ (w ++ r)) (false_of_not (eqb b 10) (left_of (not (eqb b 10)) (is_rest (c ∷ w)) e))
    (rest_line (c ∷ w) r (right_of (not (eqb b 10)) (is_rest (c ∷ w)) e) h)

is_rest_cons : (b : ℕ) (l : List ℕ) → eqb b 10 ≡ false → is_rest l ≡ true → is_rest (b ∷ l) ≡ true
unfolding is_rest
is_rest_cons b [] e h = absurd (clash (sym h))
is_rest_cons b (c ∷ l) e h = rw e h

onto_shape : (b : ℕ) {ls : List (List ℕ)} → eqb b 10 ≡ false → Lines ls → Lines (onto b ls)
unfolding is_rest
onto_shape b e no_lines = last_rest {l = b ∷ []} (rw e refl)
onto_shape b e (last_rest {l} h) = last_rest (is_rest_cons b l e h)
onto_shape b e (line_then {l} h s) = line_then (is_line_cons b l e h) s

-- each line ends in byte 10 and has it nowhere else, but perhaps the last
pub lines_shape : (t : List ℕ) → Lines (lines t)
unfolding lines is_line
lines_shape [] = no_lines
lines_shape (b ∷ t) = go (lines_shape t) (is (eqb b 10))
  where
    go : Lines (lines t) → Is (eqb b 10) → Lines (lines (b ∷ t))
    go ih (is_true e) = rw e (line_then e ih)
    go ih (is_false e) = rw e (onto_shape b e ih)

-- a line before a text is its first line
pub lines_line : (l t : List ℕ) → is_line l ≡ true → lines (l ++ t) ≡ l ∷ lines t
unfolding is_line lines
lines_line [] t h = absurd (clash (sym h))
lines_line (b ∷ []) t h = rw h refl
lines_line (b ∷ (c ∷ l)) t h =
    rw (false_of_not (eqb b 10) (left_of (not (eqb b 10)) (is_line (c ∷ l)) h))
    (ap (onto b) (lines_line (c ∷ l) t (right_of (not (eqb b 10)) (is_line (c ∷ l)) h)))

lines_rest : (l : List ℕ) → is_rest l ≡ true → lines l ≡ l ∷ []
unfolding is_rest lines
lines_rest [] h = absurd (clash (sym h))
lines_rest (b ∷ []) h = rw (false_of_not (eqb b 10) h) refl
lines_rest (b ∷ (c ∷ l)) h =
    rw (false_of_not (eqb b 10) (left_of (not (eqb b 10)) (is_rest (c ∷ l)) h))
    (ap (onto b) (lines_rest (c ∷ l) (right_of (not (eqb b 10)) (is_rest (c ∷ l)) h)))

-- lines put together have these lines
pub lines_of_join : {ls : List (List ℕ)} → Lines ls → lines (join ls) ≡ ls
unfolding lines
lines_of_join no_lines = refl
lines_of_join (last_rest {l} h) = ap lines (mathlib.Core.List.append-nil l) ∙ lines_rest l h
lines_of_join (line_then {l} {ls} h s) = lines_line l (join ls) h ∙ ap (λ (x : List (List ℕ)). l ∷ x) (lines_of_join s)
