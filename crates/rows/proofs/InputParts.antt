-- Where an input is parted: the loop that looks for its first empty line.
--
-- In order: bytes before an input (`prefixed_both`); an empty line (`not_empty`, `compared`, `byte_10`); between two lines (`AtLine`, `at_start`), at a line (`line_inside`, `at_next`), and
-- the two ways out (`out_empty`, `out_end`).
-- Assumes nothing.
use Prim.Native.Nat.{ℕ, suc, ◌+◌, ◌≤◌, ◌<◌}
use native.Mathlib.Omega.{arith}
use mathlib.Core.Path.{◌≡◌, refl, sym, ◌∙◌, ap}
use mathlib.Core.Bool.{Bool, true, false, ◌&&◌}
use mathlib.Core.List.{List, [], ◌∷◌, ◌++◌, append_assoc, append-nil}
use lib.ListN.{length, take, drop, take-append-drop, length-append, length-drop}
use lib.Seq.{drop-drop, take-add, take_at, drop_at}
use lib.Dec.{eqb}
use lib.Pointwise.{pointwise}
use Rattle.std.specs.Prelude.{Some, None}
use Rattle.laws.proofs.Tests.{clash}
use Rattle.laws.proofs.Comparisons.{eq_of}
use Rattle.station.specs.Text.{◌then◌, join, lines}
use Rattle.station.proofs.Theorems.{lines_join}
use Rattle.rows.specs.Printed.{Input, head_alone, head_and_rows, is_empty, prefixed, parts_of}
use Rattle.rows.specs.method.Parts.{parted_at}

-- ---- bytes before an input

prefixed_none : (x : Input) → prefixed [] x ≡ x
prefixed_none (head_alone h) = refl
prefixed_none (head_and_rows h rs) = refl

pub prefixed_both : (a b : List ℕ) (x : Input) → prefixed a (prefixed b x) ≡ prefixed (a then b) x
prefixed_both a b (head_alone h) = ap head_alone (sym (append_assoc a b h))
prefixed_both a b (head_and_rows h rs) = ap (λ (l : List ℕ). head_and_rows l rs) (sym (append_assoc a b h))

-- ---- an empty line

pub not_empty : (b : ℕ) (l : List ℕ) → eqb b 10 ≡ false → is_empty (b ∷ l) ≡ false
not_empty b [] e = e
not_empty b (c ∷ l) e = refl

-- the code looks for the line that is byte 10 alone
pub compared : (l : List ℕ) → pointwise eqb l (10 ∷ []) ≡ is_empty l
compared [] = refl
compared (b ∷ []) = go (eqb b 10)
  where
    go : (x : Bool) → (x && true) ≡ x
    go true = refl
    go false = refl
compared (b ∷ (c ∷ l)) = go (eqb b 10)
  where
    go : (x : Bool) → (x && false) ≡ false
    go true = refl
    go false = refl

byte_10 : (l : List ℕ) → is_empty l ≡ true → l ≡ 10 ∷ []
byte_10 [] e = absurd (clash (sym e))
byte_10 (b ∷ []) e = ap (λ (x : ℕ). x ∷ []) (eq_of b 10 e)
byte_10 (b ∷ (c ∷ l)) e = absurd (clash (sym e))

-- ---- between two lines

-- the lines to the place at are the head's, and those that are left come after it
pub record AtLine (t : List ℕ) (left : List (List ℕ)) (at : ℕ) : Type 0 where
  pub inside : at ≤ length t
  pub rest : drop at t ≡ join left
  pub parts : parts_of (lines t) ≡ prefixed (take at t) (parts_of left)

pub at_start : (t : List ℕ) → AtLine t (lines t) 0
at_start t = record { inside = omega arith; rest = sym (lines_join t); parts = sym (prefixed_none (parts_of (lines t))) }

-- no line is left
pub out_end : {t : List ℕ} {at : ℕ} → AtLine t [] at → parts_of (lines t) ≡ parted_at t None
unfolding parts_of
out_end {t} {at} a =
    let all : take at t ≡ t = sym (append-nil (take at t)) ∙ ap (λ (l : List ℕ). take at t ++ l) (sym a.rest) ∙ take-append-drop at t in
    a.parts ∙ ap head_alone (append-nil (take at t) ∙ all)

module _ {t : List ℕ} {at : ℕ} {l : List ℕ} {ls : List (List ℕ)} (a : AtLine t (l ∷ ls) at) where
  pub line_inside : at + length l ≤ length t
  line_inside = omega (arith, a.inside, length-drop at t, ap length a.rest, length-append l (join ls))

  after : drop (at + length l) t ≡ join ls
  after = sym (drop-drop (length l) at t) ∙ ap (drop (length l)) a.rest ∙ drop_at l (join ls) (length l) refl

  front : take (at + length l) t ≡ take at t then l
  front = take-add at (length l) t ∙ ap (λ (x : List ℕ). take at t then x) (ap (take (length l)) a.rest ∙ take_at l (join ls) (length l) refl)

  pub at_next : is_empty l ≡ false → AtLine t ls (at + length l)
  unfolding parts_of
  at_next n = record {
    inside = line_inside;
    rest = after;
    parts =
        a.parts
        ∙ ap (prefixed (take at t)) (rw n refl)
        ∙ prefixed_both (take at t) l (parts_of ls)
        ∙ ap (λ (x : List ℕ). prefixed x (parts_of ls)) (sym front);
  }

  pub out_empty : is_empty l ≡ true → (at < length t) × (parts_of (lines t) ≡ parted_at t (Some at))
  unfolding parts_of
  out_empty q =
      let e = byte_10 l q in
      let one : length l ≡ 1 = ap length e in
      let next : at + length l ≡ suc at = omega (arith, one) in (
        omega (arith, line_inside, one),
        a.parts
            ∙ ap (λ (x : List ℕ). prefixed (take at t) (parts_of (x ∷ ls))) e
            ∙ ap (λ (x : List ℕ). head_and_rows x (join ls)) (append-nil (take at t))
            ∙ ap (head_and_rows (take at t)) (sym (ap (λ (k : ℕ). drop k t) (sym next) ∙ after)),
      )
