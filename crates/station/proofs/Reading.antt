-- A text is accepted or refused for its listed cause, in the listed order, and for nothing else: `head_of` is what the papers say (`Means`).
--
-- In order: a line without a cause (`NoCause`, `no_cause`, `of_no_cause`); the first cause that holds, spelled out (`FirstCause`, `first_cause`, `of_first_cause`); the
-- frame line comes first; each text has its meaning (`head_of_means`, `read_means`), and only that one (`means_head_of`).
-- Assumes nothing.
use Prim.Native.Nat.{ℕ, suc, ◌+◌, ◌≤◌}
use native.Mathlib.Omega.{arith}
use mathlib.Core.Path.{◌≡◌, refl, sym, ◌∙◌, ap, subst}
use mathlib.Core.Bool.{Bool, true, false, cond}
use mathlib.Core.Option.{Option, none, some}
use mathlib.Core.List.{List, [], ◌∷◌, ◌++◌, map}
use lib.ListN.{length}
use lib.Dec.{ltb}
use Rattle.laws.proofs.Tests.{Is, is_true, is_false, is, clash, none_some}
use Rattle.laws.proofs.Comparisons.{lt_of, ge_of, ltb_yes, ltb_no}
use Rattle.station.specs.Refusal.{Refusal, out_of_limits, out_of_place, number_used, too_many, try, first_of}
use Rattle.station.specs.Text.{lines, join}
use Rattle.station.specs.Form.{Form, frame_line, busy_line, preset_line, clock_line, call_line, tie_line, supply_line, print, form}
use Rattle.station.specs.Reading.{Reading, accepted, refused, begun, SoFar, begin, tried, causes, ends, more, read_from}
use Rattle.station.specs.Reading.{head_of, Passes, no_more, one_more, Stops, at_end, at_event, at_no_form, at_fault, Means, too_long, no_text}
use Rattle.station.specs.Reading.{by_lines}
use Rattle.station.proofs.Refusal.{first_none}
use Rattle.station.proofs.Text.{lines_join}
use Rattle.station.proofs.Form.{form_self, form_had}

-- ---- a line without a cause

pub record NoCause (r : SoFar) (f : Form) : Type 0 where
  pub in_place : (tried r f).misplaced ≡ false
  pub in_limits : (tried r f).outside ≡ false
  pub unused : (tried r f).used ≡ false
  pub fits : (tried r f).full ≡ false

pub no_cause : (r : SoFar) (f : Form) → first_of (causes r f) ≡ none → NoCause r f
no_cause r f e =
    let three = first_none out_of_place (tried r f).misplaced _ e in
    let two = first_none out_of_limits (tried r f).outside _ three.1 in
    let four = first_none number_used (tried r f).used _ two.1 in
    let nine = first_none too_many (tried r f).full [] four.1 in
    record { in_place = three.0; in_limits = two.0; unused = four.0; fits = nine.0 }

pub of_no_cause : (r : SoFar) (f : Form) → NoCause r f → first_of (causes r f) ≡ none
unfolding first_of
of_no_cause r f c = rw (c.in_place, c.in_limits, c.unused, c.fits) refl

-- ---- the first cause that holds, spelled out: "Tried in the order .. 3, 2, 4, 9"

pub data FirstCause (r : SoFar) (f : Form) : Refusal → Type 0 where
  by_place : (tried r f).misplaced ≡ true → FirstCause r f out_of_place
  by_limits : (tried r f).misplaced ≡ false → (tried r f).outside ≡ true → FirstCause r f out_of_limits
  by_number : (tried r f).misplaced ≡ false → (tried r f).outside ≡ false → (tried r f).used ≡ true → FirstCause r f number_used
  by_many : (tried r f).misplaced ≡ false → (tried r f).outside ≡ false → (tried r f).used ≡ false → (tried r f).full ≡ true → FirstCause r f too_many

-- a line is refused only for a cause that holds, where none before it in the list does
pub first_cause : (r : SoFar) (f : Form) (c : Refusal) → first_of (causes r f) ≡ some c → FirstCause r f c
unfolding first_of
first_cause r f c e = go (tried r f).misplaced (tried r f).outside (tried r f).used (tried r f).full refl refl refl refl e
  where
    go : (a b u d : Bool) → (tried r f).misplaced ≡ a → (tried r f).outside ≡ b → (tried r f).used ≡ u → (tried r f).full ≡ d
        → first_of (try out_of_place a ∷ try out_of_limits b ∷ try number_used u ∷ try too_many d ∷ []) ≡ some c → FirstCause r f c
    go true b u d p q v w h = let s : out_of_place ≡ c = cc in subst (FirstCause r f) s (by_place p)
    go false true u d p q v w h = let s : out_of_limits ≡ c = cc in subst (FirstCause r f) s (by_limits p q)
    go false false true d p q v w h = let s : number_used ≡ c = cc in subst (FirstCause r f) s (by_number p q v)
    go false false false true p q v w h = let s : too_many ≡ c = cc in subst (FirstCause r f) s (by_many p q v w)
    go false false false false p q v w h = absurd (none_some h)

-- and it is refused for that cause
pub of_first_cause : {r : SoFar} {f : Form} {c : Refusal} → FirstCause r f c → first_of (causes r f) ≡ some c
unfolding first_of
of_first_cause (by_place p) = rw p refl
of_first_cause (by_limits p q) = rw (p, q) refl
of_first_cause (by_number p q v) = rw (p, q, v) refl
of_first_cause (by_many p q v w) = rw (p, q, v, w) refl

-- ---- the frame line comes first

more_begun : (r : SoFar) (f : Form) → begun r.stage ≡ true → begun (more r f).stage ≡ true
unfolding tried
more_begun r (frame_line s b) e = refl
more_begun r (busy_line b p) e = refl
more_begun r (preset_line p) e = refl
more_begun r (clock_line t) e = e
more_begun r (call_line p) e = e
more_begun r (tie_line hold) e = refl
more_begun r (supply_line k) e = refl

-- line 1 passes only if it is a frame
frame_begins : (f : Form) → first_of (causes begin f) ≡ none → begun (more begin f).stage ≡ true
unfolding tried
frame_begins (frame_line s b) e = refl
frame_begins (busy_line b p) e = absurd (clash (no_cause begin (busy_line b p) e).in_place)
frame_begins (preset_line p) e = absurd (clash (no_cause begin (preset_line p) e).in_place)
frame_begins (clock_line t) e = absurd (clash (no_cause begin (clock_line t) e).in_place)
frame_begins (call_line p) e = absurd (clash (no_cause begin (call_line p) e).in_place)
frame_begins (tie_line hold) e = absurd (clash (no_cause begin (tie_line hold) e).in_place)
frame_begins (supply_line k) e = absurd (clash (no_cause begin (supply_line k) e).in_place)

-- ---- each text has its meaning

-- from r and its n lines on: the lines that pass, and what decides
record Walk (n : ℕ) (r : SoFar) (ls : List (List ℕ)) (x : Reading) : Type 0 where
  passed : List Form
  so_far : SoFar
  rest : List (List ℕ)
  split : ls ≡ map print passed ++ rest
  passes : Passes r passed so_far
  stops : Stops (length passed + n) so_far rest x

stopped : (n : ℕ) (r : SoFar) (ls : List (List ℕ)) (x : Reading) → Stops n r ls x → Walk n r ls x
stopped n r ls x s =
    let z : n ≡ 0 + n = omega arith in
    record { passed = []; so_far = r; rest = ls; split = refl; passes = no_more; stops = rw z at s }

one_line : (n : ℕ) (r : SoFar) (l : List ℕ) (ls : List (List ℕ)) (f : Form) (x : Reading) → form l ≡ some f → ends r f ≡ false
    → first_of (causes r f) ≡ none → Walk (suc n) (more r f) ls x → Walk n r (l ∷ ls) x
one_line n r l ls f x e a c w =
    let z : length w.passed + suc n ≡ suc (length w.passed) + n = omega arith in
    record {
      passed = f ∷ w.passed;
      so_far = w.so_far;
      rest = w.rest;
      split = rw (form_had l f e) (ap (λ (k : List (List ℕ)). print f ∷ k) w.split);
      passes = one_more a c w.passes;
      stops = rw z at w.stops;
    }

-- one line with a form
with_form : (n : ℕ) (r : SoFar) (l : List ℕ) (ls : List (List ℕ)) (f : Form) → form l ≡ some f
    → (first_of (causes r f) ≡ none → Walk (suc n) (more r f) ls (read_from (suc n) (more r f) (map form ls)))
    → Is (ends r f) → (o : Option Refusal) → first_of (causes r f) ≡ o → Walk n r (l ∷ ls) (read_from n r (some f ∷ map form ls))
unfolding read_from
with_form n r l ls f e ih (is_true a) o c = rw a (stopped n r (l ∷ ls) _ (at_event e a))
with_form n r l ls f e ih (is_false a) none c = rw (a, c) (one_line n r l ls f _ e a c (ih c))
with_form n r l ls f e ih (is_false a) (some k) c = rw (a, c) (stopped n r (l ∷ ls) _ (at_fault e a c))

walk : (ls : List (List ℕ)) (n : ℕ) (r : SoFar) → begun r.stage ≡ true → Walk n r ls (read_from n r (map form ls))
unfolding read_from
walk [] n r b =
    subst (λ (x : Bool). Walk n r [] (cond x (accepted r.head n) (refused 1 out_of_place))) (sym b) (stopped n r [] _ (at_end b))
walk (l ∷ ls) n r b = go (form l) refl (λ f. walk ls (suc n) (more r f) (more_begun r f b))
  where
    go : (o : Option Form) → form l ≡ o → ((f : Form) → Walk (suc n) (more r f) ls (read_from (suc n) (more r f) (map form ls)))
        → Walk n r (l ∷ ls) (read_from n r (o ∷ map form ls))
    go none e ih = stopped n r (l ∷ ls) _ (at_no_form e)
    go (some f) e ih = with_form n r l ls f e (λ c. ih f) (is (ends r f)) (first_of (causes r f)) refl

-- the same from line 1 on
walk_first : (l : List ℕ) (ls : List (List ℕ)) → Walk 0 begin (l ∷ ls) (read_from 0 begin (map form (l ∷ ls)))
walk_first l ls = go (form l) refl
  where
    go : (o : Option Form) → form l ≡ o → Walk 0 begin (l ∷ ls) (read_from 0 begin (o ∷ map form ls))
    go none e = unfold read_from in (stopped 0 begin (l ∷ ls) _ (at_no_form e))
    go (some f) e =
        with_form 0 begin l ls f e (λ c. walk ls 1 (more begin f) (frame_begins f c)) (is (ends begin f)) (first_of (causes begin f)) refl

pub head_of_means : (t : List ℕ) → Means t (head_of t)
unfolding head_of read_from
head_of_means t = go (is (ltb 32768 (length t)))
  where
    made : length t ≤ 32768 → (k : List (List ℕ)) → lines t ≡ k → Means t (read_from 0 begin (map form k))
    made h [] e = no_text (sym (lines_join t) ∙ ap join e)
    made h (l ∷ ls) e =
        let w = walk_first l ls in
        let z : length w.passed + 0 ≡ length w.passed = omega arith in
        by_lines h (e ∙ w.split) w.passes (rw z at w.stops)

    go : Is (ltb 32768 (length t)) → Means t (head_of t)
    go (is_true e) = rw e (too_long (lt_of 32768 (length t) e))
    go (is_false e) = rw e (made (ge_of 32768 (length t) e) (lines t) refl)

-- a reading is one that the papers give the text
pub read_means : (t : List ℕ) (x : Reading) → head_of t ≡ x → Means t x
read_means t x e = subst (Means t) e (head_of_means t)

-- ---- and only that one

-- lines that pass are read to what they make
read_passes : {r q : SoFar} {fs : List Form} (n : ℕ) (ls : List (List ℕ)) → Passes r fs q
    → read_from n r (map form (map print fs ++ ls)) ≡ read_from (length fs + n) q (map form ls)
unfolding read_from
read_passes {r} n ls no_more = let z : n ≡ 0 + n = omega arith in ap (λ (k : ℕ). read_from k r (map form ls)) z
read_passes n ls (one_more {q} {f} {fs} a c p) =
    let z : length fs + suc n ≡ suc (length fs) + n = omega arith in
    rw (form_self f, a, c) (read_passes (suc n) ls p ∙ ap (λ (k : ℕ). read_from k q (map form ls)) z)

read_stops : {n : ℕ} {q : SoFar} {ls : List (List ℕ)} {x : Reading} → Stops n q ls x → read_from n q (map form ls) ≡ x
unfolding read_from
read_stops (at_end b) = rw b refl
read_stops (at_event e a) = rw (e, a) refl
read_stops (at_no_form e) = rw e refl
read_stops (at_fault e a c) = rw (e, a, c) refl

pub means_head_of : {t : List ℕ} {x : Reading} → Means t x → head_of t ≡ x
unfolding head_of
means_head_of {t} (too_long h) = rw (ltb_yes 32768 (length t) h) refl
means_head_of (no_text e) = rw e (unfold lines read_from in refl)
means_head_of {t} (by_lines {fs} {q} {ls} h e p s) =
    let z : length fs + 0 ≡ length fs = omega arith in
    rw (ltb_no 32768 (length t) h, e) (read_passes 0 ls p ∙ ap (λ (k : ℕ). read_from k q (map form ls)) z ∙ read_stops s)
