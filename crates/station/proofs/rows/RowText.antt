-- Laws of the texts of rows: reading inverts printing, both ways; and a text may be cut at byte 10.
--
-- In order: one field (`plain_bare`, `field_self`, `field_had`); a row before a text (`row_first`, `first_had`), `row_self` and `row_had`; a printed row ends as a line does and as a cut does (`row_line`, `row_cut`); up to the first row
-- at fault, cutting at byte 10 and cutting at CR LF give the same rows (`cut_same`).
-- Assumes nothing.
use Prim.Native.Nat.{ℕ, suc}
use native.Mathlib.Omega.{arith}
use mathlib.Core.Path.{◌≡◌, refl, sym, ◌∙◌, ap}
use mathlib.Core.Bool.{Bool, true, false, ◌&&◌, and-false}
use mathlib.Core.Option.{Option, none, some}
use mathlib.Core.List.{List, [], ◌∷◌, ◌++◌, map, append_assoc, append-nil}
use lib.ListN.{length}
use lib.Dec.{eqb}
use Rattle.laws.proofs.Tests.{Is, is_true, is_false, is, left_of, none_some}
use Rattle.laws.proofs.Comparisons.{eqb_no}
use Rattle.station.specs.Text.{bytes, ◌then◌, is_line, join, onto, lines}
use Rattle.station.specs.Decimal.{digits, digit_count, is_digit, plain}
use Rattle.station.specs.Form.{starts, word, number, whole, ◌or_else◌}
use Rattle.station.specs.Row.{Row, row, quote, field, print_row, TextOfRow, field_in, row_of, cuts_after, cuts}
use Rattle.station.proofs.rows.RowLists.{to_fault}
use Rattle.station.proofs.Decimal.{digit_low, all_digits, digits_count, plain_digits, number_digits, number_had}
use Rattle.station.proofs.Text.{is_line_cons, lines_join, lines_line, join_onto}
use Rattle.station.proofs.Form.{word_had, whole_had, or_had}

-- ---- one field

-- what begins with a number does not begin with a quote
pub plain_bare : (l : List ℕ) → plain l ≡ true → starts quote l ≡ false
unfolding starts plain
plain_bare [] e = refl
plain_bare (b ∷ l) e =
    let low = digit_low b (left_of (is_digit b) _ e) in
    rw (eqb_no 34 b (λ q. omega arith)) refl

module _ {A : Type 0} where
  pub or_none : (x : Option A) → (x or_else none) ≡ x
  or_none none = refl
  or_none (some a) = refl

  number_bare : (l : List ℕ) (k : List ℕ → Option A) → plain l ≡ true → word quote l k ≡ none
  unfolding word
  number_bare l k e = rw (plain_bare l e) refl

  -- a field printed, and no digit after it, reads as its number
  pub field_self : (q : Bool) (n : ℕ) (r : List ℕ) (k : ℕ → List ℕ → Option A) → digit_count r ≡ 0 → field_in (field q n ++ r) k ≡ k n r
  unfolding field_in word starts digit_count
  field_self true n r k e =
      rw (append_assoc (digits n) quote r, number_digits n (quote ++ r) (λ m l. word quote l (k m)) refl)
      (unfold number plain in or_none (k n r))
  field_self false n r k e = rw (number_bare (digits n ++ r) (λ l₁. number l₁ (λ m l₂. word quote l₂ (k m))) (plain_digits n r e)) (number_digits n r k e)

  -- a field was read, so the text was that field printed and then the rest
  pub field_had : {G : Type 0} (l : List ℕ) (k : ℕ → List ℕ → Option A) (a : A) → field_in l k ≡ some a
      → ((q : Bool) (n : ℕ) (r : List ℕ) → l ≡ field q n ++ r → k n r ≡ some a → G) → G
  unfolding field_in
  field_had l k a e g =
      or_had (word quote l (λ l₁. number l₁ (λ n l₂. word quote l₂ (k n)))) (number l k) a e
      (λ e₁. word_had quote l _ a e₁ (λ l₁ h₁ q₁. number_had l₁ _ a q₁ (λ n l₂ h₂ c₂ q₂. word_had quote l₂ (k n) a q₂ (λ r h₃ q₃.
      g true n r (rw (h₁, h₂, h₃) (ap (λ (x : List ℕ). 34 ∷ x) (sym (append_assoc (digits n) quote r)))) q₃))))
      (λ e₁. number_had l k a e₁ (λ n r h c q. g false n r h q))

-- ---- the two inverses

-- the parts of a printed row before a text
row_parts : (p q r : Bool) (x : Row) (l : List ℕ)
    → print_row p q r x ++ l ≡ field p x.bridge then bytes "," then field q x.first then bytes "," then field r x.last then bytes "\r\n" then l
unfolding print_row bytes
row_parts p q r x l =
    rw (
      append_assoc (field p x.bridge) (bytes "," then field q x.first then bytes "," then field r x.last then bytes "\r\n") l,
      append_assoc (field q x.first) (bytes "," then field r x.last then bytes "\r\n") l,
      append_assoc (field r x.last) (bytes "\r\n") l,
    )
    refl

module _ {A : Type 0} where
  -- a row, then what k makes of it and the rest: `row_of` leaves no rest
  unfoldable pub row_then : List ℕ → (Row → List ℕ → Option A) → Option A
  row_then l k =
      field_in l (λ b l₁. word (bytes ",") l₁ (λ l₂. field_in l₂ (λ f l₃. word (bytes ",") l₃ (λ l₄. field_in l₄ (λ t l₅.
      word (bytes "\r\n") l₅ (k (row b f t)))))))

  -- a printed row before a text is read back
  pub row_first : (p q r : Bool) (x : Row) (l : List ℕ) (k : Row → List ℕ → Option A) → row_then (print_row p q r x ++ l) k ≡ k x l
  unfolding row_then bytes word starts digit_count
  row_first p q r x l k =
      rw (row_parts p q r x l)
      (field_self p x.bridge (bytes "," then field q x.first then bytes "," then field r x.last then bytes "\r\n" then l) _ refl
      ∙ field_self q x.first (bytes "," then field r x.last then bytes "\r\n" then l) _ refl
      ∙ field_self r x.last (bytes "\r\n" then l) _ refl)

  -- a text that a row is read from begins with that row printed
  pub first_had : {G : Type 0} (l : List ℕ) (k : Row → List ℕ → Option A) (a : A) → row_then l k ≡ some a
      → ((p q r : Bool) (x : Row) (m : List ℕ) → l ≡ print_row p q r x ++ m → k x m ≡ some a → G) → G
  unfolding row_then
  first_had l k a e g =
      field_had l _ a e (λ p b l₁ h₁ e₁. word_had (bytes ",") l₁ _ a e₁ (λ l₂ h₂ e₂. field_had l₂ _ a e₂ (λ q f l₃ h₃ e₃.
      word_had (bytes ",") l₃ _ a e₃ (λ l₄ h₄ e₄. field_had l₄ _ a e₄ (λ r t l₅ h₅ e₅. word_had (bytes "\r\n") l₅ _ a e₅ (λ l₆ h₆ e₆.
      g p q r (row b f t) l₆ (rw (h₁, h₂, h₃, h₄, h₅, h₆) (sym (row_parts p q r (row b f t) l₆))) e₆))))))

-- a printed row is read back
pub row_self : (p q r : Bool) (x : Row) → row_of (print_row p q r x) ≡ some x
unfolding row_of row_then
row_self p q r x = ap row_of (sym (append-nil (print_row p q r x))) ∙ row_first p q r x [] whole

-- a line that is read is that row printed
pub row_had : (l : List ℕ) (x : Row) → row_of l ≡ some x → TextOfRow l x
unfolding row_of row_then
row_had l x e = first_had l whole x e (λ p q r y m h k. whole_had y m x k (λ none_left same. record {
  bridge_quoted = p;
  first_quoted = q;
  last_quoted = r;
  text = h ∙ (rw (none_left, same) (append-nil (print_row p q r x)));
}))

-- ---- a printed row ends as a line and as a cut

-- byte 10 stands at the end and nowhere else, and whatever comes before and after, a text is cut at that end
record Ended (l : List ℕ) : Type 0 where
  line : is_line l ≡ true
  cut : (cr : Bool) (r : List ℕ) → cuts_after cr (l ++ r) ≡ l ∷ cuts r

ended_cons : (b : ℕ) (l : List ℕ) → eqb b 10 ≡ false → Ended l → Ended (b ∷ l)
unfolding cuts_after
ended_cons b l e h = record {
  line = is_line_cons b l e h.line;
  cut = λ cr r. rw (e, and-false cr) (ap (onto b) (h.cut (eqb b 13) r));
}

ended_digits : (l r : List ℕ) → digit_count l ≡ length l → Ended r → Ended (l ++ r)
ended_digits [] r e h = h
ended_digits (b ∷ l) r e h =
    let t = all_digits b l e in
    let low = digit_low b t.0 in
    ended_cons b (l ++ r) (eqb_no b 10 (λ q. omega arith)) (ended_digits l r t.1 h)

ended_field : (q : Bool) (n : ℕ) (r : List ℕ) → Ended r → Ended (field q n ++ r)
ended_field true n r h =
    rw (append_assoc (digits n) quote r)
    (ended_cons 34 (digits n ++ 34 ∷ r) refl (ended_digits (digits n) (34 ∷ r) (digits_count n) (ended_cons 34 r refl h)))
ended_field false n r h = ended_digits (digits n) r (digits_count n) h

ended_end : Ended (bytes "\r\n")
unfolding bytes is_line cuts_after
ended_end = record { line = refl; cut = λ cr r. rw (and-false cr) refl }

ended_row : (p q r : Bool) (x : Row) → Ended (print_row p q r x)
unfolding print_row bytes
ended_row p q r x =
    ended_field p x.bridge _ (ended_cons 44 _ refl (ended_field q x.first _ (ended_cons 44 _ refl (ended_field r x.last _ ended_end))))

-- byte 10 stands at the end of a printed row and nowhere else
pub row_line : (p q r : Bool) (x : Row) → is_line (print_row p q r x) ≡ true
row_line p q r x = (ended_row p q r x).line

-- a printed row before a text is its first piece, where the text is cut at CR LF
pub row_cut : (p q r : Bool) (x : Row) (t : List ℕ) → cuts (print_row p q r x ++ t) ≡ print_row p q r x ∷ cuts t
row_cut p q r x t = (ended_row p q r x).cut false t

read_ended : (l : List ℕ) (x : Row) → row_of l ≡ some x → Ended l
read_ended l x e = let w = row_had l x e in rw w.text (ended_row w.bridge_quoted w.first_quoted w.last_quoted x)

-- ---- cut at byte 10 or at CR LF

-- the pieces of a text put together are the text
cuts_join : (cr : Bool) (t : List ℕ) → join (cuts_after cr t) ≡ t
unfolding cuts_after
cuts_join cr [] = refl
cuts_join cr (b ∷ t) = go (cuts_join false t) (cuts_join (eqb b 13) t) (is (cr && eqb b 10))
  where
    go : join (cuts t) ≡ t → join (cuts_after (eqb b 13) t) ≡ t → Is (cr && eqb b 10) → join (cuts_after cr (b ∷ t)) ≡ b ∷ t
    go ended on (is_true e) = rw (e, ended) refl
    go ended on (is_false e) = rw e (join_onto b (cuts_after (eqb b 13) t) ∙ ap (λ (l : List ℕ). b ∷ l) on)

cons_left : {A : Type 0} {a b : A} {l k : List A} → a ∷ l ≡ b ∷ k → a ≡ b
cons_left e = cc

cons_right : {A : Type 0} {a b : A} {l k : List A} → a ∷ l ≡ b ∷ k → l ≡ k
cons_right e = cc

nil_cons : {A : Type 0} {a : A} {l : List A} → [] ≡ a ∷ l → ⊥
nil_cons {A} {a} {l} e = let z : 0 ≡ suc (length l) = ap length e in omega arith

-- Up to the first row at fault, a text has the same rows whether it is cut at byte 10 or at CR LF: the row at fault has the same number either way.
module _ (t l : List ℕ) (ls : List (List ℕ)) (at : lines t ≡ l ∷ ls) where
  parts : t ≡ l ++ join ls
  parts = sym (lines_join t) ∙ ap join at

  -- the first line has a row's form: it is the first piece too, and the other lines are those of the rest
  module _ (x : Row) (e : row_of l ≡ some x) where
    rest_lines : lines (join ls) ≡ ls
    rest_lines = cons_right (sym (lines_line l (join ls) (read_ended l x e).line) ∙ ap lines (sym parts) ∙ at)

    rest_cuts : cuts t ≡ l ∷ cuts (join ls)
    rest_cuts = ap cuts parts ∙ (read_ended l x e).cut false (join ls)

  -- the first line has none: no more has the first piece
  first_none : (cs : List (List ℕ)) → cuts t ≡ cs → row_of l ≡ none → to_fault (map row_of cs) ≡ none ∷ []
  unfolding to_fault lines
  first_none [] c e = absurd (nil_cons (ap lines (ap join (sym c) ∙ cuts_join false t) ∙ at))
  first_none (d ∷ cs) c e = go (row_of d) refl
    where
      go : (o : Option Row) → row_of d ≡ o → to_fault (map row_of (d ∷ cs)) ≡ none ∷ []
      go none f = rw f refl
      go (some x) f =
          let whole-text : t ≡ d ++ join cs = sym (cuts_join false t) ∙ ap join c in
          let same : d ≡ l = cons_left (sym (lines_line d (join cs) (read_ended d x f).line) ∙ ap lines (sym whole-text) ∙ at) in
          absurd (none_some (sym e ∙ ap row_of (sym same) ∙ f))

same_from : (ls : List (List ℕ)) (t : List ℕ) → lines t ≡ ls → to_fault (map row_of ls) ≡ to_fault (map row_of (cuts t))
unfolding to_fault cuts_after
same_from [] t at =
    let empty : t ≡ [] = sym (lines_join t) ∙ ap join at in
    rw empty refl
same_from (l ∷ ls) t at = go (λ q. same_from ls (join ls) q) (row_of l) refl
  where
    go : (lines (join ls) ≡ ls → to_fault (map row_of ls) ≡ to_fault (map row_of (cuts (join ls)))) → (o : Option Row) → row_of l ≡ o
        → to_fault (map row_of (l ∷ ls)) ≡ to_fault (map row_of (cuts t))
    go ih none e = rw e (sym (first_none t l ls at (cuts t) refl e))
    go ih (some x) e = rw (rest_cuts t l ls at x e, e) (ap (λ (k : List (Option Row)). some x ∷ k) (ih (rest_lines t l ls at x e)))

pub cut_same : (t : List ℕ) → to_fault (map row_of (lines t)) ≡ to_fault (map row_of (cuts t))
cut_same t = same_from (lines t) t refl
