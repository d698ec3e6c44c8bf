-- Laws of one row at a place of a text: what the recogniser makes of the fields that the code found there.
--
-- In order: a word at a place (`word_fits`); a field
-- (`field_number`, `field_value`, `field_yes`, `field_no`), and a field with a comma after it (`comma_value`, `comma_yes`, `comma_no`);
-- the row of the line there, found or not (`row_found`, `row_missing`).
-- Assumes nothing.
use Prim.Native.Nat.{ℕ, suc, ◌+◌, ◌-◌, ◌≤◌}
use native.Mathlib.Omega.{arith}
use mathlib.Core.Path.{◌≡◌, refl, sym, ◌∙◌, ap}
use mathlib.Core.Bool.{true, false, cond}
use mathlib.Core.Option.{Option, none, some}
use Rattle.std.specs.Prelude as code
use Rattle.std.specs.Prelude.{Some, None, option_map}
use mathlib.Core.List.{List, [], ◌++◌}
use lib.ListN.{length, drop, length-append, length-drop}
use Rattle.laws.proofs.Tests.{Is, is, is_true, is_false, clash, none_some}
use Rattle.station.specs.declared.numbers.Numeral.{Numeral}
use Rattle.station.specs.declared.rows.fields.Fields.{Fields}
use Rattle.station.specs.Text.{bytes}
use Rattle.station.specs.Line.{line_of}
use Rattle.station.specs.Decimal.{plain}
use Rattle.station.specs.Form.{starts, word, number}
use Rattle.station.specs.Jobs.{seen}
use Rattle.station.specs.Row.{Row, quote, print_row, field_in, row_of}
use Rattle.station.specs.method.Numeral.{front, word_at, numeral_at, numeral_then}
use Rattle.station.specs.method.RowFields.{field_at, field_then, fields_of, fields_at}
use Rattle.station.proofs.Form.{whole_had}
use Rattle.station.proofs.lines.FirstLine.{line_rest, line_before, line_bytes}
use Rattle.station.proofs.numbers.Decimals.{starts_length, stands, stands_none}
use Rattle.station.proofs.numbers.Recognised.{word_yes, word_no, word_read, word_lacks, number_yes, number_no, then_yes, then_no, then_value}
use Rattle.station.proofs.rows.RowText.{plain_bare, or_none, row_then, row_first, first_had, row_self, row_had, row_line}

-- ---- a word at a place

-- a word that stands there, of one byte or more, ends in the text
pub word_fits : (t : List ℕ) (i : ℕ) (w : List ℕ) (n : ℕ) → length w ≡ suc n → starts w (drop i t) ≡ true → i + suc n ≤ length t
word_fits t i w n long s = omega (arith, starts_length w (drop i t) s, length-drop i t)

-- ---- a field

-- the number of the field at a place
abbrev pub field_number : List ℕ → ℕ → ℕ
field_number t i = cond (starts quote (drop i t)) (front (drop (i + 1) t)) (front (drop i t))

-- what begins with a quote does not begin with a number
quote_plain : (l : List ℕ) → starts quote l ≡ true → plain l ≡ false
quote_plain l s = go (is (plain l))
  where
    go : Is (plain l) → plain l ≡ false
    go (is_true p) = absurd (clash (sym s ∙ plain_bare l p))
    go (is_false p) = p

module _ (t : List ℕ) (i : ℕ) where
  module _ (o : code.Option Numeral) (same : o ≡ field_at t i) where
    then_at : starts quote (drop i t) ≡ true → o ≡ numeral_then quote t (i + 1)
    then_at s = rw s at same

    bare_at : starts quote (drop i t) ≡ false → o ≡ numeral_at t i
    bare_at s = rw s at same

  module _ (n : Numeral) (same : Some n ≡ field_at t i) where
    -- the value is the number's, as it is read
    pub field_value : n.value ≡ seen (field_number t i)
    field_value = go (is (starts quote (drop i t)))
      where
        go : Is (starts quote (drop i t)) → n.value ≡ seen (field_number t i)
        go (is_true s) = rw s (then_value t quote (i + 1) n (then_at (Some n) same s))
        go (is_false s) = rw s (stands t i n (bare_at (Some n) same s)).value

  module _ {A : Type 0} (k : ℕ → List ℕ → Option A) where
    -- a quote stands there: the second way finds no number; or none does, and so the first way ends
    quoted_in : starts quote (drop i t) ≡ true → field_in (drop i t) k ≡ number (drop (i + 1) t) (λ v l. word quote l (k v))
    unfolding field_in
    quoted_in s =
        rw (word_yes t quote i (i + 1) (λ l₁. number l₁ (λ v l. word quote l (k v))) s refl, number_no t i k (quote_plain (drop i t) s))
        (or_none (number (drop (i + 1) t) (λ v l. word quote l (k v))))

    bare_in : starts quote (drop i t) ≡ false → field_in (drop i t) k ≡ number (drop i t) k
    unfolding field_in
    bare_in s = rw (word_no t quote i (λ l₁. number l₁ (λ v l. word quote l (k v))) s) refl

    pub field_yes : (n : Numeral) → Some n ≡ field_at t i → field_in (drop i t) k ≡ k (field_number t i) (drop n.next t)
    field_yes n same = go (is (starts quote (drop i t)))
      where
        go : Is (starts quote (drop i t)) → field_in (drop i t) k ≡ k (field_number t i) (drop n.next t)
        go (is_true s) = rw s (quoted_in s ∙ then_yes t quote (i + 1) k n (then_at (Some n) same s))
        go (is_false s) =
            let h = stands t i n (bare_at (Some n) same s) in
            rw s (bare_in s ∙ number_yes t i n.next k h.plain (sym h.next))

    pub field_no : None ≡ field_at t i → field_in (drop i t) k ≡ none
    field_no same = go (is (starts quote (drop i t)))
      where
        go : Is (starts quote (drop i t)) → field_in (drop i t) k ≡ none
        go (is_true s) = quoted_in s ∙ then_no t quote (i + 1) k (then_at None same s)
        go (is_false s) = bare_in s ∙ number_no t i k (stands_none t i (bare_at None same s))

-- ---- a field with a comma after it

module _ (t : List ℕ) (i : ℕ) where
  -- what a field makes with the place after the comma after it
  abbrev with_comma : Numeral → ℕ → Numeral
  with_comma f next = record { value = f.value; next = next }

  -- a field stands at a place and a comma after it: n is its value, and the place after the comma
  record Comma (n : Numeral) : Type 0 where
    field : Numeral
    stands_lem : Some field ≡ field_at t i
    comma : Some n.next ≡ word_at (bytes ",") t field.next
    value : n.value ≡ field.value

  comma_of : (n : Numeral) → Some n ≡ field_then t i → Comma n
  comma_of n same = go (field_at t i) refl
    where
      after : (f : Numeral) → Some f ≡ field_at t i → (o : code.Option ℕ) → word_at (bytes ",") t f.next ≡ o → Some n ≡ option_map (with_comma f) o → Comma n
      after f h None q s = absurd cc
      after f h (Some j) q s =
          let k : n ≡ with_comma f j = cc in
          record { field = f; stands_lem = h; comma = ap (λ (x : Numeral). Some x.next) k ∙ sym q; value = ap (λ (x : Numeral). x.value) k }

      go : (o : code.Option Numeral) → field_at t i ≡ o → Comma n
      go None e = let s : Some n ≡ None = rw e at same in absurd cc
      go (Some f) e = after f (sym e) (word_at (bytes ",") t f.next) refl (rw e at same)

  pub comma_value : (n : Numeral) → Some n ≡ field_then t i → n.value ≡ seen (field_number t i)
  comma_value n same = let h = comma_of n same in h.value ∙ field_value t i h.field h.stands_lem

  module _ {A : Type 0} (k : ℕ → List ℕ → Option A) where
    pub comma_yes : (n : Numeral) → Some n ≡ field_then t i → field_in (drop i t) (λ v l. word (bytes ",") l (k v)) ≡ k (field_number t i) (drop n.next t)
    comma_yes n same =
        let h = comma_of n same in
        field_yes t i (λ v l. word (bytes ",") l (k v)) h.field h.stands_lem
        ∙ word_read t (bytes ",") h.field.next (k (field_number t i)) n.next h.comma

    pub comma_no : None ≡ field_then t i → field_in (drop i t) (λ v l. word (bytes ",") l (k v)) ≡ none
    comma_no same = go (field_at t i) refl
      where
        after : (f : Numeral) → Some f ≡ field_at t i → (o : code.Option ℕ) → word_at (bytes ",") t f.next ≡ o → None ≡ option_map (with_comma f) o
            → field_in (drop i t) (λ v l. word (bytes ",") l (k v)) ≡ none
        after f h None q s =
            field_yes t i (λ v l. word (bytes ",") l (k v)) f h ∙ word_lacks t (bytes ",") f.next (k (field_number t i)) (sym q)
        after f h (Some j) q s = absurd cc

        go : (o : code.Option Numeral) → field_at t i ≡ o → field_in (drop i t) (λ v l. word (bytes ",") l (k v)) ≡ none
        go None e = field_no t i (λ v l. word (bytes ",") l (k v)) (sym e)
        go (Some f) e = after f (sym e) (word_at (bytes ",") t f.next) refl (rw e at same)

-- ---- the row of the line at a place

module _ (t : List ℕ) (at : ℕ) where
  -- a row as it is read, and the place where the rest begins
  abbrev pub placed : Row → List ℕ → Option (code.Option Fields)
  placed x l = some (fields_of (length t - length l) (some x))

  -- a row that is read from there on is the line
  pub row_found : (x : Row) (next : ℕ) → next ≤ length t → row_then (drop at t) placed ≡ placed x (drop next t) → fields_of next (some x) ≡ fields_at t at
  row_found x next h e = first_had (drop at t) placed (fields_of (length t - length (drop next t)) (some x)) e (λ p q r y m s same.
      let here : line_of (drop at t) ≡ print_row p q r y = ap line_of s ∙ line_before (print_row p q r y) m (row_line p q r y) in
      let all : length (drop at t) ≡ length (print_row p q r y) + length m = ap length s ∙ length-append (print_row p q r y) m in
      let past : next ≡ length t - length (drop next t) = omega (arith, length-drop next t) in
      let after : length t - length m ≡ at + length (print_row p q r y) = omega (arith, all, length-drop at t, line_bytes (print_row p q r y) (row_line p q r y)) in
      ap (λ (n : ℕ). fields_of n (some x)) past
      ∙ whole_had (fields_of (length t - length m) (some y)) [] _ same (λ _ e. sym e)
      ∙ ap (λ (n : ℕ). fields_of n (some y)) after
      ∙ (rw (here, row_self p q r y) refl))

  -- where none is, the line has no row's form
  pub row_missing : row_then (drop at t) placed ≡ none → None ≡ fields_at t at
  row_missing e = go (row_of (line_of (drop at t))) refl
    where
      go : (o : Option Row) → row_of (line_of (drop at t)) ≡ o → None ≡ fields_at t at
      go none f = rw f refl
      go (some x) f =
          let w = row_had (line_of (drop at t)) x f in
          let rest : List ℕ = drop (length (line_of (drop at t))) (drop at t) in
          let parts : drop at t ≡ print_row w.bridge_quoted w.first_quoted w.last_quoted x ++ rest = line_rest (drop at t) ∙ ap (λ (l : List ℕ). l ++ rest) w.text in
          absurd (none_some (sym e ∙ ap (λ (l : List ℕ). row_then l placed) parts ∙ row_first w.bridge_quoted w.first_quoted w.last_quoted x rest placed))
