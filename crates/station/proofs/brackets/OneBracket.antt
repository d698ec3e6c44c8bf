-- Laws of one bracket at a place of a text, one for each answer that the code gives (`not_opened`, `no_first`, `no_second`, `is_last`, `not_ended`,
-- `is_next`), and what the answers have in common (`first_small`, `second_small`, `inside`, `next_inside`).
-- Assumes nothing.
use Prim.Native.Nat.{ℕ, ◌+◌, ◌≤◌, ◌<◌}
use native.Mathlib.Omega.{arith}
use mathlib.Core.Path.{◌≡◌, refl, sym, ◌∙◌, ap}
use mathlib.Core.Bool.{true, false}
use mathlib.Core.List.{List}
use lib.ListN.{length, drop}
use Rattle.station.specs.Decimal.{digit_count}
use Rattle.station.specs.declared.numbers.Numeral.{Numeral}
use Rattle.station.specs.declared.brackets.Bracket.{Bracket}
use Rattle.station.specs.Text.{bytes}
use Rattle.station.specs.Form.{last, word, whole, ◌or_else◌, also, read_brackets}
use Rattle.station.specs.method.Numeral.{front, word_at, closes, numeral_at, numeral_then}
use Rattle.std.specs.Prelude.{Some, None}
use Rattle.station.specs.method.Bracket.{BracketAt, no_bracket_lem, last_bracket, next_bracket}
use Rattle.station.proofs.Form.{brackets_step}
use Rattle.station.proofs.numbers.Decimals.{plain_inside, Stands, stands, stands_none}
use Rattle.station.proofs.numbers.Recognised.{word_end, word_inside, word_read, word_lacks, number_yes, number_no, ends_yes, ends_no, StandsThen, stands_then, then_yes, then_no}
use Rattle.station.specs.Jobs.{seen}

module _ (t : List ℕ) (at : ℕ) where
  pub not_opened : None ≡ word_at (bytes "(") t at → BracketAt t at None
  not_opened e = no_bracket_lem refl (brackets_step (drop at t) ∙ word_lacks t (bytes "(") at _ e)

  module _ (o : ℕ) (o-is : Some o ≡ word_at (bytes "(") t at) where
    pub no_first : None ≡ numeral_then (bytes " ") t o → BracketAt t at None
    no_first f =
        no_bracket_lem refl
        (brackets_step (drop at t) ∙ word_read t (bytes "(") at _ o o-is ∙ then_no t (bytes " ") o _ f)

    module _ (a : Numeral) (a-is : Some a ≡ numeral_then (bytes " ") t o) where
      pub no_second : None ≡ numeral_at t a.next → BracketAt t at None
      no_second f =
          no_bracket_lem refl
          (brackets_step (drop at t) ∙ word_read t (bytes "(") at _ o o-is ∙ then_yes t (bytes " ") o _ a a-is
          ∙ number_no t a.next _ (stands_none t a.next f))

      module _ (b : Numeral) (b-is : Some b ≡ numeral_at t a.next) where
        -- the two numbers
        abbrev m : ℕ
        m = front (drop o t)

        abbrev n : ℕ
        n = front (drop a.next t)

        first_is : StandsThen t (bytes " ") o a
        first_is = stands_then t (bytes " ") o a a-is

        second_is : Stands t a.next b
        second_is = stands t a.next b b-is

        read_two :
            read_brackets (drop at t)
            ≡ (word (bytes "))\n") (drop b.next t) (whole (last m n)) or_else word (bytes ") ") (drop b.next t) (λ l₅. also m n (read_brackets l₅)))
        read_two =
            brackets_step (drop at t) ∙ word_read t (bytes "(") at _ o o-is ∙ then_yes t (bytes " ") o _ a a-is
            ∙ number_yes t a.next b.next _ second_is.plain (sym second_is.next)

        later : at < b.next
        unfolding bytes
        later =
            omega (
              arith,
              word_end t (bytes "(") at o o-is,
              word_end t (bytes " ") (o + digit_count (drop o t)) a.next first_is.word,
              second_is.next,
            )

        inside_two : b.next ≤ length t
        inside_two = omega (arith, second_is.next, plain_inside t a.next second_is.plain)

        pub is_last : closes (bytes "))\n") t b.next ≡ true → BracketAt t at (Some (record { first = a.value; second = b.value; next = None }))
        is_last e =
            last_bracket m n (rw (first_is.value, second_is.value) refl) (omega (arith, later, inside_two))
            (read_two ∙ (rw (ends_yes t (bytes "))\n") b.next (last m n) e) refl))

        module _ (open-end : closes (bytes "))\n") t b.next ≡ false) where
          pub not_ended : None ≡ word_at (bytes ") ") t b.next → BracketAt t at None
          not_ended e =
              no_bracket_lem refl
              (read_two
              ∙ (rw (
                ends_no t (bytes "))\n") b.next (last m n) open-end,
                word_lacks t (bytes ") ") b.next (λ l₅. also m n (read_brackets l₅)) e,
              ) refl))

          pub is_next : (next : ℕ) → Some next ≡ word_at (bytes ") ") t b.next
              → BracketAt t at (Some (record { first = a.value; second = b.value; next = Some next }))
          unfolding bytes
          is_next next e =
              next_bracket m n next (rw (first_is.value, second_is.value) refl) (omega (arith, later, word_end t (bytes ") ") b.next next e))
              (word_inside t (bytes ") ") b.next next e (omega arith))
              (read_two
              ∙ (rw (
                ends_no t (bytes "))\n") b.next (last m n) open-end,
                word_read t (bytes ") ") b.next (λ l₅. also m n (read_brackets l₅)) next e,
              ) refl))

-- ---- what the answers have in common

module _ {t : List ℕ} {at : ℕ} {b : Bracket} where
  pub first_small : BracketAt t at (Some b) → b.first ≤ 65535
  first_small (no_bracket_lem q e) = absurd cc
  first_small (last_bracket c d q i e) =
      let same : b ≡ record { first = seen c; second = seen d; next = None } = cc in
      omega (arith, ap (λ (x : Bracket). x.first) same)
  first_small (next_bracket c d k q h i e) =
      let same : b ≡ record { first = seen c; second = seen d; next = Some k } = cc in
      omega (arith, ap (λ (x : Bracket). x.first) same)

  pub second_small : BracketAt t at (Some b) → b.second ≤ 65535
  second_small (no_bracket_lem q e) = absurd cc
  second_small (last_bracket c d q i e) =
      let same : b ≡ record { first = seen c; second = seen d; next = None } = cc in
      omega (arith, ap (λ (x : Bracket). x.second) same)
  second_small (next_bracket c d k q h i e) =
      let same : b ≡ record { first = seen c; second = seen d; next = Some k } = cc in
      omega (arith, ap (λ (x : Bracket). x.second) same)

  pub inside : BracketAt t at (Some b) → at < length t
  inside (no_bracket_lem q e) = absurd cc
  inside (last_bracket c d q i e) = i
  inside (next_bracket c d k q h i e) = omega arith

  pub next_inside : (next : ℕ) → BracketAt t at (Some b) → b.next ≡ Some next → (at < next) × (next ≤ length t)
  next_inside next (no_bracket_lem q e) y = absurd cc
  next_inside next (last_bracket c d q i e) y =
      let same : b ≡ record { first = seen c; second = seen d; next = None } = cc in
      let off : Some next ≡ None = sym y ∙ ap (λ (x : Bracket). x.next) same in
      absurd cc
  next_inside next (next_bracket c d k q h i e) y =
      let same : b ≡ record { first = seen c; second = seen d; next = Some k } = cc in
      let on : Some next ≡ Some k = sym y ∙ ap (λ (x : Bracket). x.next) same in
      let here : next ≡ k = cc in
      (omega arith, omega arith)
