-- Laws of the steps of a recogniser at a place of a text: what each of them makes of what the code found there.
--
-- In order: a word (`word_yes`, `word_no`); a number (`number_yes`, `number_no`); a word that ends the text (`ends_yes`, `ends_no`); what was
-- found by a test (`passed`, `passed_value`, `failed_test`); a word at a place (`word_stands`, `word_end`, `word_inside`, `word_read`, `word_lacks`); a number and a word after it (`stands_then`, `then_yes`, `then_no`, `then_value`); a
-- number that ends the line (`last_yes`, `last_no`, `last_value`); a word, a number and the end of the line (`lone_value`, `lone_yes`, `lone_no`).
-- Assumes nothing.
use Prim.Native.Nat.{ℕ, ◌+◌, ◌≤◌, ◌<◌}
use native.Mathlib.Omega.{arith}
use mathlib.Core.Path.{◌≡◌, refl, sym, ◌∙◌, ap}
use mathlib.Core.Bool.{Bool, true, false}
use mathlib.Core.Option.{Option, none, some}
use mathlib.Core.List.{List}
use lib.ListN.{length, drop, drop_of_length-le, length-drop}
use lib.Seq.{drop-drop, drop-cons}
use lib.Dec.{leb}
use Rattle.laws.proofs.Tests.{Is, is, is_true, is_false, left_of, right_of}
use Rattle.laws.proofs.Comparisons.{le_of, gt_of}
use Rattle.station.specs.declared.numbers.Numeral.{Numeral}
use Rattle.station.specs.Text.{bytes}
use Rattle.station.specs.Decimal.{digit_count, plain}
use Rattle.station.specs.Form.{starts, word, number, whole}
use Rattle.std.specs.Prelude as code
use Rattle.std.specs.Prelude.{Some, None, option_map}
use Rattle.std.specs.Bool.{then_some}
use Rattle.station.specs.method.Numeral.{front, word_at, closes, numeral_then, numeral_last, lone_numeral}
use Rattle.station.specs.Jobs.{seen}
use Rattle.station.proofs.numbers.Decimals.{starts_length}

module _ {A : Type 0} (t : List ℕ) where
  pub word_yes : (w : List ℕ) (i j : ℕ) (k : List ℕ → Option A) → starts w (drop i t) ≡ true → i + length w ≡ j → word w (drop i t) k ≡ k (drop j t)
  unfolding word
  word_yes w i j k e h = rw (e, drop-drop (length w) i t, h) refl

  pub word_no : (w : List ℕ) (i : ℕ) (k : List ℕ → Option A) → starts w (drop i t) ≡ false → word w (drop i t) k ≡ none
  unfolding word
  word_no w i k e = rw e refl

  pub number_yes : (i j : ℕ) (k : ℕ → List ℕ → Option A) → plain (drop i t) ≡ true → i + digit_count (drop i t) ≡ j
      → number (drop i t) k ≡ k (front (drop i t)) (drop j t)
  unfolding number
  number_yes i j k e h = rw (e, drop-drop (digit_count (drop i t)) i t, h) refl

  pub number_no : (i : ℕ) (k : ℕ → List ℕ → Option A) → plain (drop i t) ≡ false → number (drop i t) k ≡ none
  unfolding number
  number_no i k e = rw e refl

  -- nothing is left, or something is
  whole_yes : (a : A) (i : ℕ) → length t ≤ i → whole a (drop i t) ≡ some a
  whole_yes a i h = rw (drop_of_length-le t h) refl

  whole_no : (a : A) (i : ℕ) → i < length t → whole a (drop i t) ≡ none
  whole_no a i h = rw (drop-cons t i 0 h) refl

  pub ends_yes : (w : List ℕ) (i : ℕ) (a : A) → closes w t i ≡ true → word w (drop i t) (whole a) ≡ some a
  ends_yes w i a e =
      word_yes w i (i + length w) (whole a) (left_of (starts w (drop i t)) (leb (length t) (i + length w)) e) refl
      ∙ whole_yes a (i + length w) (le_of (length t) (i + length w) (right_of (starts w (drop i t)) (leb (length t) (i + length w)) e))

  pub ends_no : (w : List ℕ) (i : ℕ) (a : A) → closes w t i ≡ false → word w (drop i t) (whole a) ≡ none
  ends_no w i a e = go (is (starts w (drop i t)))
    where
      go : Is (starts w (drop i t)) → word w (drop i t) (whole a) ≡ none
      go (is_true s) =
          let l : leb (length t) (i + length w) ≡ false = rw s at e in
          word_yes w i (i + length w) (whole a) s refl ∙ whole_no a (i + length w) (gt_of (length t) (i + length w) l)
      go (is_false s) = word_no w i (whole a) s

-- ---- a number and what follows it

-- what was found where a test was passed
pub passed : {A : Type 0} (b : Bool) (x a : A) → Some a ≡ then_some b x → b ≡ true
passed true x a e = refl
passed false x a e = absurd cc

pub passed_value : {A : Type 0} (b : Bool) (x a : A) → Some a ≡ then_some b x → a ≡ x
passed_value true x a e = cc
passed_value false x a e = absurd cc

pub failed_test : {A : Type 0} (b : Bool) (x : A) → None ≡ then_some b x → b ≡ false
failed_test true x e = absurd cc
failed_test false x e = refl

module _ (t w : List ℕ) (i : ℕ) where
  abbrev stands_word : Bool
  stands_word = starts w (drop i t)

  -- a word that stands at a place
  pub word_stands : (j : ℕ) → Some j ≡ word_at w t i → stands_word ≡ true
  word_stands j e = passed stands_word (i + length w) j e

  pub word_end : (j : ℕ) → Some j ≡ word_at w t i → j ≡ i + length w
  word_end j e = passed_value stands_word (i + length w) j e

  pub word_inside : (j : ℕ) → Some j ≡ word_at w t i → 0 < length w → j ≤ length t
  word_inside j e h = omega (arith, word_end j e, starts_length w (drop i t) (word_stands j e), length-drop i t)

  module _ {A : Type 0} (k : List ℕ → Option A) where
    pub word_read : (j : ℕ) → Some j ≡ word_at w t i → word w (drop i t) k ≡ k (drop j t)
    word_read j e = word_yes t w i j k (word_stands j e) (sym (word_end j e))

    pub word_lacks : None ≡ word_at w t i → word w (drop i t) k ≡ none
    word_lacks e = word_no t w i k (failed_test stands_word (i + length w) e)

module _ (t w : List ℕ) (i : ℕ) where
  -- where the number at a place ends
  abbrev digits_end : ℕ
  digits_end = i + digit_count (drop i t)

  -- a number stands at a place and the word after it: n is its value, and the place after the word
  pub record StandsThen (n : Numeral) : Type 0 where
    pub plain : plain (drop i t) ≡ true
    pub word : Some n.next ≡ word_at w t digits_end
    pub value : n.value ≡ seen (front (drop i t))

  abbrev with_word : ℕ → Numeral
  with_word next = record { value = seen (front (drop i t)); next = next }

  pub stands_then : (n : Numeral) → Some n ≡ numeral_then w t i → StandsThen n
  stands_then n e = go (is (plain (drop i t)))
    where
      after : plain (drop i t) ≡ true → (o : code.Option ℕ) → word_at w t digits_end ≡ o → Some n ≡ option_map with_word o → StandsThen n
      after p None q s = absurd cc
      after p (Some j) q s =
          let same : n ≡ with_word j = cc in
          record { plain = p; word = ap (λ (x : Numeral). Some x.next) same ∙ sym q; value = ap (λ (x : Numeral). x.value) same }

      go : Is (plain (drop i t)) → StandsThen n
      go (is_true p) = after p (word_at w t digits_end) refl (rw p at e)
      go (is_false p) = let s : Some n ≡ None = rw p at e in absurd cc

  pub then_value : (n : Numeral) → Some n ≡ numeral_then w t i → n.value ≡ seen (front (drop i t))
  then_value n e = (stands_then n e).value

  module _ {A : Type 0} (k : ℕ → List ℕ → Option A) where
    pub then_yes : (n : Numeral) → Some n ≡ numeral_then w t i → number (drop i t) (λ v l. word w l (k v)) ≡ k (front (drop i t)) (drop n.next t)
    then_yes n e =
        let h = stands_then n e in
        number_yes t i digits_end (λ v l. word w l (k v)) h.plain refl
        ∙ word_read t w digits_end (k (front (drop i t))) n.next h.word

    pub then_no : None ≡ numeral_then w t i → number (drop i t) (λ v l. word w l (k v)) ≡ none
    then_no e = go (is (plain (drop i t)))
      where
        after : plain (drop i t) ≡ true → (o : code.Option ℕ) → word_at w t digits_end ≡ o → None ≡ option_map with_word o
            → number (drop i t) (λ v l. word w l (k v)) ≡ none
        after p None q s = number_yes t i digits_end (λ v l. word w l (k v)) p refl ∙ word_lacks t w digits_end (k (front (drop i t))) (sym q)
        after p (Some j) q s = absurd cc

        go : Is (plain (drop i t)) → number (drop i t) (λ v l. word w l (k v)) ≡ none
        go (is_true p) = after p (word_at w t digits_end) refl (rw p at e)
        go (is_false p) = number_no t i (λ v l. word w l (k v)) p

module _ (t : List ℕ) (i : ℕ) where
  abbrev at_end : Bool
  at_end = closes (bytes ")\n") t (i + digit_count (drop i t))

  pub last_value : (v : ℕ) → Some v ≡ numeral_last t i → v ≡ seen (front (drop i t))
  last_value v e = go (is (plain (drop i t)))
    where
      go : Is (plain (drop i t)) → v ≡ seen (front (drop i t))
      go (is_true p) =
          let s : Some v ≡ then_some at_end (seen (front (drop i t))) = rw p at e in
          passed_value at_end (seen (front (drop i t))) v s
      go (is_false p) = let s : Some v ≡ None = rw p at e in absurd cc

  module _ {A : Type 0} (a : ℕ → A) where
    pub last_yes : (v : ℕ) → Some v ≡ numeral_last t i → number (drop i t) (λ v l. word (bytes ")\n") l (whole (a v))) ≡ some (a (front (drop i t)))
    last_yes v e = go (is (plain (drop i t)))
      where
        go : Is (plain (drop i t)) → number (drop i t) (λ v l. word (bytes ")\n") l (whole (a v))) ≡ some (a (front (drop i t)))
        go (is_true p) =
            let s : Some v ≡ then_some at_end (seen (front (drop i t))) = rw p at e in
            number_yes t i (i + digit_count (drop i t)) (λ v l. word (bytes ")\n") l (whole (a v))) p refl
            ∙ ends_yes t (bytes ")\n") (i + digit_count (drop i t)) (a (front (drop i t))) (passed at_end (seen (front (drop i t))) v s)
        go (is_false p) = let s : Some v ≡ None = rw p at e in absurd cc

    pub last_no : None ≡ numeral_last t i → number (drop i t) (λ v l. word (bytes ")\n") l (whole (a v))) ≡ none
    last_no e = go (is (plain (drop i t)))
      where
        go : Is (plain (drop i t)) → number (drop i t) (λ v l. word (bytes ")\n") l (whole (a v))) ≡ none
        go (is_true p) =
            let s : None ≡ then_some at_end (seen (front (drop i t))) = rw p at e in
            number_yes t i (i + digit_count (drop i t)) (λ v l. word (bytes ")\n") l (whole (a v))) p refl
            ∙ ends_no t (bytes ")\n") (i + digit_count (drop i t)) (a (front (drop i t))) (failed_test at_end (seen (front (drop i t))) s)
        go (is_false p) = number_no t i (λ v l. word (bytes ")\n") l (whole (a v))) p

-- ---- a word, a number and the end of the line

module _ (t w : List ℕ) where
  pub lone_value : (v : ℕ) → Some v ≡ lone_numeral w t → v ≡ seen (front (drop (length w) t))
  lone_value v e = go (word_at w t 0) refl
    where
      go : (o : code.Option ℕ) → word_at w t 0 ≡ o → v ≡ seen (front (drop (length w) t))
      go None q = let s : Some v ≡ None = rw q at e in absurd cc
      go (Some j) q =
          let here : j ≡ length w = omega (arith, word_end t w 0 j (sym q)) in
          let s : Some v ≡ numeral_last t j = rw q at e in
          last_value t (length w) v (rw here at s)

  module _ {A : Type 0} (a : ℕ → A) where
    pub lone_yes : (v : ℕ) → Some v ≡ lone_numeral w t
        → word w t (λ l. number l (λ v l₁. word (bytes ")\n") l₁ (whole (a v)))) ≡ some (a (front (drop (length w) t)))
    lone_yes v e = go (word_at w t 0) refl
      where
        go : (o : code.Option ℕ) → word_at w t 0 ≡ o → word w t (λ l. number l (λ v l₁. word (bytes ")\n") l₁ (whole (a v)))) ≡ some (a (front (drop (length w) t)))
        go None q = let s : Some v ≡ None = rw q at e in absurd cc
        go (Some j) q =
            let here : j ≡ length w = omega (arith, word_end t w 0 j (sym q)) in
            let s : Some v ≡ numeral_last t j = rw q at e in
            word_read t w 0 (λ l. number l (λ v l₁. word (bytes ")\n") l₁ (whole (a v)))) j (sym q)
            ∙ last_yes t j a v s ∙ ap (λ (x : ℕ). some (a (front (drop x t)))) here

    pub lone_no : None ≡ lone_numeral w t → word w t (λ l. number l (λ v l₁. word (bytes ")\n") l₁ (whole (a v)))) ≡ none
    lone_no e = go (word_at w t 0) refl
      where
        go : (o : code.Option ℕ) → word_at w t 0 ≡ o → word w t (λ l. number l (λ v l₁. word (bytes ")\n") l₁ (whole (a v)))) ≡ none
        go None q = word_lacks t w 0 (λ l. number l (λ v l₁. word (bytes ")\n") l₁ (whole (a v)))) (sym q)
        go (Some j) q =
            word_read t w 0 (λ l. number l (λ v l₁. word (bytes ")\n") l₁ (whole (a v)))) j (sym q)
            ∙ last_no t j a (rw q at e)
