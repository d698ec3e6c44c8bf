-- Laws of a row whose free cells are made empty, one after the other: none is yet, one more, all (`emptying_..`).
-- Assumes nothing.
use Prim.Native.Nat.{ℕ, ◌≤◌, ◌<◌}
use native.Mathlib.Omega.{arith}
use mathlib.Core.Path.{◌≡◌, refl, sym, ◌∙◌, ap}
use mathlib.Core.Bool.{Bool, true, false, not, ◌&&◌, cond, and-true, and-false}
use mathlib.Core.List.{List}
use lib.ListN.{length, set}
use lib.Dec.{eqb}
use Rattle.laws.specs.Lists.{at}
use Rattle.laws.proofs.Tests.{Is, is_true, is_false, is, left_of}
use Rattle.laws.proofs.Comparisons.{eqb_self, eqb_no}
use Rattle.placing.specs.method.Rule.{RowWritten, emptied}
use Rattle.placing.proofs.rule.row.RowWritten.{emptied_free, row_as_it_was, row_same, row_set}

-- u is t with the free ones of the n cells of the row made empty, but for those of g, which are still to come
pub record Emptying (t : List ℕ) (n : ℕ) (f : ℕ → Bool) (u : List ℕ) (g : ℕ → Bool) : Type 0 where
  pub row : RowWritten t u n (λ b. cond (g b) (at t b) (emptied f (at t) b))
  pub among : (b : ℕ) → g b ≡ true → f b ≡ true

module _ (t : List ℕ) (n : ℕ) (f : ℕ → Bool) where
  abbrev was : ℕ → ℕ
  was b = at t b

  abbrev halfway : (ℕ → Bool) → ℕ → ℕ
  halfway g b = cond (g b) (was b) (emptied f was b)

  pub emptying_none : Emptying t n f t f
  emptying_none = record { row = row_as_it_was t (halfway f) n (λ b h. go b (is (f b))); among = λ b e. e }
    where
      go : (b : ℕ) → Is (f b) → was b ≡ halfway f b
      go b (is_true e) = rw e refl
      go b (is_false e) = rw e refl

  pub emptying_all : (u : List ℕ) (g : ℕ → Bool) → Emptying t n f u g → ((b : ℕ) → b < n → g b ≡ false) → RowWritten t u n (emptied f was)
  emptying_all u g done none =
      row_same t (halfway g) u n (emptied f was) done.row (λ b h. ap (λ (x : Bool). cond x (was b) (emptied f was b)) (none b h))

  -- one that was still to come is not any more
  module _ (u : List ℕ) (g g' : ℕ → Bool) (z : ℕ) (done : Emptying t n f u g) (here : g z ≡ true) (without : (b : ℕ) → g' b ≡ (g b && not (eqb b z))) where
    other : (b : ℕ) → (b ≡ z → ⊥) → halfway g b ≡ halfway g' b
    other b ne =
        let same : g' b ≡ g b = without b ∙ ap (λ (x : Bool). g b && not x) (eqb_no b z ne) ∙ and-true (g b) in
        ap (λ (x : Bool). cond x (was b) (emptied f was b)) (sym same)

    still : (b : ℕ) → g' b ≡ true → f b ≡ true
    still b e = done.among b (left_of (g b) (not (eqb b z)) (sym (without b) ∙ e))

    -- it is emptied
    pub emptying_next : z < n → n ≤ length t → Emptying t n f (set u z 0) g'
    emptying_next l short =
        record { row = row_set t (halfway g) u n z 0 (halfway g') done.row l short (sym gone) (λ b h ne. other b ne); among = still }
      where
        gone : halfway g' z ≡ 0
        gone =
            let off : g' z ≡ false = without z ∙ ap (λ (x : Bool). g z && not x) (eqb_self z) ∙ and-false (g z) in
            ap (λ (x : Bool). cond x (was z) (emptied f was z)) off ∙ emptied_free f was z (done.among z here)

    -- it is none of the n
    pub emptying_past : n ≤ z → Emptying t n f u g'
    emptying_past l =
        record { row = row_same t (halfway g) u n (halfway g') done.row (λ b h. other b (λ e. omega (arith, e, h, l))); among = still }
