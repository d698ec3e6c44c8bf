-- Lists, element by element: what every element has, and what every two have; and lists of numbers as functions.
--
-- In order: `All` and `Pairwise`; a property that follows; lists one after the other; the element at a place, and two of them; the list of a function's first values (`tabulate`),
-- and that past its end a list has nothing (`at_past`). What is stored into a list is in Stores.
-- Assumes nothing.
use Prim.Native.Nat.{ℕ, zero, suc, ◌≤◌, ◌<◌}
use native.Mathlib.Omega.{arith}
use mathlib.Core.Path.{◌≡◌, refl, ap, ap₂}
use mathlib.Core.List.{List, [], ◌∷◌, ◌++◌}
use lib.ListN.{length, get_or, get_or-eq_default}
use Rattle.laws.specs.Lists.{at, tabulate}

pub data All {A : Type 0} (P : A → Type 0) : List A → Type 0 where
  none : All P []
  more : {a : A} {l : List A} → P a → All P l → All P (a ∷ l)

-- of two elements the relation holds with the earlier one first
pub data Pairwise {A : Type 0} (R : A → A → Type 0) : List A → Type 0 where
  empty : Pairwise R []
  first : {a : A} {l : List A} → All (R a) l → Pairwise R l → Pairwise R (a ∷ l)

module _ {A : Type 0} where
  pub all_imp : {P Q : A → Type 0} {l : List A} → ((a : A) → P a → Q a) → All P l → All Q l
  all_imp f none = none
  all_imp f (more {a} p w) = more (f a p) (all_imp f w)

  pub all_append : {P : A → Type 0} {l k : List A} → All P l → All P k → All P (l ++ k)
  all_append none v = v
  all_append (more p w) v = more p (all_append w v)

  pub all_at : {P : A → Type 0} {l : List A} (d : A) → All P l → (i : ℕ) → i < length l → P (get_or l i d)
  all_at d none i h = absurd (omega arith)
  all_at d (more p w) zero h = p
  all_at d (more p w) (suc i) h = all_at d w i (omega arith)

  -- another relation that follows for elements with a property
  pub pairwise_imp : {P : A → Type 0} {R S : A → A → Type 0} {l : List A}
      → ((a b : A) → P a → P b → R a b → S a b) → All P l → Pairwise R l → Pairwise S l
  pairwise_imp f none empty = empty
  pairwise_imp {P} {R} {S} f (more {a} {l} p w) (first r q) = first (each w r) (pairwise_imp f w q)
    where
      each : {k : List A} → All P k → All (R a) k → All (S a) k
      each none none = none
      each (more {a = b} u v) (more s c) = more (f a b p u s) (each v c)

  pub pairwise_append : {R : A → A → Type 0} {l k : List A} → Pairwise R l → Pairwise R k → All (λ a. All (R a) k) l → Pairwise R (l ++ k)
  pairwise_append empty q c = q
  pairwise_append (first a p) q (more b c) = first (all_append a b) (pairwise_append p q c)

  pub pairwise_at : {R : A → A → Type 0} {l : List A} (d : A) → Pairwise R l
      → (i j : ℕ) → i < j → j < length l → R (get_or l i d) (get_or l j d)
  pairwise_at d empty i j h n = absurd (omega arith)
  pairwise_at d (first a p) i zero h n = absurd (omega arith)
  pairwise_at d (first a p) zero (suc j) h n = all_at d a j (omega arith)
  pairwise_at d (first a p) (suc i) (suc j) h n = pairwise_at d p i j (omega arith) (omega arith)

-- ---- lists of numbers as functions

pub length_tabulate : (n : ℕ) (f : ℕ → ℕ) → length (tabulate n f) ≡ n
unfolding tabulate
length_tabulate zero f = refl
length_tabulate (suc n) f = ap suc (length_tabulate n (λ i. f (suc i)))

pub at_tabulate : (n : ℕ) (f : ℕ → ℕ) (i : ℕ) → i < n → at (tabulate n f) i ≡ f i
unfolding tabulate
at_tabulate zero f i h = absurd (let l : i < 0 = h in omega arith)
at_tabulate (suc n) f zero h = refl
at_tabulate (suc n) f (suc i) h = at_tabulate n (λ j. f (suc j)) i (omega arith)

pub tabulate_ext : (n : ℕ) (f g : ℕ → ℕ) → ((i : ℕ) → i < n → f i ≡ g i) → tabulate n f ≡ tabulate n g
unfolding tabulate
tabulate_ext zero f g e = refl
tabulate_ext (suc n) f g e = ap₂ ◌∷◌ (e 0 (omega arith)) (tabulate_ext n (λ i. f (suc i)) (λ i. g (suc i)) (λ i l. e (suc i) (omega arith)))

pub at_past : (l : List ℕ) (i : ℕ) → length l ≤ i → at l i ≡ 0
at_past l i h = get_or-eq_default l 0 h
