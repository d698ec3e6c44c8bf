-- Laws of tests, that is, of Bools.
--
-- In order: a test as two cases (`Is`), values that are not equal, equal tests; negation; conjunction: both parts, one that fails, one that excludes or implies the other;
-- alternatives; `not a || b` as an implication; a conjunction of several tests, both ways (`conjunction_at`, `all_conjunction`).
-- What a comparison of numbers says is in Comparisons, a test of every number in Every, how many numbers pass one in Counts.
-- Assumes nothing.
use Prim.Native.Nat.{ℕ, zero, suc}
use native.Mathlib.Omega.{arith}
use mathlib.Core.Path.{◌≡◌, refl, sym, subst}
use mathlib.Core.Logic.{◌⊎◌, inl, inr}
use mathlib.Core.Bool.{Bool, true, false, not, ◌&&◌, ◌||◌, beq}
use mathlib.Core.Option.{none, some}
use mathlib.Core.List.{List, [], ◌∷◌}
use lib.ListN.{get_or}
use lib.Dec.{T}

infixr 20 ◌and◌
-- ---- cases

-- a test has one of two outcomes: `go (is b)` goes by cases and keeps the equation
pub data Is (b : Bool) : Type 0 where
  is_true : b ≡ true → Is b
  is_false : b ≡ false → Is b

pub is : (b : Bool) → Is b
is true = is_true refl
is false = is_false refl

-- values that are not equal
pub clash : true ≡ false → ⊥
clash p = subst T p tt

pub none_some : {A : Type 0} {a : A} → none ≡ some a → ⊥
none_some e = let z : ◌≡◌ {A = ℕ} 0 1 = cc in omega arith

pub not-true : (b : Bool) → (b ≡ true → ⊥) → b ≡ false
not-true true h = absurd (h refl)
not-true false h = refl

-- two tests that imply each other are equal
pub test_ext : (a b : Bool) → (a ≡ true → b ≡ true) → (b ≡ true → a ≡ true) → a ≡ b
test_ext true b f g = sym (f refl)
test_ext false b f g = sym (not-true b (λ e. clash (sym (g e))))

-- the test of equality, both ways
pub beq_eq : (a b : Bool) → beq a b ≡ true → a ≡ b
beq_eq true true e = refl
beq_eq true false e = sym e
beq_eq false true e = e
beq_eq false false e = refl

pub eq_beq : (a b : Bool) → a ≡ b → beq a b ≡ true
eq_beq true true e = refl
eq_beq true false e = sym e
eq_beq false true e = e
eq_beq false false e = refl

-- ---- negation

pub not_is_true : (b : Bool) → b ≡ false → not b ≡ true
not_is_true true e = sym e
not_is_true false e = refl

pub false_of_not : (b : Bool) → not b ≡ true → b ≡ false
false_of_not true e = sym e
false_of_not false e = refl

-- a negation that fails
pub true_of_not : (b : Bool) → not b ≡ false → b ≡ true
true_of_not true e = refl
true_of_not false e = sym e

pub not_is_false : (b : Bool) → b ≡ true → not b ≡ false
not_is_false b e = rw e

-- ---- conjunction

-- a conjunction holds exactly if both parts do
pub both : (a b : Bool) → a ≡ true → b ≡ true → (a && b) ≡ true
both true b p q = q
both false b p q = p

pub left_of : (a b : Bool) → (a && b) ≡ true → a ≡ true
left_of true b p = refl
left_of false b p = p

pub right_of : (a b : Bool) → (a && b) ≡ true → b ≡ true
right_of true b p = p
right_of false b p = absurd (subst T (sym p) tt)

-- a conjunction that fails by one side
pub fails_left : (a b : Bool) → a ≡ false → (a && b) ≡ false
fails_left a b e = rw e

pub fails_right : (a b : Bool) → b ≡ false → (a && b) ≡ false
fails_right true b e = e
fails_right false b e = refl

-- one test excludes the other
pub never_both : (a b : Bool) → (a ≡ true → b ≡ false) → (a && b) ≡ false
never_both true b h = h refl
never_both false b h = refl

-- a test that is implied adds nothing
pub and_implied : (a b : Bool) → (b ≡ true → a ≡ true) → (a && b) ≡ b
and_implied true b f = refl
and_implied false true f = f refl
and_implied false false f = refl

-- nor does one that holds
pub and-true : (a b : Bool) → b ≡ true → (a && b) ≡ a
and-true true b e = e
and-true false b e = refl

-- ---- alternatives

-- an alternative holds by one side ..
pub or_left : (a b : Bool) → a ≡ true → (a || b) ≡ true
or_left true b e = refl
or_left false b e = absurd (clash (sym e))

pub or_right : (a b : Bool) → b ≡ true → (a || b) ≡ true
or_right true b e = refl
or_right false b e = e

pub or_cases : (a b : Bool) → (a || b) ≡ true → (a ≡ true) ⊎ (b ≡ true)
or_cases true b e = inl refl
or_cases false b e = inr e

-- .. and fails where neither part holds
pub neither_left : (a b : Bool) → (a || b) ≡ false → a ≡ false
neither_left true b e = e
neither_left false b e = refl

pub neither_right : (a b : Bool) → (a || b) ≡ false → b ≡ false
neither_right true b e = absurd (clash e)
neither_right false b e = e

-- ---- implication

-- `not a || b` says that a implies b, both ways
pub implied : (a b : Bool) → (not a || b) ≡ true → a ≡ true → b ≡ true
implied true b e h = e
implied false b e h = absurd (clash (sym h))

pub implies : (a b : Bool) → (a ≡ true → b ≡ true) → (not a || b) ≡ true
implies true b h = h refl
implies false b h = refl

-- ---- a conjunction of several tests

-- a && b && .. of a list, bracketed as it is written
abbrev chain : Bool → List Bool → Bool
chain a [] = a
chain a (b ∷ l) = chain (a && b) l

abbrev pub conjunction : List Bool → Bool
conjunction [] = true
conjunction (a ∷ l) = chain a l

-- each test of a list holds
pub data AllTrue : List Bool → Type 0 where
  end : AllTrue []
  ◌and◌ : {b : Bool} {l : List Bool} → b ≡ true → AllTrue l → AllTrue (b ∷ l)

chain_all : (a : Bool) (l : List Bool) → chain a l ≡ true → AllTrue (a ∷ l)
chain_all a [] e = e and end
chain_all a (b ∷ l) e = go (chain_all (a && b) l e)
  where
    go : AllTrue ((a && b) ∷ l) → AllTrue (a ∷ b ∷ l)
    go (p and w) = left_of a b p and right_of a b p and w

conjunction_all : (l : List Bool) → conjunction l ≡ true → AllTrue l
conjunction_all [] e = end
conjunction_all (a ∷ l) e = chain_all a l e

all_at : (l : List Bool) → AllTrue l → (i : ℕ) → get_or l i true ≡ true
all_at [] end i = refl
all_at (b ∷ l) (e and w) zero = e
all_at (b ∷ l) (e and w) (suc i) = all_at l w i

-- a conjunction holds exactly if each of its tests does: from the conjunction the test at place i, from the tests the conjunction
pub conjunction_at : (l : List Bool) → conjunction l ≡ true → (i : ℕ) → get_or l i true ≡ true
conjunction_at l e i = all_at l (conjunction_all l e) i

all_chain : (a : Bool) (l : List Bool) → a ≡ true → AllTrue l → chain a l ≡ true
all_chain a [] e end = e
all_chain a (b ∷ l) e (p and w) = all_chain (a && b) l (both a b e p) w

pub all_conjunction : (l : List Bool) → AllTrue l → conjunction l ≡ true
all_conjunction [] end = refl
all_conjunction (a ∷ l) (e and w) = all_chain a l e w
