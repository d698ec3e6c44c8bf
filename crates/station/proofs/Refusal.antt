-- The causes: their numbers, and the first that holds.
--
-- In order: a cause's number has at most two digits and is not 0 (`number_small`, `number_some`); of `try` and `first_of`: no cause (`first_of_none`), one cause at the
-- front (`passed`, `first_none`, `first_some`); two lists of causes one after the other (`append_none`, `append_some`, `append_left_none`); a refusal that only the last
-- cause gives (`Never`, `last_cause`, `cause_last`, `never_first`).
-- Assumes nothing.
use Prim.Native.Nat.{◌<◌}
use native.Mathlib.Omega.{arith}
use mathlib.Core.Path.{◌≡◌, refl, sym, ◌∙◌, ap}
use mathlib.Core.Logic.{◌⊎◌, inl, inr}
use mathlib.Core.Bool.{Bool, true, false}
use mathlib.Core.Option.{Option, none, some}
use mathlib.Core.List.{List, [], ◌∷◌, ◌++◌}
use Rattle.laws.proofs.Tests.{none_some}
use Rattle.station.specs.Refusal.{Refusal, no_form, out_of_limits, out_of_place, number_used, mandatory_not_feasible, clock_back, call_not_feasible, too_short, too_many, text_too_long, not_well_formed, no_row, number_of, try, first_of}

-- ---- the numbers

pub number_small : (r : Refusal) → number_of r < 100
number_small no_form = omega arith
number_small out_of_limits = omega arith
number_small out_of_place = omega arith
number_small number_used = omega arith
number_small mandatory_not_feasible = omega arith
number_small clock_back = omega arith
number_small call_not_feasible = omega arith
number_small too_short = omega arith
number_small too_many = omega arith
number_small text_too_long = omega arith
number_small not_well_formed = omega arith
number_small no_row = omega arith

pub number_some : (r : Refusal) → number_of r ≡ 0 → ⊥
number_some no_form e = omega (arith, e)
number_some out_of_limits e = omega (arith, e)
number_some out_of_place e = omega (arith, e)
number_some number_used e = omega (arith, e)
number_some mandatory_not_feasible e = omega (arith, e)
number_some clock_back e = omega (arith, e)
number_some call_not_feasible e = omega (arith, e)
number_some too_short e = omega (arith, e)
number_some too_many e = omega (arith, e)
number_some text_too_long e = omega (arith, e)
number_some not_well_formed e = omega (arith, e)
number_some no_row e = omega (arith, e)

-- ---- the first cause that holds

-- where nothing is tried nothing is refused
pub first_of_none : first_of [] ≡ none
unfolding first_of
first_of_none = refl

-- a cause that does not hold is passed over
pub passed : (r : Refusal) (b : Bool) (cs : List (Option Refusal)) → b ≡ false → first_of (try r b ∷ cs) ≡ first_of cs
unfolding first_of
passed r b cs e = rw e

-- no cause holds: the first does not, and none of the others
pub first_none : (r : Refusal) (b : Bool) (cs : List (Option Refusal)) → first_of (try r b ∷ cs) ≡ none → (b ≡ false) × (first_of cs ≡ none)
unfolding first_of
first_none r true cs e = absurd (none_some (sym e))
first_none r false cs e = (refl, e)

-- the refusal is the first cause's, which holds, or that of the others
pub first_some : (r : Refusal) (b : Bool) (cs : List (Option Refusal)) {q : Refusal} → first_of (try r b ∷ cs) ≡ some q
    → ((b ≡ true) × (q ≡ r)) ⊎ ((b ≡ false) × (first_of cs ≡ some q))
unfolding first_of
first_some r true cs e = inl (refl, cc)
first_some r false cs e = inr (refl, e)

-- two lists of causes: the second counts where no cause of the first holds
pub append_none : (cs ds : List (Option Refusal)) → first_of cs ≡ none → first_of (cs ++ ds) ≡ first_of ds
unfolding first_of
append_none [] ds e = refl
append_none (none ∷ cs) ds e = append_none cs ds e
append_none (some r ∷ cs) ds e = absurd (none_some (sym e))

pub append_some : (cs ds : List (Option Refusal)) (r : Refusal) → first_of cs ≡ some r → first_of (cs ++ ds) ≡ some r
unfolding first_of
append_some [] ds r e = absurd (none_some e)
append_some (none ∷ cs) ds r e = append_some cs ds r e
append_some (some q ∷ cs) ds r e = e

-- where none of all holds, none of the first list does
pub append_left_none : (cs ds : List (Option Refusal)) → first_of (cs ++ ds) ≡ none → first_of cs ≡ none
unfolding first_of
append_left_none [] ds e = refl
append_left_none (none ∷ cs) ds e = append_left_none cs ds e
append_left_none (some r ∷ cs) ds e = absurd (none_some (sym e))

-- ---- a refusal that only the last cause gives

-- none of the causes tried gives the refusal r
pub data Never (r : Refusal) : List (Option Refusal) → Type 0 where
  end : Never r []
  skip : (c : Refusal) (b : Bool) {cs : List (Option Refusal)} → (number_of c ≡ number_of r → ⊥) → Never r cs → Never r (try c b ∷ cs)

-- r comes exactly if none of the causes before holds and its own does
pub last_cause : (r : Refusal) {cs : List (Option Refusal)} (b : Bool) → Never r cs → first_of (cs ++ (try r b ∷ [])) ≡ some r
    → (first_of cs ≡ none) × (b ≡ true)
unfolding first_of
last_cause r b end e = go (first_some r b [] e)
  where
    go : ((b ≡ true) × (r ≡ r)) ⊎ ((b ≡ false) × (first_of [] ≡ some r)) → (first_of [] ≡ none) × (b ≡ true)
    go (inl p) = (refl, p.0)
    go (inr p) = absurd (none_some p.1)
last_cause r b (skip c d {cs = cs} ne n) e = go (λ q. last_cause r b n q) (first_some c d (cs ++ (try r b ∷ [])) e)
  where
    go : (first_of (cs ++ (try r b ∷ [])) ≡ some r → (first_of cs ≡ none) × (b ≡ true))
        → ((d ≡ true) × (r ≡ c)) ⊎ ((d ≡ false) × (first_of (cs ++ (try r b ∷ [])) ≡ some r)) → (first_of (try c d ∷ cs) ≡ none) × (b ≡ true)
    go ih (inl p) = absurd (ne (sym (ap number_of p.1)))
    go ih (inr p) = let w = ih p.1 in (passed c d cs p.0 ∙ w.0, w.1)

pub cause_last : (cs : List (Option Refusal)) (r : Refusal) (b : Bool) → first_of cs ≡ none → b ≡ true → first_of (cs ++ (try r b ∷ [])) ≡ some r
unfolding first_of
cause_last cs r b e p = append_none cs (try r b ∷ []) e ∙ (rw p refl)

-- what is never given is not the first of the causes
pub never_first : {r : Refusal} {cs : List (Option Refusal)} → Never r cs → first_of cs ≡ some r → ⊥
unfolding first_of
never_first {r = r} end e = none_some e
never_first {r = r} (skip c b {cs = cs} ne n) e = go (λ q. never_first n q) (first_some c b cs e)
  where
    go : (first_of cs ≡ some r → ⊥) → ((b ≡ true) × (r ≡ c)) ⊎ ((b ≡ false) × (first_of cs ≡ some r)) → ⊥
    go ih (inl p) = ne (sym (ap number_of p.1))
    go ih (inr p) = ih p.1
