-- What a chain answers of a slice's elements, as a test of the numbers below its length: `all` (`every_by_all`) and `any` (`every_by_any`).
-- Assumes nothing.
use Prim.Native.Nat.{ℕ, ◌<◌}
use native.Mathlib.Omega.{arith}
use mathlib.Core.Path.{◌≡◌, sym, ap}
use mathlib.Core.Bool.{Bool, true, false, not}
use mathlib.Core.List.{List}
use lib.ListN.{length, get_or}
use Rattle.std.specs.Bool.{MatchBool}
use Rattle.std.specs.List.{AllWithin, HoldsAt}
use Rattle.laws.specs.Sums.{every}
use Rattle.laws.proofs.Every.{all_every, every_not}

module _ {X : Type 0} (d : X) (Yes No : X → Type 0) (xs : List X) (n : ℕ) (size : length xs ≡ n) (p : ℕ → Bool)
    (yes : (k : ℕ) → k < n → Yes (get_or xs k d) → p k ≡ true) (no : (k : ℕ) → k < n → No (get_or xs k d) → p k ≡ false) where
  every_each : AllWithin Yes xs 0 (length xs) → every n p ≡ true
  every_each all = all_every n p (λ k l. yes k l (all k d (omega arith) (omega (arith, size, l))))

  every_one : (k : ℕ) × (k < length xs) × HoldsAt No xs k → every n p ≡ false
  every_one one = let l : one.0 < n = omega (arith, size, one.1) in every_not n p one.0 l (no one.0 l (one.2 d))

  pub every_by_all : (r : Bool) → MatchBool r (AllWithin Yes xs 0 (length xs)) ((k : ℕ) × (k < length xs) × HoldsAt No xs k) → r ≡ every n p
  every_by_all true m = sym (every_each m)
  every_by_all false m = sym (every_one m)

  pub every_by_any : (r : Bool) → MatchBool r ((k : ℕ) × (k < length xs) × HoldsAt No xs k) (AllWithin Yes xs 0 (length xs)) → r ≡ not (every n p)
  every_by_any true m = sym (ap not (every_one m))
  every_by_any false m = sym (ap not (every_each m))
