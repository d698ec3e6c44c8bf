-- Laws of the digits of a number, two by two.
--
-- In order: a number of two digits (`digits_two`); a number from 100 on, its last two digits apart (`digits_hundreds`); the place after a number (`after_number`).
-- Assumes nothing.
use Prim.Native.Nat.{ℕ, ◌+◌, ◌/◌, ◌%◌, ◌^◌, ◌≤◌, ◌<◌}
use native.Mathlib.Omega.{arith}
use mathlib.Core.Path.{◌≡◌, refl}
use mathlib.Core.List.{List, [], ◌∷◌, ◌++◌, append_assoc}
use lib.ListN.{length}
use Rattle.station.specs.Decimal.{digits}
use Rattle.station.proofs.Decimal.{digits_small, digits_step, digits_length}
use Rattle.station.specs.Wrote.{moved, Wrote}
use Rattle.station.proofs.output.Runs.{wrote_length}

pub digits_two : (n : ℕ) → 10 ≤ n → n < 100 → digits n ≡ (48 + n / 10) ∷ (48 + n % 10) ∷ []
digits_two n l h = rw (digits_step n l, digits_small (n / 10) (omega arith)) refl

pub digits_hundreds : (n : ℕ) → 100 ≤ n → digits n ≡ digits (n / 100) ++ ((48 + n % 100 / 10) ∷ (48 + n % 100 % 10) ∷ [])
digits_hundreds n l =
    let e : n / 10 / 10 ≡ n / 100 = omega arith in
    let t : n / 10 % 10 ≡ n % 100 / 10 = omega arith in
    let u : n % 10 ≡ n % 100 % 10 = omega arith in
    rw (digits_step n (omega arith), digits_step (n / 10) (omega arith), e, t, u, append_assoc) refl

pub after_number : (n : ℕ) {l : List ℕ} {at : ℕ} {l₁ : List ℕ} {r : ℕ} → n < 10 ^ 20 → Wrote l at (digits n) l₁ r → (r ≤ at + 20) × (length l₁ ≡ length l)
unfolding moved
after_number n h w = (omega (arith, w.position, digits_length 20 n (omega arith) h), wrote_length w)
