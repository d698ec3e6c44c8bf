-- Laws of stretches that are read one after the other, for the code that adds up their mask.
--
-- In order: a shifted one (`shift_one`); the mask of one stretch as the code makes it (`mask_parts`, `mask_parts_fit`, `low_high`); one more
-- stretch fits (`more_fits`, `Masked`, `more`, `start_masked`, `stretched_masked`, `more_masked`); the stretches so far and those that are left (`folded`): at the start (`folded_start`), one
-- more (`folded_next`), the last (`folded_last`), and so by the bracket that was read (`read_none`, `read_next`,
-- `read_last`).
-- Assumes nothing.
use Prim.Native.Nat.{ℕ, suc, ◌+◌, ◌-◌, ◌*◌, ◌%◌, ◌^◌, ◌≤◌, ◌<◌}
use native.Mathlib.Omega.{arith}
use native.Mathlib.Nat.{pow-suc}
use mathlib.Core.Path.{◌≡◌, refl, sym, ◌∙◌, ap}
use mathlib.Core.Bool.{Bool, true, false, ◌&&◌}
use mathlib.Core.Option as math
use mathlib.Core.Option.{none, some}
use Rattle.std.specs.Prelude.{Option, Some, None, option_map}
use Rattle.std.specs.Bool.{then_some}
use mathlib.Core.List.{List}
use lib.ListN.{drop}
use lib.Dec.{leb}
use lib.Pow.{pow_pos, pow_mono}
use Rattle.laws.proofs.Tests.{Is, is, is_true, is_false, test_ext}
use Rattle.station.specs.declared.brackets.Stretches.{Stretches}
use Rattle.station.specs.Form.{Pairs, last, also, read_brackets}
use Rattle.station.specs.Writing.{mask_to, mask_of, ordered}
use Rattle.station.specs.declared.brackets.Bracket.{Bracket}
use Rattle.station.specs.method.Bracket.{no_stretch, MaskedSoFar, stretched, busy_mask_in, BracketAt, no_bracket_lem, last_bracket, next_bracket}
use Rattle.station.proofs.Stretches.{Stretch, stretch_of, of_stretch}
use Rattle.station.specs.Jobs.{seen}

-- ---- the mask of one stretch

pub shift_one : (k : ℕ) → k < 64 → (1 * 2 ^ k) % 2 ^ 64 ≡ 2 ^ k
shift_one k h =
    let l : suc k ≤ 64 = h in
    let m : 2 ^ suc k ≤ 2 ^ 64 = pow_mono l in
    omega (arith, pow-suc 2 k, pow_pos k)

module _ (f t : ℕ) (low : 1 ≤ f) (up : f ≤ t) where
  pub low_high : 2 ^ (f - 1) ≤ 2 ^ (t - 1)
  low_high = let l : f - 1 ≤ t - 1 = omega arith in pow_mono l

  doubled : 2 ^ t ≡ 2 ^ (t - 1) * 2
  doubled = let e : t ≡ suc (t - 1) = omega arith in ap (λ (k : ℕ). 2 ^ k) e ∙ pow-suc 2 (t - 1)

  pub mask_parts : 2 ^ (t - 1) - 2 ^ (f - 1) + 2 ^ (t - 1) ≡ mask_to f t
  mask_parts = omega (arith, low_high, doubled)

  pub mask_parts_fit : t ≤ 64 → 2 ^ (t - 1) - 2 ^ (f - 1) + 2 ^ (t - 1) < 2 ^ 64
  mask_parts_fit h =
      let m : 2 ^ t ≤ 2 ^ 64 = pow_mono h in
      omega (arith, low_high, doubled, pow_pos (f - 1))

-- one more stretch lies below the slot in which the next may begin
more_below : (m lo f t : ℕ) → 1 ≤ lo → lo ≤ f → f ≤ t → m < 2 ^ (lo - 1) → m + mask_to f t < 2 ^ t
more_below m lo f t l h u b =
    let e : lo - 1 ≤ f - 1 = omega arith in
    let x : 2 ^ (lo - 1) ≤ 2 ^ (f - 1) = pow_mono e in
    let d : f - 1 ≤ t = omega arith in
    let y : 2 ^ (f - 1) ≤ 2 ^ t = pow_mono d in
    omega arith

pub more_fits : (s : Stretches) (f t : ℕ) → MaskedSoFar s → s.from ≤ f → f ≤ t → t ≤ 64 → s.mask + mask_to f t < 2 ^ 64
more_fits s f t g h u l =
    let m : 2 ^ t ≤ 2 ^ 64 = pow_mono l in
    omega (arith, more_below s.mask s.from f t g.low h u g.below)

-- what is masked so far, where all stretches are in order
abbrev pub Masked : Option Stretches → Type 0
Masked None = Unit {0}
Masked (Some s) = MaskedSoFar s

-- one more stretch, where all before it are in order
abbrev pub more : ℕ → Option Stretches → ℕ → ℕ → Option Stretches
more hi None f t = None
more hi (Some s) f t = stretched hi s f t

pub start_masked : MaskedSoFar no_stretch
start_masked = record { low = omega arith; high = omega arith; below = omega arith }

pub stretched_masked : (hi : ℕ) (s : Stretches) (f t : ℕ) → hi ≤ 64 → MaskedSoFar s → Masked (stretched hi s f t)
stretched_masked hi s f t h g = go (is (leb s.from f && leb f t && leb t hi))
  where
    go : Is (leb s.from f && leb f t && leb t hi) → Masked (stretched hi s f t)
    go (is_true e) =
        let a : Stretch s.from hi f t = stretch_of s.from hi f t e in
        let same : t + 2 - 1 ≡ suc t = omega arith in
        let b : s.mask + mask_to f t < 2 ^ t = more_below s.mask s.from f t g.low a.low a.up g.below in
        let below : s.mask + mask_to f t < 2 ^ (t + 2 - 1) = rw same (omega (arith, pow-suc 2 t)) in
        let high : t ≤ hi = a.high in
        rw e (record { low = omega arith; high = omega arith; below = below })
    go (is_false e) = rw e tt

pub more_masked : (hi : ℕ) (x : Option Stretches) (f t : ℕ) → hi ≤ 64 → Masked x → Masked (more hi x f t)
more_masked hi None f t h g = g
more_masked hi (Some s) f t h g = stretched_masked hi s f t h g

-- ---- the stretches so far, and those that are left

-- what the whole line makes
abbrev pub folded : ℕ → Option Stretches → math.Option Pairs → Option (Option ℕ)
folded hi s none = None
folded hi None (some p) = Some None
folded hi (Some s) (some p) = Some (then_some (ordered s.from hi p) (s.mask + mask_of p))

pub folded_start : (hi : ℕ) (o : math.Option Pairs) → folded hi (Some no_stretch) o ≡ busy_mask_in hi o
folded_start hi none = refl
folded_start hi (some p) = let e : 0 + mask_of p ≡ mask_of p = omega arith in rw e refl

-- a stretch in order is seen as it is, and one that is not is seen not to be
module _ (lo hi m n : ℕ) (low : lo ≤ 66) (high : hi ≤ 64) where
  abbrev test : ℕ → ℕ → Bool
  test f t = leb lo f && leb f t && leb t hi

  seen_test : test (seen m) (seen n) ≡ test m n
  seen_test =
      test_ext (test (seen m) (seen n)) (test m n)
      (λ e. let a : Stretch lo hi (seen m) (seen n) = stretch_of lo hi (seen m) (seen n) e in
      of_stretch lo hi m n (omega (arith, a.low)) (omega (arith, a.up, a.high)) (omega (arith, a.high)))
      (λ e. let a : Stretch lo hi m n = stretch_of lo hi m n e in
      of_stretch lo hi (seen m) (seen n) (omega (arith, a.low, a.up, a.high)) (omega (arith, a.up, a.high)) (omega (arith, a.high)))

module _ (hi m n : ℕ) (high : hi ≤ 64) where
  -- one more stretch, by its numbers and by what is seen of them
  seen_stretched : (s : Stretches) → MaskedSoFar s → stretched hi s (seen m) (seen n) ≡ stretched hi s m n
  seen_stretched s g = go (is (leb s.from m && leb m n && leb n hi))
    where
      same : (leb s.from (seen m) && leb (seen m) (seen n) && leb (seen n) hi) ≡ (leb s.from m && leb m n && leb n hi)
      same = seen_test s.from hi m n g.high high

      go : Is (leb s.from m && leb m n && leb n hi) → stretched hi s (seen m) (seen n) ≡ stretched hi s m n
      go (is_true e) =
          let a : Stretch s.from hi m n = stretch_of s.from hi m n e in
          let x : seen m ≡ m = omega (arith, a.up, a.high) in
          let y : seen n ≡ n = omega (arith, a.high) in
          rw (x, y) refl
      go (is_false e) = rw (same, e) refl

  pub folded_next : (x : Option Stretches) → Masked x → (o : math.Option Pairs) → folded hi x (also m n o) ≡ folded hi (more hi x (seen m) (seen n)) o
  unfolding ordered mask_of
  folded_next x g none = refl
  folded_next None g (some p) = refl
  folded_next (Some s) g (some p) = rw (seen_stretched s g) (go (leb s.from m && leb m n && leb n hi))
    where
      go : (b : Bool)
          → Some (then_some (b && ordered (n + 2) hi p) (s.mask + (mask_to m n + mask_of p)))
          ≡ folded hi (then_some b (record { from = n + 2; mask = s.mask + mask_to m n })) (some p)
      go true = let e : s.mask + (mask_to m n + mask_of p) ≡ s.mask + mask_to m n + mask_of p = omega arith in rw e refl
      go false = refl

  pub folded_last : (x : Option Stretches) → Masked x
      → folded hi x (some (last m n)) ≡ Some (option_map (λ (s : Stretches). s.mask) (more hi x (seen m) (seen n)))
  unfolding ordered mask_of
  folded_last None g = refl
  folded_last (Some s) g = rw (seen_stretched s g) (go (leb s.from m && leb m n && leb n hi))
    where
      go : (b : Bool) → Some (then_some b (s.mask + mask_to m n))
          ≡ Some (option_map (λ (s : Stretches). s.mask) (then_some b (record { from = n + 2; mask = s.mask + mask_to m n })))
      go true = refl
      go false = refl

-- ---- by the bracket that was read

module _ (hi : ℕ) (x : Option Stretches) {t : List ℕ} {at : ℕ} where
  pub read_none : BracketAt t at None → None ≡ folded hi x (read_brackets (drop at t))
  read_none (no_bracket_lem q e) = rw e refl
  read_none (last_bracket m n q i e) = absurd cc
  read_none (next_bracket m n k q h i e) = absurd cc

module _ (hi : ℕ) (x : Option Stretches) (high : hi ≤ 64) (g : Masked x) {t : List ℕ} {at : ℕ} {b : Bracket} where
  pub read_last : BracketAt t at (Some b) → b.next ≡ None
      → Some (option_map (λ (s : Stretches). s.mask) (more hi x b.first b.second)) ≡ folded hi x (read_brackets (drop at t))
  read_last (no_bracket_lem q e) y = absurd cc
  read_last (last_bracket m n q i e) y =
      let same : b ≡ record { first = seen m; second = seen n; next = None } = cc in
      rw (e, same) (sym (folded_last hi m n high x g))
  read_last (next_bracket m n k q h i e) y =
      let same : b ≡ record { first = seen m; second = seen n; next = Some k } = cc in
      let off : None ≡ Some k = sym y ∙ ap (λ (c : Bracket). c.next) same in
      absurd cc

  pub read_next : (next : ℕ) → BracketAt t at (Some b) → b.next ≡ Some next
      → folded hi (more hi x b.first b.second) (read_brackets (drop next t)) ≡ folded hi x (read_brackets (drop at t))
  read_next next (no_bracket_lem q e) y = absurd cc
  read_next next (last_bracket m n q i e) y =
      let same : b ≡ record { first = seen m; second = seen n; next = None } = cc in
      let off : Some next ≡ None = sym y ∙ ap (λ (c : Bracket). c.next) same in
      absurd cc
  read_next next (next_bracket m n k q h i e) y =
      let same : b ≡ record { first = seen m; second = seen n; next = Some k } = cc in
      let on : Some next ≡ Some k = sym y ∙ ap (λ (c : Bracket). c.next) same in
      let here : next ≡ k = cc in
      rw (e, same, here) (sym (folded_next hi m n high x g (read_brackets (drop k t))))
