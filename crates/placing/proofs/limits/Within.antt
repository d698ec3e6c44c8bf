-- Laws of the limits: a law for each answer of `in_limits`, and what is known within them.
-- Assumes nothing.
use Prim.Native.Nat.{ℕ, ◌≤◌, ◌<◌}
use mathlib.Core.Path.{◌≡◌, ◌∙◌, ap}
use mathlib.Core.Bool.{Bool, true, false, ◌&&◌}
use lib.Dec.{leb}
use Rattle.laws.proofs.Tests.{both, left_of, right_of, fails_left, fails_right}
use Rattle.laws.proofs.Comparisons.{le_of, leb_yes, leb_no}
use Rattle.placing.specs.method.Limits.{sizes_in_limits}

module _ (slots bridges n cells : ℕ) where
  abbrev p : Bool
  p = leb slots 64 && leb bridges 8

  abbrev q : Bool
  q = p && leb n 32

  pub slots_over : 64 < slots → sizes_in_limits slots bridges n cells ≡ false
  unfolding sizes_in_limits
  slots_over l = fails_left q (leb 512 cells) (fails_left p (leb n 32) (fails_left (leb slots 64) (leb bridges 8) (leb_no slots 64 l)))

  pub bridges_over : 8 < bridges → sizes_in_limits slots bridges n cells ≡ false
  unfolding sizes_in_limits
  bridges_over l = fails_left q (leb 512 cells) (fails_left p (leb n 32) (fails_right (leb slots 64) (leb bridges 8) (leb_no bridges 8 l)))

  pub lines_over : 32 < n → sizes_in_limits slots bridges n cells ≡ false
  unfolding sizes_in_limits
  lines_over l = fails_left q (leb 512 cells) (fails_right p (leb n 32) (leb_no n 32 l))

  pub all_but_cells : slots ≤ 64 → bridges ≤ 8 → n ≤ 32 → sizes_in_limits slots bridges n cells ≡ leb 512 cells
  unfolding sizes_in_limits
  all_but_cells f g h =
      ap (λ (b : Bool). b && leb 512 cells)
      (both p (leb n 32) (both (leb slots 64) (leb bridges 8) (leb_yes slots 64 f) (leb_yes bridges 8 g)) (leb_yes n 32 h))

  pub few_presets : n ≤ 32 → sizes_in_limits slots bridges n cells ≡ sizes_in_limits slots bridges 0 cells
  unfolding sizes_in_limits
  few_presets h = ap (λ (b : Bool). (p && b) && leb 512 cells) (leb_yes n 32 h)

  pub in_limits : slots ≤ 64 → bridges ≤ 8 → n ≤ 32 → 512 ≤ cells → sizes_in_limits slots bridges n cells ≡ true
  in_limits f g h l = all_but_cells f g h ∙ leb_yes 512 cells l

  pub limits_of : sizes_in_limits slots bridges n cells ≡ true → (slots ≤ 64) × (bridges ≤ 8) × (n ≤ 32) × (512 ≤ cells)
  unfolding sizes_in_limits
  limits_of e =
      let k = left_of q (leb 512 cells) e in
      let m = left_of p (leb n 32) k in (
        le_of slots 64 (left_of (leb slots 64) (leb bridges 8) m),
        le_of bridges 8 (right_of (leb slots 64) (leb bridges 8) m),
        le_of n 32 (right_of p (leb n 32) k),
        le_of 512 cells (right_of q (leb 512 cells) e),
      )
