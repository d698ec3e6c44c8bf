-- `first_held` meets its contract: the held ones and the others, each by `first_of`. Assumes nothing.
use Prim.Native.Nat.{ℕ, ◌-◌}
use mathlib.Core.Path.{◌∙◌, ap, ap₂}
use mathlib.Core.Bool.{Bool, ◌||◌}
use Rattle.laws.specs.Sums.{count}
use Rattle.station.specs.Head.{has_bit}
use Rattle.placing.specs.method.Rule.{without, first_few}
use Rattle.placing.proofs.rule.Sets.{has_bit_or}
use Rattle.placing.proofs.rule.levels.FirstHeld.{held_first, held_count}
use Rattle.placing.proofs.rule.levels.first_held.Goals as goal

pub returns : goal.returns
returns c = let a = c.args in
    let stay = c.first_of-stay in
    let come = c.first_of-come in (
      λ i l.
          has_bit_or stay.result.jobs come.result.jobs i
          ∙ ap₂ (λ (x y : Bool). x || y) (stay.ensures.0 i l)
          (come.ensures.0 i l ∙ ap (λ (n : ℕ). first_few (has_bit (without a.mask a.held)) n i) stay.ensures.1)
          ∙ held_first a.mask a.held a.d i l,
      come.ensures.1 ∙ ap (λ (n : ℕ). n - count 64 (has_bit (without a.mask a.held))) stay.ensures.1 ∙ held_count a.mask a.held a.d,
    )
