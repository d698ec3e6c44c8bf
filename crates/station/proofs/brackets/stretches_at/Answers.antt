-- `stretches_at` meets its contract. The invariant: the stretches so far and those from `i` on make what the stretches from `at` on make.
-- The measure is what is left of the text.
-- Assumes nothing.
use Prim.Native.Nat.{ℕ, ◌≤◌, min}
use native.Mathlib.Omega.{arith}
use mathlib.Core.Path.{◌≡◌, refl, ◌∙◌, ap}
use Rattle.std.specs.Prelude.{Option, Some, option_map}
use Rattle.std.proofs.Common.{rules}
use Rattle.station.specs.declared.brackets.Stretches.{Stretches}
use Rattle.station.proofs.brackets.StretchMask.{more, more_masked, read_last, read_next}
use Rattle.station.proofs.brackets.stretches_at.Goals.{in-Some, in_default}
use Rattle.station.proofs.brackets.stretches_at.Goals as goal

pub returns-in-None : goal.returns-in-None
returns-in-None c = let b = c.in_ok-b in
    let l = c.loop-b in
    let hi = min c.args.slots 64 in
    let high : hi ≤ 64 = omega arith in
    let kept : c.match-so_far.so_far ≡ more hi l.so_far b.b.first b.b.second =
    elim c.match-so_far.branch [
      | in-Some w ↦ w.so_far-is ∙ (rw (w.in-Some.is, ← c.min-last.ensures) w.with_stretch-so_far.ensures)
      | in_default w ↦ w.so_far-is ∙ (rw w.in_default.is refl)
    ] in
    let masks : c.map.result ≡ option_map (λ (s : Stretches). s.mask) c.match-so_far.so_far = search rules in
    ap (λ (x : Option ℕ). Some x) (masks ∙ ap (option_map (λ (s : Stretches). s.mask)) kept)
    ∙ read_last hi l.so_far high l.invariant.0 b.ensures c.in-None.is ∙ l.invariant.1

pub loop-b-preserved : goal.loop-b-preserved
loop-b-preserved c = let b = c.in_ok-b in
    let l = c.loop-b in
    let hi = min c.args.slots 64 in
    let high : hi ≤ 64 = omega arith in
    let kept : c.match-so_far.so_far ≡ more hi l.so_far b.b.first b.b.second =
    elim c.match-so_far.branch [
      | in-Some w ↦ w.so_far-is ∙ (rw (w.in-Some.is, ← c.min-last.ensures) w.with_stretch-so_far.ensures)
      | in_default w ↦ w.so_far-is ∙ (rw w.in_default.is refl)
    ] in
    rw kept (more_masked hi l.so_far b.b.first b.b.second high l.invariant.0, read_next hi l.so_far high l.invariant.0 c.in-Some-next.next b.ensures c.in-Some-next.is ∙ l.invariant.1)
