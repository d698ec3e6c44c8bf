-- `choose` meets its contract. The loop's invariant: of all needs that the levels may stand for, those above level l have been served. Assumes nothing.
use Prim.Native.Nat.{ℕ, ◌≤◌, ◌<◌}
use mathlib.Core.Path.{◌≡◌}
use lib.ListN.{length}
use Rattle.laws.specs.Placement.{tie_hold}
use Rattle.station.specs.Head.{has_bit}
use Rattle.placing.specs.method.Rule.{Levelled}
use Rattle.placing.proofs.rule.levels.LevelsDone.{Gone}
use Rattle.placing.proofs.rule.levels.choose.Given as goal

abbrev pub invariant-loop-l : goal.invariant-loop-l
invariant-loop-l l = (l.l ≤ l.top) × (length l.levels ≡ 65) × ((c : ℕ → ℕ) → Levelled l.initial.levels c → ((i : ℕ) → i < 64 → c i ≤ l.top) → Gone (tie_hold 0 (has_bit l.held)) c l.d l.levels l.l l.rest l.served)

abbrev pub decreases-loop-l : goal.decreases-loop-l
decreases-loop-l l = l.l
