-- `search::taking::through_chain` meets its contract: what remains of the walk is the rest of the
-- chain. Assumes nothing.
use Prim.Native.Nat.{ℕ, ◌*◌, ◌≤◌}
use mathlib.Core.List.{List}
use Rattle.placing.specs.Call.{CellPlace}
use Rattle.placing.specs.method.Search.{Stands, Chains, past_place}
use Rattle.placing.proofs.search.links.Chains.{Left}
use Rattle.placing.proofs.search.taking.through_chain.Given as goal

abbrev pub invariant-loop-at : goal.invariant-loop-at
invariant-loop-at l = (past_place l.at ≤ l.demand.slots * 8)
    × Stands l.demand l.search
    × ((of : ℕ → List CellPlace) → Chains l.links of → Left l.demand (of l.rank) l.initial.search l.links.next l.at l.search)

abbrev pub decreases-loop-at : goal.decreases-loop-at
decreases-loop-at l = past_place l.at
