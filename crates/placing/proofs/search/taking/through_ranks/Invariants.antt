-- `search::taking::through_ranks` meets its contract: what remains of the walk has the outcome of
-- the whole. Assumes nothing.
use Prim.Native.Nat.{ℕ}
use mathlib.Core.List.{List}
use Rattle.placing.specs.Call.{CellPlace, downward}
use Rattle.placing.specs.method.Search.{Stands, Chains}
use Rattle.placing.proofs.search.taking.CellByCell.{Remains}
use Rattle.placing.proofs.search.taking.through_ranks.Given as goal

abbrev pub invariant-loop-r : goal.invariant-loop-r
invariant-loop-r l = Stands l.demand l.search
    × ((of : ℕ → List CellPlace) → Chains l.links of → Remains l.demand (downward l.n of) l.initial.search (downward l.r of) l.search)
