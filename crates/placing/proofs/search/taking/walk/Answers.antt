-- `search::taking::walk` meets its contract: the chains of all ranks, walked through, are the
-- eviction order. Assumes nothing.
use Prim.Native.Nat.{◌≤◌}
use native.Mathlib.Omega.{arith}
use mathlib.Core.Path.{refl, sym, ◌∙◌}
use lib.ListN.{length}
use Rattle.station.specs.Types.{head_in}
use Rattle.placing.specs.Call.{eviction_order}
use Rattle.placing.specs.Table.{cell}
use Rattle.placing.specs.method.Search.{places_from, places_of}
use Rattle.placing.proofs.HeadRecord.{presets_count}
use Rattle.placing.proofs.search.EvictedSet.{ranks_record, walked_order}
use Rattle.placing.proofs.search.taking.CellByCell.{remains_done}
use Rattle.placing.proofs.search.taking.walk.Goals as goal

pub returns-then-search-eq0 : goal.returns-then-search-eq0
returns-then-search-eq0 c = let a = c.args in
    let h = head_in a.station.now.head a.station.now.presets in
    let zs = eviction_order h a.clock (cell h a.grid.now.cells.now) in
    remains_done a.demand.now zs a.search.now zs a.search.now refl c.requires.3 c.if-search-eq0.true

pub shared_ref_as_front-ranks_of : goal.shared_ref_as_front-ranks_of
shared_ref_as_front-ranks_of c = c.requires.0

pub through_ranks-requires : goal.through_ranks-requires
through_ranks-requires c = let of = c.requires.1 in
    (c.requires.0, (rw (of.slots, ← c.requires.2) at c.of_slots-links.ensures).0, c.requires.3)

pub returns : goal.returns
unfolding places_of
returns c =
    let a = c.args in
    let of = c.requires.1 in
    let h = head_in a.station.now.head a.station.now.presets in
    let long : a.station.now.head.count ≤ length a.station.now.presets = omega (arith, c.requires.0, a.station.now.full) in
    walked_order h a.clock a.grid.now.cells.now c.ranks_of-ranks.result a.demand.now a.search.now
    (λ m. c.ranks_of-ranks.ensures m ∙ ranks_record a.station.now.head a.station.now.presets long m) c.requires.2 (sym (presets_count a.station.now.head a.station.now.presets long))
    (c.through_ranks.ensures (λ q. places_from a.grid.now.cells.now a.station.now.head.bridges a.clock c.ranks_of-ranks.result q a.demand.now.slots) (rw (of.bridges, of.slots, ← c.requires.2) at c.of_slots-links.ensures).1)
