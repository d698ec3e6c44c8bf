-- `search::evict` meets its contract. Assumes nothing.
use Prim.Native.Nat.{◌≤◌}
use native.Mathlib.Omega.{arith}
use mathlib.Core.Path.{◌≡◌, refl, sym, ◌∙◌}
use mathlib.Core.Bool.{true}
use lib.ListN.{length}
use lib.Dec.{leb}
use Rattle.laws.specs.Lists.{at}
use Rattle.laws.proofs.Tests.{fails_left, fails_right}
use Rattle.laws.proofs.Comparisons.{leb_no}
use Rattle.laws.proofs.Largest.{largest_part}
use Rattle.placing.specs.method.Limits.{sizes_in_limits}
use Rattle.placing.proofs.limits.Within.{in_limits, lines_over, few_presets}
use Rattle.placing.proofs.search.EvictedSet.{within, searched_found, not_searched, found_by_walk, taken_by_walk, missed_by_walk}
use Rattle.placing.proofs.search.evict.Goals as goal
use Rattle.placing.proofs.search.evict.Goals.{then-k-gt-MOST_PLACED-via-then-k-gt-MOST_PLACED, then-k-gt-MOST_PLACED-via-else-k-gt-MOST_PLACED+then-head-gt-MOST_PRESETS}

pub returns-then-k-gt-MOST_PLACED : goal.returns-then-k-gt-MOST_PLACED
returns-then-k-gt-MOST_PLACED c = let a = c.args in
    let h = a.station.now.head in
    let inside = sizes_in_limits h.slots h.bridges h.count (length a.table.now) in
    not_searched h a.station.now.presets a.clock a.needs.now a.k a.table.now (elim c.then-k-gt-MOST_PLACED.branch [
      | then-k-gt-MOST_PLACED-via-then-k-gt-MOST_PLACED w ↦ fails_left (leb a.k 64) inside (leb_no a.k 64 w.if-k-gt-MOST_PLACED.true)
      | then-k-gt-MOST_PLACED-via-else-k-gt-MOST_PLACED+then-head-gt-MOST_PRESETS w ↦ fails_right (leb a.k 64) inside (lines_over h.slots h.bridges h.count (length a.table.now) w.if-head-gt-MOST_PRESETS.true)
    ])

pub returns-in_default : goal.returns-in_default
returns-in_default c = let a = c.args in
    let h = a.station.now.head in
    not_searched h a.station.now.presets a.clock a.needs.now a.k a.table.now
    (fails_right (leb a.k 64) _ (few_presets h.slots h.bridges h.count (length a.table.now) c.if-head-gt-MOST_PRESETS.false ∙ c.in_default.ensures))

pub starting-search-requires : goal.starting-search-requires
starting-search-requires c =
    let low : c.of-2.result.total ≤ 16320 = omega (arith, c.of-2.ensures.1, c.if-k-gt-MOST_PLACED.false) in
    (sym c.in-Some.ensures.slots, (λ r few. omega (arith, c.of-2.ensures.0.largest.each r few, largest_part c.args.k (at c.args.needs.now) r, c.of-2.ensures.0.total, low)), low)

pub returns-then-search-ne0 : goal.returns-then-search-ne0
returns-then-search-ne0 c = let a = c.args in
    let h = a.station.now.head in
    let g = c.in-Some.grid in
    let of = c.in-Some.ensures in
    let few = c.if-k-gt-MOST_PLACED.false in
    let inside : sizes_in_limits h.slots h.bridges h.count (length a.table.now) ≡ true =
    in_limits h.slots h.bridges h.count (length a.table.now) (rw of.slots at g.few_slots) (rw of.bridges at g.few_bridges) c.if-head-gt-MOST_PRESETS.false (rw of.cells at g.enough) in
    searched_found h a.station.now.presets a.clock a.needs.now a.k a.table.now (within h a.k (length a.table.now) few inside)
    (λ jobs own. (
      missed_by_walk h a.station.now.presets a.clock a.k a.needs.now a.table.now _ c.starting-search.result inside (omega (arith, few, c)) refl c.of-2.ensures.0.largest c.of-2.ensures.0.total
          (rw (of.cells, of.bridges, of.fed) at c.starting-search.ensures) (rw of.cells at c.walk.ensures) jobs own c.if-search-ne0.true,
      (found_by_walk h a.station.now.presets a.clock a.k a.needs.now a.table.now _ c.starting-search.result inside (omega (arith, few, c)) refl c.of-2.ensures.0.largest c.of-2.ensures.0.total
          (rw (of.cells, of.bridges, of.fed) at c.starting-search.ensures) (rw of.cells at c.walk.ensures) jobs own).1,
    ))

pub returns : goal.returns
returns c = let a = c.args in
    let h = a.station.now.head in
    let g = c.in-Some.grid in
    let of = c.in-Some.ensures in
    let few = c.if-k-gt-MOST_PLACED.false in
    let inside : sizes_in_limits h.slots h.bridges h.count (length a.table.now) ≡ true =
    in_limits h.slots h.bridges h.count (length a.table.now) (rw of.slots at g.few_slots) (rw of.bridges at g.few_bridges) c.if-head-gt-MOST_PRESETS.false (rw of.cells at g.enough) in
    searched_found h a.station.now.presets a.clock a.needs.now a.k a.table.now (within h a.k (length a.table.now) few inside)
    (λ jobs own. (
      taken_by_walk h a.station.now.presets a.clock a.k a.needs.now a.table.now _ c.starting-search.result inside (omega (arith, few, c)) refl c.of-2.ensures.0.largest c.of-2.ensures.0.total
          (rw (of.cells, of.bridges, of.fed) at c.starting-search.ensures) (rw of.cells at c.walk.ensures) jobs own c.if-search-ne0.false,
      (found_by_walk h a.station.now.presets a.clock a.k a.needs.now a.table.now _ c.starting-search.result inside (omega (arith, few, c)) refl c.of-2.ensures.0.largest c.of-2.ensures.0.total
          (rw (of.cells, of.bridges, of.fed) at c.starting-search.ensures) (rw of.cells at c.walk.ensures) jobs own).1,
    ))
