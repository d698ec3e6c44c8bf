-- `search::taking::try_cell` meets its contract: the table with the cell in it gives what the call
-- then lacks, and without it again is what it was. Assumes nothing.
use Prim.Native.Nat.{ℕ, ◌+◌, ◌<◌}
use native.Mathlib.Omega.{arith}
use mathlib.Core.Path.{refl, sym, ◌∙◌, ap}
use lib.ListN.{get_or, set}
use lib.Bits.{bit_or}
use lib.Pow.{shl_exact}
use Rattle.laws.proofs.Comparisons.{le_of, gt_of}
use Rattle.laws.proofs.Capacities.{at_least_le}
use Rattle.placing.proofs.search.taking.CellByCell.{step_full, tried_back, step_back, tried_short, step_taken}
use Rattle.placing.proofs.search.taking.try_cell.Goals as goal

pub returns-then-x-ge-MOST_BRIDGES : goal.returns-then-x-ge-MOST_BRIDGES
returns-then-x-ge-MOST_BRIDGES c = let a = c.args in
    step_full a.demand.now a.search.now a.slot a.bridge c.requires.3 c.requires.0 c.if-x-ge-MOST_BRIDGES.true

pub overflow_add-search : goal.overflow_add-search
overflow_add-search c = let S = c.requires.3 in
    let s = c.args.search.now in
    omega (arith, at_least_le S.table (get_or s.offer.counts c.args.slot 0) (omega (arith, c.if-x-ge-MOST_BRIDGES.false)), S.few_slots)

pub returns-then-lacks : goal.returns-then-lacks
returns-then-lacks c = let a = c.args in
    let s = a.search.now in
    let S = c.requires.3 in
    let few : get_or s.offer.counts a.slot 0 < 8 = omega (arith, c.if-x-ge-MOST_BRIDGES.false) in
    step_back a.demand.now s a.slot a.bridge S c.requires.0 few (tried_back a.demand.now s a.slot a.bridge S c.requires.0 few (omega arith))
    (omega (arith, le_of s.short _ (sym c.lacks.ensures ∙ c.if-lacks.true), tried_short a.demand.now s a.slot a.bridge S c.requires.0 few))

pub returns : goal.returns
returns c = let a = c.args in
    let s = a.search.now in
    let few : get_or s.offer.counts a.slot 0 < 8 = omega (arith, c.if-x-ge-MOST_BRIDGES.false) in
    step_taken a.demand.now s a.slot a.bridge c.requires.3 c.requires.0 few _
    (ap (λ (m : ℕ). record { free = set s.offer.free a.slot (bit_or (get_or s.offer.free a.slot 0) m); counts = set s.offer.counts a.slot (get_or s.offer.counts a.slot 0 + 1); evicted = s.evicted + 1 }) (shl_exact {a = 1} 1 a.bridge 8 (omega arith) (omega arith) ∙ omega arith))
    refl refl
    (omega (arith, gt_of s.short _ (sym c.lacks.ensures ∙ c.if-lacks.false), tried_short a.demand.now s a.slot a.bridge c.requires.3 c.requires.0 few))
