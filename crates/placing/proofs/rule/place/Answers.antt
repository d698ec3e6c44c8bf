-- `place` meets its contract. The loop's invariant: the slots before s are placed, `levels` has the needs that are left, `due` what is due of the first slots and `held` who
-- goes first among equal ones, for all needs that the levels may have stood for at first. Assumes nothing.
use Prim.Native.Nat.{ℕ, ◌≤◌, ◌<◌, ◌+◌, ◌-◌, ◌*◌}
use native.Mathlib.Omega.{arith}
use mathlib.Core.Path.{◌≡◌, refl, sym, ◌∙◌, ap}
use mathlib.Core.Bool.{Bool, true, cond}
use mathlib.Core.List.{List}
use lib.ListN.{length, take, drop}
use borrow.Author.Rules as author
use Rattle.laws.proofs.Comparisons.{ge_of}
use Rattle.laws.specs.Lists.{at}
use Rattle.laws.specs.Sums.{count}
use Rattle.laws.proofs.Counts.{count_none}
use Rattle.placing.proofs.MaskBits.{has_bit_zero}
use Rattle.station.specs.Head.{has_bit}
use Rattle.placing.specs.Plan.{tie_of}
use Rattle.placing.specs.method.Rule.{free_in, CleanFrom, Fillable, placeable, placed_in, placed_within}
use Rattle.placing.proofs.rule.levels.ByLevel.{standing_all, most_of}
use Rattle.placing.proofs.rule.SlotsPlaced.{SlotsPlaced, Progress, reached, cell_of, progress_none, progress_more, progress_over, progress_idle, slots_all, frame_within, row_within, row_long, row_at, row_in, placed_within_lem, placed_beyond, placeable_of}
use borrow.Rule.Slice.PartMut.{same_len_mid}
use Rattle.placing.proofs.rule.place.Goals as goal
use Rattle.placing.proofs.rule.place.Goals.{else-mask-ne0, then-mask-ne0, then-hold, else-hold}

pub returns-then-not-placeable : goal.returns-then-not-placeable
returns-then-not-placeable c = λ clean fill.
    let a = c.args in
    sym (placed_beyond (tie_of a.hold) a.head.now.slots a.head.now.bridges a.offer.now.free a.offer.now.counts a.work.now.needs a.work.now.count a.work.now.first a.work.now.early a.work.now.late a.table.now
    (sym c.placeable.ensures ∙ c.if-not-placeable.true))

pub enter-top-requires : goal.enter-top-requires
enter-top-requires c =
    let within : let a = c.args in placeable a.head.now.slots a.head.now.bridges a.work.now.needs a.work.now.count (length a.table.now) ≡ true =
    sym c.placeable.ensures ∙ c.if-not-placeable.false in
    let a = c.args in
    let l = placeable_of a.head.now.slots a.head.now.bridges a.work.now.needs a.work.now.count (length a.table.now) within in
    (l.2, l.4, refl)

pub loop-s-init : goal.loop-s-init
loop-s-init c =
    let within : let a = c.args in placeable a.head.now.slots a.head.now.bridges a.work.now.needs a.work.now.count (length a.table.now) ≡ true =
    sym c.placeable.ensures ∙ c.if-not-placeable.false in
    let a = c.args in
    let l = placeable_of a.head.now.slots a.head.now.bridges a.work.now.needs a.work.now.count (length a.table.now) within in (
      omega arith,
      l.0,
      l.1,
      l.2,
      l.3,
      refl,
      search author.rules,
      c.enter-top.ensures.0,
      c.enter-top.ensures.2,
      λ n enough h most clean fill. progress_none a.hold a.head.now.bridges a.offer.now.free a.offer.now.counts n a.work.now.first a.work.now.early a.work.now.late a.table.now a.work.now.count c.enter-top.new.levels c.enter-top.result h most,
    )

-- a slot without a free bridge is filled by nobody
unfilled : (B : ℕ) (masks counts : List ℕ) (s : ℕ) → at masks s ≡ 0 → at counts s ≤ count B (free_in masks s) → at counts s ≡ 0
unfilled B masks counts s e l = omega (arith, count_none B (free_in masks s) (λ b m. ap (λ (n : ℕ). has_bit n b) e ∙ has_bit_zero b))

-- the table after all slots
placed : (hold : Bool) (slots bridges : ℕ) (free counts needs : List ℕ) (k : ℕ) (first early late t table : List ℕ) → placeable slots bridges needs k (length t) ≡ true
    → slots ≤ 64 → bridges ≤ 8 → 512 ≤ length t
    → SlotsPlaced bridges (cell_of (tie_of hold) bridges free counts (take k needs) first early late t) t table slots
    → table ≡ placed_within (tie_of hold) slots bridges free counts needs k first early late t
unfolding placed_in
placed hold slots bridges free counts needs k first early late t table within few few_b long all =
    slots_all bridges (cell_of (tie_of hold) bridges free counts (take k needs) first early late t) t
    table slots (omega (arith, long, frame_within slots bridges few few_b)) all
    ∙ sym (placed_within_lem (tie_of hold) slots bridges free counts needs k first early late t within)

pub returns-then-clean-s : goal.returns-then-clean-s
returns-then-clean-s c =
    let so_far : let l = c.loop-s in
    let a = c.args in
    CleanFrom a.clean a.head.now.slots a.head.now.bridges a.offer.now.free a.table.now → Fillable a.head.now.slots a.head.now.bridges a.offer.now.free a.offer.now.counts
    → Progress a.hold a.head.now.bridges a.offer.now.free a.offer.now.counts (take a.work.now.count a.work.now.needs) a.work.now.first a.work.now.early a.work.now.late a.table.now a.work.now.count l.s l.table l.due l.levels l.top l.held =
    λ clean fill. let a = c.args in
    c.loop-s.invariant.9 a.work.now.needs (omega (arith, c.loop-s.invariant.3, c.well_formed.1.1.1.1.0)) (standing_all a.work.now.needs c.enter-top.new.levels a.work.now.count c.enter-top.ensures.1)
    c.enter-top.ensures.3 clean fill in
    λ clean fill.
    let l = c.loop-s in
    let a = c.args in
    let now = so_far clean fill in
    let none : c.highest-top.result ≡ 0 = c.if-top-eq0.true in
    placed a.hold a.head.now.slots a.head.now.bridges a.offer.now.free a.offer.now.counts a.work.now.needs a.work.now.count a.work.now.first a.work.now.early a.work.now.late a.table.now l.table (sym c.placeable.ensures ∙ c.if-not-placeable.false) l.invariant.1 l.invariant.2 l.invariant.4
    (progress_idle a.hold a.head.now.bridges a.offer.now.free a.offer.now.counts a.work.now.needs a.work.now.first a.work.now.early a.work.now.late a.table.now a.work.now.count l.s l.table l.due l.levels l.top l.held now l.invariant.3
    (rw none at (most_of l.levels (at (reached a.hold a.offer.now.counts (take a.work.now.count a.work.now.needs) l.s).needs) l.top c.highest-top.result
    now.levelled l.invariant.8 now.most c.highest-top.ensures.1))
    a.head.now.slots l.invariant.0 (λ q b past h. clean q b (omega (arith, past, c.if-clean-s.true)) h))

pub choose-chosen-requires : goal.choose-chosen-requires
choose-chosen-requires c = let l = c.loop-s in
    (omega (arith, c.highest-top.ensures.0, l.invariant.8), l.invariant.7)

-- the row of a slot lies in the table, and has its bridges
row_here : (slots bridges s : ℕ) (t : List ℕ) → slots ≤ 64 → bridges ≤ 8 → s < slots → 512 ≤ length t
    → (s * bridges + bridges ≤ length t) × (length (take (s * bridges + bridges - s * bridges) (drop (s * bridges) t)) ≡ bridges)
row_here slots bridges s t few narrow inside long =
    let within : s * bridges + bridges ≤ length t = omega (arith, row_within slots bridges few narrow s inside, long) in
    (within, row_long t (s * bridges) bridges (s * bridges + bridges - s * bridges) (omega arith) within)

pub overflow_mul-start : goal.overflow_mul-start
overflow_mul-start c = let l = c.loop-s in
    let h = c.args.head.now in
    omega (arith, row_within h.slots h.bridges l.invariant.1 l.invariant.2 l.s (omega arith))

pub overflow_add-row : goal.overflow_add-row
overflow_add-row c = let l = c.loop-s in
    let h = c.args.head.now in
    omega (arith, row_within h.slots h.bridges l.invariant.1 l.invariant.2 l.s (omega arith))

pub write_row-requires : goal.write_row-requires
write_row-requires c = let l = c.loop-s in
    let h = c.args.head.now in
    (omega (arith, (row_here h.slots h.bridges l.s l.table l.invariant.1 l.invariant.2 (omega arith) (omega (arith, l.invariant.4, l.invariant.5))).1, l.invariant.2), l.invariant.6)

pub loop-s-preserved : goal.loop-s-preserved
loop-s-preserved c =
    let ahead : c.if-hold.held ≡ cond c.args.hold c.if-mask-ne0.chosen 0 =
    elim c.if-hold.branch [ then-hold w ↦ rw w.if-hold.true w.held-is | else-hold w ↦ rw w.if-hold.false w.held-is ] in
    let top = c.highest-top.result in
    let l = c.loop-s in
    let a = c.args in
    let low : top < 65 = omega (arith, c.highest-top.ensures.0, l.invariant.8) in
    let B = a.head.now.bridges in
    let start = l.s * B in
    let here = row_here a.head.now.slots B l.s l.table l.invariant.1 l.invariant.2 (omega arith) (omega (arith, l.invariant.4, l.invariant.5)) in
    elim c.if-mask-ne0.branch [
      | then-mask-ne0 w ↦ rw (ahead, w.table-is, w.due-is, w.levels-is, w.chosen-is) (
        omega arith,
        l.invariant.1,
        l.invariant.2,
        l.invariant.3,
        l.invariant.4,
        same_len_mid start (start + B - start) l.table w.write_row.new.row w.write_row.ensures.0 ∙ l.invariant.5,
        w.write_row.ensures.1,
        w.choose-chosen.ensures.0,
        low,
        λ n enough h m clean fill.
            let now = l.invariant.9 n enough h m clean fill in
            let rest : ℕ → ℕ = at (reached a.hold a.offer.now.counts (take a.work.now.count n) l.s).needs in
            let most : (i : ℕ) → i < 64 → rest i ≤ top = most_of l.levels rest l.top top now.levelled l.invariant.8 now.most c.highest-top.ensures.1 in
            let did = w.choose-chosen.ensures.1 rest now.levelled most in
            progress_more a.hold B a.offer.now.free a.offer.now.counts n a.work.now.first a.work.now.early a.work.now.late a.table.now a.work.now.count enough l.invariant.3
            l.s l.table l.due l.levels l.top l.held now w.choose-chosen.result
            did.picks
            _ w.write_row.new.due w.choose-chosen.new.levels top most
            (row_in l.table start B (start + B - start) (omega arith) here.0 _ _ _
            (w.write_row.ensures.3 (λ e b q free.
            let low_b : b < B = omega (arith, q, here.1) in
            row_at l.table start B (start + B - start) (omega arith) here.0 b low_b
            ∙ now.table.after (start + b) (omega arith) ∙ clean l.s b (ge_of l.s a.clean e) (omega arith) low_b free)))
            w.write_row.ensures.2 did.levels,
      )
      | else-mask-ne0 w ↦ rw (ahead, w.table-is, w.due-is, w.levels-is, w.chosen-is) (
        omega arith,
        l.invariant.1,
        l.invariant.2,
        l.invariant.3,
        l.invariant.4,
        l.invariant.5,
        l.invariant.6,
        l.invariant.7,
        low,
        λ n enough h m clean fill.
            let now = l.invariant.9 n enough h m clean fill in
            progress_over a.hold a.head.now.bridges a.offer.now.free a.offer.now.counts n a.work.now.first a.work.now.early a.work.now.late a.table.now a.work.now.count enough l.invariant.3 l.s l.table l.due l.levels l.top l.held top now
            w.if-mask-ne0.false (unfilled a.head.now.bridges a.offer.now.free a.offer.now.counts l.s w.if-mask-ne0.false (fill l.s (omega arith)))
            (most_of l.levels (at (reached a.hold a.offer.now.counts (take a.work.now.count n) l.s).needs) l.top top now.levelled l.invariant.8 now.most c.highest-top.ensures.1),
      )
    ]

pub returns : goal.returns
returns c =
    let so_far : let l = c.loop-s in
    let a = c.args in
    CleanFrom a.clean a.head.now.slots a.head.now.bridges a.offer.now.free a.table.now → Fillable a.head.now.slots a.head.now.bridges a.offer.now.free a.offer.now.counts
    → Progress a.hold a.head.now.bridges a.offer.now.free a.offer.now.counts (take a.work.now.count a.work.now.needs) a.work.now.first a.work.now.early a.work.now.late a.table.now a.work.now.count l.s l.table l.due l.levels l.top l.held =
    λ clean fill. let a = c.args in
    c.loop-s.invariant.9 a.work.now.needs (omega (arith, c.loop-s.invariant.3, c.well_formed.1.1.1.1.0)) (standing_all a.work.now.needs c.enter-top.new.levels a.work.now.count c.enter-top.ensures.1)
    c.enter-top.ensures.3 clean fill in
    λ clean fill.
    let l = c.loop-s in
    let a = c.args in
    let end : c.loop-s.s ≡ c.args.head.now.slots = omega arith in
    placed a.hold a.head.now.slots a.head.now.bridges a.offer.now.free a.offer.now.counts a.work.now.needs a.work.now.count a.work.now.first a.work.now.early a.work.now.late a.table.now l.table (sym c.placeable.ensures ∙ c.if-not-placeable.false) l.invariant.1 l.invariant.2 l.invariant.4 (rw end at (so_far clean fill).table)
