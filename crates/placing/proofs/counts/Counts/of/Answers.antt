-- `counts::Counts::of` meets its contract: beyond the limits no head record is valid; within them the parts are put together by `counts_of`. Assumes nothing.
use native.Mathlib.Omega.{arith}
use Prim.Native.Nat.{ℕ, ◌<◌}
use mathlib.Core.Path.{◌≡◌, sym, ◌∙◌, ap}
use mathlib.Core.Bool.{Bool, ◌||◌}
use mathlib.Core.List.{List}
use lib.ListN.{length, take, get_or-map, length-map}
use lib.Dec.{ltb, eqb}
use Rattle.laws.specs.Sums.{count}
use Rattle.laws.proofs.Counts.{count_ext}
use Rattle.station.specs.declared.types.Head.{Head}
use Rattle.station.specs.declared.types.Preset.{Preset}
use Rattle.station.specs.Head as of_head
use Rattle.placing.specs.Table.{number_at, has_preset}
use Rattle.placing.specs.method.Jobs.{marked}
use Rattle.placing.specs.method.Counts.{MarkedBeside}
use Rattle.placing.specs.method.Records.{record_at}
use Rattle.laws.proofs.Tests.{clash}
use Rattle.station.specs.Types.{head_in, preset_in, no_record}
use Rattle.placing.proofs.limits.Within.{in_limits}
use Rattle.placing.proofs.HeadRecord.{record_valid}
use Rattle.placing.proofs.counts.MarkedNumbers.{counts_of}
use Rattle.placing.proofs.counts.Counts.of.Goals as goal

-- the presets in use, marked beside the call cells' numbers
listed_marked : (head : Head) (ps : List Preset) {u w : List Bool} → MarkedBeside (λ i. (record_at (take head.count ps) i).number) u (length (take head.count ps)) w
    → (n : ℕ) → n < 256 → marked w n ≡ (has_preset (head_in head ps) n || marked u n)
listed_marked head ps {u} m n low =
    let h = head_in head ps in
    let l = take head.count ps in
    m.which n low
    ∙ ap (λ (k : ℕ). ltb 0 k || marked u n)
    (count_ext (length l) (λ i. eqb (record_at l i).number n) (λ i. eqb (number_at h i) n) (λ i q. ap (λ (p : of_head.Preset). eqb p.number n) (sym (get_or-map preset_in l i no_record)))
    ∙ ap (λ (k : ℕ). count k (λ i. eqb (number_at h i) n)) (sym (length-map l preset_in)))

pub returns-then-head-le-MOST_PRESETS : goal.returns-then-head-le-MOST_PRESETS
returns-then-head-le-MOST_PRESETS c = λ e long.
    let a = c.args in
    let h = a.station.now.head in
    let v = record_valid h a.station.now.presets e in
    let of = c.in-Some.ensures in
    counts_of (head_in h a.station.now.presets) a.clock a.table.now (rw (of.cells, of.slots, of.bridges) at c.mark_calls.ensures.0)
    {c = record { used = c.mark_presets.new.used; admitted = c.mark_calls.result; at_least = c.count_slots.result }}
    c.mark_presets.ensures.long (listed_marked h a.station.now.presets c.mark_presets.ensures) c.mark_calls.ensures.1
    (c.count_slots.ensures (in_limits h.slots h.bridges 0 (length a.table.now) v.slots_high v.bridges_high (omega arith) long))

pub returns-in_default : goal.returns-in_default
returns-in_default c = λ e long.
    let a = c.args in
    let h = a.station.now.head in
    let v = record_valid h a.station.now.presets e in
    absurd (clash (sym (in_limits h.slots h.bridges 0 (length a.table.now) v.slots_high v.bridges_high (omega arith) long) ∙ c.in_default.ensures))
