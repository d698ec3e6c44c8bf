-- `check::table::well_formed` meets its contract: what the scan found (`first`), the counts of the whole frame where no cell is at fault (`full`), and for each answer its
-- law of check/table/SameTest.antt. Assumes nothing.
use Prim.Native.Nat.{ℕ, ◌*◌, ◌≤◌}
use native.Mathlib.Omega.{arith}
use mathlib.Core.List.{List}
use mathlib.Core.Path.{◌≡◌, sym, ◌∙◌, ap, ap₂, subst}
use lib.Dec.{leb}
use borrow.Author.Tests.{lt-leb}
use Rattle.laws.proofs.Tests.{clash}
use Rattle.laws.specs.Sums.{every, count}
use Rattle.station.specs.Head.{Head}
use Rattle.station.specs.Types.{head_in}
use Rattle.placing.specs.Table.{preset_count, motors}
use Rattle.placing.specs.method.Check.{tally, numbered, preset_met, has_call, FirstFault}
use Rattle.placing.proofs.check.table.Counted.{tally_none}
use Rattle.placing.proofs.check.table.SameTest.{cell_fails, cells_fit, preset_fails, all_but_jobs}
use Rattle.placing.proofs.HeadRecord.{frame_le, count_high, record_valid, presets_count}
use Rattle.placing.proofs.check.table.well_formed.Goals as goal
use Rattle.placing.proofs.check.table.well_formed.Goals.{then-cells-scan, else-cells-scan}

-- the first cell at fault, by the counts of the head's presets
first_by : (h : Head) (n : ℕ) (ns held : List ℕ) (at : ℕ) → preset_count h ≡ n → ns ≡ numbered h.presets n
    → FirstFault h.slots h.bridges (motors h) h.busy ns held at
    → FirstFault h.slots h.bridges (motors h) h.busy (numbered h.presets (preset_count h)) held at
first_by h n ns held at lines e f =
    subst (λ (l : List ℕ). FirstFault h.slots h.bridges (motors h) h.busy l held at) (e ∙ ap (numbered h.presets) (sym lines)) f

-- the counts are those of the whole frame
full_by : (h : Head) (held counts : List ℕ) (at : ℕ) → at ≤ h.slots * h.bridges → h.slots * h.bridges ≤ at → counts ≡ tally held at
    → tally held (h.slots * h.bridges) ≡ counts
full_by h held counts at low high e = let whole : at ≡ h.slots * h.bridges = omega arith in ap (tally held) (sym whole) ∙ sym e

-- the test by presets, by the counts at hand
presets_by : (h : Head) (n : ℕ) (held counts : List ℕ) → preset_count h ≡ n → tally held (h.slots * h.bridges) ≡ counts
    → every (preset_count h) (preset_met h.presets (tally held (h.slots * h.bridges))) ≡ every n (preset_met h.presets counts)
presets_by h n held counts lines full = ap₂ (λ (k : ℕ) (l : List ℕ). every k (preset_met h.presets l)) lines full

pub overflow_mul-cells : goal.overflow_mul-cells
overflow_mul-cells c = let v = record_valid c.args.lawful.now.station.now.head c.args.lawful.now.station.now.presets c.args.lawful.now.valid in
    omega (arith, frame_le c.args.lawful.now.station.now.head.slots c.args.lawful.now.station.now.head.bridges v.slots_high v.bridges_high)

pub invariant_of-grid : goal.invariant_of-grid
invariant_of-grid c = let v = record_valid c.args.lawful.now.station.now.head c.args.lawful.now.station.now.presets c.args.lawful.now.valid in
    record { few_slots = v.slots_high; few_bridges = v.bridges_high; enough = c.requires }

pub scan-requires : goal.scan-requires
scan-requires c = sym (tally_none c.args.table.now)

pub returns-then-presets_met : goal.returns-then-presets_met
returns-then-presets_met c = elim c.if-cells-scan.branch [
  | then-cells-scan w ↦
      let a = c.args in
      let h = head_in a.lawful.now.station.now.head a.lawful.now.station.now.presets in
      let v = record_valid a.lawful.now.station.now.head a.lawful.now.station.now.presets c.args.lawful.now.valid in
      let lines : preset_count h ≡ a.lawful.now.station.now.head.count = presets_count a.lawful.now.station.now.head a.lawful.now.station.now.presets (omega (arith, a.lawful.now.station.now.full, count_high a.lawful.now.station.now.head a.lawful.now.station.now.presets c.args.lawful.now.valid)) in
      let first = first_by h a.lawful.now.station.now.head.count c.preset_numbers-numbers.result a.table.now c.scan.result lines c.preset_numbers-numbers.ensures (rw c.motors.ensures at c.scan.ensures.0) in
      let full = full_by h a.table.now c.scan.new.counts c.scan.result first.most w.if-cells-scan.true c.scan.ensures.1 in
      sym (all_but_jobs h v a.table.now
      (cells_fit h v a.table.now c.scan.result first w.if-cells-scan.true)
      (presets_by h a.lawful.now.station.now.head.count a.table.now c.scan.new.counts lines full ∙ sym w.presets_met.ensures ∙ sym w.value-is ∙ c.if-presets_met.true)
      ∙ ap (λ (x : List ℕ). leb (count 256 (has_call x)) 64) full
      ∙ ap (λ (n : ℕ). leb n 64) (sym c.job_count.ensures))
  | else-cells-scan w ↦ absurd (clash (sym c.if-presets_met.true ∙ w.value-is ∙ lt-leb _ _ w.if-cells-scan.false))
]

pub returns-else-presets_met : goal.returns-else-presets_met
returns-else-presets_met c =
    let a = c.args in
    let h = head_in a.lawful.now.station.now.head a.lawful.now.station.now.presets in
    let v = record_valid a.lawful.now.station.now.head a.lawful.now.station.now.presets c.args.lawful.now.valid in
    let lines : preset_count h ≡ a.lawful.now.station.now.head.count = presets_count a.lawful.now.station.now.head a.lawful.now.station.now.presets (omega (arith, a.lawful.now.station.now.full, count_high a.lawful.now.station.now.head a.lawful.now.station.now.presets c.args.lawful.now.valid)) in
    let first = first_by h a.lawful.now.station.now.head.count c.preset_numbers-numbers.result a.table.now c.scan.result lines c.preset_numbers-numbers.ensures (rw c.motors.ensures at c.scan.ensures.0) in
    c.if-presets_met.false
    ∙ sym (elim c.if-cells-scan.branch [
      | then-cells-scan w ↦
          let full = full_by h a.table.now c.scan.new.counts c.scan.result first.most w.if-cells-scan.true c.scan.ensures.1 in
          preset_fails h v a.table.now (presets_by h a.lawful.now.station.now.head.count a.table.now c.scan.new.counts lines full ∙ sym w.presets_met.ensures ∙ sym w.value-is ∙ c.if-presets_met.false)
      | else-cells-scan w ↦ cell_fails h v a.table.now c.scan.result first w.if-cells-scan.false
    ])
