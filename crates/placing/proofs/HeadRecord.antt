-- A head record that some text yields, and the places of the cells of its frame.
--
-- In order: places and rows within the limits (`place_lt`, `frame_le`, `next_row`); what a valid record says (`count_high`, `record_valid`), its presets
-- (`presets_count`, `preset_at_lem`, `preset_of_lem`) and their ranks (`ranks_are`).
-- Assumes nothing.
use Prim.Native.Nat.{ℕ, ◌+◌, ◌*◌, ◌≤◌, ◌<◌}
use native.Mathlib.Nat.{mul-le-mul, mul-le-mul_left, suc-mul}
use native.Mathlib.Numerals.{add-one}
use native.Mathlib.Omega.{arith}
use mathlib.Core.Path.{◌≡◌, sym, ◌∙◌, ap, ap₂}
use mathlib.Core.Bool.{true}
use mathlib.Core.List.{List, map}
use lib.ListN.{length, take, get_or, get_or-map, length-map}
use lib.Seq.{length-take-le, get_or-take}
use lib.Dec.{ltb, leb}
use Rattle.laws.specs.Sums.{bit, position, ascending}
use Rattle.laws.proofs.Tests.{left_of, right_of}
use Rattle.laws.proofs.Comparisons.{le_of}
use Rattle.laws.proofs.Counts.{count_ext}
use Rattle.station.specs.declared.types.Preset as record-of-preset
use Rattle.station.specs.declared.types.Head as record-of-head
use Rattle.station.specs.Types.{preset_in, no_record, head_in, valid_record}
use Rattle.station.specs.Head.{Preset, Valid, no_preset, valid, preset_at}
use Rattle.station.proofs.Theorems.{valid_of}
use Rattle.placing.specs.Table.{preset_count}
use Rattle.placing.specs.Plan.{rank}
use Rattle.placing.specs.method.Records.{record_at, priorities, rank_in}
use Rattle.placing.proofs.WrittenTable.{place_below}

-- ---- places and rows of the frame

pub place_lt : (s b m n : ℕ) → s < 64 → m ≤ 8 → b < m → 512 ≤ n → s * m + b < n
place_lt s b m n ls lm lb ln = omega (arith, place_below 64 m s b ls lb, mul-le-mul_left 64 lm)

pub frame_le : (s m : ℕ) → s ≤ 64 → m ≤ 8 → s * m ≤ 512
frame_le s m ls lm = mul-le-mul {n₂ = 64} {m₂ = 8} ls lm

pub next_row : (s m : ℕ) → s * m + m ≡ (s + 1) * m
next_row s m = sym (ap (λ (k : ℕ). k * m) (add-one s) ∙ suc-mul s m)

-- ---- a head record that some text yields

module _ (head : record-of-head.Head) (ps : List record-of-preset.Preset) where
  pub count_high : valid_record head ps ≡ true → head.count ≤ 32
  count_high e = le_of head.count 32 (left_of (leb head.count 32) (valid (head_in head ps)) e)

  pub record_valid : valid_record head ps ≡ true → Valid (head_in head ps)
  record_valid e = valid_of (head_in head ps) (right_of (leb head.count 32) (valid (head_in head ps)) e)

  pub presets_count : head.count ≤ length ps → preset_count (head_in head ps) ≡ head.count
  presets_count few = length-map (take head.count ps) preset_in ∙ length-take-le head.count ps few

-- the preset at i is the one that its record stands for
pub preset_at_lem : (k : ℕ) (ps : List record-of-preset.Preset) (i : ℕ) → i < k → get_or (map preset_in (take k ps)) i no_preset ≡ preset_in (record_at ps i)
preset_at_lem k ps i l = get_or-map preset_in (take k ps) i no_record ∙ ap preset_in (get_or-take k ps i no_record l)

pub preset_of_lem : (head : record-of-head.Head) (ps : List record-of-preset.Preset) (i : ℕ) → i < head.count → preset_at (head_in head ps) i ≡ preset_in (record_at ps i)
preset_of_lem head ps i l = preset_at_lem head.count ps i l

-- the ranks of the records are those of the head
pub ranks_are : (head : record-of-head.Head) (ps : List record-of-preset.Preset) → head.count ≤ length ps → (i : ℕ) → i < head.count
    → rank_in ps head.count i ≡ rank (head_in head ps) i
ranks_are head ps few i l =
    count_ext head.count (λ j. ascending (priorities ps) j i) (λ j. ascending (λ q. (preset_at (head_in head ps) q).priority) j i)
    (λ j m.
    ap₂ (λ (a b : ℕ). ltb a (b + bit (ltb j i))) (ap (λ (p : Preset). p.priority) (sym (preset_of_lem head ps j m)))
    (ap (λ (p : Preset). p.priority) (sym (preset_of_lem head ps i l))))
    ∙ ap (λ (k : ℕ). position k (ascending (λ j. (preset_at (head_in head ps) j).priority)) i) (sym (presets_count head ps few))
