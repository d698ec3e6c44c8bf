-- Laws of the listing's lines, as the writers meet them.
--
-- In order: the text of a cell by what it holds (`text_in`, `cell_kind`); the cells of a slot one
-- by one (`cell_texts_step`); the lines of slots one by one (`slot_lines_step`), what a frame's
-- size lets pass (`line_of_slot_lem`, `no_line`, `lines_of_slots_lem`, `no_lines`), and that only
-- the number of bridges counts (`slot_line_head`, `slot_lines_head`); the granted lines one by one
-- (`granted_step`).
-- Assumes nothing.
use Prim.Native.Nat.{ℕ, zero, suc, ◌-◌, ◌≤◌, ◌<◌}
use native.Mathlib.Omega.{arith}
use mathlib.Core.Path.{◌≡◌, refl, sym, ◌∙◌, ap}
use mathlib.Core.Logic.{◌⊎◌, inl, inr}
use mathlib.Core.List.{List, [], ◌++◌, append_assoc, map}
use lib.ListN.{length, take, drop, get_or}
use Rattle.laws.specs.Lists.{at}
use Rattle.laws.proofs.Comparisons.{ltb_yes, ltb_no, leb_yes, leb_no}
use Rattle.station.specs.Head.{Head}
use Rattle.station.specs.declared.types.Preset as record-of-preset
use Rattle.station.specs.Types.{preset_in, no_record}
use Rattle.station.specs.Text.{bytes}
use Rattle.station.specs.Decimal.{digits}
use Rattle.station.proofs.Theorems.{records_step}
use Rattle.placing.specs.declared.cells.Kind.{Kind}
use Rattle.placing.specs.declared.cells.Kind.TheVariants.{Empty, Busy, Mandatory, Optional, Call, Other}
use Rattle.placing.specs.Types.{kind_in}
use Rattle.placing.specs.Table.{cell, kind_of, number_in}
use Rattle.frame.specs.Listing.{granted_line, cell_text, cell_texts, slot_line, slot_lines, granted_lines}
use Rattle.frame.specs.method.SlotLines.{of_bridges, line_of_slot, lines_of_slots}

-- ---- the text of a cell

-- by what the cell holds
abbrev pub text_in : Kind → ℕ → List ℕ
text_in Empty n = bytes "0"
text_in Busy n = bytes "-"
text_in Mandatory n = bytes "m" ++ digits n
text_in Optional n = bytes "o" ++ digits n
text_in Call n = bytes "c" ++ digits n
text_in Other n = bytes "c" ++ digits n

pub cell_kind : (k n : ℕ) → cell_text k n ≡ text_in (kind_in k) n
unfolding cell_text
cell_kind zero n = refl
cell_kind (suc zero) n = refl
cell_kind (suc (suc zero)) n = refl
cell_kind (suc (suc (suc zero))) n = refl
cell_kind (suc (suc (suc (suc zero)))) n = refl
cell_kind (suc (suc (suc (suc (suc k))))) n = refl

-- ---- the cells of a slot, and the lines of slots

-- the cells of slot s from bridge b on, up to bridge n: that of b, and the others
pub cell_texts_step : (h : Head) (t : List ℕ) (s b n : ℕ) → b < n
    → cell_texts h t s b (n - b) ≡ (bytes " " ++ cell_text (kind_of (cell h t s b)) (number_in (cell h t s b))) ++ cell_texts h t s (suc b) (n - suc b)
unfolding cell_texts
cell_texts_step h t s b n l =
    let e : n - b ≡ suc (n - suc b) = omega arith in
    rw e (sym (append_assoc (bytes " ") (cell_text (kind_of (cell h t s b)) (number_in (cell h t s b))) (cell_texts h t s (suc b) (n - suc b))))

-- the lines of the slots from s on, up to slot n: that of s, and the others
pub slot_lines_step : (h : Head) (t : List ℕ) (s n : ℕ) → s < n → slot_lines h t s (n - s) ≡ slot_line h t s ++ slot_lines h t (suc s) (n - suc s)
unfolding slot_lines
slot_lines_step h t s n l = let e : n - s ≡ suc (n - suc s) = omega arith in rw e refl

-- a slot of some frame has its line, any other no byte
module _ (n : ℕ) (t : List ℕ) (s : ℕ) where
  pub line_of_slot_lem : s < 64 → n ≤ 8 → line_of_slot n t s ≡ slot_line (of_bridges n) t s
  unfolding line_of_slot
  line_of_slot_lem h l = rw (ltb_yes s 64 h, leb_yes n 8 l) refl

  pub no_line : (64 ≤ s) ⊎ ((s < 64) × (8 < n)) → line_of_slot n t s ≡ []
  unfolding line_of_slot
  no_line (inl h) = rw (ltb_no s 64 h) refl
  no_line (inr l) = rw (ltb_yes s 64 l.0, leb_no n 8 l.1) refl

-- the slots of some frame have their lines, others no byte
module _ (k n : ℕ) (t : List ℕ) where
  pub lines_of_slots_lem : k ≤ 64 → n ≤ 8 → lines_of_slots k n t ≡ slot_lines (of_bridges n) t 0 k
  unfolding lines_of_slots
  lines_of_slots_lem h l = rw (leb_yes k 64 h, leb_yes n 8 l) refl

  pub no_lines : (64 < k) ⊎ ((k ≤ 64) × (8 < n)) → lines_of_slots k n t ≡ []
  unfolding lines_of_slots
  no_lines (inl h) = rw (leb_no k 64 h) refl
  no_lines (inr l) = rw (leb_yes k 64 l.0, leb_no n 8 l.1) refl

-- ---- only the number of bridges counts

cell_texts_head : (h : Head) (t : List ℕ) (s b k : ℕ) → cell_texts (of_bridges h.bridges) t s b k ≡ cell_texts h t s b k
unfolding cell_texts
cell_texts_head h t s b zero = refl
cell_texts_head h t s b (suc k) =
    ap (λ (l : List ℕ). bytes " " ++ (cell_text (kind_of (cell h t s b)) (number_in (cell h t s b)) ++ l)) (cell_texts_head h t s (suc b) k)

line_head : (h : Head) (t : List ℕ) (s : ℕ) → slot_line (of_bridges h.bridges) t s ≡ slot_line h t s
unfolding slot_line
line_head h t s = ap (λ (l : List ℕ). bytes "(slot " ++ (digits (suc s) ++ l)) (cell_texts_head h t s 0 h.bridges)

lines_head : (h : Head) (t : List ℕ) (s k : ℕ) → slot_lines (of_bridges h.bridges) t s k ≡ slot_lines h t s k
unfolding slot_lines
lines_head h t s zero = refl
lines_head h t s (suc k) = rw (line_head h t s, lines_head h t (suc s) k) refl

-- the line of a slot of a head's frame is that of the listing
pub slot_line_head : (h : Head) (t : List ℕ) (s : ℕ) → s < 64 → h.bridges ≤ 8 → line_of_slot h.bridges t s ≡ slot_line h t s
slot_line_head h t s l b = line_of_slot_lem h.bridges t s l b ∙ line_head h t s

-- the lines of the slots of a head's frame are those of the listing
pub slot_lines_head : (h : Head) (t : List ℕ) → h.slots ≤ 64 → h.bridges ≤ 8 → lines_of_slots h.slots h.bridges t ≡ slot_lines h t 0 h.slots
slot_lines_head h t l b = lines_of_slots_lem h.slots h.bridges t l b ∙ lines_head h t 0 h.slots

-- ---- the granted lines

-- the granted lines of the presets from record i on: that of i, and the others
pub granted_step : (g : List ℕ) (i n : ℕ) (ps : List record-of-preset.Preset) → i < n → n ≤ length ps
    → granted_lines g i (map preset_in (drop i (take n ps)))
    ≡ granted_line (get_or ps i no_record).number (at g i) ++ granted_lines g (suc i) (map preset_in (drop (suc i) (take n ps)))
unfolding granted_lines
granted_step g i n ps h l = rw (records_step i n ps h l) refl
