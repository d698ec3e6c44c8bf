-- The part of a whole text that runs a head that was read: what it is handed (`HeadStart`).
-- Assumes nothing.
use Rattle.std.specs.Prelude.{ℕ, ◌≤◌, ◌≡◌, List, length}
use Rattle.station.specs.Limits.{least_cells}
use Rattle.station.specs.Types.{head_in}
use Rattle.station.specs.Writing.{text_of}
use Rattle.station.specs.Reading.{Reading, head_of}
use Rattle.station.specs.declared.types.Preset as record-of-preset
use Rattle.station.specs.declared.types.Head as record-of-head

-- What a head that was read hands to its plan and to the lines after it: the records stand for the
-- text's head of n lines and k bytes, and the lent table is long enough.
pub record HeadStart (head : record-of-head.Head) (ps : List record-of-preset.Preset) (text : List ℕ) (k n : ℕ) (t : List ℕ) : Type 0 where
  pub reads : head_of text ≡ Reading.accepted (head_in head ps) n
  pub bytes : k ≡ length (text_of (head_in head ps))
  pub count : head.count ≡ length (head_in head ps).presets
  pub long : least_cells ≤ length t
