-- The ends of a mask's runs, as a scan from slot to slot finds them. Contracts of the private
-- functions of src/write.rt cite it. Slots are counted from 0 here: slot i is the bit of worth 2 ^
-- i. Assumes nothing.
use Rattle.std.specs.Prelude.{ℕ, zero, suc, ◌/◌, ◌^◌, Bool, cond, List, []}
use Rattle.std.proofs.Math.Option.{Option, none, some}
use Rattle.station.specs.Head.{has_bit}
use Rattle.station.specs.Text.{bytes, ◌then◌}
use Rattle.station.specs.Decimal.{digits}
use Rattle.station.specs.Form.{Pairs, brackets}
use Rattle.station.specs.Writing.{stretches}

-- the first busy slot of the k slots from i on, or the slot after them
unfoldable pub busy_from : ℕ → ℕ → ℕ → ℕ
busy_from zero m i = i
busy_from (suc k) m i =
    let rest = busy_from k m (suc i) in
    cond (has_bit m i) i rest

-- the first free slot of the k slots from i on, or the slot after them
unfoldable pub free_from : ℕ → ℕ → ℕ → ℕ
free_from zero m i = i
free_from (suc k) m i =
    let rest = free_from k m (suc i) in
    cond (has_bit m i) rest i

-- the stretches of the k slots from i on, as a busy line numbers them, from 1
abbrev pub stretches_from : ℕ → ℕ → ℕ → Option Pairs
stretches_from k m i = stretches k (suc i) (m / 2 ^ i)

-- the brackets of a busy line and its end, where there are any
abbrev pub brackets_of : Option Pairs → List ℕ
brackets_of none = []
brackets_of (some p) = brackets p

-- one bracket of a busy line, and what parts it from the next or ends the line
abbrev pub bracket_text : ℕ → ℕ → Bool → List ℕ
bracket_text f t more = bytes "(" then digits f then bytes " " then digits t then cond more (bytes ") ") (bytes "))\n")
