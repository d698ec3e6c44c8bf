-- `listing::bytes::granted_lines` meets its contract. The invariant: the lines of the presets from
-- i on are left. Assumes nothing.
use mathlib.Core.List.{map}
use lib.ListN.{take, drop}
use Rattle.station.specs.Types.{preset_in, presets_in}
use Rattle.station.specs.Wrote.{Rest}
use Rattle.frame.specs.Listing.{granted_lines}
use Rattle.frame.proofs.listing.bytes.granted_lines.Given as goal

abbrev pub invariant-loop-i : goal.invariant-loop-i
invariant-loop-i l =
    Rest l.initial.out (granted_lines l.grants 0 (presets_in l.i-end l.presets)) l.out (granted_lines l.grants l.i (map preset_in (drop l.i (take l.i-end l.presets))))
