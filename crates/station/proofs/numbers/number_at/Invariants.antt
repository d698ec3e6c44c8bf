-- `number_at` meets its contract. The invariant: the digits from `i` on end where those from `at` on do, and after `value` they make the same
-- number, as it is read. The measure is what is left of the text.
-- Assumes nothing.
use Prim.Native.Nat.{◌+◌, ◌-◌, ◌≤◌}
use mathlib.Core.Path.{◌≡◌}
use lib.ListN.{length, drop}
use Rattle.station.specs.Decimal.{digit_count}
use Rattle.station.specs.method.Numeral.{front, front_from}
use Rattle.station.specs.Jobs.{seen}
use Rattle.station.proofs.numbers.number_at.Given as goal

abbrev pub invariant-loop-value : goal.invariant-loop-value
invariant-loop-value l = (l.value ≤ 65535) × (l.i + digit_count (drop l.i l.text) ≡ l.at + digit_count (drop l.at l.text)) × (seen (front_from l.value (drop l.i l.text)) ≡ seen (front (drop l.at l.text)))

abbrev pub decreases-loop-value : goal.decreases-loop-value
decreases-loop-value l = length l.text - l.i
