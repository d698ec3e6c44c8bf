-- The well-formed frame and its test agree; the clocks of a frame, and the slots that a call may use at one.
--
-- In order: a clock within the frame's (`clock_to`, `clock_is`), and one past them (`clock_late`), which past the last slot is all but one (`clock_past`); the slots above the clock, from the first on, may be used (`usable_from`), those before it may
-- not (`usable_before`), and at a later clock no others (`usable_later`); the test is the record (`frame_test`).
-- Assumes nothing.
use Prim.Native.Nat.{ℕ, suc, ◌-◌, ◌≤◌, ◌<◌}
use native.Mathlib.Omega.{arith}
use mathlib.Core.Path.{◌≡◌, sym, ◌∙◌}
use mathlib.Core.Logic.{◌↔◌}
use mathlib.Core.Bool.{Bool, true, false}
use lib.Dec.{leb, eqb}
use Rattle.laws.proofs.Tests.{Is, is, is_true, is_false, both, left_of, right_of, fails_right}
use Rattle.laws.proofs.Comparisons.{ltb_yes, ltb_no, leb_no, ge_of, eq_of, ne_of}
use Rattle.station.specs.Head.{Head}
use Rattle.station.proofs.Theorems.{within_high, of_within}
use Rattle.placing.specs.Table.{cell, well_formed}
use Rattle.placing.specs.Valid.{first_clock, clock_in, usable}
use Rattle.placing.specs.method.Search.{first_slot}
use Rattle.placing.specs.State.{State, WellFormedFrame, well_formed_frame}
use Rattle.placing.proofs.WellFormed.{well_formed_of, of_well_formed}

-- ---- the clocks of a frame

module _ (slots c : ℕ) where
  pub clock_to : clock_in slots c ≡ true → c ≤ suc slots
  clock_to e = within_high first_clock (suc slots) c e

  pub clock_is : c ≤ suc slots → clock_in slots c ≡ true
  clock_is high = of_within first_clock (suc slots) c (omega arith) high

  pub clock_late : suc slots < c → clock_in slots c ≡ false
  clock_late l = fails_right (leb first_clock c) (leb c (suc slots)) (leb_no c (suc slots) l)

  pub clock_past : slots < c → eqb (c - slots) 1 ≡ clock_in slots c
  clock_past l = go (is (eqb (c - slots) 1))
    where
      go : Is (eqb (c - slots) 1) → eqb (c - slots) 1 ≡ clock_in slots c
      go (is_true e) = e ∙ sym (clock_is (omega (arith, l, eq_of (c - slots) 1 e)))
      go (is_false e) = let more = ne_of (c - slots) 1 e in e ∙ sym (clock_late (omega (arith, l, more)))

-- ---- the slots that a call may use

pub usable_from : (clock s : ℕ) → first_slot clock ≤ s → usable clock s ≡ true
usable_from clock s l = ltb_yes clock (suc s) (omega arith)

pub usable_before : (clock s : ℕ) → s < first_slot clock → usable clock s ≡ false
usable_before clock s l = ltb_no clock (suc s) (omega arith)

pub usable_later : (clock later s : ℕ) → clock ≤ later → usable clock s ≡ false → usable later s ≡ false
usable_later clock later s l e = ltb_no later (suc s) (omega (arith, l, ge_of clock (suc s) e))

-- ---- the test

pub frame_test : (h : Head) (st : State) → (well_formed_frame h st ≡ true) ↔ WellFormedFrame h st
frame_test h st = (
  λ e. record { cells = well_formed_of h (cell h st.table) (left_of table clock e); clock = right_of table clock e },
  λ w. both table clock (of_well_formed h (cell h st.table) w.cells) w.clock,
)
  where
    table : Bool
    table = well_formed h (cell h st.table)

    clock : Bool
    clock = clock_in h.slots st.clock
