-- The state of a running frame: what it keeps beside its head, and what each event gets and leaves. Document 01, "What demand 3 speaks of" and "Causes"; document 02, 2026-02 and 2026-05.
--
-- In order: the state; the one that the code's table, clock and order of ties are (`state_of`, `state_at`); a state with one part made new (`with_table`, `with_clock`, `with_order`); when it is
-- well-formed, as 11 asks (`WellFormedFrame`), and the same as a test (`well_formed_frame`).
-- Assumes nothing.
use Rattle.std.specs.Prelude.{ℕ, ◌≡◌, Bool, true, ◌&&◌, List}
use Rattle.station.specs.Head.{Head}
use Rattle.placing.specs.declared.moment.Moment.{Moment}
use Rattle.placing.specs.Table.{cell, WellFormed, well_formed}
use Rattle.placing.specs.Valid.{clock_in}

-- the lent table, the clock and whether `(tie hold)` is in force: what the running frame keeps beside its head
pub record State : Type 0 where
  pub table : List ℕ
  pub clock : ℕ
  pub hold : Bool

-- The code has a lent table, and a clock and the order of ties as its moment: here, and nowhere else, they become a state.
abbrev pub state_of : List ℕ → ℕ → Bool → State
state_of t c hold = record { table = t; clock = c; hold = hold }

abbrev pub state_at : List ℕ → Moment → State
state_at t m = state_of t m.clock m.hold

-- a state with another table, all else as it was; with another clock; and with another order of ties
abbrev pub with_table : List ℕ → State → State
with_table t st = record { table = t; clock = st.clock; hold = st.hold }

abbrev pub with_clock : ℕ → State → State
with_clock c st = record { table = st.table; clock = c; hold = st.hold }

abbrev pub with_order : Bool → State → State
with_order hold st = record { table = st.table; clock = st.clock; hold = hold }

-- A frame that 11 lets pass: "any sound table and clock". 11 is "a table that is not sound, or a clock outside" 0 to S + 1 (2026-05); either order of ties will do.
pub record WellFormedFrame (h : Head) (st : State) : Type 0 where
  pub cells : WellFormed h (cell h st.table)
  pub clock : clock_in h.slots st.clock ≡ true

-- the same as a test, clause by clause
abbrev pub well_formed_frame : Head → State → Bool
well_formed_frame h st = well_formed h (cell h st.table) && clock_in h.slots st.clock
