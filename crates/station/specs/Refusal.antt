-- The refusals, and the number that document 01's table of causes gives each, or the request of
-- document 02 that brings it. Assumes nothing.
use Rattle.std.specs.Prelude.{ℕ, Bool, true, false, List, [], ◌∷◌}
use Rattle.std.proofs.Math.Option.{Option, some, none}

pub data Refusal : Type 0 where
  no_form : Refusal  -- "a line that is not one of the five forms, or lacks its end", which are six since 2026-02 and seven since 2026-03
  out_of_limits : Refusal  -- "a value or busy stretch outside its limits .. a head record that no text yields"
  out_of_place : Refusal  -- "a form out of its place; no frame on line 1"
  number_used : Refusal  -- "a number already used, or twice in a call"
  mandatory_not_feasible : Refusal  -- "the required slots do not fit"
  clock_back : Refusal  -- "a clock below the present one"
  call_not_feasible : Refusal  -- "a call that does not fit"
  too_short : Refusal  -- "lent table below 512 cells, preset list below 32 records, or output below 8,192 bytes"
  too_many : Refusal  -- "33rd preset or 65th job"
  text_too_long : Refusal  -- "text above 32,768 bytes"
  not_well_formed : Refusal  -- "a table that is not sound, or a clock outside" 0 to S + 1 (2026-05)
  no_row : Refusal  -- document 02, 2026-01: "a row that is not three decimal fields with CR LF"

-- the paper's numbers
abbrev pub number_of : Refusal → ℕ
number_of no_form = 1
number_of out_of_limits = 2
number_of out_of_place = 3
number_of number_used = 4
number_of mandatory_not_feasible = 5
number_of clock_back = 6
number_of call_not_feasible = 7
number_of too_short = 8
number_of too_many = 9
number_of text_too_long = 10
number_of not_well_formed = 11
number_of no_row = 12

-- a cause that is tried: its refusal where its condition holds
abbrev pub try : Refusal → Bool → Option Refusal
try r true = some r
try r false = none

-- The first of the causes tried that holds: the refusal. Every entry lists its causes once, in
-- document 01's order, and is refused by this.
unfoldable pub first_of : List (Option Refusal) → Option Refusal
first_of [] = none
first_of (none ∷ cs) = first_of cs
first_of (some r ∷ cs) = some r
