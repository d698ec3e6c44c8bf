-- Laws of the records and answers that the layers share.
--
-- In order: the first n preset records from one place on: one record and the others (`records_step`); the code's refusals and the
-- definitions' are each other's (`refusal_in_lem`, `refusal_of_lem`), so an equation of causes fixes the answer.
-- Assumes nothing.
use Prim.Native.Nat.{ℕ, suc, ◌≤◌, ◌<◌}
use native.Mathlib.Omega.{arith}
use mathlib.Core.Path.{◌≡◌, refl, ◌∙◌, ap}
use mathlib.Core.List.{List, ◌∷◌}
use lib.ListN.{length, take, drop, get_or}
use lib.Seq.{drop-cons, get_or-take, length-take-le}
use Rattle.station.specs.declared.types.Preset.{Preset}
use Rattle.station.specs.declared.types.Refusal.{Refusal}
use Rattle.station.specs.declared.types.Refusal.TheVariants.{NoForm, OutOfLimits, OutOfPlace, NumberUsed, MandatoryNotFeasible, ClockBack, CallNotFeasible, TooShort, TooMany, TextTooLong, NotWellFormed, NoRow}
use Rattle.station.specs.Refusal as cause
use Rattle.station.specs.Types.{refusal_in, refusal_of, no_record}

pub records_step : (i n : ℕ) (ps : List Preset) → i < n → n ≤ length ps → drop i (take n ps) ≡ get_or ps i no_record ∷ drop (suc i) (take n ps)
records_step i n ps h l =
    let m : length (take n ps) ≡ n = length-take-le n ps l in
    let k : i < length (take n ps) = omega arith in
    drop-cons (take n ps) i no_record k ∙ ap (λ (p : Preset). p ∷ drop (suc i) (take n ps)) (get_or-take n ps i no_record h)

pub refusal_in_lem : (r : Refusal) → refusal_of (refusal_in r) ≡ r
refusal_in_lem NoForm = refl
refusal_in_lem OutOfLimits = refl
refusal_in_lem OutOfPlace = refl
refusal_in_lem NumberUsed = refl
refusal_in_lem MandatoryNotFeasible = refl
refusal_in_lem ClockBack = refl
refusal_in_lem CallNotFeasible = refl
refusal_in_lem TooShort = refl
refusal_in_lem TooMany = refl
refusal_in_lem TextTooLong = refl
refusal_in_lem NotWellFormed = refl
refusal_in_lem NoRow = refl

pub refusal_of_lem : (c : cause.Refusal) → refusal_in (refusal_of c) ≡ c
refusal_of_lem cause.no_form = refl
refusal_of_lem cause.out_of_limits = refl
refusal_of_lem cause.out_of_place = refl
refusal_of_lem cause.number_used = refl
refusal_of_lem cause.mandatory_not_feasible = refl
refusal_of_lem cause.clock_back = refl
refusal_of_lem cause.call_not_feasible = refl
refusal_of_lem cause.too_short = refl
refusal_of_lem cause.too_many = refl
refusal_of_lem cause.text_too_long = refl
refusal_of_lem cause.not_well_formed = refl
refusal_of_lem cause.no_row = refl
