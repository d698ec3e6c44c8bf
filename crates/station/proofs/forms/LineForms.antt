-- Laws of what the code makes of a line.
--
-- In order: the first of two forms that is there (`or_else_is`); the seven forms in two parts (`form_parts`); a busy line by its
-- stretches (`busy_none`, `busy_some`); a call by its jobs (`call_none`, `call_some`);
-- a tie line by its text (`tie_hold_lem`, `tie_other`).
-- Assumes nothing.
use Prim.Native.Nat.{ℕ}
use mathlib.Core.Path.{◌≡◌, refl, sym, ◌∙◌, ap}
use mathlib.Core.Bool.{Bool, true, false}
use mathlib.Core.Option as math
use mathlib.Core.Option.{none, some}
use mathlib.Core.List.{List}
use Rattle.std.specs.Prelude.{Option, Some, None, MatchOption}
use Rattle.std.specs.Bool.{then_some}
use Rattle.station.specs.declared.forms.Line.{Line}
use Rattle.station.specs.declared.forms.Line.TheVariants.{Busy, Call, Tie}
use Rattle.station.specs.declared.brackets.Jobs.{Jobs}
use Rattle.station.specs.Form.{Pairs, CallJobs, Form, busy_line, call_line, tie_line, ◌or_else◌, made}
use Rattle.station.specs.Form.{frame_in, busy_in, preset_in, tie_in, supply_in, form, word, whole}
use Rattle.station.specs.Jobs.{seen}
use Rattle.station.specs.method.ReadLine.{line_in, head_form, event_form}
use Rattle.station.specs.method.Bracket.{busy_mask_in, jobs_made, jobs_read}
use Rattle.station.specs.method.Numeral.{closes}
use Rattle.station.specs.Text.{bytes}
use Rattle.station.proofs.numbers.Recognised.{ends_yes, ends_no}

-- ---- the first of two forms that is there

-- r is what h holds, and where it holds nothing what P says: h being the line of x, and P saying that r is the line of y, r is that of the first of the two
pub or_else_is : {P : Type 0} (hi : ℕ) (x y : math.Option Form) (h r : Option Line)
    → h ≡ line_in hi x → MatchOption h P (λ l. r ≡ Some l) → (P → r ≡ line_in hi y) → r ≡ line_in hi (x or_else y)
or_else_is hi none y h r e m f = f (rw e at m)
or_else_is hi (some g) y h r e m f = rw e at m

or_four : (x y z v w : math.Option Form) → (x or_else y or_else z or_else v or_else w) ≡ ((x or_else y or_else z or_else v) or_else w)
or_four none none none v w = refl
or_four none none (some g) v w = refl
or_four none (some g) z v w = refl
or_four (some f) y z v w = refl

-- the seven forms in two parts
pub form_parts : (l : List ℕ) → form l ≡ (head_form l or_else event_form l)
unfolding form
form_parts l = or_four (frame_in l) (busy_in l) (preset_in l) (supply_in l) (event_form l)

-- ---- a busy line by its stretches

module _ (hi b : ℕ) where
  pub busy_none : (o : math.Option Pairs) → None ≡ busy_mask_in hi o → made (busy_line b) o ≡ none
  busy_none none e = refl
  busy_none (some p) e = absurd cc

  pub busy_some : (o : math.Option Pairs) (m : Option ℕ) → Some m ≡ busy_mask_in hi o → Some (Busy (seen b) m) ≡ line_in hi (made (busy_line b) o)
  busy_some none m e = absurd cc
  busy_some (some p) m e = cc

-- ---- a call by its jobs

pub call_none : (o : math.Option CallJobs) → None ≡ jobs_read o → made call_line o ≡ none
call_none none e = refl
call_none (some p) e = absurd cc

pub call_some : (hi : ℕ) (o : math.Option CallJobs) (j : Jobs) → Some j ≡ jobs_read o → Some (Call j) ≡ line_in hi (made call_line o)
call_some hi none j e = absurd cc
call_some hi (some p) j e = let same : j ≡ jobs_made p = cc in rw same refl

-- ---- a tie line by its text

module _ (t : List ℕ) where
  -- whether the line is `(tie hold)`, and whether it is `(tie place)`
  abbrev is_hold : Bool
  is_hold = closes (bytes "(tie hold)\n") t 0

  abbrev is_place : Bool
  is_place = closes (bytes "(tie place)\n") t 0

  pub tie_hold_lem : is_hold ≡ true → tie_in t ≡ some (tie_line true)
  unfolding tie_in
  tie_hold_lem h =
      let a : word (bytes "(tie hold)\n") t (whole (tie_line true)) ≡ some (tie_line true) = ends_yes t (bytes "(tie hold)\n") 0 (tie_line true) h in
      rw a refl

  not_hold : is_hold ≡ false → tie_in t ≡ word (bytes "(tie place)\n") t (whole (tie_line false))
  unfolding tie_in
  not_hold h =
      let a : word (bytes "(tie hold)\n") t (whole (tie_line true)) ≡ none = ends_no t (bytes "(tie hold)\n") 0 (tie_line true) h in
      rw a refl

  -- the other of the two texts
  pub tie_place_lem : is_hold ≡ false → is_place ≡ true → tie_in t ≡ some (tie_line false)
  tie_place_lem h p = not_hold h ∙ ends_yes t (bytes "(tie place)\n") 0 (tie_line false) p

  -- the other of the two texts, or none
  pub tie_other : (hi : ℕ) → is_hold ≡ false → (b : Bool) → b ≡ is_place → then_some b (Tie false) ≡ line_in hi (tie_in t)
  tie_other hi h true e = ap (line_in hi) (sym (tie_place_lem h (sym e)))
  tie_other hi h false e = ap (line_in hi) (sym (not_hold h ∙ ends_no t (bytes "(tie place)\n") 0 (tie_line false) (sym e)))
