-- Laws of event lines.
--
-- In order: a line that begins as a call has no other form (`call_form`); the event of what was read is
-- the line's (`call_read_lem`, `call_lacks`, `call_has`, `line_lacks`, `line_has`).
-- Assumes nothing.
use Prim.Native.Nat.{ℕ}
use mathlib.Core.Path.{◌≡◌, refl, sym, ◌∙◌, ap}
use mathlib.Core.Bool.{true}
use mathlib.Core.Option.{Option, none, some}
use mathlib.Core.List.{List}
use lib.ListN.{drop}
use Rattle.std.specs.Prelude as code
use Rattle.std.specs.Prelude.{Some, Result, Ok, Err, ok_or}
use Rattle.station.specs.method.Numeral.{word_at}
use Rattle.station.proofs.numbers.Recognised.{word_stands, word_end}
use Rattle.station.specs.declared.types.Refusal.{Refusal}
use Rattle.station.specs.Text.{bytes}
use Rattle.station.specs.Form.{CallJobs, Form, frame_line, busy_line, preset_line, clock_line, call_line, tie_line, supply_line, starts, word, ◌or_else◌, made, read_jobs}
use Rattle.station.specs.Form.{frame_in, busy_in, preset_in, supply_in, clock_in, call_in, tie_in, form}
use Rattle.station.proofs.Form.{word_had}
use Rattle.station.specs.declared.brackets.Jobs.{Jobs}
use Rattle.station.specs.declared.forms.Line.{Line}
use Rattle.station.specs.declared.types.Refusal.TheVariants.{NoForm}
use Rattle.station.specs.method.Bracket.{jobs_made, jobs_read}
use Rattle.station.specs.method.ReadLine.{said, line_in}
use Rattle.station.specs.Event.{call_event, line_event, event_in}

-- ---- the first word of a call

or_none : {A : Type 0} (o : Option A) → (o or_else none) ≡ o
or_none none = refl
or_none (some a) = refl

-- the second or third byte tells it from the other forms
pub call_form : (l : List ℕ) → starts (bytes "(call ") l ≡ true → form l ≡ made call_line (read_jobs (drop 6 l))
unfolding form frame_in busy_in preset_in supply_in clock_in call_in tie_in word starts bytes
call_form l e = word_had (bytes "(call ") l (λ r. some r) (drop 6 l) (rw e refl) (λ r h q. rw h (or_none (made call_line (read_jobs r))))

-- ---- the event of what was read

-- a call's event, by the jobs that were read of it
pub call_read_lem : (l : List ℕ) (j : Jobs) → starts (bytes "(call ") l ≡ true → Some j ≡ jobs_read (read_jobs (drop 6 l)) → call_event j ≡ event_in (form l)
call_read_lem l j s e = go (read_jobs (drop 6 l)) e ∙ ap event_in (sym (call_form l s))
  where
    go : (p : Option CallJobs) → Some j ≡ jobs_read p → call_event j ≡ event_in (made call_line p)
    go none q = absurd cc
    go (some p) q = let k : j ≡ jobs_made p = cc in rw k refl

-- the place after a call's first word
call_start : (l : List ℕ) (at : ℕ) → Some at ≡ word_at (bytes "(call ") l 0 → at ≡ 6
unfolding bytes
call_start l at e = word_end l (bytes "(call ") 0 at e

module _ (l : List ℕ) (at : ℕ) (at-is : Some at ≡ word_at (bytes "(call ") l 0) (o : code.Option Jobs) (same : o ≡ jobs_read (read_jobs (drop at l))) where
  -- the line is a call or none
  call_at : form l ≡ made call_line (read_jobs (drop at l))
  call_at = rw (call_start l at at-is) (call_form l (word_stands l (bytes "(call ") 0 at at-is))

  -- a call by its first word
  pub call_lacks : (c : Refusal) → Err c ≡ ok_or o NoForm → Err c ≡ event_in (form l)
  call_lacks c e = go (read_jobs (drop at l)) same ∙ ap event_in (sym call_at)
    where
      go : (p : Option CallJobs) → o ≡ jobs_read p → Err c ≡ event_in (made call_line p)
      go none q = let z : ◌≡◌ {A = Result Jobs Refusal} (Err c) (Err NoForm) = rw q at e in let k : c ≡ NoForm = cc in rw k refl
      go (some p) q = let z : Err c ≡ Ok (jobs_made p) = rw q at e in absurd cc

  pub call_has : (j : Jobs) → Ok j ≡ ok_or o NoForm → call_event j ≡ event_in (form l)
  call_has j e =
      call_read_lem l j (word_stands l (bytes "(call ") 0 at at-is)
      (had o e ∙ same ∙ ap (λ (n : ℕ). jobs_read (read_jobs (drop n l))) (call_start l at at-is))
    where
      had : (p : code.Option Jobs) → Ok j ≡ ok_or p NoForm → Some j ≡ p
      had code.None q = absurd (let z : Ok j ≡ Err NoForm = q in cc)
      had (Some k) q = let z : Ok j ≡ Ok k = q in let y : j ≡ k = cc in ap Some y

module _ (hi : ℕ) where
  -- any line by what it says
  pub line_lacks : (f : Option Form) (o : code.Option Line) → o ≡ line_in hi f → (c : Refusal) → Err c ≡ ok_or o NoForm → Err c ≡ event_in f
  line_lacks none o q c e = let z : ◌≡◌ {A = Result Line Refusal} (Err c) (Err NoForm) = rw q at e in let k : c ≡ NoForm = cc in rw k refl
  line_lacks (some f) o q c e = let z : Err c ≡ Ok (said hi f) = rw q at e in absurd cc

  said_event : (f : Form) → line_event (said hi f) ≡ event_in (some f)
  said_event (frame_line a b) = refl
  said_event (busy_line b p) = refl
  said_event (preset_line p) = refl
  said_event (clock_line t) = refl
  said_event (call_line p) = refl
  said_event (tie_line hold) = refl
  said_event (supply_line k) = refl

  pub line_has : (f : Option Form) (o : code.Option Line) → o ≡ line_in hi f → (l : Line) → Ok l ≡ ok_or o NoForm → line_event l ≡ event_in f
  line_has none o q l e = let z : Ok l ≡ Err NoForm = rw q at e in absurd cc
  line_has (some f) o q l e =
      let z : Ok l ≡ Ok (said hi f) = rw q at e in
      let k : l ≡ said hi f = cc in
      ap line_event k ∙ said_event f
