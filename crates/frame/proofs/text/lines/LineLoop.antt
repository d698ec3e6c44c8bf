-- The loop over the lines of a text, or those after its head: what holds between two lines, and at the end.
--
-- In order: between two lines (`AtEvent`, `at_first`); at a line (`line_room`), and after it (`at_next`); no line is left (`at_end`).
-- Assumes nothing.
use Prim.Native.Nat.{ℕ, suc, ◌+◌, ◌≤◌}
use native.Mathlib.Omega.{arith}
use native.Mathlib.Numerals.{add-one}
use mathlib.Core.Path.{◌≡◌, refl, sym, ◌∙◌, ap, subst}
use mathlib.Core.Bool.{true}
use mathlib.Core.Option.{none}
use mathlib.Core.List.{List, [], ◌∷◌, ◌++◌, map}
use lib.ListN.{length, drop, length-drop}
use Rattle.std.specs.Prelude.{Result}
use Rattle.station.specs.Head.{Head}
use Rattle.station.specs.Text.{lines}
use Rattle.station.specs.Refusal.{first_of}
use Rattle.station.specs.Types.{head_in, valid_record}
use Rattle.station.specs.Wrote.{Writes, Rest}
use Rattle.station.specs.declared.output.Writer.{Writer}
use Rattle.station.specs.declared.types.Preset as record-of-preset
use Rattle.station.specs.declared.types.Head as record-of-head
use Rattle.station.specs.declared.types.Refusal as cause
use Rattle.station.proofs.Theorems.{lines_few, rest_all, rest_wrote, rest_none}
use Rattle.placing.specs.Causes.{frame_causes_of}
use Rattle.placing.specs.Table.{cell}
use Rattle.placing.specs.State.{State, state_at}
use Rattle.placing.specs.declared.moment.Moment.{Moment}
use Rattle.placing.specs.declared.counts.Counts.{Counts}
use Rattle.placing.specs.Claims.{Running}
use Rattle.placing.specs.method.Counts.{CountsOf}
use Rattle.frame.specs.declared.types.Answer as reply
use Rattle.frame.specs.Event.{Event, line, Answer, Outcome, event_of, run_of}
use Rattle.frame.specs.Types.{answer_in, outcome}
use Rattle.frame.specs.Listing.{answer_line, answer_lines}
use Rattle.frame.specs.EventDone.{Yields}
use Rattle.frame.specs.method.EventParts.{line_meant}
use Rattle.frame.specs.method.TextLines.{LinesStart, lines_run, RanLines}
use Rattle.frame.proofs.OneEvent.{event_running}
use Rattle.frame.proofs.KeptCells.{run_kept}
use Rattle.placing.proofs.Theorems.{running_frame}
use Rattle.frame.proofs.event.EventAnswers.{line_done}

-- one event more, and none
run_cons : (h : Head) (st : State) (e : Event) (es : List Event)
    → ((run_of h st (e ∷ es)).after ≡ (run_of h (event_of h st e).after es).after)
    × ((run_of h st (e ∷ es)).answers ≡ (event_of h st e).answer ∷ (run_of h (event_of h st e).after es).answers)
unfolding run_of
run_cons h st e es = (refl, refl)

run_none : (h : Head) (st : State) → ((run_of h st []).after ≡ st) × ((run_of h st []).answers ≡ [])
unfolding run_of
run_none h st = (refl, refl)

answers_cons : (n : ℕ) (a : Answer) (rest : List Answer) → answer_lines n (a ∷ rest) ≡ answer_line (suc n) a ++ answer_lines (suc n) rest
unfolding answer_lines
answers_cons n a rest = refl

answers_none : (n : ℕ) → answer_lines n [] ≡ []
unfolding answer_lines
answers_none n = refl

-- an event leaves the table's length
event_size : (h : Head) (st : State) (e : Event) → Running h st → length (event_of h st e).after.table ≡ length st.table
unfolding run_of
event_size h st e run = (run_kept h st (e ∷ []) run).past.long

-- ---- between two lines

-- The lines of a text from the byte `from` on are run on the state `start`, `first` lines having
-- gone before, and the answers are written by w. So far n lines of the text were read, and those that
-- are left are `left`; they left the table u, the clock and the order of ties of the moment m, and
-- the writer w₁. The counts k are those of u and the clock.
pub record AtEvent (head : record-of-head.Head) (ps : List record-of-preset.Preset) (text : List ℕ) (from first : ℕ) (start : State) (w : Writer) (left : List (List ℕ)) (n : ℕ)
    (m : Moment) (u : List ℕ) (w₁ : Writer) (k : Counts) : Type 0 where
  pub valid : valid_record head ps ≡ true
  pub running : Running (head_in head ps) (state_at u m)
  pub counted : CountsOf (head_in head ps) m.clock (cell (head_in head ps) u) k
  pub size : length u ≡ length start.table
  pub room : n + length left ≤ 32768
  pub after : (run_of (head_in head ps) (state_at u m) (map line left)).after ≡ (lines_run (head_in head ps) text from start).after
  pub output :
      Rest w (answer_lines first (lines_run (head_in head ps) text from start).answers) w₁
      (answer_lines n (run_of (head_in head ps) (state_at u m) (map line left)).answers)

pub at_first : (head : record-of-head.Head) (ps : List record-of-preset.Preset) (text : List ℕ) (from first : ℕ) (t : List ℕ) (m : Moment) (w : Writer)
    {k : Counts} → LinesStart head ps text from first (state_at t m)
    → (valid_record head ps ≡ true → 512 ≤ length t → CountsOf (head_in head ps) m.clock (cell (head_in head ps) t) k)
    → AtEvent head ps text from first (state_at t m) w (lines (drop from text)) first m t w k
at_first head ps text from first t m w s right = record {
  valid = s.valid;
  running = s.running;
  counted = right s.valid s.running.long;
  size = refl;
  room = omega (arith, s.few, s.inside, s.short, lines_few (drop from text), length-drop from text);
  after = refl;
  output = rest_all w (answer_lines first (lines_run (head_in head ps) text from (state_at t m)).answers);
}

module _ {head : record-of-head.Head} {ps : List record-of-preset.Preset} {text : List ℕ} {from first : ℕ} {start : State} {w : Writer} {left : List (List ℕ)} {n : ℕ}
    {m : Moment} {u : List ℕ} {w₁ : Writer} {k : Counts} (a : AtEvent head ps text from first start w left n m u w₁ k) where
  abbrev h : Head
  h = head_in head ps

  abbrev st : State
  st = state_at u m

  -- what is to be written for the whole run
  abbrev all : List ℕ
  all = answer_lines first (lines_run h text from start).answers

  -- the frame meets no cause
  at_free : first_of (frame_causes_of head ps st) ≡ none
  at_free = running_frame head ps st a.valid a.running

  -- ---- at a line

  module _ {x : List ℕ} {rest : List (List ℕ)} (here : left ≡ x ∷ rest) where
    pub line_room : n + 1 ≤ 32768
    line_room = omega (arith, a.room, ap length here)

    abbrev done : Outcome
    done = event_of h st (line x)

    -- what the event leaves goes to those after it, and its answer is written before theirs
    after_here : (run_of h st (map line left)).after ≡ (run_of h done.after (map line rest)).after
    after_here = ap (λ (ls : List (List ℕ)). (run_of h st (map line ls)).after) here ∙ (run_cons h st (line x) (map line rest)).0

    output_here : answer_lines n (run_of h st (map line left)).answers
        ≡ answer_line (suc n) done.answer ++ answer_lines (suc n) (run_of h done.after (map line rest)).answers
    output_here =
        ap (λ (ls : List (List ℕ)). answer_lines n (run_of h st (map line ls)).answers) here
        ∙ ap (answer_lines n) (run_cons h st (line x) (map line rest)).1
        ∙ answers_cons n done.answer (run_of h done.after (map line rest)).answers

    -- the event was answered, and its answer written
    pub at_next : {u₁ : List ℕ} {w₂ : Writer} {y : Result reply.Answer cause.Refusal} {m₁ : Moment} {k₁ : Counts}
        → (valid_record head ps ≡ true → Running h st → CountsOf h m.clock (cell h u) k
        → Yields (line_meant head ps st x) u₁ (outcome y m₁) × CountsOf h m₁.clock (cell h u₁) k₁)
        → Writes w₁ (answer_line (n + 1) (answer_in y)) w₂
        → AtEvent head ps text from first start w rest (n + 1) m₁ u₁ w₂ k₁
    at_next {u₁} {w₂} {y} {m₁} d v =
        let left_by_lem = d a.valid a.running a.counted in
        let z = line_done head ps st at_free x left_by_lem.0 in
        let run : Running h (state_at u₁ m₁) = rw (z.clock, z.table, z.hold) (event_running h st (line x) a.running) in
        let leaves : state_at u₁ m₁ ≡ done.after = rw (z.table, z.clock, z.hold) refl in
        let wrote : Writes w₁ (answer_line (suc n) done.answer) w₂ =
        subst (λ (b : Answer). Writes w₁ (answer_line (suc n) b) w₂) z.answer
        (subst (λ (i : ℕ). Writes w₁ (answer_line i (answer_in y)) w₂) (add-one n) v) in
        rw (add-one n)
        (record {
          valid = a.valid;
          running = run;
          counted = left_by_lem.1;
          size = ap length z.table ∙ event_size h st (line x) a.running ∙ a.size;
          room = omega (arith, a.room, ap length here);
          after = ap (λ (v : State). (run_of h v (map line rest)).after) leaves ∙ sym after_here ∙ a.after;
          output =
              subst (λ (v : State). Rest w all w₂ (answer_lines (suc n) (run_of h v (map line rest)).answers)) (sym leaves)
              (rest_wrote (answer_line (suc n) done.answer) (answer_lines (suc n) (run_of h done.after (map line rest)).answers)
              (subst (Rest w all w₁) output_here a.output) wrote);
        })

  -- ---- no line is left

  pub at_end : left ≡ [] → RanLines h text from first start w u m w₁
  at_end none_left =
      let z = run_none h st in
      let same : st ≡ (lines_run h text from start).after = sym z.0 ∙ ap (λ (ls : List (List ℕ)). (run_of h st (map line ls)).after) (sym none_left) ∙ a.after in
      record {
        table = ap (λ (s : State). s.table) same;
        clock = ap (λ (s : State). s.clock) same;
        hold = ap (λ (s : State). s.hold) same;
        output =
            rest_none
            (subst (Rest w all w₁)
            (ap (λ (ls : List (List ℕ)). answer_lines n (run_of h st (map line ls)).answers) none_left ∙ ap (answer_lines n) z.1 ∙ answers_none n)
            a.output);
      }
