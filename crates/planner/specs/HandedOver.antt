-- Lines handed over one by one to `planner_event`, the frame as numbers and the presets as bytes. Document 01, "What demand 3 speaks of".
--
-- In order: what the list starts from (`LetPassOn`); a line's answer as numbers (`Answered`, `answered_by`); the list, each call by its contract (`HandedOn`); what is claimed of it
-- (`HandedOnClaim`), and of a text and the lines handed over after it (`AfterTextClaim`).
-- Assumes nothing.
use Rattle.std.specs.Prelude.{ℕ, ◌≤◌, ◌≡◌, List, [], ◌∷◌, ◌++◌, map, length, get_or}
use Rattle.std.proofs.Math.Option.{none}
use Rattle.laws.specs.Sums.{bit}
use Rattle.station.specs.Head.{Head}
use Rattle.station.specs.Refusal.{first_of}
use Rattle.placing.specs.Outcomes.{plan_of}
use Rattle.placing.specs.Causes.{frame_causes_of}
use Rattle.frame.specs.Event.{line, Answer, Run, run_of}
use Rattle.frame.specs.Text.{start_of, events_of}
use Rattle.frame.specs.Demands.{Demand3}
use Rattle.planner.specs.Layout.{records_in, clock_place, tie_in_force, head_of_numbers}
use Rattle.planner.specs.Exports.{head_on, state_on, short_causes, event_on, answer_returned, value, EventLeaves, EventPromise}

-- "any sound table and clock that 11 lets pass": none of the causes that `planner_event` tries of the frame, the presets and the table holds.
abbrev pub LetPassOn : List ℕ → List ℕ → List ℕ → Type 0
LetPassOn frame presets t = first_of (short_causes frame presets ++ frame_causes_of (head_of_numbers frame) (records_in presets) (state_on frame t)) ≡ none

-- what a line is answered, and its `number`
pub record Answered : Type 0 where
  pub answer : ℕ
  pub number : ℕ

abbrev pub answered_by : Answer → Answered
answered_by a = record { answer = (answer_returned a).number; number = value (answer_returned a) }

-- A list of lines handed over: both premises are what `planner_event` promises of one call, each call meets "the table and clock that the last one left" and the order of ties, and
-- "nobody else writes these, the head or the preset list meanwhile".
pub data HandedOn (presets : List ℕ) : List ℕ → List ℕ → List (List ℕ) → List Answered → List ℕ → List ℕ → Type 0 where
  no_more : {frame t : List ℕ} → HandedOn presets frame t [] [] frame t
  by_event : {frame t l frame₁ t₁ last end : List ℕ} {n r : ℕ} {ls : List (List ℕ)} {answers : List Answered} → EventLeaves (event_on frame presets t l) frame frame₁ t₁ n r
      → EventPromise frame presets t l frame₁ t₁ r → HandedOn presets frame₁ t₁ ls answers last end
      → HandedOn presets frame t (l ∷ ls) (record { answer = r; number = n } ∷ answers) last end

-- what the lines come to as a list of events on the frame
abbrev pub run_on : List ℕ → List ℕ → List ℕ → List (List ℕ) → Run
run_on frame presets t ls = run_of (head_on frame presets) (state_on frame t) (map line ls)

-- What is claimed of it: "one claim about the whole list". That it holds of every list handed over from such a start is `handed_on` in proofs/HandedOver.antt.
pub record HandedOnClaim (frame presets t : List ℕ) (ls : List (List ℕ)) (answers : List Answered) (last end : List ℕ) : Type 0 where
  pub answered : answers ≡ map answered_by (run_on frame presets t ls).answers
  -- the last frame and table stand for what the list leaves, and of the frame only the clock and the order of ties in force change
  pub left : state_on last end ≡ (run_on frame presets t ls).after
  pub numbers : length last ≡ length frame
  pub others : (i : ℕ) → (i ≡ clock_place → ⊥) → (i ≡ tie_in_force → ⊥) → get_or last i 0 ≡ get_or frame i 0
  -- where the order in force was 0 or 1, as a text that ran leaves it, it is so afterwards (another number that says hold stays while nothing changes the order)
  pub in_force : get_or frame tie_in_force 0 ≤ 1 → get_or last tie_in_force 0 ≡ bit (run_on frame presets t ls).after.hold
  pub demand3 : Demand3 (head_on frame presets) (state_on frame t) (map line ls)

-- What is claimed of a text that `planner_run_text` ran, with n head lines and the run x, and of lines handed over after it: its lines after the head and these are one list from the
-- plan's start on. That it holds is `text_then_lines` in proofs/HandedOver.antt.
pub record AfterTextClaim (text t : List ℕ) (h : Head) (n : ℕ) (x : Run) (ls : List (List ℕ)) (answers : List Answered) (last end : List ℕ) : Type 0 where
  pub answered : map answered_by x.answers ++ answers ≡ map answered_by (run_of h (start_of h (plan_of h t).table) (events_of text n ++ map line ls)).answers
  pub left : state_on last end ≡ (run_of h (start_of h (plan_of h t).table) (events_of text n ++ map line ls)).after
  pub demand3 : Demand3 h (start_of h (plan_of h t).table) (events_of text n ++ map line ls)
