-- Reading a head: line by line, and the cause for which a line is refused. Document 01, "The
-- station text" and "Causes"; document 02, 2026-02 and 2026-03. Assumes nothing.
use Rattle.std.specs.Prelude.{ℕ, suc, ◌-◌, ◌≤◌, ◌<◌, ◌≡◌, Bool, true, false, cond, not, ◌&&◌, List, [], ◌∷◌, ◌++◌, map, length, set, ltb, leb}
use Rattle.std.proofs.Math.Option.{Option, none, some}
use Rattle.station.specs.Limits.{most_motors, most_presets, most_bytes}
use Rattle.station.specs.Head.{Head, bare_head, with_supply, with_tie, with_busy, with_presets, within, frame_in_limits, preset_in_limits, has_number}
use Rattle.station.specs.Refusal.{Refusal, no_form, out_of_limits, out_of_place, number_used, too_many, text_too_long, try, first_of}
use Rattle.station.specs.Text.{lines}
use Rattle.station.specs.Form.{Form, frame_line, busy_line, preset_line, clock_line, call_line, tie_line, supply_line, is_event, is_tie, print, form}
use Rattle.station.specs.Writing.{mask_of, ordered}

-- a head and the number of its lines, or of the rows that were put into it; or the line or row,
-- counted from 1, and what it is refused for
pub data Reading : Type 0 where
  accepted : Head → ℕ → Reading
  refused : ℕ → Refusal → Reading

-- How far a head was read, "in this order": at the frame line; directly after it, where its supply
-- line stands, and its tie line where there is no supply line; right after the supply line, where
-- its tie line stands; at the busy lines, the next with this bridge at the least; at the presets.
pub data Stage : Type 0 where
  at_frame : Stage
  at_supply : Stage
  at_tie : Stage
  at_busy : ℕ → Stage
  at_presets : Stage

-- the frame line was read
abbrev pub begun : Stage → Bool
begun at_frame = false
begun at_supply = true
begun at_tie = true
begun (at_busy b) = true
begun at_presets = true

-- the last line read was the frame line or its supply line
abbrev pub directly : Stage → Bool
directly at_frame = false
directly at_supply = true
directly at_tie = true
directly (at_busy b) = false
directly at_presets = false

-- What the lines read so far make: the stage, and the head.
pub record SoFar : Type 0 where
  pub stage : Stage
  pub head : Head

-- before line 1: no frame yet, and nothing of a head
abbrev pub begin : SoFar
begin = record { stage = at_frame; head = bare_head 0 0 }

-- ---- the causes of a line with a form, each from its row of the table

-- a busy line of bridge b: before the presets, and "Bridges ascend from line to line; one that does
-- not is out of its place"
abbrev pub busy_misplaced : Stage → ℕ → Bool
busy_misplaced at_frame b = true
busy_misplaced at_supply b = false
busy_misplaced at_tie b = false
busy_misplaced (at_busy least) b = ltb b least
busy_misplaced at_presets b = true

-- a supply line: "stands right after the frame line"
abbrev pub supply_misplaced : Stage → Bool
supply_misplaced at_frame = true
supply_misplaced at_supply = false
supply_misplaced at_tie = true
supply_misplaced (at_busy least) = true
supply_misplaced at_presets = true

-- a tie line: directly after the frame line "`(tie place)` there is a head line and meets 3", and
-- so right after a supply line; it is tried in these places and on line 1 only
abbrev pub tie_misplaced : Stage → Bool → Bool
tie_misplaced at_frame hold = true
tie_misplaced at_supply hold = not hold
tie_misplaced at_tie hold = not hold
tie_misplaced (at_busy least) hold = true
tie_misplaced at_presets hold = true

-- What is tried of a line with a form after what was read so far, each from its row of the table,
-- and what the lines make with it where no cause holds.
pub record Tried : Type 0 where
  pub misplaced : Bool  -- "a form out of its place; no frame on line 1"
  pub outside : Bool  -- "a value or busy stretch outside its limits, the frame included for b, f and t (m, o and c may exceed S)"
  pub used : Bool  -- "a number already used"
  pub full : Bool  -- "33rd preset"
  pub next : SoFar

-- One clause for each form: the frame "once, on line 1"; a busy line is its bridge's mask; a preset
-- comes last in file order; an event after the frame line ends the head, so that of the causes it
-- can meet only the first; a tie line that does not end it is the head's; of a supply line "k from
-- 1 to 8".
unfoldable pub tried : SoFar → Form → Tried
tried r (frame_line s b) = record {
  misplaced = begun r.stage;
  outside = not (frame_in_limits s b);
  used = false;
  full = false;
  next = record { stage = at_supply; head = bare_head s b };
}
tried r (busy_line b p) = record {
  misplaced = busy_misplaced r.stage b;
  outside = not (within 1 r.head.bridges b && ordered 1 r.head.slots p);
  used = false;
  full = false;
  next = record { stage = at_busy (suc b); head = with_busy r.head (set r.head.busy (b - 1) (mask_of p)) };
}
tried r (preset_line p) = record {
  misplaced = not (begun r.stage);
  outside = not (preset_in_limits p);
  used = has_number p.number r.head.presets;
  full = leb most_presets (length r.head.presets);
  next = record { stage = at_presets; head = with_presets r.head (r.head.presets ++ (p ∷ [])) };
}
tried r (clock_line t) = record { misplaced = not (begun r.stage); outside = false; used = false; full = false; next = r }
tried r (call_line p) = record { misplaced = not (begun r.stage); outside = false; used = false; full = false; next = r }
tried r (tie_line hold) = record {
  misplaced = tie_misplaced r.stage hold;
  outside = false;
  used = false;
  full = false;
  next = record { stage = at_busy 0; head = with_tie r.head hold };
}
tried r (supply_line k) = record {
  misplaced = supply_misplaced r.stage;
  outside = not (within 1 most_motors k);
  used = false;
  full = false;
  next = record { stage = at_tie; head = with_supply r.head k };
}

-- ---- "Tried in the order 10, 8, 11, 1, 3, 2, 4, 9": the order within a line that has a form, once

-- the causes of a line that has a form, in the listed order: 3, 2, 4, 9
abbrev pub causes : SoFar → Form → List (Option Refusal)
causes r f =
    try out_of_place (tried r f).misplaced ∷ try out_of_limits (tried r f).outside ∷ try number_used (tried r f).used ∷ try too_many (tried r f).full ∷ []

-- ---- line by line

-- "The head ends before the first line that has an event's form"; on line 1 such a line is out of
-- its place. A tie line directly after the frame line is one of the head: "Directly after the frame
-- line `(tie hold)` holds for the plan and the calls, and `(tie place)` there is a head line"; and
-- so is one right after a supply line: "the place of a head's tie line is then right after it".
abbrev pub ends : SoFar → Form → Bool
ends r f = is_event f && not (is_tie f && directly r.stage) && begun r.stage

-- what the lines make with one more, for which no cause holds
abbrev pub more : SoFar → Form → SoFar
more r f = (tried r f).next

-- the refusal of line n, or the reading without one
abbrev pub unless : Option Refusal → ℕ → Reading → Reading
unless none n x = x
unless (some c) n x = refused n c

-- n lines were read and make r: the reading of the lines that are left
unfoldable pub read_from : ℕ → SoFar → List (Option Form) → Reading
read_from n r [] = cond (begun r.stage) (accepted r.head n) (refused 1 out_of_place)
read_from n r (none ∷ ls) = refused (suc n) no_form
read_from n r (some f ∷ ls) =
    let rest = read_from (suc n) (more r f) ls in
    cond (ends r f) (accepted r.head n) (unless (first_of (causes r f)) (suc n) rest)

-- The reading of a text. "text above 32,768 bytes": 10, at line 0. "No text at all: 3 at line 1."
unfoldable pub head_of : List ℕ → Reading
head_of t =
    let rest = read_from 0 begin (map form (lines t)) in
    cond (ltb most_bytes (length t)) (refused 0 text_too_long) rest

-- ---- the same in the paper's words, without a method: proofs/Reading.antt shows that `head_of` is just this

-- The lines fs, read after r, are lines of the head without a fault, and make q.
pub data Passes : SoFar → List Form → SoFar → Type 0 where
  no_more : {r : SoFar} → Passes r [] r
  one_more : {r q : SoFar} {f : Form} {fs : List Form}
      → ends r f ≡ false → first_of (causes r f) ≡ none → Passes (more r f) fs q → Passes r (f ∷ fs) q

-- The n lines before made q: what decides is the end of the text, or the line that comes next.
pub data Stops (n : ℕ) (q : SoFar) : List (List ℕ) → Reading → Type 0 where
  -- "The head ends .. with the text"
  at_end : begun q.stage ≡ true → Stops n q [] (accepted q.head n)
  -- "The head ends before the first line that has an event's form"
  at_event : {l : List ℕ} {ls : List (List ℕ)} {f : Form} → form l ≡ some f → ends q f ≡ true → Stops n q (l ∷ ls) (accepted q.head n)
  -- "a line that is not one of the five forms, or lacks its end", which are six since 2026-02 and
  -- seven since 2026-03
  at_no_form : {l : List ℕ} {ls : List (List ℕ)} → form l ≡ none → Stops n q (l ∷ ls) (refused (suc n) no_form)
  -- "In a head, the first line at fault decides", by the first of its causes in the listed order
  at_fault : {l : List ℕ} {ls : List (List ℕ)} {f : Form} {c : Refusal}
      → form l ≡ some f → ends q f ≡ false → first_of (causes q f) ≡ some c → Stops n q (l ∷ ls) (refused (suc n) c)

-- What the papers say of a text: how its head reads.
pub data Means (t : List ℕ) : Reading → Type 0 where
  -- "text above 32,768 bytes"
  too_long : most_bytes < length t → Means t (refused 0 text_too_long)
  -- "No text at all: 3 at line 1."
  no_text : t ≡ [] → Means t (refused 1 out_of_place)
  -- lines without a fault, and then what decides
  by_lines : {fs : List Form} {q : SoFar} {ls : List (List ℕ)} {x : Reading}
      → length t ≤ most_bytes → lines t ≡ map print fs ++ ls → Passes begin fs q → Stops (length fs) q ls x → Means t x
