-- One line more in the reading of a head, in the code's types: what the functions below
-- `read_head_by_value` are held to. A line's numbers are as they are read. Document 01, "The
-- station text" and "Causes".
--
-- In order: the answers (`accepted_read`, `refused_read`); the state between two lines and what it
-- stands for (`no_state`, `stage_in`, `so_far_in`); the verdict on a line and the state after it
-- (`Step`); one line more, by its form (`frame_step`, `supply_step`, `head_tie_step`, `tie_step`,
-- `busy_step`, `preset_step`), on line 1 (`first_step`), after it (`next_step`), and anywhere (`step_of`). That a step is what `read_from` makes of the line is
-- shown in proofs/heads/StepMeaning.antt. Assumes nothing.
use Rattle.std.specs.Prelude as code-option
use Rattle.std.specs.Prelude.{ℕ, ◌+◌, ◌-◌, Bool, true, false, not, ◌&&◌, List, [], ◌∷◌, map, take, set, leb, Some, None, is_some, unwrap_or, Result, Ok, Err}
use Rattle.std.proofs.Math.Option.{Option, none, some}
use Rattle.station.specs.Limits.{most_motors, most_presets}
use Rattle.station.specs.declared.types.Preset.{Preset}
use Rattle.station.specs.declared.types.Head.{Head}
use Rattle.station.specs.declared.types.Refusal.{Refusal}
use Rattle.station.specs.declared.forms.Line.{Line}
use Rattle.station.specs.declared.forms.Line.TheVariants as line
use Rattle.station.specs.declared.forms.PresetLine.{PresetLine}
use Rattle.station.specs.declared.heads.steps.Stage as code
use Rattle.station.specs.declared.heads.steps.Stage.TheVariants.{Frame, Supply, Tie, Busy, Presets}
use Rattle.station.specs.declared.heads.steps.State.{State}
use Rattle.station.specs.declared.heads.steps.Going.{Going}
use Rattle.station.specs.declared.heads.steps.Going.TheVariants.{Goes, Ends}
use Rattle.station.specs.Head as meant
use Rattle.station.specs.Head.{preset_of}
use Rattle.station.specs.Refusal as meant-refusal
use Rattle.station.specs.Refusal.{try, first_of, no_form, out_of_limits, out_of_place, number_used, too_many}
use Rattle.station.specs.Reading.{Stage, at_frame, at_supply, at_tie, at_busy, at_presets, begun, supply_misplaced, busy_misplaced, SoFar}
use Rattle.station.specs.Types.{refusal_of, preset_in, bare_record, with_supplied, with_hold, with_masks, with_count, head_in}
use Rattle.station.specs.ReadHead.{record_of, extent, fault, HeadRead, left_by}

-- ---- the answers, in the code's values

-- the lines and bytes of a head that was read, and its state
abbrev pub accepted_read : State → ℕ → ℕ → HeadRead
accepted_read s lines bytes = left_by (Ok (extent lines bytes)) s.head s.presets

-- the cause and its line, and what was handed in
abbrev pub refused_read : ℕ → Refusal → Head → List Preset → HeadRead
refused_read line c head presets = left_by (Err (fault line c)) head presets

-- ---- the state between two lines

-- before line 1
abbrev pub no_state : List Preset → State
no_state presets = record { stage = Frame; head = bare_record 0 0; presets = presets }

-- what the code's stage stands for
abbrev pub stage_in : code.Stage → Stage
stage_in Frame = at_frame
stage_in Supply = at_supply
stage_in Tie = at_tie
stage_in (Busy b) = at_busy b
stage_in Presets = at_presets

-- what the state stands for
abbrev pub so_far_in : State → SoFar
so_far_in s = record { stage = stage_in s.stage; head = head_in s.head s.presets }

-- ---- one line more, its numbers as they are read

-- the verdict on a line: the reading goes on, the head ended before the line, or the line is refused
abbrev pub Verdict : Type 0
Verdict = Result Going Refusal

-- the verdict, and the state after the line
pub record Step : Type 0 where
  pub verdict : Verdict
  pub state : State

abbrev pub stepped : Verdict → State → Step
stepped v s = record { verdict = v; state = s }

-- the line is refused, and the state stays
abbrev pub stopped : State → Refusal → Step
stopped s c = stepped (Err c) s

-- the same for a cause of the definitions
abbrev pub failed : State → meant-refusal.Refusal → Step
failed s c = stopped s (refusal_of c)

-- "The head ends before the first line that has an event's form"
abbrev pub ended : State → Step
ended s = stepped (Ok Ends) s

-- the line is refused for the first cause that holds; where none does, the state is `next`
abbrev pub step_by : Option meant-refusal.Refusal → State → State → Step
step_by none s next = stepped (Ok Goes) next
step_by (some c) s next = failed s c

-- the state after the frame line
abbrev pub after_frame : State → ℕ → ℕ → State
after_frame s slots bridges = record { stage = Supply; head = bare_record slots bridges; presets = s.presets }

-- a frame line on line 1
abbrev pub frame_step : State → ℕ → ℕ → Step
frame_step s slots bridges =
    step_by (first_of (try out_of_limits (not (meant.frame_in_limits slots bridges)) ∷ [])) s (after_frame s slots bridges)

-- the causes of a supply line after the frame line
abbrev pub supply_causes : State → ℕ → List (Option meant-refusal.Refusal)
supply_causes s k = try out_of_place (supply_misplaced (stage_in s.stage)) ∷ try out_of_limits (not (meant.within 1 most_motors k)) ∷ []

-- the state after the supply line
abbrev pub after_supply : State → ℕ → State
after_supply s k = record { stage = Tie; head = with_supplied s.head k; presets = s.presets }

-- a supply line after the frame line
abbrev pub supply_step : State → ℕ → Step
supply_step s k = step_by (first_of (supply_causes s k)) s (after_supply s k)

-- the state after the head's tie line
abbrev pub after_tie : State → State
after_tie s = record { stage = Busy 0; head = with_hold s.head true; presets = s.presets }

-- a tie line directly after the frame line or its supply line is one of the head, where place is
-- out of its place
abbrev pub head_tie_step : State → Bool → Step
head_tie_step s true = stepped (Ok Goes) (after_tie s)
head_tie_step s false = failed s out_of_place

-- a tie line after the frame line: anywhere but directly after it or its supply line, it has an
-- event's form and ends the head
abbrev pub tie_step_at : code.Stage → State → Bool → Step
tie_step_at Frame s hold = failed s out_of_place
tie_step_at Supply s hold = head_tie_step s hold
tie_step_at Tie s hold = head_tie_step s hold
tie_step_at (Busy b) s hold = ended s
tie_step_at Presets s hold = ended s

abbrev pub tie_step : State → Bool → Step
tie_step s hold = tie_step_at s.stage s hold

-- the causes of a busy line after the frame line: its bridge, and whether its stretches are in
-- order in the frame
abbrev pub busy_causes : State → ℕ → Bool → List (Option meant-refusal.Refusal)
busy_causes s b ordered =
    try out_of_place (busy_misplaced (stage_in s.stage) b) ∷ try out_of_limits (not (meant.within 1 s.head.bridges b && ordered)) ∷ []

-- the state after a busy line
abbrev pub after_busy : State → ℕ → ℕ → State
after_busy s b mask = record { stage = Busy (b + 1); head = with_masks s.head (set s.head.busy (b - 1) mask); presets = s.presets }

-- a busy line after the frame line, and its mask, if its stretches are in order
abbrev pub busy_step : State → ℕ → code-option.Option ℕ → Step
busy_step s b mask = step_by (first_of (busy_causes s b (is_some mask))) s (after_busy s b (unwrap_or mask 0))

-- the preset of a preset line
abbrev pub preset_said : PresetLine → meant.Preset
preset_said p = preset_of p.number p.priority p.mandatory p.optional

-- the causes of a preset line after the frame line
abbrev pub preset_causes : State → meant.Preset → List (Option meant-refusal.Refusal)
preset_causes s p =
    try out_of_limits (not (meant.preset_in_limits p)) ∷ try number_used (meant.has_number p.number (map preset_in (take s.head.count s.presets)))
    ∷ try too_many (leb most_presets s.head.count) ∷ []

-- the state after a preset line
abbrev pub after_preset : State → meant.Preset → State
after_preset s p = record {
  stage = Presets;
  head = with_count s.head (s.head.count + 1);
  presets = set s.presets s.head.count (record_of p);
}

-- a preset line after the frame line
abbrev pub preset_step : State → meant.Preset → Step
preset_step s p = step_by (first_of (preset_causes s p)) s (after_preset s p)

-- line 1: "no frame on line 1" is out of place
abbrev pub first_step : State → Line → Step
first_step s (line.Frame slots bridges) = frame_step s slots bridges
first_step s (line.Busy b mask) = failed s out_of_place
first_step s (line.Preset p) = failed s out_of_place
first_step s (line.Clock t) = failed s out_of_place
first_step s (line.Call l) = failed s out_of_place
first_step s (line.Tie hold) = failed s out_of_place
first_step s (line.Supply k) = failed s out_of_place

-- a line after line 1
abbrev pub next_step : State → Line → Step
next_step s (line.Frame slots bridges) = failed s out_of_place
next_step s (line.Busy b mask) = busy_step s b mask
next_step s (line.Preset p) = preset_step s (preset_said p)
next_step s (line.Clock t) = ended s
next_step s (line.Call l) = ended s
next_step s (line.Tie hold) = tie_step s hold
next_step s (line.Supply k) = supply_step s k

-- by whether the frame line was read
abbrev pub step_where : Bool → State → Line → Step
step_where false s l = first_step s l
step_where true s l = next_step s l

-- one line more, if it has a form
abbrev pub step_of : State → code-option.Option Line → Step
step_of s None = failed s no_form
step_of s (Some l) = step_where (begun (stage_in s.stage)) s l
