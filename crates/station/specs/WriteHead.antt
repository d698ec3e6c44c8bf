-- Writing a head, as a public entry: the answer and the output, for every input. Document 01, "The
-- head has one text only, and the writer makes it." Assumes nothing.
use Rattle.std.specs.Prelude.{ℕ, ◌≡◌, not, List, [], ◌∷◌, ◌++◌, length, drop, ltb, Result, Ok, Err}
use Rattle.std.proofs.Math.Option.{Option, none, some}
use Rattle.station.specs.Limits.{least_output}
use Rattle.station.specs.declared.types.Preset.{Preset}
use Rattle.station.specs.declared.types.Head.{Head}
use Rattle.station.specs.declared.types.Refusal as code
use Rattle.station.specs.Refusal.{Refusal, out_of_limits, too_short, try, first_of}
use Rattle.station.specs.Writing.{text_of}
use Rattle.station.specs.Types.{refusal_in, head_in, valid_record}

-- the length of the text that was written, or what the writing is refused for
pub data Answer : Type 0 where
  written : ℕ → Answer
  refused : ℕ → Refusal → Answer

-- the answer that the code's answer stands for: "An entry not reached through a text returns 0 for
-- the line"
abbrev pub answer_in : Result ℕ code.Refusal → Answer
answer_in (Ok n) = written n
answer_in (Err r) = refused 0 (refusal_in r)

-- The causes, in document 01's order: "output below 8,192 bytes, the frame's size regardless", 8,
-- and "a head record that no text yields", 2.
abbrev pub write_causes : Head → List Preset → List ℕ → List (Option Refusal)
write_causes h ps out = try too_short (ltb (length out) least_output) ∷ try out_of_limits (not (valid_record h ps)) ∷ []

-- what trying the causes gave
abbrev pub cause_in : Result Unit code.Refusal → Option Refusal
cause_in (Ok u) = none
cause_in (Err r) = some (refusal_in r)

-- the refusal, or the length n
abbrev pub answer_of : Option Refusal → ℕ → Answer
answer_of none n = written n
answer_of (some r) n = refused 0 r

-- the output as it was where there is a refusal; else the text t at its start, the "output bytes
-- past what is written" as they were
abbrev pub output_of : Option Refusal → List ℕ → List ℕ → List ℕ
output_of none t out = t ++ drop (length t) out
output_of (some r) t out = out

-- the answer for a head record, its preset records and an output
unfoldable pub write_answer : Head → List Preset → List ℕ → Answer
write_answer h ps out = answer_of (first_of (write_causes h ps out)) (length (text_of (head_in h ps)))

-- the output afterwards
unfoldable pub write_output : Head → List Preset → List ℕ → List ℕ
write_output h ps out = output_of (first_of (write_causes h ps out)) (text_of (head_in h ps)) out

-- What the writer promises: its answer r and the output afterwards are the defined ones.
pub record WroteHead (h : Head) (ps : List Preset) (out : List ℕ) (r : Result ℕ code.Refusal) (after : List ℕ) : Type 0 where
  pub answer : answer_in r ≡ write_answer h ps out
  pub output : after ≡ write_output h ps out
