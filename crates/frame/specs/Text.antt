-- A whole text: head, plan, then every line as an event. Document 01, "The station text" and
-- "Causes"; document 02, 2026-02 and 2026-05.
-- Assumes nothing.
use Rattle.std.specs.Prelude.{ℕ, List, [], ◌∷◌, map, length, drop, ltb}
use Rattle.std.proofs.Math.Option.{none, some}
use Rattle.station.specs.Limits.{most_bytes, least_cells}
use Rattle.station.specs.Head.{Head}
use Rattle.station.specs.Refusal.{Refusal, too_short, text_too_long, try, first_of}
use Rattle.station.specs.Text.{lines}
use Rattle.station.specs.Reading.{Reading, head_of}
use Rattle.placing.specs.Valid.{first_clock}
use Rattle.placing.specs.State.{State, state_of}
use Rattle.placing.specs.Outcomes.{PlanAnswer, plan_of}
use Rattle.frame.specs.Event.{Event, Run, run_of, line}

-- What a text comes to. `not_read`: the head is refused, with its line; nothing is changed.
-- `not_planned`: the head is read and its plan refused, at the last head line; the table is as it
-- was. `ran`: the head, the number of its lines, the grants, and what the events after it come to.
pub data Whole : Type 0 where
  not_read : ℕ → Refusal → Whole
  not_planned : Head → ℕ → Refusal → Whole
  ran : Head → ℕ → List ℕ → Run → Whole

-- "It starts from an accepted head with its plan and the first clock", which is 0 (2026-05: "with 0
-- the start"). "Directly after the frame line `(tie hold)` holds for the plan and the calls".
abbrev pub start_of : Head → List ℕ → State
start_of h t = state_of t first_clock h.hold

-- the events of a text whose head has n lines: every line after it
abbrev pub events_of : List ℕ → ℕ → List Event
events_of text n = map line (drop n (lines text))

unfoldable pub whole_with_plan : List ℕ → Head → ℕ → PlanAnswer → List ℕ → Whole
whole_with_plan text h n (PlanAnswer.granted g) t = ran h n g (run_of h (start_of h t) (events_of text n))
whole_with_plan text h n (PlanAnswer.refused _ r) t = not_planned h n r

unfoldable pub whole_with_head : List ℕ → Reading → List ℕ → Whole
whole_with_head text (Reading.accepted h n) t = whole_with_plan text h n (plan_of h t).answer (plan_of h t).table
whole_with_head text (Reading.refused n r) t = not_read n r

-- 10, then 8, then the causes of the head's lines, then 5
unfoldable pub whole_of : List ℕ → List ℕ → Whole
whole_of text t =
    elim (first_of (try text_too_long (ltb most_bytes (length text)) ∷ try too_short (ltb (length t) least_cells) ∷ []))
    [ none ↦ whole_with_head text (head_of text) t | some r ↦ not_read 0 r ]
