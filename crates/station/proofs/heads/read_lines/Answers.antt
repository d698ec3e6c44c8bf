-- `read_lines` meets its contract. The invariant is `AtLine`: the lines that are left, read from the state on, are the reading of the text.
-- Assumes nothing.
use Prim.Native.Nat.{ℕ, min}
use native.Mathlib.Omega.{arith}
use mathlib.Core.Path.{◌≡◌, refl, sym, ◌∙◌, ap}
use mathlib.Core.List.{List, ◌∷◌}
use Rattle.std.specs.Prelude.{Ok}
use Rattle.laws.proofs.Tests.{clash}
use Rattle.station.specs.declared.types.Preset.{Preset}
use Rattle.station.specs.declared.heads.steps.State.{State}
use Rattle.station.specs.declared.heads.steps.Going.{Going}
use Rattle.station.specs.Form.{form}
use Rattle.station.specs.Line.{lines_left}
use Rattle.station.specs.method.ReadLine.{line_in}
use Rattle.station.specs.method.HeadStep.{Step, step_of}
use Rattle.station.proofs.heads.LineLoop.{AtLine, at_start, LineRead, lines_room, bytes_room, at_next, out_ends, ends_after, out_fails, out_whole, out_empty}
use Rattle.station.proofs.heads.read_lines.Goals as goal
use Rattle.station.proofs.heads.read_lines.Goals.{in-None, in-Some+in-Ok-Ends}

-- the line that was read, and its step
line_read : {t : List ℕ} {old : List Preset} {s : State} {left : List (List ℕ)} {bytes n : ℕ} (l : List ℕ) (ls : List (List ℕ)) {x : Step} → AtLine t old s left bytes n
    → left ≡ l ∷ ls → x ≡ step_of s (line_in (min s.head.slots 64) (form l)) → LineRead t old s l ls bytes n x
line_read l ls h e y = record { here = rw e at h; step = y }

pub loop-line-init : goal.loop-line-init
loop-line-init c =
    rw (c.no_state-state.ensures, c.into_iter-line-iterator.ensures.into_iter_gives, c.new-line-items.ensures)
    (at_start c.args.text.now c.args.presets.now c.requires c.told-presets)

pub overflow_add-extent : goal.overflow_add-extent
overflow_add-extent c =
    let a = line_read c.in-Some.line.now (lines_left c.next.new.self) c.loop-line.invariant c.in-Some.ensures.steps c.in-Err.ensures in
    omega (arith, lines_room a)

pub returns-in-Err : goal.returns-in-Err
returns-in-Err c =
    let a = line_read c.in-Some.line.now (lines_left c.next.new.self) c.loop-line.invariant c.in-Some.ensures.steps c.in-Err.ensures in
    rw c.at.ensures (out_fails c.args.head.now a refl)

pub overflow_add-extent-in-loop-line : goal.overflow_add-extent-in-loop-line
overflow_add-extent-in-loop-line c =
    let a = line_read c.in-Some.line.now (lines_left c.next.new.self) c.loop-line.invariant c.in-Some.ensures.steps c.in-Ok-Goes.ensures in
    omega (arith, lines_room a)

pub overflow_add-extent-in-loop-line-2 : goal.overflow_add-extent-in-loop-line-2
overflow_add-extent-in-loop-line-2 c =
    let a = line_read c.in-Some.line.now (lines_left c.next.new.self) c.loop-line.invariant c.in-Some.ensures.steps c.in-Ok-Goes.ensures in
    omega (arith, bytes_room a)

pub loop-line-preserved : goal.loop-line-preserved
loop-line-preserved c =
    let a = line_read c.in-Some.line.now (lines_left c.next.new.self) c.loop-line.invariant c.in-Some.ensures.steps c.in-Ok-Goes.ensures in
    at_next a (ap (λ (g : Going). Ok g) c.in-Ok-Goes.field-0-is)

pub returns-then-not-has_begun : goal.returns-then-not-has_begun
returns-then-not-has_begun c =
    let fresh = sym c.has_begun.ensures ∙ c.if-not-has_begun.true in
    rw c.at-then-not-has_begun.ensures
    (elim c.match-next.branch [
      | in-None w ↦ out_empty c.args.head.now (rw w.in-None.ensures.steps.0 at c.loop-line.invariant) (rw w.state-is at fresh)
      | in-Some+in-Ok-Ends w ↦
          let a = line_read w.in-Some.line.now (lines_left c.next.new.self) c.loop-line.invariant w.in-Some.ensures.steps w.in-Ok-Ends.ensures in
          let begun = ends_after c.args.head.now a (ap (λ (g : Going). Ok g) w.in-Ok-Ends.field-0-is) in
          absurd (clash (sym begun ∙ (rw w.state-is at fresh)))
    ])

pub returns : goal.returns
returns c =
    let begun = sym c.has_begun.ensures ∙ c.if-not-has_begun.false in
    elim c.match-next.branch [
      | in-None w ↦ rw w.state-is (out_whole c.args.head.now (rw w.in-None.ensures.steps.0 at c.loop-line.invariant) (rw w.state-is at begun))
      | in-Some+in-Ok-Ends w ↦
          let a = line_read w.in-Some.line.now (lines_left c.next.new.self) c.loop-line.invariant w.in-Some.ensures.steps w.in-Ok-Ends.ensures in
          rw w.state-is (out_ends c.args.head.now a (ap (λ (g : Going). Ok g) w.in-Ok-Ends.field-0-is))
    ]
