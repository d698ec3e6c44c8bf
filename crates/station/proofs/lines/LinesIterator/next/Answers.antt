-- The iterator over the lines of a text meets its contract: the first line of what is left comes, and the others are left.
-- Assumes nothing.
use Rattle.std.proofs.Common.{◌≡◌, ℕ, ◌-◌, ◌<◌, List, ◌∷◌, length, take, drop, ap, arith}
use Rattle.std.proofs.lemmas.Bool.Decides.{nat_tests}
use Rattle.std.proofs.lemmas.List.{take_rest}
use Rattle.station.specs.Text.{lines}
use Rattle.station.specs.Line.{line_of}
use Rattle.station.proofs.lines.FirstLine.{line_length, lines_empty, lines_split}
use Rattle.station.proofs.lines.LinesIterator.next.Goals as goal

pub returns-then-is_empty-clause-steps : goal.returns-then-is_empty-clause-steps
returns-then-is_empty-clause-steps c =
    let none : length c.args.self.now.0.now ≡ 0 = grind (arith, nat_tests) in
    let e = lines_empty c.args.self.now.0.now none in
    (e, e)

pub slice_bounds-self-count : goal.slice_bounds-self-count
slice_bounds-self-count c = omega (arith, ap length c.line_at-line.ensures, line_length c.args.self.now.0.now)

pub slice_bounds-self-start : goal.slice_bounds-self-start
slice_bounds-self-start c = omega (arith, ap length c.line_at-line.ensures, line_length c.args.self.now.0.now)

-- the first line comes off, and what follows it by its length is left
comes_off : (t l : List ℕ) → 0 < length t → l ≡ line_of t → lines t ≡ l ∷ lines (take (length t - length l) (drop (length l) t))
comes_off t l some e = lines_split t l (take (length t - length l) (drop (length l) t)) some e (take_rest t (length l))

pub returns-clause-steps : goal.returns-clause-steps
returns-clause-steps c =
    let some : 0 < length c.args.self.now.0.now = grind (arith, nat_tests) in
    comes_off c.args.self.now.0.now c.line_at-line.result.now some c.line_at-line.ensures

pub returns-clause-goes : goal.returns-clause-goes
returns-clause-goes c =
    let t = c.args.self.now.0.now in
    let l = c.line_at-line.result.now in
    let some : 0 < length t = grind (arith, nat_tests) in
    let fewer : length (lines (take (length t - length l) (drop (length l) t))) < length (lines t) = omega (arith, ap length (comes_off t l some c.line_at-line.ensures)) in
    record { on = λ _. (tt, tt, fewer); keeps = tt; rests = λ _. tt }
