-- `starts_at` meets its contract. The invariant: what is left of the word stands at its place just if the word stands at `at`.
-- Assumes nothing.
use Prim.Native.Nat.{ℕ, ◌-◌}
use native.Mathlib.Omega.{arith}
use native.Mathlib.Numerals.{add-one}
use mathlib.Core.Path.{◌≡◌, sym, ◌∙◌, ap}
use mathlib.Core.List.{List}
use lib.ListN.{length, take, drop, length-drop}
use lib.Seq.{take_all}
use Rattle.station.specs.Form.{starts}
use Rattle.station.proofs.numbers.Decimals.{starts_more, starts_other, starts_done, starts_longer, starts_none}
use Rattle.station.proofs.numbers.starts_at.Goals as goal

-- the text from a place on
abbrev rest : List ℕ → ℕ → List ℕ
rest t at = take (length t - at) (drop at t)

rest_is : (t : List ℕ) (at : ℕ) → rest t at ≡ drop at t
rest_is t at = take_all (length t - at) (drop at t) (omega (arith, length-drop at t))

pub returns-then-text-at : goal.returns-then-text-at
returns-then-text-at c = let s = c.args in c.is_empty.ensures ∙ starts_none s.word.now s.text.now s.at (omega arith)

pub returns-then-rest-word : goal.returns-then-rest-word
returns-then-rest-word c = let s = c.args in
    sym (starts_longer s.word.now (drop s.at s.text.now) (omega (arith, length-drop s.at s.text.now)))

pub returns-then-word-i : goal.returns-then-word-i
returns-then-word-i c = let s = c.args in
    let l = c.loop-i in
    sym (starts_other s.word.now (rest s.text.now s.at) l.i l.i (omega arith) (omega arith) c.if-word-i.true) ∙ l.invariant
    ∙ ap (starts s.word.now) (rest_is s.text.now s.at)

pub loop-i-preserved : goal.loop-i-preserved
loop-i-preserved c = let s = c.args in
    let l = c.loop-i in
    rw (add-one l.i) (sym (starts_more s.word.now (rest s.text.now s.at) l.i l.i (omega arith) (omega arith) c.if-word-i.false) ∙ l.invariant)

pub returns : goal.returns
returns c = let s = c.args in
    let l = c.loop-i in
    sym (starts_done s.word.now (rest s.text.now s.at) l.i l.i (omega arith)) ∙ l.invariant ∙ ap (starts s.word.now) (rest_is s.text.now s.at)
