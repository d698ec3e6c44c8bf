-- `word_at` meets its contract: the word lies in the text.
-- Assumes nothing.
use native.Mathlib.Omega.{arith}
use mathlib.Core.Path.{sym, ◌∙◌}
use lib.ListN.{drop, length-drop}
use Rattle.station.proofs.numbers.Decimals.{starts_length}
use Rattle.station.proofs.numbers.word_at.Goals as goal

pub overflow_add-result : goal.overflow_add-result
overflow_add-result c = let s = c.args in
    omega (arith, starts_length s.word.now (drop s.at s.text.now) (sym c.starts_at.ensures ∙ c.if-starts_at.true), length-drop s.at s.text.now)
