-- The first line of a text, and the lines that are left of one. Document 01, "The station text":
-- "one form a line, each line ended by byte 10"; and "The reader hands each line over as that part
-- of the lent text." Assumes nothing.
use Rattle.std.specs.Prelude.{ℕ, cond, List, [], ◌∷◌, eqb}
use Rattle.station.specs.Text.{lines}
use Rattle.station.specs.declared.lines.Lines.{Lines}

-- the bytes to the first byte 10, included, or to the end
unfoldable pub line_of : List ℕ → List ℕ
line_of [] = []
line_of (b ∷ t) =
    let longer = b ∷ line_of t in
    cond (eqb b 10) (b ∷ []) longer

-- the lines that are left where a text is handed over line by line
abbrev pub lines_left : Lines → List (List ℕ)
lines_left s = lines s.0.now
