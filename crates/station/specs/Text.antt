-- Texts as lists of bytes: quoted words, a text put together from parts, and the lines of a text.
-- Document 01, "The station text". Assumes nothing.
use Rattle.std.specs.Prelude.{ℕ, ◌≡◌, Bool, true, false, cond, not, ◌&&◌, List, [], ◌∷◌, ◌++◌, eqb}
use Prim.Native.Char.{code}
use Prim.Native.String.{String, [] as []ˢ, ◌∷◌ as ◌∷ˢ◌}

-- the bytes of a quoted word
unfoldable pub bytes : String → List ℕ
bytes []ˢ = []
bytes (c ∷ˢ s) = code c ∷ bytes s

-- one part and what follows it, read from the right: a then b then c
infixr 66 ◌then◌
abbrev pub ◌then◌ : List ℕ → List ℕ → List ℕ
a then b = a ++ b

-- parts put together
abbrev pub join : List (List ℕ) → List ℕ
join [] = []
join (l ∷ ls) = l then join ls

-- one more byte before the first line
abbrev pub onto : ℕ → List (List ℕ) → List (List ℕ)
onto b [] = (b ∷ []) ∷ []
onto b (l ∷ ls) = (b ∷ l) ∷ ls

-- "one form a line, each line ended by byte 10": each line with its byte 10. Bytes after the last
-- byte 10 are a line of their own; a text that ends in byte 10 has no further line.
unfoldable pub lines : List ℕ → List (List ℕ)
lines [] = []
lines (b ∷ t) =
    let rest = lines t in
    cond (eqb b 10) ((b ∷ []) ∷ rest) (onto b rest)

-- byte 10 stands at the end and nowhere else
unfoldable pub is_line : List ℕ → Bool
is_line [] = false
is_line (b ∷ []) = eqb b 10
is_line (b ∷ (c ∷ l)) = not (eqb b 10) && is_line (c ∷ l)

-- at least one byte, and no byte 10
unfoldable pub is_rest : List ℕ → Bool
is_rest [] = false
is_rest (b ∷ []) = not (eqb b 10)
is_rest (b ∷ (c ∷ l)) = not (eqb b 10) && is_rest (c ∷ l)

-- Lines as a text has them: each ends in byte 10 and has it nowhere else, but the last, which may
-- lack it.
pub data Lines : List (List ℕ) → Type 0 where
  no_lines : Lines []
  last_rest : {l : List ℕ} → is_rest l ≡ true → Lines (l ∷ [])
  line_then : {l : List ℕ} {ls : List (List ℕ)} → is_line l ≡ true → Lines ls → Lines (l ∷ ls)
