-- Reading rows into a head: row by row, and the cause for which a row is refused. Document 02,
-- 2026-01: "put them in place of the head's busy lines"; "the head holds their union"; "the first
-- row at fault decides". In order: row by row (`read_rows`); the same in the paper's words, without
-- a method (`RowsMean`). Assumes nothing.
use Rattle.std.specs.Prelude.{ℕ, suc, ◌<◌, ◌≡◌, not, List, [], ◌∷◌, ◌++◌, map, length, replicate}
use Rattle.std.proofs.Math.Option.{Option, none, some}
use Rattle.station.specs.Limits.{most_bridges}
use Rattle.station.specs.Head.{Head, Valid, busy_at, with_busy}
use Rattle.station.specs.Refusal.{Refusal, no_row, out_of_limits, try, first_of}
use Rattle.station.specs.Text.{lines}
use Rattle.station.specs.Reading.{Reading, accepted, refused, unless}
use Rattle.station.specs.Row.{Row, TextOfRow, row_of, cuts, RowIn, row_in, with_row, rows_take}

-- ---- row by row

-- the causes of a row that has its form: "a value outside the frame, or first above last, is 2"
abbrev pub row_causes : Head → Row → List (Option Refusal)
row_causes h x = try out_of_limits (not (row_in h.slots h.bridges x)) ∷ []

-- n rows were read and make h: the reading of the rows that are left. "12 .. tried where 1 is":
-- before 2.
unfoldable pub read_rows_from : ℕ → Head → List (Option Row) → Reading
read_rows_from n h [] = accepted h n
read_rows_from n h (none ∷ rs) = refused (suc n) no_row
read_rows_from n h (some x ∷ rs) =
    let rest = read_rows_from (suc n) (with_busy h (with_row h.busy x)) rs in
    unless (first_of (row_causes h x)) (suc n) rest

-- The rows of a text in place of a head's busy lines, so from no busy cell on: the head and the
-- number of rows, or the row at fault, counted from 1, and its cause. The text is cut at byte 10,
-- which a row has at its end only.
unfoldable pub read_rows : Head → List ℕ → Reading
read_rows h t = read_rows_from 0 (with_busy h (replicate most_bridges 0)) (map row_of (lines t))

-- ---- the same in the paper's words: proofs/rows/RowsMeaning.antt shows that of a head that some text yields `read_rows` is just this

-- The pieces of a text are texts of rows that lie in the frame.
pub data RowsPass (h : Head) : List (List ℕ) → List Row → Type 0 where
  no_rows : RowsPass h [] []
  row_then_lem : {l : List ℕ} {ls : List (List ℕ)} {x : Row} {xs : List Row}
      → TextOfRow l x → RowIn h.slots h.bridges x → RowsPass h ls xs → RowsPass h (l ∷ ls) (x ∷ xs)

-- "put them in place of the head's busy lines": g is the head h but for its busy cells, which are
-- those that some row takes, slots and bridges counted from 1 there
pub record InPlace (h : Head) (xs : List Row) (g : Head) : Type 0 where
  pub slots : g.slots ≡ h.slots
  pub bridges : g.bridges ≡ h.bridges
  pub supply : g.supply ≡ h.supply
  pub hold : g.hold ≡ h.hold
  pub presets : g.presets ≡ h.presets
  pub cells : (s b : ℕ) → s < h.slots → b < h.bridges → busy_at g s b ≡ rows_take xs (suc b) (suc s)
  pub valid : Valid g

-- What the paper says of a text of rows, cut at CR LF, beside a head.
pub data RowsMean (h : Head) (t : List ℕ) : Reading → Type 0 where
  -- no row is at fault
  all_pass : {xs : List Row} {g : Head} → RowsPass h (cuts t) xs → InPlace h xs g → RowsMean h t (accepted g (length xs))
  -- "12: a row that is not three decimal fields with CR LF"
  no_row_lem : {l : List ℕ} {ls : List (List ℕ)} {xs : List Row} (ms : List (List ℕ))
      → cuts t ≡ ls ++ (l ∷ ms) → RowsPass h ls xs → ((x : Row) → TextOfRow l x → ⊥) → RowsMean h t (refused (suc (length ls)) no_row)
  -- "a value outside the frame, or first above last, is 2"
  row_outside : {l : List ℕ} {ls : List (List ℕ)} {xs : List Row} {x : Row} (ms : List (List ℕ))
      → cuts t ≡ ls ++ (l ∷ ms) → RowsPass h ls xs → TextOfRow l x → (RowIn h.slots h.bridges x → ⊥)
      → RowsMean h t (refused (suc (length ls)) out_of_limits)
