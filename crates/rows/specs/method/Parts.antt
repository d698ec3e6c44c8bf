-- How the code says it: an input parted at a place (`parted_at`), what stands at the start of an
-- output (`Printed`). Assumes nothing.
use Rattle.std.specs.Prelude.{ℕ, suc, ◌≤◌, ◌≡◌, Option, Some, None, List, length, take, drop}
use Rattle.rows.specs.Printed.{Input, head_alone, head_and_rows}

-- an input parted at a place, where its empty line is, and the rows come after it; without a place
-- it is the head's text alone
abbrev pub parted_at : List ℕ → Option ℕ → Input
parted_at t (Some n) = head_and_rows (take n t) (drop (suc n) t)
parted_at t None = head_alone t

-- the first n bytes of an output are this text, all of it
pub record Printed (text after : List ℕ) (n : ℕ) : Type 0 where
  pub inside : n ≤ length after
  pub bytes : take n after ≡ text
