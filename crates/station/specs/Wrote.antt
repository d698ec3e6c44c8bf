-- What a writer of bytes leaves: total in the output and the place. Contracts of the writers cite
-- it, here and in the layers above. Assumes nothing.
use Rattle.std.specs.Prelude.{ℕ, ◌+◌, min, max, ◌≡◌, List, length}
use Rattle.std.proofs.lemmas.List.Edits.{sets}
use Rattle.station.specs.declared.output.Writer.{Writer}

-- the place k bytes further: it stops at the end n of the output, and one past the end stays
unfoldable pub moved : ℕ → ℕ → ℕ → ℕ
moved n at k = max at (min (at + k) n)

-- The bytes bs were written into the output l from the place at on, those past its end left out: it
-- is now l₁, and the next place is r.
pub record Wrote (l : List ℕ) (at : ℕ) (bs : List ℕ) (l₁ : List ℕ) (r : ℕ) : Type 0 where
  pub output : l₁ ≡ sets l at bs
  pub position : r ≡ moved (length l) at (length bs)

-- What is still to be written: the bytes b into the output l₁ from the place r on come to the same
-- as the bytes a into the output l from the place at on.
pub record Left (l : List ℕ) (at : ℕ) (a : List ℕ) (l₁ : List ℕ) (r : ℕ) (b : List ℕ) : Type 0 where
  pub output : sets l₁ r b ≡ sets l at a
  pub position : moved (length l₁) r (length b) ≡ moved (length l) at (length a)
  pub size : length l₁ ≡ length l

-- The bytes bs were written by the writer w, which is now w₁: into the same output, from its place
-- on, and its place is the next.
pub record Writes (w : Writer) (bs : List ℕ) (w₁ : Writer) : Type 0 where
  pub same : w₁.out.ghost_name ≡ w.out.ghost_name
  pub wrote : Wrote w.out.now w.at bs w₁.out.now w₁.at

-- What is still to be written: the bytes b by the writer w₁, which has the output of w, come to the
-- same as the bytes a by w.
pub record Rest (w : Writer) (a : List ℕ) (w₁ : Writer) (b : List ℕ) : Type 0 where
  pub same : w₁.out.ghost_name ≡ w.out.ghost_name
  pub left : Left w.out.now w.at a w₁.out.now w₁.at b
