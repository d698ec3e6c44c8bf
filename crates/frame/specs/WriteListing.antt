-- What the entry `write_listing` is held to: the answer, and every lent cell and byte afterwards,
-- for all texts, tables and outputs. Document 01, "Causes" and "One listing, whole".
--
-- In order: the causes; the outcome that they decide (`listing_meant`); the promises `Listed` and
-- `ListedWhole`.
-- Assumes nothing.
use Rattle.std.specs.Prelude.{ℕ, ◌≡◌, List, [], ◌∷◌, length, ltb, Result}
use Rattle.std.proofs.Math.Option.{Option, none, some}
use Rattle.std.proofs.lemmas.List.Edits.{sets}
use Rattle.station.specs.Limits.{most_bytes, least_cells, least_output}
use Rattle.station.specs.Refusal.{Refusal, too_short, text_too_long, try, first_of}
use Rattle.station.specs.Wrote.{moved}
use Rattle.station.specs.WriteHead.{Answer, written, refused, answer_of, output_of, answer_in}
use Rattle.station.specs.declared.types.Refusal as cause
use Rattle.frame.specs.Text.{Whole, whole_of}
use Rattle.frame.specs.Listing.{listing_of}
use Rattle.frame.specs.TextDone.{table_after}

-- The causes, in document 01's order: "text above 32,768 bytes", 10, then "output below 8,192
-- bytes" and "lent table below 512 cells", 8.
unfoldable pub listing_cause : List ℕ → List ℕ → List ℕ → Option Refusal
listing_cause text t out =
    first_of (try text_too_long (ltb most_bytes (length text)) ∷ try too_short (ltb (length out) least_output) ∷ try too_short (ltb (length t) least_cells) ∷ [])

-- the number of bytes written, or the refusal; the table and the output afterwards
pub record ListingOutcome : Type 0 where
  pub answer : Answer
  pub table : List ℕ
  pub output : List ℕ

-- The listing of what a text comes to stands at the start of the output, as far as it has room for
-- it: "A refused head gives its one refused line only."
abbrev pub listing_written : Whole → List ℕ → List ℕ → ListingOutcome
listing_written w t out =
    record { answer = written (moved (length out) 0 (length (listing_of w))); table = table_after w t; output = sets out 0 (listing_of w) }

-- 10 leaves "everything" as it was, and 8 "every lent cell and byte"; else the listing is written.
unfoldable pub listing_meant : List ℕ → List ℕ → List ℕ → ListingOutcome
listing_meant text t out =
    elim (listing_cause text t out) [
      | none ↦ listing_written (whole_of text t) t out
      | some r ↦ record { answer = refused 0 r; table = t; output = out }
    ]

-- What `write_listing` answers and leaves.
pub record Listed (text t out t₁ out₁ : List ℕ) (r : Result ℕ cause.Refusal) : Type 0 where
  pub answer : answer_in r ≡ (listing_meant text t out).answer
  pub table : t₁ ≡ (listing_meant text t out).table
  pub output : out₁ ≡ (listing_meant text t out).output

-- What it answers and leaves of an output with room for every listing: where no cause is met, the
-- listing is there whole, and the bytes past it are as they were.
pub record ListedWhole (text t out out₁ : List ℕ) (r : Result ℕ cause.Refusal) : Type 0 where
  pub answer : answer_in r ≡ answer_of (listing_cause text t out) (length (listing_of (whole_of text t)))
  pub output : out₁ ≡ output_of (listing_cause text t out) (listing_of (whole_of text t)) out
