-- The part of `write_listing` that writes: what it is held to.
-- Assumes nothing.
use Rattle.std.specs.Prelude.{ℕ, ◌≡◌, List}
use Rattle.station.specs.Wrote.{Wrote}
use Rattle.frame.specs.Listing.{listing_of}
use Rattle.frame.specs.TextDone.{whole_with_output, table_after}

-- The table is t₁, and the listing of what the text comes to beside the output was written there,
-- the one line of 10 and 8 too; n is the next place.
abbrev pub ListsBeside : List ℕ → List ℕ → List ℕ → List ℕ → List ℕ → ℕ → Type 0
ListsBeside text t out t₁ out₁ n = (t₁ ≡ table_after (whole_with_output text t out) t) × Wrote out 0 (listing_of (whole_with_output text t out)) out₁ n
