-- What `planner_listing` answers and leaves, by the contract of `write_listing`.
-- Assumes nothing.
use Prim.Native.Nat.{ℕ, ◌≤◌}
use mathlib.Core.Path.{◌≡◌, ◌∙◌, ap}
use mathlib.Core.List.{List}
use lib.ListN.{length}
use Rattle.station.specs.WriteHead.{Answer, answer_in}
use Rattle.std.specs.Prelude.{Result}
use Rattle.station.specs.declared.types.Refusal as cause
use Rattle.frame.specs.WriteListing.{Listed, ListedWhole}
use Rattle.planner.specs.Exports.{written_returned, value, ListingLeaves, ListingWhole}

module _ (text t out : List ℕ) (x : Result ℕ cause.Refusal) {out₁ : List ℕ} {n : ℕ} (e : n ≡ value (written_returned (answer_in x))) where
  pub listing_leaves : {t₁ : List ℕ} {r : ℕ} → Listed text t out t₁ out₁ x → r ≡ (written_returned (answer_in x)).number → ListingLeaves text t out t₁ out₁ n r
  listing_leaves d a = record { answer = a ∙ ap (λ (x : Answer). (written_returned x).number) d.answer; bytes = e ∙ ap (λ (x : Answer). value (written_returned x)) d.answer; table = d.table; output = d.output }

  pub listing_whole : (655360 ≤ length out → ListedWhole text t out out₁ x) → 655360 ≤ length out → ListingWhole text t out out₁ n
  listing_whole d room = record { bytes = e ∙ ap (λ (x : Answer). value (written_returned x)) (d room).answer; output = (d room).output }
