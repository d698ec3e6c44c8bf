-- The first n records of a list, or a cause where it has fewer: what a caller of `first_chunk` and `ok_or` knows.
-- Assumes nothing.
use Rattle.std.proofs.Common.{◌≡◌, ℕ, ◌<◌, ◌≤◌, List, length, take, Result, Ok, Err, Option, Some, None, MatchOption, sym, ◌∙◌, ap}
use lib.Seq.{length-take-le}
use Rattle.std.specs.Option.{ok_or}
use Rattle.std.specs.Array.{IsFirstChunk}
use Rattle.station.specs.declared.types.Preset.{Preset}

module _ {X E : Type 0} (now : X → List Preset) (n : ℕ) (ps : List Preset) (e : E) where
  -- fewer: the cause
  pub few_records : (o : Option X) (r : Result X E) (d : E) → MatchOption o (length ps < n) (λ y. IsFirstChunk ps (now y) n) → r ≡ ok_or o e → r ≡ Err d
      → (length ps < n) × (d ≡ e)
  few_records None r d m q w = (m, let s : ◌≡◌ {A = Result X E} (Err e) (Err d) = sym q ∙ w in cc)
  few_records (Some y) r d m q w = let s : ◌≡◌ {A = Result X E} (Ok y) (Err d) = sym q ∙ w in cc

  -- as many: they, which are n
  pub first_records : (o : Option X) (r : Result X E) (y : X) → MatchOption o (length ps < n) (λ y. IsFirstChunk ps (now y) n) → r ≡ ok_or o e → r ≡ Ok y
      → (n ≤ length ps) × (now y ≡ take n ps) × (length (now y) ≡ n)
  first_records None r y m q w = let s : ◌≡◌ {A = Result X E} (Err e) (Ok y) = sym q ∙ w in cc
  first_records (Some x) r y m q w =
      let s : ◌≡◌ {A = Result X E} (Ok x) (Ok y) = sym q ∙ w in
      let z : y ≡ x = cc in
      let same : now y ≡ take n ps = ap now z ∙ m.same in
      (m.enough, same, ap length same ∙ length-take-le n ps m.enough)
