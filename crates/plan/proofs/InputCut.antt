-- The program reads an input up to its first 32,769 bytes, and the listing of these is that of the
-- whole (`input_cut`): a longer input is too long either way, "text above 32,768 bytes".
-- Assumes nothing.
use Prim.Native.Nat.{ℕ, ◌<◌}
use native.Mathlib.Omega.{arith}
use mathlib.Core.Path.{◌≡◌, refl, sym, ◌∙◌, ap}
use mathlib.Core.List.{List}
use lib.ListN.{length, take}
use lib.Seq.{take_all, length-take-le}
use lib.Dec.{ltb}
use Rattle.laws.proofs.Tests.{Is, is, is_true, is_false}
use Rattle.laws.proofs.Comparisons.{lt_of, ge_of, ltb_yes}
use Rattle.station.specs.Refusal.{text_too_long, first_of}
use Rattle.frame.specs.Text.{not_read, whole_of}
use Rattle.frame.specs.Listing.{listing_of}

too_long : (text t : List ℕ) → 32768 < length text → whole_of text t ≡ not_read 0 text_too_long
unfolding whole_of first_of
too_long text t l = rw (ltb_yes 32768 (length text) l, whole_of) refl

-- no input is cut to one with another listing
pub input_cut : (text t : List ℕ)
    → listing_of (whole_of (take 32769 text) t) ≡ listing_of (whole_of text t)
input_cut text t = ap listing_of (go (is (ltb 32769 (length text))))
  where
    go : Is (ltb 32769 (length text)) → whole_of (take 32769 text) t ≡ whole_of text t
    go (is_true e) =
        let l = lt_of 32769 (length text) e in
        too_long (take 32769 text) t (omega (arith, length-take-le 32769 text (omega (arith, l)))) ∙ sym (too_long text t (omega (arith, l)))
    go (is_false e) = ap (λ (x : List ℕ). whole_of x t) (take_all 32769 text (ge_of 32769 (length text) e))
