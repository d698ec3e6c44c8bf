-- The shortage of a call, `call_short`: by how many cells its jobs exceed the free cells x. What is here is all that the proofs about tables use of it; what it is made of is for the code's
-- proofs and for counting (ByCapacity).
--
-- In order: it is a shortage (`call_shortage`); where nothing is short the rule's matrix is a placement, whatever the order of ties (`rule_placed`); nothing is short exactly if the
-- jobs fit (`short_fits`).
-- Assumes nothing.
use Prim.Native.Nat.{ℕ}
use mathlib.Core.Path.{◌≡◌}
use mathlib.Core.Logic.{◌↔◌}
use mathlib.Core.List.{List}
use lib.ListN.{length}
use Rattle.laws.specs.Lists.{at}
use Rattle.laws.specs.Placement.{Placed, everywhere, Ties, TotalTies, tie_place, nobody, lrtf, largest}
use Rattle.laws.specs.Eviction.{Shortage}
use Rattle.laws.proofs.Order.{place_total}
use Rattle.laws.proofs.Placement.{fits_placed, placed_fits}
use Rattle.laws.proofs.Eviction.{excess_shortage}
use Rattle.station.specs.Head.{Head, Job}
use Rattle.placing.specs.Call.{lengths, call_short}
use Rattle.placing.specs.Claims.{Fits}

module _ (h : Head) (jobs : List Job) where
  pub call_shortage : Shortage h.slots (call_short h jobs)
  call_shortage = excess_shortage (length (lengths jobs)) h.slots (largest (length (lengths jobs)) (at (lengths jobs)))

  pub rule_placed : (ties : Ties) → TotalTies ties → (x : ℕ → ℕ) → call_short h jobs x ≡ 0
      → Placed everywhere (length (lengths jobs)) (at (lengths jobs)) h.slots x (lrtf ties nobody (lengths jobs) x)
  rule_placed ties o x e = fits_placed ties o nobody (lengths jobs) h.slots x e

  pub short_fits : (x : ℕ → ℕ) → (call_short h jobs x ≡ 0) ↔ Fits h jobs x
  short_fits x = (λ e. (lrtf tie_place nobody (lengths jobs) x, rule_placed tie_place place_total x e), λ p. placed_fits p.1)
