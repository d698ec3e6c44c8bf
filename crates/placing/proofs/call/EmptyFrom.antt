-- Where the cells that a call's jobs may use are empty already: from the first slot on if it evicts none (`clean_from`).
-- Assumes nothing.
use Prim.Native.Nat.{ℕ, ◌<◌}
use native.Mathlib.Omega.{arith}
use mathlib.Core.Path.{◌≡◌, refl, sym, ◌∙◌, ap}
use mathlib.Core.Bool.{Bool, true, false, ◌||◌, or-false}
use mathlib.Core.List.{List, [], ◌∷◌}
use Rattle.laws.specs.Eviction.{ones}
use Rattle.laws.proofs.Tests.{right_of}
use Rattle.laws.proofs.Comparisons.{eq_of}
use Rattle.station.specs.Head.{Head, Job, has_bit}
use Rattle.placing.specs.Table.{cell, is_empty}
use Rattle.placing.specs.Valid.{usable}
use Rattle.placing.specs.Call.{CellPlace, eviction_order, evicted_set, in_set, empty_free, call_free}
use Rattle.placing.specs.method.Rule.{CleanFrom}
use Rattle.placing.proofs.MaskBits.{has_bit_mask}
use Rattle.placing.specs.declared.search.Evicted.{Evicted}
use Rattle.placing.specs.method.Search.{Evicting}

-- a set of no places
in_none : (zs : List CellPlace) (d : List Bool) (s b : ℕ) → ones d ≡ 0 → in_set zs d s b ≡ false
unfolding in_set ones
in_none [] d s b e = refl
in_none (z ∷ zs) [] s b e = refl
in_none (z ∷ zs) (true ∷ d) s b e = absurd (omega (arith, e))
in_none (z ∷ zs) (false ∷ d) s b e = in_none zs d s b (omega (arith, e))

pub clean_from : (h : Head) (clock : ℕ) (jobs : List Job) (t : List ℕ) (found : Evicted) → Evicting h clock jobs (cell h t) found
    → (clean : ℕ) → (clean < h.slots → found.count ≡ 0) → CleanFrom clean h.slots h.bridges found.offer.free t
clean_from h clock jobs t found ev clean unless s b past inside low free =
    let none = in_none (eviction_order h clock (cell h t)) (evicted_set h clock jobs (cell h t)) s b (sym ev.count ∙ unless (omega arith)) in
    let used : call_free h clock jobs (cell h t) s b ≡ true =
    sym (ap (λ (m : ℕ). has_bit m b) (ev.free s inside) ∙ has_bit_mask h.bridges (λ d. call_free h clock jobs (cell h t) s d) b low) ∙ free in
    eq_of (cell h t s b) 0 (right_of (usable clock s) (is_empty (cell h t s b))
    (sym (or-false (empty_free clock (cell h t) s b)) ∙ ap (λ (x : Bool). empty_free clock (cell h t) s b || x) (sym none) ∙ used))
