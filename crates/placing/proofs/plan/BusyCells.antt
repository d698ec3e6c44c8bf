-- A table whose first cells are made busy: each of them is busy (`busy_at_lem`), those past them
-- stay (`busy_past`, `busy_drop`), and busy cells before what stays are such a table
-- (`busy_filled`). Assumes nothing.
use Prim.Native.Nat.{ℕ, zero, suc, ◌+◌, ◌≤◌, ◌<◌}
use native.Mathlib.Omega.{arith}
use mathlib.Core.Path.{◌≡◌, refl, sym, ◌∙◌, ap, ap₂}
use mathlib.Core.List.{List, ◌++◌}
use lib.ListN.{length, set, take, drop, replicate, length-set, length-drop, length-take, length-replicate, take-append-drop, get_or-replicate}
use lib.Seq.{get_or-set_same, get_or-set_other, get_or-drop, get_or-take, ext_get_or}
use lib.Dec.{eqb}
use Rattle.laws.specs.Lists.{at}
use Rattle.laws.proofs.Tests.{Is, is, is_true, is_false}
use Rattle.laws.proofs.Comparisons.{eq_of, ne_of}
use Rattle.placing.specs.Table.{busy_cell}
use Rattle.placing.specs.method.PlanParts.{busy_to}

pub busy_length : (t : List ℕ) (n : ℕ) → length (busy_to t n) ≡ length t
unfolding busy_to
busy_length t zero = refl
busy_length t (suc n) = length-set (busy_to t n) n busy_cell ∙ busy_length t n

pub busy_at_lem : (t : List ℕ) (n i : ℕ) → i < n → n ≤ length t → at (busy_to t n) i ≡ busy_cell
unfolding busy_to
busy_at_lem t zero i l m = absurd (let z : i < 0 = l in omega arith)
busy_at_lem t (suc n) i l m = go (is (eqb i n)) (λ q. busy_at_lem t n i q (omega arith))
  where
    go : Is (eqb i n) → (i < n → at (busy_to t n) i ≡ busy_cell) → at (set (busy_to t n) n busy_cell) i ≡ busy_cell
    go (is_true e) ih =
        let same : i ≡ n = eq_of i n e in
        ap (at (set (busy_to t n) n busy_cell)) same ∙ get_or-set_same (busy_to t n) n busy_cell 0 (omega (arith, busy_length t n))
    go (is_false e) ih =
        let other : i ≡ n → ⊥ = ne_of i n e in
        get_or-set_other (busy_to t n) n i busy_cell 0 other ∙ ih (omega arith)

pub busy_past : (t : List ℕ) (n i : ℕ) → n ≤ i → at (busy_to t n) i ≡ at t i
unfolding busy_to
busy_past t zero i l = refl
busy_past t (suc n) i l = get_or-set_other (busy_to t n) n i busy_cell 0 (λ e. omega arith) ∙ busy_past t n i (omega arith)

pub busy_drop : (t : List ℕ) (n : ℕ) → drop n (busy_to t n) ≡ drop n t
busy_drop t n =
    ext_get_or 0 (drop n (busy_to t n)) (drop n t)
    (omega (arith, length-drop n (busy_to t n), length-drop n t, busy_length t n))
    (λ i l. get_or-drop n (busy_to t n) i 0 ∙ busy_past t n (n + i) (omega arith) ∙ sym (get_or-drop n t i 0))

busy_take : (t : List ℕ) (n : ℕ) → n ≤ length t → take n (busy_to t n) ≡ replicate n busy_cell
busy_take t n m =
    let long : length (take n (busy_to t n)) ≡ n = omega (arith, length-take n (busy_to t n), busy_length t n, m) in
    ext_get_or 0 (take n (busy_to t n)) (replicate n busy_cell) (long ∙ sym (length-replicate n busy_cell))
    (λ i l.
    let low : i < n = omega (arith, l, long) in
    get_or-take n (busy_to t n) i 0 low ∙ busy_at_lem t n i low m ∙ sym (get_or-replicate n i busy_cell 0 low))

pub busy_filled : (t : List ℕ) (n : ℕ) → n ≤ length t → replicate n busy_cell ++ drop n t ≡ busy_to t n
busy_filled t n m =
    ap₂ (λ (x y : List ℕ). x ++ y) (sym (busy_take t n m)) (sym (busy_drop t n)) ∙ take-append-drop n (busy_to t n)
