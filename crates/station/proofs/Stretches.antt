-- Laws of masks and stretches: the stretches of a mask are its runs of ones, so each mask has just one list of stretches.
--
-- In order: what `ordered` says; the mask of one stretch, one slot further; `stretches_zero`; a mask's stretches are in order and have that
-- mask (`stretches_ordered`, `mask_stretches`, `no_stretches`); stretches in order are those of their mask (`stretches_mask`); `mask_lt`.
-- Assumes nothing.
use Prim.Native.Nat.{ℕ, zero, suc, ◌+◌, ◌-◌, ◌*◌, ◌/◌, ◌%◌, ◌^◌, ◌≤◌, ◌<◌}
use native.Mathlib.Nat.{pow-suc, le_refl}
use native.Mathlib.Omega.{arith}
use mathlib.Core.Path.{◌≡◌, refl, sym, ◌∙◌, ap}
use mathlib.Core.Bool.{true, ◌&&◌}
use mathlib.Core.Option.{Option, none, some}
use mathlib.Core.List.{[], ◌∷◌}
use lib.Dec.{eqb, leb}
use lib.Pow.{pow_pos, pow_mono}
use Rattle.laws.proofs.Tests.{Is, is_true, is_false, is, both, left_of, right_of, none_some, conjunction_at}
use Rattle.laws.proofs.Comparisons.{le_of, eq_of, ne_of, leb_yes, eqb_yes, eqb_no}
use Rattle.station.specs.Form.{Pairs, last, next}
use Rattle.station.specs.Writing.{mask_of, ordered, first_slot, started_at, with_slot, stretches}

-- ---- what `ordered` says

-- one stretch in its place
pub record Stretch (lo hi f t : ℕ) : Type 0 where
  pub low : lo ≤ f
  pub up : f ≤ t
  pub high : t ≤ hi

pub stretch_of : (lo hi f t : ℕ) → (leb lo f && leb f t && leb t hi) ≡ true → Stretch lo hi f t
stretch_of lo hi f t e =
    let part = conjunction_at (leb lo f ∷ leb f t ∷ leb t hi ∷ []) e in
    record { low = le_of lo f (part 0); up = le_of f t (part 1); high = le_of t hi (part 2) }

pub of_stretch : (lo hi f t : ℕ) → lo ≤ f → f ≤ t → t ≤ hi → (leb lo f && leb f t && leb t hi) ≡ true
of_stretch lo hi f t l u h = rw (leb_yes lo f l, leb_yes f t u, leb_yes t hi h) refl

pub first_stretch : (lo hi f t : ℕ) (p : Pairs) → ordered lo hi (next f t p) ≡ true → Stretch lo hi f t
unfolding ordered
first_stretch lo hi f t p e = stretch_of lo hi f t (left_of (leb lo f && leb f t && leb t hi) (ordered (t + 2) hi p) e)

pub rest_ordered : (lo hi f t : ℕ) (p : Pairs) → ordered lo hi (next f t p) ≡ true → ordered (t + 2) hi p ≡ true
unfolding ordered
rest_ordered lo hi f t p e = right_of (leb lo f && leb f t && leb t hi) (ordered (t + 2) hi p) e

last_ordered : (lo hi f t : ℕ) → lo ≤ f → f ≤ t → t ≤ hi → ordered lo hi (last f t) ≡ true
unfolding ordered
last_ordered lo hi f t l u h = of_stretch lo hi f t l u h

next_ordered : (lo hi f t : ℕ) (p : Pairs) → lo ≤ f → f ≤ t → t ≤ hi → ordered (t + 2) hi p ≡ true → ordered lo hi (next f t p) ≡ true
unfolding ordered
next_ordered lo hi f t p l u h e = both (leb lo f && leb f t && leb t hi) (ordered (t + 2) hi p) (of_stretch lo hi f t l u h) e

pub last_stretch : (lo hi f t : ℕ) → ordered lo hi (last f t) ≡ true → Stretch lo hi f t
unfolding ordered
last_stretch lo hi f t e = stretch_of lo hi f t e

first_low : (lo hi : ℕ) (p : Pairs) → ordered lo hi p ≡ true → lo ≤ first_slot p
first_low lo hi (last f t) e = (last_stretch lo hi f t e).low
first_low lo hi (next f t p) e = (first_stretch lo hi f t p e).low

-- another lower bound that the first stretch keeps
ordered_from : (lo lo' hi : ℕ) (p : Pairs) → lo' ≤ first_slot p → ordered lo hi p ≡ true → ordered lo' hi p ≡ true
ordered_from lo lo' hi (last f t) l e = let s = last_stretch lo hi f t e in last_ordered lo' hi f t l s.up s.high
ordered_from lo lo' hi (next f t p) l e =
    let s = first_stretch lo hi f t p e in
    next_ordered lo' hi f t p l s.up s.high (rest_ordered lo hi f t p e)

-- ---- the mask of one stretch, slot s being its lowest bit

abbrev pub part : ℕ → ℕ → ℕ → ℕ
part s f t = 2 ^ (suc t - s) - 2 ^ (f - s)

pub mask_from : ℕ → Pairs → ℕ
mask_from s (last f t) = part s f t
mask_from s (next f t p) = part s f t + mask_from s p

double : (s x : ℕ) → s < x → 2 ^ (x - s) ≡ 2 ^ (x - suc s) * 2
double s x h =
    let e : x - s ≡ suc (x - suc s) = omega arith in
    ap (λ (k : ℕ). 2 ^ k) e ∙ pow-suc 2 (x - suc s)

one : (s : ℕ) → 2 ^ (s - s) ≡ 1
one s = let e : s - s ≡ 0 = omega arith in ap (λ (k : ℕ). 2 ^ k) e

-- a stretch above slot s, one slot further
part_above : (s f t : ℕ) → s < f → f ≤ t → part s f t ≡ part (suc s) f t * 2
part_above s f t h l = omega (arith, double s (suc t) (omega arith), double s f h)

-- a stretch from slot s on, one slot further
part_here : (s t : ℕ) → s ≤ t → part s s t ≡ part (suc s) (suc s) t * 2 + 1
part_here s t h = omega (arith, double s (suc t) (omega arith), one s, one (suc s), pow_pos (suc t - suc s))

mask_above : (s lo hi : ℕ) (p : Pairs) → s < lo → ordered lo hi p ≡ true → mask_from s p ≡ mask_from (suc s) p * 2
unfolding mask_from
mask_above s lo hi (last f t) h e = let a = last_stretch lo hi f t e in part_above s f t (omega arith) a.up
mask_above s lo hi (next f t p) h e =
    let a = first_stretch lo hi f t p e in
    omega (arith, part_above s f t (omega arith) a.up, mask_above s (t + 2) hi p (omega arith) (rest_ordered lo hi f t p e))

-- stretches that begin just after slot s, begun in slot s
started_ordered : (s hi : ℕ) (p : Pairs) → first_slot p ≡ suc s → ordered (suc s) hi p ≡ true → ordered s hi (started_at s p) ≡ true
started_ordered s hi (last f t) at o = let a = last_stretch (suc s) hi f t o in last_ordered s hi s t (le_refl s) (omega arith) a.high
started_ordered s hi (next f t p) at o =
    let a = first_stretch (suc s) hi f t p o in
    next_ordered s hi s t p (le_refl s) (omega arith) a.high (rest_ordered (suc s) hi f t p o)

mask_started : (s hi : ℕ) (p : Pairs) → first_slot p ≡ suc s → ordered (suc s) hi p ≡ true → mask_from s (started_at s p) ≡ mask_from (suc s) p * 2 + 1
unfolding mask_from
mask_started s hi (last f t) at o = let a = last_stretch (suc s) hi f t o in rw at (part_here s t (omega arith))
mask_started s hi (next f t p) at o =
    let a = first_stretch (suc s) hi f t p o in
    rw at (omega (arith, part_here s t (omega arith), mask_above s (t + 2) hi p (omega arith) (rest_ordered (suc s) hi f t p o)))

one_slot : (s : ℕ) → part s s s ≡ 1
one_slot s = omega (arith, part_here s s (le_refl s), one (suc s), (let e : suc s - suc s ≡ 0 = omega arith in ap (λ (k : ℕ). 2 ^ k) e))

mask_from_one : (p : Pairs) → mask_from 1 p ≡ mask_of p
unfolding mask_from mask_of
mask_from_one (last f t) = let e : suc t - 1 ≡ t = omega arith in rw e refl
mask_from_one (next f t p) = let e : suc t - 1 ≡ t = omega arith in rw (e, mask_from_one p) refl

-- ---- a mask's stretches

pub stretches_zero : (k s : ℕ) → stretches k s 0 ≡ none
unfolding stretches
stretches_zero zero s = refl
stretches_zero (suc k) s = stretches_zero k (suc s)

-- none of a mask that is 0, or stretches in order with that mask
pub data Runs (s hi m : ℕ) : Option Pairs → Type 0 where
  no_runs : m ≡ 0 → Runs s hi m none
  runs : {p : Pairs} → ordered s hi p ≡ true → mask_from s p ≡ m → Runs s hi m (some p)

-- slot s is free
runs_free : (s hi m : ℕ) {o : Option Pairs} → m % 2 ≡ 0 → Runs (suc s) hi (m / 2) o → Runs s hi m o
runs_free s hi m z (no_runs e) = no_runs (omega arith)
runs_free s hi m z (runs {p} o e) =
    let l = first_low (suc s) hi p o in
    runs (ordered_from (suc s) s hi p (omega arith) o) (omega (arith, mask_above s (suc s) hi p (omega arith) o))

-- slot s is busy
runs_busy : (s hi m : ℕ) (o : Option Pairs) → m % 2 ≡ 1 → s ≤ hi → Runs (suc s) hi (m / 2) o → Runs s hi m (some (with_slot s o))
unfolding mask_from
runs_busy s hi m none z h (no_runs e) = runs {p = last s s} (last_ordered s hi s s (le_refl s) (le_refl s) h) (omega (arith, one_slot s))
runs_busy s hi m (some p) z h (runs o e) = go (is (eqb (first_slot p) (suc s)))
  where
    go : Is (eqb (first_slot p) (suc s)) → Runs s hi m (some (with_slot s (some p)))
    go (is_true q) =
        let at : first_slot p ≡ suc s = eq_of (first_slot p) (suc s) q in
        rw q (runs {p = started_at s p} (started_ordered s hi p at o) (omega (arith, mask_started s hi p at o)))
    go (is_false q) =
        let other : first_slot p ≡ suc s → ⊥ = ne_of (first_slot p) (suc s) q in
        let low : suc s ≤ first_slot p = first_low (suc s) hi p o in
        rw q
        (runs {p = next s s p}
        (next_ordered s hi s s p (le_refl s) (le_refl s) h (ordered_from (suc s) (s + 2) hi p (omega arith) o))
        (omega (arith, one_slot s, mask_above s (suc s) hi p (le_refl (suc s)) o)))

-- the stretches of a mask below 2 ^ j end in slot hi at the latest, where hi is the j-th slot from s
pub stretches_runs : (k s j m hi : ℕ) → m < 2 ^ k → m < 2 ^ j → suc hi ≡ s + j → Runs s hi m (stretches k s m)
unfolding stretches
stretches_runs zero s j m hi a b h = no_runs (omega arith)
stretches_runs (suc k) s zero m hi a b h =
    let z : m ≡ 0 = omega arith in
    rw z (rw (stretches_zero k (suc s)) (no_runs refl))
stretches_runs (suc k) s (suc j) m hi a b h =
    go
    (stretches_runs k (suc s) j (m / 2) hi
    (let p : 2 ^ suc k ≡ 2 ^ k * 2 = pow-suc 2 k in omega arith)
    (let p : 2 ^ suc j ≡ 2 ^ j * 2 = pow-suc 2 j in omega arith)
    (omega arith))
    (is (eqb (m % 2) 1))
  where
    go : Runs (suc s) hi (m / 2) (stretches k (suc s) (m / 2)) → Is (eqb (m % 2) 1) → Runs s hi m (stretches (suc k) s m)
    go ih (is_true e) = rw e (runs_busy s hi m (stretches k (suc s) (m / 2)) (eq_of (m % 2) 1 e) (omega arith) ih)
    go ih (is_false e) =
        let other : m % 2 ≡ 1 → ⊥ = ne_of (m % 2) 1 e in
        rw e (runs_free s hi m (omega arith) ih)

-- the stretches of a mask below 2 ^ j, where j ≤ 64
module _ (j m : ℕ) (p : Pairs) (small : j ≤ 64) (below : m < 2 ^ j) (e : stretches 64 1 m ≡ some p) where
  found : (o : Option Pairs) → o ≡ some p → Runs 1 j m o → (ordered 1 j p ≡ true) × (mask_of p ≡ m)
  found none q r = absurd (none_some q)
  found (some x) q (runs o f) = let same : x ≡ p = cc in (rw same at o, sym (mask_from_one p) ∙ (rw same at f))

  all : (ordered 1 j p ≡ true) × (mask_of p ≡ m)
  all =
      let l : 2 ^ j ≤ 2 ^ 64 = pow_mono small in
      found (stretches 64 1 m) e (stretches_runs 64 1 j m j (omega arith) below (omega arith))

  -- are in order
  pub stretches_ordered : ordered 1 j p ≡ true
  stretches_ordered = all.0

  -- and have that mask
  pub mask_stretches : mask_of p ≡ m
  mask_stretches = all.1

-- a mask without stretches is 0
pub no_stretches : (m : ℕ) → m < 2 ^ 64 → stretches 64 1 m ≡ none → m ≡ 0
no_stretches m h e = go (stretches 64 1 m) e (stretches_runs 64 1 64 m 64 h h (omega arith))
  where
    go : (o : Option Pairs) → o ≡ none → Runs 1 64 m o → m ≡ 0
    go none q (no_runs z) = z
    go (some p) q r = absurd (none_some (sym q))

-- ---- stretches in order are those of their mask

-- the two kinds of a first step
step_free : (k s m : ℕ) → m % 2 ≡ 0 → stretches (suc k) s m ≡ stretches k (suc s) (m / 2)
unfolding stretches
step_free k s m z = rw (eqb_no (m % 2) 1 (λ q. omega arith)) refl

step_busy : (k s m : ℕ) (o : Option Pairs) → m % 2 ≡ 1 → stretches k (suc s) (m / 2) ≡ o → stretches (suc k) s m ≡ some (with_slot s o)
unfolding stretches
step_busy k s m o z e = rw (eqb_yes (m % 2) 1 z, e) refl

-- slot s is busy and the stretches after it begin later
apart : (s : ℕ) (p : Pairs) → suc s < first_slot p → with_slot s (some p) ≡ next s s p
apart s p h = rw (eqb_no (first_slot p) (suc s) (λ q. omega arith)) refl

-- what is known of fewer bits
abbrev Known : ℕ → ℕ → ℕ → Type 0
Known k s hi = (q : Pairs) → ordered s hi q ≡ true → stretches k s (mask_from s q) ≡ some q

-- slot s is free
from_later : (k s hi : ℕ) (p : Pairs) → suc s ≤ first_slot p → ordered s hi p ≡ true → Known k (suc s) hi → stretches (suc k) s (mask_from s p) ≡ some p
from_later k s hi p l e ih =
    let o : ordered (suc s) hi p ≡ true = ordered_from s (suc s) hi p l e in
    let d : mask_from s p ≡ mask_from (suc s) p * 2 = mask_above s (suc s) hi p (le_refl (suc s)) o in
    let half : mask_from s p / 2 ≡ mask_from (suc s) p = omega arith in
    step_free k s (mask_from s p) (omega arith) ∙ ap (stretches k (suc s)) half ∙ ih p o

-- the first stretch begins in slot s and is longer
from_started : (k s hi : ℕ) (p : Pairs) → first_slot p ≡ suc s → ordered (suc s) hi p ≡ true → Known k (suc s) hi
    → stretches (suc k) s (mask_from s (started_at s p)) ≡ some (started_at s p)
from_started k s hi p at o ih =
    let d : mask_from s (started_at s p) ≡ mask_from (suc s) p * 2 + 1 = mask_started s hi p at o in
    let half : mask_from s (started_at s p) / 2 ≡ mask_from (suc s) p = omega arith in
    step_busy k s (mask_from s (started_at s p)) (some p) (omega arith) (ap (stretches k (suc s)) half ∙ ih p o)
    ∙ (rw (eqb_yes (first_slot p) (suc s) at) refl)

-- the first stretch begins in slot s, and is the only one
from_last : (k s hi t : ℕ) → s ≤ t → t ≤ hi → Known k (suc s) hi → Is (eqb t s) → stretches (suc k) s (part s s t) ≡ some (last s t)
unfolding mask_from
from_last k s hi t l h ih (is_true q) =
    let at : t ≡ s = eq_of t s q in
    let half : part s s s / 2 ≡ 0 = omega (arith, one_slot s) in
    rw at (step_busy k s (part s s s) none (omega (arith, one_slot s)) (ap (stretches k (suc s)) half ∙ stretches_zero k (suc s)))
from_last k s hi t l h ih (is_false q) =
    let other : t ≡ s → ⊥ = ne_of t s q in
    from_started k s hi (last (suc s) t) refl (last_ordered (suc s) hi (suc s) t (le_refl (suc s)) (omega arith) h) ih

-- the first stretch begins in slot s, and others follow
from_next : (k s hi t : ℕ) (p : Pairs) → s ≤ t → t ≤ hi → ordered (t + 2) hi p ≡ true → Known k (suc s) hi → Is (eqb t s)
    → stretches (suc k) s (part s s t + mask_from s p) ≡ some (next s t p)
unfolding mask_from
from_next k s hi t p l h o ih (is_true q) =
    let at : t ≡ s = eq_of t s q in
    let low = first_low (t + 2) hi p o in
    let d : mask_from s p ≡ mask_from (suc s) p * 2 = mask_above s (t + 2) hi p (omega arith) o in
    let half : (part s s s + mask_from s p) / 2 ≡ mask_from (suc s) p = omega (arith, one_slot s) in
    rw at
    (step_busy k s (part s s s + mask_from s p) (some p) (omega (arith, one_slot s))
    (ap (stretches k (suc s)) half ∙ ih p (ordered_from (t + 2) (suc s) hi p (omega arith) o))
    ∙ ap some (apart s p (omega arith)))
from_next k s hi t p l h o ih (is_false q) =
    let other : t ≡ s → ⊥ = ne_of t s q in
    from_started k s hi (next (suc s) t p) refl (next_ordered (suc s) hi (suc s) t p (le_refl (suc s)) (omega arith) h o) ih

stretches_from_lem : (k s hi : ℕ) (p : Pairs) → ordered s hi p ≡ true → suc hi ≤ s + k → stretches k s (mask_from s p) ≡ some p
unfolding mask_from
stretches_from_lem zero s hi (last f t) e h = absurd (let a = last_stretch s hi f t e in omega arith)
stretches_from_lem zero s hi (next f t p) e h = absurd (let a = first_stretch s hi f t p e in omega arith)
stretches_from_lem (suc k) s hi (last f t) e h = go (λ q o. stretches_from_lem k (suc s) hi q o (omega arith)) (is (eqb f s))
  where
    go : Known k (suc s) hi → Is (eqb f s) → stretches (suc k) s (part s f t) ≡ some (last f t)
    go ih (is_true q) =
        let a = last_stretch s hi f t e in
        let at : f ≡ s = eq_of f s q in
        rw at (from_last k s hi t (omega arith) a.high ih (is (eqb t s)))
    go ih (is_false q) =
        let a = last_stretch s hi f t e in
        let other : f ≡ s → ⊥ = ne_of f s q in
        from_later k s hi (last f t) (omega arith) e ih
stretches_from_lem (suc k) s hi (next f t p) e h = go (λ q o. stretches_from_lem k (suc s) hi q o (omega arith)) (is (eqb f s))
  where
    go : Known k (suc s) hi → Is (eqb f s) → stretches (suc k) s (part s f t + mask_from s p) ≡ some (next f t p)
    go ih (is_true q) =
        let a = first_stretch s hi f t p e in
        let at : f ≡ s = eq_of f s q in
        rw at (from_next k s hi t p (omega arith) a.high (rest_ordered s hi f t p e) ih (is (eqb t s)))
    go ih (is_false q) =
        let a = first_stretch s hi f t p e in
        let other : f ≡ s → ⊥ = ne_of f s q in
        from_later k s hi (next f t p) (omega arith) e ih

-- stretches in order are those of their mask
pub stretches_mask : (hi : ℕ) (p : Pairs) → hi ≤ 64 → ordered 1 hi p ≡ true → stretches 64 1 (mask_of p) ≡ some p
stretches_mask hi p h e = ap (stretches 64 1) (sym (mask_from_one p)) ∙ stretches_from_lem 64 1 hi p e (omega arith)

-- ---- a mask lies within its slots

mask_below : (s hi : ℕ) (p : Pairs) → s ≤ first_slot p → ordered (first_slot p) hi p ≡ true → mask_from s p + 2 ^ (first_slot p - s) ≤ 2 ^ (suc hi - s)
unfolding mask_from
mask_below s hi (last f t) l e =
    let a = last_stretch f hi f t e in
    let up : f - s ≤ suc t - s = omega arith in
    let high : suc t - s ≤ suc hi - s = omega arith in
    let x : 2 ^ (f - s) ≤ 2 ^ (suc t - s) = pow_mono up in
    let y : 2 ^ (suc t - s) ≤ 2 ^ (suc hi - s) = pow_mono high in
    omega arith
mask_below s hi (next f t p) l e =
    let a = first_stretch f hi f t p e in
    let o = rest_ordered f hi f t p e in
    let low = first_low (t + 2) hi p o in
    let up : f - s ≤ suc t - s = omega arith in
    let further : suc t - s ≤ first_slot p - s = omega arith in
    let x : 2 ^ (f - s) ≤ 2 ^ (suc t - s) = pow_mono up in
    let y : 2 ^ (suc t - s) ≤ 2 ^ (first_slot p - s) = pow_mono further in
    omega (arith, mask_below s hi p (omega arith) (ordered_from (t + 2) (first_slot p) hi p (le_refl (first_slot p)) o))

pub mask_lt : (hi : ℕ) (p : Pairs) → ordered 1 hi p ≡ true → mask_of p < 2 ^ hi
mask_lt hi p e =
    let low = first_low 1 hi p e in
    let same : suc hi - 1 ≡ hi = omega arith in
    let b : mask_from 1 p + 2 ^ (first_slot p - 1) ≤ 2 ^ hi =
    rw same at (mask_below 1 hi p low (ordered_from 1 (first_slot p) hi p (le_refl (first_slot p)) e)) in
    omega (arith, mask_from_one p, pow_pos (first_slot p - 1))
