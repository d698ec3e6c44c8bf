-- Laws of a scan over a mask: the stretches of a mask, found from slot to slot upwards, are those of the definition.
--
-- In order: one slot further (`from_free`, `from_busy`); the scan for a busy slot by the zeros of a mask (`busy_by_zeros`, `busy_past`), for a free one by its
-- complement (`free_by_not`); where they lie (`busy_low`, `busy_high`, `busy_found`, `free_low`, `free_high`, `free_after`); the stretches
-- from the next busy slot on (`from_next_busy`), from a busy slot on (`from_run`), the slot after it where the next run begins (`next_run`), and both
-- together (`run_step`); the same of a busy line's brackets (`bracket_step`) and of the whole line (`busy_text`).
-- Assumes nothing.
use Prim.Native.Nat.{ℕ, zero, suc, ◌+◌, ◌-◌, ◌/◌, ◌%◌, ◌^◌, ◌≤◌, ◌<◌, min}
use native.Mathlib.Nat.{add-zero}
use native.Mathlib.Numerals.{add-one}
use native.Mathlib.Omega.{arith}
use mathlib.Core.Path.{◌≡◌, refl, sym, ◌∙◌, ap}
use mathlib.Core.Bool.{Bool, true, false, cond}
use mathlib.Core.Option.{Option, none, some}
use mathlib.Core.List.{List, [], ◌++◌, append_assoc, append-nil, map}
use lib.Dec.{eqb, ltb, leb}
use lib.Pow.{shr-shr}
use Rattle.std.specs.Int.{bit_not, bit_at}
use Rattle.std.specs.Int.Count.{count_trailing_zeros, under}
use Rattle.std.proofs.Common.{w64}
use Rattle.std.proofs.lemmas.Nat.Bits.{bit_at_not}
use Rattle.laws.proofs.Tests.{Is, is, is_true, is_false, none_some}
use Rattle.laws.proofs.Comparisons.{eqb_yes, eqb_no, eqb_self, eq_of, ne_of, lt_of, ge_of, le_of, gt_of}
use Rattle.station.specs.Head.{has_bit}
use Rattle.station.specs.Text.{bytes, join}
use Rattle.station.specs.Decimal.{digits}
use Rattle.station.specs.Form.{Pairs, last, next, brackets, print, busy_line}
use Rattle.station.specs.Writing.{first_slot, started_at, with_slot, stretches, busy_line_of}
use Rattle.station.specs.method.Runs.{busy_from, free_from, stretches_from, brackets_of, bracket_text}
use Rattle.station.proofs.Stretches.{no_stretches}

some_injective : {p q : Pairs} → some p ≡ some q → p ≡ q
some_injective {p} {q} e = cc

-- ---- one slot further

shift : (m i : ℕ) → m / 2 ^ i / 2 ≡ m / 2 ^ suc i
shift m i = shr-shr m i 1 ∙ ap (λ (k : ℕ). m / 2 ^ k) (add-one i)

pub from_free : (k m i : ℕ) → has_bit m i ≡ false → stretches_from (suc k) m i ≡ stretches_from k m (suc i)
unfolding stretches
from_free k m i e = rw (e, shift m i) refl

pub from_busy : (k m i : ℕ) → has_bit m i ≡ true → stretches_from (suc k) m i ≡ some (with_slot (suc i) (stretches_from k m (suc i)))
unfolding stretches
from_busy k m i e = rw (e, shift m i) refl

-- ---- the scan for a busy slot, by what std says of a mask

-- the free slots before it are the zeros at the end of the mask
busy_zeros : (k m i : ℕ) → busy_from k m i ≡ i + count_trailing_zeros k (m / 2 ^ i)
unfolding busy_from count_trailing_zeros
busy_zeros zero m i = sym (add-zero i)
busy_zeros (suc k) m i = go (busy_zeros k m (suc i)) (is (has_bit m i))
  where
    go : busy_from k m (suc i) ≡ suc i + count_trailing_zeros k (m / 2 ^ suc i) → Is (has_bit m i)
        → cond (has_bit m i) i (busy_from k m (suc i)) ≡ i + under (m / 2 ^ i % 2) (count_trailing_zeros k (m / 2 ^ i / 2))
    go ih (is_true e) = rw (e, eq_of (m / 2 ^ i % 2) 1 e) (omega arith)
    go ih (is_false e) =
        let z : m / 2 ^ i % 2 ≡ 0 = omega (arith, ne_of (m / 2 ^ i % 2) 1 e) in
        rw (e, z, shift m i) (omega arith)

-- of fewer digits, the zeros as far as they go
zeros_least : (k j n : ℕ) → k ≤ j → min (count_trailing_zeros j n) k ≡ count_trailing_zeros k n
unfolding count_trailing_zeros
zeros_least zero j n h = let z : count_trailing_zeros 0 n ≡ 0 = refl in omega arith
zeros_least (suc k) zero n h = absurd (omega arith)
zeros_least (suc k) (suc j) n h = go (zeros_least k j (n / 2) (omega arith)) (n % 2)
  where
    go : min (count_trailing_zeros j (n / 2)) k ≡ count_trailing_zeros k (n / 2) → (d : ℕ) → min (under d (count_trailing_zeros j (n / 2))) (suc k) ≡ under d (count_trailing_zeros k (n / 2))
    go ih zero = omega arith
    go ih (suc d) = omega arith

-- from a slot of a mask of 64 slots on
pub busy_by_zeros : (m i : ℕ) → i < 64 → min 64 (i + count_trailing_zeros 64 (m / 2 ^ i)) ≡ busy_from (64 - i) m i
busy_by_zeros m i h = rw (busy_zeros (64 - i) m i) (omega (arith, zeros_least (64 - i) 64 (m / 2 ^ i) (omega arith)))

pub busy_past : (m i : ℕ) → 64 ≤ i → i ≡ busy_from (64 - i) m i
unfolding busy_from
busy_past m i h = let d : 64 - i ≡ 0 = omega arith in rw d refl

-- a free slot is a busy one of the mask's complement
free_not : (k m i : ℕ) → m < 2 ^ 64 → i + k ≤ 64 → busy_from k (bit_not w64 m) i ≡ free_from k m i
unfolding busy_from free_from
free_not zero m i l h = refl
free_not (suc k) m i l h = go (free_not k m (suc i) l (omega arith)) (bit_at_not w64 m i l (omega arith)) (is (has_bit m i))
  where
    go : busy_from k (bit_not w64 m) (suc i) ≡ free_from k m (suc i) → bit_at (bit_not w64 m) i ≡ 1 - bit_at m i → Is (has_bit m i)
        → cond (has_bit (bit_not w64 m) i) i (busy_from k (bit_not w64 m) (suc i)) ≡ cond (has_bit m i) (free_from k m (suc i)) i
    go ih b (is_true e) =
        let z : bit_at (bit_not w64 m) i ≡ 0 = omega (arith, eq_of (m / 2 ^ i % 2) 1 e) in
        rw (e, ih, eqb_no (bit_at (bit_not w64 m) i) 1 (λ q. omega arith)) refl
    go ih b (is_false e) =
        let z : bit_at (bit_not w64 m) i ≡ 1 = omega (arith, ne_of (m / 2 ^ i % 2) 1 e) in
        rw (e, eqb_yes (bit_at (bit_not w64 m) i) 1 z) refl

pub free_by_not : (m i : ℕ) → m < 2 ^ 64 → busy_from (64 - i) (bit_not w64 m) i ≡ free_from (64 - i) m i
unfolding busy_from free_from
free_by_not m i l = go (is (leb i 64))
  where
    go : Is (leb i 64) → busy_from (64 - i) (bit_not w64 m) i ≡ free_from (64 - i) m i
    go (is_true e) = let h = le_of i 64 e in free_not (64 - i) m i l (omega arith)
    go (is_false e) = let h = gt_of i 64 e in let d : 64 - i ≡ 0 = omega arith in rw d refl

-- ---- where the ends of the scans lie

pub busy_low : (k m i : ℕ) → i ≤ busy_from k m i
unfolding busy_from
busy_low zero m i = omega arith
busy_low (suc k) m i = go (busy_low k m (suc i)) (has_bit m i)
  where
    go : suc i ≤ busy_from k m (suc i) → (t : Bool) → i ≤ cond t i (busy_from k m (suc i))
    go h true = omega arith
    go h false = omega arith

pub busy_high : (k m i : ℕ) → busy_from k m i ≤ i + k
unfolding busy_from
busy_high zero m i = omega arith
busy_high (suc k) m i = go (busy_high k m (suc i)) (has_bit m i)
  where
    go : busy_from k m (suc i) ≤ suc i + k → (t : Bool) → cond t i (busy_from k m (suc i)) ≤ i + suc k
    go h true = omega arith
    go h false = omega arith

-- the slot that is found is busy
pub busy_found : (k m i : ℕ) → busy_from k m i < i + k → has_bit m (busy_from k m i) ≡ true
unfolding busy_from
busy_found zero m i h = absurd (omega arith)
busy_found (suc k) m i h = go (busy_found k m (suc i)) (is (has_bit m i))
  where
    go : (busy_from k m (suc i) < suc i + k → has_bit m (busy_from k m (suc i)) ≡ true) → Is (has_bit m i) → has_bit m (busy_from (suc k) m i) ≡ true
    go ih (is_true e) = rw (e, e) refl
    go ih (is_false e) =
        let f : busy_from (suc k) m i ≡ busy_from k m (suc i) = rw e refl in
        ap (has_bit m) f ∙ ih (omega arith)

pub free_low : (k m i : ℕ) → i ≤ free_from k m i
unfolding free_from
free_low zero m i = omega arith
free_low (suc k) m i = go (free_low k m (suc i)) (has_bit m i)
  where
    go : suc i ≤ free_from k m (suc i) → (t : Bool) → i ≤ cond t (free_from k m (suc i)) i
    go h true = omega arith
    go h false = omega arith

pub free_high : (k m i : ℕ) → free_from k m i ≤ i + k
unfolding free_from
free_high zero m i = omega arith
free_high (suc k) m i = go (free_high k m (suc i)) (has_bit m i)
  where
    go : free_from k m (suc i) ≤ suc i + k → (t : Bool) → cond t (free_from k m (suc i)) i ≤ i + suc k
    go h true = omega arith
    go h false = omega arith

-- past a busy slot
pub free_after : (k m i : ℕ) → has_bit m i ≡ true → 0 < k → i < free_from k m i
unfolding free_from
free_after zero m i e h = absurd (omega arith)
free_after (suc k) m i e h = rw e (omega (arith, free_low k m (suc i)))

-- ---- the stretches, from one end to the next

-- stretches with a slot in front begin in it
first_with : (s : ℕ) (o : Option Pairs) → first_slot (with_slot s o) ≡ s
first_with s none = refl
first_with s (some p) = go p (eqb (first_slot p) (suc s))
  where
    go : (q : Pairs) (t : Bool) → first_slot (cond t (started_at s q) (next s s q)) ≡ s
    go q false = refl
    go (last f t) true = refl
    go (next f t r) true = refl

-- no stretch begins before the first slot
first_from : (k m i : ℕ) (p : Pairs) → stretches_from k m i ≡ some p → suc i ≤ first_slot p
unfolding stretches
first_from zero m i p e = absurd (none_some e)
first_from (suc k) m i p e = go (first_from k m (suc i)) (is (has_bit m i))
  where
    go : ((q : Pairs) → stretches_from k m (suc i) ≡ some q → suc (suc i) ≤ first_slot q) → Is (has_bit m i) → suc i ≤ first_slot p
    go ih (is_true t) =
        let same : with_slot (suc i) (stretches_from k m (suc i)) ≡ p = some_injective (sym (from_busy k m i t) ∙ e) in
        omega (arith, sym (first_with (suc i) (stretches_from k m (suc i))) ∙ ap first_slot same)
    go ih (is_false t) = omega (arith, ih p (sym (from_free k m i t) ∙ e))

-- the stretches of the slots below hi, from the next busy slot on
pub from_next_busy : (k m i hi : ℕ) → i + k ≡ hi → stretches_from k m i ≡ stretches_from (hi - busy_from k m i) m (busy_from k m i)
unfolding busy_from
from_next_busy zero m i hi h = let z : hi - i ≡ 0 = omega arith in rw z refl
from_next_busy (suc k) m i hi h = go (from_next_busy k m (suc i) hi (omega arith)) (is (has_bit m i))
  where
    go : stretches_from k m (suc i) ≡ stretches_from (hi - busy_from k m (suc i)) m (busy_from k m (suc i)) → Is (has_bit m i)
        → stretches_from (suc k) m i ≡ stretches_from (hi - busy_from (suc k) m i) m (busy_from (suc k) m i)
    go ih (is_true e) = let z : hi - i ≡ suc k = omega arith in rw (e, z) refl
    go ih (is_false e) =
        let f : busy_from (suc k) m i ≡ busy_from k m (suc i) = rw e refl in
        from_free k m i e ∙ ih ∙ ap (λ (j : ℕ). stretches_from (hi - j) m j) (sym f)

-- one stretch, and the others after it
abbrev pub run_then : ℕ → ℕ → Option Pairs → Pairs
run_then f t none = last f t
run_then f t (some p) = next f t p

-- a slot in front of a run that begins just after it
join_run : (s t : ℕ) (o : Option Pairs) → with_slot s (some (run_then (suc s) t o)) ≡ run_then s t o
join_run s t none = rw (eqb_self (suc s)) refl
join_run s t (some p) = rw (eqb_self (suc s)) refl

-- a slot in front of a free slot
apart_run : (k m i : ℕ) → has_bit m (suc i) ≡ false → with_slot (suc i) (stretches_from (suc k) m (suc i)) ≡ run_then (suc i) (suc i) (stretches_from (suc k) m (suc i))
apart_run k m i e = go (stretches_from (suc k) m (suc i)) (λ p q. first_from k m (suc (suc i)) p (sym (from_free k m (suc i) e) ∙ q))
  where
    go : (o : Option Pairs) → ((p : Pairs) → o ≡ some p → suc (suc (suc i)) ≤ first_slot p) → with_slot (suc i) o ≡ run_then (suc i) (suc i) o
    go none h = refl
    go (some p) h = rw (eqb_no (first_slot p) (suc (suc i)) (λ q. omega (arith, h p refl))) refl

-- the stretches of the slots below hi, from a busy slot on: the run that it begins, and the others
pub from_run : (k m i hi : ℕ) → i + k ≡ hi → i < hi → has_bit m i ≡ true
    → stretches_from k m i ≡ some (run_then (suc i) (free_from k m i) (stretches_from (hi - free_from k m i) m (free_from k m i)))
unfolding free_from stretches
from_run zero m i hi h l e = absurd (omega arith)
from_run (suc zero) m i hi h l e =
    let z : hi - suc i ≡ 0 = omega arith in
    from_busy 0 m i e ∙ (rw (e, z) refl)
from_run (suc (suc k)) m i hi h l e = go (from_run (suc k) m (suc i) hi (omega arith) (omega arith)) (is (has_bit m (suc i)))
  where
    f : free_from (suc (suc k)) m i ≡ free_from (suc k) m (suc i)
    f = rw e refl

    go : (has_bit m (suc i) ≡ true → stretches_from (suc k) m (suc i) ≡ some (run_then (suc (suc i)) (free_from (suc k) m (suc i)) (stretches_from (hi - free_from (suc k) m (suc i)) m (free_from (suc k) m (suc i)))))
        → Is (has_bit m (suc i))
        → stretches_from (suc (suc k)) m i ≡ some (run_then (suc i) (free_from (suc (suc k)) m i) (stretches_from (hi - free_from (suc (suc k)) m i) m (free_from (suc (suc k)) m i)))
    go ih (is_true t) =
        let j = free_from (suc k) m (suc i) in
        from_busy (suc k) m i e
        ∙ ap (λ (o : Option Pairs). some (with_slot (suc i) o)) (ih t)
        ∙ ap some (join_run (suc i) j (stretches_from (hi - j) m j))
        ∙ ap (λ (x : ℕ). some (run_then (suc i) x (stretches_from (hi - x) m x))) (sym f)
    go ih (is_false t) =
        let z : hi - suc i ≡ suc k = omega arith in
        let g : free_from (suc k) m (suc i) ≡ suc i = rw t refl in
        from_busy (suc k) m i e
        ∙ ap some (apart_run k m i t)
        ∙ ap (λ (x : ℕ). some (run_then (suc i) (suc i) (stretches_from x m (suc i)))) (sym z)
        ∙ ap (λ (x : ℕ). some (run_then (suc i) x (stretches_from (hi - x) m x))) (sym (f ∙ g))

-- slot n is where the next run after the busy slot i begins, or the end of the slots
pub record NextRun (m i n : ℕ) : Type 0 where
  pub later : i < n
  pub high : n ≤ 64
  pub found : n < 64 → has_bit m n ≡ true

pub next_run : (m i t n : ℕ) → i < 64 → has_bit m i ≡ true → t ≡ free_from (64 - i) m i → n ≡ busy_from (64 - t) m t → NextRun m i n
next_run m i t n h e to after =
    let on : i < t = rw to (free_after (64 - i) m i e (omega arith)) in
    let top : t ≤ i + (64 - i) = rw to (free_high (64 - i) m i) in
    let low : t ≤ n = rw after (busy_low (64 - t) m t) in
    let end : n ≤ t + (64 - t) = rw after (busy_high (64 - t) m t) in
    record {
      later = omega arith;
      high = omega arith;
      found = λ l. let k : n < t + (64 - t) = omega arith in rw after (busy_found (64 - t) m t (rw after at k));
    }

-- the stretches from the busy slot i on: its run, which ends in slot t, and those from the next busy slot n on
pub run_step : (m i t n : ℕ) → i < 64 → has_bit m i ≡ true → t ≡ free_from (64 - i) m i → n ≡ busy_from (64 - t) m t
    → stretches_from (64 - i) m i ≡ some (run_then (suc i) t (stretches_from (64 - n) m n))
run_step m i t n h e to after =
    let low : t ≤ i + (64 - i) = rw to (free_high (64 - i) m i) in
    let run : stretches_from (64 - i) m i ≡ some (run_then (suc i) t (stretches_from (64 - t) m t)) = rw to (from_run (64 - i) m i 64 (omega arith) h e) in
    let rest : stretches_from (64 - t) m t ≡ stretches_from (64 - n) m n = rw after (from_next_busy (64 - t) m t 64 (omega arith)) in
    run ∙ ap (λ (o : Option Pairs). some (run_then (suc i) t o)) rest

-- ---- the brackets of a busy line, one run of busy slots after the other

abbrev is_some : Option Pairs → Bool
is_some none = false
is_some (some p) = true

regroup : (w a x b e r : List ℕ) → (w ++ (a ++ (x ++ (b ++ e)))) ++ r ≡ w ++ (a ++ (x ++ (b ++ (e ++ r))))
regroup w a x b e r = simp append_assoc

-- the brackets of a run and of those after it
text_run : (f t : ℕ) (o : Option Pairs) (more : Bool) → more ≡ is_some o → brackets (run_then f t o) ≡ bracket_text f t more ++ brackets_of o
unfolding brackets bytes
text_run f t none more e = rw e (sym (regroup (bytes "(") (digits f) (bytes " ") (digits t) (bytes "))\n") []))
text_run f t (some p) more e = rw e (sym (regroup (bytes "(") (digits f) (bytes " ") (digits t) (bytes ") ") (brackets p)))

-- some slot of those below hi is busy from slot n on
more_from : (hi m n : ℕ) → (n < hi → has_bit m n ≡ true) → ltb n hi ≡ is_some (stretches_from (hi - n) m n)
unfolding stretches
more_from hi m n found = go (is (ltb n hi))
  where
    go : Is (ltb n hi) → ltb n hi ≡ is_some (stretches_from (hi - n) m n)
    go (is_true q) =
        let h : n < hi = lt_of n hi q in
        let d : hi - n ≡ suc (hi - suc n) = omega arith in
        rw (q, d, found h) refl
    go (is_false q) =
        let h : hi ≤ n = ge_of n hi q in
        let d : hi - n ≡ 0 = omega arith in
        rw (q, d) refl

-- From the busy slot i on: the bracket of its run, which ends in slot t, and the brackets from the next busy slot n on.
pub bracket_step : (m i t n : ℕ) → i < 64 → has_bit m i ≡ true → t ≡ free_from (64 - i) m i → n ≡ busy_from (64 - t) m t
    → brackets_of (stretches_from (64 - i) m i) ≡ bracket_text (suc i) t (ltb n 64) ++ brackets_of (stretches_from (64 - n) m n)
bracket_step m i t n h e to after =
    ap brackets_of (run_step m i t n h e to after)
    ∙ text_run (suc i) t (stretches_from (64 - n) m n) (ltb n 64) (more_from 64 m n (next_run m i t n h e to after).found)

-- the busy line of a mask that is not 0
pub busy_text : (b m : ℕ) → m < 2 ^ 64 → (m ≡ 0 → ⊥)
    → join (map print (busy_line_of b (stretches 64 1 m))) ≡ bytes "(busy " ++ (digits b ++ (bytes " " ++ brackets_of (stretches 64 1 m)))
unfolding print
busy_text b m h other = go (stretches 64 1 m) refl
  where
    go : (o : Option Pairs) → stretches 64 1 m ≡ o → join (map print (busy_line_of b o)) ≡ bytes "(busy " ++ (digits b ++ (bytes " " ++ brackets_of o))
    go none e = absurd (other (no_stretches m h e))
    go (some p) e = append-nil (print (busy_line b p))
