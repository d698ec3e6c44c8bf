-- Laws of writers: bytes that are written one run after the other.
--
-- In order: nothing or one byte written (`wrote_none`, `wrote_byte`, `wrote_out`); what a run leaves (`wrote_length`, `wrote_place`); what is still to be written
-- (`left_all`, `left_wrote`, `left_none`, `left_then`); one run and then another (`wrote_then`), two bytes (`wrote_two`); lines put together (`join_append`);
-- bytes that find room (`wrote_fits`); the same of writers (`writes_none` to `writes_out`).
-- Assumes nothing.
use Prim.Native.Nat.{ℕ, suc, ◌+◌, ◌≤◌, ◌<◌}
use native.Mathlib.Omega.{arith}
use mathlib.Core.Path.{◌≡◌, refl, sym, ◌∙◌, ap}
use mathlib.Core.List.{List, [], ◌∷◌, ◌++◌, append_assoc}
use lib.ListN.{length, set, drop, length-set, length-append}
use lib.Dec.{leb}
use lib.Seq.{sets, length-sets, sets-eq}
use Rattle.laws.proofs.Tests.{Is, is, is_true, is_false}
use Rattle.laws.proofs.Comparisons.{le_of, gt_of}
use Rattle.laws.proofs.Stores.{sets_out, sets_append}
use Rattle.station.specs.Text.{join}
use Rattle.station.specs.Wrote.{moved, Wrote, Left, Writes, Rest}
use Rattle.station.specs.declared.output.Writer.{Writer}

-- a place that stopped at the end stores as one that did not
sets_moved : (l : List ℕ) (at k : ℕ) (b : List ℕ) → (k ≡ 0 → ⊥) → sets l (moved (length l) at k) b ≡ sets l (at + k) b
unfolding moved
sets_moved l at k b some = go (is (leb (at + k) (length l)))
  where
    go : Is (leb (at + k) (length l)) → sets l (moved (length l) at k) b ≡ sets l (at + k) b
    go (is_true e) =
        let h = le_of (at + k) (length l) e in
        let m : moved (length l) at k ≡ at + k = omega arith in
        ap (λ (i : ℕ). sets l i b) m
    go (is_false e) =
        let h = gt_of (at + k) (length l) e in
        sets_out l (moved (length l) at k) b (omega arith) ∙ sym (sets_out l (at + k) b (omega arith))

sets_place : (l : List ℕ) (at : ℕ) (a b : List ℕ) → sets l (moved (length l) at (length a)) b ≡ sets l (at + length a) b
unfolding moved
sets_place l at [] b = let e : moved (length l) at 0 ≡ at + 0 = omega arith in ap (λ (i : ℕ). sets l i b) e
sets_place l at (v ∷ a) b = sets_moved l at (suc (length a)) b (λ z. omega arith)

-- nothing is written
pub wrote_none : (l : List ℕ) (at : ℕ) → Wrote l at [] l at
unfolding moved
wrote_none l at = record { output = refl; position = omega arith }

-- one byte within the output
pub wrote_byte : (l : List ℕ) (at b : ℕ) → at < length l → Wrote l at (b ∷ []) (set l at b) (at + 1)
unfolding moved
wrote_byte l at b h = record { output = refl; position = omega arith }

-- past the end nothing is written
pub wrote_out : (l : List ℕ) (at : ℕ) (bs : List ℕ) → length l ≤ at → Wrote l at bs l at
unfolding moved
wrote_out l at bs h = record { output = sym (sets_out l at bs h); position = omega arith }

-- the output stays as long as it was
pub wrote_length : {l : List ℕ} {at : ℕ} {bs : List ℕ} {l₁ : List ℕ} {r : ℕ} → Wrote l at bs l₁ r → length l₁ ≡ length l
wrote_length {l} {at} {bs} w = ap length w.output ∙ length-sets l at bs

-- the next place after bytes that fit
pub wrote_place : {l : List ℕ} {at : ℕ} {bs : List ℕ} {l₁ : List ℕ} {r : ℕ} → Wrote l at bs l₁ r → at + length bs ≤ length l → r ≡ at + length bs
unfolding moved
wrote_place {l} {at} {bs} w h = omega (arith, w.position)

-- all is still to be written
pub left_all : (l : List ℕ) (at : ℕ) (a : List ℕ) → Left l at a l at a
left_all l at a = record { output = refl; position = refl; size = refl }

-- a run was written, and b is left
pub left_wrote : {l : List ℕ} {at : ℕ} {all : List ℕ} {l₁ : List ℕ} {r : ℕ} (a b : List ℕ) {l₂ : List ℕ} {r₂ : ℕ}
    → Left l at all l₁ r (a ++ b) → Wrote l₁ r a l₂ r₂ → Left l at all l₂ r₂ b
unfolding moved
left_wrote {l} {at} {all} {l₁} {r} a b {l₂} {r₂} h w =
    let same = wrote_length w in
    let size : length (a ++ b) ≡ length a + length b = length-append a b in
    let position = w.position in
    let total : moved (length l₁) r (length (a ++ b)) ≡ moved (length l) at (length all) = h.position in
    record {
      output =
          ap (λ (x : List ℕ). sets x r₂ b) w.output
          ∙ ap (λ (i : ℕ). sets (sets l₁ r a) i b) (position ∙ ap (λ (n : ℕ). moved n r (length a)) (sym (length-sets l₁ r a)))
          ∙ sets_place' l₁ r a b
          ∙ sym (sets_append l₁ r a b)
          ∙ h.output;
      position = ap (λ (n : ℕ). moved n r₂ (length b)) same ∙ further (length l₁) r (length a) (length b) (length (a ++ b)) r₂ position size ∙ total;
      size = same ∙ h.size;
    }
  where
    sets_place' : (l₁ : List ℕ) (r : ℕ) (a b : List ℕ) → sets (sets l₁ r a) (moved (length (sets l₁ r a)) r (length a)) b ≡ sets (sets l₁ r a) (r + length a) b
    sets_place' l₁ r a b = sets_place (sets l₁ r a) r a b

    further : (n r j k s r₂ : ℕ) → r₂ ≡ moved n r j → s ≡ j + k → moved n r₂ k ≡ moved n r s
    further n r j k s r₂ e d = omega arith

-- nothing is left
pub left_none : {l : List ℕ} {at : ℕ} {all : List ℕ} {l₁ : List ℕ} {r : ℕ} → Left l at all l₁ r [] → Wrote l at all l₁ r
unfolding moved
left_none {l} {at} {all} {l₁} {r} h = let p : moved (length l₁) r 0 ≡ moved (length l) at (length all) = h.position in record { output = h.output; position = omega arith }

-- what was left is written
pub left_then : {l : List ℕ} {at : ℕ} {all : List ℕ} {l₁ : List ℕ} {r : ℕ} {b : List ℕ} {l₂ : List ℕ} {r₂ : ℕ}
    → Left l at all l₁ r b → Wrote l₁ r b l₂ r₂ → Wrote l at all l₂ r₂
left_then h w = record { output = w.output ∙ h.output; position = w.position ∙ h.position }

-- one run and then another
pub wrote_then : {l : List ℕ} {at : ℕ} {a : List ℕ} {l₁ : List ℕ} {r : ℕ} {b : List ℕ} {l₂ : List ℕ} {r₂ : ℕ}
    → Wrote l at a l₁ r → Wrote l₁ r b l₂ r₂ → Wrote l at (a ++ b) l₂ r₂
wrote_then {l} {at} {a} {l₁} {r} {b} v w = left_then (left_wrote a b (left_all l at (a ++ b)) v) w

-- two bytes within the output
pub wrote_two : (l : List ℕ) (at a b : ℕ) → at + 2 ≤ length l → Wrote l at (a ∷ b ∷ []) (set (set l at a) (at + 1) b) (at + 2)
wrote_two l at a b h =
    let e : at + 1 + 1 ≡ at + 2 = omega arith in
    rw e at (wrote_then (wrote_byte l at a (omega arith)) (wrote_byte (set l at a) (at + 1) b (omega (arith, length-set l at a))))

-- the texts of one list of lines and then another
pub join_append : (a b : List (List ℕ)) → join (a ++ b) ≡ join a ++ join b
join_append [] b = refl
join_append (l ∷ a) b = rw (append_assoc l (join a) (join b), join_append a b) refl

-- bytes that find room: they stand at the start, and what is past them is as it was
pub wrote_fits : {l : List ℕ} {bs : List ℕ} {l₁ : List ℕ} {r : ℕ} → Wrote l 0 bs l₁ r → length bs ≤ length l → (l₁ ≡ bs ++ drop (length bs) l) × (r ≡ length bs)
unfolding moved
wrote_fits {l} {bs} {l₁} {r} w h =
    let z : 0 + length bs ≡ length bs = omega arith in
    (w.output ∙ sets-eq bs l 0 (omega arith) ∙ ap (λ (k : ℕ). bs ++ drop k l) z, omega (arith, w.position))

-- ---- writers: an output and a place

-- nothing is written
pub writes_none : (w : Writer) → Writes w [] w
writes_none w = record { same = refl; wrote = wrote_none w.out.now w.at }

-- one run of a writer and then another
pub writes_then : {w : Writer} {a : List ℕ} {w₁ : Writer} {b : List ℕ} {w₂ : Writer} → Writes w a w₁ → Writes w₁ b w₂ → Writes w (a ++ b) w₂
writes_then v w = record { same = w.same ∙ v.same; wrote = wrote_then v.wrote w.wrote }

-- all is still to be written
pub rest_all : (w : Writer) (a : List ℕ) → Rest w a w a
rest_all w a = record { same = refl; left = left_all w.out.now w.at a }

-- a run was written, and b is left
pub rest_wrote : {w : Writer} {all : List ℕ} {w₁ : Writer} (a b : List ℕ) {w₂ : Writer} → Rest w all w₁ (a ++ b) → Writes w₁ a w₂ → Rest w all w₂ b
rest_wrote a b h v = record { same = v.same ∙ h.same; left = left_wrote a b h.left v.wrote }

-- nothing is left
pub rest_none : {w : Writer} {all : List ℕ} {w₁ : Writer} → Rest w all w₁ [] → Writes w all w₁
rest_none h = record { same = h.same; wrote = left_none h.left }

-- what was left is written
pub rest_then : {w : Writer} {all : List ℕ} {w₁ : Writer} {b : List ℕ} {w₂ : Writer} → Rest w all w₁ b → Writes w₁ b w₂ → Writes w all w₂
rest_then h v = record { same = v.same ∙ h.same; wrote = left_then h.left v.wrote }

-- what a writer wrote, of the output and the place that it was made of, and of those that it leaves
pub writes_out : {w : Writer} {bs : List ℕ} {w₁ : Writer} {l l₁ : List ℕ} {at r : ℕ} → Writes w bs w₁ → w.out.now ≡ l → w.at ≡ at → l₁ ≡ w₁.out.now → r ≡ w₁.at → Wrote l at bs l₁ r
writes_out h a b c d = rw (c, d, ← a, ← b) h.wrote
