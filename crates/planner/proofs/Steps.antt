-- Laws of the layout, record by record and number by number, as the code reads and writes them.
--
-- In order: one record of those read (`record_read`), one more read into the copied (`read_more`, `read_all`); a record written byte by byte (`record_written`), one more
-- of them (`write_more`, `written_all`); one more number written (`number_more`, `numbers_all`); a frame written number by number (`head_written`, `orders_written`); an order of ties that stands
-- already or is written (`tie_stands`, `tie_written`); a frame after a text that ran and after a refusal (`ran_written`, `refused_written`).
-- Assumes nothing.
use Prim.Native.Nat.{ℕ, zero, suc, ◌+◌, ◌*◌, ◌≤◌, ◌<◌}
use native.Mathlib.Omega.{arith}
use mathlib.Core.Path.{◌≡◌, refl, sym, ◌∙◌, ap}
use mathlib.Core.Bool.{Bool, true, false, beq}
use mathlib.Core.List.{List, [], ◌∷◌}
use Rattle.std.specs.Prelude.{Result, Ok, Err}
use lib.ListN.{length, get_or, set, take, drop, drop_of_length-le}
use lib.Seq.{sets, drop-cons, get_or-drop, take-suc, take-suc-set, take_all}
use Rattle.laws.specs.Sums.{bit}
use Rattle.station.specs.declared.types.Preset.{Preset}
use Rattle.station.specs.declared.types.Head.{Head}
use Rattle.station.specs.declared.types.Fault.{Fault}
use Rattle.frame.specs.TextDone.{end_in}
use Rattle.station.specs.Types.{no_record}
use Rattle.planner.specs.Layout.{record_at, first_records, records_in, bytes_of, head_tie, says_hold, head_over, tie_over}
use Rattle.planner.specs.Exports.{frame_left}
use Rattle.planner.proofs.RoundTrip.{length_records}

-- the record at place i of those read
pub record_read : (n i : ℕ) (l : List ℕ) → i < n → get_or (first_records n l) i no_record ≡ record_at l i
unfolding first_records
record_read zero i l h = absurd (omega arith)
record_read (suc n) zero l h = refl
record_read (suc n) (suc i) l h = record_read n i (drop 4 l) (omega arith) ∙ here
  where
    at : (k m : ℕ) → 4 + k ≡ m → get_or (drop 4 l) k 0 ≡ get_or l m 0
    at k m e = get_or-drop 4 l k 0 ∙ ap (λ (j : ℕ). get_or l j 0) e

    here : record_at (drop 4 l) i ≡ record_at l (suc i)
    here =
        rw (at (4 * i) (4 * suc i) (omega arith), at (4 * i + 1) (4 * suc i + 1) (omega arith), at (4 * i + 2) (4 * suc i + 2) (omega arith), at (4 * i + 3) (4 * suc i + 3) (omega arith))
        refl

-- one more record read into the copied
pub read_more : (copied : List Preset) (l : List ℕ) (i : ℕ) {p : Preset} → i < 32 → length copied ≡ 32 → take i copied ≡ take i (records_in l) → p ≡ record_at l i
    → take (i + 1) (set copied i p) ≡ take (i + 1) (records_in l)
read_more copied l i h long e p =
    let next : i + 1 ≡ suc i = omega arith in
    rw (p, next, take-suc-set copied i (record_at l i) (omega (arith, long)), take-suc (records_in l) i no_record (omega (arith, length_records 32 l)), e, record_read 32 i l h) refl

pub read_all : (copied : List Preset) (l : List ℕ) (i : ℕ) → 32 ≤ i → i ≤ 32 → length copied ≡ 32 → take i copied ≡ take i (records_in l) → copied ≡ records_in l
read_all copied l i low high long e =
    sym (take_all i copied (omega (arith, long))) ∙ e ∙ take_all i (records_in l) (omega (arith, length_records 32 l))

-- a record written byte by byte
pub record_written : (p : Preset) (l : List ℕ) (k : ℕ) {l₁ l₂ l₃ l₄ : List ℕ}
    → l₁ ≡ set l k p.number → l₂ ≡ set l₁ (k + 1) p.priority → l₃ ≡ set l₂ (k + 2) p.mandatory → l₄ ≡ set l₃ (k + 3) p.optional → l₄ ≡ sets l k (bytes_of (p ∷ []))
unfolding bytes_of
record_written p l k e₁ e₂ e₃ e₄ =
    let one : k + 1 ≡ suc k = omega arith in
    let two : k + 2 ≡ suc (suc k) = omega arith in
    let three : k + 3 ≡ suc (suc (suc k)) = omega arith in
    rw (e₄, e₃, e₂, e₁, one, two, three) refl

-- one more record written: the rest of them is still to be
pub write_more : (copied : List Preset) (l : List ℕ) (i : ℕ) {p : Preset} {l₁ : List ℕ} → i < length copied → p ≡ get_or copied i no_record → l₁ ≡ sets l (4 * i) (bytes_of (p ∷ []))
    → sets l₁ (4 * (i + 1)) (bytes_of (drop (i + 1) copied)) ≡ sets l (4 * i) (bytes_of (drop i copied))
unfolding bytes_of
write_more copied l i h p e =
    let next : i + 1 ≡ suc i = omega arith in
    let four : 4 * suc i ≡ suc (suc (suc (suc (4 * i)))) = omega arith in
    rw (e, p, next, four, drop-cons copied i no_record h) refl

pub written_all : (copied : List Preset) (l : List ℕ) (i : ℕ) {all : List ℕ} → length copied ≤ i → sets l (4 * i) (bytes_of (drop i copied)) ≡ all → l ≡ all
unfolding bytes_of
written_all copied l i h e = rw (drop_of_length-le copied h) at e

-- ---- numbers

-- one more number written, at place k: the rest of them is still to be
pub number_more : (vs l : List ℕ) (i k next : ℕ) {l₁ : List ℕ} → next ≡ suc k → i < length vs → l₁ ≡ set l k (get_or vs i 0)
    → sets l₁ next (drop (i + 1) vs) ≡ sets l k (drop i vs)
number_more vs l i k next n h e =
    let one : i + 1 ≡ suc i = omega arith in
    rw (e, n, one, drop-cons vs i 0 h) refl

pub numbers_all : (vs l : List ℕ) (i k : ℕ) {all : List ℕ} → length vs ≤ i → sets l k (drop i vs) ≡ all → l ≡ all
numbers_all vs l i k h e = rw (drop_of_length-le vs h) at e

-- a head and a clock written number by number
pub head_written : (head : Head) (clock : ℕ) (l : List ℕ) {l₁ l₂ l₃ l₄ l₅ l₆ : List ℕ}
    → l₁ ≡ set l 0 head.slots → l₂ ≡ set l₁ 1 head.bridges → l₃ ≡ set l₂ 2 head.count → l₄ ≡ set l₃ 3 clock → l₅ ≡ sets l₄ 4 head.busy → l₆ ≡ set l₅ 12 head.supply
    → l₆ ≡ head_over head clock l
head_written head clock l e₁ e₂ e₃ e₄ e₅ e₆ = rw (e₆, e₅, e₄, e₃, e₂, e₁) refl

-- both orders of ties, and 0 in the reserved place beside them
pub orders_written : (l : List ℕ) (kept hold : Bool) {l₂ l₃ l₄ : List ℕ} {a b : ℕ}
    → a ≡ bit kept → l₂ ≡ set l 13 a → b ≡ bit hold → l₃ ≡ set l₂ 14 b → l₄ ≡ set l₃ 15 0 → l₄ ≡ sets l 13 (bit kept ∷ bit hold ∷ 0 ∷ [])
orders_written l kept hold a e₂ b e₃ e₄ = rw (e₄, e₃, b, e₂, a) refl

-- an order of ties at a place, which stands there already or is written
module _ (place : ℕ) (hold : Bool) (l : List ℕ) {n : ℕ} {says : Bool} (read : n ≡ get_or l place 0) (is_said : says ≡ says_hold n) where
  compared : beq (says_hold (get_or l place 0)) hold ≡ beq says hold
  compared = ap (λ (b : Bool). beq b hold) (sym (is_said ∙ ap says_hold read))

  pub tie_stands : beq says hold ≡ true → l ≡ tie_over place hold l
  tie_stands e = rw (compared ∙ e) refl

  pub tie_written : {a : ℕ} {l₁ : List ℕ} → beq says hold ≡ false → a ≡ bit hold → l₁ ≡ set l place a → l₁ ≡ tie_over place hold l
  tie_written e a put = put ∙ ap (set l place) a ∙ rw (compared ∙ e) refl

-- what a text that ran leaves of a frame, and what a refusal leaves
module _ (x : Result ℕ Fault) (head : Head) (clock : ℕ) (hold : Bool) (l : List ℕ) {l₁ l₂ : List ℕ} (e : l₁ ≡ head_over head clock l) where
  pub ran_written : {n : ℕ} → x ≡ Ok n → l₂ ≡ sets l₁ 13 (bit head.hold ∷ bit hold ∷ 0 ∷ []) → l₂ ≡ frame_left (end_in x) head clock hold l
  ran_written q e₂ = rw (q, e₂, e) refl

  pub refused_written : {f : Fault} → x ≡ Err f → l₂ ≡ tie_over head_tie head.hold l₁ → l₂ ≡ frame_left (end_in x) head clock hold l
  refused_written q e₂ = rw (q, e₂, e) refl
