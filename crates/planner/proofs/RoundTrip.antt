-- The layout's round trips: reading and writing are inverse, and what stands past the records and the frame never changes.
--
-- In order: a run of stores (`sets_cons`, `sets_four`, `sets_short`, `sets_past`); preset records: what was written is read back (`records_back`), what was read and is
-- written changes nothing (`bytes_back`), nor does what was read behind other records (`bytes_over_rest`), and bytes past them stay (`bytes_past`); a frame: the places of its head
-- (`head_agrees`, `head_equal`), its reserved place is not looked at (`reserved_head`, `reserved_clock`, `reserved_hold`), what was written is read back (`head_back`, `clock_back_lem`,
-- `hold_back`), numbers past it stay (`numbers_past`), the head and the clock that were read and are written change nothing (`head_same`), nor does a whole frame exactly if it stands
-- as it is written (`AsWritten`, `as_written`, `numbers_back`, `back_written`); an order of ties alone, which stands already or is written (`TiePut`, `tie_put`, `tie_same`), and the
-- head that was read, with its own (`read_same`); a clock and the order of ties in force, as an event leaves them (`run_others`, `run_length`, `run_head`, `run_clock`, `run_small`,
-- `run_hold`, `run_same`), and those of the start (`started_head`, `started_clock`, `started_hold`); its masks alone (`masks_head`, `masks_same`).
-- Assumes nothing.
use Prim.Native.Nat.{ℕ, zero, suc, ◌+◌, ◌*◌, ◌≤◌, ◌<◌}
use native.Mathlib.Omega.{arith}
use mathlib.Core.Path.{◌≡◌, refl, sym, ◌∙◌, ap, subst}
use mathlib.Core.Bool.{Bool, true, false}
use mathlib.Core.List.{List, [], ◌∷◌, ◌++◌, append-nil}
use lib.ListN.{length, get_or, set, drop, length-set}
use lib.Seq.{sets, length-sets, sets-eq, drop-set-lt, get_or-set_same, get_or-set_other, set-get_or}
use Rattle.laws.specs.Sums.{bit}
use Rattle.laws.specs.Lists.{tabulate}
use Rattle.laws.proofs.Tests.{Is, is, is_true, is_false, clash}
use Rattle.laws.proofs.Counts.{bit_le, bit_positive}
use Rattle.laws.proofs.Stores.{sets_out}
use Rattle.station.specs.declared.types.Preset.{Preset}
use Rattle.station.specs.declared.types.Head.{Head}
use Rattle.station.specs.Types.{with_supplied, with_hold, with_masks}
use Rattle.placing.specs.Valid.{first_clock}
use Rattle.planner.specs.Layout.{first_records, bytes_of, bytes_over, frame_numbers, clock_place, supply_place, head_tie, tie_in_force, says_hold, head_of_numbers, clock_of_numbers, hold_of_numbers, head_over, tie_over, numbers_over, clock_over, started, masks_over}

-- ---- a run of stores

module _ {A : Type 0} where
  sets_cons : (x : A) (l : List A) (i : ℕ) (vs : List A) → sets (x ∷ l) (suc i) vs ≡ x ∷ sets l i vs
  sets_cons x l i [] = refl
  sets_cons x l i (v ∷ vs) = sets_cons x (set l i v) (suc i) vs

  -- stores after the fourth place
  sets_four : (a b c d : A) (l vs : List A) → sets (a ∷ b ∷ c ∷ d ∷ l) 4 vs ≡ a ∷ b ∷ c ∷ d ∷ sets l 0 vs
  sets_four a b c d l vs =
      sets_cons a (b ∷ c ∷ d ∷ l) 3 vs
      ∙ ap (λ (r : List A). a ∷ r) (sets_cons b (c ∷ d ∷ l) 2 vs)
      ∙ ap (λ (r : List A). a ∷ b ∷ r) (sets_cons c (d ∷ l) 1 vs)
      ∙ ap (λ (r : List A). a ∷ b ∷ c ∷ r) (sets_cons d l 0 vs)

  -- and whatever they are, past the end
  sets_short : (l u v : List A) → length l ≤ 4 → sets l 4 u ≡ sets l 4 v
  sets_short l u v h = sets_out l 4 u h ∙ sym (sets_out l 4 v h)

  sets_past : (n : ℕ) (l : List A) (i : ℕ) (vs : List A) → i + length vs ≤ n → drop n (sets l i vs) ≡ drop n l
  sets_past n l i [] h = refl
  sets_past n l i (v ∷ vs) h = sets_past n (set l i v) (suc i) vs (omega arith) ∙ drop-set-lt n l i v (omega arith)

-- ---- preset records

pub bytes_length : (ps : List Preset) → length (bytes_of ps) ≡ 4 * length ps
unfolding bytes_of
bytes_length [] = refl
bytes_length (p ∷ ps) = omega (arith, bytes_length ps)

-- reading what was written gives the records back
pub records_back : (ps : List Preset) (l : List ℕ) → 4 * length ps ≤ length l → first_records (length ps) (bytes_over ps l) ≡ ps
unfolding first_records bytes_of
records_back [] l h = refl
records_back (p ∷ ps) [] h = absurd (omega arith)
records_back (p ∷ ps) (a ∷ []) h = absurd (omega arith)
records_back (p ∷ ps) (a ∷ b ∷ []) h = absurd (omega arith)
records_back (p ∷ ps) (a ∷ b ∷ c ∷ []) h = absurd (omega arith)
records_back (p ∷ ps) (a ∷ b ∷ c ∷ d ∷ l) h =
    rw (sets_four p.number p.priority p.mandatory p.optional l (bytes_of ps)) (ap (λ (r : List Preset). p ∷ r) (records_back ps l (omega arith)))

-- writing what was read changes nothing
pub bytes_back : (n : ℕ) (l : List ℕ) → bytes_over (first_records n l) l ≡ l
unfolding first_records bytes_of
bytes_back zero l = refl
bytes_back (suc n) [] = sets_out [] 4 (bytes_of (first_records n [])) (omega arith)
bytes_back (suc n) (a ∷ []) = sets_out (a ∷ []) 4 (bytes_of (first_records n [])) (omega arith)
bytes_back (suc n) (a ∷ b ∷ []) = sets_out (a ∷ b ∷ []) 4 (bytes_of (first_records n [])) (omega arith)
bytes_back (suc n) (a ∷ b ∷ c ∷ []) = sets_out (a ∷ b ∷ c ∷ []) 4 (bytes_of (first_records n [])) (omega arith)
bytes_back (suc n) (a ∷ b ∷ c ∷ d ∷ l) = sets_four a b c d l (bytes_of (first_records n l)) ∙ ap (λ (r : List ℕ). a ∷ b ∷ c ∷ d ∷ r) (bytes_back n l)

-- nor does writing what was read behind other records
pub bytes_over_rest : (rs : List Preset) (n : ℕ) (l : List ℕ) → bytes_over (rs ++ drop (length rs) (first_records n l)) l ≡ bytes_over rs l
unfolding first_records bytes_of
bytes_over_rest [] n l = bytes_back n l
bytes_over_rest (p ∷ rs) zero l = ap (λ (r : List Preset). bytes_over (p ∷ r) l) (append-nil rs)
bytes_over_rest (p ∷ rs) (suc n) [] = sets_short [] (bytes_of (rs ++ drop (length rs) (first_records n []))) (bytes_of rs) (omega arith)
bytes_over_rest (p ∷ rs) (suc n) (a ∷ []) = sets_short (p.number ∷ []) (bytes_of (rs ++ drop (length rs) (first_records n []))) (bytes_of rs) (omega arith)
bytes_over_rest (p ∷ rs) (suc n) (a ∷ b ∷ []) =
    sets_short (p.number ∷ p.priority ∷ []) (bytes_of (rs ++ drop (length rs) (first_records n []))) (bytes_of rs) (omega arith)
bytes_over_rest (p ∷ rs) (suc n) (a ∷ b ∷ c ∷ []) =
    sets_short (p.number ∷ p.priority ∷ p.mandatory ∷ []) (bytes_of (rs ++ drop (length rs) (first_records n []))) (bytes_of rs) (omega arith)
bytes_over_rest (p ∷ rs) (suc n) (a ∷ b ∷ c ∷ d ∷ l) =
    sets_four p.number p.priority p.mandatory p.optional l (bytes_of (rs ++ drop (length rs) (first_records n l)))
    ∙ ap (λ (r : List ℕ). p.number ∷ p.priority ∷ p.mandatory ∷ p.optional ∷ r) (bytes_over_rest rs n l)
    ∙ sym (sets_four p.number p.priority p.mandatory p.optional l (bytes_of rs))

-- bytes past the records never change
pub bytes_past : (ps : List Preset) (l : List ℕ) → length ps ≤ 32 → drop 128 (bytes_over ps l) ≡ drop 128 l
bytes_past ps l h = sets_past 128 l 0 (bytes_of ps) (omega (arith, bytes_length ps))

pub length_records : (n : ℕ) (l : List ℕ) → length (first_records n l) ≡ n
unfolding first_records
length_records zero l = refl
length_records (suc n) l = ap suc (length_records n (drop 4 l))

-- ---- a frame

-- n numbers at the start of a list, read one by one
firsts_read : (a b : List ℕ) → tabulate (length a) (λ i. get_or (a ++ b) i 0) ≡ a
unfolding tabulate
firsts_read [] b = refl
firsts_read (x ∷ a) b = ap (λ (r : List ℕ). x ∷ r) (firsts_read a b)

-- a number below a run of stores
below_sets : (l : List ℕ) (k : ℕ) (vs : List ℕ) (i : ℕ) → i < k → get_or (sets l k vs) i 0 ≡ get_or l i 0
below_sets l k [] i h = refl
below_sets l k (v ∷ vs) i h = below_sets (set l k v) (suc k) vs i (omega arith) ∙ get_or-set_other l k i v 0 (omega arith)

-- and one past it
past_sets : (l : List ℕ) (k : ℕ) (vs : List ℕ) (i : ℕ) → k + length vs ≤ i → get_or (sets l k vs) i 0 ≡ get_or l i 0
past_sets l k [] i h = refl
past_sets l k (v ∷ vs) i h = past_sets (set l k v) (suc k) vs i (omega arith) ∙ get_or-set_other l k i v 0 (omega arith)

-- The head is made of the numbers at its places: a frame that agrees there with another has the same head but for its supply and its order of ties.
module _ (l m : List ℕ) (at : (i : ℕ) → i < 12 → (i ≡ clock_place → ⊥) → get_or m i 0 ≡ get_or l i 0) where
  head_agrees : (k : ℕ) (hold : Bool) → get_or m supply_place 0 ≡ k → says_hold (get_or m head_tie 0) ≡ hold → head_of_numbers m ≡ with_hold (with_supplied (head_of_numbers l) k) hold
  unfolding tabulate
  head_agrees k hold fed tie =
      rw (at 0 (omega arith) (λ e. omega arith), at 1 (omega arith) (λ e. omega arith), at 2 (omega arith) (λ e. omega arith), at 4 (omega arith) (λ e. omega arith), at 5 (omega arith) (λ e. omega arith), at 6 (omega arith) (λ e. omega arith), at 7 (omega arith) (λ e. omega arith), at 8 (omega arith) (λ e. omega arith), at 9 (omega arith) (λ e. omega arith), at 10 (omega arith) (λ e. omega arith), at 11 (omega arith) (λ e. omega arith), fed, tie)
      refl

  -- and the same head where it agrees there too
  head_equal : get_or m supply_place 0 ≡ get_or l supply_place 0 → get_or m head_tie 0 ≡ get_or l head_tie 0 → head_of_numbers m ≡ head_of_numbers l
  head_equal fed tie = head_agrees (get_or l supply_place 0) (says_hold (get_or l head_tie 0)) fed (ap says_hold tie)

-- The reserved place is not looked at: whatever is written there, the head, the clock and the order of ties in force are the same.
module _ (l : List ℕ) (jobs : ℕ) where
  reserved_at : (i : ℕ) → (i ≡ 15 → ⊥) → get_or (set l 15 jobs) i 0 ≡ get_or l i 0
  reserved_at i b = get_or-set_other l 15 i jobs 0 b

  pub reserved_head : head_of_numbers (set l 15 jobs) ≡ head_of_numbers l
  reserved_head = head_equal l (set l 15 jobs) (λ i h k. reserved_at i (λ e. omega arith)) (reserved_at supply_place (λ e. omega arith)) (reserved_at head_tie (λ e. omega arith))

  pub reserved_clock : clock_of_numbers (set l 15 jobs) ≡ clock_of_numbers l
  reserved_clock = reserved_at 3 (λ e. omega arith)

  pub reserved_hold : hold_of_numbers (set l 15 jobs) ≡ hold_of_numbers l
  reserved_hold = ap says_hold (reserved_at tie_in_force (λ e. omega arith))

-- both orders of ties, with 0 in the reserved place beside them
module _ (l : List ℕ) (kept hold : Bool) where
  abbrev both_orders : List ℕ
  both_orders = sets l 13 (bit kept ∷ bit hold ∷ 0 ∷ [])

  abbrev to_thirteen : List ℕ
  to_thirteen = set l 13 (bit kept)

  orders_below : (i : ℕ) → i < 13 → get_or both_orders i 0 ≡ get_or l i 0
  orders_below = below_sets l 13 (bit kept ∷ bit hold ∷ 0 ∷ [])

  orders_head : frame_numbers ≤ length l → head_of_numbers both_orders ≡ with_hold (head_of_numbers l) kept
  orders_head h =
      let read : get_or both_orders head_tie 0 ≡ bit kept = below_sets to_thirteen 14 (bit hold ∷ 0 ∷ []) 13 (omega arith) ∙ get_or-set_same l 13 (bit kept) 0 (omega (arith, h)) in
      head_agrees l both_orders (λ i k n. orders_below i (omega arith)) (get_or l supply_place 0) kept (orders_below supply_place (omega arith)) (ap says_hold read ∙ bit_positive kept)

  orders_hold : frame_numbers ≤ length l → hold_of_numbers both_orders ≡ hold
  orders_hold h =
      let read : get_or both_orders tie_in_force 0 ≡ bit hold =
      below_sets (set to_thirteen 14 (bit hold)) 15 (0 ∷ []) 14 (omega arith)
      ∙ get_or-set_same to_thirteen 14 (bit hold) 0 (omega (arith, h, length-set l 13 (bit kept))) in
      ap says_hold read ∙ bit_positive hold

-- what was written is read back
module _ (head : Head) (clock : ℕ) (hold : Bool) (l : List ℕ) (eight : length head.busy ≡ 8) where
  -- without the supply
  abbrev unfed : List ℕ
  unfed = sets l 0 (head.slots ∷ head.bridges ∷ head.count ∷ clock ∷ head.busy)

  numbers_are : frame_numbers ≤ length l → unfed ≡ head.slots ∷ head.bridges ∷ head.count ∷ clock ∷ (head.busy ++ drop 12 l)
  numbers_are h = sets-eq (head.slots ∷ head.bridges ∷ head.count ∷ clock ∷ head.busy) l 0 (omega (arith, eight)) ∙ rw eight refl

  unfed_long : length unfed ≡ length l
  unfed_long = length-sets l 0 (head.slots ∷ head.bridges ∷ head.count ∷ clock ∷ head.busy)

  head_long : frame_numbers ≤ length l → frame_numbers ≤ length (head_over head clock l)
  head_long h = omega (arith, h, unfed_long, length-set unfed supply_place head.supply)

  fed_below : (i : ℕ) → i < 12 → get_or (head_over head clock l) i 0 ≡ get_or unfed i 0
  fed_below i k = get_or-set_other unfed supply_place i head.supply 0 (λ e. omega arith)

  pub head_back : frame_numbers ≤ length l → head_of_numbers (numbers_over head clock hold l) ≡ head
  unfolding tabulate
  head_back h =
      let masks : tabulate 8 (λ i. get_or (head.busy ++ drop 12 l) i 0) ≡ head.busy = rw eight at (firsts_read head.busy (drop 12 l)) in
      orders_head (head_over head clock l) head.hold hold (head_long h)
      ∙ ap (λ (g : Head). with_hold g head.hold)
      (head_agrees unfed (head_over head clock l) (λ i k n. fed_below i k) head.supply (head_of_numbers (head_over head clock l)).hold
      (get_or-set_same unfed supply_place head.supply 0 (omega (arith, h, unfed_long))) refl)
      ∙ rw (numbers_are h, masks) refl

  pub clock_back_lem : frame_numbers ≤ length l → clock_of_numbers (numbers_over head clock hold l) ≡ clock
  clock_back_lem h = orders_below (head_over head clock l) head.hold hold 3 (omega arith) ∙ fed_below 3 (omega arith) ∙ rw (numbers_are h) refl

  pub hold_back : frame_numbers ≤ length l → hold_of_numbers (numbers_over head clock hold l) ≡ hold
  hold_back h = orders_hold (head_over head clock l) head.hold hold (head_long h)

  -- numbers past a whole frame never change
  pub numbers_past : drop frame_numbers (numbers_over head clock hold l) ≡ drop frame_numbers l
  numbers_past =
      sets_past frame_numbers (head_over head clock l) 13 (bit head.hold ∷ bit hold ∷ 0 ∷ []) (omega arith)
      ∙ drop-set-lt frame_numbers unfed supply_place head.supply (omega arith)
      ∙ sets_past frame_numbers l 0 (head.slots ∷ head.bridges ∷ head.count ∷ clock ∷ head.busy) (omega (arith, eight))

-- writing the head but for its order of ties and the clock that were read changes nothing
head_same : (l : List ℕ) → head_over (head_of_numbers l) (clock_of_numbers l) l ≡ l
unfolding tabulate
head_same l =
    rw (set-get_or l 0 0, set-get_or l 1 0, set-get_or l 2 0, set-get_or l 3 0, set-get_or l 4 0, set-get_or l 5 0, set-get_or l 6 0, set-get_or l 7 0, set-get_or l 8 0, set-get_or l 9 0, set-get_or l 10 0, set-get_or l 11 0, set-get_or l 12 0)
    refl

-- A frame as a text that ran leaves it: the reserved number is 0, and an order of ties is 0 or 1.
pub record AsWritten (l : List ℕ) : Type 0 where
  pub tie : get_or l head_tie 0 ≡ bit (says_hold (get_or l head_tie 0))
  pub tie_now_lem : get_or l tie_in_force 0 ≡ bit (says_hold (get_or l tie_in_force 0))
  pub jobs : get_or l 15 0 ≡ 0

-- 0 that was written at a place stands there, and past the end 0 is read; an order of ties too; a number written where it stands changes nothing
zero_at : (l : List ℕ) (i : ℕ) → get_or (set l i 0) i 0 ≡ 0
zero_at [] i = refl
zero_at (x ∷ l) zero = refl
zero_at (x ∷ l) (suc i) = zero_at l i

bit_at : (l : List ℕ) (i : ℕ) (b : Bool) → get_or (set l i (bit b)) i 0 ≡ bit (says_hold (get_or (set l i (bit b)) i 0))
bit_at [] i b = refl
bit_at (x ∷ l) zero b = ap bit (sym (bit_positive b))
bit_at (x ∷ l) (suc i) b = bit_at l i b

put_same : (l : List ℕ) (i v : ℕ) → get_or l i 0 ≡ v → set l i v ≡ l
put_same l i v e = ap (set l i) (sym e) ∙ set-get_or l i 0

pub as_written : (l : List ℕ) (kept hold : Bool) → AsWritten (sets l 13 (bit kept ∷ bit hold ∷ 0 ∷ []))
as_written l kept hold =
    let l₂ = set l 13 (bit kept) in
    let l₃ = set l₂ 14 (bit hold) in
    let thirteen = below_sets l₂ 14 (bit hold ∷ 0 ∷ []) 13 (omega arith) in
    let fourteen = below_sets l₃ 15 (0 ∷ []) 14 (omega arith) in
    record {
      tie = thirteen ∙ bit_at l 13 kept ∙ ap (λ (n : ℕ). bit (says_hold n)) (sym thirteen);
      tie_now_lem = fourteen ∙ bit_at l₂ 14 hold ∙ ap (λ (n : ℕ). bit (says_hold n)) (sym fourteen);
      jobs = zero_at l₃ 15;
    }

-- Writing the whole frame that was read changes nothing exactly if it is so.
pub numbers_back : (l : List ℕ) → AsWritten l → numbers_over (head_of_numbers l) (clock_of_numbers l) (hold_of_numbers l) l ≡ l
numbers_back l z =
    let kept = says_hold (get_or l head_tie 0) in
    let hold = hold_of_numbers l in
    ap (λ (m : List ℕ). sets m 13 (bit kept ∷ bit hold ∷ 0 ∷ [])) (head_same l)
    ∙ rw (put_same l head_tie (bit kept) z.tie, put_same l tie_in_force (bit hold) z.tie_now_lem, put_same l 15 0 z.jobs) refl

pub back_written : (l : List ℕ) → numbers_over (head_of_numbers l) (clock_of_numbers l) (hold_of_numbers l) l ≡ l → AsWritten l
back_written l e = subst AsWritten e (as_written (head_over (head_of_numbers l) (clock_of_numbers l) l) (says_hold (get_or l head_tie 0)) (hold_of_numbers l))

-- ---- an order of ties alone

-- it stands at its place already, in whatever number, or it is written there
data TiePut (place : ℕ) (hold : Bool) (l : List ℕ) : List ℕ → Type 0 where
  stands : says_hold (get_or l place 0) ≡ hold → TiePut place hold l l
  written : (says_hold (get_or l place 0) ≡ hold → ⊥) → TiePut place hold l (set l place (bit hold))

tie_put : (place : ℕ) (hold : Bool) (l : List ℕ) → TiePut place hold l (tie_over place hold l)
tie_put place hold l = go (is (says_hold (get_or l place 0))) hold
  where
    go : Is (says_hold (get_or l place 0)) → (hold : Bool) → TiePut place hold l (tie_over place hold l)
    go (is_true e) true = rw e (stands e)
    go (is_true e) false = rw e (written (λ q. clash (sym e ∙ q)))
    go (is_false e) true = rw e (written (λ q. clash (sym q ∙ e)))
    go (is_false e) false = rw e (stands e)

module _ {place : ℕ} {hold : Bool} {l : List ℕ} where
  put_length : {m : List ℕ} → TiePut place hold l m → length m ≡ length l
  put_length (stands e) = refl
  put_length (written k) = length-set l place (bit hold)

  put_other : {m : List ℕ} (i : ℕ) → (i ≡ place → ⊥) → TiePut place hold l m → get_or m i 0 ≡ get_or l i 0
  put_other i d (stands e) = refl
  put_other i d (written k) = get_or-set_other l place i (bit hold) 0 d

  put_says : {m : List ℕ} → place < length l → TiePut place hold l m → says_hold (get_or m place 0) ≡ hold
  put_says h (stands e) = e
  put_says h (written k) = ap says_hold (get_or-set_same l place (bit hold) 0 h) ∙ bit_positive hold

  put_small : {m : List ℕ} → get_or l place 0 ≤ 1 → TiePut place hold l m → get_or m place 0 ≤ 1
  put_small h (stands e) = h
  put_small h (written k) = omega (arith, bit_at l place hold, bit_le (says_hold (get_or (set l place (bit hold)) place 0)))

  stood : {m : List ℕ} → says_hold (get_or l place 0) ≡ hold → TiePut place hold l m → m ≡ l
  stood q (stands e) = refl
  stood q (written k) = absurd (k q)

-- an order that stands changes nothing, whatever number says it
tie_same : (place : ℕ) (l : List ℕ) → tie_over place (says_hold (get_or l place 0)) l ≡ l
tie_same place l = stood refl (tie_put place (says_hold (get_or l place 0)) l)

-- writing the head and the clock that were read changes nothing
pub read_same : (l : List ℕ) → tie_over head_tie (head_of_numbers l).hold (head_over (head_of_numbers l) (clock_of_numbers l) l) ≡ l
read_same l = ap (tie_over head_tie (head_of_numbers l).hold) (head_same l) ∙ tie_same head_tie l

-- ---- its clock and its order of ties in force

module _ (c : ℕ) (hold : Bool) (l : List ℕ) where
  abbrev run_on_lem : List ℕ
  run_on_lem = tie_over tie_in_force hold (clock_over c l)

  pub run_others : (i : ℕ) → (i ≡ clock_place → ⊥) → (i ≡ tie_in_force → ⊥) → get_or run_on_lem i 0 ≡ get_or l i 0
  run_others i a b = put_other i b (tie_put tie_in_force hold (clock_over c l)) ∙ get_or-set_other l clock_place i c 0 a

  pub run_length : length run_on_lem ≡ length l
  run_length = put_length (tie_put tie_in_force hold (clock_over c l)) ∙ length-set l clock_place c

  pub run_head : head_of_numbers run_on_lem ≡ head_of_numbers l
  run_head =
      head_equal l run_on_lem (λ i h k. run_others i k (λ e. omega arith)) (run_others supply_place (λ e. omega arith) (λ e. omega arith)) (run_others head_tie (λ e. omega arith) (λ e. omega arith))

  pub run_clock : frame_numbers ≤ length l → clock_of_numbers run_on_lem ≡ c
  run_clock h = put_other clock_place (λ e. omega arith) (tie_put tie_in_force hold (clock_over c l)) ∙ get_or-set_same l clock_place c 0 (omega arith)

  -- an order that is 0 or 1 stays one of these
  pub run_small : get_or l tie_in_force 0 ≤ 1 → get_or run_on_lem tie_in_force 0 ≤ 1
  run_small h = put_small (omega (arith, h, get_or-set_other l clock_place tie_in_force c 0 (λ e. omega arith))) (tie_put tie_in_force hold (clock_over c l))

  pub run_hold : frame_numbers ≤ length l → hold_of_numbers run_on_lem ≡ hold
  run_hold h = put_says (omega (arith, h, length-set l clock_place c)) (tie_put tie_in_force hold (clock_over c l))

pub run_same : (l : List ℕ) → tie_over tie_in_force (hold_of_numbers l) (clock_over (clock_of_numbers l) l) ≡ l
run_same l = ap (tie_over tie_in_force (hold_of_numbers l)) (set-get_or l clock_place 0) ∙ tie_same tie_in_force l

-- ---- its clock and its order of ties in force, those of the start

module _ (l : List ℕ) where
  started_others : (i : ℕ) → (i ≡ clock_place → ⊥) → (i ≡ tie_in_force → ⊥) → get_or (started l) i 0 ≡ get_or l i 0
  started_others i a b = get_or-set_other (clock_over first_clock l) tie_in_force i (get_or l head_tie 0) 0 b ∙ get_or-set_other l clock_place i first_clock 0 a

  pub started_head : head_of_numbers (started l) ≡ head_of_numbers l
  started_head =
      head_equal l (started l) (λ i h k. started_others i k (λ e. omega arith)) (started_others supply_place (λ e. omega arith) (λ e. omega arith)) (started_others head_tie (λ e. omega arith) (λ e. omega arith))

  pub started_clock : frame_numbers ≤ length l → clock_of_numbers (started l) ≡ first_clock
  started_clock h = get_or-set_other (clock_over first_clock l) tie_in_force clock_place (get_or l head_tie 0) 0 (λ e. omega arith) ∙ get_or-set_same l clock_place first_clock 0 (omega arith)

  pub started_hold : frame_numbers ≤ length l → hold_of_numbers (started l) ≡ (head_of_numbers l).hold
  started_hold h = ap says_hold (get_or-set_same (clock_over first_clock l) tie_in_force (get_or l head_tie 0) 0 (omega (arith, h, length-set l clock_place first_clock)))

-- ---- its masks alone

-- the masks that were written are read back, and the rest of the head is as it was
pub masks_head : (ms l : List ℕ) → length ms ≡ 8 → frame_numbers ≤ length l → head_of_numbers (masks_over ms l) ≡ with_masks (head_of_numbers l) ms
unfolding tabulate
masks_head ms [] eight h = absurd (omega arith)
masks_head ms (x ∷ []) eight h = absurd (omega arith)
masks_head ms (x ∷ y ∷ []) eight h = absurd (omega arith)
masks_head ms (x ∷ y ∷ z ∷ []) eight h = absurd (omega arith)
masks_head ms (x ∷ y ∷ z ∷ w ∷ l) eight h =
    let masks : tabulate 8 (λ i. get_or (ms ++ drop 8 l) i 0) ≡ ms = rw eight at (firsts_read ms (drop 8 l)) in
    let there : sets l 0 ms ≡ ms ++ drop 8 l = sets-eq ms l 0 (omega (arith, eight)) ∙ rw eight refl in
    rw (past_sets (x ∷ y ∷ z ∷ w ∷ l) 4 ms head_tie (omega (arith, eight)), past_sets (x ∷ y ∷ z ∷ w ∷ l) 4 ms supply_place (omega (arith, eight)), sets_four x y z w l ms, there, masks) refl

-- writing the masks that were read changes nothing
pub masks_same : (l : List ℕ) → masks_over (head_of_numbers l).busy l ≡ l
unfolding tabulate
masks_same l = rw (set-get_or l 4 0, set-get_or l 5 0, set-get_or l 6 0, set-get_or l 7 0, set-get_or l 8 0, set-get_or l 9 0, set-get_or l 10 0, set-get_or l 11 0) refl
