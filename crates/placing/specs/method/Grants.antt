-- What the functions that grant are held to: free bridges as masks, and what each preset gets. Document 01, "What is granted, and where it goes".
-- Assumes nothing.
use Rattle.std.specs.Prelude.{ℕ, suc, ◌+◌, ◌-◌, ◌≤◌, ◌<◌, min, max, ◌≡◌, true, false, not, List, length, get_or, Result, MatchResult, Bool, ltb}
use Rattle.laws.specs.Sums.{sum, bit, count}
use Rattle.laws.specs.Lists.{at}
use Rattle.laws.specs.Placement.{largest}
use Rattle.laws.specs.method.Capacities.{AtLeast, capacity_from}
use Rattle.laws.specs.method.Least.{lowest}
use Rattle.station.specs.Limits.{most_slots, most_bridges, most_presets}
use Rattle.station.specs.Head.{Head, has_bit}
use Rattle.station.specs.declared.types.Preset as types
use Rattle.station.specs.declared.types.Head as record-of-head
use Rattle.station.specs.declared.types.Refusal as cause
use Rattle.station.specs.declared.types.Refusal.TheVariants.{OutOfLimits, MandatoryNotFeasible}
use Rattle.station.specs.Types.{head_in, valid_record}
use Rattle.placing.specs.method.Limits.{capacity_count, most_placed}
use Rattle.placing.specs.declared.grants.Granted as answer
use Rattle.placing.specs.declared.sums.Sums as sums
use Rattle.placing.specs.method.Mask.{bridge_mask}
use Rattle.placing.specs.method.Records.{record_at, priorities, rank_in}
use Rattle.placing.specs.Plan.{plan_fits, plan_free_count, mandatories, needs}
use Rattle.placing.specs.Table.{preset_count}
use Rattle.placing.specs.Types.{filled}

-- "A slot's free bridges are kept as one bit each": of slot s, from the masks of the busy slots of each bridge.
abbrev pub free_mask : List ℕ → ℕ → ℕ → ℕ
free_mask busy bridges s = bridge_mask bridges (λ b. not (has_bit (get_or busy b 0) s))

-- those of each slot of the frame, and 0 past it
abbrev pub free_masks : ℕ → ℕ → List ℕ → List ℕ
free_masks slots bridges busy = filled most_slots slots (free_mask busy bridges)

-- "the r largest needs together" for r up to 8, of the first k needs
pub record Sums (k : ℕ) (needs : ℕ → ℕ) (sums : List ℕ) : Type 0 where
  pub long : length sums ≡ capacity_count
  pub each : (r : ℕ) → r < capacity_count → get_or sums r 0 ≡ largest k needs r

-- those of the first k needs
pub record SumsOf (k : ℕ) (needs : ℕ → ℕ) (s : sums.Sums) : Type 0 where
  pub largest : Sums k needs s.largest
  pub total : s.total ≡ sum k needs

-- the r largest needs of the others together, from the sums of all and the need m of one preset
abbrev pub other_sum : List ℕ → ℕ → ℕ → ℕ
other_sum sums m r = min (at sums r) (at sums (suc r) - m)

-- the highest need up to `limit` that fits beside the needs of the others
abbrev pub highest_in : List ℕ → ℕ → ℕ → List ℕ → ℕ → ℕ
highest_in sums total m entries limit =
    min (lowest most_bridges (λ r. capacity_from entries (suc r) - other_sum sums m r) limit) (capacity_from entries most_bridges - (total - m))

-- the sums after one need was raised from m to `top`
pub record Raised (sums : List ℕ) (m top : ℕ) (r : List ℕ) : Type 0 where
  pub long : length r ≡ capacity_count
  pub none : at r 0 ≡ at sums 0
  pub each : (q : ℕ) → q < most_bridges → at r (suc q) ≡ max (at sums (suc q)) (other_sum sums m q + top)

-- what raising a need asks of the sums: the need is part of each but the first and of the total, and none is too large to add a need to it
pub record Raisable (sums : sums.Sums) (m top : ℕ) : Type 0 where
  pub long : length sums.largest ≡ capacity_count
  pub part : (q : ℕ) → q < most_bridges → m ≤ at sums.largest (suc q)
  pub low : (q : ℕ) → q < capacity_count → at sums.largest q ≤ 65535
  pub small : top ≤ 255
  pub within : m ≤ sums.total
  pub few : sums.total ≤ 65535

-- whether preset j comes before a preset of priority p on line i
abbrev pub earlier : List types.Preset → ℕ → ℕ → ℕ → Bool
earlier ps p i j = ltb (priorities ps j) (p + bit (ltb j i))

-- an order of n presets: those that come before priority p and line i, each at its rank
pub record Ordered (ps : List types.Preset) (k p i n : ℕ) (order : List ℕ) : Type 0 where
  pub long : length order ≡ most_presets
  pub many : n ≡ count k (earlier ps p i)
  pub stands : (j : ℕ) → j < k → earlier ps p i j ≡ true → get_or order (rank_in ps k j) 0 ≡ j

-- the first k presets, each at its rank
abbrev pub OrderOf : List types.Preset → ℕ → List ℕ → Type 0
OrderOf ps k order = (i : ℕ) → i < k → get_or order (rank_in ps k i) 0 ≡ i

-- What the presets of a head get in all, "in file order", in an array of 64: their mandatory slots and their grants, where the mandatory slots fit.
abbrev pub needs_of : Head → List ℕ
needs_of h = filled most_placed (preset_count h) (at (needs h))

-- What the loop over the ranks stands on: a head record that some text yields, its slots by their free numbers, and mandatory slots that fit.
pub record Fitting (head : record-of-head.Head) (presets : List types.Preset) (entries : List ℕ) : Type 0 where
  pub valid : valid_record head presets ≡ true
  pub known : AtLeast entries head.slots (plan_free_count (head_in head presets))
  pub start : plan_fits (head_in head presets) (mandatories (head_in head presets)) ≡ true

-- what it starts from: the mandatory slots, and their sums
pub record Started (head : record-of-head.Head) (presets : List types.Preset) (mandatory : List ℕ) (start : sums.Sums) : Type 0 where
  pub needs : mandatory ≡ filled most_placed head.count (λ i. (record_at presets i).mandatory)
  pub sums : SumsOf head.count (at mandatory) start

-- What a head is granted: the mandatory slots fit, and each preset gets so much.
pub record GrantedTo (h : Head) (r : answer.Granted) : Type 0 where
  pub fits : plan_fits h (mandatories h) ≡ true
  pub needs : r.needs ≡ needs_of h

-- What is granted to a head record that some text yields: what the head is granted, and for the placing the mandatory slots of its presets, the
-- free bridges of its slots and how many of them are filled at the most.
pub record GrantedValid (head : record-of-head.Head) (presets : List types.Preset) (r : answer.Granted) : Type 0 where
  pub valid : valid_record head presets ≡ true
  pub granted : GrantedTo (head_in head presets) r
  pub mandatory : r.mandatory ≡ filled most_placed head.count (λ i. (record_at presets i).mandatory)
  pub free : r.offer.free ≡ free_masks head.slots head.bridges head.busy
  pub counts : (s : ℕ) → s < head.slots → get_or r.offer.counts s 0 ≡ plan_free_count (head_in head presets) s

-- Why nothing is granted: "a head record that no text yields", or "the required slots do not fit".
pub data GrantRefused (head : record-of-head.Head) (presets : List types.Preset) : cause.Refusal → Type 0 where
  invalid : valid_record head presets ≡ false → GrantRefused head presets OutOfLimits
  full : valid_record head presets ≡ true → plan_fits (head_in head presets) (mandatories (head_in head presets)) ≡ false → GrantRefused head presets MandatoryNotFeasible

-- What `grant` answers for a head record and its preset records.
abbrev pub GrantedFor : record-of-head.Head → List types.Preset → Result answer.Granted cause.Refusal → Type 0
GrantedFor head presets r = MatchResult r (GrantedValid head presets) (GrantRefused head presets)
