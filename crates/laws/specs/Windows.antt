-- Jobs with windows (request 2026-09): the placements are those of Placement, `Placed w`; here
-- `w i s`, that job i may use slot s, is a job's window.
--
-- In order: which of several placements is the first; by how much the jobs exceed the cells
-- (`window_excess`), and that they do not (`WindowCriterion`); the placement that is found pair by
-- pair (`first_placement`); and, for a search only, a placement that lacks some cells and what is
-- reached from the jobs that lack them. Assumes nothing.
use Rattle.std.specs.Prelude.{ℕ, zero, suc, ◌-◌, ◌≤◌, ◌<◌, min, ◌≡◌, ◌⊎◌, Bool, true, false, not, ◌&&◌, ◌||◌, ltb, eqb}
use Rattle.laws.specs.Sums.{bit, only, sum, count}
use Rattle.laws.specs.Placement.{Placed}
use Rattle.laws.specs.GreatestSet.{greatest_set}

-- ---- the meaning

-- Job by job, and of one job slot by slot: the pair of job j and slot t comes before that of job i
-- and slot s.
abbrev pub Earlier : ℕ → ℕ → ℕ → ℕ → Type 0
Earlier j t i s = (j < i) ⊎ ((j ≡ i) × (t < s))

-- Two placements: at the first pair where they differ it is a that has the pair.
pub record Ahead (k n : ℕ) (a b : ℕ → ℕ → Bool) : Type 0 where
  pub job : ℕ
  pub slot : ℕ
  pub job_below : job < k
  pub slot_below : slot < n
  pub has : a job slot ≡ true
  pub lacks : b job slot ≡ false
  pub same : (j t : ℕ) → j < k → t < n → Earlier j t job slot → a j t ≡ b j t

-- The first placement within windows: any other one is behind it.
pub record FirstPlaced (k : ℕ) (c : ℕ → ℕ) (n : ℕ) (x : ℕ → ℕ) (w a : ℕ → ℕ → Bool) : Type 0 where
  pub within : Placed w k c n x a
  pub first : (b : ℕ → ℕ → Bool) → Placed w k c n x b → ((i s : ℕ) → i < k → s < n → a i s ≡ b i s) ⊎ Ahead k n a b

-- ---- the excess

-- what the jobs of the set p need
abbrev pub need_of : ℕ → (ℕ → ℕ) → (ℕ → Bool) → ℕ
need_of k c p = sum k (λ i. only (p i) (c i))

-- how many jobs of the set p may use slot s
abbrev pub users_of : ℕ → (ℕ → ℕ → Bool) → (ℕ → Bool) → ℕ → ℕ
users_of k w p s = count k (λ i. p i && w i s)

-- The capacity for the set p: the sum over the slots of the smaller of the free cells and the jobs
-- of p that may use the slot.
abbrev pub capacity_of : ℕ → ℕ → (ℕ → ℕ) → (ℕ → ℕ → Bool) → (ℕ → Bool) → ℕ
capacity_of k n x w p = sum n (λ s. min (x s) (users_of k w p s))

-- Every set of jobs needs no more than its capacity (Hall's condition).
abbrev pub WindowCriterion : ℕ → (ℕ → ℕ) → ℕ → (ℕ → ℕ) → (ℕ → ℕ → Bool) → Type 0
WindowCriterion k c n x w = (p : ℕ → Bool) → need_of k c p ≤ capacity_of k n x w p

-- By how much a set of jobs needs more than its capacity, at the worst set: 0 exactly if the jobs
-- fit. As many cells are short.
unfoldable pub window_excess : ℕ → (ℕ → ℕ) → ℕ → (ℕ → ℕ) → (ℕ → ℕ → Bool) → ℕ
window_excess k c n x w = greatest_set k (λ p. need_of k c p - capacity_of k n x w p)

-- ---- the placement found pair by pair

-- one less at i
abbrev pub less : (ℕ → ℕ) → ℕ → ℕ → ℕ
less f i j = f j - bit (eqb j i)

-- a matrix without the pair of job i and slot s
abbrev pub without : (ℕ → ℕ → Bool) → ℕ → ℕ → ℕ → ℕ → Bool
without w i s j t = w j t && not (eqb j i && eqb t s)

-- what is left to be placed: needs, free cells and windows
pub record Rest : Type 0 where
  pub needs : ℕ → ℕ
  pub free : ℕ → ℕ
  pub windows : ℕ → ℕ → Bool

-- the pair of job i and slot s is taken
abbrev pub taking : Rest → ℕ → ℕ → Rest
taking r i s = record { needs = less r.needs i; free = less r.free s; windows = without r.windows i s }

-- or is left out
abbrev pub leaving : Rest → ℕ → ℕ → Rest
leaving r i s = record { needs = r.needs; free = r.free; windows = without r.windows i s }

-- by how much what is left to be placed exceeds the cells that are left
abbrev pub rest_excess : ℕ → ℕ → Rest → ℕ
rest_excess k n r = window_excess k r.needs n r.free r.windows

-- A pair is taken if it may be, and what is left then still fits.
abbrev pub takes : ℕ → ℕ → Rest → ℕ → ℕ → Bool
takes k n r i s = r.windows i s && ltb 0 (r.needs i) && ltb 0 (r.free s) && eqb (rest_excess k n (taking r i s)) 0

-- what is left after the pair of job i and slot s, taken or not
unfoldable pub after_pair : ℕ → ℕ → Rest → ℕ → ℕ → Rest
after_pair k n r i s = elim (takes k n r i s) [ true ↦ taking r i s | false ↦ leaving r i s ]

-- what is left after the first s slots of job i
unfoldable pub after_slots : ℕ → ℕ → Rest → ℕ → ℕ → Rest
after_slots k n r i zero = r
after_slots k n r i (suc s) = after_pair k n (after_slots k n r i s) i s

-- what is left after the first i jobs
unfoldable pub after_jobs : ℕ → ℕ → Rest → ℕ → Rest
after_jobs k n r zero = r
after_jobs k n r (suc i) = after_slots k n (after_jobs k n r i) i n

-- The placement found job by job, slot by slot: whether job i takes slot s where r is to be placed.
abbrev pub first_fit : ℕ → ℕ → Rest → ℕ → ℕ → Bool
first_fit k n r i s = takes k n (after_slots k n (after_jobs k n r i) i s) i s

-- the same from the needs, the free cells and the windows
abbrev pub first_placement : ℕ → (ℕ → ℕ) → ℕ → (ℕ → ℕ) → (ℕ → ℕ → Bool) → ℕ → ℕ → Bool
first_placement k c n x w = first_fit k n (record { needs = c; free = x; windows = w })

-- ---- for a search: placements that lack some cells

-- A placement in which a job may have fewer slots than it needs.
pub record Partial (k : ℕ) (c : ℕ → ℕ) (n : ℕ) (x : ℕ → ℕ) (w a : ℕ → ℕ → Bool) : Type 0 where
  pub few : (i : ℕ) → i < k → count n (λ s. a i s) ≤ c i
  pub within : (s : ℕ) → s < n → count k (λ i. a i s) ≤ x s
  pub allowed : (i s : ℕ) → i < k → s < n → a i s ≡ true → w i s ≡ true

-- how many cells the jobs lack in all
abbrev pub lacking : ℕ → (ℕ → ℕ) → ℕ → (ℕ → ℕ → Bool) → ℕ
lacking k c n a = sum k (λ i. c i - count n (λ s. a i s))

-- a matrix with the pair of job i and slot s
abbrev pub with_pair : (ℕ → ℕ → Bool) → ℕ → ℕ → ℕ → ℕ → Bool
with_pair a i s j t = a j t || (eqb j i && eqb t s)

-- A set J of jobs and a set S of slots from which no step leads out: J has the jobs that lack a
-- slot; S has each slot that a job of J may use and does not have; J has each job that has a slot
-- of S.
pub record Closed (k : ℕ) (c : ℕ → ℕ) (n : ℕ) (w a : ℕ → ℕ → Bool) (J S : ℕ → Bool) : Type 0 where
  pub lacks : (i : ℕ) → i < k → count n (λ s. a i s) < c i → J i ≡ true
  pub may_use : (i s : ℕ) → i < k → s < n → J i ≡ true → w i s ≡ true → a i s ≡ false → S s ≡ true
  pub owners : (i s : ℕ) → i < k → s < n → S s ≡ true → a i s ≡ true → J i ≡ true

-- The jobs and slots that are reached from the jobs that lack a slot: they are closed, and every
-- closed pair of sets has them.
pub record Reached (k : ℕ) (c : ℕ → ℕ) (n : ℕ) (w a : ℕ → ℕ → Bool) (J S : ℕ → Bool) : Type 0 where
  pub closed : Closed k c n w a J S
  pub jobs : (H T : ℕ → Bool) → Closed k c n w a H T → (i : ℕ) → i < k → J i ≡ true → H i ≡ true
  pub slots : (H T : ℕ → Bool) → Closed k c n w a H T → (s : ℕ) → s < n → S s ≡ true → T s ≡ true

-- the slots that some job of J may use and does not have
abbrev pub wanted_by : ℕ → (ℕ → ℕ → Bool) → (ℕ → ℕ → Bool) → (ℕ → Bool) → ℕ → Bool
wanted_by k w a J s = ltb 0 (count k (λ i. J i && (w i s && not (a i s))))

-- The jobs that are reached in m rounds: those that lack a slot; then those that were reached, and
-- those that have a slot that one of them wants.
unfoldable pub reached_in : ℕ → (ℕ → ℕ) → ℕ → (ℕ → ℕ → Bool) → (ℕ → ℕ → Bool) → ℕ → ℕ → Bool
reached_in k c n w a zero i = ltb (count n (λ s. a i s)) (c i)
reached_in k c n w a (suc m) i = reached_in k c n w a m i || ltb 0 (count n (λ s. a i s && wanted_by k w a (reached_in k c n w a m) s))
