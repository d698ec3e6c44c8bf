-- The check of a table as the code does it: in one pass over the cells, each by the cells before it and the presets' numbers, then by the presets and by
-- the number of jobs. That it is the test `well_formed` of specs/Table.antt is proved in proofs/check/table/SameTest.antt. Document 01, "The table"; document 02, 2026-03.
-- Assumes nothing.
use Rattle.std.specs.Prelude.{ℕ, zero, suc, ◌+◌, ◌*◌, ◌-◌, ◌≤◌, ◌<◌, ◌≡◌, Bool, true, false, not, cond, ◌&&◌, ◌||◌, List, get_or, set, replicate, ltb, leb, eqb}
use Rattle.laws.specs.Sums.{count, every}
use Rattle.station.specs.Head.{Head, Preset, has_bit, no_preset}
use Rattle.station.specs.Limits.{most_frame_jobs}
use Rattle.placing.specs.Table.{cell_at, number_in, preset_count, motors, each_cell}

-- ---- counts

-- one more at v; a value past the last has no count
abbrev pub bump : List ℕ → ℕ → List ℕ
bump c v = set c v (get_or c v 0 + 1)

-- how often each value below m is among f 0, .., f (n - 1)
unfoldable pub counted : ℕ → (ℕ → ℕ) → ℕ → List ℕ
counted m f zero = replicate m 0
counted m f (suc n) = bump (counted m f n) (f n)

-- Where a cell is counted: from the first mandatory cell on, 256 counts for each of the three kinds that have numbers. A cell without a number has none.
unfoldable pub place_of : ℕ → ℕ
place_of v = cond (ltb v 512) 768 (v - 512)

-- the counts after the first n cells of a table
unfoldable pub tally : List ℕ → ℕ → List ℕ
tally t n = counted 768 (λ i. place_of (cell_at t i)) n

-- the counts of the presets' numbers after the first n presets
unfoldable pub numbered : List Preset → ℕ → List ℕ
numbered ps n = counted 256 (λ i. (get_or ps i no_preset).number) n

-- ---- a cell

-- What one cell may hold, by the counts `ns` of the presets' numbers and the counts c of the cells before it: busy just where the head says so; else empty, a
-- call cell with a number that no preset has, an optional cell of a preset, or a mandatory one that has no optional cell before it.
unfoldable pub cell_fits : List ℕ → List ℕ → Bool → ℕ → Bool
cell_fits ns c busy v =
    cond busy (eqb v 256)
    (cond (ltb v 512) (eqb v 0)
    (cond (leb 1024 v) (not (eqb v 1024) && (ltb v 1280 && eqb (get_or ns (number_in v) 0) 0))
    (not (eqb (get_or ns (number_in v) 0) 0) && (leb 768 v || eqb (get_or c (v - 512 + 256) 0) 0))))

-- "no number twice in a slot": of the cells from `start` on, the one at a has not the number n, or none
abbrev pub differs : List ℕ → ℕ → ℕ → ℕ → Bool
differs t start n a = ltb (cell_at t (start + a)) 512 || not (eqb (number_in (cell_at t (start + a))) n)

-- the cell at b of the slot has no number that the slot had before
abbrev pub is_new : List ℕ → ℕ → ℕ → Bool
is_new t start b = ltb (cell_at t (start + b)) 512 || every b (differs t start (number_in (cell_at t (start + b))))

-- how many of the cells from `start` on have numbers, up to the one at b and without it: where each is of the five kinds, the "cells held by presets and calls"
abbrev pub held_before : List ℕ → ℕ → ℕ → ℕ
held_before t start b = count b (λ a. not (ltb (cell_at t (start + a)) 512))

-- "Valid placements .. obey the cap, and a sound table does too": the cell at b of the slot has no number, or fewer cells before it in the slot have one than the
-- supply feeds motors
abbrev pub is_fed : List ℕ → ℕ → ℕ → ℕ → Bool
is_fed t start fed b = ltb (cell_at t (start + b)) 512 || ltb (held_before t start b) fed

-- cell (s, b) of a frame with these bridges, `fed` motors in a slot and these busy masks, by the cells before it
abbrev pub fits_at : ℕ → ℕ → List ℕ → List ℕ → List ℕ → ℕ → ℕ → Bool
fits_at bridges fed busy ns t s b =
    cell_fits ns (tally t (s * bridges + b)) (has_bit (get_or busy b 0) s) (cell_at t (s * bridges + b)) && is_new t (s * bridges) b && is_fed t (s * bridges) fed b

-- ---- the first cell at fault

-- Document 01: "scan of slots and bridges stops at the first cell at fault". `at` is the place of the first cell, slot by slot and in each slot bridge by bridge,
-- that does not fit by the cells before it; where every cell fits, it is the number of the frame's cells.
pub record FirstFault (slots bridges fed : ℕ) (busy ns t : List ℕ) (at : ℕ) : Type 0 where
  pub most : at ≤ slots * bridges
  pub before : (s b : ℕ) → b < bridges → s * bridges + b < at → fits_at bridges fed busy ns t s b ≡ true
  pub fault : (s b : ℕ) → s < slots → b < bridges → s * bridges + b ≡ at → fits_at bridges fed busy ns t s b ≡ false

-- ---- the presets and the jobs, by the counts of the whole table

-- "exactly m required cells of each preset .. at most o refinement cells of each preset"
abbrev pub is_met : List ℕ → Preset → Bool
is_met c p = eqb (get_or c p.number 0) p.mandatory && leb (get_or c (256 + p.number) 0) p.optional

abbrev pub preset_met : List Preset → List ℕ → ℕ → Bool
preset_met ps c i = is_met c (get_or ps i no_preset)

-- whether a call cell has the number
abbrev pub has_call : List ℕ → ℕ → Bool
has_call c n = ltb 0 (get_or c (512 + n) 0)

-- ---- the whole check

-- "A sound table has ..": what the code computes of a head and a table
unfoldable pub checked : Head → List ℕ → Bool
checked h t =
    each_cell h (fits_at h.bridges (motors h) h.busy (numbered h.presets (preset_count h)) t)
    && every (preset_count h) (preset_met h.presets (tally t (h.slots * h.bridges)))
    && leb (count 256 (has_call (tally t (h.slots * h.bridges)))) most_frame_jobs
