-- A call by numbers alone: when it fits and what it costs, from the capacities of its cells. docs/CALLS.md gives both to the reader of the manual.
--
-- In order: a call fits exactly if it fits into all the cells that it may use; an accepted call evicts just what its jobs exceed the empty cells by.
-- Assumes nothing.
use Prim.Native.Nat.{ℕ, ◌+◌, ◌<◌}
use native.Mathlib.Omega.{arith}
use mathlib.Core.Path.{◌≡◌, sym, ◌∙◌, ap}
use mathlib.Core.Logic.{◌↔◌}
use mathlib.Core.Bool.{Bool, true, and-true}
use mathlib.Core.List.{List}
use lib.ListN.{length, length-map}
use Rattle.laws.specs.Eviction.{added, ones}
use Rattle.laws.proofs.Comparisons.{eq_of, eqb_yes}
use Rattle.laws.proofs.Counts.{count_ext}
use Rattle.laws.proofs.Eviction.{searched_best, searched_ones, searched_long}
use Rattle.station.specs.Head.{Head, Job, Valid}
use Rattle.placing.specs.Table.{Cells, WellFormed}
use Rattle.placing.specs.Call.{CellPlace, evictable, eviction_order, slots_of, in_set, free_number_from, usable_count, call_short, evicted_set, call_fits}
use Rattle.placing.proofs.CallShort.{call_shortage}
use Rattle.placing.proofs.EvictionOrder.{those, length_those, in_those, set_in_slot, added_usable}
use Rattle.placing.proofs.FreeNumber.{freed_from}

module _ (h : Head) (clock : ℕ) (jobs : List Job) (t : Cells) (valid : Valid h) (formed : WellFormed h t) where
  abbrev zs : List ℕ
  zs = slots_of (eviction_order h clock t)

  -- all of the order
  all : List Bool
  all = those (λ s b. true) (eviction_order h clock t)

  all_long : length all ≡ length zs
  unfolding all
  all_long = length_those (λ s b. true) (eviction_order h clock t) ∙ sym (length-map (eviction_order h clock t) (λ (z : CellPlace). z.slot))

  -- what the order adds to the empty cells of a slot, taken whole, makes all that the call may use there
  all_added : (s : ℕ) → s < h.slots → added (free_number_from h clock t) zs all s ≡ usable_count h clock t s
  unfolding all
  all_added s l =
      set_in_slot h clock t valid formed (free_number_from h clock t) all s l
      ∙ ap (λ (n : ℕ). free_number_from h clock t s + n)
      (count_ext h.bridges (λ b. in_set (eviction_order h clock t) all s b) (λ b. evictable h clock t s b)
      (λ b m. in_those h clock t valid formed (λ r a. true) s b l m ∙ and-true (evictable h clock t s b)))
      ∙ sym (freed_from h clock t s (evictable h clock t) (λ b m e. e) (formed.supplied s l))

  -- The call fits exactly if, for every r, its r longest jobs together do not exceed the capacity for r in the cells that it may use.
  pub fits_by_room : (call_fits h clock jobs t ≡ true) ↔ (call_short h jobs (usable_count h clock t) ≡ 0)
  unfolding call_fits evicted_set
  fits_by_room = (
    λ e. omega (
      arith,
      eq_of (call_short h jobs (added (free_number_from h clock t) zs (evicted_set h clock jobs t))) 0 e,
      (call_shortage h jobs).mono (added (free_number_from h clock t) zs (evicted_set h clock jobs t)) (usable_count h clock t) (λ s l. added_usable h clock t (evicted_set h clock jobs t) s l (formed.supplied s l)),
    ),
    λ e. eqb_yes (call_short h jobs (added (free_number_from h clock t) zs (evicted_set h clock jobs t))) 0 (omega (
      arith,
      searched_best h.slots (call_short h jobs) (call_shortage h jobs) (free_number_from h clock t) zs all all_long,
      (call_shortage h jobs).mono (usable_count h clock t) (added (free_number_from h clock t) zs all) (λ s l. omega (arith, all_added s l)),
    )),
  )

  -- and then it evicts as many cells as, at the worst r, its r longest jobs exceed the capacity for r in the empty cells
  pub evicts_excess : call_fits h clock jobs t ≡ true → ones (evicted_set h clock jobs t) ≡ call_short h jobs (free_number_from h clock t)
  unfolding call_fits evicted_set
  evicts_excess e =
      searched_ones h.slots (call_short h jobs) (call_shortage h jobs) (free_number_from h clock t) zs (evicted_set h clock jobs t)
      (searched_long (call_short h jobs) (free_number_from h clock t) zs) (eq_of (call_short h jobs (added (free_number_from h clock t) zs (evicted_set h clock jobs t))) 0 e)
