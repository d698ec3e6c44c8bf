-- A call of a list of events is a call of the layer below: what is claimed of a call holds of it, on the state that it gets.
--
-- In order: each event gets a running frame (`running_at`); the claims of a call (`call_claim`), and what each says of event j of the list (`seven_at`, `rule_at`,
-- `slots_at`, `valid_at`, `lost_at`, `reported_at`, `least_at`).
-- Assumes nothing.
use Prim.Native.Nat.{ℕ, suc, ◌≤◌, ◌<◌}
use mathlib.Core.Path.{◌≡◌, sym, ◌∙◌, ap, subst}
use mathlib.Core.Logic.{◌↔◌}
use mathlib.Core.Option.{none}
use mathlib.Core.List.{List}
use Rattle.station.specs.Head.{Head, Job}
use Rattle.station.specs.Refusal.{call_not_feasible, first_of}
use Rattle.placing.specs.Table.{cell, cells, Each}
use Rattle.placing.specs.State.{State}
use Rattle.placing.specs.Valid.{ValidCall, lost, lost_up_to}
use Rattle.placing.specs.Plan.{tie_of}
use Rattle.placing.specs.Call.{eviction_order, in_set, evicted_set, called}
use Rattle.placing.specs.Outcomes.{Cost, CallAnswer, call_of}
use Rattle.placing.specs.Claims.{Running, CallClaim, JobsRule, before_seven}
use Rattle.placing.proofs.Theorems.{call_claim_lem}
use Rattle.frame.specs.Event.{Event, taken, refused}
use Rattle.frame.specs.Demands.{state_at, event_at, answer_at, CallAt}
use Rattle.frame.proofs.EventList.{answer_at_lem, state_next, kept_at}
use Rattle.frame.proofs.OneEvent.{call_taken, call_refused, call_table, event_running}

module _ (h : Head) (st : State) (es : List Event) (start : Running h st) where
  -- each event gets a running frame
  pub running_at : (j : ℕ) → Running h (state_at h st es j)
  running_at j = kept_at h (Running h) (event_running h) st es start j

  -- ---- a call

  module _ (j : ℕ) (jobs : List Job) (here : CallAt es j jobs) where
    abbrev st_at : State
    st_at = state_at h st es j

    -- the table that the next event gets
    abbrev table_after : List ℕ
    table_after = (state_at h st es (suc j)).table

    pub call_claim : CallClaim h jobs st_at
    call_claim = call_claim_lem h jobs st_at

    -- the next event gets the table that the call leaves
    table_next : (call_of h jobs st_at).after.table ≡ table_after
    table_next =
        sym (ap (λ (x : State). x.table) (state_next h st es j here.inside) ∙ call_table h (state_at h st es j) (event_at es j) jobs here.asks)

    pub seven_at : (answer_at h st es j ≡ refused 0 call_not_feasible)
        ↔ ((first_of (before_seven h jobs st_at) ≡ none) × ((u : List ℕ) → ValidCall h st_at.clock jobs (cell h st_at.table) (cell h u) → ⊥))
    seven_at =
        let same = call_refused h (state_at h st es j) (event_at es j) jobs here.asks call_not_feasible in
        let at_j = answer_at_lem h st es j here.inside in
        (λ q. call_claim.seven.0 (same.0 (sym at_j ∙ q)), λ p. at_j ∙ same.1 (call_claim.seven.1 p))

    module _ (n : Cost) (q : answer_at h st es j ≡ taken n) where
      pub took : (call_of h jobs st_at).answer ≡ CallAnswer.taken n
      took = call_taken h (state_at h st es j) (event_at es j) jobs here.asks n (sym (answer_at_lem h st es j here.inside) ∙ q)

      pub rule_at : Each h (λ s b. cell h table_after s b ≡ called (tie_of st_at.hold) h st_at.clock jobs (cell h st_at.table) s b)
      rule_at =
          subst (λ (x : List ℕ). Each h (λ s b. cell h x s b ≡ called (tie_of st_at.hold) h st_at.clock jobs (cell h st_at.table) s b)) table_next (call_claim.rule n took)

      pub slots_at : (s : ℕ) → s < h.slots → JobsRule (tie_of st_at.hold) h st_at.clock jobs (cell h st_at.table) (cell h table_after) s
      slots_at s l = subst (λ (x : List ℕ). JobsRule (tie_of st_at.hold) h st_at.clock jobs (cell h st_at.table) (cell h x) s) table_next (call_claim.slots n took s l)

      pub valid_at : ValidCall h st_at.clock jobs (cell h st_at.table) (cell h table_after)
      valid_at = subst (λ (x : List ℕ). ValidCall h st_at.clock jobs (cell h st_at.table) (cell h x)) table_next (call_claim.valid n took)

      pub lost_at : Each h (λ s b. lost (cell h st_at.table) (cell h table_after) s b
          ≡ in_set (eviction_order h st_at.clock (cell h st_at.table)) (evicted_set h st_at.clock jobs (cell h st_at.table)) s b)
      lost_at =
          subst (λ (x : List ℕ). Each h (λ s b. lost (cell h st_at.table) (cell h x) s b
          ≡ in_set (eviction_order h st_at.clock (cell h st_at.table)) (evicted_set h st_at.clock jobs (cell h st_at.table)) s b)) table_next
          (call_claim.lost_cells n took)

      pub reported_at : n.count ≡ cells h (λ s b. lost (cell h st_at.table) (cell h table_after) s b)
      reported_at = subst (λ (x : List ℕ). n.count ≡ cells h (λ s b. lost (cell h st_at.table) (cell h x) s b)) table_next (call_claim.reported n took)

      pub least_at : (u : List ℕ) → ValidCall h st_at.clock jobs (cell h st_at.table) (cell h u) → (p : ℕ)
          → lost_up_to h (cell h st_at.table) (cell h table_after) p ≤ lost_up_to h (cell h st_at.table) (cell h u) p
      least_at u w p =
          subst (λ (x : List ℕ). lost_up_to h (cell h st_at.table) (cell h x) p ≤ lost_up_to h (cell h st_at.table) (cell h u) p) table_next
          (call_claim.least n took u w p)
