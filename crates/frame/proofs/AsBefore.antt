-- Under `(tie place)`, where the supply feeds every bridge, everything is what it was before there were ties and a supply.
--
-- In order: the rule under `tie_place` is document 01's (`left_before_lem`, `lrtf_before_lem`), and so are its tables (`planned_before_lem`, `called_before_lem`); a text of the five forms has a head under place and
-- without a supply (`head_plain`, `plain_head`), which is read as it was (`read_before_lem`, `forms_before`, `head_before_lem`); an event that asks for what it asked for keeps place (`event_place`) and comes to what it came
-- to (`event_before_lem`), and so does a list of them (`run_before_lem`); a plan, and a whole text (`plan_before_lem`, `whole_before_lem`). Then what is cited: `plan_as_before`, `run_as_before`,
-- `text_as_before`, `place_as_before`.
-- Assumes nothing.
use Prim.Native.Nat.{ℕ, zero, suc, ◌-◌}
use native.Mathlib.Omega.{arith}
use mathlib.Core.Path.{◌≡◌, refl, sym, ◌∙◌, ap, ap₂, fun_ext, subst}
use mathlib.Core.Bool.{Bool, true, false, cond, not, ◌&&◌}
use mathlib.Core.Option.{Option, none, some}
use mathlib.Core.List.{List, [], ◌∷◌, ◌++◌, map}
use lib.ListN.{length, drop}
use lib.Dec.{ltb, leb}
use Rattle.laws.specs.Lists.{at}
use Rattle.laws.specs.Placement.{tie_place, nobody, served, at_slot, left, lrtf}
use Rattle.laws.proofs.Tests.{clash, none_some}
use Rattle.laws.proofs.Comparisons.{ltb_no}
use Rattle.laws.proofs.Placement.{left_length}
use Rattle.station.specs.Limits.{most_presets, most_bytes, least_cells}
use Rattle.station.specs.Head.{Head, Job, Preset, bare_head, within, frame_in_limits, preset_in_limits, has_number, preset_at, valid}
use Rattle.station.specs.Refusal.{Refusal, out_of_limits, out_of_place, number_used, mandatory_not_feasible, too_short, too_many, text_too_long, try, first_of}
use Rattle.station.specs.Text.{lines}
use Rattle.station.specs.Form.{Pairs, CallJobs, Form, frame_line, busy_line, preset_line, clock_line, call_line, tie_line, supply_line, is_event, form}
use Rattle.station.specs.Writing.{ordered}
use Rattle.station.specs.Reading.{Stage, at_frame, at_supply, at_tie, at_busy, at_presets, begun, SoFar, begin, busy_misplaced, tried, causes, ends, more, unless, read_from, Reading, head_of}
use Rattle.placing.specs.Table.{Cells, cell, number_at, mandatory_cell, optional_cell, busy_cell, call_cell}
use Rattle.placing.specs.Valid.{job_at}
use Rattle.placing.specs.State.{State, with_table}
use Rattle.placing.specs.Plan.{placing, mandatories, plan_free, tie_of}
use Rattle.placing.specs.Call.{lengths}
use Rattle.placing.specs.Outcomes.{written, PlanAnswer, plan_of}
use Rattle.placing.specs.Uncapped.{Uncapped, free_count, plan_count, plan_fits_uncapped, needs_uncapped, grants_uncapped, planned_uncapped, plan_uncapped, call_free_uncapped, called_uncapped, cost_uncapped, frame_causes_uncapped}
use Rattle.placing.proofs.Theorems.{no_line_uncapped, plan_uncapped_lem}
use Rattle.frame.specs.Event.{Event, line, Asked, set_clock, set_tie, place_jobs, fault, asked_by_form, asked, taken, Outcome, event_of}
use Rattle.frame.specs.Event.{more as oneMore, run_of}
use Rattle.frame.specs.Text.{ran, start_of, events_of, whole_of}
use Rattle.frame.specs.Demands.{EventIs, stopped, clock_set, tie_set, placed}
use Rattle.frame.specs.Listing.{listing_of}
use Rattle.frame.specs.Before.{of_five, form_before, settle, settled, read_before, head_before, asked_before, chosen_before, served_before, left_before, lrtf_before, planned_before, called_before, plan_before}
use Rattle.frame.specs.Before.{carried_before, event_before, run_before, whole_before, FiveForms, FiveAsked}
use Rattle.frame.specs.Uncapped.{decided, run_by, own_uncapped, carried_uncapped, event_uncapped}
use Rattle.frame.proofs.OneEvent.{event_is}
use Rattle.frame.proofs.AsUncapped.{event_uncapped_lem, whole_by_lem}

-- ---- the rule under place

left_before_lem : (c : List ℕ) (x : ℕ → ℕ) (s : ℕ) → left tie_place nobody c x s ≡ left_before c x s
unfolding at_slot served left_before served_before
left_before_lem c x zero = refl
left_before_lem c x (suc s) = ap (λ (l : List ℕ). served_before l (x s)) (left_before_lem c x s)

lrtf_before_lem : (c : List ℕ) (x : ℕ → ℕ) (i s : ℕ) → lrtf tie_place nobody c x i s ≡ lrtf_before c x i s
lrtf_before_lem c x i s =
    ap (λ (l : List ℕ). chosen_before (length l) (at l) (x s) i) (left_before_lem c x s)
    ∙ ap (λ (k : ℕ). chosen_before k (at (left_before c x s)) (x s) i) (sym (ap length (left_before_lem c x s)) ∙ left_length tie_place nobody c x s)

lrtf_all : (c : List ℕ) (x : ℕ → ℕ) → ◌≡◌ {A = ℕ → ℕ → Bool} (λ i s. lrtf tie_place nobody c x i s) (λ i s. lrtf_before c x i s)
lrtf_all c x = fun_ext (λ i. fun_ext (λ s. lrtf_before_lem c x i s))

planned_before_lem : (h : Head) → planned_uncapped tie_place h ≡ planned_before h
unfolding planned_uncapped
planned_before_lem h =
    let c = needs_uncapped h in
    let x = plan_count h in
    let writes : List ℕ → ℕ → ℕ = λ l i. cond (ltb (at c i - at l i) (preset_at h i).mandatory) (mandatory_cell (number_at h i)) (optional_cell (number_at h i)) in
    ap (λ (a : ℕ → ℕ → Bool). placing (length c) (plan_free h) a (λ i s. writes (left tie_place nobody c x s) i) (λ s b. busy_cell)) (lrtf_all c x)
    ∙ ap (λ (l : ℕ → List ℕ). placing (length c) (plan_free h) (λ i s. lrtf_before c x i s) (λ i s. writes (l s) i) (λ s b. busy_cell)) (fun_ext (left_before_lem c x))

called_before_lem : (h : Head) (clock : ℕ) (jobs : List Job) (t : Cells) → called_uncapped tie_place h clock jobs t ≡ called_before h clock jobs t
unfolding called_uncapped
called_before_lem h clock jobs t =
    ap (λ (a : ℕ → ℕ → Bool). placing (length (lengths jobs)) (call_free_uncapped h clock jobs t) a (λ i s. call_cell (job_at jobs i).number) t)
    (lrtf_all (lengths jobs) (free_count h.bridges (call_free_uncapped h clock jobs t)))

-- ---- a text of the five forms

five_after : (n : ℕ) (ls : List (List ℕ)) → FiveForms ls → FiveForms (drop n ls)
five_after zero ls p = p
five_after (suc n) [] p = p
five_after (suc n) (l ∷ ls) p = five_after n ls (λ j. p (suc j))

-- a form is one of the five
data Five : Form → Type 0 where
  frame : (s b : ℕ) → Five (frame_line s b)
  busy : (b : ℕ) (p : Pairs) → Five (busy_line b p)
  preset : (p : Preset) → Five (preset_line p)
  clock_form : (t : ℕ) → Five (clock_line t)
  call_form : (p : CallJobs) → Five (call_line p)

five_of : (f : Form) → some f ≡ of_five (some f) → Five f
five_of (frame_line s b) e = frame s b
five_of (busy_line b p) e = busy b p
five_of (preset_line p) e = preset p
five_of (clock_line t) e = clock_form t
five_of (call_line p) e = call_form p
five_of (tie_line hold) e = absurd (none_some (sym e))
five_of (supply_line k) e = absurd (none_some (sym e))

-- the head that a reading comes to is under place and without a supply
abbrev Plain : Head → Type 0
Plain h = (h.hold ≡ false) × (h.supply ≡ 0)

abbrev head_read : Reading → Head
head_read (Reading.accepted h n) = h
head_read (Reading.refused n r) = bare_head 0 0

-- a line of the five forms leaves the head's order and its supply, or begins a head without them
more_plain : (r : SoFar) (f : Form) → Five f → Plain r.head → Plain (more r f).head
unfolding tried
more_plain r _ (frame s b) e = (refl, refl)
more_plain r _ (busy b q) e = e
more_plain r _ (preset q) e = e
more_plain r _ (clock_form t) e = e
more_plain r _ (call_form q) e = e

read_plain : (n : ℕ) (r : SoFar) (ls : List (List ℕ)) → FiveForms ls → Plain r.head → Plain (head_read (read_from n r (map form ls)))
unfolding read_from
read_plain n r [] p e = go (begun r.stage)
  where
    go : (b : Bool) → Plain (head_read (cond b (Reading.accepted r.head n) (Reading.refused 1 out_of_place)))
    go true = e
    go false = (refl, refl)
read_plain n r (l ∷ ls) p e =
    go (λ f q. read_plain (suc n) (more r f) ls (λ j. p (suc j)) (more_plain r f (five_of f (sym q ∙ p 0 ∙ ap of_five q)) e)) (form l) refl
  where
    rest : (x : Reading) → Plain (head_read x) → (b : Bool) (o : Option Refusal) → Plain (head_read (cond b (Reading.accepted r.head n) (unless o (suc n) x)))
    rest x ih true o = e
    rest x ih false none = ih
    rest x ih false (some c) = (refl, refl)

    go : ((f : Form) → form l ≡ some f → Plain (head_read (read_from (suc n) (more r f) (map form ls))))
        → (o : Option Form) → form l ≡ o → Plain (head_read (read_from n r (o ∷ map form ls)))
    go ih none q = (refl, refl)
    go ih (some f) q = rest (read_from (suc n) (more r f) (map form ls)) (ih f q) (ends r f) (first_of (causes r f))

-- and it is read as it was
begun_settled : (g : Stage) → begun g ≡ begun (settle g)
begun_settled at_frame = refl
begun_settled at_supply = refl
begun_settled at_tie = refl
begun_settled (at_busy least) = refl
begun_settled at_presets = refl

busy_settled : (g : Stage) (b : ℕ) → busy_misplaced g b ≡ busy_misplaced (settle g) b
busy_settled at_frame b = refl
busy_settled at_supply b = sym (ltb_no b 0 (omega arith))
busy_settled at_tie b = sym (ltb_no b 0 (omega arith))
busy_settled (at_busy least) b = refl
busy_settled at_presets b = refl

settle_twice : (g : Stage) → settle g ≡ settle (settle g)
settle_twice at_frame = refl
settle_twice at_supply = refl
settle_twice at_tie = refl
settle_twice (at_busy least) = refl
settle_twice at_presets = refl

-- what is tried of a line, whether it ends the head, and what the lines make with it, are the same
record SameLine (r : SoFar) (f : Form) : Type 0 where
  tried_same : first_of (causes r f) ≡ first_of (causes (settled r) f)
  ends_same : ends r f ≡ (is_event f && begun (settle r.stage))
  next_same : settled (more r f) ≡ settled (more (settled r) f)

same_line : (r : SoFar) (f : Form) → Five f → SameLine r f
unfolding tried
same_line r _ (frame s b) = record {
  tried_same = ap (λ (x : Bool). first_of (try out_of_place x ∷ try out_of_limits (not (frame_in_limits s b)) ∷ try number_used false ∷ try too_many false ∷ [])) (begun_settled r.stage);
  ends_same = refl;
  next_same = refl;
}
same_line r _ (busy b q) = record {
  tried_same = ap (λ (x : Bool). first_of (try out_of_place x ∷ try out_of_limits (not (within 1 r.head.bridges b && ordered 1 r.head.slots q)) ∷ try number_used false ∷ try too_many false ∷ [])) (busy_settled r.stage b);
  ends_same = refl;
  next_same = refl;
}
same_line r _ (preset q) = record {
  tried_same = ap (λ (x : Bool). first_of (try out_of_place (not x) ∷ try out_of_limits (not (preset_in_limits q)) ∷ try number_used (has_number q.number r.head.presets) ∷ try too_many (leb most_presets (length r.head.presets)) ∷ [])) (begun_settled r.stage);
  ends_same = refl;
  next_same = refl;
}
same_line r _ (clock_form t) = record {
  tried_same = ap (λ (x : Bool). first_of (try out_of_place (not x) ∷ try out_of_limits false ∷ try number_used false ∷ try too_many false ∷ [])) (begun_settled r.stage);
  ends_same = begun_settled r.stage;
  next_same = ap (λ (g : Stage). record { stage = g; head = r.head }) (settle_twice r.stage);
}
same_line r _ (call_form q) = record {
  tried_same = ap (λ (x : Bool). first_of (try out_of_place (not x) ∷ try out_of_limits false ∷ try number_used false ∷ try too_many false ∷ [])) (begun_settled r.stage);
  ends_same = begun_settled r.stage;
  next_same = ap (λ (g : Stage). record { stage = g; head = r.head }) (settle_twice r.stage);
}

read_before_lem : (n : ℕ) (r : SoFar) (ls : List (List ℕ)) → FiveForms ls → read_from n r (map form ls) ≡ read_before n (settled r) (map form ls)
unfolding read_from read_before
read_before_lem n r [] p = ap (λ (b : Bool). cond b (Reading.accepted r.head n) (Reading.refused 1 out_of_place)) (begun_settled r.stage)
read_before_lem n r (l ∷ ls) p = go (λ f. read_before_lem (suc n) (more r f) ls (λ j. p (suc j))) (form l) refl
  where
    pick : Bool → Option Refusal → Reading → Reading
    pick b o x = cond b (Reading.accepted r.head n) (unless o (suc n) x)

    go : ((f : Form) → read_from (suc n) (more r f) (map form ls) ≡ read_before (suc n) (settled (more r f)) (map form ls))
        → (o : Option Form) → form l ≡ o → read_from n r (o ∷ map form ls) ≡ read_before n (settled r) (o ∷ map form ls)
    go ih none q = refl
    go ih (some f) q =
        let same = same_line r f (five_of f (sym q ∙ p 0 ∙ ap of_five q)) in
        ap (λ (b : Bool). pick b (first_of (causes r f)) (read_from (suc n) (more r f) (map form ls))) same.ends_same
        ∙ ap (λ (o : Option Refusal). pick (is_event f && begun (settle r.stage)) o (read_from (suc n) (more r f) (map form ls))) same.tried_same
        ∙ ap (pick (is_event f && begun (settle r.stage)) (first_of (causes (settled r) f)))
        (ih f ∙ ap (λ (w : SoFar). read_before (suc n) w (map form ls)) same.next_same)

-- so they have the forms that they had
forms_before : (ls : List (List ℕ)) → FiveForms ls → map form ls ≡ map form_before ls
forms_before [] p = refl
forms_before (l ∷ ls) p = ap₂ (λ (o : Option Form) (os : List (Option Form)). o ∷ os) (p 0) (forms_before ls (λ j. p (suc j)))

pub head_before_lem : (text : List ℕ) → FiveForms (lines text) → head_of text ≡ head_before text
unfolding head_of head_before
head_before_lem text p =
    ap (cond (ltb most_bytes (length text)) (Reading.refused 0 text_too_long))
    (read_before_lem 0 begin (lines text) p ∙ ap (read_before 0 begin) (forms_before (lines text) p))

head_plain : (text : List ℕ) → FiveForms (lines text) → Plain (head_read (head_of text))
unfolding head_of
head_plain text p = go (ltb most_bytes (length text))
  where
    go : (b : Bool) → Plain (head_read (cond b (Reading.refused 0 text_too_long) (read_from 0 begin (map form (lines text)))))
    go true = (refl, refl)
    go false = read_plain 0 begin (lines text) p (refl, refl)

pub plain_head : (text : List ℕ) → FiveForms (lines text) → (h : Head) (n : ℕ) → head_of text ≡ Reading.accepted h n → Uncapped h × (h.hold ≡ false)
plain_head text p h n e =
    let plain : Plain h = subst (λ (x : Reading). Plain (head_read x)) e (head_plain text p) in
    (no_line_uncapped h plain.1, plain.0)

-- ---- an event that asks for what it asked for

-- no event asked for a tie
abbrev sets_tie : Asked → Bool
sets_tie (set_clock t) = false
sets_tie (set_tie hold) = true
sets_tie (place_jobs jobs) = false
sets_tie (fault r) = false

sets_none : (e : Event) → sets_tie (asked_before e) ≡ false
sets_none (Event.line l) = by (form l)
  where
    by : (o : Option Form) → sets_tie (asked_by_form (of_five o)) ≡ false
    by none = refl
    by (some (frame_line s b)) = refl
    by (some (busy_line b m)) = refl
    by (some (preset_line m)) = refl
    by (some (clock_line t)) = refl
    by (some (call_line m)) = refl
    by (some (tie_line hold)) = refl
    by (some (supply_line k)) = refl
sets_none (Event.clock t) = refl
sets_none (Event.call jobs) = refl

pub no_tie : (e : Event) (hold : Bool) → asked_before e ≡ set_tie hold → ⊥
no_tie e hold q = clash (sym (ap sets_tie q) ∙ sets_none e)

module _ (h : Head) (all : Uncapped h) (st : State) (place : st.hold ≡ false) (e : Event) (same : asked e ≡ asked_before e) where
  event_place : (event_of h st e).after.hold ≡ false
  event_place = go (event_of h st e) (event_is h st e)
    where
      go : (o : Outcome) → EventIs h st e o → o.after.hold ≡ false
      go _ (stopped r f) = place
      go _ (clock_set t q f) = place
      go _ (tie_set hold q f) = absurd (no_tie e hold (sym same ∙ q))
      go _ (placed jobs q f) = place

  pub table_before : (jobs : List Job) → called_uncapped (tie_of st.hold) h st.clock jobs (cell h st.table) ≡ called_before h st.clock jobs (cell h st.table)
  table_before jobs =
      ap (λ (b : Bool). called_uncapped (tie_of b) h st.clock jobs (cell h st.table)) place ∙ called_before_lem h st.clock jobs (cell h st.table)

  -- what is asked, where it is no tie, comes to what it came to
  carried_before_lem : (a : Asked) → asked_before e ≡ a → carried_uncapped h st a ≡ carried_before h st a
  unfolding carried_uncapped carried_before
  carried_before_lem (set_clock t) q = refl
  carried_before_lem (set_tie hold) q = absurd (no_tie e hold q)
  carried_before_lem (place_jobs jobs) q = ap (λ (u : Cells). record { answer = taken (cost_uncapped h jobs st); after = with_table (written h u st.table) st }) (table_before jobs)
  carried_before_lem (fault r) q = refl

  event_before_lem : event_of h st e ≡ event_before h st e
  unfolding event_uncapped event_before
  event_before_lem =
      event_uncapped_lem h all st e
      ∙ ap (λ (a : Asked). decided st (frame_causes_uncapped h st ++ own_uncapped h st a) (carried_uncapped h st a)) same
      ∙ ap (decided st (frame_causes_uncapped h st ++ own_uncapped h st (asked_before e))) (carried_before_lem (asked_before e) refl)

run_before_lem : (h : Head) → Uncapped h → (st : State) (es : List Event) → FiveAsked es → st.hold ≡ false → run_of h st es ≡ run_before h st es
unfolding run_of run_by
run_before_lem h all st [] p place = refl
run_before_lem h all st (e ∷ es) p place =
    ap (oneMore (event_of h st e).answer) (run_before_lem h all (event_of h st e).after es (λ j. p (suc j)) (event_place h all st place e (p 0)))
    ∙ ap (λ (o : Outcome). oneMore o.answer (run_before h o.after es)) (event_before_lem h all st place e (p 0))

-- lines of the five forms ask for what they asked for
five_asked : (ls : List (List ℕ)) → FiveForms ls → FiveAsked (map line ls)
five_asked [] p j = ap asked_by_form (p j)
five_asked (l ∷ ls) p zero = ap asked_by_form (p 0)
five_asked (l ∷ ls) p (suc j) = five_asked ls (λ i. p (suc i)) j

pub events_five : (text : List ℕ) (n : ℕ) → FiveForms (lines text) → FiveAsked (events_of text n)
events_five text n p = five_asked (drop n (lines text)) (five_after n (lines text) p)

-- ---- the whole text

plan_before_lem : (h : Head) → Uncapped h → (t : List ℕ) → h.hold ≡ false → plan_of h t ≡ plan_before h t
unfolding plan_uncapped plan_before
plan_before_lem h all t place =
    plan_uncapped_lem h all t
    ∙ ap (λ (u : Cells). elim (first_of (try too_short (ltb (length t) least_cells) ∷ try out_of_limits (not (valid h)) ∷ try mandatory_not_feasible (not (plan_fits_uncapped h (mandatories h))) ∷ [])) [
      | none ↦ record { answer = PlanAnswer.granted (grants_uncapped h); table = written h u t }
      | some r ↦ record { answer = PlanAnswer.refused 0 r; table = t }
    ]) (ap (λ (b : Bool). planned_uncapped (tie_of b) h) place ∙ planned_before_lem h)

whole_before_lem : (text t : List ℕ) → FiveForms (lines text) → whole_of text t ≡ whole_before text t
whole_before_lem text t p =
    whole_by_lem (λ w. w) text t plan_before start_of event_before head_before (head_before_lem text p)
    (λ h n e.
    let plain = plain_head text p h n e in (
      plan_before_lem h plain.0 t plain.1,
      λ g u. ap (ran h n g) (run_before_lem h plain.0 (start_of h u) (events_of text n) (events_five text n p) plain.1),
    ))

-- ---- "`(tie place)` brings back the old order"; "without it there is no cap"

-- a plan of a head without a tie line, and without a supply line or with one that feeds every bridge, with every table
pub plan_as_before : (h : Head) → Uncapped h → (t : List ℕ) → h.hold ≡ false → plan_of h t ≡ plan_before h t
plan_as_before = plan_before_lem

-- every list of events of the five forms on such a frame, from every table and clock under place: also what comes after `(tie place)`
pub run_as_before : (h : Head) → Uncapped h → (st : State) (es : List Event) → FiveAsked es → st.hold ≡ false → run_of h st es ≡ run_before h st es
run_as_before = run_before_lem

-- every text of which no line has the form of a tie line or a supply line, with every table: what it comes to, and its listing
pub text_as_before : (text t : List ℕ) → FiveForms (lines text) → whole_of text t ≡ whole_before text t
text_as_before = whole_before_lem

pub place_as_before : (text t : List ℕ) → FiveForms (lines text) → listing_of (whole_of text t) ≡ listing_of (whole_before text t)
place_as_before text t p = ap listing_of (whole_before_lem text t p)
