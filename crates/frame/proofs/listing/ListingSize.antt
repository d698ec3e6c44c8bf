-- How long the listing of a text can be: an output of 655,360 bytes has room for that of every
-- text.
--
-- In order: one line of each kind, granted lines and slot lines; the answers to a list of events
-- (`answers_size`); the line of a refusal; `listing_fits`.
-- Assumes nothing.
use Prim.Native.Nat.{ℕ, zero, suc, ◌+◌, ◌*◌, ◌≤◌, ◌<◌}
use native.Mathlib.Nat.{mod-lt}
use native.Mathlib.Omega.{arith}
use mathlib.Core.Path.{◌≡◌, refl, ap, subst}
use mathlib.Core.Bool.{Bool, true, false, cond}
use mathlib.Core.List.{List, [], ◌∷◌, ◌++◌, map}
use lib.Dec.{eqb}
use lib.ListN.{length, get_or, drop, length-append, length-map, length-drop}
use Rattle.laws.specs.Sums.{sum, count}
use Rattle.laws.specs.Lists.{at}
use Rattle.laws.proofs.Sums.{sum_le, sum_const}
use Rattle.laws.proofs.Counts.{count_le}
use Rattle.station.specs.Head.{Head, Preset, no_preset, Valid}
use Rattle.station.specs.Refusal.{Refusal, mandatory_not_feasible, too_short, text_too_long, number_of}
use Rattle.station.specs.Text.{bytes, ◌then◌, onto, lines}
use Rattle.station.specs.Form.{print}
use Rattle.station.specs.Reading.{Reading, SoFar, Stops, at_end, at_event, at_no_form, at_fault, Means, too_long, no_text, by_lines}
use Rattle.station.specs.Decimal.{digits}
use Rattle.station.proofs.Theorems.{number_small, digits_length}
use Rattle.placing.specs.Table.{cell, kind_of, number_in, is_optional}
use Rattle.placing.specs.Valid.{optional_count}
use Rattle.placing.specs.Outcomes.{Cost, PlanAnswer, plan_of}
use Rattle.placing.specs.State.{State}
use Rattle.placing.specs.Claims.{Running}
use Rattle.placing.proofs.Theorems.{clock_to, plan_claim}
use Rattle.frame.specs.Event.{Event, Answer, clock_now, tie_now, taken, refused, Outcome, event_of, run_of}
use Rattle.frame.specs.Text.{Whole, not_read, not_planned, ran, start_of, events_of, whole_of}
use Rattle.frame.specs.Demands.{Ends, EventIs, stopped, clock_set, tie_set, placed, total_taken}
use Rattle.frame.specs.Demands.{too_short_lem, head_refused, is_not_planned, is_planned}
use Rattle.frame.specs.Listing.{refused_line, granted_line, answer_line, cell_text, cell_texts, slot_line, slot_lines, granted_lines, answer_lines, listing_of}
use Rattle.frame.proofs.OneEvent.{event_is, event_running}
use Rattle.frame.proofs.KeptCells.{run_counted}
use Rattle.frame.proofs.Demands.{demand_1, planned_running}

-- ---- one line

refused_size : (n : ℕ) (r : Refusal) → n < 100000 → length (refused_line n r) ≤ 19
unfolding refused_line bytes
refused_size n r l =
    omega (
      arith,
      length-append (digits n) (bytes " " then digits (number_of r) then bytes ")\n"),
      length-append (digits (number_of r)) (bytes ")\n"),
      digits_length 5 n (omega arith) (omega arith),
      digits_length 2 (number_of r) (omega arith) (number_small r),
    )

now_size : (n t : ℕ) → t < 100 → length (answer_line n (clock_now t)) ≤ 19
unfolding answer_line bytes
now_size n t l = omega (arith, length-append (digits t) (bytes ")\n"), digits_length 2 t (omega arith) l)

tie_size : (n : ℕ) (hold : Bool) → length (answer_line n (tie_now hold)) ≤ 19
unfolding answer_line print bytes
tie_size n true = omega arith
tie_size n false = omega arith

taken_size : (n : ℕ) (c : Cost) → c.count < 1000 → length (answer_line n (taken c)) ≤ 19
unfolding answer_line bytes
taken_size n c l = omega (arith, length-append (digits c.count) (bytes ")\n"), digits_length 3 c.count (omega arith) l)

stopped_size : (n k : ℕ) (r : Refusal) → n < 100000 → length (answer_line n (refused k r)) ≤ 19
unfolding answer_line
stopped_size n k r l = refused_size n r l

granted_size : (n g : ℕ) → n < 1000 → g < 100 → length (granted_line n g) ≤ 17
unfolding granted_line bytes
granted_size n g l m =
    omega (
      arith,
      length-append (digits n) (bytes " " then digits g then bytes ")\n"),
      length-append (digits g) (bytes ")\n"),
      digits_length 3 n (omega arith) l,
      digits_length 2 g (omega arith) m,
    )

cell_size : (k n : ℕ) → n < 1000 → length (cell_text k n) ≤ 4
unfolding cell_text bytes
cell_size zero n l = omega arith
cell_size (suc zero) n l = omega arith
cell_size (suc (suc zero)) n l = omega (arith, digits_length 3 n (omega arith) l)
cell_size (suc (suc (suc zero))) n l = omega (arith, digits_length 3 n (omega arith) l)
cell_size (suc (suc (suc (suc k)))) n l = omega (arith, digits_length 3 n (omega arith) l)

cells_size : (h : Head) (t : List ℕ) (s b k : ℕ) → length (cell_texts h t s b k) ≤ 5 * k + 2
unfolding cell_texts bytes
cells_size h t s b zero = omega arith
cells_size h t s b (suc k) =
    let v = cell h t s b in
    let w = cell_text (kind_of v) (number_in v) in
    let small : number_in v < 256 = mod-lt v (omega arith) in
    omega (
      arith,
      length-append w (cell_texts h t s (suc b) k),
      cell_size (kind_of v) (number_in v) (omega arith),
      cells_size h t s (suc b) k,
    )

slot_size : (h : Head) (t : List ℕ) (s : ℕ) → s < 64 → h.bridges ≤ 8 → length (slot_line h t s) ≤ 50
unfolding slot_line bytes
slot_size h t s l m =
    omega (
      arith,
      length-append (digits (suc s)) (cell_texts h t s 0 h.bridges),
      digits_length 2 (suc s) (omega arith) (omega arith),
      cells_size h t s 0 h.bridges,
    )

slots_size : (h : Head) (t : List ℕ) (s k : ℕ) → s + k ≤ 64 → h.bridges ≤ 8 → length (slot_lines h t s k) ≤ 50 * k
unfolding slot_lines
slots_size h t s zero l m = omega arith
slots_size h t s (suc k) l m =
    omega (
      arith,
      length-append (slot_line h t s) (slot_lines h t (suc s) k),
      slot_size h t s (omega arith) m,
      slots_size h t (suc s) k (omega arith) m,
    )

grants_size : (g : List ℕ) (i : ℕ) (ps : List Preset) → ((j : ℕ) → j < length ps → ((get_or ps j no_preset).number < 1000) × (at g (i + j) < 100))
    → length (granted_lines g i ps) ≤ 17 * length ps
unfolding granted_lines
grants_size g i [] f = omega arith
grants_size g i (p ∷ ps) f =
    let first = f 0 (omega arith) in
    let same : i + 0 ≡ i = omega arith in
    omega (
      arith,
      length-append (granted_line p.number (at g i)) (granted_lines g (suc i) ps),
      granted_size p.number (at g i) first.0 (subst (λ (j : ℕ). at g j < 100) same first.1),
      grants_size g (suc i) ps (λ j l. let q : suc i + j ≡ i + suc j = omega arith in rw q (f (suc j) (omega arith))),
    )

-- ---- the answers

-- a clock that is set is a running frame's, so at most S + 1
now_small : (h : Head) (st : State) (e : Event) → Running h st → (t : ℕ) → (event_of h st e).answer ≡ clock_now t → t < 100
now_small h st e run t q = go (event_of h st e) (event_is h st e) q (event_running h st e run)
  where
    go : (o : Outcome) → EventIs h st e o → o.answer ≡ clock_now t → Running h o.after → t < 100
    go _ (stopped r f) p w = absurd (let z : ◌≡◌ {A = ℕ} 0 1 = cc in omega arith)
    go _ (clock_set c asks f) p w = let same : c ≡ t = cc in omega (arith, clock_to h.slots c w.well_formed.clock, w.valid.slots_high)
    go _ (tie_set hold asks f) p w = absurd (let z : ◌≡◌ {A = ℕ} 0 1 = cc in omega arith)
    go _ (placed jobs asks f) p w = absurd (let z : ◌≡◌ {A = ℕ} 0 1 = cc in omega arith)

one_size : (h : Head) (st : State) (e : Event) (n : ℕ) (rest : List Answer) → Running h st → n < 100000
    → (a : Answer) → (event_of h st e).answer ≡ a → total_taken (a ∷ rest) < 1000
    → (length (answer_line n a) ≤ 19) × (total_taken rest < 1000)
unfolding total_taken
one_size h st e n rest run l (clock_now t) q m = (now_size n t (now_small h st e run t q), m)
one_size h st e n rest run l (tie_now hold) q m = (tie_size n hold, m)
one_size h st e n rest run l (taken c) q m = (taken_size n c (omega arith), omega arith)
one_size h st e n rest run l (refused k r) q m = (stopped_size n k r l, m)

-- every answer has at most 19 bytes
pub answers_size : (h : Head) (st : State) (es : List Event) (n : ℕ) → Running h st → n + length es < 100000
    → total_taken (run_of h st es).answers < 1000 → length (answer_lines n (run_of h st es).answers) ≤ 19 * length es
unfolding run_of answer_lines
answers_size h st [] n run l m = omega arith
answers_size h st (e ∷ es) n run l m =
    let rest = (run_of h (event_of h st e).after es).answers in
    let one = one_size h st e (suc n) rest run (omega arith) (event_of h st e).answer refl m in
    omega (
      arith,
      length-append (answer_line (suc n) (event_of h st e).answer) (answer_lines (suc n) rest),
      one.0,
      answers_size h (event_of h st e).after es (suc n) (event_running h st e run) (omega arith) one.1,
    )

-- no more than 512 cells are optional at the start
optional_few : (h : Head) → Valid h → (t : List ℕ) → optional_count h (cell h t) ≤ 512
optional_few h v t =
    let each : sum h.slots (λ s. count h.bridges (λ b. is_optional (cell h t s b))) ≤ sum h.slots (λ s. 8) =
    sum_le h.slots (λ s. count h.bridges (λ b. is_optional (cell h t s b))) (λ s. 8)
    (λ s l. omega (arith, count_le h.bridges (λ b. is_optional (cell h t s b)), v.bridges_high)) in
    omega (arith, each, sum_const h.slots 8, v.slots_high)

-- ---- the line of a refusal

-- no more lines than bytes
onto_size : (b : ℕ) (ls : List (List ℕ)) → length (onto b ls) ≤ suc (length ls)
onto_size b [] = omega arith
onto_size b (l ∷ ls) = omega arith

lines_few : (t : List ℕ) → length (lines t) ≤ length t
unfolding lines
lines_few [] = omega arith
lines_few (b ∷ t) = go (eqb b 10) (lines_few t)
  where
    go : (x : Bool) → length (lines t) ≤ length t → length (cond x ((b ∷ []) ∷ lines t) (onto b (lines t))) ≤ suc (length t)
    go true ih = omega arith
    go false ih = omega (arith, onto_size b (lines t))

-- the line of a refusal, or the number of a head's lines
abbrev line_of : Reading → ℕ
line_of (Reading.accepted h n) = n
line_of (Reading.refused n r) = n

stops_line : {n : ℕ} {q : SoFar} {ls : List (List ℕ)} (x : Reading) → Stops n q ls x → line_of x ≤ suc n
stops_line _ (at_end b) = omega arith
stops_line _ (at_event e f) = omega arith
stops_line _ (at_no_form e) = omega arith
stops_line _ (at_fault e f c) = omega arith

means_line : (text : List ℕ) (x : Reading) → Means text x → line_of x ≤ 32769
means_line text _ (too_long p) = omega arith
means_line text _ (no_text p) = omega arith
means_line text x (by_lines {fs} {q} {ls} short e s y) =
    omega (arith, stops_line x y, ap length e, length-append (map print fs) ls, length-map fs print, lines_few text)

accepted_short : {text : List ℕ} (x : Reading) → Means text x → (h : Head) (n : ℕ) → x ≡ Reading.accepted h n → length text ≤ 32768
accepted_short _ (too_long p) h n e = absurd (let z : ◌≡◌ {A = ℕ} 0 1 = cc in omega arith)
accepted_short _ (no_text p) h n e = absurd (let z : ◌≡◌ {A = ℕ} 0 1 = cc in omega arith)
accepted_short _ (by_lines short e s y) h n q = short

-- ---- the listing

-- of a text that ran
ran_size : (text t : List ℕ) (h : Head) (n : ℕ) (g : List ℕ) → Means text (Reading.accepted h n) → (plan_of h t).answer ≡ PlanAnswer.granted g
    → length (listing_of (ran h n g (run_of h (start_of h (plan_of h t).table) (events_of text n)))) ≤ 655360
unfolding listing_of
ran_size text t h n g m a =
    let st = start_of h (plan_of h t).table in
    let es = events_of text n in
    let run = planned_running h t g a in
    let v = run.valid in
    let short = accepted_short (Reading.accepted h n) m h n refl in
    let line = means_line text (Reading.accepted h n) m in
    let few : length es ≤ 32768 = omega (arith, length-map (drop n (lines text)) Event.line, length-drop n (lines text), lines_few text) in
    let taken-few : total_taken (run_of h st es).answers < 1000 = omega (arith, run_counted h st es, optional_few h v st.table) in
    let grants : (j : ℕ) → j < length h.presets → ((get_or h.presets j no_preset).number < 1000) × (at g (0 + j) < 100) =
    λ j l.
    let none : 0 + j ≡ j = omega arith in (
      omega (arith, (v.limits j l).number_high),
      rw none (omega (arith, (plan_claim h t).reported g a j l, run.well_formed.cells.most j l, (v.limits j l).optional)),
    ) in
    let a₁ = granted_lines g 0 h.presets in
    let a₂ = answer_lines n (run_of h st es).answers in
    let a₃ = slot_lines h (run_of h st es).after.table 0 h.slots in
    omega (
      arith,
      length-append a₁ (a₂ ++ a₃),
      length-append a₂ a₃,
      grants_size g 0 h.presets grants,
      v.number_of_presets,
      answers_size h st es n run (omega arith) taken-few,
      slots_size h (run_of h st es).after.table 0 h.slots (omega (arith, v.slots_high)) v.bridges_high,
      v.slots_high,
    )

not_read_size : (n : ℕ) (r : Refusal) → n ≤ 32769 → length (listing_of (not_read n r)) ≤ 655360
unfolding listing_of
not_read_size n r l = omega (arith, refused_size n r (omega arith))

not_planned_size : (h : Head) (n : ℕ) (r : Refusal) → n ≤ 32769 → length (listing_of (not_planned h n r)) ≤ 655360
unfolding listing_of
not_planned_size h n r l = omega (arith, refused_size n r (omega arith))

ends_size : (text t : List ℕ) (w : Whole) → Ends text t w → length (listing_of w) ≤ 655360
ends_size text t _ (Ends.too_long p) = not_read_size 0 text_too_long (omega arith)
ends_size text t _ (too_short_lem p s) = not_read_size 0 too_short (omega arith)
ends_size text t _ (head_refused {n} {r} p s m) = not_read_size n r (means_line text (Reading.refused n r) m)
ends_size text t _ (is_not_planned {h} {n} s m f) = not_planned_size h n mandatory_not_feasible (means_line text (Reading.accepted h n) m)
ends_size text t _ (is_planned {h} {n} {g} s m a v) = ran_size text t h n g m a

-- The listing of every text, with every table, has at most 655,360 bytes.
pub listing_fits : (text t : List ℕ) → length (listing_of (whole_of text t)) ≤ 655360
listing_fits text t = ends_size text t (whole_of text t) (demand_1 text t).ends
