-- A whole text beside a lent table and a lent output: what it comes to case by case, and what the
-- code leaves in each case.
--
-- In order: the outcome by the causes 10 and 8 (`beside-..`, `whole-..`), and the claim of it
-- (`text_claim`); a refusal (`leaves_refused`); a head that was read and its plan (`run_refused`,
-- `lines_may_start`, `run_done`); the reading handed on (`run_unread`, `head_start`,
-- `run_accepted`).
-- Assumes nothing.
use Prim.Native.Nat.{ℕ, suc, ◌+◌, ◌≤◌, ◌<◌}
use native.Mathlib.Omega.{arith}
use mathlib.Core.Path.{◌≡◌, refl, sym, ◌∙◌, ap, subst}
use mathlib.Core.Bool.{Bool, true}
use mathlib.Core.Option.{Option, none, some}
use mathlib.Core.Logic.{◌⊎◌, inl, inr}
use mathlib.Core.List.{List, [], ◌∷◌, ◌++◌, map}
use lib.ListN.{length, take, drop, take-append-drop}
use lib.Seq.{get_or-take}
use lib.Dec.{ltb, leb}
use Rattle.std.specs.Prelude.{Result, Ok, Err, MatchResult, IsErrAnd}
use Rattle.std.proofs.lemmas.Result.{err_from_is_err_and}
use Rattle.laws.proofs.Tests.{Is, is, is_true, is_false, both}
use Rattle.laws.proofs.Comparisons.{lt_of, ge_of, leb_yes, ltb_yes, ltb_no}
use Rattle.station.specs.Head as meant
use Rattle.station.specs.Head.{Head, Valid, valid}
use Rattle.station.specs.Refusal.{Refusal, too_short, text_too_long, first_of}
use Rattle.station.specs.Reading.{Reading, head_of}
use Rattle.station.specs.Types.{refusal_in, presets_in, head_in, valid_record}
use Rattle.station.specs.ReadHead.{head_record, record_of, records_over, extent, fault, HeadRead}
use Rattle.station.specs.Wrote.{Wrote, Writes}
use Rattle.station.specs.declared.output.Writer.{Writer}
use Rattle.station.specs.declared.types.Preset as record-of-preset
use Rattle.station.specs.declared.types.Head as record-of-head
use Rattle.station.specs.declared.types.Refusal as cause
use Rattle.station.specs.declared.types.Fault.{Fault}
use Rattle.station.proofs.Theorems.{of_valid, read_valid, records_back, ReadAccepted, ReadRefused, writes_then, writes_out}
use Rattle.placing.specs.Outcomes.{PlanAnswer, PlanOutcome, plan_causes, plan_of}
use Rattle.placing.specs.PlanDone.{plan_meant, replied_in, PlanDone}
use Rattle.placing.specs.State.{State, state_at}
use Rattle.placing.specs.declared.moment.Moment.{Moment}
use Rattle.placing.proofs.Theorems.{causes_none, plan_claim}
use Rattle.frame.specs.Event.{Run}
use Rattle.frame.specs.Text.{Whole, not_read, not_planned, ran, start_of, events_of, whole_with_plan, whole_with_head, whole_of}
use Rattle.frame.specs.Listing.{granted_lines, slot_lines, listing_of}
use Rattle.frame.specs.method.SlotLines.{lines_of_slots}
use Rattle.frame.specs.method.TextLines.{LinesStart, lines_run, RanLines}
use Rattle.frame.specs.TextDone.{whole_with_output, End, TextRun, text_run, end_of, head_after, presets_after, table_after, clock_after, hold_after, output_after, Leaves, TextClaim}
use Rattle.frame.specs.method.TextParts.{HeadStart}
use Rattle.frame.proofs.listing.bytes.SlotLines.{slot_lines_head}
use Rattle.frame.proofs.text.AfterHead.{read_short, whole_ran, lines_start}
use Rattle.frame.proofs.Demands.{demand_1, demand_2, demand_3_planned, ran_granted, ran_is}

-- ---- the outcome by the causes 10 and 8

module _ (text t out : List ℕ) where
  pub beside_long : 32768 < length text → whole_with_output text t out ≡ not_read 0 text_too_long
  unfolding whole_with_output first_of
  beside_long l = rw (ltb_yes 32768 (length text) l, whole_with_output) refl

  pub beside_short : length text ≤ 32768 → length out < 8192 → whole_with_output text t out ≡ not_read 0 too_short
  unfolding whole_with_output first_of
  beside_short l s = rw (ltb_no 32768 (length text) l, ltb_yes (length out) 8192 s, whole_with_output) refl

  pub beside_whole : length text ≤ 32768 → 8192 ≤ length out → whole_with_output text t out ≡ whole_of text t
  unfolding whole_with_output first_of
  beside_whole l s = rw (ltb_no 32768 (length text) l, ltb_no (length out) 8192 s, whole_with_output) refl

module _ (text t : List ℕ) where
  pub whole_long : 32768 < length text → whole_of text t ≡ not_read 0 text_too_long
  unfolding whole_of first_of
  whole_long l = rw (ltb_yes 32768 (length text) l, whole_of) refl

  pub whole_short : length text ≤ 32768 → length t < 512 → whole_of text t ≡ not_read 0 too_short
  unfolding whole_of first_of
  whole_short l s = rw (ltb_no 32768 (length text) l, ltb_yes (length t) 512 s, whole_of) refl

  whole_head : length text ≤ 32768 → 512 ≤ length t → whole_of text t ≡ whole_with_head text (head_of text) t
  unfolding whole_of first_of
  whole_head l s = rw (ltb_no 32768 (length text) l, ltb_no (length t) 512 s, whole_of) refl

  pub whole_refused : {n : ℕ} {r : Refusal} → length text ≤ 32768 → 512 ≤ length t → head_of text ≡ Reading.refused n r → whole_of text t ≡ not_read n r
  unfolding whole_with_head
  whole_refused l s e = whole_head l s ∙ ap (λ (x : Reading). whole_with_head text x t) e

  whole_planned : {h : Head} {n : ℕ} → 512 ≤ length t → head_of text ≡ Reading.accepted h n
      → whole_of text t ≡ whole_with_plan text h n (plan_of h t).answer (plan_of h t).table
  unfolding whole_with_head
  whole_planned {h} {n} s e = whole_head (read_short text h n e) s ∙ ap (λ (x : Reading). whole_with_head text x t) e

-- an output or a table that is too short
pub short_start : (text t out : List ℕ) → length text ≤ 32768 → (length out < 8192) ⊎ ((8192 ≤ length out) × (length t < 512)) → whole_with_output text t out ≡ not_read 0 too_short
short_start text t out l (inl s) = beside_short text t out l s
short_start text t out l (inr s) = beside_whole text t out l s.0 ∙ whole_short text t l s.1

-- a text that ran beside some output ran
pub beside_ran : (text t out : List ℕ) {h : Head} {n : ℕ} {g : List ℕ} {r : Run} → whole_with_output text t out ≡ ran h n g r → whole_of text t ≡ ran h n g r
beside_ran text t out {h} {n} {g} {r} e = go (is (ltb 32768 (length text))) (is (ltb (length out) 8192))
  where
    go : Is (ltb 32768 (length text)) → Is (ltb (length out) 8192) → whole_of text t ≡ ran h n g r
    go (is_true l) s = cc (beside_long text t out (lt_of 32768 (length text) l))
    go (is_false l) (is_true s) = cc (beside_short text t out (ge_of 32768 (length text) l) (lt_of (length out) 8192 s))
    go (is_false l) (is_false s) = sym (beside_whole text t out (ge_of 32768 (length text) l) (ge_of (length out) 8192 s)) ∙ e

-- an output that is long enough does not matter
beside_other : (text t out : List ℕ) → 8192 ≤ length out → whole_with_output text t out ≡ whole_of text t
beside_other text t out s = go (is (ltb 32768 (length text)))
  where
    go : Is (ltb 32768 (length text)) → whole_with_output text t out ≡ whole_of text t
    go (is_true l) = let m = lt_of 32768 (length text) l in beside_long text t out m ∙ sym (whole_long text t m)
    go (is_false l) = beside_whole text t out (ge_of 32768 (length text) l) s

-- The claim, for every text, table and output.
pub text_claim : (text t out : List ℕ) → TextClaim text t out
text_claim text t out = record {
  short_output = beside_short text t out;
  other_output = beside_other text t out;
  demand1 = demand_1 text t;
  events = λ h n g r e. ran_is text t h n g r (beside_ran text t out e);
  demand2 = λ h n g r e. demand_2 h;
  demand3 = λ h n g r e. demand_3_planned h t g (ran_granted text t h n g r (beside_ran text t out e)) (events_of text n);
  plan = λ h n g r e. plan_claim h t;
}

-- ---- a refusal

module _ {w : Whole} (head : record-of-head.Head) (ps : List record-of-preset.Preset) (t : List ℕ) (clock : ℕ) (hold : Bool) (out : List ℕ) where
  -- before the head is read: nothing is changed
  pub leaves_refused : {f : Fault} → w ≡ not_read f.line (refusal_in f.cause) → Leaves w head ps t clock hold out t out (record { ended = Err f; head = head; presets = ps; clock = clock; hold = hold })
  unfolding end_of head_after presets_after table_after clock_after hold_after output_after
  leaves_refused e = rw e (record { ended = refl; head = refl; presets = refl; table = refl; clock = refl; hold = refl; output = refl })

  -- and before any line of it is
  pub leaves_at_start : (c : cause.Refusal) {f : Fault} → w ≡ not_read 0 (refusal_in c) → f ≡ fault 0 c
      → Leaves w head ps t clock hold out t out (record { ended = Err f; head = head; presets = ps; clock = clock; hold = hold })
  leaves_at_start c e q = leaves_refused (rw q e)

  -- of the plan: the head is the one read
  leaves_unplanned : (h : Head) {f : Fault} → w ≡ not_planned h f.line (refusal_in f.cause) → head ≡ head_record h → ps ≡ records_over h.presets ps
      → Leaves w head ps t clock hold out t out (record { ended = Err f; head = head; presets = ps; clock = clock; hold = hold })
  unfolding end_of head_after presets_after table_after clock_after hold_after output_after
  leaves_unplanned h e a b = rw e (record { ended = refl; head = a; presets = b; table = refl; clock = refl; hold = refl; output = refl })

  -- a text that ran: its listing was written
  leaves_ran : (h : Head) (n : ℕ) (g : List ℕ) (x : Run) {out₁ u : List ℕ} {end : ℕ} {m : Moment} → w ≡ ran h n g x → head ≡ head_record h → ps ≡ records_over h.presets ps
      → Wrote out 0 (listing_of (ran h n g x)) out₁ end → state_at u m ≡ x.after → Leaves w head ps t clock hold out u out₁ (text_run (Ok end) head ps m)
  unfolding end_of head_after presets_after table_after clock_after hold_after output_after
  leaves_ran h n g x {out₁} {u} {end} {m} e a b l s =
      rw e
      (record {
        ended = ap End.listed l.position;
        head = a;
        presets = b;
        table = ap (λ (z : State). z.table) s;
        clock = ap (λ (z : State). z.clock) s;
        hold = ap (λ (z : State). z.hold) s;
        output = l.output;
      })

-- ---- a head that was read, and its plan

-- a refused plan leaves the table
plan_unchanged : (h : Head) (t : List ℕ) {n : ℕ} (r : Refusal) → (plan_of h t).answer ≡ PlanAnswer.refused n r → (plan_of h t).table ≡ t
unfolding plan_of
plan_unchanged h t {n} r = go (first_of (plan_causes h t)) refl
  where
    go : (x : Option Refusal) → first_of (plan_causes h t) ≡ x → (plan_of h t).answer ≡ PlanAnswer.refused n r → (plan_of h t).table ≡ t
    go none e = rw (e, plan_of) (λ q. absurd (let z : ◌≡◌ {A = ℕ} 0 1 = cc in omega arith))
    go (some c) e = rw (e, plan_of) (λ q. refl)

-- the grants past the presets do not matter
granted_take : (g : List ℕ) (n i : ℕ) (ps : List meant.Preset) → i + length ps ≤ n → granted_lines g i ps ≡ granted_lines (take n g) i ps
unfolding granted_lines
granted_take g n i [] l = refl
granted_take g n i (p ∷ ps) l =
    rw (sym (get_or-take n g i 0 (omega arith)), granted_take g n (suc i) ps (omega arith)) refl

module _ {head : record-of-head.Head} {ps : List record-of-preset.Preset} {text : List ℕ} {k n : ℕ} {t : List ℕ} (s : HeadStart head ps text k n t) where
  abbrev h : Head
  h = head_in head ps

  ok : Valid h
  ok = read_valid text h n s.reads

  few : head.count ≤ 32
  few = omega (arith, s.count, ok.number_of_presets)

  is_valid : valid_record head ps ≡ true
  is_valid = both (leb head.count 32) (valid h) (leb_yes head.count 32 few) (of_valid h ok)

  -- the records are the head's own
  own_head : head ≡ head_record h
  own_head = ap (λ (c : ℕ). record { slots = head.slots; bridges = head.bridges; supply = head.supply; hold = head.hold; busy = head.busy; count = c }) s.count

  own_presets : ps ≡ records_over h.presets ps
  own_presets =
      sym (take-append-drop head.count ps)
      ∙ ap (λ (l : List record-of-preset.Preset). l ++ drop head.count ps) (sym (records_back (take head.count ps)))
      ∙ ap (λ (c : ℕ). map record_of h.presets ++ drop c ps) s.count

  meant_plan : plan_meant head ps t ≡ plan_of h t
  unfolding plan_meant
  meant_plan = rw (causes_none head ps t s.long is_valid, plan_meant) refl

  module _ {u : List ℕ} {p : Result (List ℕ) cause.Refusal} (d : PlanDone head ps t u p) where
    table_is : u ≡ (plan_of h t).table
    table_is = d.table ∙ ap (λ (o : PlanOutcome). o.table) meant_plan

    answer_is : replied_in head.count p ≡ (plan_of h t).answer
    answer_is = d.answer ∙ ap (λ (o : PlanOutcome). o.answer) meant_plan

    -- the plan is refused
    pub run_refused : (clock : ℕ) (hold : Bool) (out : List ℕ) {c : cause.Refusal} → p ≡ Err c
        → Leaves (whole_of text t) head ps t clock hold out u out (record { ended = Err (fault n c); head = head; presets = ps; clock = clock; hold = hold })
    unfolding whole_with_plan
    run_refused clock hold out {c} a =
        let q : (plan_of h t).answer ≡ PlanAnswer.refused 0 (refusal_in c) = sym answer_is ∙ ap (replied_in head.count) a in
        let w : whole_of text t ≡ not_planned h n (refusal_in c) =
        whole_planned text t s.long s.reads ∙ ap (λ (x : PlanAnswer). whole_with_plan text h n x (plan_of h t).table) q in
        let same : u ≡ t = table_is ∙ plan_unchanged h t (refusal_in c) q in
        rw same (leaves_unplanned head ps t clock hold out h w own_head own_presets)

    -- the plan is granted
    module _ {grants : List ℕ} (a : p ≡ Ok grants) where
      abbrev g : List ℕ
      g = take head.count grants

      granted : (plan_of h t).answer ≡ PlanAnswer.granted g
      granted = sym answer_is ∙ ap (replied_in head.count) a

      handed : ReadAccepted text ps (record { answer = Ok (extent n k); head = head; presets = ps }) n k
      handed = record { reads = s.reads; bytes = s.bytes; valid = ok; count = s.count; past = refl }

      pub lines_may_start : LinesStart head ps text k n (start_of h u)
      lines_may_start = rw table_is (lines_start handed t g granted)

      abbrev x : Run
      x = lines_run h text k (start_of h u)

      whole_is : whole_of text t ≡ ran h n g x
      whole_is =
          whole_ran text h n s.reads t g granted
          ∙ ap (λ (m : ℕ). ran h n g (lines_run h text m (start_of h (plan_of h t).table))) (sym s.bytes)
          ∙ ap (λ (v : List ℕ). ran h n g (lines_run h text k (start_of h v))) (sym table_is)

      -- granted lines, answers and slots make the listing
      listing_wrote : {w w₁ w₂ w₃ : Writer} {v : List ℕ} {m : Moment}
          → Writes w (granted_lines grants 0 (presets_in head.count ps)) w₁ → RanLines h text k n (start_of h u) w₁ v m w₂
          → Writes w₂ (lines_of_slots head.slots head.bridges v) w₃ → Writes w (listing_of (ran h n g x)) w₃
      unfolding listing_of
      listing_wrote {v = v} a y b =
          let first : granted_lines grants 0 h.presets ≡ granted_lines g 0 h.presets =
          granted_take grants head.count 0 h.presets (omega (arith, s.count)) in
          let last : lines_of_slots head.slots head.bridges v ≡ slot_lines h x.after.table 0 h.slots =
          slot_lines_head h v ok.slots_high ok.bridges_high ∙ ap (λ (m : List ℕ). slot_lines h m 0 h.slots) y.table in
          writes_then (rw first at a) (writes_then y.output (rw last at b))

      pub run_done : (clock : ℕ) (hold : Bool) {w w₁ w₂ w₃ : Writer} {out out₁ v : List ℕ} {end : ℕ} {m : Moment}
          → w.out.now ≡ out → w.at ≡ 0
          → Writes w (granted_lines grants 0 (presets_in head.count ps)) w₁ → RanLines h text k n (start_of h u) w₁ v m w₂
          → Writes w₂ (lines_of_slots head.slots head.bridges v) w₃ → out₁ ≡ w₃.out.now → end ≡ w₃.at
          → Leaves (whole_of text t) head ps t clock hold out v out₁ (text_run (Ok end) head ps m)
      run_done clock hold {out = out} p q a y b r s =
          leaves_ran head ps t clock hold out h n g x whole_is own_head own_presets (writes_out (listing_wrote a y b) p q r s) (rw (y.table, y.clock, y.hold) refl)

-- what is known where an error was put in place of another
pub mapped_err : {X E D : Type 0} (P : E → D → Type 0) (r : Result X E) (q : Result X D) (d : D) → MatchResult r (λ x. q ≡ Ok x) (λ e. IsErrAnd q (P e)) → q ≡ Err d
    → (e : E) × (r ≡ Err e) × P e d
mapped_err {X} {E} {D} P (Ok y) q d m w = let s : ◌≡◌ {A = Result X D} (Ok y) (Err d) = sym m ∙ w in cc
mapped_err {X} {E} {D} P (Err e) q d m w =
    let p = err_from_is_err_and q m in
    let s : ◌≡◌ {A = Result X D} (Err p.0) (Err d) = sym p.1 ∙ w in
    let z : p.0 ≡ d = cc in
    (e, refl, subst (P e) z p.2)

pub mapped_ok : {X E D : Type 0} (P : E → D → Type 0) (r : Result X E) (q : Result X D) (x : X) → MatchResult r (λ y. q ≡ Ok y) (λ e. IsErrAnd q (P e)) → q ≡ Ok x → r ≡ Ok x
mapped_ok {X} {E} {D} P (Ok y) q z m w =
    let s : ◌≡◌ {A = Result X D} (Ok y) (Ok z) = sym m ∙ w in
    let i : y ≡ z = cc in
    ap Ok i
mapped_ok {X} {E} {D} P (Err e) q z m w =
    let p = err_from_is_err_and q m in
    let s : ◌≡◌ {A = Result X D} (Err p.0) (Ok z) = sym p.1 ∙ w in cc

-- ---- the reading handed on

-- a head that was refused
pub run_unread : {text t out : List ℕ} {head : record-of-head.Head} {old : List record-of-preset.Preset} {r : HeadRead} {n : ℕ} {c : cause.Refusal} {clock : ℕ} {hold : Bool}
    → ReadRefused text head old r n c → length text ≤ 32768 → 512 ≤ length t → 8192 ≤ length out
    → Leaves (whole_with_output text t out) head old t clock hold out t out (record { ended = Err (fault n c); head = r.head; presets = r.presets; clock = clock; hold = hold })
run_unread {text} {t} {out} {head} {old} {r} {n} {c} {clock} {hold} a short long m =
    rw (a.head, a.presets) (leaves_refused head old t clock hold out (beside_whole text t out short m ∙ whole_refused text t short long a.reads))

-- a head that was read
pub head_start : {text : List ℕ} {old : List record-of-preset.Preset} {r : HeadRead} {n k : ℕ} {t : List ℕ} → ReadAccepted text old r n k → 512 ≤ length t
    → HeadStart r.head r.presets text k n t
head_start a l = record { reads = a.reads; bytes = a.bytes; count = a.count; long = l }

-- after a head that was read it does not matter which one was handed in, nor what records beside
-- those past the last preset
head_read_lem : (text : List ℕ) (h : Head) (n : ℕ) (y : PlanAnswer) (v : List ℕ) (a b : record-of-head.Head)
    → head_after (whole_with_plan text h n y v) a ≡ head_after (whole_with_plan text h n y v) b
unfolding whole_with_plan head_after
head_read_lem text h n (PlanAnswer.granted g) v a b = refl
head_read_lem text h n (PlanAnswer.refused _ c) v a b = refl

presets_read : (text : List ℕ) (h : Head) (n : ℕ) (y : PlanAnswer) (v : List ℕ) (a b : List record-of-preset.Preset)
    → drop (length h.presets) a ≡ drop (length h.presets) b → presets_after (whole_with_plan text h n y v) a ≡ presets_after (whole_with_plan text h n y v) b
unfolding whole_with_plan presets_after
presets_read text h n (PlanAnswer.granted g) v a b e = ap (λ (l : List record-of-preset.Preset). map record_of h.presets ++ l) e
presets_read text h n (PlanAnswer.refused _ c) v a b e = ap (λ (l : List record-of-preset.Preset). map record_of h.presets ++ l) e

pub run_accepted : {text t out : List ℕ} (head : record-of-head.Head) {old : List record-of-preset.Preset} {r : HeadRead} {n k clock : ℕ} {hold : Bool} {t₁ out₁ : List ℕ}
    {o : TextRun} → ReadAccepted text old r n k → 512 ≤ length t → 8192 ≤ length out
    → Leaves (whole_of text t) r.head r.presets t clock hold out t₁ out₁ o → Leaves (whole_with_output text t out) head old t clock hold out t₁ out₁ o
run_accepted {text} {t} {out} head {old} {r} {n} {k} {clock} {hold} {t₁} {out₁} {o} a l m x =
    let h = head_in r.head r.presets in
    let v = (plan_of h t).table in
    let y = (plan_of h t).answer in
    let w : whole_of text t ≡ whole_with_plan text h n y v = whole_planned text t l a.reads in
    let past : drop (length h.presets) r.presets ≡ drop (length h.presets) old =
    subst (λ (c : ℕ). drop c r.presets ≡ drop c old) a.count a.past in
    rw (beside_whole text t out (read_short text h n a.reads) m)
    (record {
      ended = x.ended;
      head = x.head ∙ subst (λ (z : Whole). head_after z r.head ≡ head_after z head) (sym w) (head_read_lem text h n y v r.head head);
      presets = x.presets ∙ subst (λ (z : Whole). presets_after z r.presets ≡ presets_after z old) (sym w) (presets_read text h n y v r.presets old past);
      table = x.table;
      clock = x.clock;
      hold = x.hold;
      output = x.output;
    })
