-- The loop over the lines of a head: what holds between two lines, and what the reading answers at each way out.
--
-- In order: lines that were read; between two lines (`AtLine`, `at_start`), and at a line (`LineRead`, `lines_room`, `bytes_room`, `at_next`); a line that ends the head
-- (`ends_begun`, `ends_same`); the ways out (`out_long`, `out_ends`, `ends_after`, `out_fails`, `out_whole`, `out_empty`); what a caller learns (`ReadAccepted`, `ReadRefused`): a head and its record
-- (`head_back`), `read_accepted`, `read_refused`.
-- Assumes nothing.
use Prim.Native.Nat.{ℕ, zero, suc, ◌+◌, ◌≤◌, ◌<◌, min}
use native.Mathlib.Omega.{arith}
use native.Mathlib.Numerals.{add-one}
use mathlib.Core.Path.{◌≡◌, refl, sym, ◌∙◌, ap}
use mathlib.Core.Bool.{Bool, true, false, not}
use mathlib.Core.Option.{Option, none, some}
use Rattle.std.specs.Prelude as code-option
use Rattle.std.specs.Prelude.{Some, None, is_some, unwrap_or}
use mathlib.Core.List.{List, [], ◌∷◌, map}
use lib.ListN.{length, take, drop, length-append, length-drop, length-map, take-append-drop}
use lib.Seq.{length-take-le, take_at, drop_at}
use Rattle.std.specs.Prelude.{Result, Ok, Err}
use Rattle.laws.proofs.Comparisons.{ltb_yes, ltb_no}
use Rattle.station.specs.declared.types.Preset.{Preset}
use Rattle.station.specs.declared.types.Head.{Head}
use Rattle.station.specs.declared.types.Refusal.{Refusal}
use Rattle.station.specs.declared.types.Refusal.TheVariants.{OutOfPlace, TextTooLong}
use Rattle.station.specs.declared.types.Extent.{Extent}
use Rattle.station.specs.declared.types.Fault.{Fault}
use Rattle.station.specs.declared.heads.steps.State.{State}
use Rattle.station.specs.declared.heads.steps.Going.TheVariants.{Goes, Ends}
use Rattle.station.specs.Head as meant
use Rattle.station.specs.Head.{preset_of, with_presets, Valid}
use Rattle.station.specs.Text.{lines, join}
use Rattle.station.specs.Form.{Form, form}
use Rattle.station.specs.Writing.{text_of}
use Rattle.station.specs.Reading.{Reading, accepted, refused, begun, read_from, head_of}
use Rattle.station.specs.method.ReadLine.{line_in}
use Rattle.station.specs.Types.{refusal_in, refusal_of, preset_in, with_count, head_in}
use Rattle.station.specs.ReadHead.{record_of, head_record, records_over, extent, fault, HeadRead, head_read}
use Rattle.station.specs.method.HeadStep.{Verdict, Step, preset_said, accepted_read, refused_read, no_state, stage_in, so_far_in, step_by, after_frame, after_supply, after_busy, after_preset, supply_causes, busy_causes, preset_causes, tie_step_at, first_step, next_step, step_where, step_of}
use Rattle.station.specs.declared.heads.steps.Stage as code
use Rattle.station.specs.declared.heads.steps.Stage.TheVariants as stage
use Rattle.station.specs.declared.forms.Line.{Line}
use Rattle.station.specs.declared.forms.Line.TheVariants as line
use Rattle.station.specs.declared.forms.Line.TheVariants.{Frame, Clock, Call}
use Rattle.station.specs.Refusal as cause
use Rattle.station.specs.Refusal.{try, first_of}
use Rattle.station.proofs.Text.{lines_join}
use lib.Dec.{eqb}
use Rattle.laws.proofs.Tests.{Is, is, is_true, is_false}
use Rattle.station.proofs.Writing.{read_valid, read_written}
use Rattle.station.proofs.CodeRecords.{refusal_of_lem, refusal_in_lem}
use Rattle.station.proofs.heads.OneLine.{records_back, presets_back}
use Rattle.station.proofs.heads.StepMeaning.{Kept, LineMeans, after_verdict, step_line}

-- ---- lines that were read

-- one line more was read: its bytes
take_line : (ls : List (List ℕ)) (n : ℕ) (l : List ℕ) (r : List (List ℕ)) → drop n ls ≡ l ∷ r
    → length (join (take (suc n) ls)) ≡ length (join (take n ls)) + length l
take_line [] zero l r e = cc
take_line [] (suc n) l r e = cc
take_line (x ∷ ls) zero l r e =
    let s : x ≡ l = cc in
    omega (arith, length-append x [], ap length s)
take_line (x ∷ ls) (suc n) l r e =
    omega (arith, take_line ls n l r e, length-append x (join (take (suc n) ls)), length-append x (join (take n ls)))

-- and the lines that are left
drop_line : (ls : List (List ℕ)) (n : ℕ) (l : List ℕ) (r : List (List ℕ)) → drop n ls ≡ l ∷ r → drop (suc n) ls ≡ r
drop_line [] zero l r e = cc
drop_line [] (suc n) l r e = cc
drop_line (x ∷ ls) zero l r e = cc
drop_line (x ∷ ls) (suc n) l r e = drop_line ls n l r e

-- there are no more lines than bytes
pub lines_few : (t : List ℕ) → length (lines t) ≤ length t
unfolding lines
lines_few [] = omega arith
lines_few (b ∷ t) = go (lines_few t) (lines t) refl (is (eqb b 10))
  where
    go : length (lines t) ≤ length t → (ls : List (List ℕ)) → lines t ≡ ls → Is (eqb b 10) → length (lines (b ∷ t)) ≤ suc (length t)
    go h ls e (is_true f) = rw f (omega arith)
    go h [] e (is_false f) = rw (f, e) (omega arith)
    go h (l ∷ ls) e (is_false f) = rw (f, e) (omega (arith, ap length e))

-- some of the lines have no more bytes than all
take_few : (ls : List (List ℕ)) (n : ℕ) → length (join (take n ls)) ≤ length (join ls)
take_few ls zero = omega arith
take_few [] (suc n) = omega arith
take_few (l ∷ ls) (suc n) = omega (arith, take_few ls n, length-append l (join (take n ls)), length-append l (join ls))

-- ---- between two lines

-- n lines of a text t were read, of so many bytes, and make s, and the lines ls are left; the records handed in were old
pub record AtLine (t : List ℕ) (old : List Preset) (s : State) (ls : List (List ℕ)) (bytes n : ℕ) : Type 0 where
  pub kept : Kept old s
  pub reads : read_from n (so_far_in s) (map form ls) ≡ head_of t
  pub left : drop n (lines t) ≡ ls
  pub size : bytes ≡ length (join (take n (lines t)))

pub at_start : (t : List ℕ) (old : List Preset) → length t ≤ 32768 → length old ≡ 32 → AtLine t old (no_state old) (lines t) 0 0
unfolding head_of
at_start t old h l = record {
  kept =
      record {
        slots = omega arith;
        bridges = omega arith;
        least = omega arith;
        count = omega arith;
        records = l;
        fresh = λ e. refl;
        past = refl;
      };
  reads = rw (ltb_no 32768 (length t) h) refl;
  left = refl;
  size = refl;
}

-- At a line: l is the line there, and x is what the code makes of it.
pub record LineRead (t : List ℕ) (old : List Preset) (s : State) (l : List ℕ) (ls : List (List ℕ)) (bytes n : ℕ) (x : Step) : Type 0 where
  pub here : AtLine t old s (l ∷ ls) bytes n
  pub step : x ≡ step_of s (line_in (min s.head.slots 64) (form l))

module _ {t : List ℕ} {old : List Preset} {s : State} {l : List ℕ} {ls : List (List ℕ)} {bytes n : ℕ} {x : Step} (a : LineRead t old s l ls bytes n x) where
  -- the lines that are left after it
  abbrev rest : List (Option Form)
  rest = map form ls

  line_means : LineMeans old (so_far_in s) n (form l) rest x
  line_means = rw a.step (step_line old s a.here.kept n rest (form l))

  line_reads : (v : Verdict) → x.verdict ≡ v → head_of t ≡ after_verdict v x.state n rest
  line_reads v e = sym a.here.reads ∙ line_means.reads ∙ ap (λ (w : Verdict). after_verdict w x.state n rest) e

  line_size : bytes + length l ≡ length (join (take (suc n) (lines t)))
  line_size = omega (arith, take_line (lines t) n l ls a.here.left, a.here.size)

  -- so many lines and bytes are no more than the text's bytes
  pub lines_room : n + 1 ≤ length t
  lines_room = omega (arith, lines_few t, length-drop n (lines t), ap length a.here.left)

  pub bytes_room : bytes + length l ≤ length t
  bytes_room = omega (arith, line_size, take_few (lines t) (suc n), ap length (lines_join t))

  pub at_next : x.verdict ≡ Ok Goes → AtLine t old x.state ls (bytes + length l) (n + 1)
  at_next v =
      rw (add-one n)
      (record {
        kept = line_means.kept;
        reads = sym (line_reads (Ok Goes) v);
        left = drop_line (lines t) n l ls a.here.left;
        size = line_size;
      })

-- ---- a line that ends the head comes after the frame line, and the state stays

never_ends : (o : Option cause.Refusal) (s t : State) → (step_by o s t).verdict ≡ Ok Ends → ⊥
never_ends none s t e = cc
never_ends (some c) s t e = cc

first_ends : (s : State) (l : Line) → (first_step s l).verdict ≡ Ok Ends → ⊥
first_ends s (Frame a b) e = never_ends (first_of (try cause.out_of_limits (not (meant.frame_in_limits a b)) ∷ [])) s (after_frame s a b) e
first_ends s (line.Busy b m) e = cc
first_ends s (line.Preset p) e = cc
first_ends s (Clock t) e = cc
first_ends s (Call n) e = cc
first_ends s (line.Tie hold) e = cc
first_ends s (line.Supply k) e = cc

tie_ends : (g : code.Stage) (s : State) (hold : Bool) → (tie_step_at g s hold).verdict ≡ Ok Ends → (tie_step_at g s hold).state ≡ s
tie_ends stage.Frame s hold e = cc
tie_ends stage.Supply s true e = cc
tie_ends stage.Supply s false e = cc
tie_ends stage.Tie s true e = cc
tie_ends stage.Tie s false e = cc
tie_ends (stage.Busy b) s hold e = refl
tie_ends stage.Presets s hold e = refl

next_ends : (s : State) (l : Line) → (next_step s l).verdict ≡ Ok Ends → (next_step s l).state ≡ s
next_ends s (Frame a b) e = cc
next_ends s (line.Busy b m) e = absurd (never_ends (first_of (busy_causes s b (is_some m))) s (after_busy s b (unwrap_or m 0)) e)
next_ends s (line.Preset p) e = absurd (never_ends (first_of (preset_causes s (preset_said p))) s (after_preset s (preset_said p)) e)
next_ends s (Clock t) e = refl
next_ends s (Call n) e = refl
next_ends s (line.Tie hold) e = tie_ends s.stage s hold e
next_ends s (line.Supply k) e = absurd (never_ends (first_of (supply_causes s k)) s (after_supply s k) e)

-- the frame line was read before
ends_begun : (s : State) (o : code-option.Option Line) → (step_of s o).verdict ≡ Ok Ends → begun (stage_in s.stage) ≡ true
ends_begun s None e = absurd cc
ends_begun s (Some l) e = go (begun (stage_in s.stage)) refl
  where
    go : (b : Bool) → begun (stage_in s.stage) ≡ b → begun (stage_in s.stage) ≡ true
    go true g = g
    go false g = absurd (first_ends s l (ap (λ (x : Bool). (step_where x s l).verdict) (sym g) ∙ e))

ends_same : (s : State) (o : code-option.Option Line) → (step_of s o).verdict ≡ Ok Ends → (step_of s o).state ≡ s
ends_same s None e = refl
ends_same s (Some l) e =
    let g = ends_begun s (Some l) e in
    ap (λ (x : Bool). (step_where x s l).state) g ∙ next_ends s l (ap (λ (x : Bool). (step_where x s l).verdict) (sym g) ∙ e)

-- ---- the ways out

-- the records of a state that was kept are those of its presets, before those handed in
kept_records : (old : List Preset) (s : State) → Kept old s
    → records_over (map preset_in (take s.head.count s.presets)) old ≡ s.presets
kept_records old s k =
    let c = k.count in
    let r = k.records in
    let ps = take s.head.count s.presets in
    let n : length (map preset_in ps) ≡ s.head.count = length-map ps preset_in ∙ length-take-le s.head.count s.presets (omega arith) in
    rw (records_back ps, n, sym k.past) (take-append-drop s.head.count s.presets)

module _ (t : List ℕ) (old : List Preset) (head : Head) where
  pub accepted_read_lem : (s : State) (at n : ℕ) → Kept old s → at ≡ length (join (take n (lines t))) → head_of t ≡ accepted (head_in s.head s.presets) n
      → accepted_read s n at ≡ head_read (head_of t) head old
  accepted_read_lem s at n k b e =
      let c = k.count in
      let r = k.records in
      let ps = take s.head.count s.presets in
      let z : length (map preset_in ps) ≡ s.head.count = length-map ps preset_in ∙ length-take-le s.head.count s.presets (omega arith) in
      let w : at ≡ length (text_of (head_in s.head s.presets)) = b ∙ ap length (sym (read_written t (head_in s.head s.presets) n e)) in
      sym
      (ap (λ (x : Reading). head_read x head old) e
      ∙ ap (λ (x : ℕ). made s n (length (text_of (head_in s.head s.presets))) x (records_over (map preset_in ps) old)) z
      ∙ ap (λ (l : List Preset). made s n (length (text_of (head_in s.head s.presets))) s.head.count l) (kept_records old s k)
      ∙ ap (λ (x : ℕ). made s n x s.head.count s.presets) (sym w))
    where
      made : State → ℕ → ℕ → ℕ → List Preset → HeadRead
      made s n bytes count l =
          record {
            answer = Ok (extent n bytes);
            head = with_count s.head count;
            presets = l;
          }

  pub refused_read_lem : (n : ℕ) (c : Refusal) → head_of t ≡ refused n (refusal_in c) → refused_read n c head old ≡ head_read (head_of t) head old
  refused_read_lem n c e =
      sym (ap (λ (x : Reading). head_read x head old) e ∙ ap (λ (d : Refusal). refused_read n d head old) (refusal_in_lem c))

  -- "text above 32,768 bytes"
  pub out_long : 32768 < length t → refused_read 0 TextTooLong head old ≡ head_read (head_of t) head old
  unfolding head_of
  out_long h = refused_read_lem 0 TextTooLong (rw (ltb_yes 32768 (length t) h) refl)

module _ {t : List ℕ} {old : List Preset} {s : State} {bytes n : ℕ} (head : Head) where
  -- a line with an event's form
  pub out_ends : {l : List ℕ} {ls : List (List ℕ)} {x : Step} → LineRead t old s l ls bytes n x → x.verdict ≡ Ok Ends
      → accepted_read x.state n bytes ≡ head_read (head_of t) head old
  out_ends {x} a v = accepted_read_lem t old head x.state bytes n (line_means a).kept a.here.size (line_reads a (Ok Ends) v)

  -- it comes after the frame line
  pub ends_after : {l : List ℕ} {ls : List (List ℕ)} {x : Step} → LineRead t old s l ls bytes n x → x.verdict ≡ Ok Ends → begun (stage_in x.state.stage) ≡ true
  ends_after {l} {x} a v =
      let said = line_in (min s.head.slots 64) (form l) in
      let same : x.state ≡ s = rw a.step (ends_same s said (rw a.step at v)) in
      rw same (ends_begun s said (rw a.step at v))

  -- a line at fault
  pub out_fails : {l : List ℕ} {ls : List (List ℕ)} {x : Step} {c : Refusal} → LineRead t old s l ls bytes n x → x.verdict ≡ Err c
      → refused_read (n + 1) c head old ≡ head_read (head_of t) head old
  out_fails {c} a v = rw (add-one n) (refused_read_lem t old head (suc n) c (line_reads a (Err c) v))

  -- the end of the text, no line being left, after the frame line
  pub out_whole : AtLine t old s [] bytes n → begun (stage_in s.stage) ≡ true → accepted_read s n bytes ≡ head_read (head_of t) head old
  unfolding read_from
  out_whole a b = accepted_read_lem t old head s bytes n a.kept a.size (rw b at (sym a.reads))

  -- "No text at all: 3 at line 1."
  pub out_empty : AtLine t old s [] bytes n → begun (stage_in s.stage) ≡ false → refused_read 1 OutOfPlace head old ≡ head_read (head_of t) head old
  unfolding read_from
  out_empty a b = refused_read_lem t old head 1 OutOfPlace (rw b at (sym a.reads))

-- ---- what a caller learns

-- An accepted text: what is handed back is the text's head of n lines and k bytes; it is valid, and the records past its presets are those handed in.
pub record ReadAccepted (t : List ℕ) (old : List Preset) (r : HeadRead) (n k : ℕ) : Type 0 where
  pub reads : head_of t ≡ accepted (head_in r.head r.presets) n
  pub bytes : k ≡ length (text_of (head_in r.head r.presets))
  pub valid : Valid (head_in r.head r.presets)
  pub count : r.head.count ≡ length (head_in r.head r.presets).presets
  pub past : drop r.head.count r.presets ≡ drop r.head.count old

-- A refused text: line n and its cause, and what was handed in.
pub record ReadRefused (t : List ℕ) (given : Head) (old : List Preset) (r : HeadRead) (n : ℕ) (c : Refusal) : Type 0 where
  pub reads : head_of t ≡ refused n (refusal_in c)
  pub head : r.head ≡ given
  pub presets : r.presets ≡ old

-- the records of a head are that head
pub head_back : (h : meant.Head) (old : List Preset) → head_in (head_record h) (records_over h.presets old) ≡ h
head_back h old =
    let e : take (length h.presets) (records_over h.presets old) ≡ map record_of h.presets =
    take_at (map record_of h.presets) (drop (length h.presets) old) (length h.presets) (length-map h.presets record_of) in
    ap (with_presets h)
    (ap (map preset_in) e ∙ presets_back h.presets)

module _ (t : List ℕ) (head : Head) (old : List Preset) where
  -- of the head that a text was read to
  accepted_back : (h : meant.Head) (n : ℕ) → head_of t ≡ accepted h n → ReadAccepted t old (head_read (accepted h n) head old) n (length (text_of h))
  accepted_back h n e =
      let b : head_in (head_record h) (records_over h.presets old) ≡ h = head_back h old in
      record {
        reads = rw b e;
        bytes = rw b refl;
        valid = rw b (read_valid t h n e);
        count = sym (ap (λ (g : meant.Head). length g.presets) b);
        past = drop_at (map record_of h.presets) (drop (length h.presets) old) (length h.presets) (length-map h.presets record_of);
      }

  pub read_accepted : (r : HeadRead) (n bytes : ℕ) → r ≡ head_read (head_of t) head old → r.answer ≡ Ok (extent n bytes) → ReadAccepted t old r n bytes
  read_accepted r n bytes e a = go (head_of t) refl e
    where
      go : (x : Reading) → head_of t ≡ x → r ≡ head_read x head old → ReadAccepted t old r n bytes
      go (accepted h k) q f =
          let s : ◌≡◌ {A = Result Extent Fault} (Ok (extent k (length (text_of h)))) (Ok (extent n bytes)) = ap (λ (y : HeadRead). y.answer) (sym f) ∙ a in
          let x : extent k (length (text_of h)) ≡ extent n bytes = cc in
          let i : k ≡ n = ap (λ (y : Extent). y.lines) x in
          let l : length (text_of h) ≡ bytes = ap (λ (y : Extent). y.bytes) x in
          rw (f, ← i, ← l) (accepted_back h k q)
      go (refused k c) q f = cc

  pub read_refused : (r : HeadRead) (n : ℕ) (c : Refusal) → r ≡ head_read (head_of t) head old → r.answer ≡ Err (fault n c) → ReadRefused t head old r n c
  read_refused r n c e a = go (head_of t) refl e
    where
      go : (x : Reading) → head_of t ≡ x → r ≡ head_read x head old → ReadRefused t head old r n c
      go (accepted h k) q f = cc
      go (refused k d) q f =
          let s : ◌≡◌ {A = Result Extent Fault} (Err (fault k (refusal_of d))) (Err (fault n c)) = ap (λ (y : HeadRead). y.answer) (sym f) ∙ a in
          let x : fault k (refusal_of d) ≡ fault n c = cc in
          let i : k ≡ n = ap (λ (y : Fault). y.line) x in
          let l : refusal_of d ≡ c = ap (λ (y : Fault). y.cause) x in
          record {
            reads = q ∙ ap (λ (m : ℕ). refused m d) i ∙ ap (refused n) (sym (refusal_of_lem d) ∙ ap refusal_in l);
            head = ap (λ (y : HeadRead). y.head) f;
            presets = ap (λ (y : HeadRead). y.presets) f;
          }
