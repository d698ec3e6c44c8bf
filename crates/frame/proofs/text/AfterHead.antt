-- From a head that was read and planned to the lines after it, for the loop over them.
--
-- In order: the lines after the first n (`lines_from`), and the bytes before them (`bytes_inside`,
-- `forms_bytes`); of a text whose head was read: that it is not too long (`read_short`), its events
-- (`events_after`), what the loop starts from (`lines_start`), and what the whole text comes to
-- (`whole_ran`).
-- Assumes nothing.
use Prim.Native.Nat.{ℕ, zero, suc, ◌+◌, ◌≤◌, ◌<◌}
use native.Mathlib.Omega.{arith}
use mathlib.Core.Path.{◌≡◌, refl, sym, ◌∙◌, ap}
use mathlib.Core.Bool.{true, false}
use mathlib.Core.List.{List, [], ◌∷◌, map}
use lib.ListN.{length, take, drop, length-append, take-append-drop}
use lib.Seq.{drop-drop}
use lib.Dec.{leb}
use Rattle.laws.proofs.Tests.{both}
use Rattle.laws.proofs.Comparisons.{leb_yes, ltb_no}
use Rattle.station.specs.Head.{Head, valid}
use Rattle.station.specs.Refusal.{first_of}
use Rattle.station.specs.Text.{bytes, lines, join}
use Rattle.station.specs.Line.{line_of}
use Rattle.station.specs.Form.{Form, frame_line, busy_line, preset_line, clock_line, call_line, tie_line, supply_line, print}
use Rattle.station.specs.Writing.{forms_of, text_of}
use Rattle.station.specs.Reading.{Reading, Means, too_long, no_text, by_lines, head_of}
use Rattle.station.specs.Types.{head_in}
use Rattle.station.specs.declared.types.Preset as record-of-preset
use Rattle.station.specs.ReadHead.{HeadRead}
use Rattle.station.proofs.Theorems.{of_valid, lines_first, lines_join, join_append, read_means}
use Rattle.station.proofs.Theorems.{read_written, read_lines, ReadAccepted}
use Rattle.placing.specs.Outcomes.{PlanAnswer, plan_of}
use Rattle.placing.proofs.Theorems.{plan_granted}
use Rattle.frame.specs.Event.{Event, line, run_of}
use Rattle.frame.specs.Text.{ran, start_of, events_of, whole_with_plan, whole_with_head, whole_of}
use Rattle.frame.specs.method.TextLines.{LinesStart, events_from, lines_run}
use Rattle.frame.proofs.Demands.{planned_running}

-- ---- the lines after the first n

-- one line more: its bytes
line_size : (n : ℕ) (t : List ℕ) → 0 < length t
    → length (join (take (suc n) (lines t))) ≡ length (line_of t) + length (join (take n (lines (drop (length (line_of t)) t))))
line_size n t some =
    ap (λ (ls : List (List ℕ)). length (join (take (suc n) ls))) (lines_first t some)
    ∙ length-append (line_of t) (join (take n (lines (drop (length (line_of t)) t))))

-- they are the lines of the text after the bytes of the first n
pub lines_from : (n : ℕ) (t : List ℕ) → drop n (lines t) ≡ lines (drop (length (join (take n (lines t)))) t)
unfolding lines
lines_from zero t = refl
lines_from (suc n) [] = refl
lines_from (suc n) (b ∷ t) =
    let w : List ℕ = b ∷ t in
    let r : List ℕ = drop (length (line_of w)) w in
    ap (drop (suc n)) (lines_first w (omega arith))
    ∙ lines_from n r
    ∙ ap lines (drop-drop (length (join (take n (lines r)))) (length (line_of w)) w)
    ∙ ap (λ (k : ℕ). lines (drop k w)) (sym (line_size n w (omega arith)))

pub bytes_inside : (n : ℕ) (t : List ℕ) → length (join (take n (lines t))) ≤ length t
bytes_inside n t =
    let ls = lines t in
    omega (
      arith,
      ap length (sym (lines_join t) ∙ ap join (sym (take-append-drop n ls)) ∙ join_append (take n ls) (drop n ls)),
      length-append (join (take n ls)) (join (drop n ls)),
    )

-- a form has at least one byte
form_bytes : (f : Form) → 0 < length (print f)
unfolding print bytes
form_bytes (frame_line s b) = omega arith
form_bytes (busy_line b p) = omega arith
form_bytes (preset_line p) = omega arith
form_bytes (clock_line t) = omega arith
form_bytes (call_line p) = omega arith
form_bytes (tie_line true) = omega arith
form_bytes (tie_line false) = omega arith
form_bytes (supply_line k) = omega arith

pub forms_bytes : (fs : List Form) → length fs ≤ length (join (map print fs))
forms_bytes [] = omega arith
forms_bytes (f ∷ fs) = omega (arith, form_bytes f, forms_bytes fs, length-append (print f) (join (map print fs)))

-- ---- a text whose head was read

module _ (text : List ℕ) (h : Head) (n : ℕ) (reads : head_of text ≡ Reading.accepted h n) where
  pub read_short : length text ≤ 32768
  read_short = go (Reading.accepted h n) (read_means text (Reading.accepted h n) reads) refl
    where
      go : (x : Reading) → Means text x → x ≡ Reading.accepted h n → length text ≤ 32768
      go _ (too_long p) e = absurd (let z : ◌≡◌ {A = ℕ} 0 1 = cc in omega arith)
      go _ (no_text p) e = absurd (let z : ◌≡◌ {A = ℕ} 0 1 = cc in omega arith)
      go _ (by_lines p q s x) e = p

  head_size : length (text_of h) ≡ length (join (take n (lines text)))
  head_size = ap length (read_written text h n reads)

  head_lines : n ≤ length (text_of h)
  unfolding text_of
  head_lines = omega (arith, read_lines text h n reads, forms_bytes (forms_of h))

  -- "Events follow": every line after the head is one
  pub events_after : events_of text n ≡ events_from text (length (text_of h))
  events_after = ap (map line) (lines_from n text ∙ ap (λ (k : ℕ). lines (drop k text)) (sym head_size))

  -- what the text comes to, where its head is planned
  pub whole_ran : (t g : List ℕ) → (plan_of h t).answer ≡ PlanAnswer.granted g
      → whole_of text t ≡ ran h n g (lines_run h text (length (text_of h)) (start_of h (plan_of h t).table))
  unfolding whole_of first_of whole_with_head whole_with_plan
  whole_ran t g q =
      let short = ltb_no 32768 (length text) read_short in
      let long = ltb_no (length t) 512 (plan_granted h t g q).3 in
      let begins : whole_of text t ≡ whole_with_head text (head_of text) t = rw (short, long, whole_of) refl in
      begins
      ∙ ap (λ (x : Reading). whole_with_head text x t) reads
      ∙ ap (λ (a : PlanAnswer). whole_with_plan text h n a (plan_of h t).table) q
      ∙ ap (λ (es : List Event). ran h n g (run_of h (start_of h (plan_of h t).table) es)) events_after

-- The loop starts from a head that was read, its n lines and its k bytes, and the table of its
-- plan.
pub lines_start : {text : List ℕ} {old : List record-of-preset.Preset} {r : HeadRead} {n k : ℕ} → ReadAccepted text old r n k
    → (t g : List ℕ) → (plan_of (head_in r.head r.presets) t).answer ≡ PlanAnswer.granted g
    → LinesStart r.head r.presets text k n (start_of (head_in r.head r.presets) (plan_of (head_in r.head r.presets) t).table)
lines_start {text} {old} {r} {n} {k} a t g q =
    let h = head_in r.head r.presets in
    let few = a.count in
    let most = a.valid.number_of_presets in
    let size = a.bytes in
    record {
      valid = both (leb r.head.count 32) (valid h) (leb_yes r.head.count 32 (omega arith)) (of_valid h a.valid);
      running = planned_running h t g q;
      few = omega (arith, head_lines text h n a.reads);
      inside = omega (arith, head_size text h n a.reads, bytes_inside n text);
      short = read_short text h n a.reads;
    }
