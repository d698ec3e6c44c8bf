-- How long the text of a head can be.
--
-- In order: one line of each kind; lines one after the other; `text_fits`.
-- Assumes nothing.
use Prim.Native.Nat.{ℕ, zero, suc, ◌+◌, ◌*◌, ◌^◌, ◌≤◌, ◌<◌}
use native.Mathlib.Nat.{le_refl}
use native.Mathlib.Omega.{arith}
use mathlib.Core.Path.{◌≡◌, refl}
use mathlib.Core.Bool.{Bool, true, false}
use mathlib.Core.Option.{Option, none, some}
use mathlib.Core.List.{List, [], ◌∷◌, ◌++◌, map}
use lib.ListN.{length, get_or, length-append}
use lib.Pow.{pow_mono}
use Rattle.laws.proofs.Tests.{left_of, right_of}
use Rattle.station.specs.Head.{Preset, Head, InLimits, Valid, preset_in_limits, all_in_limits}
use Rattle.station.specs.Text.{bytes, ◌then◌, join}
use Rattle.station.specs.Decimal.{digits}
use Rattle.station.specs.Form.{Pairs, last, next, Form, frame_line, busy_line, brackets, preset_line, supply_line, print}
use Rattle.station.specs.Writing.{ordered, stretches, busy_line_of, busy_lines, supply_lines, tie_lines, forms_of, text_of}
use Rattle.station.proofs.Decimal.{digits_length}
use Rattle.station.proofs.Stretches.{first_stretch, rest_ordered, last_stretch, stretches_ordered}
use Rattle.station.proofs.ValidHead.{limits_of, parts_valid}

-- ---- one line

frame_size : (s b : ℕ) → s < 100 → b < 10 → length (print (frame_line s b)) ≤ 13
unfolding print bytes
frame_size s b h l =
    omega (
      arith,
      length-append (digits s) (bytes " " then digits b then bytes ")\n"),
      length-append (digits b) (bytes ")\n"),
      digits_length 2 s (omega arith) h,
      digits_length 1 b (omega arith) l,
    )

supply_size : (k : ℕ) → k < 10 → length (print (supply_line k)) ≤ 11
unfolding print bytes
supply_size k h = omega (arith, length-append (digits k) (bytes ")\n"), digits_length 1 k (omega arith) h)

preset_size : (p : Preset) → InLimits p → length (print (preset_line p)) ≤ 21
unfolding print bytes
preset_size p l =
    let n = digits p.number in
    let q = digits p.priority in
    let m = digits p.mandatory in
    let o = digits p.optional in
    omega (
      arith,
      length-append n (bytes " " then q then bytes " " then m then bytes " " then o then bytes ")\n"),
      length-append q (bytes " " then m then bytes " " then o then bytes ")\n"),
      length-append m (bytes " " then o then bytes ")\n"),
      length-append o (bytes ")\n"),
      digits_length 3 p.number (omega arith) (omega arith),
      digits_length 1 p.priority (omega arith) (omega arith),
      digits_length 2 p.mandatory (omega arith) (omega arith),
      digits_length 2 p.optional (omega arith) (omega arith),
    )

-- each bracket takes two slots at least, and eight bytes at most
brackets_size : (lo hi : ℕ) (p : Pairs) → hi < 100 → ordered lo hi p ≡ true → length (brackets p) + 4 * lo ≤ 4 * hi + 9
unfolding brackets bytes
brackets_size lo hi (last f t) h e =
    let a = last_stretch lo hi f t e in
    omega (
      arith,
      length-append (digits f) (bytes " " then digits t then bytes "))\n"),
      length-append (digits t) (bytes "))\n"),
      digits_length 2 f (omega arith) (omega arith),
      digits_length 2 t (omega arith) (omega arith),
    )
brackets_size lo hi (next f t p) h e =
    let a = first_stretch lo hi f t p e in
    omega (
      arith,
      length-append (digits f) (bytes " " then digits t then bytes ") " then brackets p),
      length-append (digits t) (bytes ") " then brackets p),
      digits_length 2 f (omega arith) (omega arith),
      digits_length 2 t (omega arith) (omega arith),
      brackets_size (t + 2) hi p h (rest_ordered lo hi f t p e),
    )

busy_size : (b : ℕ) (p : Pairs) → b < 10 → ordered 1 64 p ≡ true → length (print (busy_line b p)) ≤ 269
unfolding print bytes
busy_size b p h e =
    omega (arith, length-append (digits b) (bytes " " then brackets p), digits_length 1 b (omega arith) h, brackets_size 1 64 p (omega arith) e)

-- ---- lines one after the other

abbrev size : List Form → ℕ
size fs = length (join (map print fs))

size_cons : (f : Form) (fs : List Form) → size (f ∷ fs) ≡ length (print f) + size fs
size_cons f fs = length-append (print f) (join (map print fs))

size_append : (a b : List Form) → size (a ++ b) ≡ size a + size b
size_append [] b = omega arith
size_append (f ∷ a) b = omega (arith, size_cons f (a ++ b), size_cons f a, size_append a b)

supply_lines_size : (k : ℕ) → k < 10 → size (supply_lines k) ≤ 11
supply_lines_size zero h = omega arith
supply_lines_size (suc k) h = omega (arith, size_cons (supply_line (suc k)) [], supply_size (suc k) h)

tie_lines_size : (hold : Bool) → size (tie_lines hold) ≤ 11
unfolding print bytes
tie_lines_size true = omega arith
tie_lines_size false = omega arith

busy_lines_size : (c : ℕ) (ms : List ℕ) → c + length ms ≤ 10 → ((b : ℕ) → get_or ms b 0 < 2 ^ 64) → size (busy_lines c ms) ≤ 269 * length ms
unfolding busy_lines
busy_lines_size c [] h f = omega arith
busy_lines_size c (m ∷ ms) h f = go (busy_lines_size (suc c) ms (omega arith) (λ b. f (suc b))) (stretches 64 1 m) refl
  where
    go : size (busy_lines (suc c) ms) ≤ 269 * length ms → (o : Option Pairs) → stretches 64 1 m ≡ o
        → size (busy_line_of c o ++ busy_lines (suc c) ms) ≤ 269 * suc (length ms)
    go ih none e = omega arith
    go ih (some p) e =
        omega (arith, size_cons (busy_line c p) (busy_lines (suc c) ms), busy_size c p (omega arith) (stretches_ordered 64 m p (le_refl 64) (f 0) e))

presets_size : (ps : List Preset) → all_in_limits ps ≡ true → size (map preset_line ps) ≤ 21 * length ps
unfolding all_in_limits
presets_size [] e = omega arith
presets_size (p ∷ ps) e =
    omega (
      arith,
      size_cons (preset_line p) (map preset_line ps),
      preset_size p (limits_of p (left_of (preset_in_limits p) (all_in_limits ps) e)),
      presets_size ps (right_of (preset_in_limits p) (all_in_limits ps) e),
    )

-- the text of a head is at most 8,192 bytes long, the least output that an entry accepts
pub text_fits : (h : Head) → Valid h → length (text_of h) ≤ 8192
unfolding text_of forms_of
text_fits h v =
    let top : 2 ^ h.slots ≤ 2 ^ 64 = pow_mono v.slots_high in
    let masks : length h.busy ≡ 8 = v.masks in
    let few : length h.presets ≤ 32 = v.number_of_presets in
    let below : (b : ℕ) → get_or h.busy b 0 < 2 ^ 64 = λ b. omega (arith, v.in_frame_lem b) in
    omega (
      arith,
      size_cons (frame_line h.slots h.bridges) (supply_lines h.supply ++ (tie_lines h.hold ++ (busy_lines 1 h.busy ++ map preset_line h.presets))),
      size_append (supply_lines h.supply) (tie_lines h.hold ++ (busy_lines 1 h.busy ++ map preset_line h.presets)),
      size_append (tie_lines h.hold) (busy_lines 1 h.busy ++ map preset_line h.presets),
      size_append (busy_lines 1 h.busy) (map preset_line h.presets),
      frame_size h.slots h.bridges (omega arith) (omega arith),
      supply_lines_size h.supply (omega (arith, v.supply)),
      tie_lines_size h.hold,
      busy_lines_size 1 h.busy (omega arith) below,
      presets_size h.presets (parts_valid h v).limits,
    )
