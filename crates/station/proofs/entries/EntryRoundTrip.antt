-- The round trips of demand 2 as consequences of the entries' contracts: `read_head` and `write_head`, whose preset records stand in a borrowed list, are inverse.
--
-- In order: a head read and written has the same bytes (`read_then_written`); a head written and read is the same head (`written_then_read`).
-- Assumes nothing.
use Prim.Native.Nat.{ℕ, ◌≤◌}
use native.Mathlib.Omega.{arith}
use mathlib.Core.Path.{◌≡◌, refl, sym, ◌∙◌, ap}
use mathlib.Core.Bool.{true}
use mathlib.Core.List.{List, map}
use lib.ListN.{length, take, drop, length-append, length-drop, length-map}
use Rattle.station.specs.declared.types.Preset.{Preset}
use Rattle.station.specs.declared.types.Head.{Head}
use Rattle.station.specs.declared.types.Refusal.{Refusal}
use Rattle.station.specs.declared.types.Extent.{Extent}
use Rattle.station.specs.declared.types.Fault.{Fault}
use Rattle.std.specs.Prelude.{Result, Ok}
use Rattle.station.specs.Head as meant
use Rattle.station.specs.Text.{lines, join}
use Rattle.station.specs.Writing.{forms_of}
use Rattle.station.specs.Reading.{Reading, accepted, refused, head_of}
use Rattle.station.specs.Types.{head_in, valid_record}
use Rattle.station.specs.ReadHead.{record_of, extent, HeadRead, left_by, head_read}
use Rattle.station.proofs.heads.RoundTrip as by_value
use Rattle.station.specs.WriteHead.{written, answer_in}
use Rattle.station.specs.Entries.{WroteEntry, entry_reading, entry_read}
use Rattle.station.proofs.entries.ListOfRecords.{enough_written, reading_enough, entry_accepted}

-- a list of enough records, into which a head was read, has enough records after it too
left_enough : (x : Reading) (head : Head) (ps : List Preset) {n k : ℕ} → ((h : meant.Head) (m : ℕ) → x ≡ accepted h m → (length h.presets ≤ 32) × (32 ≤ length ps))
    → (head_read x head ps).answer ≡ Ok (extent n k) → (32 ≤ length ps) × (32 ≤ length (head_read x head ps).presets)
left_enough (refused m c) head ps fits e = cc
left_enough (accepted h m) head ps fits e =
    let few = fits h m refl in (
      few.1,
      omega (arith, few.0, few.1, length-append (map record_of h.presets) (drop (length h.presets) ps), length-map h.presets record_of, length-drop (length h.presets) ps),
    )

-- An accepted head, read into the list and written from it, has the same bytes: those of the text's first n lines.
pub read_then_written : (text : List ℕ) (head : Head) (before ps : List Preset) (r : Result Extent Fault) (g : Head) (n k : ℕ) (out after : List ℕ) (w : Result ℕ Refusal)
    → left_by r g ps ≡ entry_read (length before) text head before → r ≡ Ok (extent n k) → 8192 ≤ length out → WroteEntry (length ps) g ps out w after
    → (answer_in w ≡ written k) × (take k after ≡ join (take n (lines text)))
read_then_written text head before ps r g n k out after w e a long wrote =
    let x = entry_reading (length before) text in
    let enough = left_enough x head before (entry_accepted (length before) text) (sym (ap (λ (q : HeadRead). q.answer) e) ∙ a) in
    let whole : left_by r g ps ≡ head_read (head_of text) head before = e ∙ ap (λ (y : Reading). head_read y head before) (reading_enough (length before) text enough.0) in
    let still : 32 ≤ length ps = omega (arith, enough.1, ap (λ (q : HeadRead). length q.presets) e) in
    by_value.read_then_written text head before (left_by r g ps) n k out after w whole a long (enough_written (length ps) g ps out still wrote)

-- A head record that some text yields, written from a list and read into one, is the same head, with as many lines and bytes as its text has.
pub written_then_read : (h : Head) (ps : List Preset) (out after : List ℕ) (w : Result ℕ Refusal) (k : ℕ) (head : Head) (before qs : List Preset) (r : Result Extent Fault) (g : Head)
    → 8192 ≤ length out → 32 ≤ length ps → 32 ≤ length before → valid_record h ps ≡ true → WroteEntry (length ps) h ps out w after → answer_in w ≡ written k
    → left_by r g qs ≡ entry_read (length before) (take k after) head before
    → (r ≡ Ok (extent (length (forms_of (head_in h ps))) k)) × (head_in g qs ≡ head_in h ps)
written_then_read h ps out after w k head before qs r g long enough enough' ok wrote answered e =
    by_value.written_then_read h ps out after w k head before (left_by r g qs) long ok (enough_written (length ps) h ps out enough wrote) answered
    (e ∙ ap (λ (y : Reading). head_read y head before) (reading_enough (length before) (take k after) enough'))
