-- The round trips of demand 2 as consequences of the two contracts, so that they speak of the code: `read_head_by_value` and `write_head_by_value` are inverse.
--
-- In order: what writing a valid record leaves; a head read and written has the same bytes (`read_then_written`); a head written and read is the same head (`written_then_read`).
-- Assumes nothing.
use Prim.Native.Nat.{ℕ, ◌≤◌}
use native.Mathlib.Omega.{arith}
use mathlib.Core.Path.{◌≡◌, refl, sym, ◌∙◌, ap}
use mathlib.Core.Bool.{true}
use mathlib.Core.List.{List, ◌++◌}
use lib.ListN.{length, take, drop}
use lib.Seq.{take_at}
use lib.Dec.{leb}
use Rattle.std.specs.Prelude.{Result, Ok}
use Rattle.laws.proofs.Tests.{both}
use Rattle.laws.proofs.Comparisons.{ltb_no, leb_yes}
use Rattle.station.specs.declared.types.Preset.{Preset}
use Rattle.station.specs.declared.types.Head.{Head}
use Rattle.station.specs.declared.types.Refusal.{Refusal}
use Rattle.station.specs.Head.{valid}
use Rattle.station.specs.Refusal.{first_of}
use Rattle.station.specs.Text.{lines, join}
use Rattle.station.specs.Writing.{forms_of, text_of}
use Rattle.station.specs.Reading.{head_of}
use Rattle.station.specs.Types.{head_in, valid_record}
use Rattle.station.specs.ReadHead.{extent, HeadRead, head_read}
use Rattle.station.specs.WriteHead.{written, answer_in, write_answer, write_output, WroteHead}
use Rattle.station.proofs.ValidHead.{of_valid}
use Rattle.station.proofs.Writing.{read_written}
use Rattle.station.proofs.WrittenRead.{written_read}
use Rattle.station.proofs.heads.LineLoop.{read_accepted, head_back}
use Rattle.station.proofs.check.ValidRecord.{valid_head}

-- a valid record is written: its text, and its length
module _ (h : Head) (ps : List Preset) (out after : List ℕ) (w : Result ℕ Refusal) (long : 8192 ≤ length out) (ok : valid_record h ps ≡ true)
    (wrote : WroteHead h ps out w after) where
  text_answer : answer_in w ≡ written (length (text_of (head_in h ps)))
  unfolding write_answer first_of
  text_answer = wrote.answer ∙ (rw (ltb_no (length out) 8192 long, ok) refl)

  text_output : take (length (text_of (head_in h ps))) after ≡ text_of (head_in h ps)
  unfolding write_output first_of
  text_output =
      let whole : after ≡ text_of (head_in h ps) ++ drop (length (text_of (head_in h ps))) out = wrote.output ∙ (rw (ltb_no (length out) 8192 long, ok) refl) in
      rw whole (take_at (text_of (head_in h ps)) (drop (length (text_of (head_in h ps))) out) (length (text_of (head_in h ps))) refl)

-- An accepted head, read and written, has the same bytes: those of the text's first n lines.
pub read_then_written : (text : List ℕ) (head : Head) (old : List Preset) (r : HeadRead) (n k : ℕ) (out after : List ℕ) (w : Result ℕ Refusal)
    → r ≡ head_read (head_of text) head old → r.answer ≡ Ok (extent n k) → 8192 ≤ length out → WroteHead r.head r.presets out w after
    → (answer_in w ≡ written k) × (take k after ≡ join (take n (lines text)))
read_then_written text head old r n k out after w e a long wrote =
    let read = read_accepted text head old r n k e a in
    let few : r.head.count ≤ 32 = omega (arith, read.count, read.valid.number_of_presets) in
    let ok : valid_record r.head r.presets ≡ true =
    both (leb r.head.count 32) (valid (head_in r.head r.presets)) (leb_yes r.head.count 32 few) (of_valid (head_in r.head r.presets) read.valid) in (
      text_answer r.head r.presets out after w long ok wrote ∙ ap written (sym read.bytes),
      ap (λ (m : ℕ). take m after) read.bytes
          ∙ text_output r.head r.presets out after w long ok wrote
          ∙ read_written text (head_in r.head r.presets) n read.reads,
    )

-- A head record that some text yields, written and read, is the same head, with as many lines and bytes as its text has.
pub written_then_read : (h : Head) (ps : List Preset) (out after : List ℕ) (w : Result ℕ Refusal) (k : ℕ) (head : Head) (old : List Preset) (r : HeadRead)
    → 8192 ≤ length out → valid_record h ps ≡ true → WroteHead h ps out w after → answer_in w ≡ written k → r ≡ head_read (head_of (take k after)) head old
    → (r.answer ≡ Ok (extent (length (forms_of (head_in h ps))) k)) × (head_in r.head r.presets ≡ head_in h ps)
written_then_read h ps out after w k head old r long ok wrote answered e =
    let size : k ≡ length (text_of (head_in h ps)) = written_one (sym answered ∙ text_answer h ps out after w long ok wrote) in
    let text : take k after ≡ text_of (head_in h ps) = ap (λ (m : ℕ). take m after) size ∙ text_output h ps out after w long ok wrote in
    let reads = ap head_of text ∙ written_read (head_in h ps) (valid_head h ps ok) in
    let whole = e ∙ ap (λ x. head_read x head old) reads in (
      ap (λ (x : HeadRead). x.answer) whole ∙ ap (λ (m : ℕ). Ok (extent (length (forms_of (head_in h ps))) m)) (sym size),
      ap (λ (x : HeadRead). head_in x.head x.presets) whole ∙ head_back (head_in h ps) old,
    )
  where
    written_one : {m n : ℕ} → written m ≡ written n → m ≡ n
    written_one q = cc
