-- Laws of the records that are read into the copied and written back.
--
-- In order: a list read, its records and zeros after them (`loaded_front`), and one of 32 records
-- or more (`loaded_whole`); records that were read and are written back (`saved_loaded`); records
-- written over the first of those read (`saved_over`).
-- Assumes nothing.
use Prim.Native.Nat.{ℕ, ◌≤◌, min}
use native.Mathlib.Omega.{arith}
use mathlib.Core.Path.{◌≡◌, sym, ◌∙◌, ap}
use mathlib.Core.List.{List, ◌++◌, append-nil, append_assoc}
use lib.ListN.{length, take, drop, replicate, length-append, length-take, length-drop, take-append-drop}
use lib.Seq.{take_all, take-take, take-append-le, drop-append-le}
use Rattle.std.proofs.lemmas.List.{same_lists, places}
use Rattle.station.specs.declared.types.Preset.{Preset}
use Rattle.station.specs.Types.{no_record}
use Rattle.station.specs.Records.{loaded, reach, saved}

-- the first n of 32 records read, zeros after them
abbrev pub loading : List Preset → ℕ → List Preset
loading ps n = take n (ps ++ replicate 32 no_record) ++ drop n (replicate 32 no_record)

-- all 32
pub loading_all : (ps : List Preset) → loading ps 32 ≡ loaded ps
loading_all ps = append-nil (loaded ps)

-- as many of a list as it has, up to m, and a default after them: the first m of the list with
-- that default after it
front_padded : {A : Type 0} (x : A) (l : List A) (m n : ℕ) → n ≡ min (length l) m → take n l ++ drop n (replicate m x) ≡ take m (l ++ replicate m x)
front_padded x l m n e = same_lists _ _ (grind (arith, places)) (λ k d h. grind (arith, places))

-- a list of any length, its records and zeros after them
pub loaded_front : (ps : List Preset) (n : ℕ) → n ≡ min (length ps) 32 → take n ps ++ drop n (replicate 32 no_record) ≡ loaded ps
loaded_front ps n e = front_padded no_record ps 32 n e

-- a list of 32 records or more has no zeros put to it
pub loaded_whole : (ps : List Preset) → 32 ≤ length ps → loaded ps ≡ take 32 ps
loaded_whole ps l = take-append-le 32 ps (replicate 32 no_record) l

-- what was read and is written back changes nothing
pub saved_loaded : (ps : List Preset) (n : ℕ) → saved ps (loaded ps) n ≡ ps
saved_loaded ps n =
    let m = reach ps n in
    ap (λ (l : List Preset). l ++ drop m ps) (take-take m 32 (ps ++ replicate 32 no_record) (omega arith) ∙ take-append-le m ps (replicate 32 no_record) (omega arith)) ∙ take-append-drop m ps

-- other records in front of what was read: past them the list is as it was
pub saved_over : (ps rs : List Preset) → length rs ≤ 32 → 32 ≤ length ps → saved ps (rs ++ drop (length rs) (loaded ps)) 32 ≡ rs ++ drop (length rs) ps
saved_over ps rs few long =
    let all : reach ps 32 ≡ 32 = omega (arith, long) in
    let part : drop (length rs) (take 32 ps) ++ drop 32 ps ≡ drop (length rs) ps =
    sym (drop-append-le (length rs) (take 32 ps) (drop 32 ps) (omega (arith, few, long, length-take 32 ps))) ∙ ap (drop (length rs)) (take-append-drop 32 ps) in
    rw (all, loaded_whole ps long, take_all 32 (rs ++ drop (length rs) (take 32 ps)) (omega (arith, few, length-append rs (drop (length rs) (take 32 ps)), length-drop (length rs) (take 32 ps), length-take 32 ps)))
    (append_assoc rs (drop (length rs) (take 32 ps)) (drop 32 ps) ∙ ap (λ (l : List Preset). rs ++ l) part)
