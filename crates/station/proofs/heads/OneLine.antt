-- Laws for the functions that hold one line of a head against what the lines before it make.
--
-- In order: numbers as they are read (`seen_ltb`, `seen_small`); the numbers in use (`used_any`); records and presets are each other's (`records_back`, `presets_back`).
-- What a step means for the reading is in heads/StepMeaning.antt, the loop over the lines in heads/LineLoop.antt.
-- Assumes nothing.
use Prim.Native.Nat.{ℕ, ◌≤◌, ◌<◌}
use native.Mathlib.Omega.{arith}
use mathlib.Core.Path.{◌≡◌, refl, ap}
use mathlib.Core.List.{List, [], ◌∷◌, map}
use lib.Dec.{ltb, eqb}
use Rattle.std.specs.List.{list_any}
use Rattle.laws.proofs.Tests.{test_ext}
use Rattle.laws.proofs.Comparisons.{lt_of, ltb_yes}
use Rattle.station.specs.declared.types.Preset.{Preset}
use Rattle.station.specs.Head as meant
use Rattle.station.specs.Head.{has_number}
use Rattle.station.specs.Types.{preset_in}
use Rattle.station.specs.ReadHead.{record_of}
use Rattle.station.specs.Jobs.{seen}

-- ---- numbers as they are read

pub seen_ltb : (v k : ℕ) → k < 65535 → ltb (seen v) k ≡ ltb v k
seen_ltb v k h =
    test_ext (ltb (seen v) k) (ltb v k) (λ e. ltb_yes v k (omega (arith, lt_of (seen v) k e))) (λ e. ltb_yes (seen v) k (omega (arith, lt_of v k e)))

-- a value that passes a limit is read as it is
pub seen_small : (v k : ℕ) → k < 65535 → v ≤ k → seen v ≡ v
seen_small v k h l = omega arith

-- ---- the numbers in use

pub used_any : (n : ℕ) (ps : List Preset) → has_number n (map preset_in ps) ≡ list_any (λ (p : Preset). eqb n p.number) ps
unfolding has_number
used_any n [] = refl
used_any n (p ∷ ps) = rw (used_any n ps) refl

-- ---- records and presets are each other's

pub records_back : (l : List Preset) → map record_of (map preset_in l) ≡ l
records_back [] = refl
records_back (p ∷ l) = ap (λ (k : List Preset). p ∷ k) (records_back l)

pub presets_back : (l : List meant.Preset) → map preset_in (map record_of l) ≡ l
presets_back [] = refl
presets_back (p ∷ l) = ap (λ (k : List meant.Preset). p ∷ k) (presets_back l)
