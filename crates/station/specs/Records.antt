-- The preset records of a borrowed slice by value, and back. Document 01, "The table": "Presets
-- stand in a lent list of records, in file order." So many presets as 32 a head may have. The
-- entries take the first 32 where they stand. Assumes nothing.
use Rattle.std.specs.Prelude.{ℕ, min, List, ◌++◌, length, take, drop, replicate}
use Rattle.station.specs.Limits.{most_presets}
use Rattle.station.specs.declared.types.Preset.{Preset}
use Rattle.station.specs.Types.{no_record}

-- the first 32 records, and zeros where there are fewer
abbrev pub loaded : List Preset → List Preset
loaded ps = take most_presets (ps ++ replicate most_presets no_record)

-- as many of n records as both a list and the copied have
abbrev pub reach : List Preset → ℕ → ℕ
reach ps n = min (min n most_presets) (length ps)

-- The list with the first n records of the copied at its front, as far as both have them. "Cells
-- past S × B are never changed, nor are records past the last preset": what stands after those is
-- as it was.
abbrev pub saved : List Preset → List Preset → ℕ → List Preset
saved ps copied n = take (reach ps n) copied ++ drop (reach ps n) ps
