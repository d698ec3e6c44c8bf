-- The limits within which the code looks at a frame. Document 01's own, "The frame and its parts" and "Causes", are those of station.
-- Assumes nothing.
use Rattle.std.specs.Prelude.{ℕ, ◌+◌, Bool, ◌&&◌, [], leb}
use Rattle.station.specs.Limits.{most_slots, most_bridges, most_presets, most_frame_jobs, most_length, least_cells}
use Rattle.station.specs.Types.{head_in}
use Rattle.station.specs.declared.types.Head as record-of-head
use Rattle.placing.specs.Table.{motors}

-- how many numbers there are from 0 to the most bridges: the sums of the longest are kept for as many jobs
abbrev pub capacity_count : ℕ
capacity_count = most_bridges + 1

-- how many presets or jobs are placed at a time, at the most: as many as a frame has jobs
abbrev pub most_placed : ℕ
most_placed = most_frame_jobs

-- how many levels there are for those that still need 0 to as many slots as the longest job
abbrev pub level_count : ℕ
level_count = most_length + 1

-- S and B within their limits, n presets, and no "lent table below 512 cells .. the frame's size regardless"
unfoldable pub sizes_in_limits : ℕ → ℕ → ℕ → ℕ → Bool
sizes_in_limits slots bridges n cells = leb slots most_slots && leb bridges most_bridges && leb n most_presets && leb least_cells cells

-- the motors that the supply of a head record feeds, whatever its presets are
abbrev pub motors_in : record-of-head.Head → ℕ
motors_in head = motors (head_in head [])
