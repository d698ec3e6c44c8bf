-- The limits. Document 01, "The frame and its parts", its table, and "Causes": how long what is
-- lent has to be; document 02, 2026-03. Each is said here alone, in the code by the constant of the
-- same name of src/limits.rt. They compute: a law may speak of their values. Assumes nothing.
use Rattle.std.specs.Prelude.{ℕ}

-- "S: from 1 to 64"; a mask has a bit for each slot
abbrev pub most_slots : ℕ
most_slots = 64

-- "B: from 1 to 8"; a head has a mask for each bridge
abbrev pub most_bridges : ℕ
most_bridges = 8

-- "`(supply k)`, k from 1 to 8"
abbrev pub most_motors : ℕ
most_motors = 8

-- "presets: from 0 to 32"
abbrev pub most_presets : ℕ
most_presets = 32

-- "priority: from 0 to 9", 0 being the best
abbrev pub worst_priority : ℕ
worst_priority = 9

-- "m, o: from 0 to 64"
abbrev pub most_mandatory : ℕ
most_mandatory = 64

abbrev pub most_optional : ℕ
most_optional = 64

-- "jobs in a call: from 1 to 8"
abbrev pub most_jobs : ℕ
most_jobs = 8

-- "jobs in a frame: from 0 to 64"
abbrev pub most_frame_jobs : ℕ
most_frame_jobs = 64

-- "c: from 1 to 64"
abbrev pub most_length : ℕ
most_length = 64

-- "preset or job number: from 1 to 255"
abbrev pub most_number : ℕ
most_number = 255

-- "text in bytes: from 0 to 32,768"
abbrev pub most_bytes : ℕ
most_bytes = 32768

-- "lent table below 512 cells, preset list below 32 records, or output below 8,192 bytes, the
-- frame's size regardless"
abbrev pub least_cells : ℕ
least_cells = 512

abbrev pub least_records : ℕ
least_records = 32

abbrev pub least_output : ℕ
least_output = 8192
