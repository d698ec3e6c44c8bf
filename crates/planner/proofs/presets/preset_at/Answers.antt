-- `presets::preset_at` meets its contract: each byte is read at its place. Assumes nothing.
use mathlib.Core.Path.{refl}
use Rattle.planner.proofs.presets.preset_at.Goals as goal

pub returns : goal.returns
returns c = rw (c.value_at.ensures, c.value_at-2.ensures, c.value_at-3.ensures, c.value_at-4.ensures) refl
