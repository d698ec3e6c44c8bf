-- `presets::set_preset` meets its contract: each byte goes to its place. Assumes nothing.
use Prim.Native.Nat.{◌*◌}
use Rattle.planner.proofs.Steps.{record_written}
use Rattle.planner.proofs.presets.set_preset.Goals as goal

pub returns : goal.returns
returns c = let a = c.args in
    record_written a.given a.presets.now (4 * a.i) c.set_value.ensures c.set_value-2.ensures c.set_value-3.ensures c.set_value-4.ensures
