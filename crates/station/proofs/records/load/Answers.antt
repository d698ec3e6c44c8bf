-- `load` meets its contract: the list's records and zeros after them. Assumes nothing.
use Rattle.station.proofs.CopiedRecords.{loaded_front}
use Rattle.station.proofs.records.load.Goals as goal

pub returns : goal.returns
returns c = rw c.copy_from_slice.ensures.after (loaded_front c.args.presets.now c.min-n.result c.min-n.ensures)
