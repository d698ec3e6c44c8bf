-- `write::busy_line` meets its contract. Assumes nothing.
use mathlib.Core.Path.{◌≡◌, ap, ◌∙◌}
use mathlib.Core.Option.{none}
use Rattle.station.specs.Text.{bytes}
use Rattle.station.specs.Writing.{stretches}
use Rattle.station.proofs.Stretches.{stretches_zero}
use Rattle.station.proofs.write.MaskRuns.{busy_text}
use Rattle.station.proofs.output.Runs.{writes_none, writes_then}
use Rattle.station.proofs.write.busy_line.Goals as goal

pub returns-then-mask-eq0 : goal.returns-then-mask-eq0
returns-then-mask-eq0 c = let a = c.args in
    let e : stretches 64 1 a.mask ≡ none = ap (stretches 64 1) c.if-mask-eq0.true ∙ stretches_zero 64 1 in
    rw e (writes_none a.out.now)

pub returns : goal.returns
unfolding bytes
returns c = rw (busy_text c.args.bridge c.args.mask c.ranges.mask.fits c.if-mask-eq0.false)
    (writes_then c.word.ensures (writes_then c.number.ensures (writes_then c.put.ensures c.stretch_list.ensures)))
