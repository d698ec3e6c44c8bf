-- `counts::mark_presets` meets its contract. The loop's invariant: the presets passed are marked. Assumes nothing.
use Rattle.placing.specs.method.Counts.{MarkedBeside}
use Rattle.placing.specs.method.Records.{record_at}
use Rattle.placing.proofs.counts.mark_presets.Given as goal

abbrev pub invariant-loop-preset : goal.invariant-loop-preset
invariant-loop-preset l = MarkedBeside (λ j. (record_at l.presets j).number) l.initial.used l.preset-index l.used
