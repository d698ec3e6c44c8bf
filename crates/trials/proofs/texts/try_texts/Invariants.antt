-- `texts::try_texts` is safe and ends. The measure: what is left of the input.
use Rattle.std.proofs.Common.{length}
use Rattle.trials.proofs.texts.try_texts.Given as goal

abbrev pub decreases-loop-end : goal.decreases-loop-end
decreases-loop-end g l = length l.rest
