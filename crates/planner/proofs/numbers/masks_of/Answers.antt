-- `numbers::masks_of` meets its contract. The invariant: the masks passed are those read, and there are eight. Assumes nothing.
use Rattle.std.proofs.Common.{arith, sym, ◌∙◌, get_or, ◌+◌}
use Rattle.std.proofs.lemmas.List.{ext_get_or}
use Rattle.laws.proofs.Lists.{length_tabulate, at_tabulate}
use Rattle.planner.specs.Layout.{head_of_numbers}
use Rattle.planner.proofs.numbers.masks_of.Goals as goal

pub returns : goal.returns
returns c = let l = c.loop-b in
    let t = c.args.frame.now in
    ext_get_or 0 l.busy (head_of_numbers t).busy
    (l.invariant.0 ∙ sym (length_tabulate 8 (λ b. get_or t (4 + b) 0)))
    (λ k h. l.invariant.1 k (omega (arith, l.invariant.0)) ∙ sym (at_tabulate 8 (λ b. get_or t (4 + b) 0) k (omega (arith, l.invariant.0))))
