-- `exports::planner_listing` meets its contract: the listing is that of `write_listing`, and its answer is two numbers. Assumes nothing.
use mathlib.Core.Path.{◌∙◌}
use Rattle.planner.proofs.WholeListing.{listing_leaves, listing_whole}
use Rattle.planner.proofs.exports.planner_listing.Goals as goal

pub returns : goal.returns
returns c = let a = c.args in
    let listed = c.write_listing-listed in
    let bytes = c.returned.ensures.count ∙ c.written.ensures.count in record {
      done = listing_leaves a.text.now a.table.now a.out.now listed.result bytes listed.ensures.done (c.returned.ensures.number ∙ c.written.ensures.number);
      whole = listing_whole a.text.now a.table.now a.out.now listed.result bytes listed.ensures.whole;
    }
