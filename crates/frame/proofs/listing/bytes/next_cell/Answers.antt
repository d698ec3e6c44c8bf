-- `listing::bytes::next_cell` meets its contract, by what the cell holds. Assumes nothing.
use mathlib.Core.Path.{sym, ◌∙◌}
use mathlib.Core.Logic.{inl, inr}
use Rattle.station.specs.Text.{bytes}
use Rattle.placing.specs.Table.{kind_of, number_in}
use Rattle.frame.proofs.listing.bytes.SlotLines.{cell_kind}
use Rattle.frame.proofs.listing.bytes.next_cell.Goals as goal

pub returns-in-Empty : goal.returns-in-Empty
unfolding bytes
returns-in-Empty c = let v = c.args.value in rw (cell_kind (kind_of v) (number_in v), sym c.of.ensures ∙ c.in-Empty.is) c.word.ensures

pub returns-in-Busy : goal.returns-in-Busy
unfolding bytes
returns-in-Busy c = let v = c.args.value in rw (cell_kind (kind_of v) (number_in v), sym c.of.ensures ∙ c.in-Busy.is) c.word-in-Busy.ensures

pub returns-in-Mandatory : goal.returns-in-Mandatory
unfolding bytes
returns-in-Mandatory c = let v = c.args.value in rw (cell_kind (kind_of v) (number_in v), sym c.of.ensures ∙ c.in-Mandatory.is) (rw c.number_in-number.ensures.0 at c.lettered.ensures)

pub returns-in-Optional : goal.returns-in-Optional
unfolding bytes
returns-in-Optional c = let v = c.args.value in rw (cell_kind (kind_of v) (number_in v), sym c.of.ensures ∙ c.in-Optional.is) (rw c.number_in-number.ensures.0 at c.lettered-in-Optional.ensures)

pub returns-in-Call : goal.returns-in-Call
unfolding bytes
returns-in-Call c = let v = c.args.value in
    elim c.in-Call.is [
      | inl e ↦ rw (cell_kind (kind_of v) (number_in v), sym c.of.ensures ∙ e) (rw c.number_in-number.ensures.0 at c.lettered-in-Call.ensures)
      | inr e ↦ rw (cell_kind (kind_of v) (number_in v), sym c.of.ensures ∙ e) (rw c.number_in-number.ensures.0 at c.lettered-in-Call.ensures)
    ]
