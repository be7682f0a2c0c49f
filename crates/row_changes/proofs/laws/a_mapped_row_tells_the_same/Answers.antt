use Rattle.row_changes.proofs.Mapped.{row_in_order, row_shows}
use Rattle.row_changes.proofs.laws.a_mapped_row_tells_the_same.Goals as goal

pub returns-clause-order : goal.returns-clause-order
returns-clause-order c = row_in_order c.what_a_row_tells_can_be_written.ensures.first c.what_a_row_tells_can_be_written.ensures.begins c.mapped_entries_stay_in_order.ensures.order

pub returns-clause-shown : goal.returns-clause-shown
returns-clause-shown c = row_shows c.what_a_row_tells_can_be_written.ensures.first c.what_a_row_tells_can_be_written.ensures.begins c.a_mapped_chain_shows_the_same.ensures.chain
