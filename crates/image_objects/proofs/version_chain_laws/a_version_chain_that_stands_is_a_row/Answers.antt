use Rattle.image_objects.proofs.Keeping.{is_row, is_orderly}
use Rattle.image_objects.proofs.version_chain_laws.a_version_chain_that_stands_is_a_row.Goals as goal

pub returns-clause-row : goal.returns-clause-row
returns-clause-row c = is_row c.one_place_has_one_name.ensures (record { told = c.a_checkpoint_is_in_its_blocks.ensures.same; places = c.a_checkpoint_is_in_its_blocks.ensures.places }) c.one_packing_keeps_the_rule.ensures c.a_chain_is_in_its_journal_blocks.ensures.entries

pub returns-clause-order : goal.returns-clause-order
returns-clause-order c = is_orderly c.one_place_has_one_name.ensures (record { told = c.a_checkpoint_is_in_its_blocks.ensures.same; places = c.a_checkpoint_is_in_its_blocks.ensures.places }) c.one_packing_keeps_the_rule.ensures c.a_chain_is_in_its_journal_blocks.ensures.entries
