use Rattle.version_store.proofs.Tallies.{counts_are_of_rows}
use Rattle.version_store.proofs.laws.counts_are_of_rows.Goals as goal

pub returns : goal.returns
returns c = counts_are_of_rows c.one_place_has_one_name.ensures c.a_checkpoint_is_in_its_blocks.ensures.held c.a_checkpoint_is_in_its_blocks.ensures.once c.a_checkpoint_is_in_its_blocks.ensures.apart
