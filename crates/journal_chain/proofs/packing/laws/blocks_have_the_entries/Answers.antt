use Rattle.journal_chain.proofs.Adding.{joined-packed, joined-added}
use Rattle.journal_chain.proofs.packing.laws.blocks_have_the_entries.Goals as goal

pub returns : goal.returns
returns c = record { packed = joined-packed; added = joined-added }
