use Rattle.journal_chain.proofs.Pushing.{kept_none, kept_fits, kept_begins}
use Rattle.journal_chain.proofs.packing.laws.a_push_keeps_older_blocks.Goals as goal

pub returns : goal.returns
returns c = record { none = kept_none; fits = kept_fits; begins = kept_begins }
