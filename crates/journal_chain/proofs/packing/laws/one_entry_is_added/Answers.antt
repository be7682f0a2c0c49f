use Rattle.journal_chain.proofs.Adding.{first_entry, entry_fits, entry_begins}
use Rattle.journal_chain.proofs.packing.laws.one_entry_is_added.Goals as goal

pub returns : goal.returns
returns c = record { first = first_entry; fits = entry_fits; begins = entry_begins }
