use Rattle.journal_chain.proofs.Staying.{its_entries, same_blocks}
use Rattle.journal_chain.proofs.Tables.{only-trans}
use Rattle.journal_chain.proofs.laws.a_chain_is_in_its_journal_blocks.Goals as goal

pub returns : goal.returns
returns c = record { same = same_blocks; entries = its_entries; twice = only-trans }
