use Rattle.codec.proofs.JournalEntries.{spelling_length}
use Rattle.codec.proofs.journal_laws.a_journal_is_one_block.Goals as goal

pub returns : goal.returns
returns c = spelling_length
