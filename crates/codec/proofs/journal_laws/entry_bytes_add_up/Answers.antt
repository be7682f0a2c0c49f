use Rattle.codec.proofs.JournalEntries.{entries_append}
use Rattle.codec.proofs.journal_laws.entry_bytes_add_up.Goals as goal

pub returns : goal.returns
returns c = entries_append
