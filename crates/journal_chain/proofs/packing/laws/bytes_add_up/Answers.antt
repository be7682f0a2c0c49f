use Rattle.codec.proofs.JournalEntries.{entries_append}
use Rattle.journal_chain.proofs.Adding.{bytes-sum}
use Rattle.journal_chain.proofs.packing.laws.bytes_add_up.Goals as goal

pub returns : goal.returns
returns c = record { joined = entries_append; sizes = bytes-sum }
