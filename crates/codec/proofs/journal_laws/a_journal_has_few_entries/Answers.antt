use Rattle.codec.proofs.JournalEntries.{rules_say}
use Rattle.codec.proofs.Lengths.{fourteen}
use Rattle.codec.proofs.journal_laws.a_journal_has_few_entries.Goals as goal

pub returns : goal.returns
returns c = λ j e. ((rules_say j e).some, fourteen j.entries (rules_say j e).fit)
