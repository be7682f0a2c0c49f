use Rattle.codec.proofs.JournalLaws.{journal_field}
use Rattle.codec.proofs.Whole.{all_exact}
use Rattle.codec.proofs.journal_laws.a_journal_is_read.Goals as goal

pub returns : goal.returns
returns c = (all_exact journal_field).again
