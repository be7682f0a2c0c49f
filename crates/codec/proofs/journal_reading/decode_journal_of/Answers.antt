use Rattle.codec.proofs.JournalLaws.{rules_of_one}
use Rattle.codec.proofs.journal_reading.decode_journal_of.Goals as goal

pub returns-clause-rules : goal.returns-clause-rules
returns-clause-rules c = rules_of_one c.args.version c.args.block.now c.args.object c.reader_of.result c.fits-block c.reader_of.ensures
