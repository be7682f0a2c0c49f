use Rattle.codec.proofs.JournalLaws.{journal_field}
use Rattle.codec.proofs.Whole.{all_exact, found_all, only_all}
use Rattle.codec.proofs.journal_reading.decode_journal.Goals as goal

pub returns-clause-found : goal.returns-clause-found
returns-clause-found c = found_all (all_exact journal_field) c.args.block.now c.block_in.result c.fits-block c.block_in.ensures

pub returns-clause-only : goal.returns-clause-only
returns-clause-only c = only_all (all_exact journal_field) c.args.block.now c.block_in.result c.block_in.ensures
