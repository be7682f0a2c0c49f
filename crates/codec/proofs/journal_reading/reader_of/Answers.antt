use Rattle.std.proofs.Common.{sym}
use Rattle.codec.specs.Fields.{all_of}
use Rattle.codec.specs.Journal.{journal_at_by}
use Rattle.codec.proofs.JournalLaws.{of_object, another_object}
use Rattle.codec.proofs.journal_reading.reader_of.Goals as goal

pub returns-then-not-is_of : goal.returns-then-not-is_of
returns-then-not-is_of c = another_object (all_of (journal_at_by c.args.version) c.args.block.now) c.in-Some.read c.args.object c.in-Some.ensures (sym c.if-not-is_of.ensures)

pub returns : goal.returns
returns c = of_object (all_of (journal_at_by c.args.version) c.args.block.now) c.in-Some.read c.by.result c.args.object c.in-Some.ensures c.by.ensures.reads (sym c.if-not-is_of.ensures)
