use Rattle.std.proofs.Common.{sym, arith}
use Rattle.std.proofs.lemmas.Grind.{common_steps}
use Rattle.std.proofs.lemmas.List.{append-nil}
use Rattle.codec.proofs.JournalEntries.{entries_none, entries_next}
use Rattle.codec.proofs.journal_writing.put_entries.Goals as goal

pub loop-entry-init : goal.loop-entry-init
loop-entry-init c = record {
  items = sym (append-nil c.args.out.now.items);
  len = omega (arith, entries_none);
  room = c.requires;
  spelled = tt;
}

pub loop-entry-preserved : goal.loop-entry-preserved
loop-entry-preserved c = record {
  items = grind (arith, common_steps);
  len = omega (arith, entries_next c.loop-entry.entry-index c.args.entries.now c.entry-item.result c.loop-entry-test.true c.entry-item.is, c.encode_entry.ensures.len, c.loop-entry.invariant.len);
  room = c.loop-entry.invariant.room;
  spelled = grind (arith, common_steps);
}
