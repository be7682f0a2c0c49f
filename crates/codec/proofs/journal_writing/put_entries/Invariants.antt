use Rattle.std.proofs.Common.{◌≡◌, ◌≤◌, ◌++◌, ◌+◌, length, take}
use Rattle.std.specs.List.{flat_map, AllByRecursion}
use Rattle.codec.specs.Entry.{IsEntry, entry_spelling, entries_length}
use Rattle.codec.proofs.journal_writing.put_entries.Given as goal

abbrev pub invariant-loop-entry : goal.invariant-loop-entry
invariant-loop-entry l = record {
  items : l.out.items ≡ l.initial.out.items ++ flat_map entry_spelling (take l.entry-index l.entries);
  len : length l.out.items ≡ length l.initial.out.items + entries_length (take l.entry-index l.entries);
  room : length l.initial.out.items + entries_length l.entries ≤ 512;
  spelled : AllByRecursion IsEntry (take l.entry-index l.entries);
}
