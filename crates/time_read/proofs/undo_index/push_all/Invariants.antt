use Rattle.std.proofs.Common.{List, ◌++◌, map, take}
use Rattle.time_read.specs.Undoings.{Undoing, Tells, Extends, undoing_of}
use Rattle.time_read.proofs.undo_index.push_all.Given as goal

abbrev pub invariant-loop-entry : goal.invariant-loop-entry
invariant-loop-entry l = record {
  told : (us : List Undoing) → Tells l.initial.records.items l.initial.pointers l.initial.attributes.items us → Tells l.records.items l.pointers l.attributes.items (us ++ map undoing_of (take l.entry-index l.entries));
  records : Extends l.initial.records.items l.records.items;
  pointers : Extends l.initial.pointers l.pointers;
  attributes : Extends l.initial.attributes.items l.attributes.items;
}
