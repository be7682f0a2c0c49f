use Rattle.std.proofs.Common.{◌≡◌, ◌++◌, List, drop}
use Rattle.codec.specs.Entry.{EntryFields}
use Rattle.time_read.specs.Presents.{IsIndexOf}
use Rattle.time_read.proofs.presents.lengthen.Given as goal

abbrev pub invariant-loop-entry : goal.invariant-loop-entry
invariant-loop-entry l = record {
  told : (older : List EntryFields) → IsIndexOf l.initial.index older → IsIndexOf l.index (older ++ l.yielded);
  whole : drop 1 l.entries ≡ l.yielded ++ l.entry-iterator;
}
