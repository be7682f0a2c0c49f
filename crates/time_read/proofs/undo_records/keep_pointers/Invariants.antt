use Rattle.std.proofs.Common.{◌≡◌, ◌<◌, ◌++◌, map}
use Rattle.std.specs.Prelude.{reverse}
use Rattle.std.specs.List.{All}
use Rattle.s4_types.specs.declared.limits.TheConstants.{OBJECT_BLOCKS}
use Rattle.time_read.specs.Undoings.{Extends, earlier_of}
use Rattle.time_read.proofs.undo_records.keep_pointers.Given as goal

abbrev pub invariant-loop-triple : goal.invariant-loop-triple
invariant-loop-triple l = record {
  low : All (λ t. t.index < OBJECT_BLOCKS) l.triple-iterator.iter.rest.now;
  kept : l.pointers ++ reverse (map earlier_of l.triple-iterator.iter.rest.now) ≡ l.initial.pointers ++ reverse (map earlier_of l.triples);
  extends : Extends l.initial.pointers l.pointers;
}
