use Rattle.std.proofs.Common.{◌≡◌, ◌≤◌, ◌++◌, List, length, map, take, drop}
use Rattle.s4_types.specs.Pointer.{Place}
use Rattle.block_log.specs.Log.{Log}
use Rattle.block_log.specs.Taken.{TakesPlaces}
use Rattle.codec.specs.Entry.{EntryFields, entry_length, entries_length}
use Rattle.journal_chain.specs.Sizes.{breaks}
use Rattle.journal_chain.specs.Chain.{OnlyJournalChanged}
use Rattle.journal_chain.specs.Writing.{InOrder, Unfinished}
use Rattle.journal_chain.proofs.writing.take_all.Given as goal

abbrev pub invariant-loop-entry : goal.invariant-loop-entry
invariant-loop-entry g l =
    let log = g.B.Blocks.log in
    let o = l.initial.block.object in
    record {
      unfinished : (stale : List Place) (before : List EntryFields) → Unfinished (log l.initial.table).held o stale l.initial.block before
          → Unfinished (log l.table).held o stale l.block (before ++ take l.entry-index l.entries);
      order : (all : List Place) → InOrder o (log l.initial.table) l.initial.block.previous all → InOrder o (log l.table) l.block.previous all;
      others : OnlyJournalChanged o (log l.initial.table).held (log l.table).held;
      named : (log l.table).named ≡ (log l.initial.table).named;
      takes : (after : Log) → TakesPlaces (breaks (entries_length l.block.entries) (map entry_length (drop l.entry-index l.entries))) (log l.table) after
          → TakesPlaces (breaks (entries_length l.initial.block.entries) (map entry_length l.entries)) (log l.initial.table) after;
      room : breaks (entries_length l.block.entries) (map entry_length (drop l.entry-index l.entries)) ≤ length (log l.table).ahead;
      object : l.block.object ≡ o;
      least : 1 ≤ o;
    }
