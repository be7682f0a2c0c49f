use Rattle.std.proofs.Common.{◌≡◌, ℕ, List, Option, drop}
use Rattle.std.specs.List.{flat_map}
use Rattle.std.specs.Option.{option_to_list}
use Rattle.s4_types.specs.Pointer.{Place}
use Rattle.block_log.specs.Taken.{TakesPlaces}
use Rattle.codec.specs.Entry.{EntryFields}
use Rattle.journal_chain.specs.Chain.{OnlyJournalChanged}
use Rattle.journal_chain.specs.Writing.{Finished}
use Rattle.journal_chain.proofs.rewriting.drop_all.Given as goal

abbrev pub invariant-loop-place : goal.invariant-loop-place
invariant-loop-place g l =
    let log = g.B.Blocks.log in
    record {
      finished : (o : ℕ) (head : Option Place) (entries : List EntryFields) → Finished (log l.initial.table).held o (flat_map option_to_list l.places) head entries
          → Finished (log l.table).held o (flat_map option_to_list (drop l.place-index l.places)) head entries;
      others : (o : ℕ) (head : Option Place) (entries : List EntryFields) → Finished (log l.initial.table).held o (flat_map option_to_list l.places) head entries
          → OnlyJournalChanged o (log l.initial.table).held (log l.table).held;
      named : (o : ℕ) (head : Option Place) (entries : List EntryFields) → Finished (log l.initial.table).held o (flat_map option_to_list l.places) head entries
          → (log l.table).named ≡ (log l.initial.table).named;
      takes : TakesPlaces 0 (log l.initial.table) (log l.table);
    }
