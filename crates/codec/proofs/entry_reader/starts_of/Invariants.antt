use Rattle.std.proofs.Common.{◌≡◌, length}
use Rattle.std.specs.List.{AllByRecursion}
use Rattle.codec.specs.Journal.{JournalFields, SpellsJournalBy}
use Rattle.codec.specs.Reader.{BeginsAt}
use Rattle.codec.proofs.Starts.{Scanned}
use Rattle.codec.proofs.entry_reader.starts_of.Given as goal

abbrev pub invariant-loop : goal.invariant-loop
invariant-loop l = record {
  scanned : (j : JournalFields) → SpellsJournalBy l.version l.block j → Scanned l.version l.block j l.starts.items l.at l.counter;
  there : AllByRecursion (BeginsAt l.version l.block) l.starts.items;
  len : length l.starts.items ≡ l.counter;
}
