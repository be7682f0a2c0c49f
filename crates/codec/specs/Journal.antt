-- A journal block: entries of one object, the oldest first, and the way to the object's earlier ones; and how it is encoded.
use Rattle.std.specs.Prelude.{◌≡◌, ℕ, ◌-◌, ◌^◌, ◌<◌, Bool, true, List, ◌∷◌, ◌++◌, length, Option, Some, None, nat_lt, nat_le, ◌==◌, ◌&&◌, if◌then◌else◌}
use Rattle.std.specs.Int.{w16, w64}
use Rattle.std.specs.List.{flat_map, AllByRecursion}
use Rattle.s4_types.specs.declared.limits.TheConstants.{JOURNAL_ENTRY_BYTES, JOURNAL_ENTRIES}
use Rattle.s4_types.specs.Pointer.{Place}
use Rattle.codec.specs.Fields.{◌>>=◌, number, zeros, slot, kept, byte_at, number_at, zeros_at, mark_at, slot_at, many_at, all_of}
use Rattle.codec.specs.Checkpoint.{IsSlot}
use Rattle.codec.specs.Entry.{EntryFields, IsEntryBy, entry_spelling_by, entry_at_by, entries_length, entries_length_by}
use Rattle.codec.specs.declared.versions.ImageVersion.{ImageVersion}
use Rattle.codec.specs.declared.versions.ImageVersion.TheVariants.{Second}

-- an object, the pointer to its previous journal block or a hole, and entries, the oldest first
pub record JournalFields : Type 0 where
  pub object : ℕ
  pub previous : Option Place
  pub entries : List EntryFields

-- the rules of a journal block: it is of an object, has an entry, and its entries fit
unfoldable pub journal_rules : JournalFields → Bool
journal_rules j = nat_le 1 j.object && (nat_le 1 (length j.entries) && nat_le (entries_length j.entries) JOURNAL_ENTRY_BYTES)

-- the same in an image of a version
unfoldable pub journal_rules_by : ImageVersion → JournalFields → Bool
journal_rules_by version j =
    nat_le 1 j.object && (nat_le 1 (length j.entries) && nat_le (entries_length_by version j.entries) JOURNAL_ENTRY_BYTES)

-- the numbers of a journal block are in their ranges, and each entry has an encoding in an image of a version
pub record JournalNumbersBy (version : ImageVersion) (j : JournalFields) : Type 0 where
  pub object : j.object < 2 ^ 64
  pub previous : IsSlot j.previous
  pub entries : AllByRecursion (IsEntryBy version) j.entries

-- the numbers of a journal block are in their ranges, and each entry has an encoding
abbrev pub JournalNumbers : JournalFields → Type 0
JournalNumbers j = JournalNumbersBy Second j

-- the journal block has an encoding in an image of a version
abbrev pub IsJournalBy : ImageVersion → JournalFields → Type 0
IsJournalBy version j = (journal_rules_by version j ≡ true) × JournalNumbersBy version j

-- the journal block has an encoding
abbrev pub IsJournal : JournalFields → Type 0
IsJournal j = (journal_rules j ≡ true) × JournalNumbers j

-- the block of a journal in an image of a version
unfoldable pub journal_spelling_by : ImageVersion → JournalFields → List ℕ
journal_spelling_by version j =
    1 ∷ length j.entries ∷ (number w16 (entries_length_by version j.entries) ++ (zeros 4 ++ (number w64 j.object ++ (slot j.previous ++
    (flat_map (entry_spelling_by version) j.entries ++ zeros (JOURNAL_ENTRY_BYTES - entries_length_by version j.entries))))))

-- the block of a journal
unfoldable pub journal_spelling : JournalFields → List ℕ
journal_spelling j = journal_spelling_by Second j

-- the block of an image of a version encodes this journal block
abbrev pub SpellsJournalBy : ImageVersion → List ℕ → JournalFields → Type 0
SpellsJournalBy version block j = IsJournalBy version j × (block ≡ journal_spelling_by version j)

-- the block encodes this journal block
abbrev pub SpellsJournal : List ℕ → JournalFields → Type 0
SpellsJournal block j = IsJournal j × (block ≡ journal_spelling j)

-- this many entries, one after the other: no more than a journal block can have
unfoldable pub entries_at_by : ImageVersion → ℕ → List ℕ → Option (List EntryFields × List ℕ)
entries_at_by version count bytes = if nat_lt JOURNAL_ENTRIES count then None else many_at (entry_at_by version) count bytes

-- a journal block whose entries have the bytes that it tells, and that keeps the rules
unfoldable pub told_journal_by : ImageVersion → ℕ → JournalFields → Option JournalFields
told_journal_by version told j = kept (told == entries_length_by version j.entries && journal_rules_by version j) j

-- reading what comes after the object of a journal block
abbrev pub behind_object : ImageVersion → ℕ → ℕ → ℕ → List ℕ → Option (JournalFields × List ℕ)
behind_object version count told object bytes = do
  previous ← slot_at bytes
  entries ← entries_at_by version count previous.1
  end ← zeros_at (JOURNAL_ENTRY_BYTES - told) entries.1
  made ← told_journal_by version told (record { object = object; previous = previous.0; entries = entries.0 })
  Some (made, end.1)

-- reading a journal block of an image of a version
unfoldable pub journal_at_by : ImageVersion → List ℕ → Option (JournalFields × List ℕ)
journal_at_by version bytes = do
  mark ← mark_at 1 bytes
  count ← byte_at mark.1
  told ← number_at w16 count.1
  gap ← zeros_at 4 told.1
  object ← number_at w64 gap.1
  behind_object version count.0 told.0 object.0 object.1

-- reading a journal block
unfoldable pub journal_at : List ℕ → Option (JournalFields × List ℕ)
journal_at bytes = journal_at_by Second bytes

-- reading an object's journal block, of an image of a version
abbrev pub object_journal_by : ImageVersion → ℕ → List ℕ → Option JournalFields
object_journal_by version object block = all_of (journal_at_by version) block >>= λ j. kept (j.object == object) j
