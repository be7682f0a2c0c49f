-- A journal block that is read from its last entry to its first: where its entries begin, and those that are left.
use Rattle.std.specs.Prelude.{ℕ, ◌<◌, List, [], length, drop, Some, None, IsSome, unwrap_or}
use Rattle.std.specs.List.{flat_map}
use Rattle.std.specs.Option.{option_to_list}
use Rattle.codec.specs.Fields.{◌>>=◌, all_of}
use Rattle.codec.specs.Entry.{EntryFields, entry_at_by}
use Rattle.codec.specs.Journal.{JournalFields, journal_at_by}
use Rattle.codec.specs.declared.versions.ImageVersion.{ImageVersion}

-- the entry of an image of a version that begins at this byte of the block, if one does
abbrev pub entry_in : ImageVersion → List ℕ → ℕ → List EntryFields
entry_in version block start = option_to_list (entry_at_by version (drop start block) >>= λ x. Some x.0)

-- the entries that begin at these bytes
abbrev pub entries_begun_at : ImageVersion → List ℕ → List ℕ → List EntryFields
entries_begun_at version block starts = flat_map (entry_in version block) starts

-- an entry begins at this byte of the block
abbrev pub BeginsAt : ImageVersion → List ℕ → ℕ → Type 0
BeginsAt version block start = (start < length block) × IsSome (entry_at_by version (drop start block))

-- the object of the journal block that bytes of an image of a version encode; of bytes that encode none, nothing is said
unfoldable pub object_decoded : ImageVersion → List ℕ → ℕ
object_decoded version bytes = unwrap_or (all_of (journal_at_by version) bytes >>= λ j. Some j.object) 0
