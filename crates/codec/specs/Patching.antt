-- A journal block that is kept as its bytes, and the block with one entry more.
use Rattle.std.specs.Prelude.{ℕ, List, [], ◌∷◌, ◌++◌, None, unwrap_or}
use Rattle.codec.specs.Fields.{all_of}
use Rattle.codec.specs.Entry.{EntryFields}
use Rattle.codec.specs.Journal.{JournalFields, journal_at}

-- the journal block that bytes encode; of bytes that encode none, nothing is said
unfoldable pub decoded : List ℕ → JournalFields
decoded bytes = unwrap_or (all_of journal_at bytes) (record { object = 0; previous = None; entries = [] })

-- the block with an entry after its others
abbrev pub with_entry : JournalFields → EntryFields → JournalFields
with_entry j e = record { object = j.object; previous = j.previous; entries = j.entries ++ e ∷ [] }
