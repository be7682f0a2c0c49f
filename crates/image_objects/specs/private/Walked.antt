-- A chain as it is walked back from its head, block by block.
use Rattle.std.specs.Prelude.{ℕ, zero, suc, ◌+◌, ◌&&◌, nat_lt, nat_le, Bool, List, [], ◌++◌, length, reverse, Option, Some, None}
use Rattle.s4_types.specs.declared.limits.TheConstants.{JOURNAL_ENTRY_BYTES}
use Rattle.s4_types.specs.Pointer.{Place}
use Rattle.codec.specs.Fields.{◌>>=◌, kept}
use Rattle.codec.specs.Entry.{EntryFields, entries_length_by}
use Rattle.codec.specs.declared.versions.ImageVersion.{ImageVersion}
use Rattle.codec.specs.Journal.{JournalFields}
use Rattle.image_objects.specs.Versions.{first_length_by}

-- These are the entries of a block, and an entry of this many bytes doesn't fit after them.
unfoldable pub stands_before : ImageVersion → ℕ → List EntryFields → Bool
stands_before version size entries =
    nat_lt 0 (length entries)
    && (nat_le (entries_length_by version entries) JOURNAL_ENTRY_BYTES && nat_lt JOURNAL_ENTRY_BYTES (entries_length_by version entries + size))

-- The entries of the blocks from a place on, oldest first, where an entry of this many bytes doesn't fit after the first of
-- these blocks, and no block's first entry after the block before it. None where a place has no block, where entries would
-- fit, and where this many blocks don't reach the hole.
unfoldable pub walked : ImageVersion → ℕ → (Place → Option JournalFields) → ℕ → Option Place → Option (List EntryFields)
walked version left blocks size None = Some []
walked version zero blocks size (Some p) = None
walked version (suc left) blocks size (Some p) = do
  block ← blocks p
  entries ← kept (stands_before version size block.entries) block.entries
  older ← walked version left blocks (first_length_by version entries) block.previous
  Some (older ++ entries)

-- The entries that a walk reaches with this many blocks more, oldest first: it has read the newest blocks, where the block
-- before them stands and how many bytes the first entry of the block read last has, and all their entries, the newest first.
unfoldable pub reached : ImageVersion → ℕ → (Place → Option JournalFields) → ℕ → Option Place → List EntryFields → Option (List EntryFields)
reached version left blocks size previous entries = walked version left blocks size previous >>= λ older. Some (older ++ reverse entries)
