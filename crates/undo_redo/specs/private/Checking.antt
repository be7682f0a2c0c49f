-- The entries between two inodes as they are tried, whether or not they can lead there.
use Rattle.std.specs.Prelude.{ℕ, List, Option}
use Rattle.codec.specs.declared.inodes.Inode.{Inode}
use Rattle.codec.specs.Fields.{kept}
use Rattle.codec.specs.Entry.{EntryFields, entry_rules}
use Rattle.undo_redo.specs.Between.{leading_entry, entries_between}

-- The entries of a moment between two inodes. None where the first of them would break a rule of entries.
abbrev pub checked_between : Inode → Inode → ℕ → Option (List EntryFields)
checked_between i j m = kept (entry_rules (leading_entry i j m)) (entries_between i j m)
