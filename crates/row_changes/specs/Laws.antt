-- What holds of rows that change, and is a clause of a function with an empty body.
use Rattle.std.specs.Prelude.{◌≡◌, ℕ, ◌≤◌, Bool, true, List, Option, None, IfSome, MatchOption, option_map}
use Rattle.s4_types.specs.Pointer.{Place}
use Rattle.block_log.specs.declared.kinds.BlockKind.TheVariants.{Journal}
use Rattle.block_log.specs.Log.{Stored, of_kind}
use Rattle.checkpoint.specs.Held.{of_checkpoints}
use Rattle.codec.specs.declared.inodes.Inode.{Inode}
use Rattle.codec.specs.Entry.{EntryFields}
use Rattle.codec.specs.Checkpoint.{checkpoint_rules}
use Rattle.object_map.specs.Rows.{fresh_row}
use Rattle.object_map.specs.declared.map.Row.{Row}
use Rattle.undo_redo.specs.Runs.{inode_after}
use Rattle.inode.specs.Contents.{meaning}
use Rattle.inode.specs.Tidiness.{Tidy}
use Rattle.time_read.specs.Rows.{IsRow, checkpoint_of, entries_of, first_of, inode_of}
use Rattle.time_read.specs.Orderly.{IsFromTo, IsOrderly, IsOrderlyChain, BeginsDead}
use Rattle.chain_rewriting.specs.Apart.{Passes, ToldWithin}
use Rattle.chain_rewriting.specs.Mapping.{mapped_entries, mapped_inode, KeepsContents}
use Rattle.row_changes.specs.Moving.{CanWrite, first_kept, inode_kept}

-- the row of an object that was just made is where no journal block and no block of a checkpoint of the object is held
abbrev pub AFreshRowStands : Type 0
AFreshRowStands = (held : Place → Option Stored) (o created : ℕ) → 1 ≤ o → ((p : Place) → of_kind Journal o held p ≡ None) → ((p : Place) → of_checkpoints o held p ≡ None)
    → IsRow held o (fresh_row created)

-- What an object's row tells can be written.
abbrev pub WhatARowTellsCanBeWritten : Type 0
WhatARowTellsCanBeWritten =
    (held : Place → Option Stored) (o : ℕ) (row : Row) → IsRow held o row → IfSome (checkpoint_of held o row) (λ c. checkpoint_rules c ≡ true)
    → CanWrite o row.created row.checkpoint_moment (inode_kept held o row) (entries_of held o row)

-- What can be written can be with its places mapped to others, by any map.
abbrev pub AMappedChainCanBeWritten : Type 0
AMappedChainCanBeWritten =
    (f : Place → Place) (o making moment : ℕ) (kept : Option Inode) (entries : List EntryFields)
    → CanWrite o making moment kept entries → CanWrite o making moment (option_map (mapped_inode f) kept) (mapped_entries f entries)

-- The inode before the entries is then the mapped one.
abbrev pub ItsFirstInodeIsMapped : Type 0
ItsFirstInodeIsMapped =
    (f : Place → Place) (o making moment : ℕ) (kept : Option Inode) (entries : List EntryFields)
    → first_kept o making moment (option_map (mapped_inode f) kept) (mapped_entries f entries) ≡ mapped_inode f (first_kept o making moment kept entries)

-- Where an object's row tells it, that is the row's first inode.
abbrev pub ARowBeginsWithWhatIsKept : Type 0
ARowBeginsWithWhatIsKept =
    (held : Place → Option Stored) (o : ℕ) (row : Row) → IsRow held o row
    → first_kept o row.created row.checkpoint_moment (inode_kept held o row) (entries_of held o row) ≡ first_of held o row

-- the inode in the checkpoint of an object's row, mapped, if the row has one
abbrev pub kept_mapped : (Place → Place) → (Place → Option Stored) → ℕ → Row → Option Inode
kept_mapped f held o row = option_map (mapped_inode f) (inode_kept held o row)

-- the entries of an object's row, mapped
abbrev pub told_mapped : (Place → Place) → (Place → Option Stored) → ℕ → Row → List EntryFields
told_mapped f held o row = mapped_entries f (entries_of held o row)

-- the inode before these
abbrev pub first_mapped : (Place → Place) → (Place → Option Stored) → ℕ → Row → Inode
first_mapped f held o row = first_kept o row.created row.checkpoint_moment (kept_mapped f held o row) (told_mapped f held o row)

-- What a row in order tells is in order when its places are mapped, as `write_row` asks.
abbrev pub AMappedRowIsInOrder : Type 0
AMappedRowIsInOrder =
    (f : Place → Place) (held : Place → Option Stored) (o : ℕ) (row : Row) (latest : ℕ) → IsRow held o row → IsOrderly held o row latest
    → IsOrderlyChain row.created latest (first_mapped f held o row) (told_mapped f held o row)
    × MatchOption (kept_mapped f held o row) (BeginsDead (told_mapped f held o row)) (λ i. IsFromTo row.created latest row.checkpoint_moment)

-- It shows at each moment what the row shows, over bytes that are as the old ones, each at its new place.
abbrev pub AMappedRowShowsTheSame : Type 0
AMappedRowShowsTheSame =
    (test : Place → Bool) (f : Place → Place) (held : Place → Option Stored) (o : ℕ) (row : Row) (contents others : Place → List ℕ) (t : ℕ)
    → IsRow held o row → KeepsContents (Passes test) f contents others → ToldWithin (Passes test) (first_of held o row) (entries_of held o row)
    → (meaning others (inode_after (first_mapped f held o row) (told_mapped f held o row) t) ≡ meaning contents (inode_of held o row t))
    × (Tidy contents (inode_of held o row t) → Tidy others (inode_after (first_mapped f held o row) (told_mapped f held o row) t))
