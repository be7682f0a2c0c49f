-- What is read of a row in an image of a version, and when its chain, its version chain and its
-- object are in the image.
use Rattle.std.specs.Prelude.{◌≡◌, ℕ, ◌+◌, ◌<◌, ◌≤◌, ◌==◌, ◌&&◌, nat_lt, Bool, true, if◌then◌else◌, List, [], ◌∷◌, ◌++◌, length, Option, Some, IfSome, IsSome, unwrap_or}
use Rattle.std.specs.List.{All, AllByRecursion}
use Rattle.s4_types.specs.declared.limits.TheConstants.{JOURNAL_ENTRY_BYTES}
use Rattle.s4_types.specs.Pointer.{Place}
use Rattle.block_log.specs.Log.{Stored, of_kind}
use Rattle.block_log.specs.declared.kinds.BlockKind.TheVariants.{Journal}
use Rattle.codec.specs.Fields.{◌>>=◌, all_of, kept}
use Rattle.codec.specs.Entry.{EntryFields, entry_length_by, entries_length_by}
use Rattle.codec.specs.Journal.{JournalFields, journal_at_by}
use Rattle.codec.specs.Versions.{chain_blocks_by, chain_entry_bytes_by, change_entries_by}
use Rattle.codec.specs.Checkpoint.{CheckpointFields}
use Rattle.codec.specs.declared.inodes.Inode.{Inode}
use Rattle.codec.specs.declared.versions.ImageVersion.{ImageVersion}
use Rattle.codec.specs.declared.versions.ImageVersion.TheVariants.{First, Second}
use Rattle.codec.specs.declared.versions.TheConstants.{FIRST_OBJECT_BYTES}
use Rattle.undo_redo.specs.Groups.{continues}
use Rattle.undo_redo.specs.Runs.{Run, redone_all, inode_after}
use Rattle.inode.specs.Contents.{contents_of}
use Rattle.inode.specs.Tidiness.{Tidy}
use Rattle.version_store.specs.Store.{IsLed, pointers_kept, sides_told}
use Rattle.journal_chain.specs.Packing.{joined}
use Rattle.journal_chain.specs.Chain.{Link, links_from, blocks_of}
use Rattle.time_read.specs.Orderly.{IsFromTo, IsOrderlyChain}
use Rattle.image_objects.specs.declared.rows.ImageRow.{ImageRow}
use Rattle.image_objects.specs.Inodes.{BeginningStands, checkpoint_used, first_before}
use Rattle.image_objects.specs.Moments.{moments_of, ChainsShareNoMoment}

-- the fields that bytes encode in an image of a version, if they are a journal block of the object
unfoldable pub journal_of_by : ImageVersion → ℕ → List ℕ → Option JournalFields
journal_of_by version o bytes = all_of (journal_at_by version) bytes >>= λ j. kept (j.object == o) j

-- the fields that the object's used journal block at a place encodes, if there is one
abbrev pub journal_used_by : ImageVersion → (Place → Option Stored) → ℕ → Place → Option JournalFields
journal_used_by version used o p = of_kind Journal o used p >>= journal_of_by version o

-- the journal blocks of a row's chain, newest first: none where no chain is found from the head on
abbrev pub links_used_by : ImageVersion → (Place → Option Stored) → ImageRow → Option (List Link)
links_used_by version used row = links_from (chain_blocks_by version) (journal_used_by version used row.object) row.head

-- the entries of each block of a row's chain, the newest block first
abbrev pub blocks_used_by : ImageVersion → (Place → Option Stored) → ImageRow → List (List EntryFields)
blocks_used_by version used row = unwrap_or (links_used_by version used row >>= λ links. Some (blocks_of links)) []

-- the entries of a row's chain, the oldest first
abbrev pub entries_used_by : ImageVersion → (Place → Option Stored) → ImageRow → List EntryFields
entries_used_by version used row = unwrap_or (links_used_by version used row >>= λ links. Some (joined (blocks_of links))) []

-- ---- packing

-- the bytes of a block's first entry
abbrev pub first_length_by : ImageVersion → List EntryFields → ℕ
first_length_by version [] = 0
first_length_by version (e ∷ entries) = entry_length_by version e

-- a block has entries, and no more than fit
pub record IsBlockBy (version : ImageVersion) (entries : List EntryFields) : Type 0 where
  pub some : 0 < length entries
  pub few : entries_length_by version entries ≤ JOURNAL_ENTRY_BYTES

-- the first entry of a block doesn't fit after the entries of the block before, if there is one
abbrev pub IsBehindBy : ImageVersion → List (List EntryFields) → List EntryFields → Type 0
IsBehindBy version [] block = Unit {0}
IsBehindBy version (previous ∷ older) block = JOURNAL_ENTRY_BYTES < entries_length_by version previous + first_length_by version block

-- the rule of packing, which every chain keeps
abbrev pub KeepsTheRuleBy : ImageVersion → List (List EntryFields) → Type 0
KeepsTheRuleBy version [] = Unit {0}
KeepsTheRuleBy version (newest ∷ older) = IsBlockBy version newest × IsBehindBy version older newest × KeepsTheRuleBy version older

-- ---- groups

-- The entries after this one, which is the count-th of its moment: each is of a later moment, or it
-- is one of as many at most as a change may have, and continues the one before it.
abbrev pub grouped_behind_by : ImageVersion → ℕ → EntryFields → List EntryFields → Bool
grouped_behind_by version count e [] = true
grouped_behind_by version count e (f ∷ entries) =
    if e.moment == f.moment then (nat_lt count (change_entries_by version) && continues e f) && grouped_behind_by version (count + 1) f entries else nat_lt e.moment f.moment && grouped_behind_by version 1 f entries

-- Moments don't descend, and entries of one moment are one change's.
abbrev pub grouped_by : ImageVersion → List EntryFields → Bool
grouped_by version [] = true
grouped_by version (e ∷ entries) = grouped_behind_by version 1 e entries

-- ---- the chain

-- A row's chain is in an image of a version up to the image's clock. From the head on each pointer
-- names a used journal block of the object that encodes one, up to a hole that comes after at most
-- as many blocks as a chain may have. The blocks keep the rule of packing, and their entries have
-- no more bytes than a chain's may. Each entry is of a moment from the object's making to the
-- clock. Moments don't descend, and entries of one moment are one change's.
pub record ChainStandsBy (version : ImageVersion) (used : Place → Option Stored) (row : ImageRow) (clock : ℕ) : Type 0 where
  pub walk : IsSome (links_used_by version used row)
  pub packing : KeepsTheRuleBy version (blocks_used_by version used row)
  pub limit : entries_length_by version (entries_used_by version used row) ≤ chain_entry_bytes_by version
  pub moments : AllByRecursion (λ e. IsFromTo row.created clock e.moment) (entries_used_by version used row)
  pub groups : grouped_by version (entries_used_by version used row) ≡ true

-- ---- the version chain

-- A checkpoint, where there is one, is of an object that an image of the version may have.
abbrev pub IsCheckpointOf : ImageVersion → Option CheckpointFields → Type 0
IsCheckpointOf First found = IfSome found (λ c. c.inode.size ≤ FIRST_OBJECT_BYTES)
IsCheckpointOf Second found = Unit {0}

-- A row's beginning is in an image of a version, before these entries. In an image of the first
-- version no block is used for more pointers of a checkpoint, so that the first block of each has
-- all of them.
abbrev pub BeginningStandsBy : ImageVersion → (Place → Option Stored) → ImageRow → ℕ → List EntryFields → Type 0
BeginningStandsBy version used row clock entries = BeginningStands used row clock entries × IsCheckpointOf version (checkpoint_used used row)

-- the inode before the first entry of a row's chain
abbrev pub first_used_by : ImageVersion → (Place → Option Stored) → ImageRow → Inode
first_used_by version used row = first_before used row (entries_used_by version used row)

-- the inode after all entries of a row's chain: the present one
abbrev pub present_used_by : ImageVersion → (Place → Option Stored) → ImageRow → Inode
present_used_by version used row = redone_all (entries_used_by version used row) (first_used_by version used row)

-- A row's version chain is in an image of a version up to the image's clock. The chain is by
-- itself. The row's checkpoint is there, or the entries show the making. Each entry continues from
-- the inode that the entry before it refers to. Of these inodes one is live, a dead one is the
-- first or the last, the first is blank where it is dead, and the last change of each live one is
-- from the making to the clock.
pub record VersionChainStandsBy (version : ImageVersion) (used : Place → Option Stored) (row : ImageRow) (clock : ℕ) : Type 0 where
  pub chain : ChainStandsBy version used row clock
  pub beginning : BeginningStandsBy version used row clock (entries_used_by version used row)
  pub run : Run (first_used_by version used row) (entries_used_by version used row) (present_used_by version used row)
  pub order : IsOrderlyChain row.created clock (first_used_by version used row) (entries_used_by version used row)

-- ---- the object

-- All pointers to data that a row refers to, holes among them: those of its checkpoint, and after
-- them both sides of each triple of its chain, the oldest entry first.
abbrev pub pointers_used_by : ImageVersion → (Place → Option Stored) → ImageRow → List (Option Place)
pointers_used_by version used row = pointers_kept (checkpoint_used used row) ++ sides_told (entries_used_by version used row)

-- the inode of a row that is current at a moment
abbrev pub inode_used_by : ImageVersion → (Place → Option Stored) → ImageRow → ℕ → Inode
inode_used_by version used row t = inode_after (first_used_by version used row) (entries_used_by version used row) t

-- An object is in an image of a version up to the image's clock. Its version chain is; each pointer
-- that its row refers to is a hole or refers to a used data block of the object; and at each moment
-- its inode is tidy.
pub record ObjectStandsBy (version : ImageVersion) (used : Place → Option Stored) (row : ImageRow) (clock : ℕ) : Type 0 where
  pub versions : VersionChainStandsBy version used row clock
  pub led : All (IsLed used row.object) (pointers_used_by version used row)
  pub tidy : (t : ℕ) → Tidy (contents_of used) (inode_used_by version used row t)

-- ---- the rows

-- no moment is in the chains of two of these rows
abbrev pub RowsShareNoMomentBy : ImageVersion → (Place → Option Stored) → List ImageRow → Type 0
RowsShareNoMomentBy version used rows = ChainsShareNoMoment (entries_used_by version used) rows

-- All rows are in an image of a version up to its clock: each object is, and no moment is in the chains of two.
pub record RowsStandBy (version : ImageVersion) (used : Place → Option Stored) (rows : List ImageRow) (clock : ℕ) : Type 0 where
  pub objects : AllByRecursion (λ row. ObjectStandsBy version used row clock) rows
  pub apart : RowsShareNoMomentBy version used rows

-- the moments of the chains of rows, those of the first row first, and of each chain once
abbrev pub moments_used_by : ImageVersion → (Place → Option Stored) → List ImageRow → List ℕ
moments_used_by version used rows = moments_of (entries_used_by version used) rows
