-- What the laws of the crates below say, as premises of lemmas. No public clause cites this file.
use Rattle.std.specs.Prelude.{◌≡◌, ℕ, ◌+◌, ◌<◌, ◌≤◌, true, List, length, map, sum, Option, Some, None, is_some, IsSome}
use Rattle.std.specs.List.{AllByRecursion}
use Rattle.codec.specs.Checkpoint.{pointer_at}
use Rattle.codec.specs.Entry.{EntryFields, entry_length, entries_length, pair_length}
use Rattle.codec.specs.declared.inodes.Inode.{Inode}
use Rattle.journal_chain.specs.Sizes.{blocks_needed}
use Rattle.undo_redo.specs.Between.{entries_between, triples_between, pair_between, AreOf}
use Rattle.undo_redo.specs.Sizes.{entry_sizes}
use Rattle.s4_types.specs.Pointer.{Place}
use Rattle.s4_types.specs.declared.limits.TheConstants.{OBJECT_BLOCKS, CHANGE_ENTRIES}
use Rattle.block_log.specs.Log.{Log, Stored, of_kind, same_place}
use Rattle.block_log.specs.Taken.{TakesPlaces}
use Rattle.block_log.specs.declared.kinds.BlockKind.TheVariants.{Journal}
use Rattle.undo_redo.specs.Runs.{Run, redone_all, inode_after, blank, moments_ascend_from, AllBy, AllAt}
use Rattle.undo_redo.specs.Groups.{grouped}
use Rattle.checkpoint.specs.Held.{checkpoint_held, checkpoint_blocks, HasItsBlocks, of_checkpoints}
use Rattle.inode.specs.Laws.{OnlyItsBlocksMatter, HeldPointersLead}
use Rattle.object_map.specs.declared.map.Row.{Row}
use Rattle.object_map.specs.Rows.{fresh_row}
use Rattle.time_read.specs.Rows.{IsRow, entries_of, inode_of, last_inode}
use Rattle.time_read.specs.Orderly.{IsOrderly}
use Rattle.row_changes.specs.Recent.{IsBy}

abbrev pub RowStays : Type 0
RowStays = (held later : Place → Option Stored) (o : ℕ) (row : Row)
    → of_kind Journal o later ≡ of_kind Journal o held → of_checkpoints o later ≡ of_checkpoints o held
    → IsRow held o row → IsRow later o row

abbrev pub RowInodeStays : Type 0
RowInodeStays = (held later : Place → Option Stored) (o t : ℕ) (row : Row)
    → of_kind Journal o later ≡ of_kind Journal o held → of_checkpoints o later ≡ of_checkpoints o held
    → inode_of later o row t ≡ inode_of held o row t

abbrev pub IsByLater : Type 0
IsByLater = (held : Place → Option Stored) (o : ℕ) (row : Row) (a b : ℕ) → a ≤ b → IsBy held o row a → IsBy held o row b

abbrev pub IsByStays : Type 0
IsByStays = (held later : Place → Option Stored) (o : ℕ) (row : Row) (t : ℕ) → of_kind Journal o later ≡ of_kind Journal o held → IsBy held o row t → IsBy later o row t

abbrev pub LastInodeStays : Type 0
LastInodeStays = (held : Place → Option Stored) (o : ℕ) (row : Row) (a t : ℕ) → IsBy held o row a → a ≤ t → inode_of held o row t ≡ inode_of held o row a

-- from the moment of its last entry on, an object's inode is the one after all entries
abbrev pub LastIsCurrent : Type 0
LastIsCurrent = (held : Place → Option Stored) (o t : ℕ) (row : Row) → AllBy t (entries_of held o row) → inode_of held o row t ≡ last_inode held o row

abbrev pub FreshRowStands : Type 0
FreshRowStands = (held : Place → Option Stored) (o created : ℕ) → 1 ≤ o → ((p : Place) → of_kind Journal o held p ≡ None) → ((p : Place) → of_checkpoints o held p ≡ None) → IsRow held o (fresh_row created)

abbrev pub FreshRowIsBy : Type 0
FreshRowIsBy = (held : Place → Option Stored) (o created : ℕ) → IsBy held o (fresh_row created) 0

abbrev pub FreshInode : Type 0
FreshInode = (held : Place → Option Stored) (o created t : ℕ) → inode_of held o (fresh_row created) t ≡ blank created

abbrev pub OnePlace : Type 0
OnePlace = (p q : Place) → same_place p q ≡ true → p ≡ q

abbrev pub PlacesAddUp : Type 0
PlacesAddUp = (n m : ℕ) (first second third : Log) → TakesPlaces n first second → TakesPlaces m second third → TakesPlaces (n + m) first third

abbrev pub BlankCount : Type 0
BlankCount = (created : ℕ) → length (blank created).pointers ≡ OBJECT_BLOCKS

abbrev pub BlankHoles : Type 0
BlankHoles = (created n : ℕ) → pointer_at (blank created) n ≡ None

abbrev pub EntriesHaveSizes : Type 0
EntriesHaveSizes = (i j : Inode) (m : ℕ) → map entry_length (entries_between i j m) ≡ entry_sizes (length (triples_between i j)) (pair_length (pair_between i.attribute j.attribute))

abbrev pub EntriesAreSome : Type 0
EntriesAreSome = (i j : Inode) (m : ℕ) → (1 ≤ length (entries_between i j m)) × (length (entries_between i j m) ≤ CHANGE_ENTRIES)

abbrev pub SizesAddUp : Type 0
SizesAddUp = (entries : List EntryFields) → sum (map entry_length entries) ≡ entries_length entries

abbrev pub SomeBlocksAreNeeded : Type 0
SomeBlocksAreNeeded = (filled : ℕ) (sizes : List ℕ) → 0 < length sizes → 0 < blocks_needed filled sizes

abbrev pub EntriesPoint : Type 0
EntriesPoint = (i j : Inode) (m : ℕ) → AllByRecursion (λ e. AreOf i j e.triples) (entries_between i j m)

abbrev pub EntriesAreAt : Type 0
EntriesAreAt = (i j : Inode) (m : ℕ) → AllAt m (entries_between i j m)

abbrev pub GroupsAscend : Type 0
GroupsAscend = (entries : List EntryFields) → grouped entries ≡ true → moments_ascend_from 0 entries ≡ true

abbrev pub RowsKeepTheMaking : Type 0
RowsKeepTheMaking = (held : Place → Option Stored) (o : ℕ) (row : Row) (t : ℕ) → IsRow held o row → (inode_of held o row t).created ≡ row.created

abbrev pub RunsEnd : Type 0
RunsEnd = (i j : Inode) (entries : List EntryFields) → Run i entries j → j ≡ redone_all entries i

abbrev pub AllIsDone : Type 0
AllIsDone = (i : Inode) (entries : List EntryFields) (t : ℕ) → AllBy t entries → inode_after i entries t ≡ redone_all entries i

-- Rows in order rest on their own blocks and not on their stamps, and stay in order.
pub record OrderlyStays : Type 0 where
  pub blocks : (held later : Place → Option Stored) (o latest : ℕ) (row : Row) → of_kind Journal o later ≡ of_kind Journal o held → of_checkpoints o later ≡ of_checkpoints o held → IsOrderly held o row latest → IsOrderly later o row latest
  pub stamp : (held : Place → Option Stored) (o latest n : ℕ) (row : Row) → IsOrderly held o row latest → IsOrderly held o (record row { stamp = n }) latest
  pub later : (held : Place → Option Stored) (o : ℕ) (row : Row) (a b : ℕ) → a ≤ b → IsOrderly held o row a → IsOrderly held o row b

abbrev pub CheckpointsHaveBlocks : Type 0
CheckpointsHaveBlocks = (held : Place → Option Stored) (o : ℕ) (p : Place) → IsSome (checkpoint_held held o p) → HasItsBlocks held o (Some p)

abbrev pub CheckpointsTakeBlocks : Type 0
CheckpointsTakeBlocks = (i : Inode) → 1 ≤ checkpoint_blocks i

abbrev pub HolesTellBlocks : Type 0
HolesTellBlocks = (i j : Inode) → map is_some i.pointers ≡ map is_some j.pointers → checkpoint_blocks i ≡ checkpoint_blocks j

-- All that a change or a checkpoint of a whole store rests on: rows and inodes rest on their own blocks, and stay from their last
-- entry on; a fresh row and a blank inode; the entries between two inodes, their sizes and the blocks that they need; the places
-- that two changes in turn take, and those of a checkpoint; and where a run ends.
pub record ChangesStand : Type 0 where
  pub row : RowStays
  pub inode : RowInodeStays
  pub journal : IsByStays
  pub later : IsByLater
  pub last : LastInodeStays
  pub making : RowsKeepTheMaking
  pub orderly : OrderlyStays
  pub meaning : OnlyItsBlocksMatter
  pub pointers_lead : HeldPointersLead
  pub one_place : OnePlace
  pub places_add_up : PlacesAddUp
  pub fresh_row : FreshRowStands
  pub fresh_latest : FreshRowIsBy
  pub fresh_inode : FreshInode
  pub blank_count : BlankCount
  pub blank_holes : BlankHoles
  pub entry_count : EntriesAreSome
  pub entry_sizes : EntriesHaveSizes
  pub entry_pointers : EntriesPoint
  pub entry_moments : EntriesAreAt
  pub sizes_add_up : SizesAddUp
  pub blocks_are_needed : SomeBlocksAreNeeded
  pub groups_ascend : GroupsAscend
  pub end : RunsEnd
  pub done : AllIsDone
  pub checkpoint_blocks : CheckpointsTakeBlocks
