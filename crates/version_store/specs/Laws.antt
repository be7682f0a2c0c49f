-- What the definitions come to: each of these holds of all stores, and is the contract of a function with an empty body.
use Rattle.std.specs.Prelude.{◌≡◌, ℕ, ◌≤◌, ◌↔◌, true, length, Option, Some, None, IsSome}
use Rattle.s4_types.specs.Pointer.{Place}
use Rattle.s4_types.specs.declared.limits.TheConstants.{ROW_POINTERS, SIDES}
use Rattle.block_log.specs.declared.kinds.BlockKind.{BlockKind}
use Rattle.block_log.specs.declared.kinds.BlockKind.TheVariants.{Data}
use Rattle.codec.specs.Checkpoint.{pointer_at}
use Rattle.block_log.specs.Log.{Stored, of_kind}
use Rattle.checkpoint.specs.Held.{is_one_of, of_checkpoints}
use Rattle.codec.specs.declared.inodes.Inode.{Inode}
use Rattle.undo_redo.specs.Runs.{blank}
use Rattle.inode.specs.Contents.{contents_of, meaning}
use Rattle.object_map.specs.declared.map.Row.{Row}
use Rattle.object_map.specs.Rows.{row_of}
use Rattle.time_read.specs.Rows.{all_places_of, inode_of}
use Rattle.version_store.specs.Store.{StoreFields, IsStore, IsObject, IsNamed, pointers_named}
use Rattle.version_store.specs.Versions.{Stays, inode_in, version_in}
use Rattle.version_store.specs.Costs.{subject_inode}
use Rattle.version_store.specs.Taking.{IsThere}

-- an object stays held where its blocks do
abbrev pub ObjectsStay : Type 0
ObjectsStay = (held later : Place → Option Stored) (o : ℕ) (row : Row) (latest : ℕ) → Stays o held later → IsObject held o row latest → IsObject later o row latest

-- and its inode and its meaning at each moment are as they were
abbrev pub InodesStay : Type 0
InodesStay = (held later : Place → Option Stored) (o : ℕ) (row : Row) (latest t : ℕ) → Stays o held later → IsObject held o row latest
    → (inode_of later o row t ≡ inode_of held o row t) × (meaning (contents_of later) (inode_of later o row t) ≡ meaning (contents_of held) (inode_of held o row t))

-- so an object's version is the same in two stores that have the same row for it, where its blocks stay
abbrev pub VersionsStay : Type 0
VersionsStay = (s later : StoreFields) (o t : ℕ) → IsStore s → row_of later.rows o ≡ row_of s.rows o → Stays o s.log.held later.log.held
    → (inode_in later o t ≡ inode_in s o t) × (version_in later o t ≡ version_in s o t)

-- an object that has no inode at one moment has none at any
abbrev pub AnInodeAtAllMomentsOrNone : Type 0
AnInodeAtAllMomentsOrNone = (s : StoreFields) (o t u : ℕ) → inode_in s o t ≡ None → inode_in s o u ≡ None

-- from the last change on nothing changes
abbrev pub ThePresentStays : Type 0
ThePresentStays = (s : StoreFields) (o t : ℕ) → IsStore s → s.latest ≤ t → (inode_in s o t ≡ inode_in s o s.latest) × (version_in s o t ≡ version_in s o s.latest)

-- A change begins with the present inode where the object has a row, and else with the blank one.
abbrev pub ChangesBeginWithThePresent : Type 0
ChangesBeginWithThePresent = (s : StoreFields) (o m : ℕ)
    → ((i : Inode) → inode_in s o s.latest ≡ Some i → subject_inode s o m ≡ i) × (row_of s.rows o ≡ None → subject_inode s o m ≡ blank m)

-- The inode that a change begins with represents the present version of its object.
abbrev pub ChangesBeginWithThePresentVersion : Type 0
ChangesBeginWithThePresentVersion = (s : StoreFields) (o m : ℕ) → meaning (contents_of s.log.held) (subject_inode s o m) ≡ version_in s o s.latest

-- So an object is there exactly where that inode is alive.
abbrev pub TheAliveAreThere : Type 0
TheAliveAreThere = (s : StoreFields) (o m : ℕ) → IsThere s o ↔ ((subject_inode s o m).alive ≡ true)

-- An object's block of each kind is held at a place exactly where the object has a row that names it.
abbrev pub HeldIsWhatRowsName : Type 0
HeldIsWhatRowsName = (s : StoreFields) (o : ℕ) (kind : BlockKind) (p : Place) → IsStore s → IsSome (of_kind kind o s.log.held p) ↔ IsNamed s o kind p

-- So each block that is held, whatever it is, is one that a row names.
abbrev pub EachHeldBlockIsNamed : Type 0
EachHeldBlockIsNamed = (s : StoreFields) (p : Place) (block : Stored) → IsStore s → s.log.held p ≡ Some block → IsNamed s block.object block.kind p

-- Each block of a checkpoint that an object's row names is held as one of the object's checkpoints.
abbrev pub CheckpointsOfRowsAreHeld : Type 0
CheckpointsOfRowsAreHeld = (s : StoreFields) (o : ℕ) (row : Row) (p : Place) → IsStore s → row_of s.rows o ≡ Some row → is_one_of (all_places_of s.log.held o row) p ≡ true
    → IsSome (of_checkpoints o s.log.held p)

-- Each place that an inode of an object points to, at whatever moment, is one that the object's row names.
abbrev pub InodesPointToWhatRowsName : Type 0
InodesPointToWhatRowsName = (s : StoreFields) (o t n : ℕ) (i : Inode) (p : Place) → inode_in s o t ≡ Some i → pointer_at i n ≡ Some p → IsNamed s o Data p

-- A row has this many pointers at most: OBJECT_BLOCKS in each of its checkpoints, of which it has SIDES and one more, and fewer in its
-- journal than its entries have bytes, CHAIN_ENTRY_BYTES at most.
abbrev pub RowsHaveFewPointers : Type 0
RowsHaveFewPointers = (held : Place → Option Stored) (o : ℕ) (row : Row) (latest : ℕ) → IsObject held o row latest → length row.sides ≤ SIDES → length (pointers_named held o row) ≤ ROW_POINTERS

-- no place has more names than a row has pointers at most
abbrev pub PlacesHaveFewNames : Type 0
PlacesHaveFewNames = (s : StoreFields) (p : Place) → IsStore s → s.log.named p ≤ ROW_POINTERS
