-- What a row's stamp tells of the blocks of its object.
use Rattle.std.specs.Prelude.{◌≡◌, ℕ, ◌≤◌, List, Option, Some}
use Rattle.s4_types.specs.Pointer.{Place}
use Rattle.block_log.specs.declared.kinds.BlockKind.{BlockKind}
use Rattle.block_log.specs.Log.{Stored, of_kind}
use Rattle.object_map.specs.declared.map.Row.{Row}
use Rattle.object_map.specs.Rows.{row_of}
use Rattle.version_store.specs.Store.{StoreFields}
use Rattle.version_store.specs.Taking.{RowChanges, Appends}
use Rattle.version_store.specs.Checkpointing.{IsCheckpointed}
use Rattle.version_store.specs.Replacing.{IsRemoved, IsReplaced}
use Rattle.version_store.specs.Relocating.{IsRelocated}
use Rattle.codec.specs.declared.inodes.Inode.{Inode}
use Rattle.codec.specs.Entry.{EntryFields}
use Rattle.version_store.specs.declared.copies.CopiedBlock.{CopiedBlock}

-- the blocks of an object are as they were
abbrev pub HoldsTheSame : ℕ → (Place → Option Stored) → (Place → Option Stored) → Type 0
HoldsTheSame o held later = (kind : BlockKind) → of_kind kind o later ≡ of_kind kind o held

-- From a store to a later one: of an object that has a row in both the stamp is no lower than it was, and where it is the same,
-- the object's blocks are as they were.
pub record StampsTell (s later : StoreFields) : Type 0 where
  pub rise : (o : ℕ) (row next : Row) → row_of s.rows o ≡ Some row → row_of later.rows o ≡ Some next → row.stamp ≤ next.stamp
  pub same : (o : ℕ) (row next : Row) → row_of s.rows o ≡ Some row → row_of later.rows o ≡ Some next → next.stamp ≡ row.stamp → HoldsTheSame o s.log.held later.log.held

-- So it is over each step of a store: a change of an object, its checkpoint, its removal, another journal for it, and its
-- relocation.
pub record EachStepTells : Type 0 where
  pub changed : (s later : StoreFields) (o m count : ℕ) (blocks : List (List ℕ)) → RowChanges s o m later.rows → Appends o blocks count s.log later.log → StampsTell s later
  pub checkpointed : (s later : StoreFields) (o : ℕ) (row : Row) → row_of s.rows o ≡ Some row → IsCheckpointed s o row later → StampsTell s later
  pub removed : (s later : StoreFields) (o : ℕ) → IsRemoved s o later → StampsTell s later
  pub replaced : (s later : StoreFields) (o : ℕ) (row : Row) (present : Inode) (entries : List EntryFields) → row_of s.rows o ≡ Some row → IsReplaced s o row present entries later → StampsTell s later
  pub relocated : (s later : StoreFields) (o : ℕ) (row : Row) (copies : List CopiedBlock) → row_of s.rows o ≡ Some row → IsRelocated s o row copies later → StampsTell s later
  pub kept : (s later : StoreFields) → later.rows ≡ s.rows → later.log.held ≡ s.log.held → StampsTell s later
