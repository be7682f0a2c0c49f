-- What the definitions come to where all rows of an image stand and just what they name is held.
use Rattle.std.specs.Prelude.{◌≡◌, ℕ, Option, Some}
use Rattle.std.specs.List.{Contains}
use Rattle.s4_types.specs.Pointer.{Place}
use Rattle.block_log.specs.Log.{Stored}
use Rattle.codec.specs.Checkpoint.{pointer_at}
use Rattle.inode.specs.Contents.{contents_of, meaning}
use Rattle.time_read.specs.Rows.{IsRow, entries_of, first_of, inode_of}
use Rattle.time_read.specs.Orderly.{IsOrderly}
use Rattle.version_store.specs.Store.{IsObject, DataIsNamed}
use Rattle.image_objects.specs.declared.rows.ImageRow.{ImageRow}
use Rattle.image_objects.specs.Chains.{entries_used}
use Rattle.image_objects.specs.Inodes.{first_used}
use Rattle.image_objects.specs.VersionChain.{kept_row, present_used}
use Rattle.image_objects.specs.Objects.{pointers_used, inode_used}

-- An object is held as it is in the image, under the row that a drive keeps of it with this stamp. It has the entries, the
-- first inode and at each moment the inode and the version that it has in the image, and at the clock the present inode. Its row
-- stands, is in order up to the clock, and leads to all of its data that is held.
pub record IsHeldAsUsed (used held : Place → Option Stored) (row : ImageRow) (clock stamp : ℕ) : Type 0 where
  pub entries : entries_of held row.object (kept_row used row stamp) ≡ entries_used used row
  pub first : first_of held row.object (kept_row used row stamp) ≡ first_used used row
  pub inodes : (t : ℕ) → inode_of held row.object (kept_row used row stamp) t ≡ inode_used used row t
  pub versions : (t : ℕ) → meaning (contents_of held) (inode_of held row.object (kept_row used row stamp) t) ≡ meaning (contents_of used) (inode_used used row t)
  pub present : inode_of held row.object (kept_row used row stamp) clock ≡ present_used used row
  pub stands : IsRow held row.object (kept_row used row stamp)
  pub orderly : IsOrderly held row.object (kept_row used row stamp) clock
  pub object : IsObject held row.object (kept_row used row stamp) clock
  pub named : DataIsNamed held row.object (kept_row used row stamp)

-- each data block that an inode of a row points to, at whatever moment, is one that the row refers to
abbrev pub InodesUsedPointToWhatRowsLeadTo : Type 0
InodesUsedPointToWhatRowsLeadTo = (used : Place → Option Stored) (row : ImageRow) (t n : ℕ) (p : Place) → pointer_at (inode_used used row t) n ≡ Some p → Contains (pointers_used used row) (Some p)
