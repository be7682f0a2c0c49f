-- What is read of a row's version chain.
use Rattle.std.specs.Prelude.{◌≡◌, ◌≤◌, length, Option}
use Rattle.s4_types.specs.declared.limits.TheConstants.{OBJECT_BLOCKS, CHAIN_ENTRY_BYTES}
use Rattle.s4_types.specs.Pointer.{Place}
use Rattle.block_log.specs.Log.{Stored}
use Rattle.codec.specs.Entry.{entries_length, entries_length_by}
use Rattle.codec.specs.declared.versions.ImageVersion.{ImageVersion}
use Rattle.journal_chain.specs.Packing.{packed, filled_bytes}
use Rattle.image_objects.specs.declared.rows.ImageRow.{ImageRow}
use Rattle.image_objects.specs.declared.version_chains.VersionChain.{VersionChain}
use Rattle.image_objects.specs.declared.version_chains.VersionsRead.{VersionsRead}
use Rattle.image_objects.specs.Chains.{entries_used}
use Rattle.image_objects.specs.Inodes.{first_used}
use Rattle.image_objects.specs.VersionChain.{present_used}
use Rattle.image_objects.specs.Versions.{entries_used_by, first_used_by, present_used_by}

-- These are a row's entries in an image of a version, with their bytes, the inode before them and the one after them.
pub record IsReadBy (version : ImageVersion) (used : Place → Option Stored) (row : ImageRow) (versions : VersionsRead) : Type 0 where
  pub entries : versions.chain.entries.items ≡ entries_used_by version used row
  pub bytes : versions.chain.bytes ≡ entries_length_by version (entries_used_by version used row)
  pub most : versions.chain.bytes ≤ CHAIN_ENTRY_BYTES
  pub first : versions.first ≡ first_used_by version used row
  pub count : length versions.first.pointers ≡ OBJECT_BLOCKS
  pub present : versions.present ≡ present_used_by version used row

-- These are a row's entries in an image of the present version, with their bytes and those in the newest block, the inode before
-- them and the one after them.
pub record IsRead (used : Place → Option Stored) (row : ImageRow) (versions : VersionChain) : Type 0 where
  pub entries : versions.chain.entries.items ≡ entries_used used row
  pub bytes : versions.chain.journal_bytes ≡ entries_length (entries_used used row)
  pub head : versions.chain.head_bytes ≡ filled_bytes (packed (entries_used used row))
  pub first : versions.first ≡ first_used used row
  pub count : length versions.first.pointers ≡ OBJECT_BLOCKS
  pub present : versions.present ≡ present_used used row
