-- What an object of an image of a version is for a drive that writes it anew.
use Rattle.std.specs.Prelude.{◌≡◌, ℕ, Bool, Option, is_some, option_map, MatchOption}
use Rattle.s4_types.specs.Pointer.{Place}
use Rattle.block_log.specs.Log.{Stored, of_kind}
use Rattle.block_log.specs.declared.kinds.BlockKind.TheVariants.{Data}
use Rattle.codec.specs.declared.inodes.Inode.{Inode}
use Rattle.codec.specs.declared.versions.ImageVersion.{ImageVersion}
use Rattle.time_read.specs.Orderly.{IsFromTo, IsOrderlyChain, BeginsDead}
use Rattle.chain_rewriting.specs.Apart.{Passes, ToldWithin}
use Rattle.row_changes.specs.Moving.{CanWrite, first_kept}
use Rattle.image_objects.specs.declared.rows.ImageRow.{ImageRow}
use Rattle.image_objects.specs.Inodes.{checkpoint_used}
use Rattle.image_objects.specs.Versions.{entries_used_by, first_used_by, ObjectStandsBy}

-- the inode in the checkpoint that a row names, if there is one
abbrev pub inode_kept_in : (Place → Option Stored) → ImageRow → Option Inode
inode_kept_in used row = option_map (λ c. c.inode) (checkpoint_used used row)

-- whether a data block of an object is used at a place
abbrev pub is_data_of : (Place → Option Stored) → ℕ → Place → Bool
is_data_of used o p = is_some (of_kind Data o used p)

-- An object can be written as its row's: its entries with the inode of its checkpoint, if it has
-- one. The inode before the entries is then the row's own first inode, and with this the entries
-- are in order up to the clock. Each pointer of that inode and of the entries is a hole, or refers
-- to a used data block of the object.
pub record CanBeWritten (version : ImageVersion) (used : Place → Option Stored) (row : ImageRow) (clock : ℕ) : Type 0 where
  pub can : CanWrite row.object row.created row.checkpoint_moment (inode_kept_in used row) (entries_used_by version used row)
  pub first : first_kept row.object row.created row.checkpoint_moment (inode_kept_in used row) (entries_used_by version used row) ≡ first_used_by version used row
  pub order : IsOrderlyChain row.created clock (first_used_by version used row) (entries_used_by version used row)
  pub beginning : MatchOption (inode_kept_in used row) (BeginsDead (entries_used_by version used row)) (λ i. IsFromTo row.created clock row.checkpoint_moment)
  pub told : ToldWithin (Passes (is_data_of used row.object)) (first_used_by version used row) (entries_used_by version used row)

-- An object that is in an image, of whichever version, can be written.
abbrev pub AnObjectOfAVersionCanBeWritten : Type 0
AnObjectOfAVersionCanBeWritten =
    (version : ImageVersion) (used : Place → Option Stored) (row : ImageRow) (clock : ℕ) → ObjectStandsBy version used row clock → CanBeWritten version used row clock
